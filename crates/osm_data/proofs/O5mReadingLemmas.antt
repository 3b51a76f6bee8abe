-- How far a file was read, and why it isn't read on.
use Rattle.std.proofs.Common.{◌≡◌, ℕ, ◌+◌, ◌-◌, ◌≤◌, List, [], ◌++◌, length, drop, Option, Some, None}
use Rattle.std.proofs.Common.{refl, sym, ap, subst, ◌∙◌, append_assoc, arith}
use Rattle.std.proofs.lemmas.List.{append-nil, length-append, drop_at}
use Rattle.osm_model.specs.Change.{ChangeValue}
use Rattle.osm_model.specs.Data.{IsData}
use Rattle.osm_model.specs.declared.kind.Key.{Key}
use Rattle.osm_o5c.specs.File.{DataFaultPlace, data_beginning}
use Rattle.osm_o5c.specs.Datasets.{Position, Stops, position, step}
use Rattle.osm_o5c.specs.declared.reader.Reader.{Reader}
use Rattle.osm_model.proofs.FileLimitLemmas.{data_limits}
use Rattle.osm_o5c.proofs.FrontLemmas.{IsReached, front_right, reached_first, reached_more}
use Rattle.osm_o5c.proofs.PlaceLemmas.{exit_bad}
use Rattle.osm_data.specs.declared.extents.Extent.TheVariants.{Whole}
use Rattle.osm_data.specs.declared.o5m_held.Held.{Held}
use Rattle.osm_data.specs.Steps.Extents.{extent_at}
use Rattle.osm_data.specs.Sinks.{AreNext}
use Rattle.osm_data.specs.Steps.O5mPassing.{IsPassed}
use Rattle.osm_data.specs.Steps.O5mReading.{HasReadTo, IsPart, Reaches, begins, goes_on, last_after, reader_in}
use Rattle.osm_data.proofs.ExtentLemmas.{EndsWith, step_back, step_on, step_passes, whole_first}
use Rattle.osm_data.proofs.PartLemmas.{joined, last_both, parted}

-- in the words of valid prefixes
pub reached : (file : List ℕ) (p : Position) → Reaches file p → IsReached data_beginning IsData file p
reached file _ (begins rest e) = reached_first data_beginning IsData file rest e
reached file _ (goes_on p q r e right) = reached_more data_beginning IsData file p q (reached file p r) e right

pub reached_right : (file : List ℕ) (p : Position) → Reaches file p → IsData p.changes
reached_right file p r =
    let s : IsReached data_beginning IsData file p = reached file p r in
    front_right data_beginning IsData data_limits s.prefix s.context p.changes s.is_front

-- what is left is no longer than the file
pub left_short : (file : List ℕ) (p : Position) → Reaches file p → length p.rest ≤ length file
left_short file p r =
    let s : IsReached data_beginning IsData file p = reached file p r in
    omega (arith, ap length s.whole, length-append s.prefix p.rest)

-- ---- the datasets of a block

-- of every file of which the bytes are what is read next, the reader has come to those objects, and that is left
abbrev pub ComesTo : Held → List ℕ → Reader → List ChangeValue → List ℕ → Type 0
ComesTo held bytes reader objects rest = (file : List ℕ) (done : List ChangeValue) (more : List ℕ) → HasReadTo file done held (bytes ++ more)
    → Reaches file (position reader (done ++ objects) (rest ++ more))

-- of a block, datasets were passed one by one up to that rest, and their objects were taken
pub record Stands {K : Type 0} (takes : K → List ChangeValue → K → Type 0) (held : Held) (bytes : List ℕ) (first : K) (reader : Reader)
    (last : Option Key) (sink : K) (rest : List ℕ) : Type 0 where
  pub objects : List ChangeValue
  pub key : last ≡ last_after held.last objects
  pub taken : takes first objects sink
  pub ends : EndsWith bytes rest
  pub comes : ComesTo held bytes reader objects rest

ends_on : (bytes rest after : List ℕ) → EndsWith bytes rest → EndsWith rest after → EndsWith bytes after
ends_on bytes rest after a b = record {
  prefix = a.prefix ++ b.prefix;
  parts = a.parts ∙ ap (λ (l : List ℕ). a.prefix ++ l) b.parts ∙ sym (append_assoc a.prefix b.prefix after);
}

-- the rest of the bytes, by its size
pub rest_is : (bytes rest : List ℕ) → EndsWith bytes rest → rest ≡ drop (length bytes - length rest) bytes
rest_is bytes rest ends =
    let size : length bytes - length rest ≡ length ends.prefix = omega (arith, ap length ends.parts, length-append ends.prefix rest) in
    rw size (sym (ap (drop (length ends.prefix)) ends.parts ∙ drop_at ends.prefix rest (length ends.prefix) refl))

pub rest_short : (bytes rest : List ℕ) → EndsWith bytes rest → length rest ≤ length bytes
rest_short bytes rest ends = omega (arith, ap length ends.parts, length-append ends.prefix rest)

module _ {K : Type 0} (takes : K → List ChangeValue → K → Type 0) (held : Held) (bytes : List ℕ) where
  pub stands_first : (reader : Reader) (last : Option Key) (sink : K) → reader ≡ reader_in held → last ≡ held.last → takes sink [] sink
      → Stands takes held bytes sink reader last sink bytes
  stands_first reader last sink same key none = record {
    objects = [];
    key = key;
    taken = none;
    ends = record { prefix = []; parts = refl };
    comes = λ file done more has. rw (same, append-nil done) has.reached;
  }

  module _ (first : K) (r : Reader) (last : Option Key) (sink : K) (rest : List ℕ) (stands : Stands takes held bytes first r last sink rest)
      (whole : extent_at rest ≡ Whole) where
    -- the key of the last object in the file so far
    last_there : (file : List ℕ) (done : List ChangeValue) (more : List ℕ) → HasReadTo file done held (bytes ++ more)
        → last ≡ last_after None (done ++ stands.objects)
    last_there file done more has = stands.key ∙ ap (λ (k : Option Key). last_after k stands.objects) has.last
        ∙ sym (last_both None done stands.objects)

    -- a dataset that is read alone is read after others too
    step_there : (done : List ChangeValue) (more : List ℕ) (q : Position) → step (position r [] rest) ≡ Some q
        → step (position r (done ++ stands.objects) (rest ++ more)) ≡ Some (position q.reader ((done ++ stands.objects) ++ q.changes) (q.rest ++ more))
    step_there done more q e =
        subst (λ (l : List ChangeValue). step (position r l (rest ++ more)) ≡ Some (position q.reader ((done ++ stands.objects) ++ q.changes) (q.rest ++ more)))
        (append-nil (done ++ stands.objects)) (step_on r (done ++ stands.objects) [] rest more q whole e)

    pub stands_on : (s : Reader) (next : Option Key) (after_sink : K) (after : List ℕ)
        → ((xs ys : List ChangeValue) → takes first xs sink → takes sink ys after_sink → takes first (xs ++ ys) after_sink)
        → IsPassed takes r last sink rest s next after_sink after
        → Stands takes held bytes first s next after_sink after
    stands_on s next after_sink after more_taken p = record {
      objects = stands.objects ++ p.objects;
      key = p.key ∙ ap (λ (k : Option Key). last_after k p.objects) stands.key ∙ sym (last_both held.last stands.objects p.objects);
      taken = more_taken stands.objects p.objects stands.taken p.taken;
      ends = ends_on bytes rest after stands.ends (step_passes (position r [] rest) (position s p.objects after) p.read).ends;
      comes = λ file done more has.
          (let there : Reaches file (position r (done ++ stands.objects) (rest ++ more)) = stands.comes file done more has in
          let part : IsPart (last_after None (done ++ stands.objects)) p.objects =
          subst (λ (k : Option Key). IsPart k p.objects) (last_there file done more has) p.part in
          subst (λ (l : List ChangeValue). Reaches file (position s l (after ++ more))) (append_assoc done stands.objects p.objects)
          (goes_on (position r (done ++ stands.objects) (rest ++ more)) (position s ((done ++ stands.objects) ++ p.objects) (after ++ more)) there
          (step_there done more (position s p.objects after) p.read)
          (joined (done ++ stands.objects) p.objects (reached_right file (position r (done ++ stands.objects) (rest ++ more)) there) part)));
    }

    -- the place where an object can't come next
    pub stops_there : Stops (IsPart last) (step (position r [] rest)) → (file : List ℕ) (done : List ChangeValue) (more : List ℕ)
        → HasReadTo file done held (bytes ++ more)
        → DataFaultPlace file (length file - length (bytes ++ more) + (length bytes - length rest))
    stops_there stuck file done more has =
        let before : List ChangeValue = done ++ stands.objects in
        let there : Reaches file (position r before (rest ++ more)) = stands.comes file done more has in
        let stops : Stops IsData (step (position r before (rest ++ more))) = λ q e right.
        let again : step (position r (before ++ []) (rest ++ more)) ≡ Some q =
        subst (λ (l : List ChangeValue). step (position r l (rest ++ more)) ≡ Some q) (sym (append-nil before)) e in
        let c = step_back r before [] rest more q whole again in
        let changes : before ++ c.here.changes ≡ q.changes = ap (λ (p : Position). p.changes) c.same in
        stuck c.here c.is (subst (λ (k : Option Key). IsPart k c.here.changes) (sym (last_there file done more has))
        (parted before c.here.changes (subst (λ (l : List ChangeValue). IsData l) (sym changes) right))) in
        let bad = exit_bad data_beginning IsData file (position r before (rest ++ more)) (reached file (position r before (rest ++ more)) there)
        stops (whole_first rest more whole) in
        let few : length (bytes ++ more) ≤ length file = left_short file (position (reader_in held) done (bytes ++ more)) has.reached in
        let short : length rest ≤ length bytes = rest_short bytes rest stands.ends in
        let place : length file - length (rest ++ more) ≡ length file - length (bytes ++ more) + (length bytes - length rest) =
        omega (arith, few, short, length-append rest more, length-append bytes more) in
        subst (λ (n : ℕ). DataFaultPlace file n) place bad

  -- what was read after the block
  pub read_after : (first : K) (next : Held) (reader : Reader) (last : Option Key) (sink : K) (rest : List ℕ) (passed : ℕ)
      → Stands takes held bytes first reader last sink rest → reader_in next ≡ reader → next.last ≡ last
      → passed ≡ length bytes - length rest → (file : List ℕ) (done : List ChangeValue) (more : List ℕ)
      → HasReadTo file done held (bytes ++ more)
      → AreNext (λ all. HasReadTo file all next (drop passed bytes ++ more)) (λ objects. takes first objects sink) done
  read_after first next reader last sink rest passed stands same key count file done more has = record {
    objects = stands.objects;
    read = record {
      reached = rw (same, count, ← rest_is bytes rest stands.ends) (stands.comes file done more has);
      last = key ∙ stands.key ∙ ap (λ (k : Option Key). last_after k stands.objects) has.last ∙ sym (last_both None done stands.objects);
    };
    taken = stands.taken;
  }
