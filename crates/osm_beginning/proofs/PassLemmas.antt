-- Passes over a data file.
use Rattle.std.proofs.Common.{◌≡◌, ℕ, ◌+◌, ◌<◌, ◌≤◌, List, [], ◌∷◌, ◌++◌, length, map, Option, Some, sym, ap, subst, ◌∙◌, arith}
use Rattle.std.proofs.Common.{append_assoc, length-append, lit<}
use Rattle.std.specs.Prelude.{Ok, Err, max, min}
use Rattle.std.proofs.lemmas.List.{map-append}
use Rattle.std.proofs.lemmas.List.Elements.{filter-append}
use Rattle.osm_model.specs.Change.{ChangeValue}
use Rattle.osm_model.specs.Filter.{FilterValue, keeps}
use Rattle.osm_opl.specs.Written.{line_text}
use Rattle.osm_save.specs.Lines.{ended}
use Rattle.osm_save.proofs.TextLemmas.{ended-append}
use Rattle.osm_store.specs.Files.{Files, HasFewer, Puts}
use Rattle.osm_store.specs.Frames.{IsKnown, MakesAtMost, StoreState}
use Rattle.osm_blocks.specs.Calls.{SpendsDown}
use Rattle.osm_blocks.specs.Frames.{ReadsOften}
use Rattle.osm_blocks.specs.Places.{HasFile}
use Rattle.osm_blocks.specs.Writing.{IsWritten, Waiting}
use Rattle.osm_save.specs.declared.head.Head.{Head}
use Rattle.osm_blocks.proofs.CallLemmas.{at_most_of, down_lacks, down_none, down_of, down_then}
use Rattle.osm_blocks.proofs.OftenLemmas.{often_then}
use Rattle.osm_merge.specs.Calls.{bytes_in}
use Rattle.osm_merge.specs.Laying.{Writes}
use Rattle.osm_merge.proofs.FrameLemmas.{has_still, often_as, writes_after, writes_both}
use Rattle.osm_data.specs.Counting.{IsCountOf, most_counted}
use Rattle.osm_data.specs.Sinks.{AreNext}
use Rattle.osm_follow.specs.Begin.{kept_objects}
use Rattle.osm_beginning.specs.Beginning.{most_kept, newest_time}
use Rattle.osm_beginning.specs.Steps.Passes.{AreTooMany, AreWritten, IsKept, IsReading, IsReplaced, IsStaged}
use Rattle.osm_beginning.specs.Steps.Passes.{begun_text, first_text, last_text}
use Rattle.osm_beginning.specs.Steps.Sinks.{Counts, CountsOn, Lays}
use Rattle.osm_beginning.specs.declared.sinks.KeptCount.{KeptCount}
use Rattle.osm_beginning.specs.declared.sinks.KeptLines.{KeptLines}

-- ---- counts

pub kept_append : (f : FilterValue) (done objects : List ChangeValue) → kept_objects f (done ++ objects) ≡ kept_objects f done ++ kept_objects f objects
kept_append f done objects = filter-append (keeps f) done objects

pub count_more : (f : FilterValue) (count next : ℕ) (done objects : List ChangeValue) → IsCountOf count (kept_objects f done)
    → next ≡ min (count + length (kept_objects f objects)) most_counted → IsCountOf next (kept_objects f (done ++ objects))
count_more f count next done objects is more =
    let all : length (kept_objects f (done ++ objects)) ≡ length (kept_objects f done) + length (kept_objects f objects) =
    ap length (kept_append f done objects) ∙ length-append (kept_objects f done) (kept_objects f objects) in
    capped (length (kept_objects f done)) (length (kept_objects f objects)) most_counted count next (length (kept_objects f (done ++ objects))) is more all
  where
    capped : (a b most count next all : ℕ) → count ≡ min a most → next ≡ min (count + b) most → all ≡ a + b → next ≡ min all most
    capped a b most count next all is more sum = omega (arith, is, more, sum)

-- a counter of what a filter keeps has counted those objects
pub record HasCounted (f : FilterValue) (kept : KeptCount) (done : List ChangeValue) : Type 0 where
  pub same : kept.filter.now ≡ f
  pub counted : IsCountOf kept.count (kept_objects f done)

pub counted_on : (f : FilterValue) (old new : KeptCount) (done objects : List ChangeValue) → Counts old objects new → HasCounted f old done
    → HasCounted f new (done ++ objects)
counted_on f old new done objects c h = record {
  same = c.filter ∙ h.same;
  counted = subst (λ (g : FilterValue). CountsOn g old.count objects new.count) h.same c.count done h.counted;
}

-- ---- where a pass stands

-- objects of a known data file were read, and this is said of them
pub record Passed {D : Type 0} (has_read : D → List ℕ → List ChangeValue → Type 0) (ahead : D → List ℕ → ℕ) (most : ℕ → ℕ)
    (begun state : StoreState) (name : List ℕ) (reader : D) (Says : List ChangeValue → Type 0) : Type 0 where
  pub file : List ℕ
  pub has : HasFile begun name file
  pub done : List ChangeValue
  pub read : has_read reader file done
  pub says : Says done
  pub calls : SpendsDown (most (length file)) (ahead reader file) begun.left state.left

pub record Passing {D E : Type 0} (blames : E → Type 0) (has_read : D → List ℕ → List ChangeValue → Type 0) (ahead : D → List ℕ → ℕ) (most : ℕ → ℕ)
    (begun state : StoreState) (name : List ℕ) (reader : D) (Says : List ChangeValue → Type 0) : Type 0 where
  pub frame : ReadsOften {T = Unit {0}} blames begun state (Ok tt)
  pub reads : IsKnown begun → Passed has_read ahead most begun state name reader Says

module _ {D E : Type 0} (blames : E → Type 0) (has_read : D → List ℕ → List ChangeValue → Type 0) (ahead : D → List ℕ → ℕ) (most : ℕ → ℕ)
    (begun : StoreState) (name : List ℕ) where
  -- the file was opened
  pub passing_begun : {T : Type 0} (state : StoreState) (x : T) (reader : D) (Says : List ChangeValue → Type 0) → ReadsOften blames begun state (Ok x)
      → (IsKnown begun → IsReading has_read begun name reader)
      → ((file : List ℕ) → HasFile begun name file → has_read reader file [])
      → MakesAtMost blames 1 begun state (Ok x)
      → ((file : List ℕ) → HasFile begun name file → ahead reader file + 1 ≤ most (length file))
      → Says [] → Passing blames has_read ahead most begun state name reader Says
  passing_begun {T} state x reader Says frame there opened calls few says = record {
    frame = often_as blames begun state x tt frame;
    reads = λ known. (let r = there known in
        let enough = few r.file r.has in
        record {
          file = r.file;
          has = r.has;
          done = [];
          read = opened r.file r.has;
          says = says;
          calls = down_then 1 0 0 0 (most (length r.file)) (ahead reader r.file) begun.left state.left state.left (omega (arith, enough))
              (down_of 1 begun.left state.left calls.spent) (down_none 0 state.left);
        });
  }

  module _ (state : StoreState) (reader : D) (Says : List ChangeValue → Type 0) (p : Passing blames has_read ahead most begun state name reader Says) where
    -- more objects were read
    pub passing_more : {T : Type 0} (next : StoreState) (new : D) (x : T) (Takes Then : List ChangeValue → Type 0)
        → ReadsOften {T = T} blames state next (Ok x)
        → ((file : List ℕ) (done : List ChangeValue) → HasFile state name file → has_read reader file done → AreNext (has_read new file) Takes done)
        → ((file : List ℕ) (done : List ChangeValue) → HasFile state name file → has_read reader file done → SpendsDown
        (ahead reader file) (ahead new file) state.left next.left)
        → ((done objects : List ChangeValue) → Takes objects → Says done → Then (done ++ objects))
        → Passing blames has_read ahead most begun next name new Then
    passing_more {T} next new x Takes Then frame read calls says = record {
      frame = often_then {V = Unit {0}} blames begun state next tt x tt p.frame frame;
      reads = λ known. (let r = p.reads known in
          let has = has_still begun state tt name r.file p.frame r.has in
          let more = read r.file r.done has r.read in
          record {
            file = r.file;
            has = r.has;
            done = r.done ++ more.objects;
            read = more.read;
            says = says r.done more.objects more.taken r.says;
            calls = down_then (most (length r.file)) (ahead reader r.file) (ahead reader r.file) (ahead new r.file) (most (length r.file))
                (ahead new r.file) begun.left state.left next.left (omega arith) r.calls (calls r.file r.done has r.read);
          });
    }

    -- the calls of all of it
    pub calls_end : {U : Type 0} (next : StoreState) (z : U)
        → ((file : List ℕ) (done : List ChangeValue) → HasFile state name file → has_read reader file done → (c : ℕ) × (d : ℕ) × (c ≤ ahead reader file + d)
        × SpendsDown c d state.left next.left)
        → IsKnown begun → MakesAtMost blames (most (bytes_in (begun.files name))) begun next (Ok z)
    calls_end next z calls known = (let r = p.reads known in
        let c = calls r.file r.done (has_still begun state tt name r.file p.frame r.has) r.read in
        let enough = c.2 in
        let all : bytes_in (begun.files name) ≡ length r.file = ap bytes_in r.has.there in
        rw all (record {
          spent = at_most_of (most (length r.file)) 0 (most (length r.file)) begun.left next.left (omega arith)
              (down_then (most (length r.file)) (ahead reader r.file) c.0 c.1 (most (length r.file)) 0 begun.left state.left next.left
              (omega (arith, enough)) r.calls c.3);
          lacks = tt;
        }))

    -- a call failed
    pub calls_fail : {U : Type 0} (next : StoreState) (fault : E)
        → ((file : List ℕ) (done : List ChangeValue) → HasFile state name file → has_read reader file done → blames fault
        → HasFewer (ahead reader file) state.left)
        → IsKnown begun → MakesAtMost {T = U} blames (most (bytes_in (begun.files name))) begun next (Err fault)
    calls_fail next fault lacks known = (let r = p.reads known in
        let all : bytes_in (begun.files name) ≡ length r.file = ap bytes_in r.has.there in
        rw all (record {
          spent = tt;
          lacks = λ again blame. down_lacks (most (length r.file)) (ahead reader r.file) (ahead reader r.file) (most (length r.file)) begun.left state.left
              (omega arith) r.calls (lacks r.file r.done (has_still begun state tt name r.file p.frame r.has) r.read blame);
        }))

-- ---- what was written

pub lines_append : (f : FilterValue) (done objects : List ChangeValue)
    → ended (map line_text (kept_objects f (done ++ objects))) ≡ ended (map line_text (kept_objects f done)) ++ ended (map line_text (kept_objects f objects))
lines_append f done objects = ap (λ (l : List ChangeValue). ended (map line_text l)) (kept_append f done objects)
    ∙ (ap ended (map-append line_text (kept_objects f done) (kept_objects f objects))
    ∙ ended-append (map line_text (kept_objects f done)) (map line_text (kept_objects f objects)))

-- the lines that were laid after none
lines_alone : (f : FilterValue) (old new : KeptLines) (objects : List ChangeValue) → old.lines.items ≡ [] → old.filter.now ≡ f → Lays old objects new
    → new.lines.items ≡ ended (map line_text (kept_objects f objects))
lines_alone f old new objects none same lays = lays.lines
    ∙ (ap (λ (l : List ℕ). l ++ ended (map line_text (kept_objects old.filter.now objects))) none
    ∙ ap (λ (g : FilterValue). ended (map line_text (kept_objects g objects))) same)

-- the newest time of more objects
pub newest_append : (xs ys : List ChangeValue) → newest_time (xs ++ ys) ≡ max (newest_time xs) (newest_time ys)
newest_append [] ys = omega arith
newest_append (x ∷ xs) ys = (let rest = newest_append xs ys in omega (arith, rest))

-- the lines of what a filter keeps of those objects were written, and that is their newest time
pub record HasLaid (f : FilterValue) (kept : KeptLines) (out : List ℕ → Type 0) (done : List ChangeValue) : Type 0 where
  pub same : kept.filter.now ≡ f
  pub written : AreWritten kept.count out (kept_objects f done)
  pub newest : kept.newest ≡ newest_time done

pub laid_on : {T E : Type 0} {blames : E → Type 0} (f : FilterValue) (begun state next after : StoreState) (w v u : Waiting) (x : T)
    (old new cleared : KeptLines) (done objects : List ChangeValue) → ReadsOften {T = Unit {0}} blames begun state (Ok tt)
    → ReadsOften blames state next (Ok x) → next.stage ≡ state.stage → Writes next v after u new.lines.items → old.lines.items ≡ []
    → cleared.filter ≡ new.filter → cleared.count ≡ new.count → cleared.newest ≡ new.newest → Lays old objects new
    → HasLaid f old (Writes begun w state v) done → HasLaid f cleared (Writes begun w after u) (done ++ objects)
laid_on f begun state next after w v u x old new cleared done objects frame read stage put none filter count newest lays h = record {
  same = ap (λ r. r.now) filter ∙ lays.filter ∙ h.same;
  written = record {
    counted = rw count (subst (λ (g : FilterValue). CountsOn g old.count objects new.count) h.same lays.count done h.written.counted);
    written = subst (Writes begun w after u) (sym (lines_append f done objects))
        (writes_both begun state after w v u tt (ended (map line_text (kept_objects f done))) (ended (map line_text (kept_objects f objects))) frame
        h.written.written (writes_after state next after v u x (ended (map line_text (kept_objects f objects))) read stage
        (subst (Writes next v after u) (lines_alone f old new objects none h.same lays) put)));
  };
  newest = (let all = newest_append done objects in let more = lays.newest in let before = h.newest in omega (arith, newest, more, before, all));
}

-- the parts that were written are the text
pub staged_text : (first lines last : List ℕ) → (([] ++ first) ++ lines) ++ last ≡ first ++ (lines ++ last)
staged_text first lines last = append_assoc first lines last

-- ---- the second pass and the commit

-- what is kept of a data file, told as it was before
pub kept_as : (spells : List ℕ → List ChangeValue → Type 0) (f : FilterValue) (told before : Option (List ℕ)) (P Q : List ChangeValue → Type 0)
    → told ≡ before → ((kept : List ChangeValue) → P kept → Q kept) → IsKept spells f told P → IsKept spells f before Q
kept_as spells f told before P Q same goes k = record {
  bytes = k.bytes;
  there = sym same ∙ k.there;
  objects = k.objects;
  spelled = k.spelled;
  holds_of = goes (kept_objects f k.objects) k.holds_of;
}

-- the file that was staged is the whole text
pub staged_as : (first last : List ℕ) (save : List ℕ) (head : Head) (f : FilterValue) (given count : ℕ) (d e z : StoreState) (u t : Waiting)
    (kept : List ChangeValue) → first ≡ first_text head f given → last ≡ last_text → IsKnown d → IsKnown e → IsWritten d.stage u save ([] ++ first)
    → ((name text : List ℕ) → IsWritten e.stage t name text → z.stage ≡ Some (name, text ++ last)) → AreWritten count (Writes d u e t) kept
    → IsStaged z save head f given count kept
staged_as first last save head f given count d e z u t kept first_is last_is known_d known_e begun ends a = record {
  counted = a.counted;
  stage = ends save (([] ++ first) ++ ended (map line_text kept)) (a.written known_d save ([] ++ first) begun)
      ∙ ap (λ (l : List ℕ). Some (save, l)) (staged_text first (ended (map line_text kept)) last
      ∙ (ap (λ (l : List ℕ). l ++ (ended (map line_text kept) ++ last)) first_is
      ∙ ap (λ (l : List ℕ). first_text head f given ++ (ended (map line_text kept) ++ l)) last_is));
}

-- a count below the greatest one is exact
exact : (n most low count : ℕ) → count ≡ min n most → count ≤ low → low < most → n ≡ count
exact n most low count is few below = omega (arith, is, few, below)

pub exact_count : (count : ℕ) (kept : List ChangeValue) → IsCountOf count kept → count ≤ most_kept → length kept ≡ count
exact_count count kept is few = exact (length kept) most_counted most_kept count is few (lit< tt)

-- the text was put into its place
pub replaced_of : (head : Head) (f : FilterValue) (save : List ℕ) (b : StoreState) (old new : Files) (count counted : ℕ) (kept : List ChangeValue)
    → counted ≡ count → count ≤ most_kept → b.files ≡ old
    → ((name text : List ℕ) → b.stage ≡ Some (name, text) → Puts b.files name (Some text) new)
    → IsStaged b save head f count counted kept → IsReplaced head f save old new kept
replaced_of head f save b old new count counted kept same few files put s =
    let many : length kept ≡ count = exact_count count kept (sym same ∙ s.counted) few in
    record {
      few = omega (arith, many, few);
      put = subst (λ (n : ℕ). Puts old save (Some (begun_text head f n kept)) new) (sym many)
          (subst (λ (g : Files). Puts g save (Some (begun_text head f count kept)) new) files (put save (begun_text head f count kept) s.stage));
    }

-- too many were counted
many : (n most low count : ℕ) → count ≡ min n most → low < count → low < n
many n most low count is over = omega (arith, is, over)

pub many_counted : (count : ℕ) (kept : List ChangeValue) → IsCountOf count kept → most_kept < count → AreTooMany kept
many_counted count kept is over = many (length kept) most_counted most_kept count is over
