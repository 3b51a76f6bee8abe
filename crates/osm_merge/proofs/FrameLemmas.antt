-- Calls of a store that come one after the other, and what was written by them.
use Rattle.std.proofs.Common.{◌≡◌, ℕ, List, [], ◌++◌, Some, refl, sym, ap, subst, ◌∙◌, append_assoc}
use Rattle.std.specs.Prelude.{Bool, Err, IsTrue, Ok, Result}
use Rattle.std.proofs.lemmas.List.{append-nil}
use Rattle.osm_store.specs.Files.{Files}
use Rattle.osm_store.specs.Frames.{IsKnown, StoreState}
use Rattle.osm_blocks.specs.Frames.{ReadsOften}
use Rattle.osm_blocks.specs.Places.{HasFile}
use Rattle.osm_blocks.specs.Writing.{IsWritten, Waiting}
use Rattle.osm_blocks.proofs.OftenLemmas.{often_both}
use Rattle.osm_merge.specs.Frames.{ReplacesOften}
use Rattle.osm_merge.specs.Laying.{Writes}

-- what is known stays so
pub known_still : {T E : Type 0} {blames : E → Type 0} (a b : StoreState) (x : T) → ReadsOften blames a b (Ok x) → IsKnown a → IsKnown b
known_still a b x frame known = subst (λ (t : Bool). IsTrue t) (sym frame.known) known

-- a file stays known, and has the same bytes
pub has_still : {T E : Type 0} {blames : E → Type 0} (a b : StoreState) (x : T) (name file : List ℕ) → ReadsOften blames a b (Ok x) → HasFile a name file
    → HasFile b name file
has_still a b x name file frame has = record {
  known = subst (λ (t : Bool). IsTrue t) (sym frame.known) has.known;
  there = subst (λ (f : Files). f name ≡ Some file) (sym frame.files) has.there;
}

-- nothing was written
pub writes_none : (a : StoreState) (w : Waiting) → Writes a w a w []
writes_none a w = λ known name text is. subst (λ (l : List ℕ). IsWritten a.stage w name l) (sym (append-nil text)) is

-- a call that writes nothing leaves what was written
pub writes_still : (a b : StoreState) (w : Waiting) → b.stage ≡ a.stage → Writes a w b w []
writes_still a b w same = λ known name text is. rw (same, append-nil text) is

-- what was written is the bytes of the calls, one after the other
pub writes_both : {T E : Type 0} {blames : E → Type 0} (a b c : StoreState) (u v w : Waiting) (x : T) (bytes more : List ℕ) → ReadsOften blames a b (Ok x)
    → Writes a u b v bytes → Writes b v c w more → Writes a u c w (bytes ++ more)
writes_both a b c u v w x bytes more frame first second = λ known name text is.
    subst (λ (l : List ℕ). IsWritten c.stage w name l) (append_assoc text bytes more)
    (second (known_still a b x frame known) name (text ++ bytes) (first known name text is))

-- a call that changes nothing in the file that was begun may come first
pub writes_after : {T E : Type 0} {blames : E → Type 0} (a b c : StoreState) (v w : Waiting) (x : T) (bytes : List ℕ) → ReadsOften blames a b (Ok x)
    → b.stage ≡ a.stage
    → Writes b v c w bytes → Writes a v c w bytes
writes_after a b c v w x bytes frame same writes = λ known name text is. writes (known_still a b x frame known) name text (rw same is)

-- the same calls, in one that gives something else
pub often_as : {T U E : Type 0} (blames : E → Type 0) (a b : StoreState) (x : T) (y : U) → ReadsOften blames a b (Ok x) → ReadsOften blames a b (Ok y)
often_as blames a b x y n = record {
  files = n.files;
  known = n.known;
  left = n.left;
  failures = n.failures;
  failed = tt;
  stops = tt;
}

-- a call that fails after others, in a longer call that fails
pub often_fails : {T U V E : Type 0} (blames : E → Type 0) (a b c : StoreState) (x : T) (fault : E) → ReadsOften blames a b (Ok x)
    → ReadsOften {T = U} blames b c (Err fault) → ReadsOften {T = V} blames a c (Err fault)
often_fails {T} {U} {V} blames a b c x fault m n = often_both {U = V} blames a b c x (Err fault) m (record {
  files = n.files;
  known = n.known;
  left = n.left;
  failures = n.failures;
  failed = n.failed;
  stops = n.stops;
})

-- calls of which one failed, and then others, in one that fails for another reason than the device
pub both_blameless : {T U V E : Type 0} (blames : E → Type 0) (a b c : StoreState) (first fault : E) (r : Result U E)
    → ReadsOften {T = T} blames a b (Err first)
    → ReadsOften blames b c r → (blames fault → ⊥) → ReadsOften {T = V} blames a c (Err fault)
both_blameless {T} {U} {V} blames a b c first fault r m n never = record {
  files = both.files;
  known = both.known;
  left = both.left;
  failures = both.failures;
  failed = λ blame. absurd (never blame);
  stops = λ known blame. absurd (never blame);
}
  where
    past : ReadsOften {T = Unit {0}} blames a b (Ok tt)
    past = record {
      files = m.files;
      known = m.known;
      left = m.left;
      failures = m.failures;
      failed = tt;
      stops = tt;
    }

    both : ReadsOften blames a c r
    both = often_both blames a b c tt r past n

-- what was written is what was appended, if nothing waits
pub staged_all : (a : StoreState) (w : Waiting) (name text : List ℕ) → IsWritten a.stage w name text → w.bytes ≡ [] → a.stage ≡ Some (name, text)
staged_all a w name text is empty =
    let whole : text ≡ is.appended = is.whole ∙ (ap (λ (l : List ℕ). is.appended ++ l) empty ∙ append-nil is.appended) in
    is.staged ∙ ap (λ (l : List ℕ). Some (name, l)) (sym whole)

-- calls that change no file, in a call that fails
pub reads_fail : {T U E : Type 0} (blames : E → Type 0) (a b : StoreState) (fault : E) → ReadsOften {T = T} blames a b (Err fault)
    → ReplacesOften {T = U} blames a b (Err fault)
reads_fail blames a b fault n = record {
  files = n.files;
  known = n.known;
  left = n.left;
  failures = n.failures;
  failed = n.failed;
  stops = n.stops;
}

-- after calls that change no file, a call that may replace one
pub then_replaces : {T U E : Type 0} (blames : E → Type 0) (a b c : StoreState) (x : T) (r : Result U E) → ReadsOften blames a b (Ok x)
    → ReplacesOften blames b c r → ReplacesOften blames a c r
then_replaces {T} {U} blames a b c x (Ok y) m n =
    let both = often_both {U = U} blames a b (same_files b c) x (Ok y) m (reads_of b c y n) in
    record { files = tt; known = both.known; left = both.left; failures = both.failures; failed = tt; stops = tt }
  where
    same_files : StoreState → StoreState → StoreState
    same_files b c = record { files = b.files; is_known = c.is_known; left = c.left; failures = c.failures; stage = c.stage }

    reads_of : (b c : StoreState) (y : U) → ReplacesOften blames b c (Ok y) → ReadsOften blames b (same_files b c) (Ok y)
    reads_of b c y n = record { files = refl; known = n.known; left = n.left; failures = n.failures; failed = tt; stops = tt }
then_replaces {T} {U} blames a b c x (Err f) m n =
    let both = often_both {U = U} blames a b c x (Err f) m
    (record { files = n.files; known = n.known; left = n.left; failures = n.failures; failed = n.failed; stops = n.stops }) in
    reads_fail blames a c f both

-- calls that change no file, in a call that fails for another reason than the device
pub blameless_frame : {T E : Type 0} (blames : E → Type 0) (a b : StoreState) (fault : E) → ReadsOften {T = Unit {0}} blames a b (Ok tt) → (blames fault → ⊥)
    → ReplacesOften {T = T} blames a b (Err fault)
blameless_frame blames a b fault n never = record {
  files = n.files;
  known = n.known;
  left = n.left;
  failures = n.failures;
  failed = λ blame. absurd (never blame);
  stops = λ known blame. absurd (never blame);
}
