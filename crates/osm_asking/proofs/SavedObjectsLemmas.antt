-- Objects that are passed one after the other.
use Rattle.std.proofs.Common.{◌≡◌, ℕ, List, [], ◌∷◌, ◌++◌, Option, Some, None, sym, ap, subst, ◌∙◌, append_assoc}
use Rattle.std.specs.Prelude.{Bool, Err, IfSome, Ok, false, true}
use Rattle.std.proofs.lemmas.List.{append-nil}
use Rattle.osm_blocks.specs.Frames.{ReadsOften}
use Rattle.osm_blocks.specs.Places.{HasFile, Place, left_of}
use Rattle.osm_blocks.proofs.OftenLemmas.{often_none, often_then}
use Rattle.osm_merge.specs.Faults.{IsDeviceFault}
use Rattle.osm_merge.specs.Reading.{LineStops}
use Rattle.osm_merge.specs.declared.fault.MergeFault.{MergeFault}
use Rattle.osm_merge.specs.declared.fault.MergeFault.TheVariants.{WantOfMemory}
use Rattle.osm_merge.proofs.FrameLemmas.{has_still}
use Rattle.osm_merge.proofs.LineLemmas.{refuses_all}
use Rattle.osm_merged.specs.Ahead.{IsGiven, objects_ahead}
use Rattle.osm_merged.proofs.AheadLemmas.{with_more, with_nothing, with_values}
use Rattle.osm_model.specs.Change.{ChangeValue}
use Rattle.osm_model.specs.Filter.{FilterValue}
use Rattle.osm_opl.specs.Written.{line_text, opl_text}
use Rattle.osm_store.specs.Frames.{StoreState}
use Rattle.osm_asking.specs.Steps.SavedObjects.{Objects, ReadsAll, ReadsNext, SumsAhead, TakesNext}
use Rattle.osm_asking.specs.Steps.Summing.{AreOfSameKeys, AreSummed}
use Rattle.osm_asking.specs.declared.sums.Sums.{Sums}
use Rattle.osm_asking.proofs.FrameLemmas.{often_late}
use Rattle.osm_asking.proofs.SumsLemmas.{same_keys, same_keys_then}

-- ---- lines

-- a line was taken as it is
pub lines_go_on : (old new line : List ℕ) (object : ChangeValue) (objects : List ChangeValue) → line ≡ line_text object
    → new ≡ old ++ (line ++ 10 ∷ []) → old ++ opl_text (object ∷ objects) ≡ new ++ opl_text objects
unfolding opl_text
lines_go_on old new line object objects is made =
    rw (made, is)
    (sym (append_assoc old (line_text object ++ 10 ∷ []) (opl_text objects)
    ∙ ap (λ (l : List ℕ). old ++ l) (append_assoc (line_text object) (10 ∷ []) (opl_text objects))))

-- what a line that was taken added
pub line_added : (old new : List ℕ) (x : ChangeValue) → old ++ opl_text (x ∷ []) ≡ new ++ opl_text [] → new ≡ old ++ (line_text x ++ 10 ∷ [])
unfolding opl_text
line_added old new x e = sym (append-nil new) ∙ sym e

-- and what one that wasn't didn't
pub nothing_added : (old new : List ℕ) → old ++ opl_text [] ≡ new ++ opl_text [] → new ≡ old
unfolding opl_text
nothing_added old new e = sym (append-nil new) ∙ (sym e ∙ append-nil old)

-- ---- one object

-- its line was added
pub spelled_added : (Reads : Option ChangeValue → Type 0) (before after line : List ℕ) (given : Option ChangeValue) (x : ChangeValue)
    → given ≡ Some x → Reads given → IfSome given (λ c. line ≡ line_text c) → after ≡ before ++ (line ++ 10 ∷ []) → TakesNext Reads before after true
spelled_added Reads before after line given x is read spelled added = (
  x,
  subst Reads is read,
  added ∙ ap (λ (l : List ℕ). before ++ (l ++ 10 ∷ [])) (subst (λ (g : Option ChangeValue). IfSome g (λ c. line ≡ line_text c)) is spelled),
)

-- there was no memory for what was read
pub often_lacks : {T U : Type 0} (a b : StoreState) (x : T) → ReadsOften IsDeviceFault a b (Ok x) → ReadsOften {T = U} IsDeviceFault a b (Err WantOfMemory)
often_lacks a b x n = often_late IsDeviceFault IsDeviceFault a b x WantOfMemory (λ blame. blame) n

-- a line was tried, and nothing passed
module _ (a b : StoreState) (name : List ℕ) (f : FilterValue) (left : Objects) (now mid : Place)
    (same : (file : List ℕ) → HasFile a name file → left_of mid file ≡ left_of now file)
    (has : (file : List ℕ) → HasFile a name file → HasFile b name file) where
  reads_still : (next : Objects) (new : Place) (given : Option ChangeValue) → ReadsNext b name f left next mid new given
      → ReadsNext a name f left next now new given
  reads_still next new given read = λ file is.
      subst (λ (bytes : List ℕ). IsGiven (left_of new file) (objects_ahead f left bytes) (objects_ahead f next (left_of new file)) given)
      (same file is) (read file (has file is))

  pub takes_still : (next : Objects) (new : Place) (before middle after : List ℕ) (is_next : Bool) → middle ≡ before
      → TakesNext (ReadsNext b name f left next mid new) middle after is_next → TakesNext (ReadsNext a name f left next now new) before after is_next
  takes_still next new before middle after true e (x, read, added) =
      (x, reads_still next new (Some x) read, added ∙ ap (λ (l : List ℕ). l ++ (line_text x ++ 10 ∷ [])) e)
  takes_still next new before middle after false e (read, none) = (reads_still next new None read, none ∙ e)

  pub stops_still : (fault : MergeFault) → ((file : List ℕ) → HasFile b name file → LineStops file fault (objects_ahead f left (left_of mid file)))
      → (file : List ℕ) → HasFile a name file → LineStops file fault (objects_ahead f left (left_of now file))
  stops_still fault stops = λ file is.
      subst (λ (bytes : List ℕ). LineStops file fault (objects_ahead f left bytes)) (same file is) (stops file (has file is))

-- ---- one after the other

-- where a reading stands: what was ahead are those values, and then what is ahead now
pub record Passing (a b : StoreState) (name : List ℕ) (f : FilterValue) (first left : Objects) (begun now : Place) (values : List ChangeValue) : Type 0
  where
    pub read : (file : List ℕ) → HasFile a name file
        → objects_ahead f first (left_of begun file) ≡ with_values values (objects_ahead f left (left_of now file))
    pub frame : ReadsOften {T = Unit {0}} IsDeviceFault a b (Ok tt)

passing_begun : (a : StoreState) (name : List ℕ) (f : FilterValue) (first : Objects) (begun : Place) → Passing a a name f first first begun begun []
passing_begun a name f first begun = record {
  read = λ file has. with_nothing (objects_ahead f first (left_of begun file));
  frame = often_none IsDeviceFault a tt;
}

module _ (a b : StoreState) (name : List ℕ) (f : FilterValue) (first left : Objects) (begun now : Place) (values : List ChangeValue)
    (h : Passing a b name f first left begun now values) where
  has_now : (file : List ℕ) → HasFile a name file → HasFile b name file
  has_now file has = has_still a b tt name file h.frame has

  passing_more : (c : StoreState) (next : Objects) (new : Place) (x : ChangeValue) → ReadsNext b name f left next now new (Some x)
      → ReadsOften {T = Bool} IsDeviceFault b c (Ok true) → Passing a c name f first next begun new (values ++ x ∷ [])
  passing_more c next new x read frame = record {
    read = λ file has. h.read file has ∙ (ap (with_values values) (read file (has_now file has)) ∙ with_more values x
        (objects_ahead f next (left_of new file)));
    frame = often_then {T = Unit {0}} {V = Unit {0}} IsDeviceFault a b c tt true tt h.frame frame;
  }

  passing_done : (next : Objects) (new : Place) → ReadsNext b name f left next now new None → ReadsAll a name f first begun new values
  passing_done next new read = λ file has. h.read file has ∙ (ap (with_values values) (read file (has_now file has)).0
      ∙ ap (λ (l : List ChangeValue). Some (l, left_of new file)) (append-nil values))

  pub passing_stops : (fault : MergeFault) → ((file : List ℕ) → HasFile b name file → LineStops file fault (objects_ahead f left (left_of now file)))
      → (file : List ℕ) → HasFile a name file → LineStops file fault (objects_ahead f first (left_of begun file))
  passing_stops fault stops = λ file has.
      refuses_all file fault (objects_ahead f left (left_of now file)) (objects_ahead f first (left_of begun file)) (stops file (has_now file has))
      (λ none. h.read file has ∙ ap (with_values values) none)

-- ---- objects that are summed

pub record Summing (a b : StoreState) (name : List ℕ) (f : FilterValue) (first left : Objects) (begun now : Place) (before sums : Sums) (lines : List ℕ)
    : Type 0 where
  pub values : List ChangeValue
  pub passing : Passing a b name f first left begun now values
  pub summed : AreSummed sums lines values
  pub keys : AreOfSameKeys before.blocks sums.blocks

pub summing_begun : (a : StoreState) (name : List ℕ) (f : FilterValue) (first : Objects) (begun : Place) (sums : Sums) (lines : List ℕ)
    → AreSummed sums [] [] → lines ≡ [] → Summing a a name f first first begun begun sums sums lines
summing_begun a name f first begun sums lines none empty = record {
  values = [];
  passing = passing_begun a name f first begun;
  summed = subst (λ (l : List ℕ). AreSummed sums l []) (sym empty) none;
  keys = same_keys sums.blocks;
}

module _ (a b : StoreState) (name : List ℕ) (f : FilterValue) (first left : Objects) (begun now : Place) (before sums : Sums) (lines : List ℕ)
    (h : Summing a b name f first left begun now before sums lines) (next : Objects) (new : Place) (added : List ℕ) where
  pub summing_more : (c : StoreState) (after : Sums) (rest : List ℕ) → TakesNext (ReadsNext b name f left next now new) lines added true
      → ReadsOften {T = Bool} IsDeviceFault b c (Ok true)
      → ((waiting : List ℕ) (objects : List ChangeValue) (x : ChangeValue) → AreSummed sums waiting objects
      → added ≡ waiting ++ (line_text x ++ 10 ∷ []) → AreSummed after rest (objects ++ x ∷ []))
      → AreOfSameKeys sums.blocks after.blocks → Summing a c name f first next begun new before after rest
  summing_more c after rest (x, read, is) frame noted keys = record {
    values = h.values ++ x ∷ [];
    passing = passing_more a b name f first left begun now h.values h.passing c next new x read frame;
    summed = noted lines h.values x h.summed is;
    keys = same_keys_then before.blocks sums.blocks after.blocks h.keys keys;
  }

  pub summing_done : (after : Sums) → TakesNext (ReadsNext b name f left next now new) lines added false
      → ((objects : List ChangeValue) → AreSummed sums added objects → AreSummed after [] objects) → SumsAhead a name f first begun new after
  summing_done after (read, is) taken = record {
    objects = h.values;
    read = passing_done a b name f first left begun now h.values h.passing next new read;
    summed = taken h.values (subst (λ (l : List ℕ). AreSummed sums l h.values) (sym is) h.summed);
  }
