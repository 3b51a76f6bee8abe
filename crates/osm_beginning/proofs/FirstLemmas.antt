-- The number of objects that the first pass gives, and what it says of the second.
use Rattle.std.proofs.Common.{◌≡◌, ℕ, ◌<◌, ◌≤◌, Bool, true, false, cond, List, [], ◌∷◌, length, Option, arith}
use Rattle.std.proofs.Common.{refl, sym, ap, subst, ◌∙◌}
use Rattle.std.specs.Prelude.{◌&&◌, ◌==◌}
use Rattle.std.specs.List.{AllByRecursion}
use Rattle.std.proofs.lemmas.Bool.Decides.{nat_tests}
use Rattle.osm_model.specs.Change.{ChangeValue}
use Rattle.osm_model.specs.Data.{IsData, IsLeft}
use Rattle.osm_model.specs.Filter.{FilterValue, chooses, keeps, keeps_object, keeps_tags, tags_of}
use Rattle.osm_store.specs.Frames.{IsKnown, StoreState}
use Rattle.osm_blocks.specs.Places.{HasFile}
use Rattle.osm_data.specs.Counting.{IsCountOf, chosen_objects}
use Rattle.osm_follow.specs.Begin.{kept_objects}
use Rattle.osm_beginning.specs.Beginning.{most_kept}
use Rattle.osm_beginning.proofs.PassLemmas.{exact_count, many_counted}
use Rattle.osm_beginning.specs.Steps.Passes.{AreFew, AreTooMany, BaseStops, FromStops, IsCheckedAfter, IsFirstCount, IsKept, IsOfSave, IsRight}
use Rattle.osm_beginning.specs.Steps.Passes.{ReplaceStops}
use Rattle.osm_runs.specs.declared.fault.FileName.TheVariants.{Base, Save}
use Rattle.osm_runs.specs.declared.fault.RunFault.{RunFault}
use Rattle.osm_runs.specs.declared.fault.RunFault.TheVariants.{WantOfMemory, ReadFault, TooLarge, Absent, BadChange, Changed, OlderState, WriteFault}

-- ---- counting by kind

pub no_keys : (keys : List (List ℕ)) (is_empty : Bool) → is_empty ≡ (length keys == 0) → is_empty ≡ true → keys ≡ []
no_keys [] is_empty e is = refl
no_keys (k ∷ keys) is_empty e is =
    let test : (length (k ∷ keys) == 0) ≡ true = sym e ∙ is in
    let none : length (k ∷ keys) ≡ 0 = grind (arith, nat_tests) in
    absurd (omega (arith, none))

and_true : (a b : Bool) → b ≡ true → (a && b) ≡ a
and_true true true e = refl
and_true false true e = refl
and_true true false e = absurd cc
and_true false false e = refl

-- without keys an object is kept for its kind
keeps_kind : (f : FilterValue) (c : ChangeValue) → f.keys ≡ [] → IsLeft c → keeps f c ≡ chooses f c.key.kind
unfolding keeps
keeps_kind f c none left =
    let any : keeps_tags f.keys (tags_of c.what) ≡ true = rw none refl in
    ap (keeps_object f) left ∙ and_true (chooses f c.key.kind) (keeps_tags f.keys (tags_of c.what)) any

same_cond : (a b : Bool) (c : ChangeValue) (xs ys : List ChangeValue) → a ≡ b → xs ≡ ys → cond a (c ∷ xs) xs ≡ cond b (c ∷ ys) ys
same_cond a b c xs ys p q = rw (p, q) refl

kept_chosen : (f : FilterValue) (objects : List ChangeValue) → f.keys ≡ [] → AllByRecursion IsLeft objects → kept_objects f objects ≡ chosen_objects f objects
kept_chosen f [] none left = refl
kept_chosen f (c ∷ objects) none left =
    same_cond (keeps f c) (chooses f c.key.kind) c (kept_objects f objects) (chosen_objects f objects) (keeps_kind f c none left.0)
    (kept_chosen f objects none left.1)

pub first_chosen : (spells : List ℕ → List ChangeValue → Type 0) (f : FilterValue) (state : StoreState) (name : List ℕ) (count : ℕ) → f.keys ≡ []
    → ((bytes : List ℕ) (objects : List ChangeValue) → spells bytes objects → IsData objects)
    → ((file : List ℕ) (objects : List ChangeValue) → HasFile state name file → spells file objects → IsCountOf count (chosen_objects f objects))
    → IsKnown state → IsFirstCount spells f (state.files name) count
first_chosen spells f state name count none are_data counts known = record {
  counts = λ bytes objects there spelled.
      subst (λ (l : List ChangeValue). IsCountOf count l) (sym (kept_chosen f objects none (are_data bytes objects spelled).left))
      (counts bytes objects (record { known = known; there = there }) spelled);
}

-- ---- what the number says of the second pass

pub right_many : (spells : List ℕ → List ChangeValue → Type 0) (f : FilterValue) (told : Option (List ℕ)) (count : ℕ) → IsFirstCount spells f told count
    → most_kept < count → IsRight spells f told → IsKept spells f told AreTooMany
right_many spells f told count first over r = record {
  bytes = r.bytes;
  there = r.there;
  objects = r.objects;
  spelled = r.spelled;
  holds_of = many_counted count (kept_objects f r.objects) (first.counts r.bytes r.objects r.there r.spelled) over;
}

right_few : (spells : List ℕ → List ChangeValue → Type 0) (f : FilterValue) (told : Option (List ℕ)) (count : ℕ) → IsFirstCount spells f told count
    → count ≤ most_kept → IsRight spells f told → IsKept spells f told AreFew
right_few spells f told count first few r = record {
  bytes = r.bytes;
  there = r.there;
  objects = r.objects;
  spelled = r.spelled;
  holds_of = (let many : length (kept_objects f r.objects) ≡ count =
      exact_count count (kept_objects f r.objects) (first.counts r.bytes r.objects r.there r.spelled) few in
      omega (arith, many, few));
}

-- the data file is right, if all of it was read, or is read after the fault
pub right_either : (spells : List ℕ → List ChangeValue → Type 0) (f : FilterValue) (known : Type 0) (told : Option (List ℕ)) (fault : RunFault)
    → ((f.keys ≡ [] → ⊥) → known → IsRight spells f told) → IsCheckedAfter fault spells f known told → IsOfSave fault → known → IsRight spells f told
right_either spells f known told fault read checked of_save sure = by_keys f.keys refl
  where
    by_keys : (keys : List (List ℕ)) → f.keys ≡ keys → IsRight spells f told
    by_keys [] is = checked of_save is sure
    by_keys (k ∷ keys) is = read (λ none. absurd (let bad : k ∷ keys ≡ [] = sym is ∙ none in cc)) sure

-- why no save begins, from why the second pass or the commit fails
pub replaced_stops : (spells : List ℕ → List ChangeValue → Type 0) (goes_wrong : List ℕ → ℕ → Type 0) (is_long : List ℕ → Type 0) (f : FilterValue)
    (state_time : Option ℕ) (known : Type 0) (told : Option (List ℕ)) (count : ℕ) → (known → IsFirstCount spells f told count) → count ≤ most_kept
    → (fault : RunFault) → (IsOfSave fault → known → IsRight spells f told) → ReplaceStops spells goes_wrong is_long state_time known told fault
    → FromStops spells goes_wrong is_long f state_time known told fault
replaced_stops spells goes_wrong is_long f state_time known told count first few WantOfMemory right h = h
replaced_stops spells goes_wrong is_long f state_time known told count first few (ReadFault Base) right h = h
replaced_stops spells goes_wrong is_long f state_time known told count first few (Absent Base) right h = h
replaced_stops spells goes_wrong is_long f state_time known told count first few (TooLarge Base) right h = h
replaced_stops spells goes_wrong is_long f state_time known told count first few (BadChange Base place why) right h = h
replaced_stops spells goes_wrong is_long f state_time known told count first few (Changed Base) right h = h
replaced_stops spells goes_wrong is_long f state_time known told count first few (OlderState time newest) right h = h
replaced_stops spells goes_wrong is_long f state_time known told count first few (WriteFault Save) right h =
    λ yes. right_few spells f told count (first yes) few (right tt yes)
replaced_stops spells goes_wrong is_long f state_time known told count first few fault right h = absurd h

-- why no save begins, from why a pass before it stops
pub base_stops : (spells : List ℕ → List ChangeValue → Type 0) (goes_wrong : List ℕ → ℕ → Type 0) (is_long : List ℕ → Type 0) (f : FilterValue)
    (state_time : Option ℕ) (known : Type 0) (told : Option (List ℕ)) (fault : RunFault) → BaseStops goes_wrong is_long known told fault
    → FromStops spells goes_wrong is_long f state_time known told fault
base_stops spells goes_wrong is_long f state_time known told WantOfMemory h = h
base_stops spells goes_wrong is_long f state_time known told (ReadFault Base) h = h
base_stops spells goes_wrong is_long f state_time known told (Absent Base) h = h
base_stops spells goes_wrong is_long f state_time known told (TooLarge Base) h = h
base_stops spells goes_wrong is_long f state_time known told (BadChange Base place why) h = h
base_stops spells goes_wrong is_long f state_time known told fault h = absurd h
