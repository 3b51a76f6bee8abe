-- Words in order, each once.
use Rattle.std.proofs.Common.{◌≡◌, ℕ, zero, suc, ◌<◌, List, [], ◌∷◌, length, map, Bool, true, false, inr, arith, refl, sym, ◌∙◌}
use Rattle.std.specs.Prelude.{◌≤◌, ◌⊎◌, Contains, IsSorted, slice_index_or}
use Rattle.std.specs.Cmp.Lexicographic.{texts_ties}
use Rattle.std.specs.List.{dedup}
use Rattle.std.specs.List.Retain.{DiffersFromLast, IsFiltered}
use Rattle.std.specs.List.Sorted.{IsPermutation}
use Rattle.std.specs.Str.{bytes_eq}
use Rattle.std.proofs.lemmas.Cmp.{nat_list_cmp_total, nat_list_eq_equiv}
use Rattle.std.proofs.lemmas.List.Filters.{dedup_is}
use Rattle.std.proofs.lemmas.List.Kept.{Contains-dedup, Contains-from_dedup, IsStrictlySortedBy-dedup}
use Rattle.std.proofs.lemmas.List.Sorted.{Contains-permutation}
use Rattle.std.proofs.lemmas.Slice.Eq.{bytes_eq-Decides}
use Rattle.osm_model.specs.Filter.{AreRising, has_kind}
use Rattle.osm_model.specs.Limits.{max_keys}
use Rattle.osm_model.specs.Text.{bytes_cmp}
use Rattle.osm_model.specs.declared.filter.FilterError.{FilterError}
use Rattle.osm_model.specs.declared.filter.FilterError.TheVariants.{NoKind, TooManyKeys, Unsorted}
use Rattle.osm_runs.specs.Filters.{AreNoKinds, AreTooMany, HasNoText}
use Rattle.osm_runs.specs.Steps.Filtering.{AreKeysOf, TextStops, WordStops}
use Rattle.osm_runs.specs.declared.fault.RunFault.{RunFault}
use Rattle.osm_runs.specs.declared.fault.RunFault.TheVariants.{BadFilter, WantOfMemory}

-- what is taken of a list is among what is taken of all
pub contains_at : {X : Type 0} (f : X → List ℕ) (xs : List X) (k : ℕ) (d : X) → k < length xs → Contains (map f xs) (f (slice_index_or xs k d))
contains_at f [] k d within = absurd (omega (arith, within))
contains_at f (x ∷ xs) zero d within = (0, omega arith, refl)
contains_at f (x ∷ xs) (suc k) d within =
    let there = contains_at f xs k d (omega (arith, within)) in
    let below = there.1 in
    (suc there.0, omega (arith, below), there.2)

pub word_stops : (words : List (List ℕ)) (word : List ℕ) (fault : RunFault) → Contains words word → WordStops word fault
    → TextStops words fault
word_stops words word WantOfMemory there h = tt
word_stops words word BadFilter there h = record { word = word; among = there; wrong = h }
word_stops words word fault there h = absurd h

-- what is left of the sorted words if none comes twice
pub keys_of : (words sorted keys : List (List ℕ)) → IsPermutation words sorted → IsPermutation sorted words → IsSorted bytes_cmp sorted
    → IsFiltered (DiffersFromLast bytes_eq) [] sorted keys → AreKeysOf words keys
keys_of words sorted keys there back are_sorted filtered =
    let is : keys ≡ dedup bytes_eq sorted = dedup_is bytes_eq sorted keys filtered in
    rw is (record {
      rising = IsStrictlySortedBy-dedup nat_list_cmp_total texts_ties sorted are_sorted;
      each = λ word. (
        (λ kept. Contains-permutation sorted words word back (Contains-from_dedup bytes_eq sorted word kept)),
        (λ given. Contains-dedup nat_list_eq_equiv (λ x y same. (bytes_eq-Decides x y).0 same) sorted word
            (Contains-permutation words sorted word there given)),
      );
    })

-- why a filter with these keys is refused
pub too_many : (letters : List ℕ) (words keys : List (List ℕ)) (nodes ways relations : Bool) (error : FilterError) → AreKeysOf words keys
    → has_kind nodes ways relations ≡ true → (error ≡ NoKind → has_kind nodes ways relations ≡ false)
    → (error ≡ TooManyKeys → (has_kind nodes ways relations ≡ true) × (max_keys < length keys))
    → (error ≡ Unsorted → (has_kind nodes ways relations ≡ true) × (length keys ≤ max_keys) × (AreRising keys → ⊥))
    → AreNoKinds letters ⊎ HasNoText words ⊎ AreTooMany words
too_many letters words keys nodes ways relations NoKind are some no_kind many unsorted =
    absurd (let bad : true ≡ false = sym some ∙ no_kind refl in cc)
too_many letters words keys nodes ways relations TooManyKeys are some no_kind many unsorted =
    inr (inr (record { different = keys; rising = are.rising; among = λ word. (are.each word).0; many = (many refl).1 }))
too_many letters words keys nodes ways relations Unsorted are some no_kind many unsorted = absurd ((unsorted refl).2 are.rising)
