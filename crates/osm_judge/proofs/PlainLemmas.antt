-- One more change is the last of its key; what is after the first changes; what is left of one that is kept.
use Rattle.std.proofs.Common.{◌≡◌, ℕ, ◌+◌, ◌<◌, List, [], ◌∷◌, ◌++◌, length, take, get_or, refl, ap, ◌∙◌, Bool, true, false, Some, None}
use Rattle.std.proofs.lemmas.List.{drop_min, take_more}
use Rattle.std.specs.Prelude.{if◌then◌else◌, drop, min}
use Rattle.osm_model.specs.Change.{ChangeValue}
use Rattle.osm_model.specs.Content.{last_of, later_of}
use Rattle.osm_model.specs.KeyOrder.{same_key}
use Rattle.osm_model.specs.declared.kind.Key.{Key}
use Rattle.osm_model.proofs.ContentLemmas.{last_of-append}
use Rattle.osm_model.proofs.FilterLemmas.{left_by-kept}
use Rattle.osm_model.specs.Filter.{FilterValue, keeps, left_by}

pub last_more : (cs : List ChangeValue) (i : ℕ) (c : ChangeValue) (k : Key) → i < length cs → get_or cs i c ≡ c
    → last_of (take (i + 1) cs) k ≡ (if same_key c.key k then Some c else last_of (take i cs) k)
last_more cs i c k lt is =
    ap (λ (xs : List ChangeValue). last_of xs k) (take_more cs i c lt ∙ ap (λ (x : ChangeValue). take i cs ++ x ∷ []) is)
    ∙ (last_of-append (take i cs) (c ∷ []) k ∙ by_test (same_key c.key k))
  where
    by_test : (b : Bool) → later_of (last_of (take i cs) k) (later_of (if b then Some c else None) None) ≡ (if b then Some c else last_of (take i cs) k)
    by_test true = refl
    by_test false = refl

pub after_most : (count : ℕ) (cs : List ChangeValue) → drop (min count (length cs)) cs ≡ drop count cs
after_most count cs = drop_min count cs

pub kept_is_left : (f : FilterValue) (c : ChangeValue) → keeps f c ≡ true → left_by f c ≡ Some c
kept_is_left = left_by-kept
