-- What a follower in a state holds.
use Rattle.std.proofs.Common.{◌≡◌, ℕ, zero, suc, ◌+◌, ◌<◌, ◌≤◌, List, [], ◌∷◌, ◌++◌, refl, ap, sym, ◌∙◌, Bool, true, false, arith, Some, None, Option}
use Rattle.std.specs.Prelude.{if◌then◌else◌, is_some, IsSome, filter, min, not, ◌-◌, ◌↔◌}
use Rattle.std.proofs.lemmas.List.Elements.{filter-append}
use Rattle.std.specs.Option.{option_map_or}
use Rattle.osm_model.specs.Filter.{FilterValue}
use Rattle.osm_follow.specs.Follower.{FollowerValue, Follows, IsState, changes_held, held_at, is_held}
use Rattle.osm_publisher.specs.Published.{PublishedValue, changes_at, sequence_at}
use Rattle.osm_follow.specs.Reach.{Reaches, between, missing_numbers, numbers}
use Rattle.osm_follow.proofs.FollowLemmas.{held_accepted, reaches_accepted}
use Rattle.osm_follow.proofs.ReachLemmas.{between_same}

pub fresh_is_unaccepted : (by : FilterValue) (ps : List PublishedValue) (base start : ℕ) (acc : ℕ → Bool) (f : FollowerValue)
    → IsState by ps base start acc f → (j : ℕ) → f.number < j → held_at f j ≡ None → acc j ≡ false
fresh_is_unaccepted by ps base start acc f s j past fresh = sym (held_accepted by ps base start acc f s j past) ∙ ap is_some fresh

pub held_was_accepted : (by : FilterValue) (ps : List PublishedValue) (base start : ℕ) (acc : ℕ → Bool) (f : FollowerValue)
    → IsState by ps base start acc f → (j : ℕ) → f.number < j → IsSome (held_at f j) → acc j ≡ true
held_was_accepted by ps base start acc f s j past has = sym (held_accepted by ps base start acc f s j past) ∙ has

changes_is : (by : FilterValue) (ps : List PublishedValue) (base start : ℕ) (acc : ℕ → Bool) (f : FollowerValue) → IsState by ps base start acc f
    → (j : ℕ) → f.number < j → acc j ≡ true → changes_held f j ≡ changes_at ps j
changes_is by ps base start acc f s j past is = ap (λ (o : Option PublishedValue). option_map_or (λ p. p.changes) o [])
    (s.held j past ∙ ap (λ b. if b then Some (sequence_at ps j) else None) is)

-- the changes held up to a number that is reached are the published ones
pub joined_is : (by : FilterValue) (ps : List PublishedValue) (base start : ℕ) (acc : ℕ → Bool) (f : FollowerValue) (k high count : ℕ)
    → IsState by ps base start acc f → f.number < k → high ≡ k + count → Reaches (is_held f) k high
    → between (changes_held f) k count ≡ between (changes_at ps) k count
joined_is by ps base start acc f k high count s past is r =
    let reach : Reaches acc k high = reaches_accepted by ps base start acc f k high s past r in
    between_same (changes_held f) (changes_at ps) k count
    (λ j above below. changes_is by ps base start acc f s j (omega arith) (reach.all j above (omega arith)))

-- what is held is as `Follows.held` says
held_as : (ps : List PublishedValue) (f : FollowerValue) (j : ℕ) → Follows ps f → IsSome (held_at f j) → (f.number + 1 < j) × (j ≤ f.number + 64)
held_as ps f j s has = by_case (held_at f j) refl has
  where
    by_case : (o : Option PublishedValue) → held_at f j ≡ o → IsSome o → (f.number + 1 < j) × (j ≤ f.number + 64)
    by_case (Some p) e t = (let h = s.held j p e in (h.0, h.1))
    by_case None e t = cc

pub held_within : (by : FilterValue) (ps : List PublishedValue) (base start : ℕ) (acc : ℕ → Bool) (f : FollowerValue) → IsState by ps base start acc f
    → (j : ℕ) → IsSome (held_at f j) → (f.number + 1 < j) × (j ≤ f.number + 64)
held_within by ps base start acc f s j has = held_as ps f j s.follows has

pub held_exactly : (by : FilterValue) (ps : List PublishedValue) (base start : ℕ) (acc : ℕ → Bool) (f : FollowerValue) → IsState by ps base start acc f
    → (j : ℕ) → IsSome (held_at f j) ↔ ((f.number < j) × (acc j ≡ true))
held_exactly by ps base start acc f s j = (
  λ has. (let past : f.number < j = (let h = held_as ps f j s.follows has in let above = h.0 in omega arith) in
      (past, held_was_accepted by ps base start acc f s j past has)),
  λ both. held_accepted by ps base start acc f s j both.0 ∙ both.1,
)

-- two tests that agree after n pick the same numbers after it
filter_same : (p q : ℕ → Bool) (n count : ℕ) → ((j : ℕ) → n < j → p j ≡ q j) → filter p (numbers n count) ≡ filter q (numbers n count)
filter_same p q n zero same = refl
filter_same p q n (suc count) same =
    filter-append p (numbers n count) ((n + suc count) ∷ [])
    ∙ (ap (λ (xs : List ℕ). xs ++ filter p ((n + suc count) ∷ [])) (filter_same p q n count same)
    ∙ (ap (λ (b : Bool). filter q (numbers n count) ++ (if b then (n + suc count) ∷ [] else [])) (same (n + suc count) (omega arith))
    ∙ sym (filter-append q (numbers n count) ((n + suc count) ∷ []))))

pub missing_as_accepted : (by : FilterValue) (ps : List PublishedValue) (base start : ℕ) (acc : ℕ → Bool) (f : FollowerValue)
    → IsState by ps base start acc f → (top : ℕ) → missing_numbers (is_held f) f.number top ≡ missing_numbers acc f.number top
missing_as_accepted by ps base start acc f s top = filter_same (λ j. not (is_held f j)) (λ j. not (acc j)) f.number
    (min 64 (top - f.number)) (λ j past. ap not (held_accepted by ps base start acc f s j past))
