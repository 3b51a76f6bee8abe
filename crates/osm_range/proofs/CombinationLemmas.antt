-- Combinations that compare as equal are equal.
use Rattle.std.proofs.Common.{◌≡◌, refl, true}
use Rattle.std.specs.Cmp.{Equal-is}
use Rattle.std.specs.Ordering.{nat_cmp, ordering_then}
use Rattle.std.specs.declared.cmp.Ordering.{Ordering}
use Rattle.std.specs.declared.cmp.Ordering.TheVariants.{Less, Equal, Greater}
use Rattle.std.proofs.lemmas.Map.Lookups.{exact_unsigned}
use Rattle.osm_range.specs.Columns.{Combination, combination_cmp, same_combination}

both_equal : (a b : Ordering) → ordering_then a b ≡ Equal → (a ≡ Equal) × (b ≡ Equal)
both_equal Less b e = absurd (cc)
both_equal Equal b e = (refl, e)
both_equal Greater b e = absurd (cc)

pub one_combination : (a b : Combination) → combination_cmp a b ≡ Equal → a ≡ b
one_combination a b e =
    let last = both_equal (ordering_then (ordering_then (nat_cmp a.0 b.0) (nat_cmp a.1 b.1)) (nat_cmp a.2 b.2)) (nat_cmp a.3 b.3) e in
    let third = both_equal (ordering_then (nat_cmp a.0 b.0) (nat_cmp a.1 b.1)) (nat_cmp a.2 b.2) last.0 in
    let second = both_equal (nat_cmp a.0 b.0) (nat_cmp a.1 b.1) third.0 in
    let p : a.0 ≡ b.0 = exact_unsigned a.0 b.0 second.0 in
    let q : a.1 ≡ b.1 = exact_unsigned a.1 b.1 second.1 in
    let r : a.2 ≡ b.2 = exact_unsigned a.2 b.2 third.1 in
    let s : a.3 ≡ b.3 = exact_unsigned a.3 b.3 last.1 in
    rw (p, q, r, s) refl

pub same_combination-only : (a b : Combination) → same_combination a b ≡ true → a ≡ b
same_combination-only a b e = one_combination a b ((Equal-is (combination_cmp a b)).0 e)
