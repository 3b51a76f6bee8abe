-- Counts with increments added to them.
use Rattle.std.proofs.Common.{◌≡◌, ℕ, ◌+◌, ◌<◌, ◌≤◌, ◌^◌, List, [], ◌∷◌, ◌++◌, length, sym, ap, ◌∙◌, None, Option, arith, length-append, decimal}
use Rattle.std.specs.List.{AllByRecursion}
use Rattle.std.specs.Ordering.{nat_cmp}
use Rattle.std.specs.declared.cmp.Ordering.TheVariants.{Less, Equal, Greater}
use Rattle.std.proofs.lemmas.Fmt.{length-decimal-le}
use Rattle.osm_blocks.specs.Places.{IsLong}
use Rattle.osm_mirror.specs.Mirror.{Counted}
use Rattle.osm_net.specs.Laid.{added}
use Rattle.osm_net.proofs.AddedLemmas.{added-above, added-at, added-below, added-no_count, added-no_increment}
use Rattle.osm_reading.proofs.PieceLemmas.{cut_takes}
use Rattle.osm_save.specs.Reading.{count_at}
use Rattle.osm_save.specs.Save.{count_text}
use Rattle.osm_save.proofs.CountLemmas.{TakesCount, count_takes}
use Rattle.osm_merge.specs.Laying.{Appends, IsFew, LaysBelow, next_at}
use Rattle.osm_merge.proofs.LineLemmas.{none_by, not_long}
use Rattle.osm_merge.proofs.ObjectLemmas.{next_long}

-- where increments stand before a count, each with room
pub record AddsBelow (es : List Counted) (c : Counted) (rest : List Counted) (many : ℕ) (old new : List ℕ) : Type 0 where
  pub below : LaysBelow added count_text es c rest many (Appends old new)
  pub few : AllByRecursion IsFew rest

pub few_after : (es rest : List Counted) (m : Counted) → es ≡ m ∷ rest → AllByRecursion IsFew es → IsFew m × AllByRecursion IsFew rest
few_after es rest m is few = rw is at few

pub plus_below : (m : Counted) (ms : List Counted) (c : Counted) → nat_cmp m.0 c.0 ≡ Less
    → (cs : List Counted) → added (m ∷ ms) (c ∷ cs) ≡ (m ∷ []) ++ added ms (c ∷ cs)
plus_below m ms c less cs = added-below m ms c cs less

pub plus_at : (m : Counted) (ms : List Counted) (c : Counted) → nat_cmp m.0 c.0 ≡ Equal
    → (cs : List Counted) → added (m ∷ ms) (c ∷ cs) ≡ ((c.0, m.1 + c.1) ∷ []) ++ added ms cs
plus_at m ms c equal cs = added-at m ms c cs equal

pub plus_above : (m : Counted) (ms : List Counted) (c : Counted) → nat_cmp m.0 c.0 ≡ Greater
    → (cs : List Counted) → added (m ∷ ms) (c ∷ cs) ≡ (c ∷ []) ++ added (m ∷ ms) cs
plus_above m ms c greater cs = added-above m ms c cs greater

pub plus_none : (c : Counted) (cs : List Counted) → added [] (c ∷ cs) ≡ (c ∷ []) ++ added [] cs
plus_none c cs = added-no_increment (c ∷ cs) ∙ ap (λ (l : List Counted). c ∷ l) (sym (added-no_increment cs))

pub plus_nothing : (m : Counted) (ms : List Counted) → added (m ∷ ms) [] ≡ (m ∷ []) ++ added ms []
plus_nothing m ms = added-no_count (m ∷ ms) ∙ ap (λ (l : List Counted). m ∷ l) (sym (added-no_count ms))

pub count_long : (most : ℕ) (last : Option ℕ) (bytes : List ℕ) → most ≤ 999999999999999999 → IsLong bytes
    → next_at (count_at most) last bytes ≡ None
count_long most last bytes small long = next_long (count_at most) last bytes (λ line after cut. none_by (count_at most last line) (λ e is.
    let t : TakesCount most last line e = count_takes most last line e is in
    let number : e.0 < 2 ^ 32 = t.number.high in
    let count : e.1 ≤ most = t.few in
    let first : length (decimal e.0) ≤ 18 = length-decimal-le 18 e.0 (omega arith) (omega (arith, number)) (omega (arith, number)) in
    let second : length (decimal e.1) ≤ 18 = length-decimal-le 18 e.1 (omega arith) (omega (arith, count, small)) (omega (arith, count, small)) in
    not_long bytes (count_text e) after long (cut_takes 10 bytes line after cut ∙ ap (λ (l : List ℕ). l ++ 10 ∷ after) t.text)
    (omega (arith, first, second, length-append (decimal e.0) (32 ∷ decimal e.1)))))
