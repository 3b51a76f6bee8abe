-- The first of the counts that are ahead.
use Rattle.std.proofs.Common.{◌≡◌, ℕ, ◌+◌, List, [], ◌∷◌, Option, Some, None, refl}
use Rattle.std.specs.Ordering.{nat_cmp}
use Rattle.std.specs.declared.cmp.Ordering.TheVariants.{Less, Equal, Greater}
use Rattle.osm_mirror.specs.Mirror.{Counted}
use Rattle.osm_net.specs.Laid.{added}
use Rattle.osm_net.proofs.AddedLemmas.{added-no_increment}
use Rattle.osm_save.specs.Reading.{count_at}
use Rattle.osm_merge.proofs.CountLemmas.{plus_above, plus_at, plus_below, plus_none, plus_nothing}
use Rattle.osm_merged.specs.Ahead.{CountsAhead, IsGiven, counts_ahead, held_before, with_first}
use Rattle.osm_merged.proofs.AheadLemmas.{first_given, none_ahead}

module _ (most lines : ℕ) (last : Option ℕ) (bytes : List ℕ) where
  abbrev pub place : List Counted → Option Counted → CountsAhead
  place ms held = record { most = most; ahead = record { changes = ms; lines = lines; last = last; held = held } }

  given : (ms ns : List Counted) (c d : Option Counted) (x : Counted)
      → ((xs : List Counted) → (lines ≡ 0 → xs ≡ []) → added ms (held_before c xs) ≡ x ∷ added ns (held_before d xs))
      → counts_ahead (place ms c) bytes ≡ with_first x (counts_ahead (place ns d) bytes)
  given ms ns c d x step = first_given added (λ (e : Counted). e.0) (count_at most) (place ms c).ahead (place ns d).ahead x bytes refl refl step

  -- no increment is left
  pub counted_last : (held : Option Counted) → (held ≡ None → lines ≡ 0)
      → IsGiven bytes (counts_ahead (place [] held) bytes) (counts_ahead (place [] None) bytes) held
  counted_last None filled =
      let ended : counts_ahead (place [] None) bytes ≡ Some ([], bytes) =
      none_ahead added (λ (e : Counted). e.0) (count_at most) (place [] None).ahead bytes (filled refl) refl (added-no_increment []) in
      (ended, ended)
  counted_last (Some c) filled = given [] [] (Some c) None c (λ xs none. plus_none c xs)

  -- no count is held, nor will one be
  pub counted_alone : (m : Counted) (ms : List Counted) → lines ≡ 0
      → counts_ahead (place (m ∷ ms) None) bytes ≡ with_first m (counts_ahead (place ms None) bytes)
  counted_alone m ms ended = given (m ∷ ms) ms None None m (λ xs none. rw (none ended) (plus_nothing m ms))

  pub counted_below : (m : Counted) (ms : List Counted) (c : Counted) → nat_cmp m.0 c.0 ≡ Less
      → counts_ahead (place (m ∷ ms) (Some c)) bytes ≡ with_first m (counts_ahead (place ms (Some c)) bytes)
  counted_below m ms c less = given (m ∷ ms) ms (Some c) (Some c) m (λ xs none. plus_below m ms c less xs)

  pub counted_at : (m : Counted) (ms : List Counted) (c : Counted) → nat_cmp m.0 c.0 ≡ Equal
      → counts_ahead (place (m ∷ ms) (Some c)) bytes ≡ with_first (c.0, m.1 + c.1) (counts_ahead (place ms None) bytes)
  counted_at m ms c equal = given (m ∷ ms) ms (Some c) None (c.0, m.1 + c.1) (λ xs none. plus_at m ms c equal xs)

  pub counted_above : (m : Counted) (ms : List Counted) (c : Counted) → nat_cmp m.0 c.0 ≡ Greater
      → counts_ahead (place (m ∷ ms) (Some c)) bytes ≡ with_first c (counts_ahead (place (m ∷ ms) None) bytes)
  counted_above m ms c greater = given (m ∷ ms) (m ∷ ms) (Some c) None c (λ xs none. plus_above m ms c greater xs)
