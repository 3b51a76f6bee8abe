-- A line that is passed as it is.
use Rattle.std.proofs.Common.{◌≡◌, ℕ, suc, ◌-◌, ◌<◌, List, [], ◌∷◌, Some, None, refl, sym, ap, ◌∙◌, arith}
use Rattle.std.specs.Ordering.{ordering_reverse}
use Rattle.std.specs.declared.cmp.Ordering.TheVariants.{Greater, Less}
use Rattle.osm_model.specs.Change.{ChangeValue}
use Rattle.osm_model.specs.Filter.{FilterValue}
use Rattle.osm_model.specs.KeyOrder.{key_cmp}
use Rattle.osm_model.specs.declared.kind.Key.{Key}
use Rattle.osm_model.proofs.DataLemmas.{keys_total}
use Rattle.osm_net.specs.Laid.{laid_over}
use Rattle.osm_net.specs.Net.{NetEntry}
use Rattle.osm_save.specs.Reading.{object_at}
use Rattle.osm_merge.specs.Laying.{next_at}
use Rattle.osm_merge.specs.Taking.{IsBelow}
use Rattle.osm_merged.specs.Ahead.{objects_ahead, with_first}
use Rattle.osm_merged.specs.Steps.Turns.{key_of_first, without_held}
use Rattle.osm_merged.specs.declared.objects.Turn.TheVariants.{Object}
use Rattle.osm_merged.proofs.AheadLemmas.{one_read}
use Rattle.osm_merged.proofs.TurnLemmas.{Objects, turned_above, turned_last}

-- the object of the next line, if its key is below that of the first entry: it is as if it had been held, and then given
pub line_passed : (f : FilterValue) (a : Objects) (key : Key) (bytes after : List ℕ) (x : ChangeValue) → a.held ≡ None → 0 < a.lines → x.key ≡ key
    → IsBelow (key_of_first a.changes) key → next_at (object_at f) a.last bytes ≡ Some (x, after)
    → objects_ahead f a bytes
    ≡ with_first x (objects_ahead f (record { changes = a.changes; lines = a.lines - 1; last = Some key; held = None }) after)
line_passed f a key bytes after x none some named below e =
    let more : a.lines ≡ suc (a.lines - 1) = omega (arith, some) in
    let kept = one_read laid_over (λ (o : ChangeValue). o.key) (object_at f) a filled bytes after x none more refl (ap Some (sym named)) refl e in
    (ap (objects_ahead f a) kept.parts ∙ kept.same after) ∙ by_first a.changes refl
  where
    filled : Objects
    filled = record { changes = a.changes; lines = a.lines - 1; last = Some key; held = Some x }

    by_first : (es : List NetEntry) → a.changes ≡ es → objects_ahead f filled after ≡ with_first x (objects_ahead f (without_held filled) after)
    by_first [] is = turned_last f after filled (without_held filled) (Object x) (λ held. absurd cc) is (refl, refl)
    by_first (e ∷ es) is =
        let less : key_cmp key e.0 ≡ Less = rw is at below in
        let greater : key_cmp e.0 x.key ≡ Greater = rw named (keys_total.antisymm e.0 key ∙ ap ordering_reverse less) in
        turned_above f after filled (without_held filled) (Object x) e es is greater (refl, refl)
