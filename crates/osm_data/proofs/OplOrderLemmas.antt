-- The key of the last object says which objects may follow.
use Rattle.std.proofs.Common.{◌≡◌, List, [], ◌∷◌, ◌++◌, map, Option, Some, refl, sym, subst}
use Rattle.std.specs.List.Sorted.{IsStrictlySortedBy}
use Rattle.osm_model.specs.Change.{ChangeValue, IsChange}
use Rattle.osm_model.specs.Data.{AreBelow, IsNext}
use Rattle.osm_model.specs.KeyOrder.{key_cmp}
use Rattle.osm_model.specs.declared.kind.Key.{Key}
use Rattle.osm_model.proofs.DataLemmas.{all_last, below_of, keys_total, left_of, next_of, no_objects}
use Rattle.osm_data.specs.OplReading.{last_key}
use Rattle.osm_data.specs.Steps.Keys.{IsBelow}
use Rattle.osm_data.specs.Steps.OplObjects.{MayFollow, NeverFollows}

after_below : (objects : List ChangeValue) (key : Key) → AreBelow objects key → IsBelow (last_key objects) key
after_below [] key below = tt
after_below (o ∷ []) key below = below.0
after_below (o ∷ p ∷ os) key below = after_below (p ∷ os) key below.1

below_after : (objects : List ChangeValue) (key : Key) → IsStrictlySortedBy key_cmp (map (λ (o : ChangeValue). o.key) objects)
    → IsBelow (last_key objects) key → AreBelow objects key
unfolding IsStrictlySortedBy
below_after [] key rising after = tt
below_after (o ∷ []) key rising after = (after, tt)
below_after (o ∷ p ∷ os) key rising after =
    let rest = below_after (p ∷ os) key rising.1 after in
    (keys_total.trans o.key p.key key rising.0.0 rest.0, rest)

-- an object that may stand alone, with a key above the last one, may follow
pub follows : (last : Option Key) (c : ChangeValue) → IsNext [] c → IsBelow last c.key → MayFollow last c
follows last c alone after = λ objects right is.
    next_of objects c right alone.limits.0 alone.left.0
    (below_after objects c.key right.rising (subst (λ (k : Option Key). IsBelow k c.key) is after))

-- one that may not stand alone may not follow
pub never_alone : (last : Option Key) (c : ChangeValue) → (IsNext [] c → ⊥) → NeverFollows last c
never_alone last c never = λ objects right is next.
    never (next_of [] c no_objects (all_last IsChange objects c next.limits) (left_of objects c next) tt)

-- nor may one whose key isn't above the last one
pub never_below : (last : Option Key) (c : ChangeValue) → (IsBelow last c.key → ⊥) → NeverFollows last c
never_below last c never = λ objects right is next.
    never (subst (λ (k : Option Key). IsBelow k c.key) (sym is) (after_below objects c.key (below_of objects c next.rising)))

pub last_key-push : (objects : List ChangeValue) (c : ChangeValue) → last_key (objects ++ c ∷ []) ≡ Some c.key
last_key-push [] c = refl
last_key-push (o ∷ []) c = refl
last_key-push (o ∷ p ∷ os) c = last_key-push (p ∷ os) c
