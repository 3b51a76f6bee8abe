-- The sums of all objects and of their blocks.
use Rattle.std.proofs.Common.{◌≡◌, ℕ, zero, suc, ◌<◌, List, [], Option, Some, None, refl, sym, subst, ◌∙◌, arith}
use Rattle.std.specs.Prelude.{Bool, false, true}
use Rattle.osm_model.specs.Change.{ChangeValue}
use Rattle.osm_asking.specs.Steps.Summing.{AnyHasRoom, AnyIsNoted, AreInAny, AreOfSameKeys, AreSummed, HaveSameRoom, IsOfKeys, IsSumOf}
use Rattle.osm_asking.specs.declared.block_sums.Blocks.{Blocks}
use Rattle.osm_asking.specs.declared.sums.Sums.{Sums}

-- ---- blocks that there may be

pub same_keys : (o : Option Blocks) → AreOfSameKeys o o
same_keys None = tt
same_keys (Some b) = refl

pub same_keys_then : (a b c : Option Blocks) → AreOfSameKeys a b → AreOfSameKeys b c → AreOfSameKeys a c
same_keys_then None None None x y = tt
same_keys_then (Some a) (Some b) (Some c) x y = y ∙ x
same_keys_then None None (Some c) x y = y
same_keys_then None (Some b) c x y = absurd x
same_keys_then (Some a) None c x y = absurd x
same_keys_then (Some a) (Some b) None x y = y

pub room_keys : (a b : Option Blocks) → HaveSameRoom a b → AreOfSameKeys a b
room_keys None None same = tt
room_keys (Some a) (Some b) same = same.0
room_keys None (Some b) same = same
room_keys (Some a) None same = same

-- blocks whose lines were taken are as full as before
pub room_still : (a b : Option Blocks) (is_full : Bool) → HaveSameRoom a b → AnyIsNoted is_full a → AnyIsNoted is_full b
room_still None None is_full same noted = noted
room_still (Some a) (Some b) true same noted = (same.1 ∙ (noted.0 ∙ sym same.0), (let every = same.0 in let some = noted.1 in omega (arith, every, some)))
room_still (Some a) (Some b) false same noted = (let every = same.0 in let count = same.1 in omega (arith, every, count, noted))
room_still None (Some b) is_full same noted = absurd same
room_still (Some a) None is_full same noted = absurd same

-- a block that wasn't found full has room
pub noted_room : (a : Option Blocks) → AnyIsNoted false a → AnyHasRoom a
noted_room None noted = tt
noted_room (Some a) noted = noted

pub room_noted : (a : Option Blocks) → AnyHasRoom a → AnyIsNoted false a
room_noted None room = refl
room_noted (Some a) room = room

-- the blocks that are asked for stay so
pub of_keys : (a b : Option Blocks) (keys : ℕ) → AreOfSameKeys a b → IsOfKeys keys a → IsOfKeys keys b
of_keys None None keys same is = is
of_keys (Some a) (Some b) keys same is = (is.0, same ∙ is.1)
of_keys None (Some b) keys same is = absurd same
of_keys (Some a) None keys same is = absurd same

-- ---- all sums

-- lines were taken
pub summed_taken : (old new : Sums) (waiting : List ℕ) (objects : List ChangeValue)
    → ((os : List ChangeValue) → IsSumOf old.all waiting os → IsSumOf new.all [] os)
    → ((os : List ChangeValue) → AreInAny old.blocks waiting os → AreInAny new.blocks [] os) → HaveSameRoom old.blocks new.blocks
    → AreSummed old waiting objects → AreSummed new [] objects
summed_taken old new waiting objects all blocks same s = record {
  all = all objects s.all;
  blocks = blocks objects s.blocks;
  room = noted_room new.blocks (room_still old.blocks new.blocks false same (room_noted old.blocks s.room));
}
