-- How the first of the values that are ahead is found.
use Rattle.std.specs.Prelude.{◌≡◌, ℕ, ◌+◌, ◌<◌, List, [], ◌∷◌, ◌++◌, length, Option, Some, None}
use Rattle.std.specs.declared.cmp.Ordering.{Ordering}
use Rattle.std.specs.declared.cmp.Ordering.TheVariants.{Less}
use Rattle.osm_model.specs.Change.{ChangeValue}
use Rattle.osm_model.specs.KeyOrder.{key_cmp}
use Rattle.osm_model.specs.declared.kind.Key.{Key}
use Rattle.osm_net.specs.Net.{NetEntry}
use Rattle.osm_opl.specs.Written.{line_text}
use Rattle.osm_merged.specs.Ahead.{Ahead, Falls, held_before, most_ahead, with_first}
use Rattle.osm_merged.specs.declared.objects.Turn.{Turn}
use Rattle.osm_merged.specs.declared.objects.Turn.TheVariants.{End, Gone, Object}

-- a value is held, or no line is left
abbrev pub IsFilled : {E X K : Type 0} → Ahead E X K → Type 0
IsFilled a = a.held ≡ None → a.lines ≡ 0

-- a line may have been read: the changes stay, and as many values are ahead at most
pub record Fills {E X K : Type 0} (old new : Ahead E X K) : Type 0 where
  pub changes : new.changes ≡ old.changes
  pub most : most_ahead new ≡ most_ahead old

-- some bytes were passed, and the same is ahead, whatever comes after them
pub record KeepsAhead {X : Type 0} (old new : List ℕ → Option (List X × List ℕ))
    (bytes rest : List ℕ) : Type 0 where
  pub passed : List ℕ
  pub parts : bytes ≡ passed ++ rest
  pub same : (tail : List ℕ) → old (passed ++ tail) ≡ new tail

-- the values that need no line
abbrev pub waiting : {E X K : Type 0} → Ahead E X K → ℕ
waiting a = length a.changes + length (held_before a.held [])

-- the first was taken from what was ahead, or an entry that leaves nothing, or there is nothing
abbrev pub Turns : Option (List ChangeValue × List ℕ) → Option (List ChangeValue × List ℕ)
    → List ℕ → Turn → Type 0
Turns old new bytes (Object c) = old ≡ with_first c new
Turns old new bytes Gone = old ≡ new
Turns old new bytes End = (old ≡ Some ([], bytes)) × (new ≡ Some ([], bytes))

-- the line of the object is there
abbrev pub TurnsText : List ℕ → Turn → Type 0
TurnsText text (Object c) = text ≡ line_text c
TurnsText text Gone = Unit {0}
TurnsText text End = Unit {0}

-- no line was read, and a value fewer waits, or a change fewer too
abbrev pub Shrinks : {E X K : Type 0} → Ahead E X K → Ahead E X K → Turn → Type 0
Shrinks old new (Object c) = (new.lines ≡ old.lines) × (waiting new < waiting old)
Shrinks old new Gone =
    (new.lines ≡ old.lines) × (waiting new < waiting old)
    × (length new.changes < length old.changes)
Shrinks old new End = new ≡ old

-- how a key is to that of what is held: below it if nothing is
abbrev pub rank_of : Key → Option ChangeValue → Ordering
rank_of key None = Less
rank_of key (Some c) = key_cmp key c.key

-- the same without what is held
abbrev pub without_held : {E X K : Type 0} → Ahead E X K → Ahead E X K
without_held a = record { changes = a.changes; lines = a.lines; last = a.last; held = None }

-- what is held was given
abbrev pub GivesHeld : {E K : Type 0} → Ahead E ChangeValue K → Ahead E ChangeValue K → Turn
    → Type 0
GivesHeld old new (Object c) = (old.held ≡ Some c) × (new ≡ without_held old)
GivesHeld old new Gone = ⊥
GivesHeld old new End = (old.held ≡ None) × (new ≡ old)

-- what an entry leaves is given
abbrev pub GivesLeft : Option ChangeValue → Turn → Type 0
GivesLeft None turn = turn ≡ Gone
GivesLeft (Some c) turn = turn ≡ Object c

-- no line was read, and a value fewer waits if one was given
pub record Lessens {E X K : Type 0} (old new : Ahead E X K) (given : Option X) : Type 0 where
  pub lines : new.lines ≡ old.lines
  pub fewer : Falls (waiting old) (waiting new) given

-- the key of the first entry, if there is one
abbrev pub key_of_first : List NetEntry → Option Key
key_of_first [] = None
key_of_first (e ∷ es) = Some e.0
