-- What is still to come of a list of a save text with net changes laid over it. Its lines are read
-- one after the other, and the changes are merged in.
use Rattle.std.specs.Prelude.{◌≡◌, ℕ, ◌+◌, ◌<◌, ◌≤◌, List, [], ◌∷◌, ◌++◌, length, Option, Some}
use Rattle.std.specs.Prelude.{None, Result, Ok, Err, Bool, true, false}
use Rattle.osm_mirror.specs.Mirror.{Counted}
use Rattle.osm_model.specs.Change.{ChangeValue}
use Rattle.osm_model.specs.Filter.{FilterValue}
use Rattle.osm_model.specs.declared.kind.Key.{Key}
use Rattle.osm_net.specs.Laid.{added, laid_over}
use Rattle.osm_net.specs.Net.{NetEntry}
use Rattle.osm_reading.specs.Answers.{and_then}
use Rattle.osm_save.specs.Reading.{count_at, items_at, object_at}
use Rattle.osm_merge.specs.Reading.{LineStops}
use Rattle.osm_merge.specs.declared.fault.MergeFault.{MergeFault}

-- how far the reading of a list has come: the changes that aren't laid yet, how many lines are
-- still to be read, the key of the last one that was, and the value that was read and isn't given
-- yet
pub record Ahead (E X K : Type 0) : Type 0 where
  pub changes : List E
  pub lines : ℕ
  pub last : Option K
  pub held : Option X

-- what is held, if anything, and the values after it
abbrev pub held_before : {X : Type 0} → Option X → List X → List X
held_before None xs = xs
held_before (Some x) xs = x ∷ xs

-- the values that are still to come, and the bytes after the list: the changes laid over what is
-- held and what the lines have; none if the lines can't be read
abbrev pub values_ahead :
    {E X K : Type 0} → (List E → List X → List X) → (X → K) → (Option K → List ℕ → Option X)
    → Ahead E X K → List ℕ → Option (List X × List ℕ)
values_ahead lay key item a bytes =
    and_then (items_at key item a.lines a.last bytes) (λ r.
    Some (lay a.changes (held_before a.held r.0), r.1))

-- the objects that are still to come
abbrev pub objects_ahead : FilterValue → Ahead NetEntry ChangeValue Key → List ℕ
    → Option (List ChangeValue × List ℕ)
objects_ahead f a bytes = values_ahead laid_over (λ c. c.key) (object_at f) a bytes

-- how far the reading of counts has come; each count is at most `most`
pub record CountsAhead : Type 0 where
  pub most : ℕ
  pub ahead : Ahead Counted Counted ℕ

-- the counts that are still to come
abbrev pub counts_ahead : CountsAhead → List ℕ → Option (List Counted × List ℕ)
counts_ahead a bytes = values_ahead added (λ e. e.0) (count_at a.most) a.ahead bytes

-- a value, and then those that are read
abbrev pub with_first : {X : Type 0} → X → Option (List X × List ℕ) → Option (List X × List ℕ)
with_first x reading = and_then reading (λ r. Some (x ∷ r.0, r.1))

-- the first of the values that were ahead was given, and the others are ahead now. None was given
-- only if none was ahead, and none is; `rest` is then what follows the list
abbrev pub IsGiven : {X : Type 0} → List ℕ → Option (List X × List ℕ) → Option (List X × List ℕ)
    → Option X → Type 0
IsGiven rest old new (Some x) = old ≡ with_first x new
IsGiven rest old new None = (old ≡ Some ([], rest)) × (new ≡ Some ([], rest))

-- that, or why nothing was given: a bad line or a long one only if what was ahead can't be read
abbrev pub Gives : {X : Type 0} → List ℕ → List ℕ → Option (List X × List ℕ)
    → Option (List X × List ℕ) → Result (Option X) MergeFault → Type 0
Gives file rest old new (Ok given) = IsGiven rest old new given
Gives file rest old new (Err fault) = LineStops file fault old

-- some bytes were passed, and what was given is the first of what was ahead, whatever comes after
-- those bytes: it goes by them alone
pub record GivesBy {X : Type 0} (old new : List ℕ → Option (List X × List ℕ))
    (bytes rest : List ℕ) (given : Option X) : Type 0 where
  pub passed : List ℕ
  pub parts : bytes ≡ passed ++ rest
  pub first : (tail : List ℕ) → IsGiven tail (old (passed ++ tail)) (new tail) given

-- what is read, with changes laid over the values
abbrev pub laid_after : {E X : Type 0} → (List E → List X → List X) → List E
    → Option (List X × List ℕ) → Option (List X × List ℕ)
laid_after lay es reading = and_then reading (λ r. Some (lay es r.0, r.1))

-- the most values that are ahead, by the lines that are said to be there
abbrev pub most_ahead : {E X K : Type 0} → Ahead E X K → ℕ
most_ahead a = a.lines + length a.changes + length (held_before a.held [])

-- the most values that are ahead, by the bytes that are left, since a line has a byte at least
abbrev pub most_in : {E X K : Type 0} → Ahead E X K → List ℕ → ℕ
most_in a bytes = length bytes + length a.changes + length (held_before a.held [])

-- fewer are ahead if one was given, and no more if none was
abbrev pub Falls : {X : Type 0} → ℕ → ℕ → Option X → Type 0
Falls old new None = new ≤ old
Falls old new (Some x) = new < old

-- the first of the objects that were ahead came, and so the others are ahead of what took it; or
-- none came, and the same is ahead. `Comes` holds of that object, and `Stays` if none came
abbrev pub PassesFirst : (ChangeValue → Type 0) → Type 0 → (List ChangeValue → List ℕ)
    → (List ChangeValue → List ℕ) → Bool → Type 0
PassesFirst Comes Stays before after true =
    (object : ChangeValue) × Comes object
    × ((objects : List ChangeValue) → before (object ∷ objects) ≡ after objects)
PassesFirst Comes Stays before after false =
    Stays × ((objects : List ChangeValue) → before objects ≡ after objects)
