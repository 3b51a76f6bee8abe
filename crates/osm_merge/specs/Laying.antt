-- Lists of a save text that are merged with changes, line by line.
use Rattle.std.specs.Prelude.{◌≡◌, ℕ, ◌+◌, ◌≤◌, List, [], ◌∷◌, ◌++◌, length, map, Option}
use Rattle.std.specs.Prelude.{Some}
use Rattle.osm_blocks.specs.Writing.{IsWritten, Waiting}
use Rattle.osm_mirror.specs.Mirror.{Counted}
use Rattle.osm_model.specs.declared.kind.Key.{Key}
use Rattle.osm_opl.specs.Written.{line_text}
use Rattle.osm_reading.specs.Pieces.{cut_at}
use Rattle.osm_reading.specs.Answers.{and_then}
use Rattle.osm_save.specs.Lines.{ended}
use Rattle.osm_save.specs.Reading.{object_of}
use Rattle.osm_store.specs.Frames.{IsKnown, StoreState}

-- the bytes were added at the end
abbrev pub Appends : List ℕ → List ℕ → List ℕ → Type 0
Appends old new bytes = new ≡ old ++ bytes

-- the bytes were added to the file that was begun
abbrev pub Writes : StoreState → Waiting → StoreState → Waiting → List ℕ → Type 0
Writes old before new after bytes =
    IsKnown old → (name text : List ℕ)
    → IsWritten old.stage before name text → IsWritten new.stage after name (text ++ bytes)

-- the value of the next line, and the bytes after it
unfoldable pub next_at :
    {X K : Type 0} → (Option K → List ℕ → Option X) → Option K → List ℕ → Option (X × List ℕ)
next_at item last bytes =
    and_then (cut_at 10 bytes) (λ l. and_then (item last l.0) (λ x. Some (x, l.1)))

-- the line is what is written of an object that has this key
pub record IsSpelled (key : Key) (line : List ℕ) : Type 0 where
  pub text : line ≡ line_text (object_of line)
  pub named : key ≡ (object_of line).key

-- changes laid over a value and those after it: lines were written, and then `rest` is laid over
-- the values after it
pub record Lays {E X : Type 0} (lay : List E → List X → List X) (text : X → List ℕ)
    (es : List E) (x : X) (rest : List E) (many : ℕ) (Out : List ℕ → Type 0) : Type 0 where
  pub put : List X
  pub laid : (xs : List X) → lay es (x ∷ xs) ≡ put ++ lay rest xs
  pub out : Out (ended (map text put))
  pub many_are : many ≡ length put
  pub few : many + length rest ≤ length es + 1

-- changes before a value were written, and `rest` is laid over it and the values after it
pub record LaysBelow {E X : Type 0} (lay : List E → List X → List X) (text : X → List ℕ)
    (es : List E) (x : X) (rest : List E) (many : ℕ) (Out : List ℕ → Type 0) : Type 0 where
  pub put : List X
  pub laid : (xs : List X) → lay es (x ∷ xs) ≡ put ++ lay rest (x ∷ xs)
  pub out : Out (ended (map text put))
  pub many_are : many ≡ length put
  pub few : many + length rest ≤ length es

-- changes laid over nothing
pub record LaysRest {E X : Type 0} (lay : List E → List X → List X) (text : X → List ℕ)
    (es : List E) (many : ℕ) (Out : List ℕ → Type 0) : Type 0 where
  pub out : Out (ended (map text (lay es [])))
  pub many_are : many ≡ length (lay es [])
  pub few : many ≤ length es

-- a count that has room for those of a save text
abbrev pub IsFew : Counted → Type 0
IsFew e = e.1 ≤ 9223372036854775807
