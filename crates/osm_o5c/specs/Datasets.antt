-- The dataset at the start of bytes, and how far a file has been read.
use Rattle.std.specs.Prelude.{◌≡◌, ℕ, ◌==◌, List, [], ◌∷◌, ◌++◌, Option, Some, None, IsSome}
use Rattle.std.specs.Prelude.{if◌then◌else◌, nat_lt}
use Rattle.osm_model.specs.Change.{ChangeValue}
use Rattle.osm_model.specs.declared.kind.Kind.{Kind}
use Rattle.osm_model.specs.declared.kind.Kind.TheVariants as kinds
use Rattle.osm_reading.specs.Answers.{and_then}
use Rattle.osm_o5c.specs.Written.{no_counters}
use Rattle.osm_o5c.specs.NumberReading.{part_at}
use Rattle.osm_o5c.specs.ObjectReading.{object_at}
use Rattle.osm_o5c.specs.File.{changes_with}
use Rattle.osm_reading.specs.declared.refusal.Refusal.{Refusal}
use Rattle.osm_reading.specs.declared.refusal.Refusal.TheVariants.{WantOfMemory, Fault}
use Rattle.osm_o5c.specs.declared.reader.Reader.{Reader}

-- a reader after a reset
abbrev pub new_reader : Reader
new_reader = record { counters = no_counters; strings = [] }

abbrev pub kind_of_byte : ℕ → Option Kind
kind_of_byte t =
    if t == 16 then Some kinds.Node else (if t == 17 then Some kinds.Way
    else (if t == 18 then Some kinds.Relation else None))

unfoldable pub object_dataset_at : Kind → Reader → List ℕ
    → Option (Option ChangeValue × Reader × List ℕ)
object_dataset_at kind s bytes = and_then (part_at bytes) (λ p.
    and_then (object_at kind s p.0) (λ x. Some (Some x.0, x.1, p.1)))

unfoldable pub other_dataset_at : ℕ → Reader → List ℕ
    → Option (Option ChangeValue × Reader × List ℕ)
other_dataset_at t s bytes =
    if nat_lt t 240 then and_then (part_at bytes) (λ p. Some (None, s, p.1))
    else (if nat_lt t 254 then Some (None, s, bytes)
    else (if t == 255 then Some (None, new_reader, bytes) else None))

-- the dataset after its type byte: an object of that kind, or another dataset
abbrev pub dataset_of : Option Kind → ℕ → Reader → List ℕ
    → Option (Option ChangeValue × Reader × List ℕ)
dataset_of (Some kind) t = object_dataset_at kind
dataset_of None t = other_dataset_at t

-- a dataset: the change if it is an object, the reader after it, and the bytes after it
unfoldable pub dataset_at : Reader → List ℕ → Option (Option ChangeValue × Reader × List ℕ)
dataset_at s [] = None
dataset_at s (t ∷ bytes) = dataset_of (kind_of_byte t) t s bytes

-- the bytes begin with the type of an object
abbrev pub BeginsObject : List ℕ → Type 0
BeginsObject [] = ⊥
BeginsObject (t ∷ bytes) = IsSome (kind_of_byte t)

-- where a reader is in its file
pub record Position : Type 0 where
  pub reader : Reader
  pub changes : List ChangeValue
  pub rest : List ℕ

abbrev pub position : Reader → List ChangeValue → List ℕ → Position
position reader changes rest = record { reader = reader; changes = changes; rest = rest }

-- the position after a dataset: its change is added if it holds one
abbrev pub with_found : List ChangeValue → Option ChangeValue × Reader × List ℕ → Option Position
with_found changes x = Some (position x.1 (changes_with changes x.0) x.2)

-- the position after one more dataset, whatever the limits of the changes
unfoldable pub step : Position → Option Position
step p = and_then (dataset_at p.reader p.rest) (with_found p.changes)

-- there is no next position, or its changes aren't within the limits
abbrev pub Stops : (List ChangeValue → Type 0) → Option Position → Type 0
Stops Limits next = (q : Position) → next ≡ Some q → Limits q.changes → ⊥

-- no dataset is added: for a fault, none may come next; out of memory only at an object
abbrev pub StepStops : (List ChangeValue → Type 0) → Position → Refusal → Type 0
StepStops Limits p WantOfMemory = BeginsObject p.rest
StepStops Limits p (Fault why) = Stops Limits (step p)

-- a change isn't added: for a fault, it may not follow the others
abbrev pub ChangeStops : (List ChangeValue → Type 0) → List ChangeValue → ChangeValue → Refusal
    → Type 0
ChangeStops Limits changes c WantOfMemory = Unit {0}
ChangeStops Limits changes c (Fault why) = Limits (changes ++ c ∷ []) → ⊥

-- an object isn't added: for a fault, there is none, or it may not come next
abbrev pub ObjectStops : (List ChangeValue → Type 0) → Option Position → Refusal → Type 0
ObjectStops Limits next WantOfMemory = Unit {0}
ObjectStops Limits next (Fault why) = Stops Limits next
