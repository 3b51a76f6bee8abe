-- What the word `get` prints of an object.
use Rattle.std.specs.Prelude.{◌≡◌, ℕ, List, [], ◌∷◌, ◌++◌, Bool, IsTrue, Option, Some, None}
use Rattle.std.specs.Prelude.{is_some}
use Rattle.std.specs.Io.KnownBytes.{Appends}
use Rattle.osm_model.specs.Change.{ChangeValue}
use Rattle.osm_model.specs.declared.kind.Key.{Key}
use Rattle.osm_opl.specs.Written.{line_text}
use Rattle.osm_reading.specs.Writing.{AppendsPart}
use Rattle.osm_store.specs.Frames.{IsKnown, StoreState}
use Rattle.osm_asking.specs.Asking.{AnswerStops, IsAnswer, IsOpened}
use Rattle.osm_asking.specs.Json.{object_json}
use Rattle.osm_asking.specs.Reads.{NoneBegins}
use Rattle.osm_asking.specs.Referring.{KnowsOf}
use Rattle.osm_asking.specs.declared.ask_fault.AskFault.{AskFault}
use Rattle.osm_asking.specs.declared.ask_fault.AskFault.TheVariants.{NotWritten}
use Rattle.osm_asking.specs.declared.get.Asking.{Asking}
use Rattle.osm_asking.specs.declared.get.Form.{Form}
use Rattle.osm_asking.specs.declared.get.Form.TheVariants.{Json, Opl}

-- the text of an object in that form, without a line end
abbrev pub object_text : Form → ChangeValue → List ℕ
object_text Opl c = line_text c
object_text Json c = object_json c

-- the line of an answer, with LF; nothing if there is no object
abbrev pub answer_text : Form → Option ChangeValue → List ℕ
answer_text form None = []
answer_text form (Some c) = object_text form c ++ 10 ∷ []

-- a save and its journal, which hold that, are asked for objects
pub record IsAsking (known : Type 0) (told journal : Option (List ℕ)) (a : Asking) : Type 0 where
  pub opened : IsOpened known told journal a.sources

-- the form in which objects are printed
abbrev pub form_of : Asking → Form
form_of a = a.form

-- references are noted
abbrev pub notes_references : Asking → Bool
notes_references a = a.refers

-- no line of the file begins after the place that is taken for its end
abbrev pub KnowsEnd : List ℕ → Asking → Type 0
KnowsEnd file a = NoneBegins file a.end

-- what was asked for and what was printed while references were noted
abbrev pub HasNoted : List Key → List ChangeValue → Asking → Type 0
HasNoted asked printed a = KnowsOf a.referred.keys.entries asked printed

-- an answer before the objects that were printed earlier
abbrev pub before_those : Option ChangeValue → List ChangeValue → List ChangeValue
before_those None printed = printed
before_those (Some c) printed = c ∷ printed

-- the key and the answer are noted if references are noted
abbrev pub IsNoted : Key → Option ChangeValue → Asking → Asking → Type 0
IsNoted key answer old new =
    (asked : List Key) (printed : List ChangeValue) → IsTrue (notes_references old)
    → HasNoted asked printed old → HasNoted (key ∷ asked) (before_those answer printed) new

-- exactly the line of the object with that key was printed, or nothing if there is none
pub record IsPrinted (known : Type 0) (told journal : Option (List ℕ)) (key : Key)
    (old new : Asking) (printed after : Option (List ℕ)) (is_there : Bool) : Type 0 where
  pub answer : Option ChangeValue
  pub is : IsAnswer known told journal old.sources key answer
  pub there : is_there ≡ is_some answer
  pub text : Appends printed after (answer_text old.form answer)
  pub noted : IsNoted key answer old new

-- the line of the object with that key was printed in part
pub record IsCut (known : Type 0) (told journal : Option (List ℕ)) (key : Key) (a : Asking)
    (printed after : Option (List ℕ)) : Type 0 where
  pub answer : Option ChangeValue
  pub is : IsAnswer known told journal a.sources key answer
  pub part : AppendsPart printed after (answer_text a.form answer)

-- why the object isn't printed: if standard output failed, a part of its line was, and otherwise
-- nothing
abbrev pub IsNotPrinted : StoreState → List ℕ → Option (List ℕ) → Key → Asking → Option (List ℕ)
    → Option (List ℕ) → AskFault → Type 0
IsNotPrinted state save journal key a printed after NotWritten =
    IsCut (IsKnown state) (state.files save) journal key a printed after
IsNotPrinted state save journal key a printed after fault =
    AnswerStops state save fault × (after ≡ printed)

-- the same files are asked, in the same form
pub record IsSameAsking (old new : Asking) : Type 0 where
  pub sources : new.sources ≡ old.sources
  pub form : new.form ≡ old.form
