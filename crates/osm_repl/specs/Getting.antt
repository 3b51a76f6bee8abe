-- What the program does for the word `get`, which prints some objects of a save and its journal.
-- `input` is what standard input has. `printed` is what was printed before, and `after` what is
-- printed then. `lines` are the notes on objects that aren't there, and `noted` is the object that
-- is noted as refused.
use Rattle.std.specs.Prelude.{◌≡◌, ℕ, ◌++◌, ◌∷◌, ◌⊎◌, Bool, true, false, List, [], map, codes}
use Rattle.std.specs.Prelude.{FitsSigned, IsUtf8, None, Option, Some}
use Rattle.std.specs.Borrow.{Bor}
use Rattle.std.specs.Int.{w64}
use Rattle.std.specs.Io.KnownBytes.{Appends}
use Rattle.std.specs.List.{AllByRecursion, flat_map}
use Rattle.osm_model.specs.Change.{ChangeValue}
use Rattle.osm_model.specs.declared.kind.Key.{Key}
use Rattle.osm_opl.specs.Written.{key_text}
use Rattle.osm_store.specs.Files.{HasFailed}
use Rattle.osm_store.specs.Frames.{IsKnown, StoreState}
use Rattle.osm_kept.specs.Names.{journal_name_of}
use Rattle.osm_runs.specs.Keeping.{kept_fault_of}
use Rattle.osm_runs.specs.declared.fault.FileName.TheVariants as files
use Rattle.osm_runs.specs.declared.fault.RunFault.{RunFault}
use Rattle.osm_runs.specs.declared.fault.RunFault.TheVariants as runs
use Rattle.osm_runs.specs.declared.fault.RunFault.TheVariants.{BadObject, WantOfMemory}
use Rattle.osm_runs.specs.declared.options.Layout.{Layout}
use Rattle.osm_runs.specs.declared.options.Layout.TheVariants as layouts
use Rattle.osm_asking.specs.Asking.{AnswerStops, IsAnswer, IsOpened, OpenStops}
use Rattle.osm_asking.specs.Getting.{answer_text}
use Rattle.osm_asking.specs.Referring.{AreReferred}
use Rattle.osm_asking.specs.declared.ask_fault.AskFault.{AskFault}
use Rattle.osm_asking.specs.declared.ask_fault.AskFault.TheVariants as asks
use Rattle.osm_asking.specs.declared.fault.SearchFault.{SearchFault}
use Rattle.osm_asking.specs.declared.fault.SearchFault.TheVariants as searches
use Rattle.osm_asking.specs.declared.get.Form.{Form}
use Rattle.osm_asking.specs.declared.get.Form.TheVariants as forms
use Rattle.osm_asking.specs.declared.kept.Sources.{Sources}
use Rattle.osm_reading.specs.Pieces.{cut_at}
use Rattle.osm_reading.specs.Writing.{AppendsPart}
use Rattle.osm_words.specs.Echo.{echo_of}
use Rattle.osm_words.specs.declared.orders.Order.{Order}
use Rattle.osm_words.specs.declared.orders.Order.TheVariants.{Get}
use Rattle.osm_repl.specs.Sums.{IsFirstRefused}
use Rattle.osm_repl.specs.declared.sought.Sought.{Sought}
use Rattle.osm_repl.specs.declared.sought.Sought.TheVariants.{Input, Object}

abbrev pub IsGet : Order → Type 0
IsGet (Get save referred) = Unit {0}
IsGet order = ⊥

-- ---- what the words name

-- the word names that object, or stands for the lines of standard input
abbrev pub IsSought : List ℕ → Sought → Type 0
IsSought word (Object key) = word ≡ key_text key
IsSought word Input = word ≡ codes "-"

-- the word names an object
abbrev pub NamesObject : List ℕ → Type 0
NamesObject word = (key : Key) × FitsSigned w64 key.id × (word ≡ key_text key)

-- the same, or the word stands for standard input
abbrev pub NamesSought : List ℕ → Type 0
NamesSought word = (word ≡ codes "-") ⊎ NamesObject word

-- the word is that of something that is looked for
abbrev pub IsSoughtWord : List ℕ → Type 0
IsSoughtWord word = (sought : Sought) × IsSought word sought

-- the text of a word that names that
abbrev pub sought_text : Sought → List ℕ
sought_text (Object key) = key_text key
sought_text Input = codes "-"

-- the words name those
pub record AreSought (words : List (Bor (List ℕ))) (sought : List Sought) : Type 0 where
  pub same : map (λ word. word.now) words ≡ map sought_text sought
  pub each : AllByRecursion (λ word. IsSoughtWord word.now) words

-- why a word that isn't `-` names no object
abbrev pub IsObjectRefused : List ℕ → List ℕ → RunFault → Type 0
IsObjectRefused word noted fault =
    ((fault ≡ BadObject) × (NamesObject word → ⊥) × (noted ≡ echo_of word))
    ⊎ ((fault ≡ WantOfMemory) × (noted ≡ []))

-- why the words name nothing: one of them doesn't, and that is noted
abbrev pub RefusesSought : List (Bor (List ℕ)) → List ℕ → RunFault → Type 0
RefusesSought words noted fault =
    ((fault ≡ BadObject) × IsFirstRefused IsSoughtWord NamesSought words noted)
    ⊎ ((fault ≡ WantOfMemory) × (noted ≡ []))

-- ---- what is asked for

-- lines that name those objects, each with LF
abbrev pub lines_of : List Key → List ℕ
lines_of keys = flat_map (λ key. key_text key ++ 10 ∷ []) keys

-- such lines are the first of the bytes, of which that is left; the last line may have no LF if
-- nothing is left
abbrev pub IsLeft : List ℕ → List Key → List ℕ → Type 0
IsLeft bytes keys left =
    (bytes ≡ lines_of keys ++ left) ⊎ ((bytes ++ 10 ∷ [] ≡ lines_of keys) × (left ≡ []))

-- known bytes are such lines
abbrev pub AreLines : Option (List ℕ) → List Key → Type 0
AreLines None keys = Unit {0}
AreLines (Some bytes) keys = IsLeft bytes keys []

-- a word asks for those objects: for one, or for those of the lines of the input
abbrev pub AsksOne : Sought → Option (List ℕ) → List Key → Type 0
AsksOne (Object key) input keys = keys ≡ key ∷ []
AsksOne Input input keys = AreLines input keys

-- the input after a word: it is read to its end, once
abbrev pub input_after : Sought → Option (List ℕ) → Option (List ℕ)
input_after (Object key) input = input
input_after Input input = Some []

-- the words ask for those objects in turn
abbrev pub AsksFor : List Sought → Option (List ℕ) → List Key → Type 0
AsksFor [] input keys = keys ≡ []
AsksFor (each ∷ sought) input keys =
    (first : List Key) × (others : List Key) × (keys ≡ first ++ others) × AsksOne each input first
    × AsksFor sought (input_after each input) others

-- what comes next where a run ends before its end: an object is asked for, a line of the input is
-- refused, the input is read on, or what was printed is asked for what it refers to
pub data Next : Type 0 where
  Asks : Key → Next
  Refuses : List ℕ → Next
  Reads : Next
  Gathers : Next

-- the first line, or all if there is no LF
abbrev pub first_of : Option (List ℕ × List ℕ) → List ℕ → List ℕ
first_of None bytes = bytes
first_of (Some cut) bytes = cut.0

abbrev pub first_line : List ℕ → List ℕ
first_line bytes = first_of (cut_at 10 bytes) bytes

-- of what is left, the first line names the object that is asked for, or is refused
abbrev pub IsFront : List ℕ → Next → Type 0
IsFront left (Asks key) = first_line left ≡ key_text key
IsFront left (Refuses line) = (left ≡ [] → ⊥) × (line ≡ first_line left)
IsFront left Reads = Unit {0}
IsFront left Gathers = ⊥

-- after such lines of known bytes, that comes next
abbrev pub IsNextLine : Option (List ℕ) → List Key → Next → Type 0
IsNextLine None keys next = next ≡ Gathers → ⊥
IsNextLine (Some bytes) keys next =
    (left : List ℕ) × IsLeft bytes keys left × IsFront left next

-- after those objects of one word, that comes next
abbrev pub IsNextOf : Sought → Option (List ℕ) → List Key → Next → Type 0
IsNextOf (Object key) input keys next = (keys ≡ []) × (next ≡ Asks key)
IsNextOf Input input keys next = IsNextLine input keys next

-- after those objects, that comes next of what the words ask for
abbrev pub AsksFirst : List Sought → Option (List ℕ) → List Key → Next → Type 0
AsksFirst [] input keys next = ⊥
AsksFirst (each ∷ sought) input keys next =
    IsNextOf each input keys next
    ⊎ ((first : List Key) × (others : List Key) × (keys ≡ first ++ others)
    × AsksOne each input first × AsksFirst sought (input_after each input) others next)

-- ---- what is answered

-- a save that is asked: what is seen of the store, its name, the form of its answers, and what was
-- opened
pub record Search : Type 0 where
  pub old : StoreState
  pub save : List ℕ
  pub form : Form
  pub sources : Sources

-- an object that is asked for, and the answer
abbrev pub Found : Type 0
Found = Key × Option ChangeValue

abbrev pub IsFoundIn : Search → Found → Type 0
IsFoundIn s e =
    IsAnswer (IsKnown s.old) (s.old.files s.save) (s.old.files (journal_name_of s.save)) s.sources
    e.0 e.1

-- `w-5: not there` and LF if there is no object
abbrev pub absent_line : Found → List ℕ
absent_line (key, None) = key_text key ++ codes ": not there\n"
absent_line (key, Some c) = []

-- the objects that were asked for
abbrev pub keys_of : List Found → List Key
keys_of found = map (λ e. e.0) found

-- those are the answers, they were printed, and it was noted which objects aren't there
pub record Prints (s : Search) (found : List Found) (printed after : Option (List ℕ))
    (lines : List ℕ) : Type 0 where
  pub each : AllByRecursion (IsFoundIn s) found
  pub text : Appends printed after (flat_map (λ e. answer_text s.form e.1) found)
  pub lines_are : lines ≡ flat_map absent_line found

-- the keys that were asked for, the last one first
abbrev pub asked_of : List Found → List Key → List Key
asked_of [] asked = asked
asked_of (e ∷ found) asked = asked_of found (e.0 ∷ asked)

-- the objects that were there, the last one first
abbrev pub there_of : List Found → List ChangeValue → List ChangeValue
there_of [] there = there
there_of ((key, None) ∷ found) there = there_of found there
there_of ((key, Some c) ∷ found) there = there_of found (c ∷ there)

-- the objects that are asked for at the end: those that the others refer to, by rising keys, if
-- that is wanted
abbrev pub AreMore : Bool → List Found → List Key → Type 0
AreMore true found more = AreReferred (asked_of found []) (there_of found []) more
AreMore false found more = more ≡ []

-- after those objects, that comes next of what others refer to
abbrev pub IsNextLeft : List Key → List ChangeValue → List Key → Next → Type 0
IsNextLeft asked there keys Gathers = keys ≡ []
IsNextLeft asked there keys (Asks key) =
    (more : List Key) × (rest : List Key) × AreReferred asked there more
    × (more ≡ keys ++ key ∷ rest)
IsNextLeft asked there keys next = ⊥

-- the same of what was found, if that is wanted
abbrev pub IsNextReferred : Bool → List Found → List Key → Next → Type 0
IsNextReferred true found keys next =
    IsNextLeft (asked_of found []) (there_of found []) keys next
IsNextReferred false found keys next = ⊥

-- the form of that layout
abbrev pub form_for : Layout → Form
form_for layouts.Lines = forms.Opl
form_for layouts.Json = forms.Json

-- 1 if an object isn't there
abbrev pub status_for : List ℕ → ℕ
status_for [] = 0
status_for (byte ∷ lines) = 1

-- all was printed that the words ask for
pub record IsGot (layout : Layout) (save : List ℕ) (referred : Bool)
    (words : List (Bor (List ℕ))) (old : StoreState) (input : Option (List ℕ))
    (printed after : Option (List ℕ)) (lines : List ℕ) (status : ℕ) : Type 0 where
  pub sought : List Sought
  pub sought_are : AreSought words sought
  pub sources : Sources
  pub opened : IsOpened (IsKnown old) (old.files save) (old.files (journal_name_of save)) sources
  pub found : List Found
  pub asks : AsksFor sought input (keys_of found)
  pub more : List Found
  pub are_more : AreMore referred found (keys_of more)
  pub prints : Prints
      (record { old = old; save = save; form = form_for layout; sources = sources })
      (found ++ more) printed after lines
  pub status_is : status ≡ status_for lines

abbrev pub IsGotFor : Layout → Order → List (Bor (List ℕ)) → StoreState → Option (List ℕ)
    → Option (List ℕ) → Option (List ℕ) → List ℕ → ℕ → Type 0
IsGotFor layout (Get save referred) words old input printed after lines status =
    IsGot layout save.now referred words old input printed after lines status
IsGotFor layout order words old input printed after lines status = ⊥

-- ---- why it ends with a fault

-- the fault of a search as that of a run
abbrev pub search_fault_of : SearchFault → RunFault
search_fault_of searches.Failed = runs.ReadFault files.Save
search_fault_of searches.Gone = runs.Changed files.Save
search_fault_of (searches.BadHead line) = runs.BadSave line
search_fault_of (searches.BadLine place) = runs.BadSaveAt place
search_fault_of searches.TooLarge = runs.TooLarge files.Save
search_fault_of searches.WantOfMemory = WantOfMemory

-- the fault of a save that is asked as that of a run
abbrev pub ask_fault_of : AskFault → RunFault
ask_fault_of asks.NoSave = runs.Absent files.Save
ask_fault_of (asks.Kept fault) = kept_fault_of fault
ask_fault_of (asks.Search fault) = search_fault_of fault
ask_fault_of asks.NotWritten = runs.WriteFault files.Output
ask_fault_of asks.WantOfMemory = WantOfMemory

-- the device of the store is the reason
abbrev pub IsStoreFault : RunFault → Type 0
IsStoreFault (runs.ReadFault files.Save) = Unit {0}
IsStoreFault (runs.ReadFault files.Journal) = Unit {0}
IsStoreFault fault = ⊥

-- the device is the reason only if its count of failures rose, or was already at its greatest value
abbrev pub BlamesStore : ℕ → ℕ → RunFault → Type 0
BlamesStore old new fault = IsStoreFault fault → HasFailed old new

-- the save and its journal aren't opened
pub record IsUnopened (save : List ℕ) (old : StoreState) (fault : RunFault) : Type 0 where
  pub why : AskFault
  pub fault_is : fault ≡ ask_fault_of why
  pub stops : OpenStops old save (old.files (journal_name_of save)) why

-- after those objects, that comes next: of what the words ask for, or of what that refers to
abbrev pub ComesNext : List Sought → Option (List ℕ) → Bool → List Found → Next → Type 0
ComesNext sought input referred found next =
    AsksFirst sought input (keys_of found) next
    ⊎ ((first : List Found) × (more : List Found) × (found ≡ first ++ more)
    × AsksFor sought input (keys_of first) × IsNextReferred referred first (keys_of more) next)

-- why the next object isn't printed: if standard output failed, a part of its line was
abbrev pub IsUnanswered : Search → Key → Option (List ℕ) → Option (List ℕ) → AskFault → Type 0
IsUnanswered s key between after asks.NotWritten =
    (answer : Option ChangeValue) × IsFoundIn s (key, answer)
    × AppendsPart between after (answer_text s.form answer)
IsUnanswered s key between after why = AnswerStops s.old s.save why × (after ≡ between)

-- the word of a line: nothing if it isn't text
abbrev pub IsWordOf : List ℕ → List ℕ → Type 0
IsWordOf line word = (IsUtf8 line × (word ≡ line)) ⊎ ((IsUtf8 line → ⊥) × (word ≡ []))

-- why the input isn't read on
abbrev pub IsInputFault : RunFault → Type 0
IsInputFault fault = (fault ≡ runs.ReadFault files.Input) ⊎ (fault ≡ WantOfMemory)

-- why what comes next isn't done
abbrev pub GetStops : Search → Next → Option (List ℕ) → Option (List ℕ) → List ℕ → RunFault
    → Type 0
GetStops s (Asks key) between after noted fault = (noted ≡ [])
    × ((why : AskFault) × (fault ≡ ask_fault_of why) × IsUnanswered s key between after why)
GetStops s (Refuses line) between after noted fault = (after ≡ between)
    × ((word : List ℕ) × IsWordOf line word × IsObjectRefused word noted fault)
GetStops s Reads between after noted fault = (after ≡ between) × (noted ≡ []) × IsInputFault fault
GetStops s Gathers between after noted fault =
    (after ≡ between) × (noted ≡ []) × (fault ≡ WantOfMemory)

-- those were printed and noted, and what comes next isn't done
pub record Stops (s : Search) (found : List Found) (next : Next) (printed after : Option (List ℕ))
    (lines noted : List ℕ) (fault : RunFault) : Type 0 where
  pub between : Option (List ℕ)
  pub prints : Prints s found printed between lines
  pub stops : GetStops s next between after noted fault

-- a part was printed of what the words ask for
pub record IsGotInPart (layout : Layout) (save : List ℕ) (referred : Bool)
    (words : List (Bor (List ℕ))) (old : StoreState) (input : Option (List ℕ))
    (printed after : Option (List ℕ)) (lines noted : List ℕ) (fault : RunFault) : Type 0 where
  pub sought : List Sought
  pub sought_are : AreSought words sought
  pub sources : Sources
  pub opened : IsOpened (IsKnown old) (old.files save) (old.files (journal_name_of save)) sources
  pub found : List Found
  pub next : Next
  pub comes : ComesNext sought input referred found next
  pub stops : Stops
      (record { old = old; save = save; form = form_for layout; sources = sources })
      found next printed after lines noted fault

-- why the word `get` isn't done: its words name nothing, or the save isn't opened, and nothing was
-- printed; or a part was printed
abbrev pub IsNotGotFor : Layout → Order → List (Bor (List ℕ)) → StoreState → Option (List ℕ)
    → Option (List ℕ) → Option (List ℕ) → List ℕ → List ℕ → RunFault → Type 0
IsNotGotFor layout (Get save referred) words old input printed after lines noted fault =
    ((after ≡ printed) × (lines ≡ []) × (RefusesSought words noted fault
    ⊎ ((noted ≡ []) × ((sought : List Sought) × AreSought words sought)
    × IsUnopened save.now old fault)))
    ⊎ IsGotInPart layout save.now referred words old input printed after lines noted fault
IsNotGotFor layout order words old input printed after lines noted fault = ⊥
