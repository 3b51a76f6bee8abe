-- What a save and its journal answer. `known` says that it is known what the files hold, and `told`
-- and `journal` are then what the two files hold, none if there is no such file.
use Rattle.std.specs.Prelude.{◌≡◌, ℕ, List, [], ◌∷◌, ◌++◌, drop, Option, Some, None, IfSome}
use Rattle.std.specs.List.{AllByRecursion}
use Rattle.osm_model.specs.Change.{ChangeValue}
use Rattle.osm_model.specs.declared.kind.Key.{Key}
use Rattle.osm_mirror.specs.Mirror.{object_at}
use Rattle.osm_net.specs.Laid.{laid_over}
use Rattle.osm_net.specs.Net.{AreKeysRising, HasOwnKey, NetEntry, NetValue, net_at}
use Rattle.osm_opl.specs.Written.{line_text}
use Rattle.osm_save.specs.Save.{SpellsSave}
use Rattle.osm_save.specs.declared.save.Saved.{Saved}
use Rattle.osm_store.specs.Frames.{IsKnown, StoreState}
use Rattle.osm_kept.specs.Finding.{StartsAs, bytes_of}
use Rattle.osm_kept.specs.Kept.{Keeps}
use Rattle.osm_kept.specs.Laying.{IsNetIn}
use Rattle.osm_kept.specs.Refusal.{HasNoOther, IsDeviceFault, KeptStops}
use Rattle.osm_kept.specs.declared.start.Start.{Start}
use Rattle.osm_asking.specs.Lines.{IsOpening}
use Rattle.osm_asking.specs.Refusal.{IsFailed, SearchStops}
use Rattle.osm_asking.specs.declared.ask_fault.AskFault.{AskFault}
use Rattle.osm_asking.specs.declared.ask_fault.AskFault.TheVariants.{Kept, NoSave, NotWritten}
use Rattle.osm_asking.specs.declared.ask_fault.AskFault.TheVariants.{Search, WantOfMemory}
use Rattle.osm_asking.specs.declared.kept.Sources.{Sources}
use Rattle.osm_asking.specs.declared.opening.Opened.{Opened}

-- laid over the objects of the save, the entries give those that the two files keep
abbrev pub GivesKept : Option (List ℕ) → Option (List ℕ) → List NetEntry → Type 0
GivesKept told journal entries =
    (file : List ℕ) (saved v : Saved) → told ≡ Some file → SpellsSave file saved
    → Keeps told journal v → v.mirror.objects ≡ laid_over entries saved.mirror.objects

-- whatever the rest of the save is, the entries are what the batches of the journal leave under the
-- filter that the save begins with
pub record AreOfJournal (told journal : Option (List ℕ)) (entries : List NetEntry) : Type 0 where
  pub start : Start
  pub starts : StartsAs told start
  pub net : NetValue
  pub is : IsNetIn told journal start.filter net
  pub objects : entries ≡ net.objects

-- there is a save, the journal isn't one of another save that ends above it, and if the save is a
-- save text, the two files keep something
pub record FitTogether (told journal : Option (List ℕ)) : Type 0 where
  pub file : List ℕ
  pub there : told ≡ Some file
  pub free : HasNoOther told journal
  pub keeps : (saved : Saved) → SpellsSave file saved → (v : Saved) × Keeps told journal v

-- a save text begins so
abbrev pub IsOpeningOf : Option (List ℕ) → Opened → Type 0
IsOpeningOf told opened =
    (file : List ℕ) (v : Saved) → told ≡ Some file → SpellsSave file v → IsOpening file opened v

-- a save and its journal, which fits it, were opened: it is known where the lines of the save's
-- objects are, and what the journal leaves of the objects that it changes
pub record IsOpened (known : Type 0) (told journal : Option (List ℕ)) (sources : Sources) : Type 0
  where
    pub fits : known → FitTogether told journal
    pub opening : known → IsOpeningOf told sources.opened
    pub laid : known → GivesKept told journal sources.entries.items
    pub left : known → AreOfJournal told journal sources.entries.items
    pub rising : AreKeysRising sources.entries.items
    pub own : AllByRecursion HasOwnKey sources.entries.items

-- an object has the key that was asked for
abbrev pub HasKey : Key → Option ChangeValue → Type 0
HasKey key answer = IfSome answer (λ c. c.key ≡ key)

-- a file has the line of that object, up to an LF
pub record HasLineOf (file : List ℕ) (c : ChangeValue) : Type 0 where
  pub place : ℕ
  pub after : List ℕ
  pub line : drop place file ≡ line_text c ++ 10 ∷ after

-- the answer is what the journal leaves of the object; if it leaves nothing to say, the save has
-- the line of the object, if any
abbrev pub IsFromFiles : Option (List ℕ) → Option (Option ChangeValue) → Option ChangeValue → Type 0
IsFromFiles told (Some left) answer = answer ≡ left
IsFromFiles told None None = Unit {0}
IsFromFiles told None (Some c) = (file : List ℕ) → told ≡ Some file → HasLineOf file c

-- the answer is the object with that key in what the two files keep, and none if that has none;
-- whatever they keep, it has the key and comes from them
pub record IsAnswer (known : Type 0) (told journal : Option (List ℕ)) (sources : Sources)
    (key : Key) (answer : Option ChangeValue) : Type 0 where
  pub is : known → (v : Saved) → Keeps told journal v → answer ≡ object_at v.mirror.objects key
  pub own : HasKey key answer
  pub read : known → IsFromFiles told (net_at sources.entries.items key) answer

-- there is neither a save nor a journal that isn't empty
pub record AreAbsent (told journal : Option (List ℕ)) : Type 0 where
  pub save : told ≡ None
  pub journal_is : bytes_of journal ≡ []

-- why a save and its journal aren't opened
abbrev pub OpenStops : StoreState → List ℕ → Option (List ℕ) → AskFault → Type 0
OpenStops state save journal NoSave = IsKnown state → AreAbsent (state.files save) journal
OpenStops state save journal (Kept fault) =
    IsKnown state → KeptStops (state.files save) journal fault
OpenStops state save journal (Search fault) = SearchStops state save fault
OpenStops state save journal NotWritten = ⊥
OpenStops state save journal WantOfMemory = Unit {0}

-- why there is no answer: a line is bad only if the save is no save text
abbrev pub AnswerStops : StoreState → List ℕ → AskFault → Type 0
AnswerStops state save (Search fault) = SearchStops state save fault
AnswerStops state save WantOfMemory = Unit {0}
AnswerStops state save fault = ⊥

-- the device is the reason
abbrev pub IsAskFailed : AskFault → Type 0
IsAskFailed (Search fault) = IsFailed fault
IsAskFailed (Kept fault) = IsDeviceFault fault
IsAskFailed fault = ⊥
