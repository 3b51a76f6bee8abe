-- Reading the journal, and taking its batches one after the other.
use Rattle.std.specs.Prelude.{◌≡◌, ℕ, ◌+◌, ◌*◌, ◌<◌, ◌≤◌, List, ◌∷◌, ◌++◌, length, Option}
use Rattle.std.specs.Prelude.{Some, None}
use Rattle.std.specs.List.{AllByRecursion}
use Rattle.osm_model.specs.Batch as model
use Rattle.osm_model.specs.Change.{ChangeValue}
use Rattle.osm_model.specs.ChangeForm.{SpellsNothing}
use Rattle.osm_model.specs.Filter.{FilterValue}
use Rattle.osm_model.specs.Limits.{max_changes, max_file}
use Rattle.osm_mirror.specs.Mirror.{IsOrderly}
use Rattle.osm_net.specs.Laid.{laid_on}
use Rattle.osm_net.specs.Net.{IsNetOf, NetValue, Takes, WidensBy, no_net}
use Rattle.osm_o5c.specs.File.{SpellsO5c}
use Rattle.osm_save.specs.Head.{head_of}
use Rattle.osm_save.specs.Save.{saved_with}
use Rattle.osm_save.specs.declared.head.Head.{Head}
use Rattle.osm_save.specs.declared.save.Saved.{Saved}
use Rattle.osm_store.specs.Files.{IsOver}
use Rattle.osm_journal.specs.Journal.{BatchValue, Follow, JournalValue, SpellsJournal, last_number}
use Rattle.osm_kept.specs.Finding.{IsRightBatch, StartsAs, bytes_of}
use Rattle.osm_kept.specs.Kept.{AddsBatches, SpellChanges}
use Rattle.osm_kept.specs.Reaching.{head_past}
use Rattle.osm_kept.specs.Refusal.{IsBadBatchAt}
use Rattle.osm_kept.specs.Steps.Starting.{start_in}
use Rattle.osm_kept.specs.declared.fault.KeptFault.{KeptFault}
use Rattle.osm_kept.specs.declared.fault.KeptFault.TheVariants.{BadJournal, JournalFailed}
use Rattle.osm_kept.specs.declared.fault.KeptFault.TheVariants.{JournalTooLarge, OtherJournal}
use Rattle.osm_kept.specs.declared.fault.KeptFault.TheVariants.{WantOfMemory}
use Rattle.osm_kept.specs.declared.start.Start.{Start}

-- the changes of the batch were taken
pub record TakesBatch (f : FilterValue) (b : BatchValue) (old new : NetValue) : Type 0 where
  pub changes : List ChangeValue
  pub spells : SpellsO5c b.bytes changes
  pub limits : model.IsBatch changes
  pub takes : Takes f old changes new
  pub widens : WidensBy (length changes) old new

-- why a batch with that line isn't taken
abbrev pub BatchStops : ℕ → BatchValue → KeptFault → Type 0
BatchStops line b (BadJournal named) = (named ≡ line) × SpellsNothing SpellsO5c b.bytes
BatchStops line b WantOfMemory = Unit {0}
BatchStops line b fault = ⊥

-- the batches were taken under the filter
pub record HasTaken (f : FilterValue) (bs : List BatchValue) (net : NetValue) : Type 0 where
  pub none : length bs ≡ 0 → net ≡ no_net
  pub changes : List ChangeValue
  pub spell : SpellChanges bs changes
  pub few : length changes ≤ max_changes * length bs
  pub net_is : IsNetOf f changes net
  pub widens : WidensBy (length changes) no_net net
  pub right : AllByRecursion IsRightBatch bs
  pub adds : (v : Saved) → Follow v.number bs → v.filter ≡ f → IsOrderly v.mirror
      → AddsBatches bs v (saved_with (head_past (head_of v) bs) f (laid_on net v.mirror))

-- the first batch whose bytes are no change file is on that line, where the first one of all is on
-- line `first`
pub record IsBadAt (first : ℕ) (bs : List BatchValue) (line : ℕ) : Type 0 where
  pub before : List BatchValue
  pub bad : BatchValue
  pub after : List BatchValue
  pub parts : bs ≡ before ++ bad ∷ after
  pub right : AllByRecursion IsRightBatch before
  pub none : SpellsNothing SpellsO5c bad.bytes
  pub place : line ≡ first + length before

-- why batches aren't taken
abbrev pub BatchesStop : ℕ → List BatchValue → KeptFault → Type 0
BatchesStop first bs (BadJournal line) = IsBadAt first bs line
BatchesStop first bs WantOfMemory = Unit {0}
BatchesStop first bs fault = ⊥

-- why the text of a journal isn't read
abbrev pub TextStops : List ℕ → KeptFault → Type 0
TextStops bytes (BadJournal line) = (j : JournalValue) → SpellsJournal bytes j → ⊥
TextStops bytes WantOfMemory = Unit {0}
TextStops bytes fault = ⊥

-- the batches of the journal that the bytes spell were taken
pub record IsTaken (f : FilterValue) (bytes : List ℕ) (net : NetValue) : Type 0 where
  pub value : JournalValue
  pub spells : SpellsJournal bytes value
  pub taken : HasTaken f value.batches net

-- the bytes spell a journal with a batch that is bad
pub record HasBad (bytes : List ℕ) (line : ℕ) : Type 0 where
  pub value : JournalValue
  pub spells : SpellsJournal bytes value
  pub batch : IsBadBatchAt value line

-- why the batches of a journal aren't taken
abbrev pub TakingStops : List ℕ → KeptFault → Type 0
TakingStops bytes (BadJournal line) = HasBad bytes line
TakingStops bytes WantOfMemory = Unit {0}
TakingStops bytes fault = ⊥

-- the number of a journal's last batch
abbrev pub last_in : JournalValue → ℕ
last_in j = last_number j.head.number j.batches

-- the bytes are a journal of another save than one that begins so, and don't end above it
pub record IsOfOlder (start : Start) (bytes : List ℕ) : Type 0 where
  pub value : JournalValue
  pub spells : SpellsJournal bytes value
  pub other : start_in value ≡ start → ⊥
  pub within : last_in value ≤ start.head.number

-- they are one, and end at that number, which is above
pub record IsOfAbove (start : Start) (bytes : List ℕ) (number : ℕ) : Type 0 where
  pub value : JournalValue
  pub spells : SpellsJournal bytes value
  pub other : start_in value ≡ start → ⊥
  pub ends : number ≡ last_in value
  pub above : start.head.number < number

-- they are the journal of that save, and come to that head
pub record IsOwn (start : Start) (bytes : List ℕ) (head : Head) : Type 0 where
  pub value : JournalValue
  pub spells : SpellsJournal bytes value
  pub same : start_in value ≡ start
  pub head_is : head ≡ head_past start.head value.batches

-- the head that the journal comes to beside a save that begins so; none if it is one of another
-- save that doesn't end above
abbrev pub ReachesHead : Start → List ℕ → Option Head → Type 0
ReachesHead start bytes None = IsOfOlder start bytes
ReachesHead start bytes (Some head) = IsOwn start bytes head

-- why it comes to none
abbrev pub ReachStops : Start → List ℕ → KeptFault → Type 0
ReachStops start bytes (OtherJournal number) = IsOfAbove start bytes number
ReachStops start bytes fault = TextStops bytes fault

-- the text of the journal or memory is the reason
abbrev pub IsOfText : KeptFault → Type 0
IsOfText (BadJournal line) = Unit {0}
IsOfText (OtherJournal number) = Unit {0}
IsOfText WantOfMemory = Unit {0}
IsOfText fault = ⊥

-- why the file of a journal isn't read. `known` says that it is known what the files hold
abbrev pub BytesStops : Type 0 → Option (List ℕ) → KeptFault → Type 0
BytesStops known journal JournalFailed = Unit {0}
BytesStops known journal JournalTooLarge = known → IsOver max_file journal
BytesStops known journal WantOfMemory = Unit {0}
BytesStops known journal fault = ⊥

-- the save begins so, and the file of the journal has those bytes
pub record Holds (told journal : Option (List ℕ)) (start : Start) (bytes : List ℕ) : Type 0 where
  pub starts : StartsAs told start
  pub journal_is : bytes_of journal ≡ bytes
