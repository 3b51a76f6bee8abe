-- What the journal of a save lays over it.
use Rattle.std.specs.Prelude.{◌≡◌, ℕ, List, [], Option, Some, None, IfSome}
use Rattle.osm_model.specs.Change.{ChangeValue}
use Rattle.osm_model.specs.Filter.{FilterValue}
use Rattle.osm_net.specs.Lists.{net_in}
use Rattle.osm_net.specs.Net.{IsNet, IsNetOf, NetValue, no_net}
use Rattle.osm_save.specs.Head.{BeginsSave}
use Rattle.osm_save.specs.declared.head.Head.{Head}
use Rattle.osm_journal.specs.Journal.{BatchValue}
use Rattle.osm_kept.specs.Finding.{Finds, IsTakenOn, bytes_of}
use Rattle.osm_kept.specs.Kept.{AreBatchesIn, SpellChanges}
use Rattle.osm_kept.specs.Reaching.{FindsEnds, IsReach, ends_of, found_of}
use Rattle.osm_kept.specs.declared.found.JournalFile.{JournalFile}
use Rattle.osm_kept.specs.declared.found.JournalFile.TheVariants.{Counts, Nothing, OfAnother}
use Rattle.osm_kept.specs.declared.found.Kept.{Kept}
use Rattle.osm_kept.specs.declared.found.Reach.{Reach}
use Rattle.osm_kept.specs.declared.laid.Laid.{Laid}
use Rattle.osm_kept.specs.declared.start.Start.{Start}

-- the head that a save has to have for that journal to be laid over it: the one that was read with
-- it, and whichever it is if the journal says nothing
abbrev pub start_for : JournalFile → Head → Option Head
start_for (Counts bytes) read = Some read
start_for Nothing read = None
start_for OfAnother read = None

-- how far the two files reach, if the save begins so
abbrev pub reach_in : Start → Laid → Reach
reach_in start laid = record { start = start; head = laid.head }

-- what they keep
abbrev pub kept_in : Start → Laid → Kept
kept_in start laid = record { start = start; head = laid.head; net = net_in laid.lists }

-- whatever the files hold: what is laid over a save that begins so is the net changes of the
-- batches of that journal, which are none if the save may have any head
pub record IsLaid (laid : Laid) : Type 0 where
  pub start : Start
  pub file : JournalFile
  pub reach : IsReach (reach_in start laid) file
  pub taken : IsTakenOn (kept_in start laid)
  pub given : laid.start ≡ start_for file start.head
  pub none : laid.start ≡ None → net_in laid.lists ≡ no_net
  pub net : IsNet (net_in laid.lists)

-- the net changes are those of the batches of a journal that counts, under that filter; there are
-- none if it says nothing
pub record IsNetIn (told journal : Option (List ℕ)) (f : FilterValue) (n : NetValue) : Type 0 where
  pub batches : List BatchValue
  pub are : AreBatchesIn told journal batches
  pub changes : List ChangeValue
  pub spell : SpellChanges batches changes
  pub net : IsNetOf f changes n

-- that is found in the two files, whatever the rest of the save is; the head, if there is one, is
-- what the save begins with
pub record LaysOver (told journal : Option (List ℕ)) (laid : Laid) : Type 0 where
  pub start : Start
  pub file : JournalFile
  pub ends : FindsEnds told journal (ends_of (reach_in start laid) file)
  pub finds : Finds told journal (found_of (reach_in start laid) (net_in laid.lists) file)
  pub reach : IsReach (reach_in start laid) file
  pub taken : IsTakenOn (kept_in start laid)
  pub from : IsNetIn told journal start.filter (net_in laid.lists)
  pub given : laid.start ≡ start_for file start.head
  pub fits : IfSome laid.start (λ head. (text : List ℕ) → told ≡ Some text → BeginsSave text head)

-- what the journal lays over the save; none if there is no save and no journal, or an empty one
abbrev pub IsLaidIn : Option (List ℕ) → Option (List ℕ) → Option Laid → Type 0
IsLaidIn told journal None = (told ≡ None) × (bytes_of journal ≡ [])
IsLaidIn told journal (Some laid) = LaysOver told journal laid
