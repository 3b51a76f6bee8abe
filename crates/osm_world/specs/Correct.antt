-- The main statement. Over every list of edits, closes, deliveries, saves, restarts and beginnings,
-- a follower with a filter that isn't broken holds exactly what the filter keeps of the mirror of
-- published sequences 1 to its number, and all edit counts of those after its base, each applied
-- once; and the numbers that it reports as applied since its last restart or beginning are the next
-- ones, once each, in order. The filter that keeps everything gives the whole mirror.
use Rattle.std.specs.Prelude.{◌≡◌, ℕ, ◌+◌, ◌≤◌, List, length, map, false, Option, Some, None}
use Rattle.osm_model.specs.Batch.{IsBatch}
use Rattle.osm_model.specs.Filter.{FilterValue}
use Rattle.osm_follow.specs.Follower.{IsState}
use Rattle.osm_world.specs.History.{History, history_of, pending_of, published_of, publisher_of}
use Rattle.osm_world.specs.History.{start_of, accepted_of, reported_of, is_broken, last_saved}
use Rattle.osm_world.specs.History.{base_of, saved_base_of}
use Rattle.osm_world.specs.Legal.{IsLegal}
use Rattle.osm_mirror.specs.Mirror.{IsMirrorOf}
use Rattle.osm_publisher.specs.Published.{AreSequences, PublishedValue, changes_after}
use Rattle.osm_publisher.specs.Published.{changes_up_to}
use Rattle.osm_publisher.specs.Published.{time_at, written_of}
use Rattle.osm_follow.specs.Reach.{numbers}
use Rattle.osm_save.specs.Save.{SpellsSave}
use Rattle.osm_save.specs.declared.save.Saved.{Saved}
use Rattle.osm_world.specs.World.{WorldValue}
use Rattle.osm_world.specs.declared.event.Event.{Event}
use Rattle.osm_world.specs.declared.event.Reply.{Reply}

-- the numbers reported are those after the start up to the follower's number, each once, in order
pub record IsReported (reported : List ℕ) (start number : ℕ) : Type 0 where
  pub count : ℕ
  pub number_is : number ≡ start + count
  pub reported_is : reported ≡ numbers start count

-- the bytes are the save text of exactly the filter, what it keeps of the mirror of published
-- sequences 1 to that number, the time of these, and the counts of those after the base
pub record IsSaveOf (filter : FilterValue) (published : List PublishedValue) (number base : ℕ)
    (bytes : List ℕ) : Type 0 where
  pub value : Saved
  pub spells : SpellsSave bytes value
  pub filter_is : value.filter ≡ filter
  pub number_is : value.number ≡ number
  pub base_is : value.base ≡ base
  pub below : base ≤ number
  pub within : number ≤ length published
  pub mirror : IsMirrorOf filter (changes_up_to published number)
      (changes_after published base number) value.mirror
  pub time : value.time ≡ time_at published number

-- the bytes saved last: there are some exactly if a number was saved, and then they are its save
abbrev pub IsLastSave :
    FilterValue → List PublishedValue → Option ℕ → ℕ → Option (List ℕ) → Type 0
IsLastSave filter published None base None = base ≡ 0
IsLastSave filter published (Some number) base (Some bytes) =
    IsSaveOf filter published number base bytes
IsLastSave filter published number base bytes = ⊥

-- a world with a filter is what its history says: what is archived are the written texts of what
-- was published, what is saved is what the filter keeps of what was published up to the number
-- saved last, and a follower that isn't broken follows it
pub record IsInStep (filter : FilterValue) (h : History) (w : WorldValue) : Type 0 where
  pub publisher : w.publisher ≡ publisher_of h
  pub archive : w.archive ≡ map written_of (published_of h)
  pub sequences : AreSequences (published_of h)
  pub batch : IsBatch (pending_of h)
  pub saved : IsLastSave filter (published_of h) (last_saved h) (saved_base_of h) w.saved
  pub filter_is : w.follower.filter ≡ filter
  pub broken : w.follower.is_broken ≡ is_broken h
  pub state : is_broken h ≡ false →
      IsState filter (published_of h) (base_of h) (start_of h) (accepted_of h) w.follower
  pub reported : is_broken h ≡ false →
      IsReported (reported_of h) (start_of h) w.follower.number

-- the replies and the world of a run over the events, with a filter
pub record IsRun (filter : FilterValue) (events : List Event) (replies : List Reply)
    (world : WorldValue) : Type 0 where
  pub one_each : length replies ≡ length events
  pub legal : IsLegal filter (history_of events replies)
  pub in_step : IsInStep filter (history_of events replies) world
