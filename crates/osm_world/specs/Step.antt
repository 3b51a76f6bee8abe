-- What an event may do to a world, with its reply: each reply's conditions are complete, so that
-- two replies are never both right, except that memory may be refused.
use Rattle.std.specs.Prelude.{◌≡◌, ℕ, zero, suc, ◌+◌, ◌<◌, ◌≤◌, List, [], ◌∷◌, ◌++◌, length, true}
use Rattle.std.specs.Prelude.{false, ◌⊎◌}
use Rattle.std.specs.Prelude.{Ok, Err, Some}
use Rattle.std.specs.List.Sorted.{IsStrictlySortedBy}
use Rattle.std.specs.Ordering.{nat_cmp}
use Rattle.osm_model.specs.Batch.{IsBatch}
use Rattle.osm_model.specs.Change.{ChangeValue}
use Rattle.osm_model.specs.Filter.{FilterValue}
use Rattle.osm_model.specs.Limits.{IsPositive, max_changes, max_sequence}
use Rattle.osm_o5c.specs.File.{SpellsO5c, FaultPlace}
use Rattle.osm_opl.specs.File.{SpellsOpl, FaultLine}
use Rattle.osm_follow.specs.Delivery.{Delivers, Spelling, FaultPlaces}
use Rattle.osm_follow.specs.Begin.{Begins}
use Rattle.osm_follow.specs.Follower.{FollowerValue, new_follower_of}
use Rattle.osm_publisher.specs.Published.{PublishedTexts, texts_at, written_of}
use Rattle.osm_publisher.specs.Publisher.{CanClose, IsSmall, IsTooLarge, closing, closed}
use Rattle.osm_follow.specs.View.{view_of}
use Rattle.osm_save.specs.Save.{SpellsSave}
use Rattle.osm_follow.specs.Restart.{Restarts, saved_of}
use Rattle.osm_follow.specs.declared.restart.RestartError.TheVariants as restarts
use Rattle.osm_state.specs.State.{StateValue}
use Rattle.osm_state.specs.StateText.{StateOf}
use Rattle.osm_world.specs.World.{WorldValue}
use Rattle.osm_follow.specs.declared.delivery.Delivered.TheVariants as answers
use Rattle.osm_follow.specs.declared.delivery.DeliverError.TheVariants as errors
use Rattle.osm_world.specs.declared.event.Event.{Event}
use Rattle.osm_world.specs.declared.event.Event.TheVariants.{Edit, Close, Deliver, Show}
use Rattle.osm_world.specs.declared.event.Event.TheVariants.{Save, Restart, Begin}
use Rattle.osm_world.specs.declared.event.Form.{Form}
use Rattle.osm_world.specs.declared.event.Form.TheVariants.{Opl, O5c}
use Rattle.osm_world.specs.declared.event.Reply.{Reply}
use Rattle.osm_world.specs.declared.event.Reply.TheVariants.{Edited, BatchFull, WantOfMemory}
use Rattle.osm_world.specs.declared.event.Reply.TheVariants.{Closed, SequenceFull, TimeBack}
use Rattle.osm_world.specs.declared.event.Reply.TheVariants.{TooLarge, NotPublished, Broken, Old}
use Rattle.osm_world.specs.declared.event.Reply.TheVariants.{Again, TooEarly, Held, Applied}
use Rattle.osm_world.specs.declared.event.Reply.TheVariants.{Broke, Shown, Saved, Restarted, Begun}

-- which batches bytes spell in a form
abbrev pub spells_in : Form → Spelling
spells_in Opl = SpellsOpl
spells_in O5c = SpellsO5c

-- the place of the fault of bytes in a form
abbrev pub fault_in : Form → FaultPlaces
fault_in Opl = FaultLine
fault_in O5c = FaultPlace

-- the file of a sequence in a form
abbrev pub bytes_in : Form → PublishedTexts → List ℕ
bytes_in Opl p = p.opl
bytes_in O5c p = p.o5c

-- an edit: the batch is full, or the edit is the last of the pending ones
abbrev pub EditStep : WorldValue → ChangeValue → Reply → WorldValue → Type 0
EditStep a c Edited b =
    (length a.publisher.pending < max_changes) × IsBatch b.publisher.pending
    × (b ≡ record a {
      publisher = record a.publisher { pending = a.publisher.pending ++ c ∷ [] };
    })
EditStep a c BatchFull b = (length a.publisher.pending ≡ max_changes) × (b ≡ a)
EditStep a c WantOfMemory b = (length a.publisher.pending < max_changes) × (b ≡ a)
EditStep a c r b = ⊥

-- a close: the last number is used, or the time falls back, or a file would be too large, or the
-- pending edits are published
abbrev pub CloseStep : WorldValue → ℕ → Reply → WorldValue → Type 0
CloseStep a t (Closed n) b =
    CanClose a.publisher t × IsPositive t × IsSmall a.publisher.pending
    × (n ≡ a.publisher.number + 1)
    × (b ≡ record a {
      publisher = closed a.publisher t;
      archive = a.archive ++ written_of (closing a.publisher t) ∷ [];
    })
CloseStep a t SequenceFull b = (a.publisher.number ≡ max_sequence) × (b ≡ a)
CloseStep a t TimeBack b =
    (a.publisher.number < max_sequence) × (t < a.publisher.time) × (b ≡ a)
CloseStep a t TooLarge b = CanClose a.publisher t × IsTooLarge a.publisher.pending × (b ≡ a)
CloseStep a t WantOfMemory b = CanClose a.publisher t × (b ≡ a)
CloseStep a t r b = ⊥

-- the reply to a delivery of that state text and those bytes
abbrev pub Replies :
    Spelling → FaultPlaces → FollowerValue → List ℕ → List ℕ → Reply → FollowerValue → Type 0
Replies spells fault_place f state bytes Broken g =
    Delivers spells fault_place f state bytes (Err errors.Broken) g
Replies spells fault_place f state bytes Old g =
    Delivers spells fault_place f state bytes (Ok answers.Old) g
Replies spells fault_place f state bytes Again g =
    Delivers spells fault_place f state bytes (Ok answers.Again) g
Replies spells fault_place f state bytes TooEarly g =
    Delivers spells fault_place f state bytes (Err errors.TooEarly) g
Replies spells fault_place f state bytes WantOfMemory g =
    Delivers spells fault_place f state bytes (Err errors.WantOfMemory) g
Replies spells fault_place f state bytes Held g =
    Delivers spells fault_place f state bytes (Ok answers.Held) g
Replies spells fault_place f state bytes (Applied low high) g =
    Delivers spells fault_place f state bytes (Ok (answers.Applied low high)) g
Replies spells fault_place f state bytes Broke g =
    Delivers spells fault_place f state bytes (Err errors.Broke) g
Replies spells fault_place f state bytes r g = ⊥

-- a delivery of the archived texts of a number, in the form that was named, to the follower
pub record DeliversTo (a : WorldValue) (k : ℕ) (form : Form) (r : Reply) (b : WorldValue)
    : Type 0 where
  pub above : 0 < k
  pub there : k ≤ a.publisher.number
  pub replies : Replies (spells_in form) (fault_in form) a.follower
      (texts_at a.archive k).state (bytes_in form (texts_at a.archive k)) r b.follower
  pub rest : b ≡ record a { follower = b.follower }

abbrev pub DeliverStep : WorldValue → ℕ → Form → Reply → WorldValue → Type 0
DeliverStep a k form NotPublished b = ((k ≡ 0) ⊎ (a.publisher.number < k)) × (b ≡ a)
DeliverStep a k form r b = DeliversTo a k form r b

-- a view is asked for, which changes nothing
abbrev pub ShowStep : WorldValue → Reply → WorldValue → Type 0
ShowStep a Broken b = (a.follower.is_broken ≡ true) × (b ≡ a)
ShowStep a (Shown v) b =
    (a.follower.is_broken ≡ false) × (v ≡ view_of a.follower)
    × IsStrictlySortedBy nat_cmp v.held × (b ≡ a)
ShowStep a WantOfMemory b = (a.follower.is_broken ≡ false) × (b ≡ a)
ShowStep a r b = ⊥

-- a save: its text replaces the one saved before
abbrev pub SaveStep : WorldValue → Reply → WorldValue → Type 0
SaveStep a Broken b = (a.follower.is_broken ≡ true) × (b ≡ a)
SaveStep a (Saved n) b =
    (text : List ℕ) × (a.follower.is_broken ≡ false) × (n ≡ a.follower.number)
    × SpellsSave text (saved_of a.follower) × (b ≡ record a { saved = Some text })
SaveStep a WantOfMemory b = (a.follower.is_broken ≡ false) × (b ≡ a)
SaveStep a r b = ⊥

-- a restart of the follower from the text saved last, or from none
abbrev pub RestartStep : WorldValue → Reply → WorldValue → Type 0
RestartStep a (Restarted n) b =
    Restarts a.follower a.saved (Ok tt) b.follower × (n ≡ b.follower.number)
    × (b ≡ record a { follower = b.follower })
RestartStep a WantOfMemory b =
    Restarts a.follower a.saved (Err restarts.WantOfMemory) b.follower
    × (b ≡ record a { follower = b.follower })
RestartStep a r b = ⊥

-- a new follower with that filter was given the archived OPL files of sequences 1 to k in order,
-- and applied each by itself
abbrev pub IsFed : FilterValue → List PublishedTexts → ℕ → FollowerValue → Type 0
IsFed filter archive zero f = f ≡ new_follower_of filter
IsFed filter archive (suc k) f =
    (e : FollowerValue) × (range : ℕ × ℕ) × IsFed filter archive k e
    × Delivers SpellsOpl FaultLine e (texts_at archive (suc k)).state
    (texts_at archive (suc k)).opl (Ok (answers.Applied range.0 range.1)) f

-- the follower with that filter that begins with the objects of the one that was given sequences 1
-- to k, at the archived state of sequence k
pub record BeginsFrom (filter : FilterValue) (archive : List PublishedTexts) (k : ℕ)
    (f : FollowerValue) : Type 0 where
  pub giver : FollowerValue
  pub fed : IsFed filter archive k giver
  pub state : StateValue
  pub named : StateOf (texts_at archive k).state state
  pub begun : Begins filter state giver.mirror.objects (Ok f)

-- a beginning, whatever the follower was; its filter and the text saved last stay
abbrev pub BeginStep : WorldValue → ℕ → Reply → WorldValue → Type 0
BeginStep a k NotPublished b = ((k ≡ 0) ⊎ (a.publisher.number < k)) × (b ≡ a)
BeginStep a k (Begun n) b =
    (0 < k) × (k ≤ a.publisher.number) × (n ≡ k)
    × BeginsFrom a.follower.filter a.archive k b.follower
    × (b ≡ record a { follower = b.follower })
BeginStep a k WantOfMemory b = (0 < k) × (k ≤ a.publisher.number) × (b ≡ a)
BeginStep a k r b = ⊥

abbrev pub Step : WorldValue → Event → Reply → WorldValue → Type 0
Step a (Edit c) r b = EditStep a c r b
Step a (Close t) r b = CloseStep a t r b
Step a (Deliver k form) r b = DeliverStep a k form r b
Step a Show r b = ShowStep a r b
Step a Save r b = SaveStep a r b
Step a Restart r b = RestartStep a r b
Step a (Begin k) r b = BeginStep a k r b
