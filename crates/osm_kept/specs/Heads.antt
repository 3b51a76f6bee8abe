-- The head that a save and its journal come to, which is read of their first lines alone.
use Rattle.std.specs.Prelude.{◌≡◌, ◌≢◌, ℕ, ◌+◌, ◌≤◌, ◌⊎◌, List, [], Option, Some, None}
use Rattle.osm_model.specs.Limits.{max_sequence}
use Rattle.osm_save.specs.Head.{IsTimeOf, head_of}
use Rattle.osm_save.specs.declared.head.Head.{Head}
use Rattle.osm_save.specs.declared.save.Saved.{Saved}
use Rattle.osm_journal.specs.Openings.{OpensJournal}
use Rattle.osm_journal.specs.declared.opening.Opening.{Opening}
use Rattle.osm_kept.specs.Finding.{IsStart, StartsAs, bytes_of}
use Rattle.osm_kept.specs.Kept.{Keeps}
use Rattle.osm_kept.specs.declared.start.Start.{Start}

-- what a journal with that opening says that its save begins with
abbrev pub start_said : Opening → Start
start_said o =
    record { version = o.version; head = o.head; filter = o.filter; objects = o.objects }

-- the head of its last batch
abbrev pub head_said : Opening → Head
head_said o =
    record { number = o.head.number + o.many; base = o.head.base; time = Some o.last }

-- the bytes of a journal open with lines of a save that begins so, and come to that head
pub record OpensOwn (bytes : List ℕ) (start : Start) (head : Head) : Type 0 where
  pub opening : Opening
  pub opens : OpensJournal bytes opening
  pub same : start_said opening ≡ start
  pub comes : head ≡ head_said opening

-- they open with those of another save, and don't end above the number of this one, whose head
-- stays
pub record OpensOther (bytes : List ℕ) (start : Start) (head : Head) : Type 0 where
  pub opening : Opening
  pub opens : OpensJournal bytes opening
  pub other : start_said opening ≢ start
  pub within : (head_said opening).number ≤ start.head.number
  pub stays : head ≡ start.head

-- the head that the first lines of a journal come to beside a save that begins so
abbrev pub ComesToHead : List ℕ → Start → Head → Type 0
ComesToHead bytes start head =
    ((bytes ≡ []) × (head ≡ start.head))
    ⊎ OpensOwn bytes start head
    ⊎ OpensOther bytes start head

-- the head is that of what the two files keep, if they keep something, which their first lines
-- don't tell
pub record HasHead (told journal : Option (List ℕ)) (head : Head) : Type 0 where
  pub start : Start
  pub is_start : IsStart start
  pub starts : StartsAs told start
  pub comes : ComesToHead (bytes_of journal) start head
  pub only : (v : Saved) → Keeps told journal v → head_of v ≡ head

-- the head that the two files come to; none if there is no save and no journal, or an empty one
abbrev pub FindsHead : Option (List ℕ) → Option (List ℕ) → Option Head → Type 0
FindsHead told journal None = (told ≡ None) × (bytes_of journal ≡ [])
FindsHead told journal (Some head) = HasHead told journal head

-- whatever the files hold: a head within the limits
pub record IsHead (head : Head) : Type 0 where
  pub number : head.number ≤ max_sequence
  pub base : head.base ≤ head.number
  pub time : IsTimeOf head.number head.time
