-- What is new after a head: net changes, and changes after them that aren't in them yet. What they
-- come to are the net changes of all of it.
use Rattle.std.specs.Prelude.{◌≡◌, ℕ, ◌+◌, ◌<◌, ◌≤◌, ◌^◌, List, [], ◌∷◌, ◌++◌, length, Vec}
use Rattle.std.specs.BTreeMap.{insert_entry}
use Rattle.std.specs.declared.alloc.Global.{Global}
use Rattle.osm_model.specs.Change.{ChangeValue}
use Rattle.osm_model.specs.Filter.{FilterValue, left_by}
use Rattle.osm_model.specs.KeyOrder.{key_cmp}
use Rattle.osm_mirror.specs.Mirror.{count_at}
use Rattle.osm_net.specs.Laid.{added}
use Rattle.osm_net.specs.Net.{HasRoomFor, NetValue}
use Rattle.osm_save.specs.declared.head.Head.{Head}
use Rattle.osm_round.specs.declared.news.News.{News}
use Rattle.osm_round.specs.declared.taken.Taken.{Taken}

-- net changes after one change more: what the filter keeps of what it leaves becomes the entry of
-- its key, and it is counted, kept or not
abbrev pub net_after : FilterValue → NetValue → ChangeValue → NetValue
net_after f n c = record {
  objects = insert_entry key_cmp n.objects c.key (left_by f c);
  users = added ((c.meta.uid, 1) ∷ []) n.users;
  changesets = added ((c.meta.changeset, 1) ∷ []) n.changesets;
}

-- net changes with changes after them, one after the other
unfoldable pub net_with : FilterValue → NetValue → List ChangeValue → NetValue
net_with f n [] = n
net_with f n (c ∷ cs) = net_with f (net_after f n c) cs

-- the changes of several numbers, in their order
abbrev pub changes_in : List (Vec ChangeValue Global) → List ChangeValue
changes_in [] = []
changes_in (v ∷ vs) = v.items ++ changes_in vs

-- the net changes of what is new: those that there are, with what is held after them
abbrev pub net_in : FilterValue → News → NetValue
net_in f news = net_with f news.net (changes_in news.held.items)

-- how far a run came, and the net changes since the head that it started from
pub record TakenValue : Type 0 where
  pub head : Head
  pub net : NetValue

-- what it took comes to that
abbrev pub came_to : FilterValue → Taken → TakenValue
came_to f taken = record { head = taken.head; net = net_in f taken.news }

-- no count would be above that if all that is held were counted there
pub record HoldsUpTo (most : ℕ) (news : News) : Type 0 where
  pub users : (uid : ℕ) → count_at news.net.users uid + length (changes_in news.held.items) ≤ most
  pub changesets : (id : ℕ) →
      count_at news.net.changesets id + length (changes_in news.held.items) ≤ most

-- the changes come after what was new before. No count comes above any bound by more than there
-- are of them
pub record IsMore (f : FilterValue) (changes : List ChangeValue) (old new : News) : Type 0 where
  pub net : net_in f new ≡ net_with f (net_in f old) changes
  pub few : (most : ℕ) → HoldsUpTo most old → HoldsUpTo (most + length changes) new

-- each count has room for all that is held
abbrev pub HasRoomForHeld : News → Type 0
HasRoomForHeld news = HasRoomFor (length (changes_in news.held.items)) news.net

-- each count of those net changes has room for what is new after them
pub record HasRoomAfter (before : NetValue) (news : News) : Type 0 where
  pub users : (uid : ℕ) → count_at before.users uid + count_at news.net.users uid
      + length (changes_in news.held.items) < 2 ^ 64
  pub changesets : (id : ℕ) → count_at before.changesets id + count_at news.net.changesets id
      + length (changes_in news.held.items) < 2 ^ 64
