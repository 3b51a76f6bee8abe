-- At which deliveries a follower may break: once the application of a batch has begun, only new
-- entries need memory.
use Rattle.std.specs.Prelude.{◌≡◌, ℕ, ◌-◌, ◌≤◌, List, Some, None, [], ◌∷◌, length, drop, take}
use Rattle.std.specs.Prelude.{◌⊎◌}
use Rattle.std.specs.Bool.{⊤}
use Rattle.std.specs.List.{slice_get}
use Rattle.osm_model.specs.Change.{ChangeValue}
use Rattle.osm_model.specs.Content.{content_of, edits_by_user, edits_by_changeset}
use Rattle.osm_model.specs.Filter.{FilterValue, kept, left_by}
use Rattle.osm_world.specs.History.{History, accepted_of, base_of, published_of}
use Rattle.osm_publisher.specs.Published.{changes_up_to}
use Rattle.osm_follow.specs.Reach.{Reaches}
use Rattle.osm_world.specs.declared.event.Event.{Event}
use Rattle.osm_world.specs.declared.event.Event.TheVariants.{Deliver}
use Rattle.osm_world.specs.declared.event.Reply.{Reply}
use Rattle.osm_world.specs.declared.event.Reply.TheVariants.{Broke}

-- after `before`, of which `counted` is counted, this change is the first counted edit of its user
-- or of its changeset, or the filter keeps it and nothing yet with its key
abbrev pub IsNewEntry :
    FilterValue → List ChangeValue → List ChangeValue → ChangeValue → Type 0
IsNewEntry filter counted before c =
    (edits_by_user counted c.meta.uid ≡ 0)
    ⊎ (edits_by_changeset counted c.meta.changeset ≡ 0)
    ⊎ ((left_by filter c ≡ Some c) × (kept filter (content_of before) c.key ≡ None))

-- one of the changes after the first `old` is a new entry after those before it, of which the first
-- `base` aren't counted
pub record HasNewEntry (filter : FilterValue) (base old : ℕ) (changes : List ChangeValue)
    : Type 0 where
  pub index : ℕ
  pub from : old ≤ index
  pub change : ChangeValue
  pub change_is : slice_get changes index ≡ Some change
  pub is_new : IsNewEntry filter (drop base (take index changes)) (take index changes) change

-- among the changes of sequence k and of those that can then be applied there is a new entry; edits
-- are counted after the base
pub record BreaksAtNewEntry (filter : FilterValue) (h : History) (k : ℕ) : Type 0 where
  pub high : ℕ
  pub reach : Reaches (accepted_of h) k high
  pub entry : HasNewEntry filter (length (changes_up_to (published_of h) (base_of h)))
      (length (changes_up_to (published_of h) (k - 1))) (changes_up_to (published_of h) high)

-- the reply, if it is `broke`, came at such a delivery
abbrev pub IsNeededBreak : FilterValue → History → Event → Reply → Type 0
IsNeededBreak filter h (Deliver k form) Broke = BreaksAtNewEntry filter h k
IsNeededBreak filter h e Broke = ⊥
IsNeededBreak filter h e r = ⊤

-- each reply `broke` of a history came at such a delivery
abbrev pub AreBreaksNeeded : FilterValue → History → Type 0
AreBreaksNeeded filter [] = ⊤
AreBreaksNeeded filter (p ∷ h) = IsNeededBreak filter h p.0 p.1 × AreBreaksNeeded filter h
