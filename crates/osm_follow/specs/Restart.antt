-- What a follower saves, and how it restarts from that.
use Rattle.std.specs.Prelude.{◌≡◌, ◌≢◌, ℕ, List, [], true, false, Option, Some, None, Result}
use Rattle.std.specs.Prelude.{Ok, Err}
use Rattle.osm_save.specs.Save.{SpellsSave}
use Rattle.osm_save.specs.declared.save.Saved.{Saved}
use Rattle.osm_follow.specs.Follower.{FollowerValue, new_follower_of}
use Rattle.osm_follow.specs.declared.restart.RestartError.{RestartError}
use Rattle.osm_follow.specs.declared.restart.RestartError.TheVariants.{BadSave, OtherFilter}
use Rattle.osm_follow.specs.declared.restart.RestartError.TheVariants.{WantOfMemory}
use Rattle.osm_follow.specs.declared.view.ViewError.{ViewError}
use Rattle.osm_follow.specs.declared.view.ViewError.TheVariants as views

-- what a follower saves: all but the sequences that it holds
abbrev pub saved_of : FollowerValue → Saved
saved_of f = record {
  number = f.number;
  base = f.base;
  time = f.time;
  filter = f.filter;
  mirror = f.mirror;
}

-- the follower that continues from what was saved, under the filter of the save: it holds nothing
abbrev pub follower_of : Saved → FollowerValue
follower_of v = record {
  number = v.number;
  base = v.base;
  time = v.time;
  filter = v.filter;
  mirror = v.mirror;
  holding = record { reached = v.number; entries = [] };
  is_broken = false;
}

-- why a follower isn't saved
abbrev pub SavingStops : FollowerValue → ViewError → Type 0
SavingStops f views.Broken = f.is_broken ≡ true
SavingStops f views.WantOfMemory = f.is_broken ≡ false

-- the bytes are the save text of nothing
abbrev pub SavesNothing : List ℕ → Type 0
SavesNothing text = (v : Saved) → SpellsSave text v → ⊥

-- the follower is broken, and has its filter
pub record IsLeftBroken (f g : FollowerValue) : Type 0 where
  pub broken : g.is_broken ≡ true
  pub same_filter : g.filter ≡ f.filter

-- the follower was to restart from a text, or from none: whatever it was, it now continues from
-- what the text saves under its own filter, or from sequence 0; after a refusal it is broken.
-- Whether a text saves anything is answered before under which filter it does
abbrev pub Restarts :
    FollowerValue → Option (List ℕ) → Result (Unit {0}) RestartError → FollowerValue → Type 0
Restarts f None (Ok done) g = g ≡ new_follower_of f.filter
Restarts f None (Err error) g = ⊥
Restarts f (Some text) (Ok done) g =
    (v : Saved) × SpellsSave text v × (v.filter ≡ f.filter) × (g ≡ follower_of v)
Restarts f (Some text) (Err (BadSave line)) g = SavesNothing text × IsLeftBroken f g
Restarts f (Some text) (Err OtherFilter) g =
    (v : Saved) × SpellsSave text v × (v.filter ≢ f.filter) × IsLeftBroken f g
Restarts f (Some text) (Err WantOfMemory) g = IsLeftBroken f g

-- why a follower can't be made from a text alone, whose filter it would have
abbrev pub ReadingStops : List ℕ → RestartError → Type 0
ReadingStops text (BadSave line) = SavesNothing text
ReadingStops text OtherFilter = ⊥
ReadingStops text WantOfMemory = Unit {0}
