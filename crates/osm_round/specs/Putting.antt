-- What a run leaves of its save.
use Rattle.std.specs.Prelude.{ℕ, List, Some}
use Rattle.osm_mirror.specs.Mirror.{IsWithin, no_mirror}
use Rattle.osm_model.specs.Filter.{AreKept, FilterValue}
use Rattle.osm_net.specs.Laid.{laid_on}
use Rattle.osm_save.specs.Head.{IsHeadIn, most_counted}
use Rattle.osm_save.specs.Save.{SpellsSave, saved_with}
use Rattle.osm_save.specs.declared.save.Saved.{Saved}
use Rattle.osm_save.specs.declared.version.Version.TheVariants.{Three}
use Rattle.osm_store.specs.Files.{Files, Puts}
use Rattle.osm_round.specs.News.{TakenValue}

-- what a save holds after what was taken
abbrev pub saved_after : Saved → TakenValue → Saved
saved_after v taken = saved_with taken.head v.filter (laid_on taken.net v.mirror)

-- what was taken where there was no save can be saved
pub record IsSavableAlone (f : FilterValue) (taken : TakenValue) : Type 0 where
  pub head : IsHeadIn Three taken.head
  pub within : IsWithin (most_counted taken.head) (laid_on taken.net no_mirror)
  pub kept : AreKept f (laid_on taken.net no_mirror).objects

-- the file is the save text of that, and no other file changed
pub record IsMadeOf (f : FilterValue) (taken : TakenValue) (save : List ℕ) (old new : Files)
    : Type 0 where
  pub text : List ℕ
  pub spelled : SpellsSave text (saved_with taken.head f (laid_on taken.net no_mirror))
  pub put : Puts old save (Some text) new
