-- How the reading of a save with net changes laid over it begins.
use Rattle.std.specs.Prelude.{◌≡◌, ℕ, List, Option, Some}
use Rattle.osm_blocks.specs.Places.{Place, left_of}
use Rattle.osm_model.specs.Change.{ChangeValue}
use Rattle.osm_model.specs.declared.kind.Key.{Key}
use Rattle.osm_net.specs.Laid.{laid_over}
use Rattle.osm_net.specs.Net.{NetEntry}
use Rattle.osm_save.specs.Reading.{head_at, objects_at}
use Rattle.osm_save.specs.Save.{most_objects}
use Rattle.osm_merge.specs.declared.opening.Opening.{Opening}
use Rattle.osm_merged.specs.Ahead.{Ahead, laid_after, objects_ahead}

-- a file was opened and its head was read: what is ahead are the objects that come next, with the
-- entries laid over them
pub record BeginsMerged (told : Option (List ℕ)) (es : List NetEntry) (place : Place) (o : Opening)
    (a : Ahead NetEntry ChangeValue Key) : Type 0 where
  pub file : List ℕ
  pub there : told ≡ Some file
  pub rest : List ℕ
  pub head : head_at file ≡ Some (o.version, o.head, o.filter, rest)
  pub ahead : objects_ahead o.filter a (left_of place file)
      ≡ laid_after laid_over es (objects_at o.filter (most_objects o.version o.head.number) rest)
