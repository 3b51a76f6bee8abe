-- What takes the objects of a data file.
use Rattle.std.specs.Prelude.{List, ◌++◌}
use Rattle.osm_model.specs.Change.{ChangeValue}

-- some objects were read after those, and they were taken
pub record AreNext (has_read takes : List ChangeValue → Type 0) (done : List ChangeValue) : Type 0
  where
    pub objects : List ChangeValue
    pub read : has_read (done ++ objects)
    pub taken : takes objects
