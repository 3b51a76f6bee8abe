-- The line of an object, as it is written.
use Rattle.std.specs.Prelude.{◌≡◌, ℕ, List}
use Rattle.osm_model.specs.Change.{ChangeValue, IsChange}
use Rattle.osm_model.specs.Data.{IsLeft}
use Rattle.osm_model.specs.declared.kind.Key.{Key}
use Rattle.osm_opl.specs.Written.{line_text}

-- the line is what is written of an object within the limits that isn't deleted and has that key
pub record IsObjectLine (line : List ℕ) (key : Key) : Type 0 where
  pub object : ChangeValue
  pub limits : IsChange object
  pub left : IsLeft object
  pub named : object.key ≡ key
  pub text : line ≡ line_text object
