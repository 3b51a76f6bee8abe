-- One dataset that is read, and its object that is taken.
use Rattle.std.specs.Prelude.{◌≡◌, ℕ, List, [], Option, Some}
use Rattle.osm_model.specs.Change.{ChangeValue}
use Rattle.osm_model.specs.declared.kind.Key.{Key}
use Rattle.osm_o5c.specs.Datasets.{position, step}
use Rattle.osm_o5c.specs.declared.reader.Reader.{Reader}
use Rattle.osm_data.specs.Steps.O5mReading.{IsPart, last_after}

-- a dataset was read: its object, if it has one, can come after the last one, and was taken
pub record IsPassed {K : Type 0} (takes : K → List ChangeValue → K → Type 0) (reader : Reader)
    (last : Option Key) (sink : K) (bytes : List ℕ) (reader_after : Reader)
    (last_is : Option Key) (sink_after : K) (rest : List ℕ) : Type 0 where
  pub objects : List ChangeValue
  pub read : step (position reader [] bytes) ≡ Some (position reader_after objects rest)
  pub part : IsPart last objects
  pub key : last_is ≡ last_after last objects
  pub taken : takes sink objects sink_after
