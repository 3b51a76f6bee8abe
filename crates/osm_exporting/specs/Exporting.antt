-- Data files of the objects of a save, and how many calls their export makes.
use Rattle.std.specs.Prelude.{◌≡◌, ℕ, ◌+◌, ◌*◌, List, Option, Some}
use Rattle.osm_model.specs.Change.{ChangeValue}
use Rattle.osm_model.specs.Data.{IsData}
use Rattle.osm_model.specs.Content.{content_of}
use Rattle.osm_model.specs.Filter.{FilterValue, kept}
use Rattle.osm_model.specs.declared.kind.Key.{Key}
use Rattle.osm_mirror.specs.Mirror.{object_at}
use Rattle.osm_publisher.specs.Published.{PublishedValue, changes_up_to}
use Rattle.osm_merge.specs.Calls.{check_calls}
use Rattle.osm_runs.specs.DataForms.{HasDataForm, data_text_of}

-- the file holds exactly what the filter keeps of the objects that published sequences 1 to the
-- number leave
pub record IsExportOf (published : List PublishedValue) (given : FilterValue) (number : ℕ)
    (output : List ℕ) (told : Option (List ℕ)) : Type 0 where
  pub named : HasDataForm output
  pub objects : List ChangeValue
  pub are_data : IsData objects
  pub content : (k : Key) →
      object_at objects k ≡ kept given (content_of (changes_up_to published number)) k
  pub text : told ≡ Some (data_text_of named.form objects)

-- the most calls of an export of a save of so many bytes over which nothing is laid: two readings
-- of the save, the second if the output isn't written, an append for each line, so for each byte at
-- most, and three more: `begin`, the bytes that wait at the end, and `commit`
abbrev pub export_calls : ℕ → ℕ
export_calls bytes = 2 * check_calls bytes + bytes + 3
