-- What the limits of a file are, and why changes aren't written, in the words of change files and
-- of data files.
use Rattle.std.specs.Prelude.{List, [], ◌++◌}
use Rattle.osm_model.specs.Change.{ChangeValue}
use Rattle.osm_model.specs.declared.form.FormError.{FormError}
use Rattle.osm_model.specs.declared.form.FormError.TheVariants as forms
use Rattle.osm_model.specs.declared.data.DataError.{DataError}
use Rattle.osm_model.specs.declared.data.DataError.TheVariants as data_errors
use Rattle.osm_model.specs.declared.files.WriteError.{WriteError}
use Rattle.osm_model.specs.declared.files.WriteError.TheVariants.{TooLarge, WantOfMemory}

-- no changes are within the limits, and if changes are, so are the first of them
pub record AreLimits (Limits : List ChangeValue → Type 0) : Type 0 where
  pub none : Limits []
  pub first : (xs ys : List ChangeValue) → Limits (xs ++ ys) → Limits xs

-- why changes aren't written, in the words of change files
abbrev pub as_form_error : WriteError → FormError
as_form_error TooLarge = forms.TooLarge
as_form_error WantOfMemory = forms.WantOfMemory

-- the same in the words of data files
abbrev pub as_data_error : WriteError → DataError
as_data_error TooLarge = data_errors.TooLarge
as_data_error WantOfMemory = data_errors.WantOfMemory
