-- The two forms of change files, the names that tell the form, and conversion.
use Rattle.std.specs.Prelude.{◌≡◌, ℕ, ◌<◌, ◌≤◌, List, ◌++◌, length, codes}
use Rattle.osm_model.specs.Change.{ChangeValue}
use Rattle.osm_model.specs.ChangeForm.{ReadStops, SpellsNothing, WriteStops}
use Rattle.osm_model.specs.Limits.{max_file}
use Rattle.osm_model.specs.declared.form.FormError.{FormError}
use Rattle.osm_o5c.specs.File.{FaultPlace, SpellsO5c}
use Rattle.osm_o5c.specs.Written.{o5c_text}
use Rattle.osm_opl.specs.File.{FaultLine, SpellsOpl}
use Rattle.osm_opl.specs.Written.{opl_text}
use Rattle.osm_state.specs.declared.paths.Suffix.{Suffix}
use Rattle.osm_state.specs.declared.paths.Suffix.TheVariants as suffixes
use Rattle.osm_runs.specs.declared.fault.FileName.TheVariants.{Input, Output}
use Rattle.osm_runs.specs.declared.fault.RunFault.{RunFault}
use Rattle.osm_runs.specs.declared.fault.RunFault.TheVariants.{WantOfMemory, TooLarge, BadChange}
use Rattle.osm_runs.specs.declared.form.Form.{Form}
use Rattle.osm_runs.specs.declared.form.Form.TheVariants.{Opl, O5c}

-- how the names of files of a form end
abbrev pub end_of : Form → List ℕ
end_of Opl = codes ".opl"
end_of O5c = codes ".o5c"

-- the name ends as those of the form do
pub record HasEnd (name : List ℕ) (form : Form) : Type 0 where
  pub start : List ℕ
  pub name_is : name ≡ start ++ end_of form

-- the name ends in neither form
abbrev pub HasNoForm : List ℕ → Type 0
HasNoForm name = (form : Form) → HasEnd name form → ⊥

-- the suffix of a form
abbrev pub suffix_of : Form → Suffix
suffix_of O5c = suffixes.O5c
suffix_of Opl = suffixes.Opl

-- the bytes spell the batch in that form
abbrev pub spells_of : Form → List ℕ → List ChangeValue → Type 0
spells_of Opl = SpellsOpl
spells_of O5c = SpellsO5c

-- the written text of a batch in that form
abbrev pub text_of : Form → List ChangeValue → List ℕ
text_of Opl = opl_text
text_of O5c = o5c_text

-- the place of a fault in that form
abbrev pub place_of : Form → List ℕ → ℕ → Type 0
place_of Opl = FaultLine
place_of O5c = FaultPlace

-- when a file of that form isn't read
abbrev pub FormReadStops : Form → List ℕ → FormError → Type 0
FormReadStops form = ReadStops (spells_of form) (place_of form)

-- when a batch isn't written in that form
abbrev pub FormWriteStops : Form → List ChangeValue → FormError → Type 0
FormWriteStops form batch = WriteStops (text_of form batch)

-- the text is the written text of the batch that the bytes spell
pub record Converts (from to : Form) (bytes text : List ℕ) : Type 0 where
  pub batch : List ChangeValue
  pub spelled : spells_of from bytes batch
  pub written : text ≡ text_of to batch
  pub small : length text ≤ max_file

-- the written text of the batch that the bytes spell passes 64 MiB
pub record IsOutputTooLarge (from to : Form) (bytes : List ℕ) : Type 0 where
  pub batch : List ChangeValue
  pub spelled : spells_of from bytes batch
  pub over : max_file < length (text_of to batch)

-- the bytes spell no batch, and go wrong at that place
pub record IsFaulty (form : Form) (bytes : List ℕ) (place : ℕ) : Type 0 where
  pub small : length bytes ≤ max_file
  pub nothing : SpellsNothing (spells_of form) bytes
  pub is_place : place_of form bytes place

-- why bytes aren't converted
abbrev pub BytesStop : Form → Form → List ℕ → RunFault → Type 0
BytesStop from to bytes WantOfMemory = length bytes ≤ max_file
BytesStop from to bytes (TooLarge Input) = max_file < length bytes
BytesStop from to bytes (TooLarge Output) = IsOutputTooLarge from to bytes
BytesStop from to bytes (BadChange Input place why) = IsFaulty from bytes place
BytesStop from to bytes fault = ⊥
