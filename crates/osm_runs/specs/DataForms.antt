-- The two forms of data files, the names that tell the form, and what spells the objects in each.
use Rattle.std.specs.Prelude.{◌≡◌, ℕ, List, ◌++◌, codes}
use Rattle.osm_model.specs.Change.{ChangeValue}
use Rattle.osm_o5c.specs.File as o5m
use Rattle.osm_o5c.specs.Written.{o5m_text}
use Rattle.osm_opl.specs.File as opl
use Rattle.osm_opl.specs.Written.{opl_text}
use Rattle.osm_runs.specs.declared.data_form.DataForm.{DataForm}
use Rattle.osm_runs.specs.declared.data_form.DataForm.TheVariants.{Opl, O5m}

-- how the names of data files of a form end
abbrev pub data_end_of : DataForm → List ℕ
data_end_of Opl = codes ".opl"
data_end_of O5m = codes ".o5m"

-- the name ends as those of data files of the form do
pub record HasDataEnd (name : List ℕ) (form : DataForm) : Type 0 where
  pub start : List ℕ
  pub name_is : name ≡ start ++ data_end_of form

-- the name tells a form of data files
pub record HasDataForm (name : List ℕ) : Type 0 where
  pub form : DataForm
  pub end : HasDataEnd name form

-- the name ends in neither form
abbrev pub HasNoDataForm : List ℕ → Type 0
HasNoDataForm name = (form : DataForm) → HasDataEnd name form → ⊥

-- the written text of objects in that form
abbrev pub data_text_of : DataForm → List ChangeValue → List ℕ
data_text_of Opl = opl_text
data_text_of O5m = o5m_text

-- the bytes spell the objects in that form
abbrev pub spells_data : DataForm → List ℕ → List ChangeValue → Type 0
spells_data Opl = opl.SpellsData
spells_data O5m = o5m.SpellsData

-- the place of a fault in that form
abbrev pub place_of_data : DataForm → List ℕ → ℕ → Type 0
place_of_data Opl = opl.DataFaultLine
place_of_data O5m = o5m.DataFaultPlace
