-- A run that hands the changes of a range of numbers on. `known` says that it is known what the
-- files hold.
use Rattle.std.specs.Prelude.{◌≡◌, ℕ, ◌≤◌, ◌⊎◌, List, [], ◌∷◌, length, Option, Some, None, IsSome}
use Rattle.osm_model.specs.Change.{ChangeValue}
use Rattle.osm_model.specs.Filter.{FilterValue}
use Rattle.osm_publisher.specs.Published.{PublishedValue}
use Rattle.osm_store.specs.Files.{Files, Puts}
use Rattle.osm_runs.specs.Following.{NumberStops}
use Rattle.osm_runs.specs.Forms.{HasEnd, text_of}
use Rattle.osm_runs.specs.Names.{top_name_of}
use Rattle.osm_runs.specs.Progress.{IsOfContent}
use Rattle.osm_runs.specs.declared.fault.FileName.TheVariants.{Output}
use Rattle.osm_runs.specs.declared.fault.RunFault.{RunFault}
use Rattle.osm_runs.specs.declared.fault.RunFault.TheVariants.{UnknownForm, WriteFault}
use Rattle.osm_runs.specs.declared.form.Form.{Form}
use Rattle.osm_runs.specs.declared.options.Layout.{Layout}
use Rattle.osm_runs.specs.declared.progress.Progress.{Progress}
use Rattle.osm_runs.specs.declared.progress.Progress.TheVariants as outcomes
use Rattle.osm_range.specs.Ranges.{IsRange, IsRead, IsTopNumber, RangeStops, changes_in}
use Rattle.osm_range.specs.declared.range.Ending.{Ending}
use Rattle.osm_range.specs.declared.range.Ending.TheVariants.{Faulty, Missing, Whole}
use Rattle.osm_range.specs.declared.range.Range.{Range}
use Rattle.osm_range.specs.declared.range.Reached.{Reached}
use Rattle.osm_range.specs.Handed.{ComeTo}
use Rattle.osm_range.specs.Printed.{changes_report_of}
use Rattle.osm_range.specs.declared.report.Changed.{Changed}

-- what is said of the changes of the numbers of a range up to that one
abbrev pub changed_of : Range → ℕ → List ChangeValue → Changed
changed_of range number handed =
    record { from = range.from; to = number; objects = length handed }

-- the output has what the changes of these sequences come to, as a change file of that form; if
-- there is no sequence, no file changes
abbrev pub Writes : Type 0 → FilterValue → Form → Range → List ℕ → List PublishedValue → ℕ → Files
    → Files → Option Changed → Type 0
Writes known f form range output [] number old new changed = (changed ≡ None) × (new ≡ old)
Writes known f form range output (p ∷ ps) number old new changed =
    (handed : List ChangeValue) × ComeTo f (changes_in (p ∷ ps)) handed
    × (changed ≡ Some (changed_of range number handed))
    × (known → Puts old output (Some (text_of form handed)) new)

-- what the run came to: all that it was asked for, or the numbers before missing ones, which its
-- report names; or those before a faulty one, of which there are some
abbrev pub IsTold : Layout → Option Changed → Ending → Progress → Type 0
IsTold layout changed Whole progress =
    progress ≡ outcomes.Whole (changes_report_of layout changed [] None)
IsTold layout changed (Missing missing) progress =
    progress ≡ outcomes.Whole (changes_report_of layout changed missing.items None)
IsTold layout changed (Faulty fault) progress = IsSome changed × ((said : List ℕ)
    × (progress ≡ outcomes.Before (changes_report_of layout changed [] (Some said)) fault))

-- the changes of a range were handed on, as far as it was read
pub record IsHandedOn (known : Type 0) (f : FilterValue) (layout : Layout) (dir output : List ℕ)
    (range : Range) (old new : Files) (progress : Progress) : Type 0 where
  pub form : Form
  pub end : HasEnd output form
  pub sequences : List PublishedValue
  pub reached : Reached
  pub read : IsRead known old dir range sequences reached
  pub changed : Option Changed
  pub writes : Writes known f form range output sequences reached.number old new changed
  pub told : IsTold layout changed reached.ending progress

-- a file of the first number of a range of the folder is faulty
pub record IsFaultyAtOnce (known : Type 0) (files : Files) (dir : List ℕ) (range : Range)
    (fault : RunFault) : Type 0 where
  pub range_is : IsRange range
  pub top : ℕ
  pub begins : range.from ≤ top
  pub top_is : known → IsTopNumber (files (top_name_of dir)) top
  pub content : IsOfContent fault range.from
  pub stops : NumberStops known dir files None range.from fault

-- why no changes are handed on
abbrev pub HandingStops : Type 0 → Files → List ℕ → List ℕ → Range → RunFault → Type 0
HandingStops known files dir output range UnknownForm = (form : Form) → HasEnd output form → ⊥
HandingStops known files dir output range (WriteFault file) = file ≡ Output
HandingStops known files dir output range fault =
    RangeStops known files dir range fault ⊎ IsFaultyAtOnce known files dir range fault
