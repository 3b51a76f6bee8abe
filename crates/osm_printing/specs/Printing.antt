-- Printing what a save holds, while it is read. `known` says that it is known what the files hold,
-- and `told` is then what the save holds, none if there is no such file.
use Rattle.std.specs.Prelude.{◌≡◌, ℕ, ◌⊎◌, List, [], ◌++◌, Option, Some, codes, take}
use Rattle.std.specs.Io.KnownBytes.{Appends}
use Rattle.osm_mirror.specs.Mirror.{IsMirrorOf}
use Rattle.osm_model.specs.Filter.{FilterValue}
use Rattle.osm_save.specs.Save.{SpellsSave}
use Rattle.osm_save.specs.declared.head.Head.{Head}
use Rattle.osm_save.specs.declared.save.Saved.{Saved}
use Rattle.osm_publisher.specs.Published.{PublishedValue, changes_after, changes_up_to, time_at}
use Rattle.osm_follow.specs.View.{ViewValue}
use Rattle.osm_reading.specs.NumberLines.{numbered_line}
use Rattle.osm_save.specs.Shown.{base_line, held_text, time_line}
use Rattle.osm_follow.specs.Show.{view_text}
use Rattle.osm_merge.specs.Checking.{IsHugeFile}
use Rattle.osm_runs.specs.Checking.{ReadStops}
use Rattle.osm_runs.specs.Following.{IsSaveOf}
use Rattle.osm_runs.specs.Reports.{ReportValue}
use Rattle.osm_runs.specs.declared.fault.FileName.TheVariants.{Output, Save}
use Rattle.osm_runs.specs.declared.fault.RunFault.{RunFault}
use Rattle.osm_runs.specs.declared.fault.RunFault.TheVariants.{Changed}
use Rattle.osm_runs.specs.declared.fault.RunFault.TheVariants.{ReadFault, TooLarge, WantOfMemory}
use Rattle.osm_runs.specs.declared.fault.RunFault.TheVariants.{WriteFault}

-- the view of what was saved: nothing is held
abbrev pub view_of_saved : Saved → ViewValue
view_of_saved v = record {
  number = v.number;
  base = v.base;
  time = v.time;
  mirror = v.mirror;
  held = [];
}

-- the show text of a view
abbrev pub show_report_of : ViewValue → ReportValue
show_report_of view = record { status = 0; text = view_text view }

-- the save is there, and what it saves is shown, whatever its filter is
pub record IsShown (told : Option (List ℕ)) (report : ReportValue) : Type 0 where
  pub bytes : List ℕ
  pub saved : Saved
  pub there : told ≡ Some bytes
  pub spelled : SpellsSave bytes saved
  pub report_is : report ≡ show_report_of (view_of_saved saved)

-- the show text of exactly what the filter keeps of the mirror of published sequences 1 to the
-- number, its time, and the counts of all edits of those after the base
pub record IsShownOf (published : List PublishedValue) (given : FilterValue) (base number : ℕ)
    (report : ReportValue) : Type 0 where
  pub view : ViewValue
  pub number_is : view.number ≡ number
  pub base_is : view.base ≡ base
  pub time : view.time ≡ time_at published number
  pub mirror : IsMirrorOf given (changes_up_to published number)
      (changes_after published base number) view.mirror
  pub held : view.held ≡ []
  pub report_is : report ≡ show_report_of view

-- number, base and time: what a show text begins with
abbrev pub start_text : Head → List ℕ
start_text head =
    numbered_line (codes "number ") head.number ++ base_line head.base ++ time_line head.time

-- a show text of a save with that head, with those bytes as its lists
abbrev pub shown_text : Head → List ℕ → List ℕ
shown_text head lists = start_text head ++ lists ++ held_text []

-- what a show prints of a save of which nothing is known: number, base and time, then some lists,
-- and last that nothing is held
pub record IsShowReport (report : ReportValue) : Type 0 where
  pub head : Head
  pub lists : List ℕ
  pub report_is : report ≡ record { status = 0; text = shown_text head lists }

-- the report is that of a show of the save
pub record IsShowOf (known : Type 0) (told : Option (List ℕ)) (report : ReportValue)
    : Type 0 where
  pub shown : known → IsShown told report
  pub in_step : known → (published : List PublishedValue) (given : FilterValue) (base number : ℕ)
      → IsSaveOf published given base number told → IsShownOf published given base number report
  pub form : IsShowReport report

-- all of the report was printed
pub record IsPrinted (known : Type 0) (told printed after : Option (List ℕ)) : Type 0 where
  pub report : ReportValue
  pub is : IsShowOf known told report
  pub all : Appends printed after report.text

-- why a save text is shown in part: standard output failed, or the save isn't read again. A save
-- whose bytes are known doesn't change
abbrev pub CopyStops : Type 0 → Option (List ℕ) → RunFault → Type 0
CopyStops known told WantOfMemory = Unit {0}
CopyStops known told (ReadFault file) = file ≡ Save
CopyStops known told (WriteFault file) = file ≡ Output
CopyStops known told (TooLarge file) = (file ≡ Save) × (known → IsHugeFile told)
CopyStops known told (Changed file) = (file ≡ Save) × (known → ⊥)
CopyStops known told fault = ⊥

-- the save wasn't found to be a save text, and nothing was printed
pub record IsRefused (known : Type 0) (told printed after : Option (List ℕ)) (fault : RunFault)
    : Type 0 where
  pub stops : ReadStops known told fault
  pub nothing : after ≡ printed

-- the save is a save text, and a prefix of its report was printed
pub record IsCutOff (known : Type 0) (told printed after : Option (List ℕ)) (fault : RunFault)
    : Type 0 where
  pub report : ReportValue
  pub is : IsShowOf known told report
  pub stops : CopyStops known told fault
  pub count : ℕ
  pub some : Appends printed after (take count report.text)

-- why not all was printed
abbrev pub IsNotPrinted : Type 0 → Option (List ℕ) → Option (List ℕ) → Option (List ℕ) → RunFault
    → Type 0
IsNotPrinted known told printed after fault =
    IsRefused known told printed after fault ⊎ IsCutOff known told printed after fault

-- the device of the save is the reason: that of standard output isn't looked at
abbrev pub IsReadFault : RunFault → Type 0
IsReadFault (ReadFault file) = Unit {0}
IsReadFault fault = ⊥
