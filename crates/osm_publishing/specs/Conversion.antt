-- A conversion of one file into another. `known` says that it is known what the files hold, and a
-- word that ends in `In` takes the state of a store in place of `known` and the files.
use Rattle.std.specs.Prelude.{◌≡◌, ℕ, ◌≤◌, ◌⊎◌, List, Some, None, length}
use Rattle.osm_model.specs.Limits.{max_file}
use Rattle.osm_store.specs.Files.{Files, IsOver, Puts}
use Rattle.osm_store.specs.Frames.{IsKnown, StoreState}
use Rattle.osm_runs.specs.Forms.{Converts, HasEnd, HasNoForm, IsFaulty, IsOutputTooLarge}
use Rattle.osm_runs.specs.declared.fault.FileName.TheVariants.{Input, Output}
use Rattle.osm_runs.specs.declared.fault.RunFault.{RunFault}
use Rattle.osm_runs.specs.declared.fault.RunFault.TheVariants.{WantOfMemory, ReadFault}
use Rattle.osm_runs.specs.declared.fault.RunFault.TheVariants.{WriteFault}
use Rattle.osm_runs.specs.declared.fault.RunFault.TheVariants.{TooLarge, Absent, BadChange}
use Rattle.osm_runs.specs.declared.fault.RunFault.TheVariants.{UnknownForm}
use Rattle.osm_runs.specs.declared.form.Form.{Form}

-- both names end in a form
pub record HaveForms (input output : List ℕ) : Type 0 where
  pub from : Form
  pub to : Form
  pub input_form : HasEnd input from
  pub output_form : HasEnd output to

-- the input spells a batch, and the output can be made: its text in the form of the output's name
pub record IsConvertible (input output : List ℕ) (files : Files) : Type 0 where
  pub forms : HaveForms input output
  pub bytes : List ℕ
  pub text : List ℕ
  pub there : files input ≡ Some bytes
  pub small : length bytes ≤ max_file
  pub converts : Converts forms.from forms.to bytes text

-- the output holds that text, and no other name changes
pub record IsConverted (input output : List ℕ) (old new : Files) : Type 0 where
  pub made : IsConvertible input output old
  pub put : Puts old output (Some made.text) new

-- the input is there and spells no batch, and goes wrong at that place
pub record IsBadInput (input output : List ℕ) (files : Files) (place : ℕ) : Type 0 where
  pub forms : HaveForms input output
  pub bytes : List ℕ
  pub there : files input ≡ Some bytes
  pub faulty : IsFaulty forms.from bytes place

-- the text of the batch that the input spells passes 64 MiB
pub record IsBigOutput (input output : List ℕ) (files : Files) : Type 0 where
  pub forms : HaveForms input output
  pub bytes : List ℕ
  pub there : files input ≡ Some bytes
  pub small : length bytes ≤ max_file
  pub big : IsOutputTooLarge forms.from forms.to bytes

-- why a conversion stops: the names first, then the input, then the output
abbrev pub ConvertStops : Type 0 → List ℕ → List ℕ → Files → RunFault → Type 0
ConvertStops known input output files UnknownForm = HasNoForm input ⊎ HasNoForm output
ConvertStops known input output files (ReadFault file) = (file ≡ Input) × HaveForms input output
ConvertStops known input output files (Absent file) =
    (file ≡ Input) × HaveForms input output × (known → files input ≡ None)
ConvertStops known input output files (TooLarge file) =
    HaveForms input output
    × (((file ≡ Input) × (known → IsOver max_file (files input)))
    ⊎ ((file ≡ Output) × (known → IsBigOutput input output files)))
ConvertStops known input output files (BadChange file place why) =
    (file ≡ Input) × HaveForms input output × (known → IsBadInput input output files place)
ConvertStops known input output files (WriteFault file) =
    (file ≡ Output) × HaveForms input output × (known → IsConvertible input output files)
ConvertStops known input output files WantOfMemory = HaveForms input output
ConvertStops known input output files fault = ⊥

-- the same in a store
abbrev pub ConvertStopsIn : StoreState → List ℕ → List ℕ → RunFault → Type 0
ConvertStopsIn store input output = ConvertStops (IsKnown store) input output store.files
