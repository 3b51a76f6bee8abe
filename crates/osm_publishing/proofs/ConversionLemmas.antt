-- Why a conversion stops, from what its parts answer.
use Rattle.std.proofs.Common.{◌≡◌, ℕ, ◌≤◌, List, Some, length, inr, arith, refl}
use Rattle.osm_model.specs.Limits.{max_file}
use Rattle.osm_publishing.specs.Conversion.{HaveForms, IsConvertible, ConvertStops}
use Rattle.osm_store.specs.Files.{Files}
use Rattle.osm_runs.specs.Forms.{BytesStop, HasEnd}
use Rattle.osm_runs.specs.Writing.{PutStops}
use Rattle.osm_runs.specs.declared.fault.FileName.TheVariants.{Input, Output}
use Rattle.osm_runs.specs.declared.fault.RunFault.{RunFault}
use Rattle.osm_runs.specs.declared.fault.RunFault.TheVariants.{WantOfMemory, WriteFault, TooLarge, BadChange}
use Rattle.osm_runs.specs.declared.form.Form.{Form}

pub text_stops : (known : Type 0) (input output bytes : List ℕ) (files : Files) (from to : Form) → HasEnd input from
    → HasEnd output to → (known → files input ≡ Some bytes) → length bytes ≤ max_file → (fault : RunFault)
    → BytesStop from to bytes fault → ConvertStops known input output files fault
text_stops known input output bytes files from to f g there small WantOfMemory r = record { from = from; to = to; input_form = f; output_form = g }
text_stops known input output bytes files from to f g there small (TooLarge Input) r = absurd (omega arith)
text_stops known input output bytes files from to f g there small (TooLarge Output) r =
    let forms : HaveForms input output = record { from = from; to = to; input_form = f; output_form = g } in
    (forms, inr (refl, λ yes. record { forms = forms; bytes = bytes; there = there yes; small = small; big = r }))
text_stops known input output bytes files from to f g there small (BadChange Input place why) r =
    let forms : HaveForms input output = record { from = from; to = to; input_form = f; output_form = g } in
    (refl, forms, λ yes. record { forms = forms; bytes = bytes; there = there yes; faulty = r })
text_stops known input output bytes files from to f g there small fault r = absurd r

pub put_stops : (known : Type 0) (input output : List ℕ) (files : Files) → HaveForms input output
    → (known → IsConvertible input output files) → (fault : RunFault) → PutStops Output fault
    → ConvertStops known input output files fault
put_stops known input output files forms made WantOfMemory r = forms
put_stops known input output files forms made (WriteFault file) r = (r, forms, made)
put_stops known input output files forms made fault r = absurd r
