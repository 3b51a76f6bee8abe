-- A written state text is short.
use Rattle.std.proofs.Common.{◌≡◌, ℕ, ◌*◌, ◌≤◌, ◌==◌, List, [], ◌∷◌, length, inl, inr, arith, refl, length-append}
use Rattle.std.specs.Prelude.{decimal}
use Rattle.std.proofs.lemmas.Bool.{cases_Bool}
use Rattle.std.proofs.lemmas.Fmt.{length-decimal-le}
use Rattle.osm_model.specs.CivilTime.{time_text}
use Rattle.osm_state.specs.State.{StateValue, IsState}
use Rattle.osm_state.specs.StateText.{escaped_colons, state_text}
use Rattle.osm_runs.specs.Folder.{max_state}

escaped_short : (bs : List ℕ) → length (escaped_colons bs) ≤ 2 * length bs
escaped_short [] = omega arith
escaped_short (b ∷ bs) =
    let more = escaped_short bs in
    elim (cases_Bool (b == 58)) [
      | inl same ↦ rw same (omega (arith, more))
      | inr other ↦ rw other (omega (arith, more))
    ]

time_long : (t : ℕ) → length (time_text t) ≡ 20
unfolding time_text
time_long t = refl

pub state_short : (s : StateValue) → IsState s → length (state_text s) ≤ max_state
unfolding state_text
state_short s is =
    let most = is.sequence in
    let number : length (decimal s.sequence) ≤ 10 = length-decimal-le 10 s.sequence (omega arith) (omega arith) (omega arith) in
    let time = escaped_short (time_text s.time) in
    let long = time_long s.time in
    grind (arith, length-append)
