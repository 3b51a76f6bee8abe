-- The newest state that was read.
use Rattle.std.proofs.Common.{ℕ, List, Option, subst}
use Rattle.std.specs.Prelude.{Result, Ok, Err, IfOk, IfErr, MatchResult}
use Rattle.std.specs.Result.{result_ok}
use Rattle.osm_state.specs.State.{StateValue}
use Rattle.osm_state.specs.StateLaws.{NoFaultBesideState}
use Rattle.osm_runs.specs.Folder.{IsStateFile, IsThere, max_state}
use Rattle.osm_runs.specs.declared.fault.RunFault.{RunFault}
use Rattle.osm_runs.specs.declared.fault.RunFault.TheVariants.{TooLarge, Absent, BadState}
use Rattle.osm_audit.specs.Steps.Looking.{ContentsStop, IsContents, IsTopRead, IsWithinLimit}
use Rattle.osm_audit.specs.Stops.{TopStops}
use Rattle.osm_audit.specs.declared.contents.Contents.{Contents}
use Rattle.osm_audit.specs.declared.contents.Contents.TheVariants as contents
use Rattle.osm_audit.proofs.StateLemmas.{bad_state, over_state}

known_top : (known : Type 0) (told : Option (List ℕ)) (read : Contents) (fault : RunFault) → (known → IsContents max_state told read)
    → IsWithinLimit max_state read → ContentsStop read fault → TopStops known told fault
known_top known told contents.Absent (Absent file) is short h = (h, is)
known_top known told contents.TooLarge (TooLarge file) is short h = (h, is)
known_top known told (contents.Bytes bytes) (BadState file cause) is short h =
    (h.0, λ sure. record { bytes = bytes.items; there = is sure; small = short; fault = h.1 })
known_top known told read fault is short h = absurd h

pub top_told : (known : Type 0) (told : Option (List ℕ)) (read : Contents) (r : Result StateValue RunFault)
    → (known → IsContents max_state told read) → IsWithinLimit max_state read
    → IfOk r (λ s. (o : Option (List ℕ)) → IsContents max_state o read → IsThere o (IsStateFile s.sequence s.time))
    → IfErr r (ContentsStop read)
    → MatchResult r (λ s. known → IsThere told (IsStateFile s.sequence s.time)) (TopStops known told)
top_told known told read (Ok s) is short top stops = λ sure. top told (is sure)
top_told known told read (Err fault) is short top stops = known_top known told read fault is short stops

-- a newest state that can't be read is none
pub top_read : NoFaultBesideState → (known : Type 0) (told : Option (List ℕ)) (r : Result StateValue RunFault) → known
    → MatchResult r (λ s. known → IsThere told (IsStateFile s.sequence s.time)) (TopStops known told) → IsTopRead told (result_ok r)
top_read apart known told (Ok s) sure read = read sure
top_read apart known told (Err fault) sure stops = none fault stops
  where
    none : (f : RunFault) → TopStops known told f → (number time : ℕ) → IsThere told (IsStateFile number time) → ⊥
    none (Absent file) h number time there = subst (λ (o : Option (List ℕ)). IsThere o (IsStateFile number time)) (h.1 sure) there
    none (TooLarge file) h number time there = over_state told number time (h.1 sure) there
    none (BadState file cause) h number time there = bad_state apart told number time cause (h.1 sure) there
    none f h number time there = absurd h
