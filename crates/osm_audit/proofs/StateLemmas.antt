-- What is said of a state file, and what that says beside the number before.
use Rattle.std.proofs.Common.{◌≡◌, ℕ, ◌-◌, List, length, Option, Some, None, arith, ap, subst}
use Rattle.std.proofs.lemmas.Option.{same_Some}
use Rattle.osm_state.proofs.StateLemmas.{one_state}
use Rattle.osm_state.specs.State.{StateValue}
use Rattle.osm_state.specs.StateLaws.{NoFaultBesideState}
use Rattle.osm_state.specs.declared.paths.Suffix.TheVariants.{State}
use Rattle.osm_state.specs.declared.state_text.StateError.{StateError}
use Rattle.osm_store.specs.Files.{Files, IsOver}
use Rattle.osm_runs.specs.Folder.{IsStateFile, IsThere, max_state}
use Rattle.osm_runs.specs.Names.{file_name_of}
use Rattle.osm_runs.specs.Folder.{IsBadState}
use Rattle.osm_audit.specs.Findings.{Falls, IsSaid}
use Rattle.osm_audit.specs.Steps.Looking.{IsBelow, IsNoState, IsNotBelow, IsStateSaid, IsTimeBefore, IsTimeOf}
use Rattle.osm_audit.specs.declared.finding.Cause.{Cause}
use Rattle.osm_audit.specs.declared.finding.Cause.TheVariants.{Absent, TooLarge, BadState, Mismatch, TimeBack, BadChange, Differs}

-- two states of one file
pub one_file : (told : Option (List ℕ)) (m n t u : ℕ) → IsThere told (IsStateFile m t) → IsThere told (IsStateFile n u)
    → (m ≡ n) × (t ≡ u)
one_file None m n t u a b = absurd a
one_file (Some bytes) m n t u a b =
    let same = one_state bytes (record { sequence = m; time = t }) (record { sequence = n; time = u }) a.names b.names in
    (ap (λ (s : StateValue). s.sequence) same, ap (λ (s : StateValue). s.time) same)

pub one_time : (told : Option (List ℕ)) (n t u : ℕ) → IsThere told (IsStateFile n t) → IsThere told (IsStateFile n u) → t ≡ u
one_time told n t u a b = (one_file told n n t u a b).1

-- a file that isn't the number's state
pub over_state : (told : Option (List ℕ)) (n t : ℕ) → IsOver max_state told → IsThere told (IsStateFile n t) → ⊥
over_state None n t o a = a
over_state (Some bytes) n t o a =
    let same = ap length (same_Some bytes o.bytes o.there) in
    let over = o.over in
    let small = a.small in
    omega (arith, same, over, small)

pub bad_state : NoFaultBesideState → (told : Option (List ℕ)) (n t : ℕ) (e : StateError) → IsBadState told e → IsThere told (IsStateFile n t) → ⊥
bad_state apart None n t e b a = a
bad_state apart (Some bytes) n t e b a =
    let same = same_Some bytes b.bytes b.there in
    apart bytes (record { sequence = n; time = t }) e a.names (rw same b.fault)

no_state : NoFaultBesideState → (told : Option (List ℕ)) (n t : ℕ) (cause : Cause) → IsNoState told n cause
    → IsThere told (IsStateFile n t) → ⊥
no_state apart told n t Absent none a = subst (λ (o : Option (List ℕ)). IsThere o (IsStateFile n t)) none a
no_state apart told n t TooLarge none a = over_state told n t none a
no_state apart told n t (BadState e) none a = bad_state apart told n t e none a
no_state apart told n t Mismatch none a = none.2 (one_file told none.0 n none.1 t none.3 a).0
no_state apart told n t TimeBack none a = absurd none
no_state apart told n t (BadChange place why) none a = absurd none
no_state apart told n t Differs none a = absurd none

-- the time that is said is that of the number's state
pub said_time : NoFaultBesideState → (told : Option (List ℕ)) (n : ℕ) (before : Option ℕ) (cause : Option Cause)
    (after : Option ℕ) → IsStateSaid told n before cause after → IsTimeOf told n after
said_time apart told n before None None s = absurd s
said_time apart told n before None (Some t) s = s.0
said_time apart told n before (Some TimeBack) (Some t) s = s.0
said_time apart told n before (Some TimeBack) None s = absurd s
said_time apart told n before (Some Absent) None s = λ t. no_state apart told n t Absent s
said_time apart told n before (Some TooLarge) None s = λ t. no_state apart told n t TooLarge s
said_time apart told n before (Some (BadState e)) None s = λ t. no_state apart told n t (BadState e) s
said_time apart told n before (Some Mismatch) None s = λ t. no_state apart told n t Mismatch s
said_time apart told n before (Some (BadChange place why)) None s = absurd s
said_time apart told n before (Some Differs) None s = absurd s
said_time apart told n before (Some Absent) (Some t) s = absurd s
said_time apart told n before (Some TooLarge) (Some t) s = absurd s
said_time apart told n before (Some (BadState e)) (Some t) s = absurd s
said_time apart told n before (Some Mismatch) (Some t) s = absurd s
said_time apart told n before (Some (BadChange place why)) (Some t) s = absurd s
said_time apart told n before (Some Differs) (Some t) s = absurd s

-- a time that isn't below the one before doesn't fall
rises : (files : Files) (dir : List ℕ) (from n time : ℕ) (before : Option ℕ) → IsTimeBefore files dir from n before
    → IsNotBelow time before → Falls files dir from n time → ⊥
rises files dir from n time None at low f = at f.within f.before f.there
rises files dir from n time (Some t) at low f =
    let same = one_time (files (file_name_of dir (n - 1) State)) (n - 1) t f.before at.1 f.there in
    let later = f.later in
    omega (arith, same, later, low)

falls : (files : Files) (dir : List ℕ) (from n time : ℕ) (before : Option ℕ) → IsTimeBefore files dir from n before
    → IsBelow time before → Falls files dir from n time
falls files dir from n time None at low = absurd low
falls files dir from n time (Some t) at low = record { within = at.0; before = t; there = at.1; later = low }

-- what is said of the state of a number
pub state_said : (files : Files) (dir : List ℕ) (from n : ℕ) (before : Option ℕ) (cause : Option Cause) (after : Option ℕ)
    → IsTimeBefore files dir from n before → IsStateSaid (files (file_name_of dir n State)) n before cause after
    → IsSaid files dir from n State cause
state_said files dir from n before None None at s = absurd s
state_said files dir from n before None (Some t) at s = (t, s.0, rises files dir from n t before at s.1)
state_said files dir from n before (Some TimeBack) (Some t) at s = (t, s.0, falls files dir from n t before at s.1)
state_said files dir from n before (Some TimeBack) None at s = absurd s
state_said files dir from n before (Some Absent) None at s = s
state_said files dir from n before (Some TooLarge) None at s = s
state_said files dir from n before (Some (BadState e)) None at s = s
state_said files dir from n before (Some Mismatch) None at s = s
state_said files dir from n before (Some (BadChange place why)) None at s = absurd s
state_said files dir from n before (Some Differs) None at s = absurd s
state_said files dir from n before (Some Absent) (Some t) at s = absurd s
state_said files dir from n before (Some TooLarge) (Some t) at s = absurd s
state_said files dir from n before (Some (BadState e)) (Some t) at s = absurd s
state_said files dir from n before (Some Mismatch) (Some t) at s = absurd s
state_said files dir from n before (Some (BadChange place why)) (Some t) at s = absurd s
state_said files dir from n before (Some Differs) (Some t) at s = absurd s
