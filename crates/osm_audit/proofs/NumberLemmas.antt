-- The findings of one number more.
use Rattle.std.proofs.Common.{◌≡◌, ℕ, suc, ◌+◌, ◌-◌, ◌<◌, ◌≤◌, List, [], ◌∷◌, ◌++◌, Option, Some, None, inl, inr, true, false}
use Rattle.std.proofs.Common.{append-nil, arith, refl, sym, subst, ◌∙◌}
use Rattle.std.specs.Prelude.{◌⊎◌, Bool, unwrap_or}
use Rattle.std.proofs.lemmas.Bool.{cases_lt}
use Rattle.osm_state.specs.State.{StateValue}
use Rattle.osm_state.specs.StateLaws.{NoFaultBesideState}
use Rattle.osm_state.specs.declared.paths.Suffix.TheVariants.{O5c, Opl, State}
use Rattle.osm_store.specs.Files.{Files}
use Rattle.osm_runs.specs.Folder.{IsStateFile, IsThere}
use Rattle.osm_runs.specs.Names.{file_name_of, top_name_of}
use Rattle.osm_runs.specs.declared.fault.FileName.TheVariants.{Top}
use Rattle.osm_runs.specs.declared.fault.RunFault.{RunFault}
use Rattle.osm_runs.specs.declared.fault.RunFault.TheVariants.{WantOfMemory, ReadFault}
use Rattle.osm_audit.specs.Findings.{AreFindings, AreOfNumber, AreOfNumbers, Begins, IsLost, IsOtherTop, IsSaid, IsTopSaid, noted, of_none}
use Rattle.osm_audit.specs.Findings.{of_number, of_range}
use Rattle.osm_audit.specs.Steps.Looking.{AddsBy, AreLookedThrough, AreOpen, IsLookedAt, IsLookedUpTo, IsO5cSaid, IsOplSaid, IsStateSaid}
use Rattle.osm_audit.specs.Steps.Looking.{IsTimeBefore, IsTimeOf, IsTopCause, IsTopRead, NumberStops, RangeStops, is_said_lost, noted_all, ranged}
use Rattle.osm_audit.specs.declared.finding.Cause.{Cause}
use Rattle.osm_audit.specs.declared.finding.Cause.TheVariants.{Absent, TooLarge, BadState, Mismatch, TimeBack, BadChange, Differs}
use Rattle.osm_audit.specs.declared.finding.Found.{Found}
use Rattle.osm_audit.specs.declared.finding.Found.TheVariants.{Numbers}
use Rattle.osm_audit.specs.declared.numbers.Looked.{Looked}
use Rattle.osm_audit.proofs.StateLemmas.{one_file, one_time, said_time, state_said}

o5c_said : (files : Files) (dir : List ℕ) (from n : ℕ) (cause : Option Cause)
    → IsO5cSaid (files (file_name_of dir n O5c)) (files (file_name_of dir n Opl)) cause → IsSaid files dir from n O5c cause
o5c_said files dir from n None s = s
o5c_said files dir from n (Some cause) s = s

opl_said : (files : Files) (dir : List ℕ) (from n : ℕ) (cause : Option Cause)
    → IsOplSaid (files (file_name_of dir n O5c)) (files (file_name_of dir n Opl)) cause → IsSaid files dir from n Opl cause
opl_said files dir from n None s = s
opl_said files dir from n (Some cause) s = s

-- ---- a number of which no file is there is said so, and no other

lost_state : (n : ℕ) (before after : Option ℕ) (state : Option Cause) → IsStateSaid None n before state after → state ≡ Some Absent
lost_state n before None None s = absurd s
lost_state n before (Some t) None s = absurd s.0
lost_state n before None (Some Absent) s = refl
lost_state n before (Some t) (Some Absent) s = absurd s
lost_state n before None (Some TooLarge) s = absurd (let e = s.there in cc)
lost_state n before (Some t) (Some TooLarge) s = absurd s
lost_state n before None (Some (BadState e)) s = absurd (let e = s.there in cc)
lost_state n before (Some t) (Some (BadState e)) s = absurd s
lost_state n before None (Some Mismatch) s = absurd s.3
lost_state n before (Some t) (Some Mismatch) s = absurd s
lost_state n before None (Some TimeBack) s = absurd s
lost_state n before (Some t) (Some TimeBack) s = absurd s.0
lost_state n before None (Some (BadChange place why)) s = absurd s
lost_state n before (Some t) (Some (BadChange place why)) s = absurd s
lost_state n before None (Some Differs) s = absurd s
lost_state n before (Some t) (Some Differs) s = absurd s

lost_o5c : (o5c : Option Cause) → IsO5cSaid None None o5c → o5c ≡ Some Absent
lost_o5c None s = absurd s
lost_o5c (Some Absent) s = refl
lost_o5c (Some TooLarge) s = absurd (let e = s.there in cc)
lost_o5c (Some (BadState e)) s = absurd s
lost_o5c (Some Mismatch) s = absurd s
lost_o5c (Some TimeBack) s = absurd s
lost_o5c (Some (BadChange place why)) s = absurd s
lost_o5c (Some Differs) s = absurd s

-- what is said of a number whose files are these
pub record IsSaidOf (told_state told_o5c told_opl : Option (List ℕ)) (n : ℕ) (before after : Option ℕ) (state o5c : Option Cause)
    : Type 0 where
  pub state_said : IsStateSaid told_state n before state after
  pub o5c_said : IsO5cSaid told_o5c told_opl o5c

said_lost : (told_state told_o5c told_opl : Option (List ℕ)) (n : ℕ) (before after : Option ℕ) (state o5c : Option Cause)
    → IsSaidOf told_state told_o5c told_opl n before after state o5c → told_state ≡ None → told_o5c ≡ None → told_opl ≡ None
    → is_said_lost state o5c ≡ true
said_lost told_state told_o5c told_opl n before after state o5c s no_state no_o5c no_opl =
    let state_is = lost_state n before after state (subst (λ (t : Option (List ℕ)). IsStateSaid t n before state after) no_state s.state_said) in
    let o5c_is = lost_o5c o5c (subst (λ (t : Option (List ℕ)). IsO5cSaid None t o5c) no_opl
    (subst (λ (t : Option (List ℕ)). IsO5cSaid t told_opl o5c) no_o5c s.o5c_said)) in
    rw (state_is, o5c_is) refl

state_lost : (told : Option (List ℕ)) (n : ℕ) (before after : Option ℕ) → IsStateSaid told n before (Some Absent) after → told ≡ None
state_lost told n before None s = s
state_lost told n before (Some t) s = absurd s

lost_by : (files : Files) (dir : List ℕ) (n : ℕ) (before after : Option ℕ) (state o5c : Option Cause)
    → IsStateSaid (files (file_name_of dir n State)) n before state after
    → IsO5cSaid (files (file_name_of dir n O5c)) (files (file_name_of dir n Opl)) o5c → is_said_lost state o5c ≡ true → IsLost files dir n
lost_by files dir n before after (Some Absent) (Some Absent) s t lost = record {
  state = state_lost (files (file_name_of dir n State)) n before after s;
  o5c = t.0;
  opl = t.1;
}
lost_by files dir n before after None o5c s t lost = absurd (let e : false ≡ true = lost in cc)
lost_by files dir n before after (Some TooLarge) o5c s t lost = absurd (let e : false ≡ true = lost in cc)
lost_by files dir n before after (Some (BadState x)) o5c s t lost = absurd (let e : false ≡ true = lost in cc)
lost_by files dir n before after (Some Mismatch) o5c s t lost = absurd (let e : false ≡ true = lost in cc)
lost_by files dir n before after (Some TimeBack) o5c s t lost = absurd (let e : false ≡ true = lost in cc)
lost_by files dir n before after (Some (BadChange place why)) o5c s t lost = absurd (let e : false ≡ true = lost in cc)
lost_by files dir n before after (Some Differs) o5c s t lost = absurd (let e : false ≡ true = lost in cc)
lost_by files dir n before after (Some Absent) None s t lost = absurd (let e : false ≡ true = lost in cc)
lost_by files dir n before after (Some Absent) (Some TooLarge) s t lost = absurd (let e : false ≡ true = lost in cc)
lost_by files dir n before after (Some Absent) (Some (BadState x)) s t lost = absurd (let e : false ≡ true = lost in cc)
lost_by files dir n before after (Some Absent) (Some Mismatch) s t lost = absurd (let e : false ≡ true = lost in cc)
lost_by files dir n before after (Some Absent) (Some TimeBack) s t lost = absurd (let e : false ≡ true = lost in cc)
lost_by files dir n before after (Some Absent) (Some (BadChange place why)) s t lost = absurd (let e : false ≡ true = lost in cc)
lost_by files dir n before after (Some Absent) (Some Differs) s t lost = absurd (let e : false ≡ true = lost in cc)

-- ---- one number more

-- what was said of a number that has a file
of_number_at : (files : Files) (dir : List ℕ) (from n : ℕ) (before after : Looked) (old new : List Found)
    → IsTimeBefore files dir from n before.time → (looked : IsLookedAt files dir n before old new after)
    → is_said_lost looked.state looked.o5c ≡ false
    → AreOfNumber files dir from n (noted_all n looked.state looked.o5c looked.opl)
of_number_at files dir from n before after old new at looked there = record {
  there = λ lost. (
      let said = said_lost (files (file_name_of dir n State)) (files (file_name_of dir n O5c)) (files (file_name_of dir n Opl)) n before.time after.time
      looked.state looked.o5c (record { state_said = looked.state_said; o5c_said = looked.changes_said.0 }) lost.state lost.o5c lost.opl in
      let e : true ≡ false = sym said ∙ there in
      cc);
  state = looked.state;
  o5c = looked.o5c;
  opl = looked.opl;
  state_said = state_said files dir from n before.time looked.state after.time at looked.state_said;
  o5c_said = o5c_said files dir from n looked.o5c looked.changes_said.0;
  opl_said = opl_said files dir from n looked.opl looked.changes_said.1;
  found_are = refl;
}

-- the range that isn't ended ends before a number
pub ended : (files : Files) (dir : List ℕ) (from n : ℕ) (lost : Option ℕ) (found : List Found) → AreOpen files dir from n lost found
    → AreOfNumbers files dir from n (found ++ ranged lost (n - 1))
ended files dir from n None found is_open = rw (append-nil found) is_open.0
ended files dir from n (Some first) found is_open =
    let some = is_open.2 in
    let last : suc (n - 1) ≡ n = omega (arith, some) in
    subst (λ (k : ℕ). AreOfNumbers files dir from k (found ++ Numbers first (n - 1) ∷ [])) last
    (of_range first (n - 1) found is_open.0 is_open.1 (omega (arith, some)) (λ k low high. is_open.3 k low (omega (arith, high, some))))

begins_after : (files : Files) (dir : List ℕ) (from n : ℕ) → (IsLost files dir n → ⊥) → Begins files dir from (n + 1)
begins_after files dir from n there =
    let same : n + 1 - 1 ≡ n = omega arith in λ within lost.
    there (subst (λ (k : ℕ). IsLost files dir k) same lost)

extended : (files : Files) (dir : List ℕ) (from n : ℕ) (lost : Option ℕ) (found : List Found) → IsLost files dir n
    → AreOpen files dir from n lost found → AreOpen files dir from (n + 1) (Some (unwrap_or lost n)) found
extended files dir from n None found is is_open =
    (is_open.0, is_open.1, omega arith, λ k low high. subst (λ (m : ℕ). IsLost files dir m) (omega (arith, low, high)) is)
extended files dir from n (Some first) found is is_open = (let some = is_open.2 in
    (is_open.0, is_open.1, omega (arith, some), λ k low high. by_place k low high (cases_lt k n)))
  where
    by_place : (k : ℕ) → first ≤ k → k < n + 1 → (k < n) ⊎ (n ≤ k) → IsLost files dir k
    by_place k low high (inl below) = is_open.3 k low below
    by_place k low high (inr reached) = subst (λ (m : ℕ). IsLost files dir m) (omega (arith, high, reached)) is

open_more : (files : Files) (dir : List ℕ) (from n : ℕ) (before after : Looked) (old new : List Found)
    → IsTimeBefore files dir from n before.time → AreOpen files dir from n before.lost old
    → (looked : IsLookedAt files dir n before old new after) → AreOpen files dir from (n + 1) after.lost new
open_more files dir from n before after old new at is_open looked = by_lost (is_said_lost looked.state looked.o5c) refl looked.adds
  where
    said : List Found
    said = noted_all n looked.state looked.o5c looked.opl

    by_lost : (lost : Bool) → is_said_lost looked.state looked.o5c ≡ lost → AddsBy lost n before.lost said old new after.lost
        → AreOpen files dir from (n + 1) after.lost new
    by_lost true is adds =
        subst (λ (o : Option ℕ). AreOpen files dir from (n + 1) o new) (sym adds.first)
        (subst (λ (xs : List Found). AreOpen files dir from (n + 1) (Some (unwrap_or before.lost n)) xs) (sym adds.same)
        (extended files dir from n before.lost old
        (lost_by files dir n before.time after.time looked.state looked.o5c looked.state_said looked.changes_said.0 is) is_open))
    by_lost false is adds = (let one = of_number_at files dir from n before after old new at looked is in
        let next : suc n ≡ n + 1 = omega arith in
        subst (λ (o : Option ℕ). AreOpen files dir from (n + 1) o new) (sym adds.none) (
          subst (λ (k : ℕ). AreOfNumbers files dir from k new) next
              (subst (λ (xs : List Found). AreOfNumbers files dir from (suc n) xs) (sym adds.more)
              (of_number n (old ++ ranged before.lost (n - 1)) said (ended files dir from n before.lost old is_open) one)),
          begins_after files dir from n one.there,
        ))

next_time : (files : Files) (dir : List ℕ) (from n : ℕ) (after : Option ℕ) → from ≤ n
    → IsTimeOf (files (file_name_of dir n State)) n after → IsTimeBefore files dir from (n + 1) after
next_time files dir from n None in_range t =
    let same : n + 1 - 1 ≡ n = omega arith in λ within.
    subst (λ (k : ℕ). IsTimeOf (files (file_name_of dir k State)) k None) (sym same) t
next_time files dir from n (Some time) in_range t =
    let same : n + 1 - 1 ≡ n = omega arith in
    (omega arith, subst (λ (k : ℕ). IsTimeOf (files (file_name_of dir k State)) k (Some time)) (sym same) t)

pub one_more : NoFaultBesideState → (files : Files) (dir : List ℕ) (from n : ℕ) (before after : Looked) (old new : List Found)
    → from ≤ n → IsLookedUpTo files dir from n old before → IsLookedAt files dir n before old new after
    → IsLookedUpTo files dir from (n + 1) new after
one_more apart files dir from n before after old new in_range through looked = record {
  numbers = open_more files dir from n before after old new through.last through.numbers looked;
  last = next_time files dir from n after.time in_range
      (said_time apart (files (file_name_of dir n State)) n before.time looked.state after.time looked.state_said);
}

-- nothing is looked at before the first number
pub none_yet : (files : Files) (dir : List ℕ) (from n : ℕ) → n ≡ from
    → IsLookedUpTo files dir from n [] (record { time = None; lost = None })
none_yet files dir from n at = subst (λ (k : ℕ). IsLookedUpTo files dir from k [] (record { time = None; lost = None })) (sym at)
    (record {
      numbers = (of_none, λ within. absurd (omega (arith, within)));
      last = λ within. absurd (omega (arith, within));
    })

-- the last range ends at the last number
pub looked_through : (files : Files) (dir : List ℕ) (from to : ℕ) (looked : Looked) (old new : List Found)
    → IsLookedUpTo files dir from (to + 1) old looked → new ≡ old ++ ranged looked.lost to
    → AreLookedThrough files dir from (to + 1) new looked.time
looked_through files dir from to looked old new up more =
    let same : to + 1 - 1 ≡ to = omega arith in
    record {
      numbers = subst (λ (xs : List Found). AreOfNumbers files dir from (to + 1) xs) (sym more)
          (subst (λ (k : ℕ). AreOfNumbers files dir from (to + 1) (old ++ ranged looked.lost k)) same
          (ended files dir from (to + 1) looked.lost old up.numbers));
      last = up.last;
    }

-- ---- why the numbers aren't looked through

pub stops_in_range : (from to n : ℕ) (fault : RunFault) → from ≤ n → n ≤ to → NumberStops n fault → RangeStops from to fault
stops_in_range from to n WantOfMemory low high s = tt
stops_in_range from to n (ReadFault file) low high s = (n, s.0, low, high, s.1)
stops_in_range from to n fault low high s = absurd s

-- ---- the newest state

no_top : (files : Files) (dir : List ℕ) (from to : ℕ) → IsTopRead (files (top_name_of dir)) None → IsOtherTop files dir from to → ⊥
no_top files dir from to none other = none to other.top other.top_is

-- the time of the last number
no_last : (files : Files) (dir : List ℕ) (from to : ℕ) → IsTimeBefore files dir from (to + 1) None → IsOtherTop files dir from to → ⊥
no_last files dir from to none other =
    let same : to + 1 - 1 ≡ to = omega arith in
    let some = other.some in
    let gone : IsTimeOf (files (file_name_of dir to State)) to None =
    subst (λ (k : ℕ). IsTimeOf (files (file_name_of dir k State)) k None) same (none (omega (arith, some))) in
    gone other.own other.own_is

last_is : (files : Files) (dir : List ℕ) (from to time : ℕ) → IsTimeBefore files dir from (to + 1) (Some time)
    → (from ≤ to) × IsThere (files (file_name_of dir to State)) (IsStateFile to time)
last_is files dir from to time at =
    let same : to + 1 - 1 ≡ to = omega arith in
    let within = at.0 in
    (omega (arith, within), subst (λ (k : ℕ). IsTimeOf (files (file_name_of dir k State)) k (Some time)) same at.1)

pub top_said : (files : Files) (dir : List ℕ) (from to : ℕ) (top : Option StateValue) (time : Option ℕ) (cause : Option Cause)
    → IsTopRead (files (top_name_of dir)) top → IsTimeBefore files dir from (to + 1) time → IsTopCause top to time cause
    → IsTopSaid files dir from to cause
top_said files dir from to None None None read at c = no_top files dir from to read
top_said files dir from to None (Some time) None read at c = no_top files dir from to read
top_said files dir from to (Some s) None None read at c = no_last files dir from to at
top_said files dir from to (Some s) (Some time) None read at c =
    let last = last_is files dir from to time at in λ other. (
    let top = one_file (files (top_name_of dir)) s.sequence to s.time other.top read other.top_is in
    let own : time ≡ other.own = one_time (files (file_name_of dir to State)) to time other.own last.1 other.own_is in
    other.other (sym top.1 ∙ (c top.0 ∙ own)))
top_said files dir from to (Some s) (Some time) (Some Differs) read at c =
    let last = last_is files dir from to time at in
    record {
      some = last.0;
      top = s.time;
      own = time;
      top_is = subst (λ (k : ℕ). IsThere (files (top_name_of dir)) (IsStateFile k s.time)) c.0 read;
      own_is = last.1;
      other = c.1;
    }
top_said files dir from to (Some s) (Some time) (Some Absent) read at c = absurd c
top_said files dir from to (Some s) (Some time) (Some TooLarge) read at c = absurd c
top_said files dir from to (Some s) (Some time) (Some (BadState e)) read at c = absurd c
top_said files dir from to (Some s) (Some time) (Some Mismatch) read at c = absurd c
top_said files dir from to (Some s) (Some time) (Some TimeBack) read at c = absurd c
top_said files dir from to (Some s) (Some time) (Some (BadChange place why)) read at c = absurd c
top_said files dir from to None time (Some cause) read at c = absurd c
top_said files dir from to (Some s) None (Some cause) read at c = absurd c

pub all_found : (files : Files) (dir : List ℕ) (from to : ℕ) (top : Option StateValue) (time : Option ℕ) (cause : Option Cause)
    (old new : List Found) → AreLookedThrough files dir from (to + 1) old time
    → IsTopRead (files (top_name_of dir)) top → IsTopCause top to time cause → new ≡ old ++ noted to Top cause
    → AreFindings files dir from to new
all_found files dir from to top time cause old new through read c new_is = record {
  numbers = old;
  top = cause;
  numbers_are = through.numbers;
  top_said = top_said files dir from to top time cause read through.last c;
  found_are = new_is;
}
