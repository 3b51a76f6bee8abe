-- Each finding is true, and each file that is wrong has one.
use Rattle.std.proofs.Common.{◌≡◌, ℕ, zero, suc, ◌+◌, ◌-◌, ◌<◌, ◌≤◌, List, [], ◌∷◌, ◌++◌, Option, Some, None, inl, inr}
use Rattle.std.proofs.Common.{arith, refl, sym, subst, ◌∙◌}
use Rattle.std.specs.Prelude.{◌⊎◌, Contains}
use Rattle.std.proofs.lemmas.Bool.{cases_lt}
use Rattle.std.proofs.lemmas.List.Elements.{Contains-append_cases, Contains-append_left, Contains-append_right, Contains-push}
use Rattle.osm_opl.proofs.FileLaws as opl_file
use Rattle.osm_state.specs.StateLaws.{NoFaultBesideState}
use Rattle.osm_state.specs.declared.paths.Suffix.{Suffix}
use Rattle.osm_state.specs.declared.paths.Suffix.TheVariants.{O5c, Opl, State}
use Rattle.osm_store.specs.Files.{Files}
use Rattle.osm_runs.specs.Folder.{IsStateFile, IsThere}
use Rattle.osm_runs.specs.Names.{file_name_of}
use Rattle.osm_runs.specs.declared.fault.FileName.{FileName}
use Rattle.osm_runs.specs.declared.fault.FileName.TheVariants.{Top, Sequence}
use Rattle.osm_runs.specs.declared.form.Form.TheVariants as forms
use Rattle.osm_audit.specs.Findings.{AreFindings, AreLost, AreOfNumber, AreOfNumbers, Begins, Falls, IsFound, IsInRange, IsLost, IsO5cRight}
use Rattle.osm_audit.specs.Findings.{IsO5cWrong, IsOplRight, IsOplWrong, IsOtherTop, IsRight, IsSaid, IsTopSaid, IsTrueFinding, IsWrong, noted}
use Rattle.osm_audit.specs.Findings.{of_none, of_number, of_range}
use Rattle.osm_audit.specs.declared.finding.Cause.{Cause}
use Rattle.osm_audit.specs.declared.finding.Cause.TheVariants.{Absent, TooLarge, BadState, Mismatch, TimeBack, BadChange, Differs}
use Rattle.osm_audit.specs.declared.finding.Found.{Found}
use Rattle.osm_audit.specs.declared.finding.Found.TheVariants.{Numbers, File}
use Rattle.osm_audit.proofs.ChangeLemmas.{faulty_changes, over_changes}
use Rattle.osm_audit.proofs.StateLemmas.{bad_state, one_file, one_time, over_state}

-- ---- a file isn't both right and wrong

state_either : NoFaultBesideState → (files : Files) (dir : List ℕ) (from n : ℕ) (cause : Cause) → IsRight files dir from n State
    → IsWrong files dir from n State cause → ⊥
state_either apart files dir from n Absent right wrong =
    subst (λ (o : Option (List ℕ)). IsThere o (IsStateFile n right.0)) wrong right.1
state_either apart files dir from n TooLarge right wrong = over_state (files (file_name_of dir n State)) n right.0 wrong right.1
state_either apart files dir from n (BadState e) right wrong = bad_state apart (files (file_name_of dir n State)) n right.0 e wrong right.1
state_either apart files dir from n Mismatch right wrong =
    wrong.2 (one_file (files (file_name_of dir n State)) wrong.0 n wrong.1 right.0 wrong.3 right.1).0
state_either apart files dir from n TimeBack right wrong =
    right.2 (subst (λ (t : ℕ). Falls files dir from n t)
    (one_time (files (file_name_of dir n State)) n wrong.0 right.0 wrong.1 right.1) wrong.2)
state_either apart files dir from n (BadChange place why) right wrong = wrong
state_either apart files dir from n Differs right wrong = wrong

o5c_either : (o5c opl : Option (List ℕ)) (cause : Cause) → IsO5cRight o5c opl → IsO5cWrong o5c opl cause → ⊥
o5c_either None None cause right wrong = right
o5c_either None (Some bytes) Absent right wrong = (let e = wrong.1 in cc)
o5c_either (Some bytes) opl Absent right wrong = (let e = wrong.0 in cc)
o5c_either None (Some bytes) TooLarge right wrong = (let e = wrong.there in cc)
o5c_either (Some bytes) opl TooLarge right wrong = over_changes forms.O5c (Some bytes) right.0 wrong right.1
o5c_either None (Some bytes) (BadChange place why) right wrong = wrong
o5c_either (Some bytes) opl (BadChange place why) right wrong = faulty_changes forms.O5c (Some bytes) place right.0 wrong right.1
o5c_either o5c opl (BadState e) right wrong = wrong
o5c_either o5c opl Mismatch right wrong = wrong
o5c_either o5c opl TimeBack right wrong = wrong
o5c_either o5c opl Differs right wrong = wrong

opl_either : (o5c opl : Option (List ℕ)) (cause : Cause) → IsOplRight o5c opl → IsOplWrong o5c opl cause → ⊥
opl_either o5c None TooLarge right wrong = (let e = wrong.there in cc)
opl_either o5c (Some bytes) TooLarge right wrong = over_changes forms.Opl (Some bytes) right.0 wrong right.1
opl_either o5c None (BadChange place why) right wrong = wrong
opl_either o5c (Some bytes) (BadChange place why) right wrong = faulty_changes forms.Opl (Some bytes) place right.0 wrong right.1
opl_either o5c None Differs right wrong = wrong.3
opl_either o5c (Some bytes) Differs right wrong =
    wrong.4 (right.2 wrong.0 wrong.2 ∙ opl_file.one_batch bytes right.0 wrong.1 right.1.1 wrong.3.1)
opl_either o5c opl Absent right wrong = wrong
opl_either o5c opl (BadState e) right wrong = wrong
opl_either o5c opl Mismatch right wrong = wrong
opl_either o5c opl TimeBack right wrong = wrong

either : NoFaultBesideState → (files : Files) (dir : List ℕ) (from n : ℕ) (suffix : Suffix) (cause : Cause) → IsRight files dir from n suffix
    → IsWrong files dir from n suffix cause → ⊥
either apart files dir from n State cause right wrong = state_either apart files dir from n cause right wrong
either apart files dir from n O5c cause right wrong = o5c_either _ _ cause right wrong
either apart files dir from n Opl cause right wrong = opl_either _ _ cause right wrong

-- ---- each finding is true

one_is : (x f : Found) → Contains (x ∷ []) f → f ≡ x
one_is x f (zero, lt, same) = sym same
one_is x f (suc k, lt, same) = absurd (omega (arith, lt))

none_is : (f : Found) → Contains [] f → ⊥
none_is f h = let lt = h.1 in omega (arith, lt)

noted_is : (n : ℕ) (file : FileName) (cause : Option Cause) (f : Found) → Contains (noted n file cause) f
    → (c : Cause) × (cause ≡ Some c) × (f ≡ File (record { number = n; file = file; cause = c }))
noted_is n file None f h = absurd (none_is f h)
noted_is n file (Some c) f h = (c, refl, one_is (File (record { number = n; file = file; cause = c })) f h)

said_wrong : (files : Files) (dir : List ℕ) (from n : ℕ) (suffix : Suffix) (cause : Option Cause) (c : Cause) → cause ≡ Some c
    → IsSaid files dir from n suffix cause → IsWrong files dir from n suffix c
said_wrong files dir from n suffix cause c is said = subst (λ (o : Option Cause). IsSaid files dir from n suffix o) is said

-- a finding is true of the numbers up to the one before `next`
abbrev IsTrueBefore : Files → List ℕ → ℕ → ℕ → Found → Type 0
IsTrueBefore files dir from next (Numbers first last) =
    (from ≤ first) × (first ≤ last) × (last < next) × AreLost files dir first last × Begins files dir from first
    × (last + 1 < next → IsLost files dir (last + 1) → ⊥)
IsTrueBefore files dir from next (File f) =
    (suffix : Suffix) × (f.file ≡ Sequence f.number suffix) × (from ≤ f.number) × (f.number < next)
    × (IsLost files dir f.number → ⊥) × IsWrong files dir from f.number suffix f.cause

of_file : (files : Files) (dir : List ℕ) (from n : ℕ) (suffix : Suffix) (cause : Option Cause) (f : Found) → from ≤ n
    → (IsLost files dir n → ⊥) → IsSaid files dir from n suffix cause → Contains (noted n (Sequence n suffix) cause) f
    → IsTrueBefore files dir from (suc n) f
of_file files dir from n suffix cause f low there said h =
    let is = noted_is n (Sequence n suffix) cause f h in
    subst (λ (g : Found). IsTrueBefore files dir from (suc n) g) (sym is.2)
    (suffix, refl, low, omega arith, there, said_wrong files dir from n suffix cause is.0 is.1 said)

of_number_said : (files : Files) (dir : List ℕ) (from n : ℕ) (found : List Found) (f : Found) → from ≤ n
    → AreOfNumber files dir from n found → Contains found f → IsTrueBefore files dir from (suc n) f
of_number_said files dir from n found f low are h =
    by_state (Contains-append_cases state (o5c ++ opl) f (subst (λ (xs : List Found). Contains xs f) are.found_are h))
  where
    state : List Found
    state = noted n (Sequence n State) are.state

    o5c : List Found
    o5c = noted n (Sequence n O5c) are.o5c

    opl : List Found
    opl = noted n (Sequence n Opl) are.opl

    by_changes : Contains o5c f ⊎ Contains opl f → IsTrueBefore files dir from (suc n) f
    by_changes (inl a) = of_file files dir from n O5c are.o5c f low are.there are.o5c_said a
    by_changes (inr b) = of_file files dir from n Opl are.opl f low are.there are.opl_said b

    by_state : Contains state f ⊎ Contains (o5c ++ opl) f → IsTrueBefore files dir from (suc n) f
    by_state (inl a) = of_file files dir from n State are.state f low are.there are.state_said a
    by_state (inr b) = by_changes (Contains-append_cases o5c opl f b)

pub not_past : (files : Files) (dir : List ℕ) (from next : ℕ) (found : List Found) → AreOfNumbers files dir from next found → from ≤ next
not_past files dir from _ _ of_none = omega arith
not_past files dir from _ _ (of_number n earlier last are one) = let low = not_past files dir from n earlier are in omega (arith, low)
not_past files dir from _ _ (of_range first last earlier are begins some lost) =
    let low = not_past files dir from first earlier are in omega (arith, low, some)

-- what is true up to a number that has a file is true with it
after_number : (files : Files) (dir : List ℕ) (from n : ℕ) (f : Found) → (IsLost files dir n → ⊥) → IsTrueBefore files dir from n f
    → IsTrueBefore files dir from (suc n) f
after_number files dir from n (File f) there is = (let below = is.3 in (is.0, is.1, is.2, omega (arith, below), is.4, is.5))
after_number files dir from n (Numbers first last) there is = (let below = is.2 in
    (is.0, is.1, omega (arith, below), is.3, is.4, λ more lost. by_end lost (cases_lt (last + 1) n)))
  where
    by_end : IsLost files dir (last + 1) → (last + 1 < n) ⊎ (n ≤ last + 1) → ⊥
    by_end lost (inl within) = is.5 within lost
    by_end lost (inr reached) = (let below = is.2 in
        there (subst (λ (k : ℕ). IsLost files dir k) (omega (arith, below, reached)) lost))

-- and so it is with a range, before which a number has a file
after_range : (files : Files) (dir : List ℕ) (from first last : ℕ) (f : Found) → Begins files dir from first → first ≤ last
    → IsTrueBefore files dir from first f → IsTrueBefore files dir from (suc last) f
after_range files dir from first last (File f) begins some is = (let below = is.3 in (is.0, is.1, is.2, omega (arith, below, some), is.4, is.5))
after_range files dir from first last (Numbers low high) begins some is = (let below = is.2 in
    (is.0, is.1, omega (arith, below, some), is.3, is.4, λ more lost. by_end lost (cases_lt (high + 1) first)))
  where
    by_end : IsLost files dir (high + 1) → (high + 1 < first) ⊎ (first ≤ high + 1) → ⊥
    by_end lost (inl within) = is.5 within lost
    by_end lost (inr reached) = (let below = is.2 in
        let above = is.0 in
        let order = is.1 in
        let last_is : high ≡ first - 1 = omega (arith, below, reached) in
        begins (omega (arith, below, above, order)) (subst (λ (k : ℕ). IsLost files dir k) last_is (is.3 high order (omega arith))))

of_numbers : (files : Files) (dir : List ℕ) (from next : ℕ) (found : List Found) (f : Found) → AreOfNumbers files dir from next found
    → Contains found f → IsTrueBefore files dir from next f
of_numbers files dir from _ _ f of_none h = absurd (none_is f h)
of_numbers files dir from _ _ f (of_number n earlier last are one) h =
    by_part (λ a. of_numbers files dir from n earlier f are a) (Contains-append_cases earlier last f h)
  where
    by_part : (Contains earlier f → IsTrueBefore files dir from n f) → Contains earlier f ⊎ Contains last f
        → IsTrueBefore files dir from (suc n) f
    by_part before (inl a) = after_number files dir from n f one.there (before a)
    by_part before (inr b) = of_number_said files dir from n last f (not_past files dir from n earlier are) one b
of_numbers files dir from _ _ f (of_range first last earlier are begins some lost) h =
    by_part (λ a. of_numbers files dir from first earlier f are a) (Contains-append_cases earlier (Numbers first last ∷ []) f h)
  where
    by_part : (Contains earlier f → IsTrueBefore files dir from first f) → Contains earlier f ⊎ Contains (Numbers first last ∷ []) f
        → IsTrueBefore files dir from (suc last) f
    by_part before (inl a) = after_range files dir from first last f begins some (before a)
    by_part before (inr b) = subst (λ (g : Found). IsTrueBefore files dir from (suc last) g) (sym (one_is (Numbers first last) f b))
        (not_past files dir from first earlier are, some, omega arith, lost, begins, λ more. absurd (omega (arith, more)))

true_within : (files : Files) (dir : List ℕ) (from to : ℕ) (f : Found) → IsTrueBefore files dir from (to + 1) f
    → IsTrueFinding files dir from to f
true_within files dir from to (File f) is = (let below = is.3 in
    inl (record { suffix = is.0; file_is = is.1; low = is.2; high = omega (arith, below); there = is.4; wrong = is.5 }))
true_within files dir from to (Numbers first last) is = (let below = is.2 in record {
  low = is.0;
  some = is.1;
  high = omega (arith, below);
  lost = is.3;
  begins = is.4;
  ends = λ less. is.5 (omega (arith, less));
})

top_wrong : (files : Files) (dir : List ℕ) (from to : ℕ) (c : Cause) → IsTopSaid files dir from to (Some c)
    → (c ≡ Differs) × IsOtherTop files dir from to
top_wrong files dir from to Differs said = (refl, said)
top_wrong files dir from to Absent said = absurd said
top_wrong files dir from to TooLarge said = absurd said
top_wrong files dir from to (BadState e) said = absurd said
top_wrong files dir from to Mismatch said = absurd said
top_wrong files dir from to TimeBack said = absurd said
top_wrong files dir from to (BadChange place why) said = absurd said

of_top : (files : Files) (dir : List ℕ) (from to : ℕ) (cause : Option Cause) (f : Found) → IsTopSaid files dir from to cause
    → Contains (noted to Top cause) f → IsTrueFinding files dir from to f
of_top files dir from to cause f said h =
    let is = noted_is to Top cause f h in
    let wrong = top_wrong files dir from to is.0 (subst (λ (o : Option Cause). IsTopSaid files dir from to o) is.1 said) in
    subst (λ (g : Found). IsTrueFinding files dir from to g) (sym is.2)
    (inr (record { number_is = refl; file_is = refl; cause_is = wrong.0; wrong = wrong.1 }))

pub are_true : (files : Files) (dir : List ℕ) (from to : ℕ) (found : List Found) (f : Found) → AreFindings files dir from to found
    → Contains found f → IsTrueFinding files dir from to f
are_true files dir from to found f are h =
    by_part (Contains-append_cases are.numbers (noted to Top are.top) f (subst (λ (xs : List Found). Contains xs f) are.found_are h))
  where
    by_part : Contains are.numbers f ⊎ Contains (noted to Top are.top) f → IsTrueFinding files dir from to f
    by_part (inl a) = true_within files dir from to f (of_numbers files dir from (to + 1) are.numbers f are.numbers_are a)
    by_part (inr b) = of_top files dir from to are.top f are.top_said b

-- ---- each file that is wrong is found

found_left : (xs ys : List Found) (file : FileName) → IsFound xs file → IsFound (xs ++ ys) file
found_left xs ys file h = (h.0, Contains-append_left xs ys (File h.0) h.1, h.2)

found_right : (xs ys : List Found) (file : FileName) → IsFound ys file → IsFound (xs ++ ys) file
found_right xs ys file h = (h.0, Contains-append_right xs ys (File h.0) h.1, h.2)

file_found : NoFaultBesideState → (files : Files) (dir : List ℕ) (from n : ℕ) (suffix : Suffix) (said : Option Cause) (cause : Cause)
    → IsSaid files dir from n suffix said → IsWrong files dir from n suffix cause → IsFound (noted n (Sequence n suffix) said) (Sequence n suffix)
file_found apart files dir from n suffix None cause right wrong = absurd (either apart files dir from n suffix cause right wrong)
file_found apart files dir from n suffix (Some c) cause said wrong =
    (record { number = n; file = Sequence n suffix; cause = c }, Contains-push [] (File (record { number = n; file = Sequence n suffix; cause = c })), refl)

number_found : NoFaultBesideState → (files : Files) (dir : List ℕ) (from n : ℕ) (suffix : Suffix) (cause : Cause) (found : List Found)
    → AreOfNumber files dir from n found → IsWrong files dir from n suffix cause → IsFound found (Sequence n suffix)
number_found apart files dir from n suffix cause found are wrong =
    subst (λ (xs : List Found). IsFound xs (Sequence n suffix)) (sym are.found_are) (by_suffix suffix wrong)
  where
    state : List Found
    state = noted n (Sequence n State) are.state

    o5c : List Found
    o5c = noted n (Sequence n O5c) are.o5c

    opl : List Found
    opl = noted n (Sequence n Opl) are.opl

    by_suffix : (s : Suffix) → IsWrong files dir from n s cause → IsFound (state ++ (o5c ++ opl)) (Sequence n s)
    by_suffix State w =
        found_left state (o5c ++ opl) (Sequence n State) (file_found apart files dir from n State are.state cause are.state_said w)
    by_suffix O5c w =
        found_right state (o5c ++ opl) (Sequence n O5c)
        (found_left o5c opl (Sequence n O5c) (file_found apart files dir from n O5c are.o5c cause are.o5c_said w))
    by_suffix Opl w =
        found_right state (o5c ++ opl) (Sequence n Opl)
        (found_right o5c opl (Sequence n Opl) (file_found apart files dir from n Opl are.opl cause are.opl_said w))

numbers_found : NoFaultBesideState → (files : Files) (dir : List ℕ) (from next k : ℕ) (suffix : Suffix) (cause : Cause) (found : List Found)
    → AreOfNumbers files dir from next found → from ≤ k → k < next → (IsLost files dir k → ⊥) → IsWrong files dir from k suffix cause
    → IsFound found (Sequence k suffix)
numbers_found apart files dir from _ k suffix cause _ of_none low high there wrong = absurd (omega (arith, low, high))
numbers_found apart files dir from _ k suffix cause _ (of_number n earlier last are one) low high there wrong =
    by_order (λ below. numbers_found apart files dir from n k suffix cause earlier are low below there wrong) (cases_lt k n)
  where
    by_order : (k < n → IsFound earlier (Sequence k suffix)) → (k < n) ⊎ (n ≤ k) → IsFound (earlier ++ last) (Sequence k suffix)
    by_order before (inl below) = found_left earlier last (Sequence k suffix) (before below)
    by_order before (inr reached) = (let same : n ≡ k = omega (arith, reached, high) in
        found_right earlier last (Sequence k suffix)
        (number_found apart files dir from k suffix cause last (subst (λ (m : ℕ). AreOfNumber files dir from m last) same one) wrong))
numbers_found apart files dir from _ k suffix cause _ (of_range first last earlier are begins some lost) low high there wrong =
    by_order (λ below. numbers_found apart files dir from first k suffix cause earlier are low below there wrong) (cases_lt k first)
  where
    by_order : (k < first → IsFound earlier (Sequence k suffix)) → (k < first) ⊎ (first ≤ k)
        → IsFound (earlier ++ Numbers first last ∷ []) (Sequence k suffix)
    by_order before (inl below) = found_left earlier (Numbers first last ∷ []) (Sequence k suffix) (before below)
    by_order before (inr reached) = absurd (there (lost k reached (omega (arith, high))))

pub files_found : NoFaultBesideState → (files : Files) (dir : List ℕ) (from to k : ℕ) (suffix : Suffix) (cause : Cause) (found : List Found)
    → AreFindings files dir from to found → from ≤ k → k ≤ to → (IsLost files dir k → ⊥) → IsWrong files dir from k suffix cause
    → IsFound found (Sequence k suffix)
files_found apart files dir from to k suffix cause found are low high there wrong =
    subst (λ (xs : List Found). IsFound xs (Sequence k suffix)) (sym are.found_are)
    (found_left are.numbers (noted to Top are.top) (Sequence k suffix)
    (numbers_found apart files dir from (to + 1) k suffix cause are.numbers are.numbers_are low (omega (arith, high)) there wrong))

-- ---- each number of which no file is there is in a range

in_left : (xs ys : List Found) (k : ℕ) → IsInRange xs k → IsInRange (xs ++ ys) k
in_left xs ys k h = (h.0, h.1, Contains-append_left xs ys (Numbers h.0 h.1) h.2, h.3, h.4)

in_range : (files : Files) (dir : List ℕ) (from next k : ℕ) (found : List Found) → AreOfNumbers files dir from next found
    → from ≤ k → k < next → IsLost files dir k → IsInRange found k
in_range files dir from _ k _ of_none low high lost = absurd (omega (arith, low, high))
in_range files dir from _ k _ (of_number n earlier last are one) low high lost =
    by_order (λ below. in_range files dir from n k earlier are low below lost) (cases_lt k n)
  where
    by_order : (k < n → IsInRange earlier k) → (k < n) ⊎ (n ≤ k) → IsInRange (earlier ++ last) k
    by_order before (inl below) = in_left earlier last k (before below)
    by_order before (inr reached) = (let same : k ≡ n = omega (arith, reached, high) in
        absurd (one.there (subst (λ (m : ℕ). IsLost files dir m) same lost)))
in_range files dir from _ k _ (of_range first last earlier are begins some all_lost) low high lost =
    by_order (λ below. in_range files dir from first k earlier are low below lost) (cases_lt k first)
  where
    by_order : (k < first → IsInRange earlier k) → (k < first) ⊎ (first ≤ k) → IsInRange (earlier ++ Numbers first last ∷ []) k
    by_order before (inl below) = in_left earlier (Numbers first last ∷ []) k (before below)
    by_order before (inr reached) = (
      first,
      last,
      Contains-append_right earlier (Numbers first last ∷ []) (Numbers first last) (Contains-push [] (Numbers first last)),
      reached,
      omega (arith, high),
    )

pub ranges_found : (files : Files) (dir : List ℕ) (from to k : ℕ) (found : List Found) → AreFindings files dir from to found
    → from ≤ k → k ≤ to → IsLost files dir k → IsInRange found k
ranges_found files dir from to k found are low high lost =
    subst (λ (xs : List Found). IsInRange xs k) (sym are.found_are)
    (in_left are.numbers (noted to Top are.top) k
    (in_range files dir from (to + 1) k are.numbers are.numbers_are low (omega (arith, high)) lost))

-- ---- so has the newest state

top_noted : (files : Files) (dir : List ℕ) (from to : ℕ) (said : Option Cause) → IsTopSaid files dir from to said
    → IsOtherTop files dir from to → IsFound (noted to Top said) Top
top_noted files dir from to None right wrong = absurd (right wrong)
top_noted files dir from to (Some c) said wrong =
    (record { number = to; file = Top; cause = c }, Contains-push [] (File (record { number = to; file = Top; cause = c })), refl)

pub top_found : (files : Files) (dir : List ℕ) (from to : ℕ) (found : List Found) → AreFindings files dir from to found
    → IsOtherTop files dir from to → IsFound found Top
top_found files dir from to found are wrong =
    subst (λ (xs : List Found). IsFound xs Top) (sym are.found_are)
    (found_right are.numbers (noted to Top are.top) Top (top_noted files dir from to are.top are.top_said wrong))
