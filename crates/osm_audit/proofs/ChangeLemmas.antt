-- What is said of two change files, from what each holds.
use Rattle.std.proofs.Common.{◌≡◌, ℕ, List, length, Option, Some, None, arith, ap, sym, subst, ◌∙◌}
use Rattle.std.proofs.lemmas.Option.{same_Some}
use Rattle.osm_model.specs.Change.{ChangeValue}
use Rattle.osm_model.specs.Limits.{max_file}
use Rattle.osm_o5c.proofs.FrontLemmas as o5c_file
use Rattle.osm_store.specs.Files.{IsOver}
use Rattle.osm_runs.specs.Folder.{IsThere}
use Rattle.osm_runs.specs.Forms.{IsFaulty}
use Rattle.osm_runs.specs.declared.form.Form.{Form}
use Rattle.osm_runs.specs.declared.form.Form.TheVariants as forms
use Rattle.osm_audit.specs.Findings.{HasChanges, IsO5cWrong, IsOplRight, IsOplWrong}
use Rattle.osm_audit.specs.Steps.Looking.{AreChangesSaid, IsHeld, IsOplSaid, cause_in}
use Rattle.osm_audit.specs.declared.changes.Held.{Held}
use Rattle.osm_audit.specs.declared.changes.Held.TheVariants as held
use Rattle.osm_audit.specs.declared.finding.Cause.{Cause}
use Rattle.osm_audit.specs.declared.finding.Cause.TheVariants.{Absent, TooLarge, BadState, Mismatch, TimeBack, BadChange, Differs}

-- a file that can't be read has no changes
pub over_changes : (form : Form) (told : Option (List ℕ)) (changes : List ChangeValue) → IsOver max_file told
    → IsThere told (HasChanges form changes) → ⊥
over_changes form None changes o h = h
over_changes form (Some bytes) changes o h =
    let same = ap length (same_Some bytes o.bytes o.there) in
    let over = o.over in
    let small = h.0 in
    omega (arith, same, over, small)

pub faulty_changes : (form : Form) (told : Option (List ℕ)) (place : ℕ) (changes : List ChangeValue)
    → IsThere told (λ bytes. IsFaulty form bytes place) → IsThere told (HasChanges form changes) → ⊥
faulty_changes form None place changes f h = h
faulty_changes form (Some bytes) place changes f h = f.nothing changes h.1

pub wrong_changes : (form : Form) (told : Option (List ℕ)) (cause : Cause) (changes : List ChangeValue)
    → IsHeld form told (held.Wrong cause) → IsThere told (HasChanges form changes) → ⊥
wrong_changes form told TooLarge changes w h = over_changes form told changes w h
wrong_changes form told (BadChange place why) changes w h = faulty_changes form told place changes w h
wrong_changes form told Absent changes w h = absurd w
wrong_changes form told (BadState e) changes w h = absurd w
wrong_changes form told Mismatch changes w h = absurd w
wrong_changes form told TimeBack changes w h = absurd w
wrong_changes form told Differs changes w h = absurd w

-- what is said of an o5c file that can't be read
pub o5c_wrong : (o5c opl : Option (List ℕ)) (cause : Cause) → IsHeld forms.O5c o5c (held.Wrong cause) → IsO5cWrong o5c opl cause
o5c_wrong o5c opl TooLarge w = w
o5c_wrong o5c opl (BadChange place why) w = w
o5c_wrong o5c opl Absent w = absurd w
o5c_wrong o5c opl (BadState e) w = absurd w
o5c_wrong o5c opl Mismatch w = absurd w
o5c_wrong o5c opl TimeBack w = absurd w
o5c_wrong o5c opl Differs w = absurd w

-- what is said of an OPL file that can't be read
opl_wrong : (o5c opl : Option (List ℕ)) (cause : Cause) → IsHeld forms.Opl opl (held.Wrong cause) → IsOplWrong o5c opl cause
opl_wrong o5c opl TooLarge w = w
opl_wrong o5c opl (BadChange place why) w = w
opl_wrong o5c opl Absent w = absurd w
opl_wrong o5c opl (BadState e) w = absurd w
opl_wrong o5c opl Mismatch w = absurd w
opl_wrong o5c opl TimeBack w = absurd w
opl_wrong o5c opl Differs w = absurd w

-- what is said of an OPL file beside an o5c file without changes
pub opl_alone : (o5c opl : Option (List ℕ)) (holds : Held)
    → ((others : List ChangeValue) → IsThere o5c (HasChanges forms.O5c others) → ⊥)
    → IsHeld forms.Opl opl holds → IsOplSaid o5c opl (cause_in holds)
opl_alone o5c opl held.Absent none h = subst (λ (o : Option (List ℕ)). IsOplRight o5c o) (sym h) tt
opl_alone o5c opl (held.Wrong cause) none h = opl_wrong o5c opl cause h
opl_alone o5c None (held.Changes changes) none h = absurd h
opl_alone o5c (Some bytes) (held.Changes changes) none h = (changes, h, λ others there. absurd (none others there))

-- what is said of an OPL file beside an o5c file with changes
one_o5c : (told : Option (List ℕ)) (a b : List ChangeValue) → IsThere told (HasChanges forms.O5c a) → IsThere told (HasChanges forms.O5c b) → a ≡ b
one_o5c None a b p q = absurd p
one_o5c (Some bytes) a b p q = o5c_file.one_batch bytes a b p.1 q.1

pub opl_same : (o5c opl : Option (List ℕ)) (others changes : List ChangeValue) → IsThere o5c (HasChanges forms.O5c others)
    → IsHeld forms.Opl opl (held.Changes changes) → others ≡ changes → IsOplRight o5c opl
opl_same o5c None others changes p h same = absurd h
opl_same o5c (Some bytes) others changes p h same = (changes, h, λ more there. one_o5c o5c more others there p ∙ same)

-- an o5c file that isn't there
pub without_o5c : (o5c opl : Option (List ℕ)) (first second : Option Cause) → o5c ≡ None → AreChangesSaid None opl first second
    → AreChangesSaid o5c opl first second
without_o5c o5c opl first second none said = subst (λ (o : Option (List ℕ)). AreChangesSaid o opl first second) (sym none) said
