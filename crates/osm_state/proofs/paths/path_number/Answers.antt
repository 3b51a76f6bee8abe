use Rattle.std.proofs.Common.{length, take, drop, arith, ap, sym, ◌∙◌}
use Rattle.osm_state.proofs.PathLemmas.{path_folders, path_end, path_long, path_joined}
use Rattle.osm_state.proofs.paths.path_number.Goals as goal

-- no path is shorter than its folders
pub returns-in_err-folders-clause-only : goal.returns-in_err-folders-clause-only
returns-in_err-folders-clause-only c = λ n s h e.
    let long = path_long n s in
    let same = ap length (c.as_bytes.ensures.value ∙ e) in
    absurd (omega (arith, c.in_err-folders.ensures.cases, long, same))

pub returns-in_err-number_of-clause-only : goal.returns-in_err-number_of-clause-only
returns-in_err-number_of-clause-only c = λ n s h e.
    let start = c.in_ok-folders.ensures.cases.0 ∙ (ap (λ text. take 11 text) (c.as_bytes.ensures.value ∙ e) ∙ path_folders n s) in
    let some = c.in_err-number_of.ensures.only n h start in absurd (cc)

pub returns-in_err-suffix_of-clause-only : goal.returns-in_err-suffix_of-clause-only
returns-in_err-suffix_of-clause-only c = λ n s h e.
    let end = c.in_ok-folders.ensures.cases.1 ∙ (ap (λ text. drop 11 text) (c.as_bytes.ensures.value ∙ e) ∙ path_end n s) in
    let some = c.in_err-suffix_of.ensures.only s end in absurd (cc)

pub returns-clause-found : goal.returns-clause-found
returns-clause-found c =
    let start = ap (λ text. take 11 text) (sym c.as_bytes.ensures.value) ∙ (sym c.in_ok-folders.ensures.cases.0 ∙ c.in_ok-number_of.ensures.found.1) in
    let end = ap (λ text. drop 11 text) (sym c.as_bytes.ensures.value) ∙ (sym c.in_ok-folders.ensures.cases.1 ∙ c.in_ok-suffix_of.ensures.found) in
    (c.in_ok-number_of.ensures.found.0, path_joined c.args.text.now c.in_ok-number_of.field-0 c.in_ok-suffix_of.field-0 start end)

pub returns-clause-only : goal.returns-clause-only
returns-clause-only c = λ n s h e.
    let start = c.in_ok-folders.ensures.cases.0 ∙ (ap (λ text. take 11 text) (c.as_bytes.ensures.value ∙ e) ∙ path_folders n s) in
    let end = c.in_ok-folders.ensures.cases.1 ∙ (ap (λ text. drop 11 text) (c.as_bytes.ensures.value ∙ e) ∙ path_end n s) in
    let number = c.in_ok-number_of.ensures.only n h start in
    let suffix = c.in_ok-suffix_of.ensures.only s end in
    cc
