use Rattle.std.proofs.Common.{◌≡◌, ◌<◌, length, rules}
use Rattle.osm_opl.proofs.EscapeLemmas.{bare_long, bare_read, bare_text, bare_wrong}
use Rattle.osm_opl.proofs.escapes.read_bare.Goals as goal

pub returns-in_default-clause-value : goal.returns-in_default-clause-value
returns-in_default-clause-value c = bare_wrong c.args.bytes.now c.requires c.in_default.ensures.cases.0

pub returns-then-text-gt-MAX_TEXT-clause-value : goal.returns-then-text-gt-MAX_TEXT-clause-value
returns-then-text-gt-MAX_TEXT-clause-value c =
    let same : c.in-Ok.text.now ≡ c.args.bytes.now = c.in-Ok.ensures.cases.0 in
    let long : 1020 < length c.in-Ok.text.now = search rules in
    bare_long c.args.bytes.now c.requires c.in-Ok.ensures.cases.1 (rw same at long)

pub within_limits-requires : goal.within_limits-requires
within_limits-requires c =
    let same : c.in-Ok.text.now ≡ c.args.bytes.now = c.in-Ok.ensures.cases.0 in
    let short : ¬ (1020 < length c.in-Ok.text.now) = search rules in
    rw same (bare_text c.args.bytes.now c.requires c.in-Ok.ensures.cases.1 (rw same at short))

pub returns-clause-value : goal.returns-clause-value
returns-clause-value c =
    let same : c.in-Ok.text.now ≡ c.args.bytes.now = c.in-Ok.ensures.cases.0 in
    let is : c.in_ok-within_limits.field-0 ≡ c.args.bytes.now = search rules in
    let short : ¬ (1020 < length c.in-Ok.text.now) = search rules in
    rw is (bare_read c.args.bytes.now c.requires (bare_text c.args.bytes.now c.requires c.in-Ok.ensures.cases.1 (rw same at short)))
