use Rattle.std.proofs.Common.{◌≡◌, sym, ◌∙◌, ap, rules}
use Rattle.osm_opl.specs.Written.{line_text}
use Rattle.osm_judge.proofs.ViewLemmas.{told_apart, one_line}
use Rattle.osm_judge.proofs.views.is_same.Goals as goal

-- equal changes have equal lines, and the other way
pub returns : goal.returns
returns c =
    let one : c.as_slice.result.now ≡ line_text c.args.change.now = search rules in
    let other : c.as_slice-2.result.now ≡ line_text c.args.other.now = search rules in
    let told = told_apart c.as_slice.result.now c.as_slice-2.result.now c.eq.result c.eq.ensures in (
      λ t. one_line c.args.change.now c.args.other.now c.limits.ensures c.limits-2.ensures (sym one ∙ (told.0 t ∙ other)),
      λ e. told.1 (one ∙ (ap line_text e ∙ sym other)),
    )
