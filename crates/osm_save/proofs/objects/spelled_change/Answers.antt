use Rattle.std.proofs.Common.{◌≡◌, false, rules, sym, ◌∙◌}
use Rattle.std.specs.Str.{bytes_eq}
use Rattle.osm_opl.specs.Written.{line_text}
use Rattle.osm_save.proofs.ObjectLemmas.{none_spelled, none_written}
use Rattle.osm_save.proofs.objects.spelled_change.Goals as goal

pub returns-in_default : goal.returns-in_default
returns-in_default c = none_spelled c.args.line.now (sym c.in_default.is ∙ c.in_ok-change.ensures)

pub returns-else-eq : goal.returns-else-eq
returns-else-eq c =
    let other : bytes_eq (line_text c.in-Some.change) c.args.line.now ≡ false = search rules in
    none_written c.args.line.now c.in-Some.change (sym c.in_ok-change.ensures ∙ c.in-Some.is) other
