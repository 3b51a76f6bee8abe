use Rattle.osm_runs.specs.declared.form.Form.TheVariants as forms
use Rattle.osm_audit.proofs.ChangeLemmas.{o5c_wrong, opl_alone, without_o5c, wrong_changes}
use Rattle.osm_audit.proofs.changes.say.Goals as goal

pub returns-in-Absent : goal.returns-in-Absent
returns-in-Absent c in_o5c in_opl o5c opl =
    without_o5c in_o5c in_opl c.say_without_o5c.result.o5c c.say_without_o5c.result.opl (rw c.in-Absent.is at o5c)
    (c.say_without_o5c.ensures in_opl opl)

pub returns-in-Wrong : goal.returns-in-Wrong
returns-in-Wrong c in_o5c in_opl o5c opl =
    let wrong = rw c.in-Wrong.is at o5c in (
      o5c_wrong in_o5c in_opl c.in-Wrong.cause wrong,
      rw c.cause_of.ensures (opl_alone in_o5c in_opl c.args.opl.now (λ others. wrong_changes forms.O5c in_o5c c.in-Wrong.cause others wrong) opl),
    )
