use Rattle.std.proofs.Common.{rules, refl, sym, subst, ◌≡◌, false}
use Rattle.osm_reading.specs.Lines.{is_skipped}
use Rattle.osm_opl.proofs.LineLaws.{one_change}
use Rattle.osm_data.specs.Steps.OplObjects.{NeverFollows}
use Rattle.osm_data.proofs.opl_objects.read_object.Goals as goal

pub returns-in-Err-Fault-clause-stops : goal.returns-in-Err-Fault-clause-stops
returns-in-Err-Fault-clause-stops c =
    let says : is_skipped c.args.line.now ≡ false = search rules in
    let refused = rw c.in-Err-Fault.field-0-is at c.in-Err-Fault.ensures.refused in
    (refl, says, λ d spells objects right last next. refused d spells)

-- a line spells one object alone, and that one may not follow
pub returns-in-Err-clause-stops : goal.returns-in-Err-clause-stops
returns-in-Err-clause-stops c =
    let says : is_skipped c.args.line.now ≡ false = search rules in (
      refl,
      says,
      λ d spells. subst (λ x. NeverFollows c.args.last x)
          (sym (one_change c.args.line.now d c.in-Ok.object spells c.in-Ok.ensures.spelled)) c.in-Err.ensures.never,
    )
