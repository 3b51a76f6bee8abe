use Rattle.std.proofs.Common.{rules, refl, subst, ◌≡◌, false, true, [], ◌∷◌, ◌++◌}
use Rattle.osm_opl.specs.Steps.Adding.{change, skipped}
use Rattle.osm_reading.specs.Lines.{is_skipped}
use Rattle.osm_opl.proofs.LineLaws.{one_change}
use Rattle.osm_opl.proofs.files.add_line.Goals as goal

pub returns-then-is_skipped_line-clause-ok : goal.returns-then-is_skipped_line-clause-ok
returns-then-is_skipped_line-clause-ok g c =
    let says : is_skipped c.args.line.now ≡ true = search rules in
    skipped c.args.line.now c.args.changes.now.items says

pub returns-in-Err-Fault-clause-refused : goal.returns-in-Err-Fault-clause-refused
returns-in-Err-Fault-clause-refused g c =
    let says : is_skipped c.args.line.now ≡ false = search rules in
    let refused = rw c.in-Err-Fault.field-0-is at c.in-Err-Fault.ensures.refused in
    (refl, says, λ d h next. refused d h)

-- a line spells one change alone, and that one may not follow
pub returns-in-Err-clause-refused : goal.returns-in-Err-clause-refused
returns-in-Err-clause-refused g c =
    let says : is_skipped c.args.line.now ≡ false = search rules in
    let other = rw c.as_slice.ensures.value at c.in-Err.ensures.other in (
      refl,
      says,
      λ d spells next. other
          (subst (λ x. g.F.FileLimits.limits (c.args.changes.now.items ++ x ∷ []))
          (one_change c.args.line.now d c.in-Ok.change spells c.in-Ok.ensures.spelled) next),
    )

pub returns-in-Ok-append-clause-ok : goal.returns-in-Ok-append-clause-ok
returns-in-Ok-append-clause-ok g c =
    let says : is_skipped c.args.line.now ≡ false = search rules in
    rw c.in-Ok-append.ensures (change c.args.line.now c.args.changes.now.items c.in-Ok.change says c.in-Ok.ensures.spelled)
