use Rattle.std.proofs.Common.{◌≡◌, suc, ◌-◌, ◌<◌, None, refl, rules, arith, length}
use Rattle.osm_blocks.specs.Places.{left_of}
use Rattle.osm_model.specs.Change.{ChangeValue}
use Rattle.osm_net.specs.Laid.{laid_over}
use Rattle.osm_save.specs.Reading.{object_at}
use Rattle.osm_merge.specs.Laying.{next_at}
use Rattle.osm_merge.proofs.CallLemmas.{next_shorter}
use Rattle.osm_merge.proofs.LineLemmas.{refuses_all}
use Rattle.osm_merged.specs.Ahead.{objects_ahead}
use Rattle.osm_merged.proofs.AheadLemmas.{none_read}
use Rattle.osm_merged.proofs.PassLemmas.{line_passed}
use Rattle.osm_merged.proofs.TurnLemmas.{Objects}
use Rattle.osm_merged.proofs.objects.MergedObjects.pass_line.Goals as goal

pub returns-in-Ok-Some-clause-passed : goal.returns-in-Ok-Some-clause-passed
returns-in-Ok-Some-clause-passed g c =
    let f = c.args.filter.now in
    let a : Objects = record { changes = c.self.inside.entries.now; lines = c.self.inside.lines; last = c.self.inside.last; held = None } in
    let none : c.self.inside.held ≡ None = search rules in
    let some : 0 < c.self.inside.lines = omega arith in
    let passed = rw c.in-Ok-Some.field-0-is at c.in-Ok-Some.ensures.passed in
    rw (← c.self.view_is) (
      passed.0,
      (λ file has.
          rw none (line_passed f a c.in-Ok-Some.key (left_of c.args.source.now file) (left_of c.pass_object.new.source file) passed.0 refl some passed.2
          (rw (c.first_key.ensures, ← c.self.view_is) at passed.3) (passed.1 file has))),
      passed.4,
    )

pub returns-in-Ok-Some-clause-shorter : goal.returns-in-Ok-Some-clause-shorter
returns-in-Ok-Some-clause-shorter g c = λ yes file has.
    let passed = rw c.in-Ok-Some.field-0-is at c.in-Ok-Some.ensures.passed in
    let less : length (left_of c.pass_object.new.source file) < length (left_of c.args.source.now file) =
    next_shorter (object_at c.args.filter.now) c.self.inside.last (left_of c.args.source.now file) (left_of c.pass_object.new.source file) passed.0
    (passed.1 file has) in
    rw (← c.self.view_is) (omega (arith, less))

pub returns-in-Err-clause-refused : goal.returns-in-Err-clause-refused
returns-in-Err-clause-refused g c = λ file has.
    let f = c.args.filter.now in
    let a : Objects = record { changes = c.self.inside.entries.now; lines = c.self.inside.lines; last = c.self.inside.last; held = c.self.inside.held } in
    let some : c.self.inside.lines ≡ suc (c.self.inside.lines - 1) = omega arith in
    rw (← c.self.view_is)
    (refuses_all file c.in-Err.fault (next_at (object_at f) c.self.inside.last (left_of c.args.source.now file))
    (objects_ahead f a (left_of c.args.source.now file)) (c.in-Err.ensures.refused file has)
    (none_read laid_over (λ (o : ChangeValue). o.key) (object_at f) a (c.self.inside.lines - 1) (left_of c.args.source.now file) some))
