use Rattle.std.proofs.Common.{◌≡◌, suc, ◌-◌, ◌<◌, None, Some, refl, rules, arith, length}
use Rattle.std.proofs.lemmas.Bool.Decides.{nat_tests}
use Rattle.osm_blocks.specs.Places.{left_of}
use Rattle.osm_model.specs.Change.{ChangeValue}
use Rattle.osm_net.specs.Laid.{laid_over}
use Rattle.osm_save.specs.Reading.{object_at}
use Rattle.osm_merge.specs.Laying.{next_at}
use Rattle.osm_merge.proofs.CallLemmas.{next_shorter}
use Rattle.osm_merge.proofs.LineLemmas.{refuses_all}
use Rattle.osm_merged.specs.Ahead.{objects_ahead}
use Rattle.osm_merged.proofs.AheadLemmas.{none_read, one_read}
use Rattle.osm_merged.proofs.objects.MergedObjects.fill.Goals as goal

pub returns-in-Ok-clause-same : goal.returns-in-Ok-clause-same
returns-in-Ok-clause-same g c = λ file has.
    let f = c.args.filter.now in
    let none : c.self.inside.held ≡ None = search rules in
    let above : 0 < c.self.inside.lines = grind (arith, nat_tests) in
    let some : c.self.inside.lines ≡ suc (c.self.inside.lines - 1) = omega (arith, above) in
    rw (← c.self.view_is)
    (one_read laid_over (λ (o : ChangeValue). o.key) (object_at f)
    (record { changes = c.self.inside.entries.now; lines = c.self.inside.lines; last = c.self.inside.last; held = c.self.inside.held })
    (record { changes = c.self.inside.entries.now; lines = c.self.inside.lines - 1; last = Some c.key.result; held = Some c.in-Ok.object })
    (left_of c.args.source.now file) (left_of c.next_object.new.source file) c.in-Ok.object none some refl (search rules) refl
    (c.in-Ok.ensures.read file has))

pub returns-in-Ok-clause-shorter : goal.returns-in-Ok-clause-shorter
returns-in-Ok-clause-shorter g c = λ file has.
    let f = c.args.filter.now in
    let none : c.self.inside.held ≡ None = search rules in
    let less : length (left_of c.next_object.new.source file) < length (left_of c.args.source.now file) =
    next_shorter (object_at f) c.self.inside.last (left_of c.args.source.now file) (left_of c.next_object.new.source file) c.in-Ok.object
    (c.in-Ok.ensures.read file has) in
    rw (← c.self.view_is, none) (omega (arith, less))

pub returns-in-Err-clause-refused : goal.returns-in-Err-clause-refused
returns-in-Err-clause-refused g c = λ file has.
    let f = c.args.filter.now in
    let above : 0 < c.self.inside.lines = grind (arith, nat_tests) in
    let some : c.self.inside.lines ≡ suc (c.self.inside.lines - 1) = omega (arith, above) in
    rw (← c.self.view_is)
    (refuses_all file c.in-Err.fault (next_at (object_at f) c.self.inside.last (left_of c.args.source.now file))
    (objects_ahead f (record { changes = c.self.inside.entries.now; lines = c.self.inside.lines; last = c.self.inside.last; held = c.self.inside.held })
    (left_of c.args.source.now file))
    (c.in-Err.ensures.read file has)
    (none_read laid_over (λ (o : ChangeValue). o.key) (object_at f)
    (record { changes = c.self.inside.entries.now; lines = c.self.inside.lines; last = c.self.inside.last; held = c.self.inside.held })
    (c.self.inside.lines - 1) (left_of c.args.source.now file) some))
