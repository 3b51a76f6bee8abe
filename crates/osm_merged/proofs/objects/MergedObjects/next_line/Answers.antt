use Rattle.std.proofs.Common.{◌≡◌, suc, ◌-◌, ◌<◌, [], None, Some, refl, rules, arith, length}
use Rattle.osm_blocks.specs.Places.{left_of}
use Rattle.osm_model.specs.Change.{ChangeValue}
use Rattle.osm_net.specs.Laid.{laid_over}
use Rattle.osm_save.specs.Reading.{object_at}
use Rattle.osm_merge.specs.Laying.{next_at}
use Rattle.osm_merge.proofs.CallLemmas.{next_shorter}
use Rattle.osm_merge.proofs.LineLemmas.{refuses_all}
use Rattle.osm_merged.specs.Ahead.{objects_ahead}
use Rattle.osm_merged.specs.Steps.Turns.{without_held}
use Rattle.osm_merged.specs.declared.objects.Turn.TheVariants.{Object}
use Rattle.osm_merged.proofs.AheadLemmas.{keeps_gives, none_read, one_read}
use Rattle.osm_merged.proofs.TurnLemmas.{Objects, turned_last}
use Rattle.osm_merged.proofs.objects.MergedObjects.next_line.Goals as goal

-- the line is read as if its object were held, and then that is given
pub returns-in-Ok-clause-exact : goal.returns-in-Ok-clause-exact
returns-in-Ok-clause-exact g c = λ file has.
    let f = c.args.filter.now in
    let a : Objects = record { changes = []; lines = c.self.inside.lines; last = c.self.inside.last; held = None } in
    let filled : Objects = record { changes = []; lines = a.lines - 1; last = Some c.key.result; held = Some c.in-Ok.object } in
    let none : c.self.inside.entries.now ≡ [] = rw (← c.self.view_is) at c.requires.none in
    let empty : c.self.inside.held ≡ None = rw (← c.self.view_is) at c.requires.empty in
    let above : 0 < c.self.inside.lines = rw (← c.self.view_is) at c.requires.some in
    let some : a.lines ≡ suc (a.lines - 1) = omega (arith, above) in
    let key : c.key.result ≡ c.in-Ok.object.key = search rules in
    rw (← c.self.view_is, none, empty)
    (keeps_gives (λ bs. objects_ahead f a bs) (λ bs. objects_ahead f filled bs) (λ bs. objects_ahead f (without_held filled) bs)
    (left_of c.args.source.now file) (left_of c.next_object.new.source file) (Some c.in-Ok.object)
    (one_read laid_over (λ (o : ChangeValue). o.key) (object_at f) a filled (left_of c.args.source.now file)
    (left_of c.next_object.new.source file) c.in-Ok.object refl some refl (rw key refl) refl (c.in-Ok.ensures.read file has))
    (λ tail. turned_last f tail filled (without_held filled) (Object c.in-Ok.object) (λ held. absurd cc) refl (refl, refl)))

pub returns-in-Ok-clause-shorter : goal.returns-in-Ok-clause-shorter
returns-in-Ok-clause-shorter g c = λ file has.
    let f = c.args.filter.now in
    let less : length (left_of c.next_object.new.source file) < length (left_of c.args.source.now file) =
    next_shorter (object_at f) c.self.inside.last (left_of c.args.source.now file) (left_of c.next_object.new.source file) c.in-Ok.object
    (c.in-Ok.ensures.read file has) in
    rw (← c.self.view_is) (omega (arith, less))

pub returns-in-Err-clause-refused : goal.returns-in-Err-clause-refused
returns-in-Err-clause-refused g c = λ file has.
    let f = c.args.filter.now in
    let a : Objects = record {
      changes = c.self.inside.entries.now;
      lines = c.self.inside.lines;
      last = c.self.inside.last;
      held = c.self.inside.held;
    } in
    let above : 0 < c.self.inside.lines = rw (← c.self.view_is) at c.requires.some in
    let some : c.self.inside.lines ≡ suc (c.self.inside.lines - 1) = omega (arith, above) in
    rw (← c.self.view_is)
    (refuses_all file c.in-Err.fault (next_at (object_at f) c.self.inside.last (left_of c.args.source.now file))
    (objects_ahead f a (left_of c.args.source.now file)) (c.in-Err.ensures.read file has)
    (none_read laid_over (λ (o : ChangeValue). o.key) (object_at f) a (c.self.inside.lines - 1) (left_of c.args.source.now file) some))
