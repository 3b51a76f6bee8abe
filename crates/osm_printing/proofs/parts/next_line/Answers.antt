use Rattle.osm_printing.proofs.PartLemmas.{takes_line}
use Rattle.osm_printing.proofs.parts.next_line.Goals as goal

pub returns-clause-taken : goal.returns-clause-taken
returns-clause-taken g c = rw c.is_some.ensures
    (takes_line (g.S.Store.state c.args.store.now) c.args.save.now c.args.filter.now c.args.objects.now c.next.new.self c.args.source.now
    c.next.new.source c.next.new.spelled.items c.in_ok-object.object c.in_ok-object.ensures.given c.in_ok-object.ensures.spelled)
