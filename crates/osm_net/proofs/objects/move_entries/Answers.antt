use Rattle.osm_net.proofs.SlotLemmas.{err_also, some_listed}
use Rattle.osm_net.proofs.objects.move_entries.Goals as goal

pub returns-in-Ok-clause-refused : goal.returns-in-Ok-clause-refused
returns-in-Ok-clause-refused c =
    err_also c.move_listed.result (some_listed c.in-Ok.ids.items c.in-Ok.lefts.items c.args.from c.in-Ok.ensures.many c.in-Ok.ensures.entries)
    c.move_listed.ensures.refused
