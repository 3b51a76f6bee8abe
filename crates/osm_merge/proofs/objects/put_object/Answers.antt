use Rattle.std.proofs.Common.{sym}
use Rattle.osm_save.specs.Reading.{object_of}
use Rattle.osm_merge.specs.Laying.{Writes}
use Rattle.osm_merge.proofs.ObjectLemmas.{lays_alone}
use Rattle.osm_merge.proofs.objects.put_object.Goals as goal

pub returns-in-Ok-clause-laid : goal.returns-in-Ok-clause-laid
returns-in-Ok-clause-laid g c =
    let object = object_of c.args.line.now in
    lays_alone c.args.entries.now object
    (Writes (g.S.Store.state c.args.store.now) c.args.writer.now (g.S.Store.state c.put_line.new.store) c.put_line.new.self)
    (c.is_before_all.ensures c.if-is_before_all.true object (sym c.requires.named))
    (rw (← c.requires.text) c.in-Ok.ensures.put)
