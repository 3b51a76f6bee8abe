use Rattle.std.proofs.Common.{length, subst, sym}
use Rattle.osm_range.specs.Steps.Counting.{HasRoom}
use Rattle.osm_range.proofs.RowLemmas.{room_of}
use Rattle.osm_range.proofs.taking.TableNumberTaker.take.Goals as goal

pub add_all-requires : goal.add_all-requires
add_all-requires c =
    subst (λ cs. HasRoom (length cs) c.args.self.now) (sym c.as_slice.ensures.value)
    (room_of c.args.self.now c.args._number c.args._time c.args.changes.items c.requires)
