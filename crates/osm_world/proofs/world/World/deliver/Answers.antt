use Rattle.std.proofs.Common.{◌≡◌, arith, refl, rules}
use Rattle.osm_world.proofs.ArchiveLemmas.{delivered_step, readable_at}
use Rattle.osm_world.proofs.world.World.deliver.Goals as goal

-- the archive holds only texts that can be read
pub deliver_text-requires : goal.deliver_text-requires
deliver_text-requires c =
    let number : c.number.result ≡ c.self.inside.publisher.number = search rules in
    let count = c.self.invariant.archive.count in
    readable_at _ _ _ _ c.self.invariant.archive (omega arith) c.index-published.ensures

pub returns : goal.returns
returns c =
    let number : c.number.result ≡ c.self.inside.publisher.number = search rules in
    let count = c.self.invariant.archive.count in
    rw (← c.self.view_is) (delivered_step _ _ _ _ _ _ _ (omega arith) c.index-published.ensures (omega arith)
    (omega arith) (omega arith) c.deliver_text.ensures refl)
