use Rattle.std.proofs.Common.{◌≡◌, length, rules}
use Rattle.osm_blocks.specs.Places.{max_block}
use Rattle.osm_blocks.proofs.PlaceLemmas.{opened}
use Rattle.osm_blocks.proofs.block_reader.BlockReader.open.Goals as goal

pub returns-clause-opened : goal.returns-clause-opened
returns-clause-opened g c = λ known.
    let long : c.len-from.result ≡ length c.in-Some.buffer.items = search rules in
    opened max_block ((g.S.Store.state c.args.store.now).files c.args.name.now) c.in-Some.buffer.items c.len-from.result
    (rw c.in-Some.is at (c.in_ok-buffer.ensures.read known)) long
