use Rattle.std.proofs.Common.{◌≡◌, length, arith}
use Rattle.std.proofs.lemmas.Bool.Decides.{nat_tests}
use Rattle.osm_blocks.proofs.PlaceLemmas.{end_of}
use Rattle.osm_blocks.proofs.block_reader.BlockReader.is_ended.Goals as goal

pub returns-in-Ok-clause-ended : goal.returns-in-Ok-clause-ended
returns-in-Ok-clause-ended g c = λ file has.
    let none : length c.unread.result.now ≡ 0 = grind (arith, nat_tests) in
    end_of c.args.self.now c.read_more.new.self file c.in-Ok.is_more (rw c.unread.ensures at none) c.in-Ok.ensures.grown (c.in-Ok.ensures.more file has)
