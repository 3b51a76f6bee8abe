use Rattle.std.proofs.Common.{refl}
use Rattle.osm_asking.proofs.SumLemmas.{blocks_more}
use Rattle.osm_asking.proofs.block_sums.Blocks.note.Goals as goal

pub returns-clause-noted : goal.returns-clause-noted
returns-clause-noted c = λ before objects x h room ends.
    blocks_more c.args.self.now (record {
      every = c.args.self.now.every;
      sum = c.count_one.new.self;
      name = c.name_first.new.name;
      text = c.args.self.now.text;
    }) before c.args.lines.now objects x refl refl c.in_ok-count_one.ensures.sum c.in_ok-name_first.ensures.first c.in_ok-name_first.ensures.others ends h
