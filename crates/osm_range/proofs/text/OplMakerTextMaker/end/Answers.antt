use Rattle.osm_range.proofs.WritingLemmas.{opl_ends}
use Rattle.osm_range.proofs.text.OplMakerTextMaker.end.Goals as goal

pub returns : goal.returns
returns c = opl_ends c.args.self.now.out.items
