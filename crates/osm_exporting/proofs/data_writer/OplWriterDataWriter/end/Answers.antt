use Rattle.osm_exporting.proofs.CopyLemmas.{opl_ends}
use Rattle.osm_exporting.proofs.data_writer.OplWriterDataWriter.end.Goals as goal

pub returns : goal.returns
returns c = opl_ends c.args.self.now.out.items
