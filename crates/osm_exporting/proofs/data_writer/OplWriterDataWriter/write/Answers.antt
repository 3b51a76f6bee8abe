use Rattle.osm_exporting.proofs.CopyLemmas.{opl_goes_on}
use Rattle.osm_exporting.proofs.data_writer.OplWriterDataWriter.write.Goals as goal

pub returns : goal.returns
returns c = λ objects.
    opl_goes_on c.args.self.now.out.items c.put_line.new.out.items c.args.line.now c.args._object.now objects c.requires c.in_ok-put_line.ensures
