use Rattle.osm_exporting.proofs.CopyLemmas.{o5m_goes_on}
use Rattle.osm_exporting.proofs.data_writer.O5mWriter.put.Goals as goal

pub returns : goal.returns
returns c = λ objects.
    o5m_goes_on c.args.self.now.writer c.forget_old.new.self c.write_change.new.self c.args.object.now objects
    c.forget_old.ensures.out c.forget_old.ensures.same c.in_ok-write_change.ensures.text
    c.in_ok-write_change.ensures.state_is c.in_ok-write_change.ensures.kind
