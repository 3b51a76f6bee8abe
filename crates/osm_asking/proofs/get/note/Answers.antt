use Rattle.osm_asking.proofs.GetLemmas.{note_object}
use Rattle.osm_asking.proofs.get.note.Goals as goal

pub returns-in-Some : goal.returns-in-Some
returns-in-Some c =
    note_object c.note.result c.args.refers c.args.key c.args.found.now c.in-Some.object c.args.referred.now.keys.entries
    c.asked.new.self.keys.entries c.note.new.self.keys.entries c.if-not-refers.false c.in-Some.is c.in_ok-asked.ensures c.note.ensures
