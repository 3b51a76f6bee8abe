use Rattle.std.proofs.Common.{ap, ◌∙◌}
use Rattle.osm_range.specs.Steps.Rising.{HaveOwnLabels, label_of}
use Rattle.osm_range.proofs.RisingLemmas.{own-puts, put_at}
use Rattle.osm_range.proofs.latest.enter.Goals as goal

pub returns-clause-own : goal.returns-clause-own
returns-clause-own c =
    own-puts c.args.changes.now.entries c.insert.new.self.entries c.label_of.result c.args.change c.in-Ok.old
    (c.label_of.ensures ∙ ap label_of c.key.ensures.key) c.requires c.in-Ok.ensures.entries

pub returns-clause-entered : goal.returns-clause-entered
returns-clause-entered c =
    let is = c.label_of.ensures ∙ ap label_of c.key.ensures.key in
    let own : HaveOwnLabels c.insert.new.self.entries = own-puts c.args.changes.now.entries c.insert.new.self.entries c.label_of.result
    c.args.change c.in-Ok.old is c.requires c.in-Ok.ensures.entries in
    put_at c.args.changes.now.entries c.insert.new.self.entries c.label_of.result c.args.change is c.requires own c.in-Ok.ensures.updates.0
