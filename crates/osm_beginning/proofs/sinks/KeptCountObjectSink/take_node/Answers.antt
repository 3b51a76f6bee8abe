use Rattle.std.proofs.Common.{◌≡◌, ◌+◌, refl, rules, sym, ◌∙◌}
use Rattle.std.specs.Prelude.{true, false, min}
use Rattle.osm_model.specs.Filter.{keeps}
use Rattle.osm_model.specs.Flat.{flat_node}
use Rattle.osm_data.specs.Counting.{most_counted}
use Rattle.osm_beginning.proofs.SinkLemmas.{counted_none, counted_one, node_keeps}
use Rattle.osm_beginning.proofs.sinks.KeptCountObjectSink.take_node.Goals as goal

pub returns-then-keeps_node : goal.returns-then-keeps_node
returns-then-keeps_node c =
    let f = c.args.self.now.filter.now in
    let node = flat_node c.args._node.now c.args.tags.now in
    let yes : keeps f node ≡ true = node_keeps f c.args._node.now c.args.tags.now ∙ sym c.keeps_node.ensures ∙ c.if-keeps_node.true in
    let sum : c.saturating_add-self.result ≡ min (c.args.self.now.count + 1) most_counted = search rules in
    record { filter = refl; count = counted_one f node c.args.self.now.count c.saturating_add-self.result yes sum }

pub returns-else-keeps_node : goal.returns-else-keeps_node
returns-else-keeps_node c =
    let f = c.args.self.now.filter.now in
    let node = flat_node c.args._node.now c.args.tags.now in
    let no : keeps f node ≡ false = node_keeps f c.args._node.now c.args.tags.now ∙ sym c.keeps_node.ensures ∙ c.if-keeps_node.false in
    record { filter = refl; count = counted_none f node c.args.self.now.count no }
