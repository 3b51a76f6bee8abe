use Rattle.std.proofs.Common.{◌≡◌, ◌+◌, refl, rules, sym, ◌∙◌}
use Rattle.std.specs.Prelude.{true, false, max, min}
use Rattle.osm_model.specs.Filter.{keeps}
use Rattle.osm_model.specs.Flat.{flat_node}
use Rattle.osm_data.specs.Counting.{most_counted}
use Rattle.osm_beginning.proofs.SinkLemmas.{counted_none, counted_one, laid_none, laid_one, newest_one, node_keeps}
use Rattle.osm_beginning.proofs.sinks.KeptLinesObjectSink.take_node.Goals as goal

pub returns : goal.returns
returns c =
    let f = c.args.self.now.filter.now in
    let node = flat_node c.args.node.now c.args.tags.now in
    let yes : keeps f node ≡ true = node_keeps f c.args.node.now c.args.tags.now ∙ sym c.keeps_node.ensures ∙ c.if-not-keeps_node.false in
    let newest : c.max-self.result ≡ max c.args.self.now.newest c.args.node.now.meta.time = search rules in
    let sum : c.saturating_add-self.result ≡ min (c.args.self.now.count + 1) most_counted = search rules in
    record {
      filter = refl;
      count = counted_one f node c.args.self.now.count c.saturating_add-self.result yes sum;
      lines = laid_one f node c.args.self.now.lines.items c.write_flat_node.new.out.items c.push.new.self.items yes
          c.in_ok-write_flat_node.ensures.ok c.in_ok-push.ensures.items;
      newest = newest_one node c.args.self.now.newest c.max-self.result newest;
    }

pub returns-then-not-keeps_node : goal.returns-then-not-keeps_node
returns-then-not-keeps_node c =
    let f = c.args.self.now.filter.now in
    let node = flat_node c.args.node.now c.args.tags.now in
    let no : keeps f node ≡ false = node_keeps f c.args.node.now c.args.tags.now ∙ sym c.keeps_node.ensures ∙ c.if-not-keeps_node.true in
    let newest : c.max-self.result ≡ max c.args.self.now.newest c.args.node.now.meta.time = search rules in
    record {
      filter = refl;
      count = counted_none f node c.args.self.now.count no;
      lines = laid_none f node c.args.self.now.lines.items no;
      newest = newest_one node c.args.self.now.newest c.max-self.result newest;
    }
