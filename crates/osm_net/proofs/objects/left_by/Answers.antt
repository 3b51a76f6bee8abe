use Rattle.std.proofs.Common.{rules, ◌≡◌, true, sym}
use Rattle.osm_model.proofs.FilterLemmas.{left_by-kept}
use Rattle.osm_model.specs.Filter.{keeps}
use Rattle.osm_net.proofs.objects.left_by.Goals as goal

-- a change that is kept leaves itself
pub returns-then-keeps : goal.returns-then-keeps
returns-then-keeps c =
    let is : keeps c.args.filter.now c.args.change ≡ true = search rules in
    sym (left_by-kept c.args.filter.now c.args.change is)
