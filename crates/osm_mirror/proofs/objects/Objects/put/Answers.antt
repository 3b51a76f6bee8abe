use Rattle.std.proofs.Common.{rules, ◌≡◌, true, Some}
use Rattle.osm_model.proofs.FilterLemmas.{left_by-kept, object_after-kept}
use Rattle.osm_model.specs.Filter.{keeps, left_by}
use Rattle.osm_mirror.proofs.objects.Objects.put.Goals as goal

pub enter-requires-clause-is_left : goal.enter-requires-clause-is_left
enter-requires-clause-is_left c =
    let is : keeps c.args.filter.now c.args.change ≡ true = search rules in
    object_after-kept c.args.filter.now c.args.change is

-- a change that is kept leaves itself
pub returns-then-keeps-clause-put : goal.returns-then-keeps-clause-put
returns-then-keeps-clause-put c =
    let is : keeps c.args.filter.now c.args.change ≡ true = search rules in
    let left : left_by c.args.filter.now c.args.change ≡ Some c.args.change = left_by-kept c.args.filter.now c.args.change is in
    rw (left, ← c.self.view_is) c.enter.ensures.entered

pub returns-then-keeps-clause-refused : goal.returns-then-keeps-clause-refused
returns-then-keeps-clause-refused c =
    let is : keeps c.args.filter.now c.args.change ≡ true = search rules in
    let left : left_by c.args.filter.now c.args.change ≡ Some c.args.change = left_by-kept c.args.filter.now c.args.change is in
    search rules
