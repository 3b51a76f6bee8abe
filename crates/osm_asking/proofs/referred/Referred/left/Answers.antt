use Rattle.std.proofs.Common.{◌≡◌, map, rules, ap, ◌∙◌, Bool}
use Rattle.std.specs.Map.Iter.{deref_pair}
use Rattle.std.proofs.lemmas.Map.Iter.{iter_end}
use Rattle.osm_model.specs.declared.kind.Key.{Key}
use Rattle.osm_asking.specs.Steps.Referring.{left_in}
use Rattle.osm_asking.proofs.ReferredLemmas.{are_left, left_more}
use Rattle.osm_asking.proofs.referred.Referred.left.Goals as goal

pub loop-key-preserved : goal.loop-key-preserved
loop-key-preserved c =
    c.in_ok-push_left.ensures ∙ left_more c.loop-key.yielded (c.in-Some.key, c.in-Some.is_left) c.loop-key.left.items c.loop-key.invariant

pub returns : goal.returns
returns c =
    let all : map (deref_pair {K = Key} {X = Bool}) c.loop-key.yielded ≡ c.args.self.now.keys.entries = search (rules, iter_end) in
    are_left c.args.self.now.keys.entries c.loop-key.left.items c.iter-key-items.ensures.ordered (c.loop-key.invariant ∙ ap left_in all)
