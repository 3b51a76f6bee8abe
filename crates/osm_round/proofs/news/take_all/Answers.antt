use Rattle.std.proofs.Common.{◌≡◌, ◌++◌, ◌∷◌, arith, length, subst, sym, ap}
use Rattle.std.proofs.lemmas.Grind.{common_steps}
use Rattle.std.specs.Vec.Iter.{into_iter_items}
use Rattle.osm_net.specs.Net.{Takes}
use Rattle.osm_net.proofs.NetLemmas.{Takes-append}
use Rattle.osm_round.specs.News.{changes_in}
use Rattle.osm_round.proofs.NewsLemmas.{changes_in-one, length-changes_in, room_within}
use Rattle.osm_round.proofs.news.take_all.Goals as goal

pub take-requires : goal.take-requires
take-requires c =
    let is : c.loop-changes.yielded ++ c.in-Some.changes ∷ into_iter_items c.next.new.self ≡ c.args.held.items = grind (arith, common_steps) in
    let count = length-changes_in c.loop-changes.yielded (into_iter_items c.next.new.self) c.in-Some.changes in
    let all = ap (λ vs. length (changes_in vs)) is in
    room_within c.args.filter.now c.args.net.now c.loop-changes.net (changes_in c.loop-changes.yielded) (length (changes_in c.args.held.items))
    (length c.in-Some.changes.items) c.requires c.loop-changes.invariant.takes (omega (arith, count, all))

pub loop-changes-preserved : goal.loop-changes-preserved
loop-changes-preserved c = record {
  rest = grind (arith, common_steps);
  takes = subst (λ cs. Takes c.args.filter.now c.args.net.now cs c.take.new.self) (sym (changes_in-one c.loop-changes.yielded c.in-Some.changes))
      (Takes-append c.args.filter.now c.args.net.now c.loop-changes.net c.take.new.self (changes_in c.loop-changes.yielded) c.in-Some.changes.items
      c.loop-changes.invariant.takes c.in_ok-take.ensures.takes);
}
