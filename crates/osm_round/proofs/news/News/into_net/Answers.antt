use Rattle.osm_round.specs.News.{changes_in}
use Rattle.osm_round.proofs.WithLemmas.{takes_is}
use Rattle.osm_round.proofs.news.News.into_net.Goals as goal

pub returns-clause-net : goal.returns-clause-net
returns-clause-net c =
    takes_is c.args.filter.now c.args.self.net c.take_all.new.net (changes_in c.args.self.held.items) c.limits.ensures.orderly c.in_ok-take_all.ensures
