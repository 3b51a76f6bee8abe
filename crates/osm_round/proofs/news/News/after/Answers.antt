use Rattle.osm_round.specs.News.{changes_in}
use Rattle.osm_round.proofs.WithLemmas.{joined_takes}
use Rattle.osm_round.proofs.news.News.after.Goals as goal

pub returns-clause-joined : goal.returns-clause-joined
returns-clause-joined c =
    joined_takes c.args.filter.now c.args.before c.args.self.net c.append.new.self c.take_all.new.net (changes_in c.args.self.held.items)
    c.limits.ensures.orderly c.in_ok-append.ensures.joined c.in_ok-take_all.ensures
