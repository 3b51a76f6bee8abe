use Rattle.std.proofs.Common.{◌≡◌, [], rules}
use Rattle.osm_net.specs.Net.{Takes}
use Rattle.osm_round.specs.News.{changes_in}
use Rattle.osm_round.proofs.NewsLemmas.{takes_more}
use Rattle.osm_round.proofs.news.News.take.Goals as goal

pub returns-clause-more : goal.returns-clause-more
returns-clause-more c =
    let none : c.replace-held.new.dest.items ≡ [] = search rules in
    let held : Takes c.args.filter.now c.args.self.now.net (changes_in c.args.self.now.held.items) c.take_all.new.net = search rules in
    takes_more c.args.filter.now c.args.self.now (record { net = c.take.new.self; held = c.replace-held.new.dest }) c.take_all.new.net
    c.args.changes.items c.limits.ensures.orderly held c.in_ok-take.ensures.takes none
