use Rattle.std.proofs.Common.{refl}
use Rattle.osm_round.proofs.NewsLemmas.{holds_more}
use Rattle.osm_round.proofs.news.News.hold.Goals as goal

pub returns : goal.returns
returns c =
    holds_more c.args.self.now (record { net = c.args.self.now.net; held = c.push.new.self }) c.args.changes refl c.in_ok-push.ensures.items
