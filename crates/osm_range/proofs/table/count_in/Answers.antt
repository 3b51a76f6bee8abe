use Rattle.std.proofs.Common.{rules}
use Rattle.osm_range.proofs.CountLemmas.{put_at}
use Rattle.osm_range.proofs.table.count_in.Goals as goal

pub returns : goal.returns
returns c = λ k.
    put_at c.args.rows.now.entries _ _ c.args.combination k c.with.result _ (search rules)
    ((c.in_ok-rows.ensures.update.0 c.with.result).0 k) (search rules)
