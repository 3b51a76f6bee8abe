use Rattle.std.proofs.Common.{◌≡◌, get_or, arith, rules, true}
use Rattle.osm_opl.specs.Written.{is_written_bare}
use Rattle.osm_opl.proofs.BeginTextLemmas.{bare_more}
use Rattle.osm_opl.proofs.after_texts.bare_count.Goals as goal

pub loop-count-preserved : goal.loop-count-preserved
loop-count-preserved c =
    let one : is_written_bare (get_or c.args.bytes.now c.loop-count.count 0) ≡ true = search rules in
    record {
      bare = bare_more c.args.bytes.now c.loop-count.count (omega arith) c.loop-count.invariant.bare one;
      few = omega arith;
    }
