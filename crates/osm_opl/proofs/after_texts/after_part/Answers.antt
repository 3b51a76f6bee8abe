use Rattle.std.proofs.lemmas.List.{take_rest}
use Rattle.osm_opl.proofs.BeginTextLemmas.{bare_part}
use Rattle.osm_opl.proofs.after_texts.after_part.Goals as goal

pub returns-then-count-gt0-clause-part : goal.returns-then-count-gt0-clause-part
returns-then-count-gt0-clause-part c =
    rw (take_rest c.args.bytes.now c.bare_count-count.result)
    (bare_part c.args.bytes.now c.bare_count-count.result c.bare_count-count.ensures.bare c.bare_count-count.ensures.few.1)
