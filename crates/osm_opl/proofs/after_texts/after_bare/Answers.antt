use Rattle.std.proofs.Common.{drop}
use Rattle.std.proofs.lemmas.List.{take_rest}
use Rattle.osm_opl.proofs.BeginTextLemmas.{bare_part, chars_done}
use Rattle.osm_opl.proofs.after_texts.after_bare.Goals as goal

pub returns : goal.returns
returns c =
    rw (take_rest c.args.bytes.now c.bare_count-count.result)
    (chars_done c.args.bytes.now (drop c.bare_count-count.result c.args.bytes.now) c.bare_count-count.result
    (bare_part c.args.bytes.now c.bare_count-count.result c.bare_count-count.ensures.bare c.bare_count-count.ensures.few.1)
    c.bare_count-count.ensures.few.0)
