use Rattle.osm_save.proofs.FilterLemmas.{makes_filter}
use Rattle.osm_save.proofs.filter.read_filter_lines.Goals as goal

pub filter_of-requires : goal.filter_of-requires
filter_of-requires c = makes_filter c.args.rest.now c.in_ok-kinds.rest.now c.in_ok-keys.rest.now c.in_ok-kinds.kinds
    c.in_ok-keys.keys.items c.in_ok-kinds.ensures.value c.in_ok-keys.ensures.value
