use Rattle.std.proofs.Common.{rules}
use Rattle.osm_save.specs.Head.{HasKeys}
use Rattle.osm_save.specs.Reading.{TellsKeys}
use Rattle.osm_save.proofs.HeadLemmas.{has_keys}
use Rattle.osm_save.proofs.ItemLemmas.{wants_from}
use Rattle.osm_save.proofs.head.read_head.Goals as goal

-- memory is refused to the filter only if it has keys
pub returns-in_err-filter-clause-wants : goal.returns-in_err-filter-clause-wants
returns-in_err-filter-clause-wants c =
    wants_from (TellsKeys c.in_ok-version.version c.in_ok-base.rest.now) (HasKeys c.args.bytes.now) c.in_err-filter.field-0.0
    c.from_residual-in_err-filter.result c.in_err-filter.ensures.wants
    (has_keys c.args.bytes.now (c.in_ok-version.version, c.in_ok-version.rest.now) (c.in_ok-base.base, c.in_ok-base.rest.now)
    c.in_ok-version.ensures c.in_ok-base.ensures.value) (search rules)
