use Rattle.std.proofs.Common.{◌∙◌, sym}
use Rattle.osm_beginning.proofs.FirstLemmas.{first_chosen, no_keys}
use Rattle.osm_beginning.proofs.counting.count_first.Goals as goal

pub returns-in-Ok-clause-counted : goal.returns-in-Ok-clause-counted
returns-in-Ok-clause-counted g c = λ known.
    first_chosen g.D.DataReader.spells c.args.filter.now (g.S.Store.state c.args.store.now) c.args.base.now c.in-Ok.count
    (sym c.keys.ensures.keys ∙ no_keys c.keys.result.now c.is_empty.result c.is_empty.ensures c.if-is_empty.true)
    c.laws.ensures.data c.in-Ok.ensures.counted known
