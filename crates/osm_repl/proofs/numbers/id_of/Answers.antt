use Rattle.osm_repl.proofs.IdLemmas.{id_only, no_id}
use Rattle.osm_repl.proofs.numbers.id_of.Goals as goal

pub returns-in-Ok-clause-only : goal.returns-in-Ok-clause-only
returns-in-Ok-clause-only c = λ id small is.
    id_only c.args.word.now c.parse.result c.in-Ok.id id c.if_written.result c.parse.ensures.value.0 c.in-Ok.is c.if_written.ensures.only small is

pub returns-in-Err-clause-only : goal.returns-in-Err-clause-only
returns-in-Err-clause-only c = λ id small is.
    no_id c.args.word.now c.parse.result c.in-Err.field-0 id _ c.parse.ensures.value.0 c.in-Err.is small is
