use Rattle.osm_repl.proofs.IdLemmas.{ids_refused}
use Rattle.std.proofs.Common.{string_bytes}
use Rattle.osm_repl.proofs.summing.ids_of.Goals as goal

pub returns-in_default-clause-refused : goal.returns-in_default-clause-refused
returns-in_default-clause-refused c =
    ids_refused c.args.words.now c.loop-word.word-index _ c.id_of.result _ (string_bytes c.refused.new.noted) c.refused.result c.loop-word-test.true
    c.loop-word.invariant.0.each c.in_default.not-Some c.id_of.ensures.only c.loop-word.invariant.1 c.refused.ensures
