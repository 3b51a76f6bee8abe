use Rattle.std.proofs.Common.{[], Some, inl, refl}
use Rattle.osm_repl.specs.Getting.{AsksOne}
use Rattle.osm_repl.specs.declared.sought.Sought.TheVariants.{Input}
use Rattle.osm_repl.proofs.GetLemmas.{shown_none}
use Rattle.osm_repl.proofs.asking.print_each.Goals as goal

-- nothing is left of the input
pub returns-in-Input-clause-shown : goal.returns-in-Input-clause-shown
returns-in-Input-clause-shown g c = rw (c.in-Input.is, c.if-question.true) (shown_none (AsksOne Input (Some [])) _ (inl refl))
