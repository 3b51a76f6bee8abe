use Rattle.osm_world.proofs.NewLemmas.{new_of_none}
use Rattle.osm_world.proofs.RunLemmas.{lawful, run_none, run_more}
use Rattle.osm_world.proofs.laws.laws_of_runs.Goals as goal

pub returns-clause-first : goal.returns-clause-first
returns-clause-first c = run_none

pub returns-clause-only : goal.returns-clause-only
returns-clause-only c = new_of_none

pub returns-clause-next : goal.returns-clause-next
returns-clause-next c =
    run_more (lawful c.laws.ensures.text_spells c.laws.ensures.one_batch c.laws-2.ensures.text_spells
    c.laws-2.ensures.one_batch c.laws_of_state.ensures.no_fault_beside_state) c.laws_of_saves.ensures.one_save
