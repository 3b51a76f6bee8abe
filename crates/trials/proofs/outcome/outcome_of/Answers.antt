use Rattle.osm_store.specs.Stores.{files_of}
use Rattle.trials.proofs.NameLemmas.{holds_in_new_store}
use Rattle.trials.proofs.outcome.outcome_of.Goals as goal

pub returns : goal.returns
returns c = holds_in_new_store c.args.filter.now c.args.operations.items c.run_with.result (files_of c.new.result) c.new.ensures c.run_with.ensures.run
