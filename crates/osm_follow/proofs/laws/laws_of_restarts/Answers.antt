use Rattle.osm_follow.proofs.RestartLemmas.{other_is_refused, restarts_as_saved, restarts_under_it}
use Rattle.osm_follow.proofs.laws.laws_of_restarts.Goals as goal

pub returns : goal.returns
returns c = record {
  as_saved = restarts_as_saved c.laws_of_saves.ensures.one_save;
  other_filter = other_is_refused c.laws_of_saves.ensures.one_save;
  same_filter = restarts_under_it;
}
