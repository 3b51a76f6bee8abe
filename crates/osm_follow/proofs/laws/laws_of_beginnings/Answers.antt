use Rattle.osm_follow.proofs.BeginLemmas.{all_are_kept, everything_keeps, keeps_all, kept_at}
use Rattle.osm_follow.proofs.laws.laws_of_beginnings.Goals as goal

pub returns : goal.returns
returns c = record {
  at = λ f objects are. kept_at f objects are.rising;
  kept = all_are_kept;
  all = keeps_all;
  everything = λ objects are. everything_keeps objects are.left;
}
