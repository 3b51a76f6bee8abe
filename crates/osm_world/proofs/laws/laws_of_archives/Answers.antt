use Rattle.std.proofs.Common.{ap, length, ◌∙◌}
use Rattle.std.proofs.lemmas.List.{length-map}
use Rattle.osm_publisher.specs.Published.{written_of}
use Rattle.osm_world.specs.History.{published_of}
use Rattle.osm_world.proofs.NewLemmas.{archived}
use Rattle.osm_world.proofs.laws.laws_of_archives.Goals as goal

pub returns-clause-count : goal.returns-clause-count
returns-clause-count c = λ f h w s. ap length s.archive ∙ length-map (published_of h) written_of

pub returns-clause-texts : goal.returns-clause-texts
returns-clause-texts c = archived
