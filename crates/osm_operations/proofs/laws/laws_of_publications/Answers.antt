use Rattle.osm_operations.proofs.PublicationLemmas.{answered, published_once, repeats}
use Rattle.osm_operations.proofs.laws.laws_of_publications.Goals as goal

pub returns-clause-once : goal.returns-clause-once
returns-clause-once c = published_once

pub returns-clause-answered : goal.returns-clause-answered
returns-clause-answered c = answered

pub returns-clause-repeats : goal.returns-clause-repeats
returns-clause-repeats c = repeats
