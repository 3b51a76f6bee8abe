use Rattle.osm_world.proofs.BoundLemmas.{shown_held, shown_number}
use Rattle.osm_world.proofs.ExtractLemmas.{extract_shown}
use Rattle.osm_world.proofs.FewLemmas.{few_within}
use Rattle.osm_world.proofs.laws.laws_of_views.Goals as goal

pub returns-clause-number : goal.returns-clause-number
returns-clause-number c = shown_number

pub returns-clause-held : goal.returns-clause-held
returns-clause-held c = shown_held

pub returns-clause-few : goal.returns-clause-few
returns-clause-few c = λ f h v legal shown. few_within v.number v.held shown.1.rising
    (λ j has. (let held = shown_held f h v j legal shown has in (held.0, held.1)))

pub returns-clause-extract : goal.returns-clause-extract
returns-clause-extract c = extract_shown
