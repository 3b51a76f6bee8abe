use Rattle.osm_asking.proofs.WordLemmas.{number_only, ok_spelled, parsed_spelled}
use Rattle.osm_asking.proofs.words.number_in.Goals as goal

pub returns-clause-spelled : goal.returns-clause-spelled
returns-clause-spelled c =
    ok_spelled c.args.text.now c.parse.result c.ok.result c.ok.ensures.value
    (parsed_spelled c.args.text.now c.parse.result c.requires c.parse.ensures.value.0)

pub returns-clause-only : goal.returns-clause-only
returns-clause-only c = λ id fits is. number_only c.args.text.now c.parse.result c.ok.result id c.ok.ensures.value c.parse.ensures.value.0 fits is
