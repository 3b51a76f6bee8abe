use Rattle.std.proofs.Common.{◌≡◌, pos, rules}
use Rattle.jiff_core.specs.Calendar.{IsCivilDate}
use Rattle.jiff_core.specs.Date.{epoch_day}
use Rattle.osm_model.proofs.TimeLemmas.{year_from}
use Rattle.osm_model.proofs.time.date_of.Goals as goal

pub returns-clause-year : goal.returns-clause-year
returns-clause-year c =
    let date = c.from_plain.result in
    let e : epoch_day c.from_plain.result ≡ pos c.args.day = search rules in
    let is : IsCivilDate c.from_plain.result.year c.from_plain.result.month c.from_plain.result.day = search rules in
    year_from c.from_plain.result.year c.from_plain.result.month c.from_plain.result.day c.args.day is e
