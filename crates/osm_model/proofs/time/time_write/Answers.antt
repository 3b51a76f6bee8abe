use Rattle.osm_model.proofs.CivilTimeLemmas.{time_text_shows}
use Rattle.osm_model.proofs.TimeLemmas.{one_text}
use Rattle.osm_model.proofs.time.time_write.Goals as goal

-- a time has one text, and counting on gives one
pub returns-clause-value : goal.returns-clause-value
returns-clause-value c = one_text _ _ c.args.seconds c.text_at.ensures (time_text_shows c.args.seconds c.ranges.seconds.fits)

pub returns-clause-only : goal.returns-clause-only
returns-clause-only c = λ bytes h. one_text bytes c.text_at.result c.args.seconds h c.text_at.ensures
