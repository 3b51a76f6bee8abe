use Rattle.std.proofs.Common.{rules}
use Rattle.osm_model.specs.Clock.{moment_of}
use Rattle.osm_model.proofs.TimeLemmas.{shown_by_digits}
use Rattle.osm_model.proofs.time.read_form.Goals as goal

-- a text that shows a time is the one text of its digits
pub returns-then-not-is_text_of-clause-complete : goal.returns-then-not-is_text_of-clause-complete
returns-then-not-is_text_of-clause-complete c = λ t h.
    let d = shown_by_digits c.args.text.now (moment_of c.loose_clock-clock.result) t c.loose_clock-clock.ensures.value h.shows in
    absurd (search (rules, d.text))

pub returns-in_err-seconds-clause-complete : goal.returns-in_err-seconds-clause-complete
returns-in_err-seconds-clause-complete c = λ t h.
    let d = shown_by_digits c.args.text.now (moment_of c.loose_clock-clock.result) t c.loose_clock-clock.ensures.value h.shows in
    absurd (search (rules, d.is_moment, c.in_err-seconds.ensures.none))

pub returns-clause-complete : goal.returns-clause-complete
returns-clause-complete c = λ t h.
    let d = shown_by_digits c.args.text.now (moment_of c.loose_clock-clock.result) t c.loose_clock-clock.ensures.value h.shows in
    search (rules, d.seconds, h.limits, c.in_ok-seconds.ensures.some, c.within_limits.ensures.none)
