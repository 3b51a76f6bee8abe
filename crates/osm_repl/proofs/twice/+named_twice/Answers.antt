use Rattle.osm_repl.specs.Twice.{later_pair, this_pair}
use Rattle.osm_repl.proofs.TwiceLemmas.{none_paired}
use Rattle.osm_repl.proofs.twice.+named_twice.Goals as goal

pub returns-in-None : goal.returns-in-None
returns-in-None t c = none_paired c.args.others.now c.args.written.now c.in-None.ensures.cases

pub returns-in-Some-first_of : goal.returns-in-Some-first_of
returns-in-Some-first_of t c = rw c.in-Some.ensures.cases.0
    (this_pair c.in-Some.one.now c.in-Some.rest.now c.in-Some-first_of.other (rw c.in-Some-first_of.is at c.first_of.ensures))

pub returns-in-None-first_of : goal.returns-in-None-first_of
returns-in-None-first_of t c = rw c.in-Some.ensures.cases.0
    (later_pair c.in-Some.one.now c.in-Some.rest.now c.named_twice.result (rw c.in-None-first_of.is at c.first_of.ensures) c.named_twice.ensures)
