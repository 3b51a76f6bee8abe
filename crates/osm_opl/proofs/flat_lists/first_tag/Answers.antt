use Rattle.osm_opl.proofs.FlatLemmas.{first_tag_is, no_value}
use Rattle.osm_opl.proofs.flat_lists.first_tag.Goals as goal

pub returns-in_default-clause-first : goal.returns-in_default-clause-first
returns-in_default-clause-first c = λ tag more h.
    let none = rw c.in_default.is at c.cut_near.ensures.first in
    no_value c.args.tags.now tag more none.0 h

pub returns-clause-first : goal.returns-clause-first
returns-clause-first c = λ tag more h.
    let some = rw c.in-Some.is at c.cut_near.ensures.first in
    first_tag_is c.args.tags.now c.cut_near.result.0.now c.in-Some.rest.now c.cut_near-2.result.0.now tag more
    c.cut_near-2.result.1 some c.cut_near-2.ensures.first h
