use Rattle.std.proofs.Common.{false, refl, true}
use Rattle.osm_data.proofs.OplCountLemmas.{line_total, rest_total}
use Rattle.osm_data.proofs.opl_counting.OplCounter.pass_line.Goals as goal

pub returns-in-Some-clause-counted : goal.returns-in-Some-clause-counted
returns-in-Some-clause-counted c = λ more total.
    line_total c.args.filter.now c.args.self.now (record { count = c.begin_line.new.self.count; is_inside = false })
    c.args.bytes.now c.in-Some.rest.now more
    c.in-Some.ensures.found.0 total refl c.begin_line.ensures c.in-Some.ensures.found.1

pub returns-in-None-clause-counted : goal.returns-in-None-clause-counted
returns-in-None-clause-counted c = λ more total.
    rest_total c.args.filter.now c.args.self.now (record { count = c.begin_line.new.self.count; is_inside = true })
    c.args.bytes.now more total c.requires refl c.begin_line.ensures (c.in-None.ensures.lacks refl)
