use Rattle.std.proofs.Common.{◌≡◌, arith, length}
use Rattle.osm_world.specs.Correct.{IsReported}
use Rattle.osm_world.specs.History.{reported_of, start_of}
use Rattle.osm_world.proofs.ReportLemmas.{reported_is, length-numbers, get_or-numbers}
use Rattle.osm_world.proofs.laws.laws_of_histories.Goals as goal

pub returns-clause-count : goal.returns-clause-count
returns-clause-count c = λ f h n legal ok number.
    let p : IsReported (reported_of h) (start_of h) n = reported_is f h n legal ok number in
    let many : length (reported_of h) ≡ p.count = rw p.reported_is (length-numbers (start_of h) p.count) in
    let is = p.number_is in
    omega arith

pub returns-clause-order : goal.returns-clause-order
returns-clause-order c = λ f h n i legal ok number below.
    let p : IsReported (reported_of h) (start_of h) n = reported_is f h n legal ok number in
    let many : length (reported_of h) ≡ p.count = rw p.reported_is (length-numbers (start_of h) p.count) in
    rw p.reported_is (get_or-numbers (start_of h) p.count i (omega arith))
