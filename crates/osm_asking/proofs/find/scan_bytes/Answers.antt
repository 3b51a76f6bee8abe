use Rattle.std.proofs.Common.{◌+◌, List, ℕ, drop, subst}
use Rattle.std.specs.Prelude.{IfOk}
use Rattle.osm_asking.specs.Steps.Passing.{StopsAt}
use Rattle.osm_asking.specs.Steps.Scanning.{IsFoundIn}
use Rattle.osm_asking.proofs.ScanLemmas.{all_found, all_found_stops, all_further, all_further_stops, scan_keyless}
use Rattle.osm_asking.proofs.find.scan_bytes.Goals as goal

pub returns-in-Err-clause-stops : goal.returns-in-Err-clause-stops
returns-in-Err-clause-stops c =
    scan_keyless c.args.wanted c.args.block.now c.args.place c.in-Err.count 0 c.in-Err.ensures.bad c.in-Err.ensures.no_key

pub returns-in-None-clause-scanned : goal.returns-in-None-clause-scanned
returns-in-None-clause-scanned c =
    all_further c.args.wanted c.args.block.now c.args.place c.in-Ok.passed.0 c.further.result c.in-Ok.ensures.passed c.further.ensures.further

pub returns-in-None-clause-stops : goal.returns-in-None-clause-stops
returns-in-None-clause-stops c =
    all_further_stops c.args.wanted c.args.block.now c.args.place c.in-Ok.passed.0 c.further.result c.in-Ok.ensures.passed
    (subst (StopsAt c.args.wanted (drop c.in-Ok.passed.0 c.args.block.now)) c.in-None.is c.in-Ok.ensures.stopped) c.further.ensures.stops

pub returns-in-Some-clause-scanned : goal.returns-in-Some-clause-scanned
returns-in-Some-clause-scanned c =
    all_found c.args.wanted c.args.block.now c.args.place c.in-Ok.passed.0 c.in-Some.side c.found.result c.in-Ok.ensures.passed
    (subst (StopsAt c.args.wanted (drop c.in-Ok.passed.0 c.args.block.now)) c.in-Some.is c.in-Ok.ensures.stopped)
    (subst (λ (l : List ℕ). IfOk c.found.result (IsFoundIn l (c.args.place + c.in-Ok.passed.0) c.in-Some.side)) c.left_of.ensures
    c.found.ensures.found)

pub returns-in-Some-clause-stops : goal.returns-in-Some-clause-stops
returns-in-Some-clause-stops c =
    all_found_stops c.args.wanted c.args.block.now c.args.place c.in-Ok.passed.0 c.found.result c.in-Ok.ensures.passed c.found.ensures.stops
