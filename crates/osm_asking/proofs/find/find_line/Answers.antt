use Rattle.std.proofs.Common.{arith}
use Rattle.std.specs.Prelude.{Err, Ok}
use Rattle.osm_store.proofs.FrameLemmas.{at_most_both, at_most_more}
use Rattle.osm_asking.specs.Refusal.{IsFailed}
use Rattle.osm_asking.proofs.CallLemmas.{calls_err}
use Rattle.osm_asking.proofs.ScanLemmas.{found_after, stops_after, whole_before}
use Rattle.osm_asking.proofs.SearchLemmas.{frame_as, has_after}
use Rattle.osm_asking.proofs.find.find_line.Goals as goal

pub returns-in-Ok-scan-clause-found : goal.returns-in-Ok-scan-clause-found
returns-in-Ok-scan-clause-found g c =
    found_after (g.S.Store.state c.args.store.now) (g.S.Store.state c.narrow.new.store) c.args.name.now c.args.start c.in-Ok.ends.low c.args.wanted
    c.in-Ok-scan.spot (frame_as (g.S.Store.state c.args.store.now) (g.S.Store.state c.narrow.new.store) c.in-Ok.ends c.in-Ok.ensures.frame)
    c.in-Ok.ensures.low c.in-Ok-scan.ensures.found

pub returns-in-Err-scan-clause-stops : goal.returns-in-Err-scan-clause-stops
returns-in-Err-scan-clause-stops g c =
    stops_after (g.S.Store.state c.args.store.now) (g.S.Store.state c.narrow.new.store) c.args.name.now c.args.start c.in-Ok.ends.low c.args.wanted
    c.in-Err-scan.fault (frame_as (g.S.Store.state c.args.store.now) (g.S.Store.state c.narrow.new.store) c.in-Ok.ends c.in-Ok.ensures.frame)
    c.in-Ok.ensures.low c.in-Err-scan.ensures.stops

pub returns-in-Ok-scan-clause-whole : goal.returns-in-Ok-scan-clause-whole
returns-in-Ok-scan-clause-whole g c =
    whole_before (g.S.Store.state c.args.store.now) (g.S.Store.state c.narrow.new.store) c.in-Ok.ends c.args.name.now c.in-Ok-scan.spot
    c.in-Ok.ensures.frame c.in-Ok-scan.ensures.whole

pub returns-in-Err-clause-calls : goal.returns-in-Err-clause-calls
returns-in-Err-clause-calls g c = λ file v plain none.
    (let a = g.S.Store.state c.args.store.now in
    let b = g.S.Store.state c.narrow.new.store in
    calls_err 57 a b c.in-Err.fault (at_most_more IsFailed 53 57 a b (Err c.in-Err.fault) (omega arith) (c.in-Err.ensures.calls file v plain none)))

pub returns-in-Ok-scan-clause-calls : goal.returns-in-Ok-scan-clause-calls
returns-in-Ok-scan-clause-calls g c = λ file v plain none.
    (let a = g.S.Store.state c.args.store.now in
    let b = g.S.Store.state c.narrow.new.store in
    let has = has_after a b c.in-Ok.ends c.args.name.now file c.in-Ok.ensures.frame plain.has in
    at_most_both IsFailed 53 4 57 a b (g.S.Store.state c.scan.new.store) c.in-Ok.ends (Ok c.in-Ok-scan.spot) (omega arith) c.in-Ok.ensures.frame.known
    (c.in-Ok.ensures.calls file v plain none)
    (c.in-Ok-scan.ensures.calls file v has plain.short (c.in-Ok.ensures.low.stands file v plain.has plain.lines) (c.in-Ok.ensures.near file v plain none)))

pub returns-in-Err-scan-clause-calls : goal.returns-in-Err-scan-clause-calls
returns-in-Err-scan-clause-calls g c = λ file v plain none.
    (let a = g.S.Store.state c.args.store.now in
    let b = g.S.Store.state c.narrow.new.store in
    let has = has_after a b c.in-Ok.ends c.args.name.now file c.in-Ok.ensures.frame plain.has in
    at_most_both IsFailed 53 4 57 a b (g.S.Store.state c.scan.new.store) c.in-Ok.ends (Err c.in-Err-scan.fault) (omega arith)
    c.in-Ok.ensures.frame.known (c.in-Ok.ensures.calls file v plain none)
    (c.in-Err-scan.ensures.calls file v has plain.short (c.in-Ok.ensures.low.stands file v plain.has plain.lines) (c.in-Ok.ensures.near file v plain none)))
