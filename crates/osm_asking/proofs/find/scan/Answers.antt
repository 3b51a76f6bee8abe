use Rattle.std.proofs.Common.{subst}
use Rattle.osm_asking.specs.Steps.Scanning.{IsScanned}
use Rattle.osm_asking.specs.declared.find.Scanned.{Scanned}
use Rattle.osm_asking.proofs.CallLemmas.{scanning_more}
use Rattle.osm_asking.proofs.ScanLemmas.{scans_end, scans_found, scans_stop, whole_before}
use Rattle.osm_asking.proofs.find.scan.Goals as goal

pub returns-in-Err-clause-stops : goal.returns-in-Err-clause-stops
returns-in-Err-clause-stops g c =
    scans_stop (g.S.Store.state c.args.store.now) (g.S.Store.state c.loop.store) c.args.name.now c.args.low c.args.wanted c.loop.place c.loop.counter
    c.in-Err.fault c.loop.invariant.scans c.in-Err.ensures.stops

pub returns-in-Found-clause-found : goal.returns-in-Found-clause-found
returns-in-Found-clause-found g c =
    scans_found (g.S.Store.state c.args.store.now) (g.S.Store.state c.loop.store) c.args.name.now c.args.low c.args.wanted c.loop.place c.loop.counter
    c.in-Found.spot c.loop.invariant.scans
    (subst (λ (s : Scanned). IsScanned (g.S.Store.state c.loop.store) c.args.name.now c.loop.place c.args.wanted s) c.in-Found.is c.in-Ok.ensures.scanned).0

pub returns-in-Found-clause-whole : goal.returns-in-Found-clause-whole
returns-in-Found-clause-whole g c =
    whole_before (g.S.Store.state c.args.store.now) (g.S.Store.state c.loop.store) tt c.args.name.now c.in-Found.spot c.loop.invariant.scans.frame
    (subst (λ (s : Scanned). IsScanned (g.S.Store.state c.loop.store) c.args.name.now c.loop.place c.args.wanted s) c.in-Found.is c.in-Ok.ensures.scanned).1

pub returns-clause-stops : goal.returns-clause-stops
returns-clause-stops g c =
    scans_end (g.S.Store.state c.args.store.now) (g.S.Store.state c.loop.store) c.args.name.now c.args.low c.args.wanted c.loop.place c.loop.counter
    c.loop.invariant.scans c.loop-test.false

pub loop-preserved : goal.loop-preserved
loop-preserved g c =
    let b = g.S.Store.state c.loop.store in
    scanning_more (g.S.Store.state c.args.store.now) b c.args.name.now c.args.low c.args.wanted c.loop.place c.loop.counter c.loop.invariant
    (g.S.Store.state c.scan_block.new.store) c.in-Further.next c.in-Ok.scanned c.in-Further.is c.in-Ok.ensures.frame
    (subst (λ (s : Scanned). IsScanned b c.args.name.now c.loop.place c.args.wanted s) c.in-Further.is c.in-Ok.ensures.scanned)
    c.in-Ok.ensures.few c.in-Ok.ensures.far
