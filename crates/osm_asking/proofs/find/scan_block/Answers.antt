use Rattle.std.proofs.Common.{List, ℕ, subst}
use Rattle.std.specs.Prelude.{IfErr, IfOk}
use Rattle.osm_store.specs.Frames.{StoreState}
use Rattle.osm_asking.specs.Steps.Reading.{IsBlockIn}
use Rattle.osm_asking.specs.Steps.Scanning.{IsFurther, IsScanned}
use Rattle.osm_asking.specs.Steps.Searching.{ScanStops}
use Rattle.osm_asking.proofs.CallLemmas.{all_far}
use Rattle.osm_asking.proofs.ScanLemmas.{frame_bytes, scan_all, scan_all_stops}
use Rattle.osm_asking.proofs.find.scan_block.Goals as goal

pub returns-clause-frame : goal.returns-clause-frame
returns-clause-frame g c =
    frame_bytes (g.S.Store.state c.args.store.now) (g.S.Store.state c.read_block.new.store) c.in-Ok.block c.scan_bytes.result c.in-Ok.ensures.frame
    c.scan_bytes.ensures.plain

pub returns-clause-scanned : goal.returns-clause-scanned
returns-clause-scanned g c =
    scan_all (g.S.Store.state c.args.store.now) c.args.name.now c.args.place c.args.wanted c.in-Ok.block.items c.scan_bytes.result c.in-Ok.ensures.read
    (subst (λ (l : List ℕ). IfOk c.scan_bytes.result (λ s. (state : StoreState) (name : List ℕ) → IsBlockIn state name c.args.place l
    → IsScanned state name c.args.place c.args.wanted s)) c.as_slice.ensures.value c.scan_bytes.ensures.scanned)

pub returns-clause-far : goal.returns-clause-far
returns-clause-far g c =
    all_far (g.S.Store.state c.args.store.now) c.args.name.now c.args.place c.args.wanted c.in-Ok.block.items c.scan_bytes.result c.in-Ok.ensures.read
    (subst (λ (l : List ℕ). IfOk c.scan_bytes.result (IsFurther c.args.wanted c.args.place l)) c.as_slice.ensures.value c.scan_bytes.ensures.further)

pub returns-clause-stops : goal.returns-clause-stops
returns-clause-stops g c =
    scan_all_stops (g.S.Store.state c.args.store.now) c.args.name.now c.args.place c.args.wanted c.in-Ok.block.items c.scan_bytes.result c.in-Ok.ensures.read
    (subst (λ (l : List ℕ). IfErr c.scan_bytes.result (λ fault. (state : StoreState) (name : List ℕ) → IsBlockIn state name c.args.place l
    → ScanStops state name c.args.place c.args.wanted fault)) c.as_slice.ensures.value c.scan_bytes.ensures.stops)
