use Rattle.std.proofs.Common.{◌≡◌, List, ℕ, None, Some, arith, refl, subst}
use Rattle.std.proofs.lemmas.Bool.Decides.{nat_tests}
use Rattle.std.specs.Prelude.{Err, Ok}
use Rattle.osm_blocks.proofs.OftenLemmas.{often_both}
use Rattle.osm_store.proofs.FrameLemmas.{at_most_both}
use Rattle.osm_asking.specs.Refusal.{IsFailed}
use Rattle.osm_asking.proofs.CallLemmas.{more_left}
use Rattle.osm_reading.specs.Pieces.{cut_at}
use Rattle.osm_asking.proofs.SearchLemmas.{after_in, frame_as, none_after, none_counted, probe_at, probe_at_stops}
use Rattle.osm_asking.proofs.find.probe.Goals as goal
use Rattle.osm_merge.proofs.LineLemmas.{fails_none}

pub returns-in-Ok-probe_after-clause-probed : goal.returns-in-Ok-probe_after-clause-probed
returns-in-Ok-probe_after-clause-probed g c =
    let a = g.S.Store.state c.args.store.now in
    let b = g.S.Store.state c.read_block.new.store in
    let first = subst (λ (l : List ℕ). cut_at 10 l ≡ Some (c.in-Ok-next_line.cut.0.now, c.in-Ok-next_line.cut.1.now)) c.as_slice.ensures.value
    c.in-Ok-next_line.ensures in
    let frame = frame_as a b c.in-Ok.block c.in-Ok.ensures.frame in
    probe_at c.args.wanted a b c.args.name.now c.args.from c.in-Some.place c.in-Ok.block.items c.in-Ok-next_line.cut.0.now c.in-Ok-next_line.cut.1.now
    c.in-Ok-probe_after.probed frame c.in-Ok.ensures.read first c.in-Some.ensures.after
    (c.in-Ok-probe_after.ensures.probed (after_in a b tt c.args.name.now c.args.from c.in-Some.place c.in-Ok.block.items c.in-Ok-next_line.cut.0.now
    c.in-Ok-next_line.cut.1.now frame c.in-Ok.ensures.read first c.in-Some.ensures.after _ (λ yes. grind (arith, nat_tests, c.len.ensures))))

pub returns-clause-stops : goal.returns-clause-stops
returns-clause-stops g c =
    let a = g.S.Store.state c.args.store.now in
    let b = g.S.Store.state c.read_block.new.store in
    let first = subst (λ (l : List ℕ). cut_at 10 l ≡ Some (c.in-Ok-next_line.cut.0.now, c.in-Ok-next_line.cut.1.now)) c.as_slice.ensures.value
    c.in-Ok-next_line.ensures in
    let frame = frame_as a b c.in-Ok.block c.in-Ok.ensures.frame in
    probe_at_stops c.args.wanted a b c.args.name.now c.args.from c.in-Some.place c.in-Ok.block.items c.in-Ok-next_line.cut.0.now
    c.in-Ok-next_line.cut.1.now c.in-Err-probe_after.fault frame c.in-Ok.ensures.read first c.in-Some.ensures.after
    (c.in-Err-probe_after.ensures.stops (after_in a b tt c.args.name.now c.args.from c.in-Some.place c.in-Ok.block.items c.in-Ok-next_line.cut.0.now
    c.in-Ok-next_line.cut.1.now frame c.in-Ok.ensures.read first c.in-Some.ensures.after _ (λ yes. grind (arith, nat_tests, c.len.ensures))))

pub returns-in-Err-next_line-clause-probed : goal.returns-in-Err-next_line-clause-probed
returns-in-Err-next_line-clause-probed g c =
    none_after (g.S.Store.state c.args.store.now) c.args.name.now c.args.from c.in-Ok.block.items c.in-Ok.ensures.read
    (subst (λ (l : List ℕ). cut_at 10 l ≡ None) c.as_slice.ensures.value
    (fails_none c.in-Err-next_line._stop (cut_at 10 c.as_slice.result.now) c.in-Err-next_line.ensures))

pub returns-in_default-clause-probed : goal.returns-in_default-clause-probed
returns-in_default-clause-probed g c =
    none_counted (g.S.Store.state c.args.store.now) c.args.name.now c.args.from c.in-Ok.block.items c.in-Ok-next_line.cut.0.now
    c.in-Ok-next_line.cut.1.now c.in-Ok.ensures.read
    (subst (λ (l : List ℕ). cut_at 10 l ≡ Some (c.in-Ok-next_line.cut.0.now, c.in-Ok-next_line.cut.1.now)) c.as_slice.ensures.value
    c.in-Ok-next_line.ensures)
    (c.in_default.ensures.none refl)

pub returns-in-Ok-probe_after-clause-frame : goal.returns-in-Ok-probe_after-clause-frame
returns-in-Ok-probe_after-clause-frame g c =
    often_both IsFailed (g.S.Store.state c.args.store.now) (g.S.Store.state c.read_block.new.store) (g.S.Store.state c.probe_after.new.store) c.in-Ok.block
    (Ok c.in-Ok-probe_after.probed) c.in-Ok.ensures.frame c.in-Ok-probe_after.ensures.frame

pub returns-in-Ok-probe_after-clause-few : goal.returns-in-Ok-probe_after-clause-few
returns-in-Ok-probe_after-clause-few g c = λ file has short.
    (let a = g.S.Store.state c.args.store.now in
    let b = g.S.Store.state c.read_block.new.store in
    let first = subst (λ (l : List ℕ). cut_at 10 l ≡ Some (c.in-Ok-next_line.cut.0.now, c.in-Ok-next_line.cut.1.now)) c.as_slice.ensures.value
    c.in-Ok-next_line.ensures in
    at_most_both IsFailed 1 0 1 a b (g.S.Store.state c.probe_after.new.store) c.in-Ok.block (Ok c.in-Ok-probe_after.probed) (omega arith)
    c.in-Ok.ensures.frame.known
    (c.in-Ok.ensures.few file has short)
    (c.in-Ok-probe_after.ensures.idle (λ no. more_left file c.args.from c.in-Ok.block.items c.in-Ok-next_line.cut.0.now c.in-Ok-next_line.cut.1.now short
    (c.in-Ok.ensures.read file has) first (grind (arith, nat_tests, no, c.len.ensures)))))

pub returns-clause-few : goal.returns-clause-few
returns-clause-few g c = λ file has short.
    (let a = g.S.Store.state c.args.store.now in
    let b = g.S.Store.state c.read_block.new.store in
    let first = subst (λ (l : List ℕ). cut_at 10 l ≡ Some (c.in-Ok-next_line.cut.0.now, c.in-Ok-next_line.cut.1.now)) c.as_slice.ensures.value
    c.in-Ok-next_line.ensures in
    at_most_both IsFailed 1 0 1 a b (g.S.Store.state c.probe_after.new.store) c.in-Ok.block (Err c.in-Err-probe_after.fault) (omega arith)
    c.in-Ok.ensures.frame.known
    (c.in-Ok.ensures.few file has short)
    (c.in-Err-probe_after.ensures.idle (λ no. more_left file c.args.from c.in-Ok.block.items c.in-Ok-next_line.cut.0.now c.in-Ok-next_line.cut.1.now short
    (c.in-Ok.ensures.read file has) first (grind (arith, nat_tests, no, c.len.ensures)))))
