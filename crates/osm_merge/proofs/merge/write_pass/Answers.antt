use Rattle.std.proofs.Common.{◌≡◌, Some}
use Rattle.osm_net.specs.Lists.{net_in}
use Rattle.osm_merge.specs.Merging.{merged_text}
use Rattle.osm_merge.specs.declared.lists.Totals.{Totals}
use Rattle.osm_merge.proofs.CheckLemmas.{is_staged, lists_stop, opening_stop}
use Rattle.osm_merge.proofs.FrameLemmas.{has_still, known_still}
use Rattle.std.proofs.Common.{◌+◌, ◌≤◌, length, ap, arith}
use Rattle.std.specs.Prelude.{Err, Ok}
use Rattle.osm_blocks.specs.Calls.{reads_ahead}
use Rattle.osm_blocks.specs.Places.{HasFile, left_of}
use Rattle.osm_merge.specs.Calls.{bytes_in, check_calls}
use Rattle.osm_merge.proofs.CallLemmas.{advances_fails, advances_of, advances_then, at_most, unopened}
use Rattle.osm_merge.proofs.OpeningLemmas.{head_longer}
use Rattle.osm_merge.proofs.merge.write_pass.Goals as goal

pub returns-in-Err-clause-refused : goal.returns-in-Err-clause-refused
returns-in-Err-clause-refused g c = λ known.
    opening_stop ((g.S.Store.state c.args.store.now).files c.args.name.now) c.in-Err.fault (c.in-Err.ensures.refused known)

pub returns-clause-refused : goal.returns-clause-refused
returns-clause-refused g c = λ known.
    let opened = c.in-Ok.ensures.opened known in
    let has = has_still (g.S.Store.state c.args.store.now)
    (g.S.Store.state c.open_save.new.store) c.in-Ok.opened c.args.name.now opened.file c.in-Ok.ensures.frame
    (record { known = known; there = opened.there }) in
    lists_stop ((g.S.Store.state c.args.store.now).files c.args.name.now) c.in-Ok.opened.0 c.in-Ok.opened.1 c.in-Err-write_lists.fault opened
    (c.in-Err-write_lists.ensures.refused opened.file has)

pub returns-in-Ok-write_lists-clause-staged : goal.returns-in-Ok-write_lists-clause-staged
returns-in-Ok-write_lists-clause-staged g c = λ known.
    let opened = c.in-Ok.ensures.opened known in
    let m = c.in-Ok-write_lists.ensures.merges in
    let n = net_in c.args.lists.now in
    let has = has_still (g.S.Store.state c.args.store.now)
    (g.S.Store.state c.open_save.new.store) c.in-Ok.opened c.args.name.now opened.file c.in-Ok.ensures.frame
    (record { known = known; there = opened.there }) in
    is_staged ((g.S.Store.state c.args.store.now).files c.args.name.now) c.in-Ok.opened.0 c.in-Ok.opened.1 n c.in-Ok-write_lists.counted
    (λ saved. (g.S.Store.state c.write_lists.new.store).stage ≡ Some (c.args.name.now, merged_text c.args.head c.args.totals n saved)) opened
    m.value (m.read opened.file has) m.given_is
    (m.out (known_still (g.S.Store.state c.args.store.now) (g.S.Store.state c.open_save.new.store) c.in-Ok.opened c.in-Ok.ensures.frame known))

pub returns-in-Err-clause-calls : goal.returns-in-Err-clause-calls
returns-in-Err-clause-calls g c = λ known.
    let a = g.S.Store.state c.args.store.now in
    let n = bytes_in (a.files c.args.name.now) in
    unopened (check_calls n + n + 6) a (g.S.Store.state c.open_save.new.store) c.in-Err.fault c.in-Err.ensures.calls (omega arith)

pub returns-in-Ok-write_lists-clause-calls : goal.returns-in-Ok-write_lists-clause-calls
returns-in-Ok-write_lists-clause-calls g c = λ known.
    let a = g.S.Store.state c.args.store.now in
    let b = g.S.Store.state c.open_save.new.store in
    let d = g.S.Store.state c.write_lists.new.store in
    let opened = c.in-Ok.ensures.opened known in
    let o = c.in-Ok.opened.1 in
    let place = c.in-Ok.opened.0 in
    let n = length opened.file in
    let has : HasFile a c.args.name.now opened.file = record { known = known; there = opened.there } in
    let has_b = has_still a b c.in-Ok.opened c.args.name.now opened.file c.in-Ok.ensures.frame has in
    let ahead : reads_ahead place opened.file + 1 ≤ check_calls n = c.in-Ok.ensures.ahead opened.file has in
    let fewer : length (left_of place opened.file) ≤ n = head_longer opened.file (o.version, o.head, o.filter, left_of place opened.file) opened.head in
    let all : bytes_in (a.files c.args.name.now) ≡ n = ap bytes_in opened.there in
    let most = check_calls n + n + 6 in
    let first = advances_of 1 a b (Ok c.in-Ok.opened) known c.in-Ok.ensures.calls in
    rw all (at_most most a d (Ok c.in-Ok-write_lists.counted)
    (advances_then {V = Totals} most (λ x. 0) a b d c.in-Ok.opened c.in-Ok-write_lists.counted c.in-Ok-write_lists.counted first
    (c.in-Ok-write_lists.ensures.calls opened.file has_b) (omega (arith, ahead, fewer))) (omega arith))

pub returns-clause-calls : goal.returns-clause-calls
returns-clause-calls g c = λ known.
    let a = g.S.Store.state c.args.store.now in
    let b = g.S.Store.state c.open_save.new.store in
    let d = g.S.Store.state c.write_lists.new.store in
    let opened = c.in-Ok.ensures.opened known in
    let o = c.in-Ok.opened.1 in
    let place = c.in-Ok.opened.0 in
    let n = length opened.file in
    let has : HasFile a c.args.name.now opened.file = record { known = known; there = opened.there } in
    let has_b = has_still a b c.in-Ok.opened c.args.name.now opened.file c.in-Ok.ensures.frame has in
    let ahead : reads_ahead place opened.file + 1 ≤ check_calls n = c.in-Ok.ensures.ahead opened.file has in
    let fewer : length (left_of place opened.file) ≤ n = head_longer opened.file (o.version, o.head, o.filter, left_of place opened.file) opened.head in
    let all : bytes_in (a.files c.args.name.now) ≡ n = ap bytes_in opened.there in
    let most = check_calls n + n + 6 in
    let first = advances_of 1 a b (Ok c.in-Ok.opened) known c.in-Ok.ensures.calls in
    rw all (at_most most a d (Err c.in-Err-write_lists.fault) (advances_fails {V = Totals} most (λ x. 0) a b d c.in-Ok.opened c.in-Err-write_lists.fault first
    (c.in-Err-write_lists.ensures.calls opened.file has_b) (omega (arith, ahead, fewer))) (omega arith))
