use Rattle.osm_net.specs.Lists.{net_in}
use Rattle.osm_merge.proofs.CheckLemmas.{counts_as, lists_stop, opening_stop}
use Rattle.osm_merge.proofs.FrameLemmas.{has_still}
use Rattle.std.proofs.Common.{arith}
use Rattle.osm_blocks.specs.Places.{HasFile}
use Rattle.osm_merge.specs.Calls.{bytes_in, check_calls}
use Rattle.osm_merge.proofs.CallLemmas.{count_done, count_fails, unopened}
use Rattle.osm_merge.proofs.merge.count_save.Goals as goal

pub returns-in-Err-clause-refused : goal.returns-in-Err-clause-refused
returns-in-Err-clause-refused g c = λ known.
    opening_stop ((g.S.Store.state c.args.store.now).files c.args.name.now) c.in-Err.fault (c.in-Err.ensures.refused known)

pub returns-clause-refused : goal.returns-clause-refused
returns-clause-refused g c = λ known.
    let opened = c.in-Ok.ensures.opened known in
    let has = has_still (g.S.Store.state c.args.store.now)
    (g.S.Store.state c.open_save.new.store) c.in-Ok.opened c.args.name.now opened.file c.in-Ok.ensures.frame
    (record { known = known; there = opened.there }) in
    lists_stop ((g.S.Store.state c.args.store.now).files c.args.name.now) c.in-Ok.opened.0 c.in-Ok.opened.1 c.in-Err-count_lists.fault opened
    (c.in-Err-count_lists.ensures.refused opened.file has)

pub returns-in-Ok-count_lists-clause-counted : goal.returns-in-Ok-count_lists-clause-counted
returns-in-Ok-count_lists-clause-counted g c = λ known.
    let opened = c.in-Ok.ensures.opened known in
    let n = net_in c.args.lists.now in
    let has = has_still (g.S.Store.state c.args.store.now)
    (g.S.Store.state c.open_save.new.store) c.in-Ok.opened c.args.name.now opened.file c.in-Ok.ensures.frame
    (record { known = known; there = opened.there }) in
    counts_as ((g.S.Store.state c.args.store.now).files c.args.name.now) c.in-Ok.opened.0 c.in-Ok.opened.1 n c.in-Ok-count_lists.totals opened
    (c.in-Ok-count_lists.ensures.counted opened.file has)

pub returns-in-Err-clause-calls : goal.returns-in-Err-clause-calls
returns-in-Err-clause-calls g c = λ known.
    let a = g.S.Store.state c.args.store.now in
    unopened (check_calls (bytes_in (a.files c.args.name.now))) a (g.S.Store.state c.open_save.new.store) c.in-Err.fault c.in-Err.ensures.calls (omega arith)

pub returns-in-Ok-count_lists-clause-calls : goal.returns-in-Ok-count_lists-clause-calls
returns-in-Ok-count_lists-clause-calls g c = λ known.
    let a = g.S.Store.state c.args.store.now in
    let b = g.S.Store.state c.open_save.new.store in
    let opened = c.in-Ok.ensures.opened known in
    let has : HasFile a c.args.name.now opened.file = record { known = known; there = opened.there } in
    let has_b = has_still a b c.in-Ok.opened c.args.name.now opened.file c.in-Ok.ensures.frame has in
    count_done (a.files c.args.name.now) opened.file c.in-Ok.opened.0 a b (g.S.Store.state c.count_lists.new.store) c.in-Ok.opened
    opened.there known c.in-Ok.ensures.calls (c.in-Ok.ensures.ahead opened.file has) c.in-Ok-count_lists.totals
    c.in-Ok-count_lists.totals
    (c.in-Ok-count_lists.ensures.calls opened.file has_b)

pub returns-clause-calls : goal.returns-clause-calls
returns-clause-calls g c = λ known.
    let a = g.S.Store.state c.args.store.now in
    let b = g.S.Store.state c.open_save.new.store in
    let opened = c.in-Ok.ensures.opened known in
    let has : HasFile a c.args.name.now opened.file = record { known = known; there = opened.there } in
    let has_b = has_still a b c.in-Ok.opened c.args.name.now opened.file c.in-Ok.ensures.frame has in
    count_fails (a.files c.args.name.now) opened.file c.in-Ok.opened.0 a b (g.S.Store.state c.count_lists.new.store) c.in-Ok.opened
    opened.there known c.in-Ok.ensures.calls (c.in-Ok.ensures.ahead opened.file has) c.in-Err-count_lists.fault
    (c.in-Err-count_lists.ensures.calls opened.file has_b)
