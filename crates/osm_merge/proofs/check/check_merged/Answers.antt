use Rattle.osm_merge.proofs.CheckLemmas.{is_checked, lists_stop, opening_stop}
use Rattle.osm_merge.proofs.FrameLemmas.{has_still}
use Rattle.osm_net.specs.Lists.{net_in}
use Rattle.std.proofs.Common.{arith}
use Rattle.osm_blocks.specs.Places.{HasFile}
use Rattle.osm_merge.specs.Calls.{bytes_in, check_calls}
use Rattle.osm_merge.proofs.CallLemmas.{check_done, check_fails, unopened}
use Rattle.osm_merge.proofs.check.check_merged.Goals as goal

pub returns-in-Err-clause-refused : goal.returns-in-Err-clause-refused
returns-in-Err-clause-refused g c = λ known.
    opening_stop ((g.S.Store.state c.args.store.now).files c.args.name.now) c.in-Err.fault (c.in-Err.ensures.refused known)

pub returns-in-Ok-merge_lists-clause-checked : goal.returns-in-Ok-merge_lists-clause-checked
returns-in-Ok-merge_lists-clause-checked g c = λ known.
    let opened = c.in-Ok.ensures.opened known in
    let has = has_still (g.S.Store.state c.args.store.now)
    (g.S.Store.state c.open_save.new.store) c.in-Ok.opened c.args.name.now opened.file c.in-Ok.ensures.frame
    (record { known = known; there = opened.there }) in
    is_checked ((g.S.Store.state c.args.store.now).files c.args.name.now) c.in-Ok.opened.0 c.in-Ok.opened.1
    (net_in c.args.lists.now) c.in-Ok-merge_lists.totals opened
    c.in-Ok-merge_lists.ensures.merges.value (c.in-Ok-merge_lists.ensures.merges.read opened.file has) c.in-Ok-merge_lists.ensures.merges.given_is

pub returns-clause-refused : goal.returns-clause-refused
returns-clause-refused g c = λ known.
    let opened = c.in-Ok.ensures.opened known in
    let has = has_still (g.S.Store.state c.args.store.now)
    (g.S.Store.state c.open_save.new.store) c.in-Ok.opened c.args.name.now opened.file c.in-Ok.ensures.frame
    (record { known = known; there = opened.there }) in
    lists_stop ((g.S.Store.state c.args.store.now).files c.args.name.now) c.in-Ok.opened.0 c.in-Ok.opened.1 c.in-Err-merge_lists.fault opened
    (c.in-Err-merge_lists.ensures.refused opened.file has)

pub returns-in-Err-clause-calls : goal.returns-in-Err-clause-calls
returns-in-Err-clause-calls g c = λ known.
    let a = g.S.Store.state c.args.store.now in
    unopened (check_calls (bytes_in (a.files c.args.name.now))) a (g.S.Store.state c.open_save.new.store) c.in-Err.fault c.in-Err.ensures.calls (omega arith)

pub returns-in-Ok-merge_lists-clause-calls : goal.returns-in-Ok-merge_lists-clause-calls
returns-in-Ok-merge_lists-clause-calls g c = λ known.
    let a = g.S.Store.state c.args.store.now in
    let b = g.S.Store.state c.open_save.new.store in
    let opened = c.in-Ok.ensures.opened known in
    let has : HasFile a c.args.name.now opened.file = record { known = known; there = opened.there } in
    let has_b = has_still a b c.in-Ok.opened c.args.name.now opened.file c.in-Ok.ensures.frame has in
    check_done (a.files c.args.name.now) opened.file c.dropping-writer.result c.in-Ok.opened.0 a b (g.S.Store.state c.merge_lists.new.store) c.in-Ok.opened
    opened.there known c.in-Ok.ensures.calls (c.in-Ok.ensures.ahead opened.file has) c.dropping-writer.ensures c.in-Ok-merge_lists.totals
    (record { version = c.in-Ok.opened.1.version; head = c.in-Ok.opened.1.head; filter = c.in-Ok.opened.1.filter; totals = c.in-Ok-merge_lists.totals })
    (c.in-Ok-merge_lists.ensures.calls opened.file has_b)

pub returns-clause-calls : goal.returns-clause-calls
returns-clause-calls g c = λ known.
    let a = g.S.Store.state c.args.store.now in
    let b = g.S.Store.state c.open_save.new.store in
    let opened = c.in-Ok.ensures.opened known in
    let has : HasFile a c.args.name.now opened.file = record { known = known; there = opened.there } in
    let has_b = has_still a b c.in-Ok.opened c.args.name.now opened.file c.in-Ok.ensures.frame has in
    check_fails (a.files c.args.name.now) opened.file c.dropping-writer.result c.in-Ok.opened.0 a b (g.S.Store.state c.merge_lists.new.store) c.in-Ok.opened
    opened.there known c.in-Ok.ensures.calls (c.in-Ok.ensures.ahead opened.file has) c.dropping-writer.ensures c.in-Err-merge_lists.fault
    (c.in-Err-merge_lists.ensures.calls opened.file has_b)
