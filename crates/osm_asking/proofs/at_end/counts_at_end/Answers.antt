use Rattle.std.specs.Prelude.{Ok, Some}
use Rattle.osm_merge.specs.Faults as merges
use Rattle.osm_net.specs.Lists.{net_in}
use Rattle.osm_asking.specs.Steps.Counting.{IsPlainSearch}
use Rattle.osm_asking.proofs.AtEndLemmas.{counted_there, never_none, not_reopened, plain_check, plain_counts, plain_search, reopened, unfound, unopened}
use Rattle.osm_asking.proofs.AtEndLemmas.{unread_there}
use Rattle.osm_asking.proofs.PlainLemmas.{plain_still}
use Rattle.osm_asking.proofs.at_end.counts_at_end.Goals as goal

pub returns-in-Ok-open_head-clause-counted : goal.returns-in-Ok-open_head-clause-counted
returns-in-Ok-open_head-clause-counted g c = λ known.
    let a = g.S.Store.state c.args.store.now in
    let b = g.S.Store.state c.open_head.new.store in
    let d = g.S.Store.state c.find_counts.new.store in
    let name = c.args.save.now in
    counted_there a b d name c.args.by (net_in c.args.laid.now.lists) c.in-Ok.opening c.in-Ok-find_counts.source c.in-Ok-counts_after.counts.items
    c.in-Ok.ensures.frame c.in-Ok-find_counts.ensures.frame known (c.in-Ok.ensures.begins known)
    c.in-Ok-find_counts.ensures.found c.in-Ok-counts_after.ensures.counted

-- ---- a save text whose end is well formed

pub returns-in-Err-clause-there : goal.returns-in-Err-clause-there
returns-in-Err-clause-there g c =
    let a = g.S.Store.state c.args.store.now in
    never_none a c.args.save.now (merges.IsPlain c.in-Err.fault) c.unless_plain.result c.unless_plain.ensures.wrong
    (λ file v plain. plain_check a c.args.save.now file v c.in-Err.fault plain c.in-Err.ensures.refused)

pub returns-in-Err-clause-calls : goal.returns-in-Err-clause-calls
returns-in-Err-clause-calls g c = λ file v plain.
    unopened (g.S.Store.state c.args.store.now) (g.S.Store.state c.open_head.new.store) c.args.save.now file v plain c.unless_plain.result
    c.in-Err.fault c.in-Err.ensures.refused c.in-Err.ensures.calls c.unless_plain.ensures.same c.unless_plain.ensures.wrong

pub returns-in-Err-find_counts-clause-there : goal.returns-in-Err-find_counts-clause-there
returns-in-Err-find_counts-clause-there g c =
    let a = g.S.Store.state c.args.store.now in
    let b = g.S.Store.state c.open_head.new.store in
    never_none a c.args.save.now (IsPlainSearch c.in-Err-find_counts.fault) c.unless_failed.result c.unless_failed.ensures.wrong
    (λ file v plain. plain_search b c.args.save.now file v c.in-Err-find_counts.fault
    (plain_still a b c.in-Ok.opening c.args.save.now file v c.in-Ok.ensures.frame plain) c.in-Err-find_counts.ensures.stops)

pub returns-in-Err-find_counts-clause-calls : goal.returns-in-Err-find_counts-clause-calls
returns-in-Err-find_counts-clause-calls g c = λ file v plain.
    unfound (g.S.Store.state c.args.store.now) (g.S.Store.state c.open_head.new.store) c.args.save.now file v plain c.unless_failed.result
    c.in-Ok.opening c.in-Ok.ensures.frame c.in-Ok.ensures.calls (g.S.Store.state c.find_counts.new.store) c.in-Err-find_counts.fault
    c.in-Err-find_counts.ensures.stops c.in-Err-find_counts.ensures.calls c.unless_failed.ensures.device c.unless_failed.ensures.wrong

pub returns-in-Err-counts_after-clause-there : goal.returns-in-Err-counts_after-clause-there
returns-in-Err-counts_after-clause-there g c =
    let a = g.S.Store.state c.args.store.now in
    let b = g.S.Store.state c.open_head.new.store in
    let d = g.S.Store.state c.find_counts.new.store in
    never_none a c.args.save.now (merges.IsPlain c.in-Err-counts_after.fault) c.unless_plain-in-Err-counts_after.result
    c.unless_plain-in-Err-counts_after.ensures.wrong
    (λ file v plain. plain_counts a b d c.args.save.now file v c.in-Ok.opening c.in-Ok-find_counts.source c.in-Err-counts_after.fault
    c.in-Ok.ensures.frame c.in-Ok-find_counts.ensures.frame c.in-Ok-find_counts.ensures.found c.in-Ok.ensures.begins plain
    c.in-Err-counts_after.ensures.refused)

pub returns-in-Err-counts_after-clause-calls : goal.returns-in-Err-counts_after-clause-calls
returns-in-Err-counts_after-clause-calls g c = λ file v plain.
    unread_there (g.S.Store.state c.args.store.now) (g.S.Store.state c.open_head.new.store) c.args.save.now file v plain
    c.unless_plain-in-Err-counts_after.result
    c.in-Ok.opening c.in-Ok.ensures.frame c.in-Ok.ensures.calls (g.S.Store.state c.find_counts.new.store) c.in-Ok-find_counts.source
    c.in-Ok-find_counts.ensures.frame c.in-Ok-find_counts.ensures.calls c.in-Ok-find_counts.ensures.found c.in-Ok-find_counts.ensures.unread
    (g.S.Store.state c.counts_after.new.store) c.counts_after.new.source c.in-Err-counts_after.fault c.in-Ok.ensures.begins
    c.in-Err-counts_after.ensures.refused c.in-Err-counts_after.ensures.calls c.unless_plain-in-Err-counts_after.ensures.same
    c.unless_plain-in-Err-counts_after.ensures.wrong

pub returns-in-Ok-open_head-clause-calls : goal.returns-in-Ok-open_head-clause-calls
returns-in-Ok-open_head-clause-calls g c = λ file v plain.
    reopened (g.S.Store.state c.args.store.now) (g.S.Store.state c.open_head.new.store) c.args.save.now file v plain (Ok (Some c.in-Ok-counts_after.counts))
    c.in-Ok.opening c.in-Ok.ensures.frame c.in-Ok.ensures.calls (g.S.Store.state c.find_counts.new.store) c.in-Ok-find_counts.source
    c.in-Ok-find_counts.ensures.frame c.in-Ok-find_counts.ensures.calls c.in-Ok-find_counts.ensures.found c.in-Ok-find_counts.ensures.unread
    (g.S.Store.state c.counts_after.new.store) c.in-Ok-counts_after.counts c.in-Ok-counts_after.ensures.frame c.counts_after.new.source
    c.in-Ok-counts_after.ensures.calls (g.S.Store.state c.open_head-2.new.store) c.in-Ok-open_head._opening (Some c.in-Ok-counts_after.counts)
    c.in-Ok-open_head.ensures.calls

pub returns-clause-there : goal.returns-clause-there
returns-clause-there g c =
    let a = g.S.Store.state c.args.store.now in
    let b = g.S.Store.state c.open_head.new.store in
    let d = g.S.Store.state c.find_counts.new.store in
    let e = g.S.Store.state c.counts_after.new.store in
    never_none a c.args.save.now (merges.IsPlain c.in-Err-open_head.fault) c.unless_plain-in-Err-open_head.result c.unless_plain-in-Err-open_head.ensures.wrong
    (λ file v plain. plain_check e c.args.save.now file v c.in-Err-open_head.fault
    (plain_still d e c.in-Ok-counts_after.counts c.args.save.now file v c.in-Ok-counts_after.ensures.frame
    (plain_still b d c.in-Ok-find_counts.source c.args.save.now file v c.in-Ok-find_counts.ensures.frame
    (plain_still a b c.in-Ok.opening c.args.save.now file v c.in-Ok.ensures.frame plain))) c.in-Err-open_head.ensures.refused)

pub returns-clause-calls : goal.returns-clause-calls
returns-clause-calls g c = λ file v plain.
    not_reopened (g.S.Store.state c.args.store.now) (g.S.Store.state c.open_head.new.store) c.args.save.now file v plain c.unless_plain-in-Err-open_head.result
    c.in-Ok.opening c.in-Ok.ensures.frame c.in-Ok.ensures.calls (g.S.Store.state c.find_counts.new.store) c.in-Ok-find_counts.source
    c.in-Ok-find_counts.ensures.frame c.in-Ok-find_counts.ensures.calls c.in-Ok-find_counts.ensures.found c.in-Ok-find_counts.ensures.unread
    (g.S.Store.state c.counts_after.new.store) c.in-Ok-counts_after.counts c.in-Ok-counts_after.ensures.frame c.counts_after.new.source
    c.in-Ok-counts_after.ensures.calls (g.S.Store.state c.open_head-2.new.store) c.in-Err-open_head.fault c.in-Err-open_head.ensures.refused
    c.in-Err-open_head.ensures.calls c.unless_plain-in-Err-open_head.ensures.same c.unless_plain-in-Err-open_head.ensures.wrong
