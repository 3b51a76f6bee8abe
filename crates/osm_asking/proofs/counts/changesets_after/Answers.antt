use Rattle.std.proofs.Common.{sym, ◌∙◌}
use Rattle.std.specs.Prelude.{codes}
use Rattle.osm_blocks.specs.Places.{left_of}
use Rattle.osm_blocks.proofs.OftenLemmas.{often_then}
use Rattle.osm_merge.specs.Faults.{IsDeviceFault}
use Rattle.osm_merge.specs.Mirrors.{both_at}
use Rattle.osm_merge.proofs.FrameLemmas.{has_still}
use Rattle.osm_merge.proofs.LineLemmas.{refuses_all}
use Rattle.osm_merge.proofs.ListLemmas.{both_after, both_none}
use Rattle.osm_merged.specs.Ahead.{counts_ahead}
use Rattle.osm_save.specs.Head.{most_counted}
use Rattle.osm_save.specs.Reading.{counts_at}
use Rattle.osm_asking.proofs.CountLemmas.{added_none, goes_first, goes_off, goes_on, same_after, users_passed}
use Rattle.osm_asking.proofs.counts.changesets_after.Goals as goal

pub returns-in-Err-clause-refused : goal.returns-in-Err-clause-refused
returns-in-Err-clause-refused g c = λ file has.
    let most = most_counted c.args.opening.now.head in
    let bytes = left_of c.args.source.now file in
    refuses_all file c.in-Err.fault (counts_at (codes "users ") most bytes) (both_at most bytes) (c.in-Err.ensures.refused file has) (both_none most bytes)

pub returns-in-Err-open_changesets-clause-refused : goal.returns-in-Err-open_changesets-clause-refused
returns-in-Err-open_changesets-clause-refused g c = λ file has.
    let a = g.S.Store.state c.args.store.now in
    let b = g.S.Store.state c.users_after.new.store in
    let most = most_counted c.args.opening.now.head in
    let bytes = left_of c.args.source.now file in
    let after = left_of c.users_after.new.source file in
    let us = users_passed (counts_at (codes "users ") most bytes) c.in-Ok._users.items after (c.in-Ok.ensures.given file has) in
    refuses_all file c.in-Err-open_changesets.fault (counts_at (codes "changesets ") most after) (both_at most bytes)
    (c.in-Err-open_changesets.ensures.refused file (has_still a b c.in-Ok._users c.args.save.now file c.in-Ok.ensures.frame has))
    (both_after most bytes after us.value us.read)

pub returns-in-Ok-gather-clause-given : goal.returns-in-Ok-gather-clause-given
returns-in-Ok-gather-clause-given g c = λ file has users after read.
    let a = g.S.Store.state c.args.store.now in
    let b = g.S.Store.state c.users_after.new.store in
    let d = g.S.Store.state c.open_changesets.new.store in
    let most = most_counted c.args.opening.now.head in
    let has_b = has_still a b c.in-Ok._users c.args.save.now file c.in-Ok.ensures.frame has in
    let has_d = has_still b d c.in-Ok-open_changesets.counts c.args.save.now file c.in-Ok-open_changesets.ensures.frame has_b in
    let users_at = counts_at (codes "users ") most (left_of c.args.source.now file) in
    let us = users_passed users_at c.in-Ok._users.items (left_of c.users_after.new.source file) (c.in-Ok.ensures.given file has) in
    same_after c.args.more.now most users us.value after (left_of c.users_after.new.source file)
    users_at read us.read
    ∙ (sym (c.in-Ok-open_changesets.ensures.opened file has_b) ∙ c.in-Ok-gather.ensures.gathered file has_d)

pub returns-in-Err-gather-clause-refused : goal.returns-in-Err-gather-clause-refused
returns-in-Err-gather-clause-refused g c = λ file has.
    let a = g.S.Store.state c.args.store.now in
    let b = g.S.Store.state c.users_after.new.store in
    let d = g.S.Store.state c.open_changesets.new.store in
    let most = most_counted c.args.opening.now.head in
    let bytes = left_of c.args.source.now file in
    let after = left_of c.users_after.new.source file in
    let has_b = has_still a b c.in-Ok._users c.args.save.now file c.in-Ok.ensures.frame has in
    let has_d = has_still b d c.in-Ok-open_changesets.counts c.args.save.now file c.in-Ok-open_changesets.ensures.frame has_b in
    let us = users_passed (counts_at (codes "users ") most bytes) c.in-Ok._users.items after (c.in-Ok.ensures.given file has) in
    let last = counts_at (codes "changesets ") most after in
    let ahead = counts_ahead c.in-Ok-open_changesets.counts (left_of c.open_changesets.new.source file) in
    refuses_all file c.in-Err-gather.fault ahead (both_at most bytes) (c.in-Err-gather.ensures.refused file has_d)
    (λ none. both_after most bytes after us.value us.read
    (added_none c.args.more.now last (sym (c.in-Ok-open_changesets.ensures.opened file has_b) ∙ none)))

pub returns-in-Err-clause-calls : goal.returns-in-Err-clause-calls
returns-in-Err-clause-calls g c =
    goes_first (g.S.Store.state c.args.store.now) (g.S.Store.state c.users_after.new.store) c.args.save.now c.args.source.now c.users_after.new.source
    c.in-Err.fault c.in-Err.ensures.calls

pub returns-in-Err-open_changesets-clause-calls : goal.returns-in-Err-open_changesets-clause-calls
returns-in-Err-open_changesets-clause-calls g c =
    goes_off (g.S.Store.state c.args.store.now) (g.S.Store.state c.users_after.new.store) (g.S.Store.state c.open_changesets.new.store) c.args.save.now
    c.args.source.now c.users_after.new.source c.open_changesets.new.source c.in-Ok._users c.in-Err-open_changesets.fault c.in-Ok.ensures.frame
    c.in-Ok.ensures.calls c.in-Err-open_changesets.ensures.calls

pub returns-in-Ok-gather-clause-calls : goal.returns-in-Ok-gather-clause-calls
returns-in-Ok-gather-clause-calls g c =
    goes_on (g.S.Store.state c.args.store.now) (g.S.Store.state c.open_changesets.new.store) (g.S.Store.state c.gather.new.store) c.args.save.now
    c.args.source.now c.open_changesets.new.source c.gather.new.source tt c.in-Ok-gather.given c.in-Ok-gather.given
    (often_then {V = Unit {0}} IsDeviceFault (g.S.Store.state c.args.store.now) (g.S.Store.state c.users_after.new.store)
    (g.S.Store.state c.open_changesets.new.store) c.in-Ok._users c.in-Ok-open_changesets.counts tt c.in-Ok.ensures.frame c.in-Ok-open_changesets.ensures.frame)
    (goes_on {V = Unit {0}} (g.S.Store.state c.args.store.now) (g.S.Store.state c.users_after.new.store) (g.S.Store.state c.open_changesets.new.store)
    c.args.save.now c.args.source.now c.users_after.new.source c.open_changesets.new.source c.in-Ok._users c.in-Ok-open_changesets.counts tt
    c.in-Ok.ensures.frame c.in-Ok.ensures.calls c.in-Ok-open_changesets.ensures.calls)
    c.in-Ok-gather.ensures.calls

pub returns-in-Err-gather-clause-calls : goal.returns-in-Err-gather-clause-calls
returns-in-Err-gather-clause-calls g c =
    goes_off (g.S.Store.state c.args.store.now) (g.S.Store.state c.open_changesets.new.store) (g.S.Store.state c.gather.new.store) c.args.save.now
    c.args.source.now c.open_changesets.new.source c.gather.new.source tt c.in-Err-gather.fault
    (often_then {V = Unit {0}} IsDeviceFault (g.S.Store.state c.args.store.now) (g.S.Store.state c.users_after.new.store)
    (g.S.Store.state c.open_changesets.new.store) c.in-Ok._users c.in-Ok-open_changesets.counts tt c.in-Ok.ensures.frame c.in-Ok-open_changesets.ensures.frame)
    (goes_on {V = Unit {0}} (g.S.Store.state c.args.store.now) (g.S.Store.state c.users_after.new.store) (g.S.Store.state c.open_changesets.new.store)
    c.args.save.now c.args.source.now c.users_after.new.source c.open_changesets.new.source c.in-Ok._users c.in-Ok-open_changesets.counts tt
    c.in-Ok.ensures.frame c.in-Ok.ensures.calls c.in-Ok-open_changesets.ensures.calls)
    c.in-Err-gather.ensures.calls
