use Rattle.std.proofs.Common.{sym, ◌∙◌}
use Rattle.std.specs.Prelude.{codes}
use Rattle.osm_blocks.specs.Places.{left_of}
use Rattle.osm_merge.proofs.FrameLemmas.{has_still}
use Rattle.osm_merge.proofs.LineLemmas.{refuses_all}
use Rattle.osm_merged.specs.Ahead.{counts_ahead}
use Rattle.osm_save.specs.Head.{most_counted}
use Rattle.osm_save.specs.Reading.{counts_at}
use Rattle.osm_asking.proofs.CountLemmas.{added_none, goes_first, goes_off, goes_on}
use Rattle.osm_asking.proofs.counts.users_after.Goals as goal

pub returns-in-Ok-gather-clause-given : goal.returns-in-Ok-gather-clause-given
returns-in-Ok-gather-clause-given g c = λ file has.
    let a = g.S.Store.state c.args.store.now in
    let b = g.S.Store.state c.open_users.new.store in
    sym (c.in-Ok.ensures.opened file has)
    ∙ c.in-Ok-gather.ensures.gathered file (has_still a b c.in-Ok.counts c.args.save.now file c.in-Ok.ensures.frame has)

pub returns-in-Err-gather-clause-refused : goal.returns-in-Err-gather-clause-refused
returns-in-Err-gather-clause-refused g c = λ file has.
    let a = g.S.Store.state c.args.store.now in
    let b = g.S.Store.state c.open_users.new.store in
    let bytes = counts_at (codes "users ") (most_counted c.args.opening.now.head) (left_of c.args.source.now file) in
    let ahead = counts_ahead c.in-Ok.counts (left_of c.open_users.new.source file) in
    refuses_all file c.in-Err-gather.fault ahead bytes
    (c.in-Err-gather.ensures.refused file (has_still a b c.in-Ok.counts c.args.save.now file c.in-Ok.ensures.frame has))
    (λ none. added_none c.args.more.now bytes (sym (c.in-Ok.ensures.opened file has) ∙ none))

pub returns-in-Err-clause-calls : goal.returns-in-Err-clause-calls
returns-in-Err-clause-calls g c =
    goes_first (g.S.Store.state c.args.store.now) (g.S.Store.state c.open_users.new.store) c.args.save.now c.args.source.now c.open_users.new.source
    c.in-Err.fault c.in-Err.ensures.calls

pub returns-in-Ok-gather-clause-calls : goal.returns-in-Ok-gather-clause-calls
returns-in-Ok-gather-clause-calls g c =
    goes_on (g.S.Store.state c.args.store.now) (g.S.Store.state c.open_users.new.store) (g.S.Store.state c.gather.new.store) c.args.save.now
    c.args.source.now c.open_users.new.source c.gather.new.source c.in-Ok.counts c.in-Ok-gather.given c.in-Ok-gather.given c.in-Ok.ensures.frame
    c.in-Ok.ensures.calls c.in-Ok-gather.ensures.calls

pub returns-in-Err-gather-clause-calls : goal.returns-in-Err-gather-clause-calls
returns-in-Err-gather-clause-calls g c =
    goes_off (g.S.Store.state c.args.store.now) (g.S.Store.state c.open_users.new.store) (g.S.Store.state c.gather.new.store) c.args.save.now
    c.args.source.now c.open_users.new.source c.gather.new.source c.in-Ok.counts c.in-Err-gather.fault c.in-Ok.ensures.frame
    c.in-Ok.ensures.calls c.in-Err-gather.ensures.calls
