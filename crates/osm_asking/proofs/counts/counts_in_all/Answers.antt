use Rattle.std.proofs.Common.{[]}
use Rattle.osm_blocks.specs.Places.{left_of}
use Rattle.osm_merge.specs.Mirrors.{both_at}
use Rattle.osm_merge.proofs.FrameLemmas.{has_still}
use Rattle.osm_merged.specs.Ahead.{objects_ahead}
use Rattle.osm_net.specs.Lists.{net_in}
use Rattle.osm_save.specs.Head.{most_counted}
use Rattle.osm_asking.proofs.CountLemmas.{are_counted}
use Rattle.osm_asking.proofs.RunLemmas.{line_checks, objects_read, rest_read}
use Rattle.osm_asking.proofs.counts.counts_in_all.Goals as goal

pub returns-in-Err-sum-clause-refused : goal.returns-in-Err-sum-clause-refused
returns-in-Err-sum-clause-refused g c = λ known.
    let a = g.S.Store.state c.args.store.now in
    let b = g.S.Store.state c.open.new.store in
    let o = c.in-Ok.opened in
    let at = c.in-Ok.ensures.opened known in
    let told = a.files c.args.save.now in
    let has_b = has_still a b o c.args.save.now at.file c.in-Ok.ensures.frame (record { known = known; there = at.there }) in
    line_checks told at.file c.in-Err-sum.fault (objects_ahead o.1.filter o.0.objects (left_of o.0.source at.file)) at.there
    (c.in-Err-sum.ensures.refused at.file has_b)
    (objects_read told [] o.0.source o.1 o.0.objects at c.laws_of_merged_saves.ensures.found)

pub returns-clause-refused : goal.returns-clause-refused
returns-clause-refused g c = λ known.
    let a = g.S.Store.state c.args.store.now in
    let b = g.S.Store.state c.open.new.store in
    let d = g.S.Store.state c.sum.new.store in
    let o = c.in-Ok.opened in
    let at = c.in-Ok.ensures.opened known in
    let told = a.files c.args.save.now in
    let has_b = has_still a b o c.args.save.now at.file c.in-Ok.ensures.frame (record { known = known; there = at.there }) in
    let has_d = has_still b d tt c.args.save.now at.file c.in-Ok-sum.ensures.frame has_b in
    let s = c.in-Ok-sum.ensures.summed in
    let after = left_of c.sum.new.self.source at.file in
    line_checks told at.file c.in-Err-counts_after.fault (both_at (most_counted o.1.head) after) at.there
    (c.in-Err-counts_after.ensures.refused at.file has_d)
    (rest_read told [] o.0.source o.1 o.0.objects at c.laws_of_merged_saves.ensures.found s.objects after (s.read at.file has_b))

pub returns-in-Ok-counts_after-clause-counted : goal.returns-in-Ok-counts_after-clause-counted
returns-in-Ok-counts_after-clause-counted g c = λ known.
    let a = g.S.Store.state c.args.store.now in
    let b = g.S.Store.state c.open.new.store in
    let d = g.S.Store.state c.sum.new.store in
    let o = c.in-Ok.opened in
    let at = c.in-Ok.ensures.opened known in
    let has_b = has_still a b o c.args.save.now at.file c.in-Ok.ensures.frame (record { known = known; there = at.there }) in
    let has_d = has_still b d tt c.args.save.now at.file c.in-Ok-sum.ensures.frame has_b in
    let s = c.in-Ok-sum.ensures.summed in
    are_counted (a.files c.args.save.now) [] o.0.source o.1 o.0.objects at c.laws_of_merged_saves.ensures.found s.objects (left_of c.sum.new.self.source
    at.file)
    (s.read at.file has_b) c.args.by (net_in c.args.laid.now.lists) c.in-Ok-counts_after.counts.items (c.in-Ok-counts_after.ensures.counted at.file has_d)
