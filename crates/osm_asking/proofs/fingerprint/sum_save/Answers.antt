use Rattle.std.proofs.Common.{◌≡◌, rules}
use Rattle.osm_blocks.specs.Places.{left_of}
use Rattle.osm_blocks.proofs.OftenLemmas.{often_then}
use Rattle.osm_merge.specs.Mirrors.{both_at}
use Rattle.osm_merge.specs.Faults.{IsDeviceFault}
use Rattle.osm_merge.proofs.FrameLemmas.{has_still, often_fails}
use Rattle.osm_merged.specs.Ahead.{objects_ahead}
use Rattle.osm_save.specs.Head.{most_counted}
use Rattle.osm_asking.proofs.SavedObjectsLemmas.{often_lacks}
use Rattle.osm_asking.proofs.RunLemmas.{line_checks, objects_read, rest_read, summed_of}
use Rattle.osm_asking.proofs.SumsLemmas.{of_keys}
use Rattle.osm_asking.proofs.fingerprint.sum_save.Goals as goal

pub returns-in-Err-sum-clause-refused : goal.returns-in-Err-sum-clause-refused
returns-in-Err-sum-clause-refused g c = λ known.
    let a = g.S.Store.state c.args.store.now in
    let b = g.S.Store.state c.open.new.store in
    let o = c.in-Ok.opened in
    let at = c.in-Ok.ensures.opened known in
    let told = a.files c.args.save.now in
    let has_b = has_still a b o c.args.save.now at.file c.in-Ok.ensures.frame (record { known = known; there = at.there }) in
    line_checks told at.file c.in-Err-sum.fault (objects_ahead o.1.filter o.0.objects (left_of o.0.source at.file)) at.there
    (c.in-Err-sum.ensures.refused at.file has_b)
    (objects_read told c.as_slice-entries.result.now o.0.source o.1 o.0.objects at c.laws_of_merged_saves.ensures.found)

pub returns-in-Err-pass_rest-clause-refused : goal.returns-in-Err-pass_rest-clause-refused
returns-in-Err-pass_rest-clause-refused g c = λ known.
    let a = g.S.Store.state c.args.store.now in
    let b = g.S.Store.state c.open.new.store in
    let d = g.S.Store.state c.sum.new.store in
    let o = c.in-Ok.opened in
    let at = c.in-Ok.ensures.opened known in
    let told = a.files c.args.save.now in
    let has_b = has_still a b o c.args.save.now at.file c.in-Ok.ensures.frame (record { known = known; there = at.there }) in
    let has_d = has_still b d tt c.args.save.now at.file c.in-Ok-sum.ensures.frame has_b in
    let s = c.in-Ok-sum.ensures.summed in
    let after = left_of c.sum.new.self.source at.file in
    line_checks told at.file c.in-Err-pass_rest.fault (both_at (most_counted o.1.head) after) at.there
    (c.in-Err-pass_rest.ensures.refused at.file has_d)
    (rest_read told c.as_slice-entries.result.now o.0.source o.1 o.0.objects at c.laws_of_merged_saves.ensures.found s.objects after (s.read at.file has_b))

pub returns-in-Ok-finish-clause-summed : goal.returns-in-Ok-finish-clause-summed
returns-in-Ok-finish-clause-summed g c = λ known.
    let a = g.S.Store.state c.args.store.now in
    let b = g.S.Store.state c.open.new.store in
    let d = g.S.Store.state c.sum.new.store in
    let o = c.in-Ok.opened in
    let at = c.in-Ok.ensures.opened known in
    let has_b = has_still a b o c.args.save.now at.file c.in-Ok.ensures.frame (record { known = known; there = at.there }) in
    let has_d = has_still b d tt c.args.save.now at.file c.in-Ok-sum.ensures.frame has_b in
    let s = c.in-Ok-sum.ensures.summed in
    let entries : c.as_slice-entries.result.now ≡ c.args.laid.now.lists.objects.items = search rules in
    summed_of (a.files c.args.save.now) c.as_slice-entries.result.now o.0.source o.1 o.0.objects at c.laws_of_merged_saves.ensures.made c.args.keys
    c.args.laid.now s.objects
    (left_of c.sum.new.self.source at.file) c.in-Ok-finish.text.items entries (s.read at.file has_b) (c.in-Ok-pass_rest.ensures.passed at.file has_d)
    (c.in-Ok-finish.ensures c.args.keys s.objects
    (of_keys c.new-sums.result.blocks c.sum.new.sums.blocks c.args.keys c.in-Ok-sum.ensures.keys c.new-sums.ensures.keys) s.summed)

pub returns-in-Err-sum-clause-frame : goal.returns-in-Err-sum-clause-frame
returns-in-Err-sum-clause-frame g c =
    often_fails IsDeviceFault (g.S.Store.state c.args.store.now) (g.S.Store.state c.open.new.store) (g.S.Store.state c.sum.new.store)
    c.in-Ok.opened c.in-Err-sum.fault c.in-Ok.ensures.frame c.in-Err-sum.ensures.frame

pub returns-in-Err-pass_rest-clause-frame : goal.returns-in-Err-pass_rest-clause-frame
returns-in-Err-pass_rest-clause-frame g c =
    let a = g.S.Store.state c.args.store.now in
    let b = g.S.Store.state c.open.new.store in
    let d = g.S.Store.state c.sum.new.store in
    let e = g.S.Store.state c.pass_rest.new.store in
    often_fails {T = Unit {0}} IsDeviceFault a d e tt c.in-Err-pass_rest.fault
    (often_then {V = Unit {0}} IsDeviceFault a b d c.in-Ok.opened tt tt c.in-Ok.ensures.frame c.in-Ok-sum.ensures.frame)
    c.in-Err-pass_rest.ensures.frame

pub returns-in-Ok-finish-clause-frame : goal.returns-in-Ok-finish-clause-frame
returns-in-Ok-finish-clause-frame g c =
    let a = g.S.Store.state c.args.store.now in
    let b = g.S.Store.state c.open.new.store in
    let d = g.S.Store.state c.sum.new.store in
    let e = g.S.Store.state c.pass_rest.new.store in
    often_then IsDeviceFault a d e tt tt c.in-Ok-finish.text
    (often_then {V = Unit {0}} IsDeviceFault a b d c.in-Ok.opened tt tt c.in-Ok.ensures.frame c.in-Ok-sum.ensures.frame)
    c.in-Ok-pass_rest.ensures.frame

pub returns-clause-frame : goal.returns-clause-frame
returns-clause-frame g c =
    let a = g.S.Store.state c.args.store.now in
    let b = g.S.Store.state c.open.new.store in
    let d = g.S.Store.state c.sum.new.store in
    let e = g.S.Store.state c.pass_rest.new.store in
    often_lacks {T = Unit {0}} a e tt (often_then IsDeviceFault a d e tt tt tt
    (often_then {V = Unit {0}} IsDeviceFault a b d c.in-Ok.opened tt tt c.in-Ok.ensures.frame c.in-Ok-sum.ensures.frame)
    c.in-Ok-pass_rest.ensures.frame)
