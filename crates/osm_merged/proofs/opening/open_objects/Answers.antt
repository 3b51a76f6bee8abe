use Rattle.std.proofs.Common.{◌≡◌, ◌≤◌, List, ℕ, Option, length, ap, subst, sym, lit≤, arith, ◌∙◌}
use Rattle.std.specs.Prelude.{Ok}
use Rattle.std.proofs.lemmas.Option.{same_Some}
use Rattle.osm_blocks.specs.Calls.{reads_ahead}
use Rattle.osm_blocks.specs.Places.{left_of}
use Rattle.osm_merge.specs.Calls.{bytes_in, check_calls}
use Rattle.osm_merge.proofs.CallLemmas.{advances_of, advances_then, at_most}
use Rattle.osm_merge.proofs.CheckLemmas.{opening_stop}
use Rattle.osm_merge.proofs.FrameLemmas.{has_still}
use Rattle.osm_merged.proofs.OpeningLemmas.{begins_merged, begun_shorter, number_stops}
use Rattle.osm_merged.proofs.opening.open_objects.Goals as goal

pub returns-in-Err-clause-refused : goal.returns-in-Err-clause-refused
returns-in-Err-clause-refused g c = λ known.
    opening_stop ((g.S.Store.state c.args.store.now).files c.args.name.now) c.in-Err.fault (c.in-Err.ensures.refused known)

pub returns-in-Ok-numbered-clause-opened : goal.returns-in-Ok-numbered-clause-opened
returns-in-Ok-numbered-clause-opened g c = λ known.
    let a = g.S.Store.state c.args.store.now in
    let opened = c.in-Ok.ensures.opened known in
    rw c.new.ensures
    (begins_merged (a.files c.args.name.now) c.in-Ok.opened.0 c.in-Ok.opened.1 c.objects_limit-most.result opened c.objects_limit-most.ensures
    c.numbered.new.self c.args.entries.now c.in-Ok-numbered.many
    (c.in-Ok-numbered.ensures.read opened.file
    (has_still a (g.S.Store.state c.open_save.new.store) c.in-Ok.opened c.args.name.now opened.file c.in-Ok.ensures.frame
    (record { known = known; there = opened.there })) (lit≤ tt)))

pub returns-clause-refused : goal.returns-clause-refused
returns-clause-refused g c = λ known.
    let a = g.S.Store.state c.args.store.now in
    let opened = c.in-Ok.ensures.opened known in
    number_stops (a.files c.args.name.now) c.in-Ok.opened.0 c.in-Ok.opened.1 c.objects_limit-most.result opened c.objects_limit-most.ensures
    c.in-Err-numbered.fault
    (c.in-Err-numbered.ensures.read opened.file
    (has_still a (g.S.Store.state c.open_save.new.store) c.in-Ok.opened c.args.name.now opened.file c.in-Ok.ensures.frame
    (record { known = known; there = opened.there })) (lit≤ tt))

pub returns-in-Ok-numbered-clause-ahead : goal.returns-in-Ok-numbered-clause-ahead
returns-in-Ok-numbered-clause-ahead g c = λ file has.
    let a = g.S.Store.state c.args.store.now in
    let b = g.S.Store.state c.open_save.new.store in
    let ahead = c.in-Ok.ensures.ahead file has in
    advances_then (check_calls (length file)) (λ r. reads_ahead r.0 file) a b (g.S.Store.state c.numbered.new.store) c.in-Ok.opened
    c.in-Ok-numbered.many (c.numbered.new.self, c.in-Ok.opened.1, c.new.result)
    (advances_of 1 a b (Ok c.in-Ok.opened) has.known c.in-Ok.ensures.calls)
    (c.in-Ok-numbered.ensures.calls file (has_still a b c.in-Ok.opened c.args.name.now file c.in-Ok.ensures.frame has)) (omega (arith, ahead))

pub returns-in-Ok-numbered-clause-calls : goal.returns-in-Ok-numbered-clause-calls
returns-in-Ok-numbered-clause-calls g c = λ known.
    let a = g.S.Store.state c.args.store.now in
    let d = g.S.Store.state c.numbered.new.store in
    let opened = c.in-Ok.ensures.opened known in
    let same = ap (λ (o : Option (List ℕ)). check_calls (bytes_in o)) opened.there in
    at_most (check_calls (bytes_in (a.files c.args.name.now))) a d (Ok (c.numbered.new.self, c.in-Ok.opened.1, c.new.result))
    (returns-in-Ok-numbered-clause-ahead g c opened.file (record { known = known; there = opened.there })) (omega (arith, same))

pub returns-in-Ok-numbered-clause-shorter : goal.returns-in-Ok-numbered-clause-shorter
returns-in-Ok-numbered-clause-shorter g c = λ file has.
    let a = g.S.Store.state c.args.store.now in
    let opened = c.in-Ok.ensures.opened has.known in
    let same : opened.file ≡ file = same_Some opened.file file (sym opened.there ∙ has.there) in
    let less : length (left_of c.numbered.new.self file) ≤ length file =
    subst (λ (x : List ℕ). length (left_of c.numbered.new.self x) ≤ length x) same
    (begun_shorter (a.files c.args.name.now) c.in-Ok.opened.0 c.in-Ok.opened.1 c.objects_limit-most.result opened c.objects_limit-most.ensures
    c.numbered.new.self c.in-Ok-numbered.many
    (c.in-Ok-numbered.ensures.read opened.file
    (has_still a (g.S.Store.state c.open_save.new.store) c.in-Ok.opened c.args.name.now opened.file c.in-Ok.ensures.frame
    (record { known = has.known; there = opened.there })) (lit≤ tt))) in
    rw c.new.ensures (omega (arith, less))
