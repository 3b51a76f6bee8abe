use Rattle.std.proofs.Common.{arith, ◌∙◌}
use Rattle.std.specs.Prelude.{Err, Ok}
use Rattle.osm_merge.proofs.FrameLemmas.{has_still}
use Rattle.osm_store.proofs.FrameLemmas.{at_most_both}
use Rattle.osm_asking.specs.Refusal.{IsFailed}
use Rattle.osm_asking.proofs.AtEndLemmas.{at_counts, left_from, search_on}
use Rattle.osm_asking.proofs.PlainLemmas.{calls_as, calls_off, plain_still, plain_text, unended}
use Rattle.osm_asking.proofs.at_end.find_counts.Goals as goal

pub returns-in-Ok-find_line-clause-found : goal.returns-in-Ok-find_line-clause-found
returns-in-Ok-find_line-clause-found g c = λ file saved has spells.
    let a = g.S.Store.state c.args.store.now in
    let b = g.S.Store.state c.open_lines.new.store in
    left_from c.at_place.result c.in-Ok-find_line.spot.place file c.at_place.ensures.unread c.at_place.ensures.from
    ∙ at_counts saved file c.in-Ok-find_line.spot
    (c.in-Ok-find_line.ensures.found file saved (has_still a b c.in-Ok.opened c.args.save.now file c.in-Ok.ensures.frame has)
    (c.in-Ok.ensures.opened file saved has spells).lines)

pub returns-in-Err-find_line-clause-stops : goal.returns-in-Err-find_line-clause-stops
returns-in-Err-find_line-clause-stops g c =
    let a = g.S.Store.state c.args.store.now in
    let b = g.S.Store.state c.open_lines.new.store in
    search_on a b c.args.save.now c.in-Ok.opened.place c.in-Err-find_line.fault
    (λ file has. has_still a b c.in-Ok.opened c.args.save.now file c.in-Ok.ensures.frame has)
    (λ file v has spells. (c.in-Ok.ensures.opened file v has spells).lines) c.in-Err-find_line.ensures.stops

pub returns-in-Ok-find_line-clause-calls : goal.returns-in-Ok-find_line-clause-calls
returns-in-Ok-find_line-clause-calls g c = λ file v plain.
    let a = g.S.Store.state c.args.store.now in
    let b = g.S.Store.state c.open_lines.new.store in
    let d = g.S.Store.state c.find_line.new.store in
    at_most_both IsFailed 1 57 58 a b d c.in-Ok.opened (Ok c.at_place.result) (omega arith) c.in-Ok.ensures.frame.known c.in-Ok.ensures.calls
    (calls_as 57 b d c.in-Ok-find_line.spot c.at_place.result
    (c.in-Ok-find_line.ensures.calls file v (plain_text b c.args.save.now c.in-Ok.opened.place file v
    (plain_still a b c.in-Ok.opened c.args.save.now file v c.in-Ok.ensures.frame plain) (c.in-Ok.ensures.opened file v plain.has plain.spells).lines)
    (unended file plain.few)))

pub returns-in-Err-find_line-clause-calls : goal.returns-in-Err-find_line-clause-calls
returns-in-Err-find_line-clause-calls g c = λ file v plain.
    let a = g.S.Store.state c.args.store.now in
    let b = g.S.Store.state c.open_lines.new.store in
    let d = g.S.Store.state c.find_line.new.store in
    at_most_both IsFailed 1 57 58 a b d c.in-Ok.opened (Err c.in-Err-find_line.fault) (omega arith) c.in-Ok.ensures.frame.known c.in-Ok.ensures.calls
    (calls_off 57 b d c.in-Err-find_line.fault
    (c.in-Err-find_line.ensures.calls file v (plain_text b c.args.save.now c.in-Ok.opened.place file v
    (plain_still a b c.in-Ok.opened c.args.save.now file v c.in-Ok.ensures.frame plain) (c.in-Ok.ensures.opened file v plain.has plain.spells).lines)
    (unended file plain.few)))
