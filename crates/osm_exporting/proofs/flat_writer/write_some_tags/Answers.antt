use Rattle.std.proofs.Common.{List, ℕ, ap}
use Rattle.osm_exporting.proofs.FlatLemmas.{tags_done, tags_left, tags_more}
use Rattle.osm_exporting.proofs.flat_writer.write_some_tags.Goals as goal

pub loop-rest-init : goal.loop-rest-init
loop-rest-init c = λ ts h. tags_left c.args.out.now.items c.args.state.now ts c.args.tags.now c.some_items-rest.result c.some_items-rest.ensures h

pub loop-rest-preserved : goal.loop-rest-preserved
loop-rest-preserved c = λ ts h.
    tags_more c.args.out.now.items c.loop-rest.out.items c.write_pair.new.out.items c.args.state.now c.loop-rest.state
    (record c.loop-rest.state { strings = c.write_pair.new.strings }) ts c.in-Some.items c.first_tag.result.0.now c.first_tag.result.1.now
    c.first_tag.result.2 (rw c.in-Some.is at (c.loop-rest.invariant ts h)) c.first_tag.ensures.first c.in_ok-write_pair.ensures.text
    (ap (λ (s : List (List ℕ)). record c.loop-rest.state { strings = s }) c.in_ok-write_pair.ensures.strings_are)

pub returns : goal.returns
returns c = λ ts h.
    tags_done c.args.out.now.items c.loop-rest.out.items c.args.state.now c.loop-rest.state ts
    (rw c.in_default.is at (c.loop-rest.invariant ts h))
