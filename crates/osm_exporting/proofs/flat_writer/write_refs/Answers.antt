use Rattle.std.proofs.Common.{◌≡◌, ◌++◌, rules}
use Rattle.osm_o5c.specs.Written.{difference_text}
use Rattle.osm_exporting.proofs.FlatLemmas.{refs_done, refs_left, refs_more, refs_unread}
use Rattle.osm_exporting.proofs.flat_writer.write_refs.Goals as goal

pub loop-rest-init : goal.loop-rest-init
loop-rest-init c = λ ids h. refs_left c.args.out.now.items c.args.counters.now ids c.args.refs.now c.some_items-rest.result c.some_items-rest.ensures h

pub returns : goal.returns
returns c = λ ids h.
    refs_done c.args.out.now.items c.loop-rest.out.items c.args.counters.now c.loop-rest.counters ids
    (rw c.in_default.is at (c.loop-rest.invariant ids h))

pub loop-rest-preserved : goal.loop-rest-preserved
loop-rest-preserved c = λ ids h.
    let first = rw c.in-Some-first_ref.is at c.first_ref.ensures.first in
    let text : c.write_reference.new.out.items ≡ c.loop-rest.out.items
    ++ difference_text c.loop-rest.counters.way_node c.in-Some-first_ref.id = search rules in
    let counters : c.write_reference.new.counters ≡ record c.loop-rest.counters { way_node = c.in-Some-first_ref.id } = search rules in
    refs_more c.args.out.now.items c.loop-rest.out.items c.write_reference.new.out.items c.args.counters.now c.loop-rest.counters
    c.write_reference.new.counters ids c.in-Some.items c.in-Some-first_ref.id c.in-Some-first_ref.more
    (rw c.in-Some.is at (c.loop-rest.invariant ids h)) first text counters

pub returns-in_default-first_ref : goal.returns-in_default-first_ref
returns-in_default-first_ref c = λ ids h.
    let none = rw c.in_default-first_ref.is at c.first_ref.ensures.first in
    refs_unread c.args.out.now.items c.loop-rest.out.items c.args.counters.now c.loop-rest.counters ids c.in-Some.items
    (rw c.in-Some.is at (c.loop-rest.invariant ids h)) none
