use Rattle.std.proofs.Common.{◌≡◌, ◌+◌, ◌-◌, ◌≤◌, ℕ, length, take, refl, ap, arith}
use Rattle.std.proofs.lemmas.Bool.Decides.{nat_tests}
use Rattle.osm_printing.proofs.CopyLemmas.{block_fails, copies_more, ends_badly, ends_well, piece_fails, place_fails}
use Rattle.osm_printing.proofs.copy.copy_lists.Goals as goal

pub returns-in-Err-clause-stops : goal.returns-in-Err-clause-stops
returns-in-Err-clause-stops g c =
    block_fails (g.S.Store.state c.args.store.now) (g.S.Store.state c.blocks-2.store) c.args.save.now c.args.place c.blocks-2.from
    (g.W.Write.contents c.args.writer.now) (g.W.Write.contents c.blocks-2.writer) c.in-Err.fault c.blocks-2.invariant c.in-Err.ensures.stops

pub returns-then-len-le-END-clause-copied : goal.returns-then-len-le-END-clause-copied
returns-then-len-le-END-clause-copied g c =
    let few : length c.in-Ok.block.items ≤ 4 = grind (arith, nat_tests) in
    ends_well (g.S.Store.state c.args.store.now) (g.S.Store.state c.blocks-2.store) c.args.save.now c.args.place c.blocks-2.from
    (g.W.Write.contents c.args.writer.now) (g.W.Write.contents c.blocks-2.writer) c.in-Ok.block.items c.as_slice.result.now c.check_end.result
    c.blocks-2.invariant c.in-Ok.ensures.read few c.check_end.ensures.is_end

pub returns-then-len-le-END-clause-stops : goal.returns-then-len-le-END-clause-stops
returns-then-len-le-END-clause-stops g c =
    let few : length c.in-Ok.block.items ≤ 4 = grind (arith, nat_tests) in
    ends_badly (g.S.Store.state c.args.store.now) (g.S.Store.state c.blocks-2.store) c.args.save.now c.args.place c.blocks-2.from
    (g.W.Write.contents c.args.writer.now) (g.W.Write.contents c.blocks-2.writer) c.in-Ok.block.items c.as_slice.result.now c.check_end.result
    c.blocks-2.invariant c.in-Ok.ensures.read few c.as_slice.ensures.value c.check_end.ensures.other

pub returns-in-Err-write_text-clause-stops : goal.returns-in-Err-write_text-clause-stops
returns-in-Err-write_text-clause-stops g c =
    let count : ℕ = c.len-count.result - 4 in
    let long : length c.in-Ok.block.items ≡ count + 4 = grind (arith, nat_tests) in
    piece_fails (g.S.Store.state c.args.store.now) (g.S.Store.state c.blocks-2.store) c.args.save.now c.args.place c.blocks-2.from count
    (g.W.Write.contents c.args.writer.now) (g.W.Write.contents c.blocks-2.writer) (g.W.Write.contents c.write_text.new.writer) c.in-Ok.block.items
    (take count c.deref.result.now) c.in-Err-write_text.fault c.blocks-2.invariant c.in-Ok.ensures.read long (ap
    (take count) c.deref.ensures.value) c.in-Err-write_text.ensures.fault

pub returns-in_default-clause-stops : goal.returns-in_default-clause-stops
returns-in_default-clause-stops g c =
    let count : ℕ = c.len-count.result - 4 in
    let long : length c.in-Ok.block.items ≡ count + 4 = grind (arith, nat_tests) in
    place_fails (g.S.Store.state c.args.store.now) (g.S.Store.state c.blocks-2.store) c.args.save.now c.args.place c.blocks-2.from count
    (g.W.Write.contents c.args.writer.now) (g.W.Write.contents c.blocks-2.writer) (g.W.Write.contents c.write_text.new.writer) c.in-Ok.block.items
    (take count c.deref.result.now) c.blocks-2.invariant c.in-Ok.ensures.read long (ap (take count) c.deref.ensures.value) c.in-Ok-write_text.ensures.written
    (c.in_default.ensures.huge refl)

pub blocks-2-preserved : goal.blocks-2-preserved
blocks-2-preserved g c =
    let count : ℕ = c.len-count.result - 4 in
    let long : length c.in-Ok.block.items ≡ count + 4 = grind (arith, nat_tests) in
    copies_more (g.S.Store.state c.args.store.now) (g.S.Store.state c.blocks-2.store) (g.S.Store.state c.read_block.new.store) c.args.save.now c.args.place
    c.blocks-2.from count c.in-Some.after (g.W.Write.contents c.args.writer.now) (g.W.Write.contents c.blocks-2.writer)
    (g.W.Write.contents c.write_text.new.writer) c.in-Ok.block.items (take count c.deref.result.now) c.in-Ok.block c.blocks-2.invariant
    c.in-Ok.ensures.frame c.in-Ok.ensures.read long (ap (take count) c.deref.ensures.value) c.in-Ok-write_text.ensures.written c.in-Some.ensures.after
