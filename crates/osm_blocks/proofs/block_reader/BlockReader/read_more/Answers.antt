use Rattle.std.proofs.Common.{◌≡◌, ◌+◌, ◌<◌, ℕ, Some, take, drop, length, subst, refl, ap, ◌∙◌, lit<, arith}
use Rattle.std.proofs.lemmas.Option.{same_Some}
use Rattle.std.proofs.lemmas.Bool.Decides.{nat_tests}
use Rattle.osm_store.specs.Files.{block_of}
use Rattle.osm_blocks.specs.Places.{Place, next_block}
use Rattle.osm_blocks.proofs.CallLemmas.{block_read}
use Rattle.osm_blocks.proofs.PlaceLemmas.{block_within, huge_file, left_more, no_length, nothing_left}
use Rattle.osm_blocks.proofs.block_reader.BlockReader.read_more.Goals as goal

pub returns-then-is_empty-clause-more : goal.returns-then-is_empty-clause-more
returns-then-is_empty-clause-more g c = λ file has.
    let read : block_of c.self.inside.from next_block (Some file) ≡ Some c.in-Some.block.items =
    rw (c.in-Some.is, has.there) at (c.in_ok-block.ensures.read has.known) in
    let taken : take next_block (drop c.self.inside.from file) ≡ c.in-Some.block.items =
    same_Some (take next_block (drop c.self.inside.from file)) c.in-Some.block.items read in
    let none : length c.in-Some.block.items ≡ 0 = grind (arith, nat_tests) in
    rw (← c.self.view_is) (nothing_left next_block (lit< tt) (drop c.self.inside.from file) (taken ∙ no_length c.in-Some.block.items none))

pub returns-in_default-after_block-clause-more : goal.returns-in_default-after_block-clause-more
returns-in_default-after_block-clause-more g c = λ file has.
    let read : block_of c.self.inside.from next_block (Some file) ≡ Some c.in-Some.block.items =
    rw (c.in-Some.is, has.there) at (c.in_ok-block.ensures.read has.known) in
    let taken : take next_block (drop c.self.inside.from file) ≡ c.in-Some.block.items =
    same_Some (take next_block (drop c.self.inside.from file)) c.in-Some.block.items read in
    let some : 0 < length c.in-Some.block.items = grind (arith, nat_tests) in
    let high : 18446744073709551615 < c.self.inside.from + length c.as_slice.result.now = c.in_default-after_block.ensures.huge refl in
    huge_file next_block file c.in-Some.block.items c.self.inside.from taken some (rw c.as_slice.ensures.value at high)

pub returns-clause-more : goal.returns-clause-more
returns-clause-more g c = λ file has.
    let read : block_of c.self.inside.from next_block (Some file) ≡ Some c.in-Some.block.items =
    rw (c.in-Some.is, has.there) at (c.in_ok-block.ensures.read has.known) in
    let taken : take next_block (drop c.self.inside.from file) ≡ c.in-Some.block.items =
    same_Some (take next_block (drop c.self.inside.from file)) c.in-Some.block.items read in
    let from : c.self.inside.from ≡ c.args.self.now.from = ap (λ (p : Place). p.from) c.self.view_is in
    let after : c.take_block.new.self.from ≡ c.args.self.now.from + length c.in-Some.block.items =
    c.in_ok-take_block.ensures.from ∙ (rw (c.as_slice.ensures.value, from) at c.in-Some-after_block.ensures.after) in
    let here : take next_block (drop c.args.self.now.from file) ≡ c.in-Some.block.items =
    subst (λ (n : ℕ). take next_block (drop n file) ≡ c.in-Some.block.items) from taken in
    let some : 0 < length c.in-Some.block.items = grind (arith, nat_tests) in (
      left_more c.args.self.now c.take_block.new.self file c.in-Some.block.items next_block c.in_ok-take_block.ensures.unread after here,
      rw after (block_within next_block file c.in-Some.block.items c.args.self.now.from here some),
    )

pub returns-clause-fewer : goal.returns-clause-fewer
returns-clause-fewer g c = λ file has yes.
    let read : block_of c.self.inside.from next_block (Some file) ≡ Some c.in-Some.block.items =
    rw (c.in-Some.is, has.there) at (c.in_ok-block.ensures.read has.known) in
    let taken : take next_block (drop c.self.inside.from file) ≡ c.in-Some.block.items =
    same_Some (take next_block (drop c.self.inside.from file)) c.in-Some.block.items read in
    let from : c.self.inside.from ≡ c.args.self.now.from = ap (λ (p : Place). p.from) c.self.view_is in
    let after : c.take_block.new.self.from ≡ c.args.self.now.from + length c.in-Some.block.items =
    c.in_ok-take_block.ensures.from ∙ (rw (c.as_slice.ensures.value, from) at c.in-Some-after_block.ensures.after) in
    let some : 0 < length c.in-Some.block.items = grind (arith, nat_tests) in
    let fewer = block_read file c.in-Some.block.items c.args.self.now.from
    (subst (λ (n : ℕ). take next_block (drop n file) ≡ c.in-Some.block.items) from taken) some in
    rw after (omega (arith, fewer))
