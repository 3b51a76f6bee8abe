use Rattle.std.proofs.Common.{◌+◌, ◌-◌, List, ℕ, drop, length, take}
use Rattle.std.proofs.lemmas.List.{take_rest}
use Rattle.osm_reading.proofs.PieceLemmas.{found_cut, nowhere_cut}
use Rattle.osm_blocks.proofs.PlaceLemmas.{line_at, none_after}
use Rattle.osm_blocks.proofs.block_reader.BlockReader.find_after.Goals as goal

pub returns-in-Some-clause-found : goal.returns-in-Some-clause-found
returns-in-Some-clause-found c =
    let all : List ℕ = c.unread.result.now in
    let searched : List ℕ = take (length all - c.args.searched) (drop c.args.searched all) in
    let few = rw (take_rest all c.args.searched, c.unread.ensures) at c.in-Some.ensures.0.high in
    let cut = rw (take_rest all c.args.searched, c.unread.ensures) at (found_cut 10 searched c.in-Some.at c.in-Some.ensures.0 c.in-Some.ensures.1).first in
    line_at c.args.self.now c.args.searched c.in-Some.at (drop (c.in-Some.at + 1) (drop c.args.searched c.args.self.now.unread)) c.requires few cut

pub returns-in-None-clause-lacks : goal.returns-in-None-clause-lacks
returns-in-None-clause-lacks c = λ none.
    let all : List ℕ = c.unread.result.now in
    let searched : List ℕ = take (length all - c.args.searched) (drop c.args.searched all) in
    let cut = rw (take_rest all c.args.searched, c.unread.ensures) at (nowhere_cut 10 searched c.in-None.ensures) in
    none_after c.args.self.now.unread c.args.searched c.requires cut
