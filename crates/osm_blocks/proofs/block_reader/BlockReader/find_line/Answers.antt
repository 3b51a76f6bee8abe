use Rattle.std.proofs.Common.{◌≡◌, ◌+◌, ◌≤◌, List, ℕ, None, refl, sym, ap, subst, ◌∙◌, arith}
use Rattle.osm_reading.specs.Pieces.{cut_at}
use Rattle.osm_blocks.specs.Calls.{reads_ahead}
use Rattle.osm_blocks.specs.Frames.{IsDeviceFault}
use Rattle.osm_blocks.specs.Places.{IsLong, IsLonger}
use Rattle.osm_blocks.proofs.CallLemmas.{down_lacks, down_of, down_then}
use Rattle.osm_blocks.proofs.FindLemmas.{has_still}
use Rattle.osm_blocks.proofs.OftenLemmas.{often_then}
use Rattle.osm_blocks.proofs.PlaceLemmas.{lacks_still, left_line, left_long}
use Rattle.osm_blocks.proofs.block_reader.BlockReader.find_line.Goals as goal

pub returns-in-Some-clause-found : goal.returns-in-Some-clause-found
returns-in-Some-clause-found g c = λ file has.
    ap (cut_at 10) (sym (c.blocks-2.invariant.same file has)) ∙ left_line c.blocks-2.self file c.in-Some.count c.in-Some.ensures.found

pub returns-then-searched-gt-MAX_LINE-clause-found : goal.returns-then-searched-gt-MAX_LINE-clause-found
returns-then-searched-gt-MAX_LINE-clause-found g c = λ file has.
    let uncut : cut_at 10 c.blocks-2.self.unread ≡ None = c.in_default.ensures.lacks refl in
    subst (λ (l : List ℕ). IsLong l) (c.blocks-2.invariant.same file has)
    (left_long c.blocks-2.self file uncut (rw c.unread-searched.ensures at c.if-searched-gt-MAX_LINE.true))

pub blocks-2-smaller : goal.blocks-2-smaller
blocks-2-smaller g c =
    let grown : IsLonger c.blocks-2.self c.read_more.new.self = rw c.if-not-is_more.false at c.in-Ok.ensures.grown in
    omega (arith, grown.from, grown.some, grown.fits)

pub blocks-2-preserved : goal.blocks-2-preserved
blocks-2-preserved g c =
    let grown : IsLonger c.blocks-2.self c.read_more.new.self = rw c.if-not-is_more.false at c.in-Ok.ensures.grown in
    let uncut : cut_at 10 c.blocks-2.self.unread ≡ None = c.in_default.ensures.lacks refl in
    record {
      frame = often_then IsDeviceFault (g.S.Store.state c.args.store.now) (g.S.Store.state c.blocks-2.store)
          (g.S.Store.state c.read_more.new.store) tt c.in-Ok.is_more tt
          c.blocks-2.invariant.frame c.in-Ok.ensures.frame;
      stage = c.in-Ok.ensures.stage ∙ c.blocks-2.invariant.stage;
      same = λ file has.
          let known = has_still (g.S.Store.state c.args.store.now) (g.S.Store.state c.blocks-2.store) tt c.args.name.now file c.blocks-2.invariant.frame has in
          (rw c.if-not-is_more.false at (c.in-Ok.ensures.more file known)).0 ∙ c.blocks-2.invariant.same file has;
      lacks = rw (c.unread-searched.ensures, grown.unread) (lacks_still c.blocks-2.self.unread grown.more uncut);
      calls = λ file has.
          let known = has_still (g.S.Store.state c.args.store.now) (g.S.Store.state c.blocks-2.store) tt c.args.name.now file c.blocks-2.invariant.frame has in
          let before = reads_ahead c.args.self.now file in
          let now = reads_ahead c.blocks-2.self file in
          let new = reads_ahead c.read_more.new.self file in
          let fewer : new + 1 ≤ now = c.in-Ok.ensures.fewer file known c.if-not-is_more.false in
          down_then before now 1 0 before new (g.S.Store.state c.args.store.now).left (g.S.Store.state c.blocks-2.store).left
          (g.S.Store.state c.read_more.new.store).left
          (omega (arith, fewer)) (c.blocks-2.invariant.calls file has)
          (down_of 1 (g.S.Store.state c.blocks-2.store).left (g.S.Store.state c.read_more.new.store).left c.in-Ok.ensures.calls.spent);
    }

pub returns-in-Err-clause-calls : goal.returns-in-Err-clause-calls
returns-in-Err-clause-calls g c = λ file has.
    let known = has_still (g.S.Store.state c.args.store.now) (g.S.Store.state c.blocks-2.store) tt c.args.name.now file c.blocks-2.invariant.frame has in
    let before = reads_ahead c.args.self.now file in
    record {
      spent = tt;
      lacks = λ blame. down_lacks before (reads_ahead c.blocks-2.self file) 1 before (g.S.Store.state c.args.store.now).left
          (g.S.Store.state c.blocks-2.store).left
          (omega arith) (c.blocks-2.invariant.calls file has) (c.in-Err.ensures.calls.lacks known.known blame);
    }

pub returns-then-not-is_more-clause-calls : goal.returns-then-not-is_more-clause-calls
returns-then-not-is_more-clause-calls g c = λ file has.
    let before = reads_ahead c.args.self.now file in
    record {
      spent = down_then before (reads_ahead c.blocks-2.self file) 1 0 before 0
          (g.S.Store.state c.args.store.now).left (g.S.Store.state c.blocks-2.store).left (g.S.Store.state c.read_more.new.store).left
          (omega arith) (c.blocks-2.invariant.calls file has)
          (down_of 1 (g.S.Store.state c.blocks-2.store).left (g.S.Store.state c.read_more.new.store).left c.in-Ok.ensures.calls.spent);
      lacks = tt;
    }
