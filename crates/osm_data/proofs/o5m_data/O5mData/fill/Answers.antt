use Rattle.std.proofs.Common.{◌≡◌, ◌+◌, ◌≤◌, ◌∙◌, ℕ, refl, arith}
use Rattle.osm_blocks.specs.Calls.{reads_ahead}
use Rattle.osm_blocks.specs.Frames as blocks
use Rattle.osm_blocks.specs.Places.{IsLonger}
use Rattle.osm_blocks.proofs.CallLemmas.{down_lacks, down_of, down_then}
use Rattle.osm_blocks.proofs.OftenLemmas.{often_then}
use Rattle.osm_data.specs.Reading.{IsDeviceFault}
use Rattle.osm_data.specs.declared.o5m_data.O5mData.{O5mData}
use Rattle.osm_data.specs.Steps.O5mObjects.{calls_of}
use Rattle.osm_data.proofs.FileLemmas.{blamed, has_still, often_ok}
use Rattle.osm_data.proofs.O5mObjectsLemmas.{ahead_more, keeps_both, keeps_more}
use Rattle.osm_data.proofs.o5m_data.O5mData.fill.Goals as goal

pub returns-in-Err-clause-calls : goal.returns-in-Err-clause-calls
returns-in-Err-clause-calls g c = λ file has.
    let known = has_still (g.S.Store.state c.args.store.now) (g.S.Store.state c.blocks-2.store) tt c.args.name.now file c.blocks-2.invariant.frame has in
    let before = calls_of c.args.self.now file in
    let now : calls_of c.blocks-2.self file ≡ reads_ahead c.blocks-2.self.reader file = rw c.if-self.false refl in
    record {
      spent = tt;
      lacks = λ blame. down_lacks before (calls_of c.blocks-2.self file) 1 before (g.S.Store.state c.args.store.now).left
          (g.S.Store.state c.blocks-2.store).left
          (omega (arith, now)) (c.blocks-2.invariant.calls file has)
          (c.in-Err.ensures.calls.lacks known.known (blamed c.in-Err.fault c.fault_of_blocks.result c.fault_of_blocks.ensures blame));
    }

pub returns-then-not-is_more-clause-calls : goal.returns-then-not-is_more-clause-calls
returns-then-not-is_more-clause-calls g c = λ file has.
    let before = calls_of c.args.self.now file in
    let now : calls_of c.blocks-2.self file ≡ reads_ahead c.blocks-2.self.reader file = rw c.if-self.false refl in
    record {
      spent = down_then before (calls_of c.blocks-2.self file) 1 0 before 0
          (g.S.Store.state c.args.store.now).left (g.S.Store.state c.blocks-2.store).left (g.S.Store.state c.read_more.new.store).left
          (omega (arith, now)) (c.blocks-2.invariant.calls file has)
          (down_of 1 (g.S.Store.state c.blocks-2.store).left (g.S.Store.state c.read_more.new.store).left c.in-Ok.ensures.calls.spent);
      lacks = tt;
    }

pub blocks-2-preserved : goal.blocks-2-preserved
blocks-2-preserved g c =
    let grown : IsLonger c.blocks-2.self.reader c.read_more.new.self = rw c.if-not-is_more.false at c.in-Ok.ensures.grown in
    let new : O5mData = record { reader = c.read_more.new.self; is_ended = c.blocks-2.self.is_ended; held = c.blocks-2.self.held } in
    let inv = c.blocks-2.invariant in
    record {
      frame = often_then IsDeviceFault (g.S.Store.state c.args.store.now) (g.S.Store.state c.blocks-2.store)
          (g.S.Store.state c.read_more.new.store) tt c.in-Ok.is_more tt inv.frame
          (often_ok blocks.IsDeviceFault IsDeviceFault (g.S.Store.state c.blocks-2.store) (g.S.Store.state c.read_more.new.store)
          c.in-Ok.is_more c.in-Ok.is_more c.in-Ok.ensures.frame);
      stage = c.in-Ok.ensures.stage ∙ inv.stage;
      held = inv.held;
      ended = inv.ended;
      ahead = ahead_more c.blocks-2.self.reader c.read_more.new.self grown ∙ inv.ahead;
      keeps = λ file has.
          let known = has_still (g.S.Store.state c.args.store.now) (g.S.Store.state c.blocks-2.store) tt c.args.name.now file inv.frame has in
          let more = rw c.if-not-is_more.false at (c.in-Ok.ensures.more file known) in
          keeps_both file c.args.self.now c.blocks-2.self new (inv.keeps file has)
          (keeps_more file c.blocks-2.self new refl c.if-self.false more.0 more.1);
      calls = λ file has.
          let known = has_still (g.S.Store.state c.args.store.now) (g.S.Store.state c.blocks-2.store) tt c.args.name.now file inv.frame has in
          let before : ℕ = calls_of c.args.self.now file in
          let now : calls_of c.blocks-2.self file ≡ reads_ahead c.blocks-2.self.reader file = rw c.if-self.false refl in
          let then_ : calls_of new file ≡ reads_ahead c.read_more.new.self file = rw c.if-self.false refl in
          let fewer : reads_ahead c.read_more.new.self file + 1 ≤ reads_ahead c.blocks-2.self.reader file =
          c.in-Ok.ensures.fewer file known c.if-not-is_more.false in
          down_then before (calls_of c.blocks-2.self file) 1 0 before (calls_of new file) (g.S.Store.state c.args.store.now).left
          (g.S.Store.state c.blocks-2.store).left (g.S.Store.state c.read_more.new.store).left
          (omega (arith, fewer, now, then_)) (inv.calls file has)
          (down_of 1 (g.S.Store.state c.blocks-2.store).left (g.S.Store.state c.read_more.new.store).left c.in-Ok.ensures.calls.spent);
    }
