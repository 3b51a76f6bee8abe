use Rattle.std.proofs.Common.{◌≡◌, ◌∙◌, ◌+◌, ◌≤◌, ℕ, length, refl, arith}
use Rattle.osm_store.proofs.FileLemmas.{spends_both}
use Rattle.osm_blocks.specs.Calls.{reads_ahead}
use Rattle.osm_blocks.specs.Frames as blocks
use Rattle.osm_blocks.proofs.CallLemmas.{at_most_of, down_lacks, down_of, down_then}
use Rattle.osm_blocks.proofs.OftenLemmas.{often_then}
use Rattle.osm_data.specs.Reading.{IsDeviceFault, read_calls}
use Rattle.osm_data.proofs.CountLemmas.{calls_there, more_stops, passed_left}
use Rattle.osm_data.proofs.FileLemmas.{blamed, has_still, often_ok, opened_calls, opens_file}
use Rattle.osm_data.proofs.counting.count_objects.Goals as goal

pub blocks-2-init : goal.blocks-2-init
blocks-2-init g c =
    let begun = g.S.Store.state c.args.store.now in
    let state = g.S.Store.state c.open.new.store in
    let place = c.in-Ok-Some.reader in
    record {
      frame = often_ok blocks.IsDeviceFault IsDeviceFault begun state c.in-Ok-Some.field-0 tt c.in-Ok-Some.ensures.frame;
      stage = c.in-Ok-Some.ensures.stage;
      spends = c.in-Ok-Some.ensures.spends;
      there = λ known. (let o = rw c.in-Ok-Some.field-0-is at (c.in-Ok-Some.ensures.opened known) in
          (o.0, record { known = known; there = o.1 }));
      comes = λ file total has comes. (let o = opens_file (begun.files c.args.name.now) place file
          (rw c.in-Ok-Some.field-0-is at (c.in-Ok-Some.ensures.opened has.known)) has.there in
          rw o.1 comes);
      calls = λ file has. (let o = opens_file (begun.files c.args.name.now) place file
          (rw c.in-Ok-Some.field-0-is at (c.in-Ok-Some.ensures.opened has.known)) has.there in
          let few : reads_ahead place file + 1 ≤ read_calls (length file) = opened_calls place file o.0 o.1 in
          down_then 1 0 0 0 (read_calls (length file)) (reads_ahead place file) begun.left state.left state.left (omega (arith, few))
          (down_of 1 begun.left state.left c.in-Ok-Some.ensures.calls.spent) (Rattle.osm_blocks.proofs.CallLemmas.down_none 0 state.left));
    }

pub returns-in_default-clause-calls : goal.returns-in_default-clause-calls
returns-in_default-clause-calls g c = λ known.
    let at = c.blocks-2.invariant.there known in
    rw (calls_there _ at.0 at.1.there) (record {
      spent = at_most_of (read_calls (length at.0)) (reads_ahead c.blocks-2.reader at.0) (read_calls (length at.0)) (g.S.Store.state c.args.store.now).left
          (g.S.Store.state c.blocks-2.store).left (omega arith) (c.blocks-2.invariant.calls at.0 at.1);
      lacks = tt;
    })

pub returns-in-Err-read_more-clause-stops : goal.returns-in-Err-read_more-clause-stops
returns-in-Err-read_more-clause-stops g c =
    let begun = g.S.Store.state c.args.store.now in
    let state = g.S.Store.state c.blocks-2.store in
    rw c.fault_of_blocks-in-Err-read_more.ensures
    (more_stops begun c.args.name.now c.pass-in-blocks-2.new.self c.read_more.new.self c.in-Err-read_more.fault c.blocks-2.invariant.there
    (λ file has. c.in-Err-read_more.ensures.more file (has_still begun state tt c.args.name.now file c.blocks-2.invariant.frame has)))

pub returns-in-Err-read_more-clause-calls : goal.returns-in-Err-read_more-clause-calls
returns-in-Err-read_more-clause-calls g c = λ known.
    let begun = g.S.Store.state c.args.store.now in
    let state = g.S.Store.state c.blocks-2.store in
    let at = c.blocks-2.invariant.there known in
    let still = has_still begun state tt c.args.name.now at.0 c.blocks-2.invariant.frame at.1 in
    rw (calls_there _ at.0 at.1.there) (record {
      spent = tt;
      lacks = λ again blame. down_lacks (read_calls (length at.0)) (reads_ahead c.blocks-2.reader at.0) 1 (read_calls (length at.0)) begun.left state.left
          (omega arith) (c.blocks-2.invariant.calls at.0 at.1)
          (c.in-Err-read_more.ensures.calls.lacks still.known
          (blamed c.in-Err-read_more.fault c.fault_of_blocks-in-Err-read_more.result c.fault_of_blocks-in-Err-read_more.ensures blame));
    })

pub returns-then-not-is_more-clause-calls : goal.returns-then-not-is_more-clause-calls
returns-then-not-is_more-clause-calls g c = λ known.
    let begun = g.S.Store.state c.args.store.now in
    let state = g.S.Store.state c.blocks-2.store in
    let next = g.S.Store.state c.read_more.new.store in
    let at = c.blocks-2.invariant.there known in
    let all : ℕ = read_calls (length at.0) in
    let ahead : ℕ = reads_ahead c.blocks-2.reader at.0 in
    rw (calls_there _ at.0 at.1.there) (record {
      spent = at_most_of all 0 all begun.left next.left (omega arith)
          (down_then all ahead 1 0 all 0 begun.left state.left next.left (omega arith) (c.blocks-2.invariant.calls at.0 at.1)
          (down_of 1 state.left next.left c.in-Ok.ensures.calls.spent));
      lacks = tt;
    })

pub blocks-2-preserved : goal.blocks-2-preserved
blocks-2-preserved g c =
    let begun = g.S.Store.state c.args.store.now in
    let state = g.S.Store.state c.blocks-2.store in
    let next = g.S.Store.state c.read_more.new.store in
    let place = c.blocks-2.reader in
    let passed = c.pass-in-blocks-2.new.self in
    let new = c.read_more.new.self in
    let inv = c.blocks-2.invariant in
    let is = rw c.unread.ensures at c.in-Some.ensures.goes_on in
    record {
      frame = often_then IsDeviceFault begun state next tt c.in-Ok.is_more tt inv.frame
          (often_ok blocks.IsDeviceFault IsDeviceFault state next c.in-Ok.is_more c.in-Ok.is_more c.in-Ok.ensures.frame);
      stage = c.in-Ok.ensures.stage ∙ inv.stage;
      spends = spends_both 1 0 1 begun.left state.left next.left (omega arith) inv.spends c.in-Ok.ensures.frame.left;
      there = inv.there;
      comes = λ file total has comes.
          let still = has_still begun state tt c.args.name.now file inv.frame has in
          let more = rw c.if-not-is_more.false at (c.in-Ok.ensures.more file still) in
          rw (more.0, c.pass-in-blocks-2.ensures) (passed_left g.C.ObjectCounter.comes_to c.args.filter.now c.blocks-2.counter c.pass.new.self place
          c.in-Some.passed is file total (inv.comes file total has comes));
      calls = λ file has.
          let still = has_still begun state tt c.args.name.now file inv.frame has in
          let all : ℕ = read_calls (length file) in
          let ahead : ℕ = reads_ahead place file in
          let same : reads_ahead passed file ≡ ahead = rw c.pass-in-blocks-2.ensures refl in
          let fewer : reads_ahead new file + 1 ≤ reads_ahead passed file = c.in-Ok.ensures.fewer file still c.if-not-is_more.false in
          down_then all ahead 1 0 all (reads_ahead new file) begun.left state.left next.left (omega (arith, fewer, same)) (inv.calls file has)
          (down_of 1 state.left next.left c.in-Ok.ensures.calls.spent);
    }
