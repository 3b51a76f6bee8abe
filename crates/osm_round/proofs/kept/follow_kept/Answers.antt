use Rattle.std.proofs.Common.{◌+◌, ◌-◌, ◌*◌, Err, arith, length}
use Rattle.osm_store.specs.Frames.{IsKnown}
use Rattle.osm_store.proofs.FrameLemmas.{at_most_both, fewer_more}
use Rattle.osm_merge.specs.Calls.{bytes_in, merge_calls}
use Rattle.osm_runs.specs.Runs.{IsDeviceFault}
use Rattle.osm_runs.proofs.ResultLemmas.{ok_map}
use Rattle.osm_round.specs.KeepingOver.{kept_calls}
use Rattle.osm_round.proofs.FrameLemmas.{err_two}
use Rattle.osm_round.proofs.KeepingLemmas.{short_beside, small_none, stays_beside}
use Rattle.osm_round.proofs.OnwardLemmas.{over_kept}
use Rattle.osm_round.proofs.StoppingLemmas.{reading_first, reading_stops}
use Rattle.osm_round.proofs.TextLemmas.{stays_small}
use Rattle.osm_round.proofs.kept.follow_kept.Goals as goal

-- ---- the two files aren't read

pub returns-in-Err-clause-stops : goal.returns-in-Err-clause-stops
returns-in-Err-clause-stops g c =
    let a = g.S.Store.state c.args.store.now in
    record {
      stops = reading_stops (IsKnown a) c.args.options.now c.args.dir.now c.args.save.now a.files c.in-Err.fault c.in-Err.ensures.stops;
      first = λ yes small first. absurd (first (reading_first (IsKnown a) _ _ c.in-Err.fault c.in-Err.ensures.stops));
    }

pub returns-in-Err-clause-over : goal.returns-in-Err-clause-over
returns-in-Err-clause-over g c = λ yes p b n is s.
    let a = g.S.Store.state c.args.store.now in
    over_kept c.laws_of_state.ensures.no_fault_beside_state c.laws_of_kept.ensures.one_kept c.laws_of_kept.ensures.nothing c.args.options.now p b n
    c.args.dir.now c.args.save.now a (g.S.Store.state c.read_files.new.store) (Err c.in-Err.fault) yes is s tt
    (reading_stops (IsKnown a) c.args.options.now c.args.dir.now c.args.save.now a.files c.in-Err.fault c.in-Err.ensures.stops)
    (record {
      spent = tt;
      lacks = λ sure blame. fewer_more 3 (kept_calls p n (a.files c.args.save.now)) a.left (omega arith) (c.in-Err.ensures.frame.at_most.lacks sure blame);
    })

-- ---- it goes on from them

pub follow_from-requires-clause-ends : goal.follow_from-requires-clause-ends
follow_from-requires-clause-ends g c = rw (c.in-Ok.ensures.frame.makes.known, c.in-Ok.ensures.frame.files) c.in-Ok.ensures.ends

pub returns-clause-follows : goal.returns-clause-follows
returns-clause-follows g c =
    let old = (g.S.Store.state c.args.store.now).files in
    let new = (g.S.Store.state c.follow_from.new.store).files in
    let sizes = c.args.sizes.now in
    let dir = c.args.dir.now in
    let save = c.args.save.now in
    let most = c.in-Ok.read.1 in
    let follows = rw (c.in-Ok.ensures.frame.makes.known, c.in-Ok.ensures.frame.files) at c.follow_from.ensures.follows in
    ok_map _ _ c.follow_from.result follows (λ progress f yes. record {
      goes_on = (f yes).done;
      room = (f yes).room;
      whole = λ small. (f yes).whole (small_none sizes (old save) most (c.in-Ok.ensures.most yes) small);
      stays = stays_beside sizes c.args.options.now.filter dir save old new most (c.in-Ok.ensures.most yes) (f yes).stays;
      alone = (f yes).alone;
      batches = (f yes).batches;
      short = short_beside sizes save old new most (c.in-Ok.ensures.most yes) (f yes).short;
      journal = stays_small sizes dir save old new most (c.in-Ok.ensures.most yes) (f yes).short (f yes).batches;
    })

pub returns-clause-stops : goal.returns-clause-stops
returns-clause-stops g c =
    let told = (g.S.Store.state c.args.store.now).files c.args.save.now in
    let stops = rw (c.in-Ok.ensures.frame.makes.known, c.in-Ok.ensures.frame.files) at c.follow_from.ensures.stops in
    let first = rw (c.in-Ok.ensures.frame.makes.known, c.in-Ok.ensures.frame.files) at c.follow_from.ensures.first in
    err_two _ _ _ c.follow_from.result stops first (λ fault why before. record {
      stops = why;
      first = λ yes small plain. before yes (small_none c.args.sizes.now told c.in-Ok.read.1 (c.in-Ok.ensures.most yes) small) plain;
    })

pub returns-clause-over : goal.returns-clause-over
returns-clause-over g c = λ yes p b n is s.
    let a = g.S.Store.state c.args.store.now in
    let d = g.S.Store.state c.follow_from.new.store in
    let told = a.files c.args.save.now in
    let frame = c.in-Ok.ensures.frame in
    let follows = rw (c.in-Ok.ensures.frame.makes.known, c.in-Ok.ensures.frame.files) at c.follow_from.ensures.follows in
    let stops = rw (c.in-Ok.ensures.frame.makes.known, c.in-Ok.ensures.frame.files) at c.follow_from.ensures.stops in
    let calls = rw (c.in-Ok.ensures.frame.makes.known, c.in-Ok.ensures.frame.files) at c.follow_from.ensures.calls in
    over_kept c.laws_of_state.ensures.no_fault_beside_state c.laws_of_kept.ensures.one_kept c.laws_of_kept.ensures.nothing c.args.options.now p b n
    c.args.dir.now c.args.save.now a d c.follow_from.result yes is s (ok_map _ _ c.follow_from.result follows (λ progress f yes. (f yes).done)) stops
    (at_most_both IsDeviceFault 3 (1 + 3 * (length p - n) + merge_calls (bytes_in told)) (kept_calls p n told) a
    (g.S.Store.state c.read_files.new.store) d c.in-Ok.read c.follow_from.result (omega arith) frame.makes.known frame.at_most (calls yes p b n is s))
