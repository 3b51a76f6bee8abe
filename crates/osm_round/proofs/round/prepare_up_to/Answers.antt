use Rattle.std.proofs.Common.{◌≡◌, ◌+◌, ◌-◌, ◌*◌, ap, arith, length}
use Rattle.std.specs.Prelude.{min}
use Rattle.osm_save.specs.declared.head.Head.{Head}
use Rattle.osm_store.specs.Frames.{IsKnown, MakesAtMost}
use Rattle.osm_store.proofs.FrameLemmas.{at_most_both, fewer_more, most_more}
use Rattle.osm_runs.specs.Runs.{IsDeviceFault}
use Rattle.osm_runs.specs.Following.{last_number}
use Rattle.osm_runs.proofs.ResultLemmas.{same_err, same_result}
use Rattle.osm_round.proofs.OverLemmas.{never_faulty, taken_time, way_is}
use Rattle.osm_round.specs.Rounds.{room_of}
use Rattle.osm_round.specs.Taking.{StopsOnTheWay, TakesUp}
use Rattle.osm_round.specs.declared.round.Ending.TheVariants as endings
use Rattle.osm_round.specs.declared.taken.End.TheVariants.{Faulty, Full, Reached}
use Rattle.osm_round.proofs.FrameLemmas.{ok_four, ok_three, ok_two, only_memory}
use Rattle.osm_round.proofs.GatherLemmas.{taken_holds}
use Rattle.osm_round.specs.Gathering.{GathersIn}
use Rattle.osm_round.specs.News.{came_to}
use Rattle.osm_round.specs.declared.taken.Taken.{Taken}
use Rattle.osm_round.proofs.RoundLemmas.{prepared_before, prepared_by, prepared_part, some_room, taking_prepare}
use Rattle.osm_round.proofs.round.prepare_up_to.Goals as goal

-- there is room for some
pub take_numbers-requires-clause-some : goal.take_numbers-requires-clause-some
take_numbers-requires-clause-some g c = rw c.room_of-room.ensures (some_room c.args.options.now.layout)

pub returns-in_err-take_numbers-clause-stops : goal.returns-in_err-take_numbers-clause-stops
returns-in_err-take_numbers-clause-stops g c =
    let known = IsKnown (g.S.Store.state c.args.store.now) in
    let files = (g.S.Store.state c.args.store.now).files in
    let last_is : c.last_number-last.result ≡ last_number c.args.options.now.limit c.args.start.number c.args.top.sequence =
    rw (c.sequence-2.ensures.sequence) at c.last_number-last.ensures in
    let stops : StopsOnTheWay known files c.args.dir.now c.args.options.now.filter c.last_number-last.result c.args.start c.in_err-take_numbers.field-0.0 =
    rw (c.after-taken.ensures.head) at c.in_err-take_numbers.ensures.stops in
    same_err _ c.from_residual.result _ c.from_residual.ensures.1
    (taking_prepare known c.args.options.now c.args.dir.now files c.args.start c.args.top c.requires.top
    c.sequence.ensures.limits.sequence c.last_number-last.result last_is c.take_numbers.new.taken _ stops)

pub returns-in-Reached-clause-prepared : goal.returns-in-Reached-clause-prepared
returns-in-Reached-clause-prepared g c =
    let known = IsKnown (g.S.Store.state c.args.store.now) in
    let files = (g.S.Store.state c.args.store.now).files in
    let last_is : c.last_number-last.result ≡ last_number c.args.options.now.limit c.args.start.number c.args.top.sequence =
    rw (c.sequence-2.ensures.sequence) at c.last_number-last.ensures in
    let takes : TakesUp known files c.args.dir.now c.args.options.now.filter
    (record { last = c.last_number-last.result; room = room_of c.args.options.now.layout }) c.args.start c.args.gathered.now.left
    c.take_numbers.new.taken c.take_numbers.new.gathered Reached =
    rw (c.after-taken.ensures.head, c.room_of-room.ensures, c.in-Reached.is) at c.in_ok-take_numbers.ensures.taken in
    ok_three _ _ _ _ c.reached.result c.reached.ensures.taken c.reached.ensures.whole
    (rw (c.take_numbers.ensures.frame.known, c.take_numbers.ensures.frame.files)
    at c.reached.ensures.report)
    (λ p taken whole report. prepared_by known c.args.options.now c.args.dir.now files c.args.start c.args.top c.requires.top
    c.sequence.ensures.limits.sequence c.last_number-last.result last_is c.take_numbers.new.taken c.args.gathered.now.left c.take_numbers.new.gathered
    Reached endings.Whole p takes taken whole report)

pub returns-in-Full-clause-prepared : goal.returns-in-Full-clause-prepared
returns-in-Full-clause-prepared g c =
    let known = IsKnown (g.S.Store.state c.args.store.now) in
    let files = (g.S.Store.state c.args.store.now).files in
    let last_is : c.last_number-last.result ≡ last_number c.args.options.now.limit c.args.start.number c.args.top.sequence =
    rw (c.sequence-2.ensures.sequence) at c.last_number-last.ensures in
    let takes : TakesUp known files c.args.dir.now c.args.options.now.filter
    (record { last = c.last_number-last.result; room = room_of c.args.options.now.layout }) c.args.start c.args.gathered.now.left
    c.take_numbers.new.taken c.take_numbers.new.gathered Full =
    rw (c.after-taken.ensures.head, c.room_of-room.ensures, c.in-Full.is) at c.in_ok-take_numbers.ensures.taken in
    ok_two _ _ _ c.part.result c.part.ensures.taken c.part.ensures.part
    (λ p taken reports. prepared_part known c.args.options.now c.args.dir.now files c.args.start c.args.top c.requires.top
    c.sequence.ensures.limits.sequence c.last_number-last.result last_is c.take_numbers.new.taken c.args.gathered.now.left c.take_numbers.new.gathered p
    takes taken reports)

pub returns-in-Faulty-clause-prepared : goal.returns-in-Faulty-clause-prepared
returns-in-Faulty-clause-prepared g c =
    let known = IsKnown (g.S.Store.state c.args.store.now) in
    let files = (g.S.Store.state c.args.store.now).files in
    let last_is : c.last_number-last.result ≡ last_number c.args.options.now.limit c.args.start.number c.args.top.sequence =
    rw (c.sequence-2.ensures.sequence) at c.last_number-last.ensures in
    let takes : TakesUp known files c.args.dir.now c.args.options.now.filter
    (record { last = c.last_number-last.result; room = room_of c.args.options.now.layout }) c.args.start c.args.gathered.now.left
    c.take_numbers.new.taken c.take_numbers.new.gathered (Faulty c.in-Faulty.fault) =
    rw (c.after-taken.ensures.head, c.room_of-room.ensures, c.in-Faulty.is) at c.in_ok-take_numbers.ensures.taken in
    ok_four _ _ _ _ _ c.before-in-Faulty.result c.before-in-Faulty.ensures.taken c.before-in-Faulty.ensures.fault c.before-in-Faulty.ensures.some
    c.before-in-Faulty.ensures.report
    (λ p taken fault some report. prepared_before known c.args.options.now c.args.dir.now files c.args.start c.args.top c.requires.top
    c.sequence.ensures.limits.sequence c.last_number-last.result last_is c.take_numbers.new.taken c.args.gathered.now.left c.take_numbers.new.gathered
    c.in-Faulty.fault p takes taken fault some report)

pub returns-in_err-take_numbers-clause-calls : goal.returns-in_err-take_numbers-clause-calls
returns-in_err-take_numbers-clause-calls g c = λ yes p folder time.
    let a = g.S.Store.state c.args.store.now in
    let last_is : c.last_number-last.result ≡ last_number c.args.options.now.limit c.args.start.number c.args.top.sequence =
    rw (c.sequence-2.ensures.sequence) at c.last_number-last.ensures in
    let within = way_is p c.args.dir.now a.files c.args.top c.args.options.now.limit c.args.start.number c.last_number-last.result folder
    (c.requires.top yes) last_is in
    let lacks = rw (c.after-taken.ensures.head) at c.in_err-take_numbers.ensures.lacks in
    same_result (MakesAtMost IsDeviceFault (3 * (length p - c.args.start.number)) a (g.S.Store.state c.take_numbers.new.store))
    c.from_residual.result _ c.from_residual.ensures.1 (record {
      spent = tt;
      lacks = λ sure blame. fewer_more (3 * (c.last_number-last.result - c.args.start.number)) (3 * (length p - c.args.start.number)) a.left
          (omega (arith, within)) (lacks sure blame);
    })

pub returns-in-Reached-clause-calls : goal.returns-in-Reached-clause-calls
returns-in-Reached-clause-calls g c = λ yes p folder time.
    let a = g.S.Store.state c.args.store.now in
    let last_is : c.last_number-last.result ≡ last_number c.args.options.now.limit c.args.start.number c.args.top.sequence =
    rw (c.sequence-2.ensures.sequence) at c.last_number-last.ensures in
    let within = way_is p c.args.dir.now a.files c.args.top c.args.options.now.limit c.args.start.number c.last_number-last.result folder
    (c.requires.top yes) last_is in
    let taken = c.in_ok-take_numbers.ensures.taken in
    let head = ap (λ (h : Head). h.number) c.after-taken.ensures.head in
    let number = taken.taken_are.is.number in
    let until = taken.until in
    let spent = (rw (c.after-taken.ensures.head, c.in-Reached.is) at c.in_ok-take_numbers.ensures.spent) tt in
    at_most_both IsDeviceFault (3 * (min c.last_number-last.result (c.take_numbers.new.taken.head.number + 1) - c.args.start.number))
    (3 * (c.last_number-last.result - (c.take_numbers.new.taken.head.number + 1))) (3 * (length p - c.args.start.number)) a
    (g.S.Store.state c.take_numbers.new.store) (g.S.Store.state c.reached.new.store) Reached c.reached.result (omega (arith, within, head, number, until))
    c.take_numbers.ensures.frame.known (record { spent = spent; lacks = tt }) c.reached.ensures.frame.at_most

pub returns-in-Full-clause-calls : goal.returns-in-Full-clause-calls
returns-in-Full-clause-calls g c = λ yes p folder time.
    let a = g.S.Store.state c.args.store.now in
    let last_is : c.last_number-last.result ≡ last_number c.args.options.now.limit c.args.start.number c.args.top.sequence =
    rw (c.sequence-2.ensures.sequence) at c.last_number-last.ensures in
    let within = way_is p c.args.dir.now a.files c.args.top c.args.options.now.limit c.args.start.number c.last_number-last.result folder
    (c.requires.top yes) last_is in
    let taken = c.in_ok-take_numbers.ensures.taken in
    let head = ap (λ (h : Head). h.number) c.after-taken.ensures.head in
    let number = taken.taken_are.is.number in
    let until = taken.until in
    let spent = (rw (c.after-taken.ensures.head, c.in-Full.is) at c.in_ok-take_numbers.ensures.spent) tt in
    only_memory IsDeviceFault (3 * (length p - c.args.start.number)) a (g.S.Store.state c.take_numbers.new.store) c.part.result
    (most_more (3 * (min c.last_number-last.result (c.take_numbers.new.taken.head.number + 1) - c.args.start.number)) (3 * (length p - c.args.start.number))
    _ _ (omega (arith, within, head, number, until)) spent) (λ never. never) c.part.ensures.memory

pub returns-in-Faulty-clause-calls : goal.returns-in-Faulty-clause-calls
returns-in-Faulty-clause-calls g c = λ yes p folder time.
    let a = g.S.Store.state c.args.store.now in
    let last_is : c.last_number-last.result ≡ last_number c.args.options.now.limit c.args.start.number c.args.top.sequence =
    rw (c.sequence-2.ensures.sequence) at c.last_number-last.ensures in
    let within = way_is p c.args.dir.now a.files c.args.top c.args.options.now.limit c.args.start.number c.last_number-last.result folder
    (c.requires.top yes) last_is in
    let takes : TakesUp (IsKnown a) a.files c.args.dir.now c.args.options.now.filter (record { last = c.last_number-last.result; room = c.room_of-room.result })
    c.args.start c.args.gathered.now.left c.take_numbers.new.taken c.take_numbers.new.gathered (Faulty c.in-Faulty.fault) =
    rw (c.after-taken.ensures.head, c.in-Faulty.is) at c.in_ok-take_numbers.ensures.taken in
    let below = takes.ends.0 in
    let head = c.take_numbers.new.taken.head in
    let at = taken_time p c.args.dir.now a.files c.args.options.now.filter c.args.start takes.taken_are.count
    (came_to c.args.options.now.filter c.take_numbers.new.taken) folder time (takes.taken_are.advances yes) (omega (arith, below, within)) in
    never_faulty c.laws_of_state.ensures.no_fault_beside_state p c.args.dir.now a.files (IsKnown a) head
    c.in-Faulty.fault (3 * (length p - c.args.start.number)) a (g.S.Store.state c.take_numbers.new.store) c.before-in-Faulty.result folder yes
    (omega (arith, below, within)) at takes.ends.2 takes.ends.1

pub returns-in-Reached-clause-gathered : goal.returns-in-Reached-clause-gathered
returns-in-Reached-clause-gathered g c =
    let a = g.S.Store.state c.args.store.now in
    taken_holds (λ (t : Taken). GathersIn (IsKnown a) a.files c.args.dir.now c.args.options.now.filter c.args.start c.args.gathered.now.left
    (came_to c.args.options.now.filter t) c.take_numbers.new.gathered) c.take_numbers.new.taken c.reached.result c.reached.ensures.taken
    (rw c.after-taken.ensures.head at c.in_ok-take_numbers.ensures.taken.gathers)

pub returns-in-Full-clause-gathered : goal.returns-in-Full-clause-gathered
returns-in-Full-clause-gathered g c =
    let a = g.S.Store.state c.args.store.now in
    taken_holds (λ (t : Taken). GathersIn (IsKnown a) a.files c.args.dir.now c.args.options.now.filter c.args.start c.args.gathered.now.left
    (came_to c.args.options.now.filter t) c.take_numbers.new.gathered) c.take_numbers.new.taken c.part.result c.part.ensures.taken
    (rw c.after-taken.ensures.head at c.in_ok-take_numbers.ensures.taken.gathers)

pub returns-in-Faulty-clause-gathered : goal.returns-in-Faulty-clause-gathered
returns-in-Faulty-clause-gathered g c =
    let a = g.S.Store.state c.args.store.now in
    taken_holds (λ (t : Taken). GathersIn (IsKnown a) a.files c.args.dir.now c.args.options.now.filter c.args.start c.args.gathered.now.left
    (came_to c.args.options.now.filter t) c.take_numbers.new.gathered) c.take_numbers.new.taken c.before-in-Faulty.result c.before-in-Faulty.ensures.taken
    (rw c.after-taken.ensures.head at c.in_ok-take_numbers.ensures.taken.gathers)
