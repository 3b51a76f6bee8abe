use Rattle.std.proofs.Common.{◌≡◌, ◌∙◌, ◌+◌, ◌-◌, ◌*◌, ◌≤◌, arith, length, refl, subst, sym}
use Rattle.osm_model.specs.Limits.{max_sequence}
use Rattle.osm_save.specs.declared.head.Head.{Head}
use Rattle.std.specs.Prelude.{Bool, IsTrue}
use Rattle.osm_store.specs.Frames.{IsKnown}
use Rattle.osm_store.proofs.FrameLemmas.{fewer_after, most_both}
use Rattle.osm_merge.specs.Calls.{bytes_in, merge_calls}
use Rattle.osm_kept.specs.Names.{journal_name_of}
use Rattle.osm_runs.specs.declared.fault.FileName.TheVariants.{Top}
use Rattle.osm_runs.specs.declared.fault.RunFault.TheVariants.{Absent, OtherFilter}
use Rattle.osm_round.specs.Gathering.{GathersIn, IsBegunUpTo}
use Rattle.osm_round.specs.Keeping.{head_in}
use Rattle.osm_round.specs.KeepingSteps.{HasManyKept, PutsKept, bound_of}
use Rattle.osm_round.specs.News.{came_to}
use Rattle.osm_round.specs.Rounds.{IsPrepared}
use Rattle.osm_round.proofs.KeepingLemmas.{are_at, bound_low, goes_on_kept, head_low, kept_within_room, prepared_low, saves_only_in}
use Rattle.osm_round.proofs.OnwardLemmas.{at_number, at_time}
use Rattle.osm_round.proofs.RoundLemmas.{less, reports}
use Rattle.osm_round.proofs.StoppingLemmas.{no_top_put, no_top_taken, other_stops, prepare_stops, put_stops, unpublished}
use Rattle.osm_round.proofs.TextLemmas.{journal_after_run, right_before}
use Rattle.osm_round.proofs.kept.go_on.Goals as goal

pub returns-in-Err-clause-stops : goal.returns-in-Err-clause-stops
returns-in-Err-clause-stops g c =
    let a = g.S.Store.state c.args.store.now in
    other_stops (IsKnown a) c.args.options.now c.args.dir.now c.args.save.now a.files c.args.ends c.in-Err.fault c.requires.ends c.in-Err.ensures.other

pub returns-in-Err-clause-top : goal.returns-in-Err-clause-top
returns-in-Err-clause-top g c = λ is. absurd (let bad : Absent Top ≡ OtherFilter = sym is ∙ c.in-Err.ensures.other.0 in cc)

pub prepare_with-requires-clause-number : goal.prepare_with-requires-clause-number
prepare_with-requires-clause-number g c =
    subst (λ (h : Head). h.number ≤ max_sequence) (sym c.in-Ok.ensures.head) (head_low c.args.ends.journal c.args.ends.kept c.requires.ends.reach)

pub prepare_with-requires-clause-left : goal.prepare_with-requires-clause-left
prepare_with-requires-clause-left g c = rw (c.up_to-gathered.ensures.most, c.unwrap_or.ensures) (bound_low c.args.most c.requires.most)

pub prepare_with-requires-clause-begun : goal.prepare_with-requires-clause-begun
prepare_with-requires-clause-begun g c =
    subst (λ n. IsBegunUpTo n c.up_to-gathered.result) (sym c.up_to-gathered.ensures.most) c.up_to-gathered.ensures.begun

pub returns-in-Err-prepare_with-clause-stops : goal.returns-in-Err-prepare_with-clause-stops
returns-in-Err-prepare_with-clause-stops g c =
    let a = g.S.Store.state c.args.store.now in
    prepare_stops (IsKnown a) c.args.options.now c.args.dir.now c.args.save.now a.files (head_in c.args.ends.kept)
    (are_at c.args.options.now.filter c.args.save.now a.files (IsKnown a) c.args.ends c.requires.ends c.in-Ok.ensures.under)
    c.in-Err-prepare_with.fault (rw c.in-Ok.ensures.head at c.in-Err-prepare_with.ensures.stops)

pub returns-in-Err-prepare_with-clause-top : goal.returns-in-Err-prepare_with-clause-top
returns-in-Err-prepare_with-clause-top g c = λ is.
    let a = g.S.Store.state c.args.store.now in
    absurd (no_top_taken (IsKnown a) c.args.options.now c.args.dir.now a.files c.in-Ok.head c.in-Err-prepare_with.fault
    c.in-Err-prepare_with.ensures.stops is)

pub returns-in-Ok-None-clause-top : goal.returns-in-Ok-None-clause-top
returns-in-Ok-None-clause-top g c = λ is. (rw c.in-Ok-None.field-0-is at c.in-Ok-None.ensures.few) refl

pub returns-in-Ok-None-clause-stops : goal.returns-in-Ok-None-clause-stops
returns-in-Ok-None-clause-stops g c =
    let a = g.S.Store.state c.args.store.now in
    unpublished (IsKnown a) c.args.options.now c.args.dir.now c.args.save.now a.files (head_in c.args.ends.kept)
    (are_at c.args.options.now.filter c.args.save.now a.files (IsKnown a) c.args.ends c.requires.ends c.in-Ok.ensures.under)
    ((rw c.in-Ok-None.field-0-is at c.in-Ok-None.ensures.none) refl)

pub put_kept-requires-clause-taken : goal.put_kept-requires-clause-taken
put_kept-requires-clause-taken g c =
    let is = rw (c.in-Ok-Some.field-0-is, c.in-Ok.ensures.head) at c.in-Ok-Some.ensures.prepared in
    (is.taken.count, is.taken.is)

pub put_kept-requires-clause-few : goal.put_kept-requires-clause-few
put_kept-requires-clause-few g c = (rw c.in-Ok-Some.field-0-is at c.in-Ok-Some.ensures.prepared).few

pub put_kept-requires-clause-number : goal.put_kept-requires-clause-number
put_kept-requires-clause-number g c =
    let a = g.S.Store.state c.args.store.now in
    prepared_low (IsKnown a) c.args.options.now c.args.dir.now a.files c.in-Ok.head c.in-Ok-Some.prepared
    (rw c.in-Ok-Some.field-0-is at c.in-Ok-Some.ensures.prepared)

pub put_kept-requires-clause-gathers : goal.put_kept-requires-clause-gathers
put_kept-requires-clause-gathers g c =
    (rw (c.in-Ok-Some.field-0-is, c.in-Ok.ensures.head, c.up_to-gathered.ensures.most, c.unwrap_or.ensures) at c.in-Ok-Some.ensures.gathered).gathers

pub put_kept-requires-clause-ends : goal.put_kept-requires-clause-ends
put_kept-requires-clause-ends g c = rw (c.in-Ok-Some.ensures.frame.known, c.in-Ok-Some.ensures.frame.files) c.requires.ends

pub returns-in-Ok-put_kept-clause-follows : goal.returns-in-Ok-put_kept-clause-follows
returns-in-Ok-put_kept-clause-follows g c = λ yes.
    let a = g.S.Store.state c.args.store.now in
    let new = (g.S.Store.state c.put_kept.new.store).files in
    let options = c.args.options.now in
    let dir = c.args.dir.now in
    let save = c.args.save.now in
    let head = head_in c.args.ends.kept in
    let prepared = c.in-Ok-Some.prepared in
    let gathered = c.prepare_with.new.gathered in
    let at = are_at options.filter save a.files (IsKnown a) c.args.ends c.requires.ends c.in-Ok.ensures.under yes in
    let is : IsPrepared (IsKnown a) options dir a.files head prepared =
    rw (c.in-Ok-Some.field-0-is, c.in-Ok.ensures.head) at c.in-Ok-Some.ensures.prepared in
    let gathers : GathersIn (IsKnown a) a.files dir options.filter head (bound_of c.args.most) (came_to options.filter prepared.taken) gathered =
    rw (c.in-Ok-Some.field-0-is, c.in-Ok.ensures.head, c.up_to-gathered.ensures.most, c.unwrap_or.ensures) at c.in-Ok-Some.ensures.gathered in
    let puts : PutsKept c.args.most options.filter save (came_to options.filter prepared.taken) gathered a.files new =
    (rw (c.in-Ok-Some.ensures.frame.known, c.in-Ok-Some.ensures.frame.files) at c.in-Ok-put_kept.ensures.puts) yes in
    let still : prepared.taken.head.number ≡ head.number → new ≡ a.files = rw c.in-Ok-Some.ensures.frame.files at c.in-Ok-put_kept.ensures.still in
    record {
      done = rw c.progress_of.ensures (goes_on_kept (IsKnown a) options dir save a.files new head at prepared yes is puts.kept
          c.laws_of_kept.ensures.one_kept (c.requires.ends.free yes)
          (right_before save a.files c.args.ends.journal (c.requires.ends.found yes).journal_is) (record {
            ends = c.args.ends;
            reach = c.requires.ends.reach;
            found = c.requires.ends.found yes;
            under = c.in-Ok.ensures.under;
            prepared = prepared;
            is = is;
            progress_is = refl;
          }) still puts.free);
      whole = puts.whole;
      alone = puts.alone;
      stays = saves_only_in (IsKnown a) options.filter dir save a.files new head (came_to options.filter prepared.taken) gathered c.args.most yes at gathers
          puts.kept puts.stays;
      short = puts.short;
      batches = journal_after_run (IsKnown a) dir save options.filter head (bound_of c.args.most) (came_to options.filter prepared.taken) gathered a.files new
          yes gathers puts.batches;
      room = kept_within_room (IsKnown a) options dir save a.files new head at prepared yes is puts.kept c.laws_of_kept.ensures.one_kept;
    }

pub returns-in-Ok-put_kept-clause-report : goal.returns-in-Ok-put_kept-clause-report
returns-in-Ok-put_kept-clause-report g c =
    let a = g.S.Store.state c.args.store.now in
    rw c.progress_of.ensures (reports (IsKnown a) c.args.options.now c.args.dir.now a.files c.in-Ok.head c.in-Ok-Some.prepared
    (rw c.in-Ok-Some.field-0-is at c.in-Ok-Some.ensures.prepared))

pub returns-in-Ok-put_kept-clause-less : goal.returns-in-Ok-put_kept-clause-less
returns-in-Ok-put_kept-clause-less g c =
    let a = g.S.Store.state c.args.store.now in
    rw c.progress_of.ensures (less (IsKnown a) c.args.options.now c.args.dir.now a.files c.in-Ok.head c.in-Ok-Some.prepared
    (rw c.in-Ok-Some.field-0-is at c.in-Ok-Some.ensures.prepared))

pub returns-in-Err-put_kept-clause-stops : goal.returns-in-Err-put_kept-clause-stops
returns-in-Err-put_kept-clause-stops g c =
    let a = g.S.Store.state c.args.store.now in
    let is : IsPrepared (IsKnown a) c.args.options.now c.args.dir.now a.files (head_in c.args.ends.kept) c.in-Ok-Some.prepared =
    rw (c.in-Ok-Some.field-0-is, c.in-Ok.ensures.head) at c.in-Ok-Some.ensures.prepared in
    put_stops (IsKnown a) c.args.options.now c.args.dir.now c.args.save.now a.files (head_in c.args.ends.kept)
    (are_at c.args.options.now.filter c.args.save.now a.files (IsKnown a) c.args.ends c.requires.ends c.in-Ok.ensures.under)
    c.in-Ok-Some.prepared c.in-Err-put_kept.fault is
    (rw (c.in-Ok-Some.ensures.frame.known, c.in-Ok-Some.ensures.frame.files) at c.in-Err-put_kept.ensures.stops)

pub returns-in-Err-put_kept-clause-top : goal.returns-in-Err-put_kept-clause-top
returns-in-Err-put_kept-clause-top g c = λ is.
    let b = g.S.Store.state c.prepare_with.new.store in
    let save = c.args.save.now in
    let filter = c.args.options.now.filter in
    absurd (no_top_put (IsKnown b) (b.files save) (b.files (journal_name_of save))
    (HasManyKept filter save (came_to filter c.in-Ok-Some.prepared.taken) b.files) c.in-Err-put_kept.fault c.in-Err-put_kept.ensures.stops is)

pub returns-in-Ok-put_kept-clause-calls : goal.returns-in-Ok-put_kept-clause-calls
returns-in-Ok-put_kept-clause-calls g c = λ yes p b n folder before.
    let a = g.S.Store.state c.args.store.now in
    let told = a.files c.args.save.now in
    let number = at_number c.laws_of_state.ensures.no_fault_beside_state c.laws_of_kept.ensures.one_kept c.args.options.now p b n c.args.dir.now
    c.args.save.now a.files folder before (head_in c.args.ends.kept)
    (are_at c.args.options.now.filter c.args.save.now a.files (IsKnown a) c.args.ends c.requires.ends c.in-Ok.ensures.under yes) in
    let time = at_time c.laws_of_state.ensures.no_fault_beside_state c.laws_of_kept.ensures.one_kept c.args.options.now p b n c.args.dir.now
    c.args.save.now a.files folder before (head_in c.args.ends.kept)
    (are_at c.args.options.now.filter c.args.save.now a.files (IsKnown a) c.args.ends c.requires.ends c.in-Ok.ensures.under yes) in
    let prepared = rw (c.in-Ok.ensures.head, number) at c.in-Ok-Some.ensures.calls in
    let put = rw (c.in-Ok-Some.ensures.frame.known, c.in-Ok-Some.ensures.frame.files) at c.in-Ok-put_kept.ensures.calls in
    let merge = merge_calls (bytes_in told) in
    record {
      spent = most_both (1 + 3 * (length p - n)) merge (1 + 3 * (length p - n) + merge) a.left
          (g.S.Store.state c.prepare_with.new.store).left (g.S.Store.state c.put_kept.new.store).left (omega arith) (prepared yes p folder time).spent
          (put yes).spent;
      lacks = tt;
    }

pub returns-in-Err-put_kept-clause-calls : goal.returns-in-Err-put_kept-clause-calls
returns-in-Err-put_kept-clause-calls g c = λ yes p b n folder before.
    let a = g.S.Store.state c.args.store.now in
    let told = a.files c.args.save.now in
    let number = at_number c.laws_of_state.ensures.no_fault_beside_state c.laws_of_kept.ensures.one_kept c.args.options.now p b n c.args.dir.now
    c.args.save.now a.files folder before (head_in c.args.ends.kept)
    (are_at c.args.options.now.filter c.args.save.now a.files (IsKnown a) c.args.ends c.requires.ends c.in-Ok.ensures.under yes) in
    let time = at_time c.laws_of_state.ensures.no_fault_beside_state c.laws_of_kept.ensures.one_kept c.args.options.now p b n c.args.dir.now
    c.args.save.now a.files folder before (head_in c.args.ends.kept)
    (are_at c.args.options.now.filter c.args.save.now a.files (IsKnown a) c.args.ends c.requires.ends c.in-Ok.ensures.under yes) in
    let prepared = rw (c.in-Ok.ensures.head, number) at c.in-Ok-Some.ensures.calls in
    let put = rw (c.in-Ok-Some.ensures.frame.known, c.in-Ok-Some.ensures.frame.files) at c.in-Err-put_kept.ensures.calls in
    let merge = merge_calls (bytes_in told) in
    record {
      spent = tt;
      lacks = λ sure blame. fewer_after (1 + 3 * (length p - n)) merge (1 + 3 * (length p - n) + merge) a.left
          (g.S.Store.state c.prepare_with.new.store).left (omega arith) (prepared yes p folder time).spent
          ((put yes).lacks (subst (λ (t : Bool). IsTrue t) (sym c.in-Ok-Some.ensures.frame.known) sure) blame);
    }
