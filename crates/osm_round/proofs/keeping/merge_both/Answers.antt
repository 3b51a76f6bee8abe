use Rattle.std.proofs.Common.{◌≤◌, arith, subst, sym}
use Rattle.osm_model.specs.Limits.{max_sequence}
use Rattle.osm_save.specs.declared.head.Head.{Head}
use Rattle.osm_store.specs.Frames.{IsKnown}
use Rattle.osm_round.specs.News.{came_to}
use Rattle.osm_round.proofs.PutLemmas.{few_taken}
use Rattle.osm_runs.proofs.ResultLemmas.{err_map, on_ok_map}
use Rattle.osm_round.proofs.BothLemmas.{BesideLaws, join_stops, merge_stops, puts_merged, was_kept}
use Rattle.osm_round.proofs.keeping.merge_both.Goals as goal

pub returns-in-Err-clause-stops : goal.returns-in-Err-clause-stops
returns-in-Err-clause-stops g c =
    let a = g.S.Store.state c.args.store.now in
    join_stops (IsKnown a) _ _ _ c.args.reach c.args.file c.in-Err.fault c.requires.ends.found c.in-Err.ensures.stops

pub returns-clause-puts : goal.returns-clause-puts
returns-clause-puts g c =
    let a = g.S.Store.state c.args.store.now in
    let number = c.requires.taken.2.number in
    let law = c.laws_of_kept.ensures in
    let laws : BesideLaws = record {
      one_kept = law.one_kept;
      saved = law.saved;
      stays = law.stays;
      merged_older = law.merged_older;
      older = law.older;
      no_bytes = law.no_bytes;
    } in
    let f = c.args.filter.now in
    let save = c.args.save.now in
    let new = (g.S.Store.state c.merge.new.store).files in
    let laid = c.laws_of_nets.ensures.laid_after in
    let joined = c.in-Ok.ensures.joined in
    on_ok_map c.merge.result c.merge.ensures.merged (λ merged yes. (
      puts_merged law.named f save a.files laid c.args.reach c.args.file (came_to f c.args.taken) (record { head = c.args.taken.head; net = c.in-Ok.net })
          (c.requires.ends.found yes) c.requires.under joined laws new c.requires.ends.reach c.in-Ok.ensures.limits
          (subst (λ (h : Head). h.number ≤ max_sequence) (sym joined.head) c.requires.number) (omega (arith, number)) (merged yes),
      was_kept law.named f save a.files laid c.args.reach c.args.file (came_to f c.args.taken) (record { head = c.args.taken.head; net = c.in-Ok.net })
          (c.requires.ends.found yes) c.requires.under joined new (merged yes),
    ))

pub returns-clause-stops : goal.returns-clause-stops
returns-clause-stops g c =
    let a = g.S.Store.state c.args.store.now in
    err_map _ _ c.merge.result c.merge.ensures.stops (λ fault h.
    merge_stops c.laws_of_kept.ensures.named c.args.filter.now c.args.save.now a.files (IsKnown a) c.laws_of_nets.ensures.laid_after c.args.reach c.args.file
    (came_to c.args.filter.now c.args.taken) (record { head = c.args.taken.head; net = c.in-Ok.net }) c.requires.ends.found c.requires.under
    c.in-Ok.ensures.joined fault h)

pub merge-requires : goal.merge-requires
merge-requires g c =
    few_taken c.args.filter.now c.args.reach.start.head c.in-Ok.ensures.joined.count (record { head = c.args.taken.head; net = c.in-Ok.net })
    c.in-Ok.ensures.joined.is
    (subst (λ (h : Head). h.number ≤ max_sequence) (sym c.in-Ok.ensures.joined.head) c.requires.number)
