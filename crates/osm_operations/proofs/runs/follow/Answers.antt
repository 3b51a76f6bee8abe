use Rattle.std.proofs.Common.{Some, ap, inl, refl}
use Rattle.osm_store.specs.Stores.{files_of, memory_state, stopping_state}
use Rattle.osm_operations.proofs.RunLemmas.{answer_over, follow_lacks, follow_step, kept_laws, known_leaves, progress_over_refuses}
use Rattle.osm_operations.proofs.runs.follow.Goals as goal
use Rattle.osm_operations.specs.Stepping.{FollowAnswer}
use Rattle.osm_runs.proofs.ResultLemmas.{same_result}

pub returns-in_err-copy-clause-answer : goal.returns-in_err-copy-clause-answer
returns-in_err-copy-clause-answer c =
    let s = c.args.setup.now in
    let f = files_of c.args.store.now in
    same_result (λ w. FollowAnswer c.args.filter.now s.dir.now s.save.now w f f) c.from_residual.result _ c.from_residual.ensures.1 (record {
      sizes = s.sizes;
      fits = c.requires.most;
      follows = tt;
      stops = record { stops = inl tt; first = λ known small plain. absurd (plain tt) };
      leaves = λ known. refl;
      laws = kept_laws c.laws_of_kept.ensures.one_kept c.laws_of_kept.ensures.nothing c.laws_of_kept.ensures.emptied c.laws_of_kept.ensures.no_bytes
          c.laws_of_kept.ensures.one_other;
    })

pub returns-in-None-clause-answer : goal.returns-in-None-clause-answer
returns-in-None-clause-answer c = record {
  sizes = c.args.setup.now.sizes;
  fits = c.requires.most;
  follows = rw (c.new-options.ensures, c.in_ok-copy.ensures.ok) at c.follow_kept.ensures.follows;
  stops = rw (c.new-options.ensures, c.in_ok-copy.ensures.ok) at c.follow_kept.ensures.stops;
  leaves = known_leaves _ _ c.follow_kept.result c.follow_kept.ensures.leaves;
  laws = kept_laws c.laws_of_kept.ensures.one_kept c.laws_of_kept.ensures.nothing c.laws_of_kept.ensures.emptied c.laws_of_kept.ensures.no_bytes
      c.laws_of_kept.ensures.one_other;
}

pub returns-in-None-clause-step : goal.returns-in-None-clause-step
returns-in-None-clause-step c =
    let s = c.args.setup.now in
    follow_step c.args.filter.now s.dir.now s.save.now (files_of c.args.store.now) (files_of c.args.store.now)
    (files_of c.follow_kept.new.store) c.follow_kept.result refl (returns-in-None-clause-answer c)
    (progress_over_refuses c.args.filter.now s.dir.now s.save.now (memory_state c.args.store.now) (memory_state c.follow_kept.new.store)
    c.follow_kept.result (rw (c.new-options.ensures, c.in_ok-copy.ensures.ok) at c.follow_kept.ensures.over))

pub returns-clause-answer : goal.returns-clause-answer
returns-clause-answer c =
    let s = c.args.setup.now in
    answer_over c.args.filter.now s.dir.now s.save.now (files_of c.args.store.now) (files_of c.stopping_over-stopping.result.inner)
    (files_of c.follow_kept-answer.new.store.inner) (files_of c.into_inner.result) c.follow_kept-answer.result
    c.stopping_over-stopping.ensures.inner (ap files_of c.into_inner.ensures) (record {
      sizes = s.sizes;
      fits = c.requires.most;
      follows = rw (c.new-options.ensures, c.in_ok-copy.ensures.ok) at c.follow_kept-answer.ensures.follows;
      stops = rw (c.new-options.ensures, c.in_ok-copy.ensures.ok) at c.follow_kept-answer.ensures.stops;
      leaves = known_leaves _ _ c.follow_kept-answer.result c.follow_kept-answer.ensures.leaves;
      laws = kept_laws c.laws_of_kept.ensures.one_kept c.laws_of_kept.ensures.nothing c.laws_of_kept.ensures.emptied c.laws_of_kept.ensures.no_bytes
          c.laws_of_kept.ensures.one_other;
    })

pub returns-clause-step : goal.returns-clause-step
returns-clause-step c =
    let s = c.args.setup.now in
    follow_step c.args.filter.now s.dir.now s.save.now (files_of c.args.store.now) (files_of c.stopping_over-stopping.result.inner)
    (files_of c.into_inner.result) c.follow_kept-answer.result c.stopping_over-stopping.ensures.inner (returns-clause-answer c)
    (progress_over_refuses c.args.filter.now s.dir.now s.save.now (stopping_state memory_state c.stopping_over-stopping.result)
    (stopping_state memory_state c.follow_kept-answer.new.store) c.follow_kept-answer.result
    (rw (c.new-options.ensures, c.in_ok-copy.ensures.ok) at c.follow_kept-answer.ensures.over))

pub returns-clause-lacks : goal.returns-clause-lacks
returns-clause-lacks c =
    let s = c.args.setup.now in
    rw c.in-Some.is (follow_lacks c.args.filter.now s.dir.now s.save.now c.in-Some.calls
    (stopping_state memory_state c.stopping_over-stopping.result) (stopping_state memory_state c.follow_kept-answer.new.store)
    (files_of c.args.store.now) c.follow_kept-answer.result refl (ap Some c.stopping_over-stopping.ensures.calls)
    c.stopping_over-stopping.ensures.inner (rw (c.new-options.ensures, c.in_ok-copy.ensures.ok) at c.follow_kept-answer.ensures.over))
