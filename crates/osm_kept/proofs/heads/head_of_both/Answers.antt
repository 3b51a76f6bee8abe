use Rattle.std.proofs.Common.{subst}
use Rattle.std.specs.Prelude.{IfSome}
use Rattle.osm_kept.specs.Finding.{IsStart}
use Rattle.osm_kept.specs.Steps.Starting.{TellsStart}
use Rattle.osm_kept.proofs.HeadLemmas.{beside_stop, finds_head, judge_stop, nothing_first}
use Rattle.osm_kept.proofs.heads.head_of_both.Goals as goal

pub returns-in-Ok-clause-found : goal.returns-in-Ok-clause-found
returns-in-Ok-clause-found c = λ told journal holds.
    let is : IsStart c.in-Some.start = subst (λ o. IfSome o IsStart) c.in-Some.is c.requires in
    finds_head told journal c.in-Some.start c.args.bytes.now c.in-Ok.head is
    (subst (λ o. TellsStart told o) c.in-Some.is holds.starts) holds.first c.in-Ok.ensures.comes

pub returns-in-Some-clause-refused : goal.returns-in-Some-clause-refused
returns-in-Some-clause-refused c = λ told journal holds.
    let is : IsStart c.in-Some.start = subst (λ o. IfSome o IsStart) c.in-Some.is c.requires in
    beside_stop told journal c.in-Some.start c.args.bytes.now c.in-Err.fault is
    (subst (λ o. TellsStart told o) c.in-Some.is holds.starts) holds.first c.in-Err.ensures.stops

pub returns-clause-refused : goal.returns-clause-refused
returns-clause-refused c = λ told journal holds.
    judge_stop told journal c.args.bytes.now c.in-Err-judge.fault
    (subst (λ o. TellsStart told o) c.in-None.is holds.starts) holds.first c.in-Err-judge.ensures.stops

pub returns-in-Ok-judge-clause-found : goal.returns-in-Ok-judge-clause-found
returns-in-Ok-judge-clause-found c = λ told journal holds. (
  subst (λ o. TellsStart told o) c.in-None.is holds.starts,
  nothing_first journal c.args.bytes.now holds.first c.in-Ok-judge.ensures.empty,
)
