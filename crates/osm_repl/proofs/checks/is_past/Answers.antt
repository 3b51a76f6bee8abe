use Rattle.std.proofs.Common.{ℕ, List, rules, subst, sym}
use Rattle.osm_model.specs.Time.{TimeText}
use Rattle.osm_repl.proofs.CheckLemmas.{past_by}
use Rattle.osm_repl.proofs.checks.is_past.Goals as goal

pub returns-in-Some : goal.returns-in-Some
returns-in-Some c =
    let is : TimeText c.args.now.now c.in-Some.time = search rules in
    past_by c.is_far.result c.args.now.now c.args.clock c.in-Some.time c.time_read.result c.in-Some.is is
    (λ t text. c.time_read.ensures.complete t (subst (λ (b : List ℕ). TimeText b t) (sym c.as_bytes.ensures.value) text)) c.is_far.ensures
