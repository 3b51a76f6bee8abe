-- What the word `begin` does over the files of published sequences.
use Rattle.std.proofs.Common.{ℕ, List}
use Rattle.std.specs.Prelude.{◌≡◌, Result, Ok, Err, IfOk, OnOk, false}
use Rattle.std.specs.Borrow.{Bor}
use Rattle.osm_store.specs.Files.{Files}
use Rattle.osm_kept.specs.Laws.{BadKeepsNothing}
use Rattle.osm_runs.specs.Reports.{ReportValue}
use Rattle.osm_runs.specs.declared.fault.RunFault.{RunFault}
use Rattle.osm_runs.specs.declared.options.FollowOptions.{FollowOptions}
use Rattle.osm_beginning.specs.Beginning.{IsTimely}
use Rattle.osm_beginning.specs.Keeping.{IsBegunBoth}
use Rattle.osm_beginning.proofs.BeginLemmas.{begun_over}
use Rattle.osm_repl.specs.Execution.{Does, DoesOver}
use Rattle.osm_round.specs.declared.kept.Sizes.{Sizes}
use Rattle.osm_words.specs.declared.orders.Order.TheVariants.{Begin}

pub begin_does : BadKeepsNothing → (known : Type 0) (options : FollowOptions) (base state save : Bor (List ℕ)) (old new : Files)
    (r : Result ReportValue RunFault)
    → IfOk r (λ report. known → IsBegunBoth options.filter base.now state.now save.now old new report)
    → IfOk r (λ report. known → DoesOver options (Begin base state save) old new report)
begin_does nothing known options base state save old new (Ok report) begun = λ sure. λ p number of.
    begun_over nothing options.filter p number base.now state.now save.now old new report of (begun sure)
begin_does nothing known options base state save old new (Err fault) begun = tt

-- and over any, if the state is compared
pub begin_makes : (known : Type 0) (options : FollowOptions) (sizes : Sizes) (base state save : Bor (List ℕ)) (old new : Files)
    (r : Result ReportValue RunFault)
    → IfOk r (λ report. known → IsBegunBoth options.filter base.now state.now save.now old new report)
    → OnOk r (known → options.any_time ≡ false → IsTimely base.now state.now old)
    → IfOk r (λ report. known → Does options sizes (Begin base state save) old new report)
begin_makes known options sizes base state save old new (Ok report) begun timely = λ sure. (begun sure, timely sure)
begin_makes known options sizes base state save old new (Err fault) begun timely = tt
