-- What the word `show` does, as its order asks for.
use Rattle.std.proofs.Common.{◌≡◌, ℕ, List, Option, inl, inr, ap, sym}
use Rattle.std.specs.Prelude.{Result, IfErr}
use Rattle.std.specs.Result.{IsErrAnd}
use Rattle.std.specs.Borrow.{Bor}
use Rattle.osm_store.specs.Files.{Files, HasFailed}
use Rattle.osm_store.specs.Frames.{IsKnown, StoreState}
use Rattle.osm_runs.specs.Reports.{ReportValue}
use Rattle.osm_runs.specs.Runs.{Blames}
use Rattle.osm_runs.specs.declared.fault.RunFault.{RunFault}
use Rattle.osm_runs.specs.declared.fault.RunFault.TheVariants.{ReadFault, WriteFault}
use Rattle.osm_runs.specs.declared.options.FollowOptions.{FollowOptions}
use Rattle.osm_printing.specs.Keeping.{IsKeptNotPrinted, IsKeptPrinted, IsShowOfKept, KeepingStops}
use Rattle.osm_printing.specs.Printing.{IsReadFault}
use Rattle.osm_round.specs.declared.kept.Sizes.{Sizes}
use Rattle.osm_runs.proofs.ResultLemmas.{same_err}
use Rattle.osm_repl.specs.Execution.{IsDone, IsNotDone, IsRun, IsRunFault, execution_of}
use Rattle.osm_repl.specs.declared.order_fault.OrderFault.{OrderFault}
use Rattle.osm_repl.specs.declared.order_fault.OrderFault.TheVariants.{Run}
use Rattle.osm_words.specs.declared.orders.Order.TheVariants.{Show}

is_run : (options : FollowOptions) (sizes : Sizes) (save : Bor (List ℕ)) (old new : StoreState) (report : ReportValue)
    → IsShowOfKept (IsKnown old) save.now old.files report → IsRun (execution_of options sizes (Show save) old new) report
is_run options sizes save old new report is = record {
  does = is.shown;
  over = is.in_step;
  report_is = is.form;
}

blames : (known : Type 0) (save : List ℕ) (files : Files) (failed fails : ℕ) (fault : RunFault) → KeepingStops known save files fault
    → (IsReadFault fault → HasFailed failed fails) → Blames failed fails fault
blames known save files failed fails (ReadFault file) stops h = h
blames known save files failed fails (WriteFault file) stops h = absurd stops
blames known save files failed fails fault stops h = λ bad. absurd bad

pub show_not_done : (options : FollowOptions) (sizes : Sizes) (save : Bor (List ℕ)) (old new : StoreState) (printed after : Option (List ℕ))
    (fault : RunFault) → IsKeptNotPrinted (IsKnown old) save.now old.files printed after fault → new.files ≡ old.files
    → (IsReadFault fault → HasFailed old.failures new.failures)
    → IsNotDone (execution_of options sizes (Show save) old new) printed after fault
show_not_done options sizes save old new printed after fault (inl refused) same h = inl (record {
  stopped = record {
    stops = refused.stops;
    over = λ sure. tt;
    leaves = same;
    device = blames (IsKnown old) save.now old.files old.failures new.failures fault refused.stops h;
  };
  told = refused.nothing;
})
show_not_done options sizes save old new printed after fault (inr cut) same h = inr (inr (inr (inr (inr (record {
  report = cut.report;
  run = is_run options sizes save old new cut.report cut.is;
  stops = cut.stops;
  leaves = same;
  device = h;
  count = cut.count;
  some = cut.some;
})))))

pub show_done : (options : FollowOptions) (sizes : Sizes) (save : Bor (List ℕ)) (old new : StoreState) (printed after : Option (List ℕ))
    → IsKeptPrinted (IsKnown old) save.now old.files printed after → IsDone (execution_of options sizes (Show save) old new) printed after 0
show_done options sizes save old new printed after shown = record {
  report = shown.report;
  run = is_run options sizes save old new shown.report shown.is;
  all = shown.all;
  status_is = sym (ap (λ (r : ReportValue). r.status) shown.is.form.report_is);
}

pub show_refused : {T : Type 0} (options : FollowOptions) (sizes : Sizes) (save : Bor (List ℕ)) (old new : StoreState)
    (printed after : Option (List ℕ)) (fault : RunFault) (r : Result T OrderFault) → IsErrAnd r (λ e. e ≡ Run fault)
    → IsKeptNotPrinted (IsKnown old) save.now old.files printed after fault → new.files ≡ old.files
    → (IsReadFault fault → HasFailed old.failures new.failures)
    → IfErr r (IsRunFault (IsNotDone (execution_of options sizes (Show save) old new) printed after))
show_refused options sizes save old new printed after fault r err not same h =
    same_err (IsRunFault (IsNotDone (execution_of options sizes (Show save) old new) printed after)) r (Run fault) err
    (show_not_done options sizes save old new printed after fault not same h)
