-- A save that is shown.
use Rattle.std.proofs.Common.{◌≡◌, ℕ, List, Option, refl, ap, ◌∙◌}
use Rattle.osm_model.specs.Filter.{FilterValue}
use Rattle.osm_save.specs.declared.save.Saved.{Saved}
use Rattle.osm_publisher.specs.Published.{PublishedValue, time_at}
use Rattle.osm_runs.specs.Following.{IsSaveOf, IsSaved}
use Rattle.osm_runs.specs.Reports.{ReportValue}
use Rattle.osm_runs.proofs.InStepLemmas.{one_saved}
use Rattle.osm_printing.specs.Printing.{IsShown, IsShownOf, view_of_saved}

pub shown_of : (given : FilterValue) (ps : List PublishedValue) (base number : ℕ) (told : Option (List ℕ)) (report : ReportValue)
    → IsSaveOf ps given base number told → IsShown told report → IsShownOf ps given base number report
shown_of given ps base number told report saved shown =
    let here : IsSaved given told shown.saved = rw shown.there shown.spelled in
    let same : shown.saved ≡ saved.value = one_saved given told shown.saved saved.value here saved.saved in
    let step = saved.in_step in
    record {
      view = view_of_saved shown.saved;
      number_is = ap (λ (v : Saved). v.number) same ∙ saved.number_is;
      base_is = ap (λ (v : Saved). v.base) same ∙ saved.base_is;
      time = ap (λ (v : Saved). v.time) same ∙ (step.time ∙ ap (time_at ps) saved.number_is);
      mirror = rw (same, ← saved.number_is, ← saved.base_is) step.mirror;
      held = refl;
      report_is = shown.report_is;
    }
