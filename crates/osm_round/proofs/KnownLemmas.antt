-- What a run does that doesn't end before a faulty number: this doesn't say what is known.
use Rattle.std.proofs.Common.{◌≡◌, ℕ, List, subst}
use Rattle.osm_save.specs.declared.head.Head.{Head}
use Rattle.osm_save.specs.declared.save.Saved.{Saved}
use Rattle.osm_state.specs.State.{StateValue}
use Rattle.osm_store.specs.Files.{Files}
use Rattle.osm_runs.specs.Following.{last_number}
use Rattle.osm_runs.specs.Reports.{ReportValue}
use Rattle.osm_runs.specs.declared.options.FollowOptions.{FollowOptions}
use Rattle.osm_runs.specs.declared.progress.Progress.{Progress}
use Rattle.osm_runs.specs.declared.progress.Progress.TheVariants.{Before, Part, Whole}
use Rattle.osm_round.specs.Keeping.{GoesFrom, GoesOnKept, IsFollowed, ReportsFrom, head_in}
use Rattle.osm_round.specs.declared.kept.Sizes.{Sizes}
use Rattle.osm_round.specs.Rounds.{IsPrepared, IsReport, progress_of}
use Rattle.osm_round.specs.declared.round.Ending.{Ending}
use Rattle.osm_round.specs.declared.round.Ending.TheVariants as endings
use Rattle.osm_round.specs.declared.round.Prepared.{Prepared}

abbrev pub IsWithoutFault : Progress → Type 0
IsWithoutFault (Before report fault) = ⊥
IsWithoutFault progress = Unit {0}

module _ (known : Type 0) (sure : known) (options : FollowOptions) (dir save : List ℕ) (old new : Files) (progress : Progress)
    (right : IsWithoutFault progress) where
  report_surely : (start : Head) (top : StateValue) (last count : ℕ) (head : Head) (e : Ending) (r : ReportValue) → progress ≡ progress_of r e
      → IsReport known options.layout old dir start top last count head e r → IsReport (Unit {0}) options.layout old dir start top last count head e r
  report_surely start top last count head endings.Whole r is (missing, reached, named, gap, report) =
      (missing, λ t. reached sure, λ t. named sure, gap, report)
  report_surely start top last count head (endings.Part applied taken) r is (count_is, some, in_lines, below, enough, applied_is, report) =
      (count_is, some, in_lines, below, λ t. enough sure, applied_is, report)
  report_surely start top last count head (endings.Before fault) r is h = absurd (subst IsWithoutFault is right)

  prepared_surely : (start : Head) (p : Prepared) → progress ≡ progress_of p.report p.ending → IsPrepared known options dir old start p
      → IsPrepared (Unit {0}) options dir old start p
  prepared_surely start p is h = record {
    top = h.top;
    top_is = λ t. h.top_is sure;
    most = h.most;
    taken = record { count = h.taken.count; is = h.taken.is; advances = λ t. h.taken.advances sure };
    few = h.few;
    until = h.until;
    report = report_surely start h.top (last_number options.limit start.number h.top.sequence) h.taken.count p.taken.head p.ending p.report is h.report;
    room = λ t. h.room sure;
  }

  reports_surely : ReportsFrom known options dir save old progress → ReportsFrom (Unit {0}) options dir save old progress
  reports_surely h = record {
    ends = h.ends;
    reach = h.reach;
    found = h.found;
    under = h.under;
    prepared = h.prepared;
    is = prepared_surely (head_in h.ends.kept) h.prepared h.progress_is h.is;
    progress_is = h.progress_is;
  }

  goes_surely : (p : Progress) → IsWithoutFault p → (start : Saved) → GoesFrom known options dir save old new p start
      → GoesFrom (Unit {0}) options dir save old new p start
  goes_surely (Whole report) plain start h = h
  goes_surely (Part report applied count) plain start h = h
  goes_surely (Before report fault) plain start h = absurd plain

  goes_on_surely : GoesOnKept known options dir save old new progress → GoesOnKept (Unit {0}) options dir save old new progress
  goes_on_surely h = record {
    free_before = h.free_before;
    right_before = h.right_before;
    reports = reports_surely h.reports;
    from = λ start kept. goes_surely progress right start (h.from start kept);
    there = h.there;
    still = h.still;
    others = h.others;
    free = h.free;
  }

  pub followed_surely : (sizes : Sizes) → IsFollowed known options sizes dir save old new progress
      → IsFollowed (Unit {0}) options sizes dir save old new progress
  followed_surely sizes h = record {
    goes_on = goes_on_surely h.goes_on;
    room = h.room;
    whole = h.whole;
    stays = h.stays;
    alone = h.alone;
    batches = h.batches;
    short = h.short;
    journal = h.journal;
  }
