-- What the words `follow` and `lag` do, as their orders ask for.
use Rattle.std.proofs.Common.{ℕ, List}
use Rattle.std.specs.Prelude.{Result, Ok, Err, IfErr, IfOk}
use Rattle.std.specs.Borrow.{Bor}
use Rattle.osm_model.specs.Filter.{FilterValue}
use Rattle.osm_publisher.specs.Published.{PublishedValue}
use Rattle.osm_runs.specs.Folder.{IsFolderOf}
use Rattle.osm_runs.specs.Keeping.{IsKeptOf}
use Rattle.osm_store.specs.Frames.{IsKnown, StoreState}
use Rattle.osm_publishing.specs.Lagging.{LagsOver}
use Rattle.osm_runs.specs.Progress.{IsProgressReport}
use Rattle.osm_runs.specs.Progress as progress
use Rattle.osm_runs.specs.Reports.{ReportValue}
use Rattle.osm_runs.specs.declared.fault.RunFault.{RunFault}
use Rattle.osm_runs.specs.declared.options.FollowOptions.{FollowOptions}
use Rattle.osm_runs.specs.declared.progress.Progress.{Progress}
use Rattle.osm_runs.specs.declared.progress.Progress.TheVariants.{Whole, Part, Before}
use Rattle.osm_round.specs.Keeping.{IsFollowed}
use Rattle.osm_round.specs.KeepingOver.{GoesOnOver}
use Rattle.osm_round.specs.Rounds.{IsWhole}
use Rattle.osm_round.specs.declared.kept.Sizes.{Sizes}
use Rattle.osm_round.proofs.KnownLemmas.{followed_surely}
use Rattle.osm_repl.specs.Execution.{DoesOver, HasFollowed, StopsOver, execution_of}
use Rattle.osm_words.specs.declared.orders.Order.TheVariants.{Follow, Lag}

-- over the folder of a published list, from what is in step with it
abbrev GoesOver : FollowOptions → List ℕ → List ℕ → StoreState → StoreState → Result Progress RunFault → Type 0
GoesOver options dir save old new r = IsKnown old → (p : List PublishedValue) (b n : ℕ) → IsFolderOf p old.files dir
    → IsKeptOf p options.filter b n save old.files → progress.IsWhole options r (λ under. GoesOnOver p under b n dir save old new)

pub has_followed : (options : FollowOptions) (sizes : Sizes) (dir save : Bor (List ℕ)) (old new : StoreState) (r : Result Progress RunFault)
    → IfOk r (λ p. IsKnown old → IsFollowed (IsKnown old) options sizes dir.now save.now old.files new.files p) → IfOk r (IsProgressReport options.layout)
    → GoesOver options dir.now save.now old new r → IfOk r (HasFollowed (execution_of options sizes (Follow dir save) old new))
has_followed options sizes dir save old new (Ok (Whole report)) follows is over = record {
  does = λ sure. followed_surely (IsKnown old) sure options dir.now save.now old.files new.files (Whole report) tt sizes (follows sure);
  over = λ sure p b n folder kept. (over sure p b n folder kept).in_step;
  report_is = is;
}
has_followed options sizes dir save old new (Ok (Part report applied count)) follows is over = record {
  part = λ sure. followed_surely (IsKnown old) sure options dir.now save.now old.files new.files (Part report applied count) tt sizes (follows sure);
  over = λ sure p b n folder kept. (over sure p b n folder kept).in_step;
  form = is;
}
has_followed options sizes dir save old new (Ok (Before report fault)) follows is over = (follows, is)
has_followed options sizes dir save old new (Err fault) follows is over = tt

pub stops_over : (options : FollowOptions) (dir save : Bor (List ℕ)) (old new : StoreState) (r : Result Progress RunFault)
    → GoesOver options dir.now save.now old new r
    → IfErr r (λ fault. IsKnown old → StopsOver options (Follow dir save) old.files new.files fault)
stops_over options dir save old new (Ok progress) over = tt
stops_over options dir save old new (Err fault) over = λ sure p b n folder kept. (over sure p b n folder kept).refuses

pub lag_does : (options : FollowOptions) (dir save : Bor (List ℕ)) (old new : StoreState) (r : Result ReportValue RunFault)
    → (IsKnown old → (p : List PublishedValue) (own : FilterValue) (b n : ℕ) → IsFolderOf p old.files dir.now
    → IsKeptOf p own b n save.now old.files → LagsOver options.layout p b n save.now old.files r)
    → IfOk r (λ report. IsKnown old → DoesOver options (Lag dir save) old.files new.files report)
lag_does options dir save old new (Ok report) over = λ sure p own b n folder kept. (over sure p own b n folder kept).in_step
lag_does options dir save old new (Err fault) over = tt

pub lag_stops : (options : FollowOptions) (dir save : Bor (List ℕ)) (old new : StoreState) (r : Result ReportValue RunFault)
    → (IsKnown old → (p : List PublishedValue) (own : FilterValue) (b n : ℕ) → IsFolderOf p old.files dir.now
    → IsKeptOf p own b n save.now old.files → LagsOver options.layout p b n save.now old.files r)
    → IfErr r (λ fault. IsKnown old → StopsOver options (Lag dir save) old.files new.files fault)
lag_stops options dir save old new (Ok report) over = tt
lag_stops options dir save old new (Err fault) over = λ sure p own b n folder kept. (over sure p own b n folder kept).refuses
