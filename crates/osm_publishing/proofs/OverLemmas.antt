-- What runs do over the folder of published sequences, a clause at a time.
use Rattle.std.proofs.Common.{ℕ, List}
use Rattle.std.specs.Prelude.{Result, Ok, Err, IfErr, IfOk, OnErr}
use Rattle.osm_publisher.specs.Published.{PublishedValue}
use Rattle.osm_store.specs.Files.{Files}
use Rattle.osm_runs.specs.Folder.{IsFolderOf}
use Rattle.osm_publishing.specs.Numbered.{IsAddedAs, NumberedStopsOver, PublishesAsOver}
use Rattle.osm_publishing.specs.Publication.{PublishStopsOver, IsAdded, PublishesOver}
use Rattle.osm_runs.specs.Reports.{ReportValue}
use Rattle.osm_runs.specs.declared.fault.RunFault.{RunFault}

-- ---- a publication

pub publish_adds : (known : Type 0) (dir changes now : List ℕ) (old new : Files) (r : Result ReportValue RunFault)
    → (known → (p : List PublishedValue) → IsFolderOf p old dir → PublishesOver p dir changes now old new r)
    → IfOk r (λ report. known → (p : List PublishedValue) → IsFolderOf p old dir → IsAdded p dir changes now old new report)
publish_adds known dir changes now old new (Ok report) over = λ sure p is. (over sure p is).added
publish_adds known dir changes now old new (Err fault) over = tt

pub publish_refuses : (known : Type 0) (dir changes now : List ℕ) (old new : Files) (r : Result ReportValue RunFault)
    → (known → (p : List PublishedValue) → IsFolderOf p old dir → PublishesOver p dir changes now old new r)
    → IfErr r (λ fault. known → (p : List PublishedValue) → IsFolderOf p old dir → PublishStopsOver p now fault)
publish_refuses known dir changes now old new (Ok report) over = tt
publish_refuses known dir changes now old new (Err fault) over = λ sure p is. (over sure p is).refuses

pub publish_keeps : (known : Type 0) (dir changes now : List ℕ) (old new : Files) (r : Result ReportValue RunFault)
    → (known → (p : List PublishedValue) → IsFolderOf p old dir → PublishesOver p dir changes now old new r)
    → OnErr r (known → (p : List PublishedValue) → IsFolderOf p old dir → IsFolderOf p new dir)
publish_keeps known dir changes now old new (Ok report) over = tt
publish_keeps known dir changes now old new (Err fault) over = λ sure p is. (over sure p is).keeps

-- ---- a publication by number

pub number_adds : (known : Type 0) (dir changes now sequence : List ℕ) (old new : Files) (r : Result ReportValue RunFault)
    → (known → (p : List PublishedValue) → IsFolderOf p old dir → PublishesAsOver p dir changes now sequence old new r)
    → IfOk r (λ report. known → (p : List PublishedValue) → IsFolderOf p old dir
    → IsAddedAs p dir changes now sequence old new report)
number_adds known dir changes now sequence old new (Ok report) over = λ sure p is. (over sure p is).added
number_adds known dir changes now sequence old new (Err fault) over = tt

pub number_refuses : (known : Type 0) (dir changes now sequence : List ℕ) (old new : Files) (r : Result ReportValue RunFault)
    → (known → (p : List PublishedValue) → IsFolderOf p old dir → PublishesAsOver p dir changes now sequence old new r)
    → IfErr r (λ fault. known → (p : List PublishedValue) → IsFolderOf p old dir
    → NumberedStopsOver p dir changes now sequence old fault)
number_refuses known dir changes now sequence old new (Ok report) over = tt
number_refuses known dir changes now sequence old new (Err fault) over = λ sure p is. (over sure p is).refuses

pub number_keeps : (known : Type 0) (dir changes now sequence : List ℕ) (old new : Files) (r : Result ReportValue RunFault)
    → (known → (p : List PublishedValue) → IsFolderOf p old dir → PublishesAsOver p dir changes now sequence old new r)
    → OnErr r (known → (p : List PublishedValue) → IsFolderOf p old dir → IsFolderOf p new dir)
number_keeps known dir changes now sequence old new (Ok report) over = tt
number_keeps known dir changes now sequence old new (Err fault) over = λ sure p is. (over sure p is).keeps
