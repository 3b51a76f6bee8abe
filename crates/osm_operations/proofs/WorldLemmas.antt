-- What a step of a world is, from what its run answered.
use Rattle.std.proofs.Common.{◌≡◌, ℕ, List, Bool, true, Option, Some, None, inl, inr, refl, sym, ap, ◌∙◌, subst}
use Rattle.std.specs.Prelude.{Result, Ok, Err, IfErr, IfSome, OnOk}
use Rattle.osm_model.specs.Filter.{FilterValue}
use Rattle.osm_state.specs.declared.paths.Suffix.{Suffix}
use Rattle.osm_store.specs.Files.{Files}
use Rattle.osm_store.specs.Stores.{files_of}
use Rattle.osm_runs.specs.Reports.{ReportValue}
use Rattle.osm_runs.specs.Names.{file_name_of}
use Rattle.osm_runs.specs.declared.fault.RunFault.{RunFault}
use Rattle.osm_runs.specs.declared.fault.RunFault.TheVariants.{OtherJournal}
use Rattle.osm_runs.specs.declared.progress.Progress.{Progress}
use Rattle.osm_runs.specs.declared.progress.Progress.TheVariants.{Before, Part, Whole}
use Rattle.osm_operations.specs.Stepping.{ExportStep, ExportTo, HasExportCalls, IsNumberKept, KeepsOthers, LacksExportCalls, exported_reply}
use Rattle.osm_operations.specs.Killing.{HasCalls}
use Rattle.osm_operations.specs.Stepping.{BeginStep, BeginTo, BlamesIfKilled, FollowStep, FollowTo, HasBeginCalls, HasFollowCalls, HasSpoiledCalls}
use Rattle.osm_operations.specs.Stepping.{LacksCallsToBegin, LacksFollowCalls, LeavesFiles, SpoiledStep, begun_reply}
use Rattle.osm_operations.specs.Stepping.{IsNumber, OtherAnswer, OtherTo, SpoiledAnswer, SpoiledTo, progress_reply}
use Rattle.osm_operations.specs.declared.operation.Operation.TheVariants.{FollowSpoiled}
use Rattle.osm_operations.specs.declared.operation.Reply.{Reply}
use Rattle.osm_operations.specs.declared.operation.Reply.TheVariants.{Refused}
use Rattle.osm_operations.specs.declared.world.World.{World}
use Rattle.osm_operations.proofs.SpoiledStepLemmas.{mended_same}

by_answer : (given : FilterValue) (dir save : List ℕ) (n : ℕ) (s : Suffix) (w : Option (Result Progress RunFault)) (a b : World)
    → IsNumber true a.published n → SpoiledAnswer given dir save (file_name_of dir n s) w (files_of a.store) (files_of b.store)
    → b.lost ≡ a.lost → b.published ≡ a.published → SpoiledTo given dir save n s (progress_reply w) a b
by_answer given dir save n s None a b number answer lost published = (inr (number, answer.0), answer.1, lost, published)
by_answer given dir save n s (Some (Ok (Whole report))) a b number answer lost published =
    record { number = number; step = answer; lost = lost; published = published }
by_answer given dir save n s (Some (Ok (Part report applied count))) a b number answer lost published =
    (applied, record { number = number; step = answer; lost = lost; published = published })
by_answer given dir save n s (Some (Ok (Before report fault))) a b number answer lost published =
    record { number = number; step = answer; lost = lost; published = published }
by_answer given dir save n s (Some (Err fault)) a b number answer lost published =
    record { number = number; step = answer; lost = lost; published = published }

-- a run over a spoiled file of a published number
pub spoiled_to : (given : FilterValue) (dir save : List ℕ) (n : ℕ) (s : Suffix) (w : Option (Result Progress RunFault)) (a b : World) (t : Bool)
    → IsNumber t a.published n → t ≡ true → SpoiledAnswer given dir save (file_name_of dir n s) w (files_of a.store) (files_of b.store)
    → b.lost ≡ a.lost → b.published ≡ a.published → SpoiledTo given dir save n s (progress_reply w) a b
spoiled_to given dir save n s w a b t number is answer lost published =
    by_answer given dir save n s w a b (subst (λ (x : Bool). IsNumber x a.published n) is number) answer lost published

-- a run over the folder
pub follow_to : (given : FilterValue) (dir save : List ℕ) (w : Result Progress RunFault) (a b : World)
    → FollowStep given dir save w (files_of a.store) (files_of b.store) → b.lost ≡ a.lost → b.published ≡ a.published
    → FollowTo given dir save (progress_reply (Some w)) a b
follow_to given dir save (Ok (Whole report)) a b step lost published = (step, lost, published)
follow_to given dir save (Ok (Part report applied count)) a b step lost published = ((applied, step), lost, published)
follow_to given dir save (Ok (Before report fault)) a b step lost published = (step, lost, published)
follow_to given dir save (Err fault) a b step lost published = (step, lost, published)

-- its calls
pub follow_left : (given : FilterValue) (dir save : List ℕ) (calls : Option ℕ) (w : Result Progress RunFault) (f : Files) → OnOk w (HasCalls 4 calls)
    → IfErr w (LacksFollowCalls given dir save calls f) → HasFollowCalls given dir save calls (progress_reply (Some w)) f
follow_left given dir save calls (Ok (Whole report)) f enough lacks = enough
follow_left given dir save calls (Ok (Part report applied count)) f enough lacks = enough
follow_left given dir save calls (Ok (Before report fault)) f enough lacks = tt
follow_left given dir save calls (Err fault) f enough lacks = lacks

-- those of one over a spoiled file
pub spoiled_left : (calls : Option ℕ) (w : Option (Result Progress RunFault)) → IfSome w (λ x. OnOk x (HasCalls 4 calls))
    → IfSome w (λ x. IfErr x (BlamesIfKilled calls)) → HasSpoiledCalls calls (progress_reply w)
spoiled_left calls None enough lacks = tt
spoiled_left calls (Some (Ok (Whole report))) enough lacks = enough
spoiled_left calls (Some (Ok (Part report applied count))) enough lacks = enough
spoiled_left calls (Some (Ok (Before report fault))) enough lacks = enough
spoiled_left calls (Some (Err fault)) enough lacks = lacks

-- a run under another filter
pub other_to : (given other : FilterValue) (dir save : List ℕ) (w : Option (Result Progress RunFault)) (a b : World)
    → OtherAnswer given other dir save w (files_of a.store) (files_of b.store) → b.lost ≡ a.lost → b.published ≡ a.published
    → OtherTo given other dir save (progress_reply w) a b
other_to given other dir save None a b answer lost published = record { answered = answer; lost = lost; published = published }
other_to given other dir save (Some (Ok (Whole report))) a b answer lost published =
    record { answered = answer; lost = lost; published = published }
other_to given other dir save (Some (Ok (Part report applied count))) a b answer lost published =
    (applied, record { answered = answer; lost = lost; published = published })
other_to given other dir save (Some (Ok (Before report fault))) a b answer lost published =
    record { answered = answer; lost = lost; published = published }
other_to given other dir save (Some (Err fault)) a b answer lost published =
    record { answered = answer; lost = lost; published = published }

-- a beginning
begun_to : (given : FilterValue) (dir save extract : List ℕ) (fault : RunFault) (a b : World)
    → BeginStep given dir a.exported extract save (Err fault) (files_of a.store) (files_of b.store) → b.lost ≡ a.lost → b.published ≡ a.published
    → BeginTo given dir save extract (begun_reply (Err fault)) a b
begun_to given dir save extract (OtherJournal n) a b step lost published = (step, lost, published)
begun_to given dir save extract fault a b step lost published = (step, lost, published, tt)

pub begin_to : (given : FilterValue) (dir save extract : List ℕ) (answer : Result ReportValue RunFault) (a b : World)
    → BeginStep given dir a.exported extract save answer (files_of a.store) (files_of b.store) → b.lost ≡ a.lost → b.published ≡ a.published
    → BeginTo given dir save extract (begun_reply answer) a b
begin_to given dir save extract (Ok report) a b step lost published = (step, lost, published)
begin_to given dir save extract (Err fault) a b step lost published = begun_to given dir save extract fault a b step lost published

begun_left : (extract : List ℕ) (calls : Option ℕ) (fault : RunFault) (f : Files) → LacksCallsToBegin extract calls f fault
    → HasBeginCalls extract calls (begun_reply (Err fault)) f
begun_left extract calls (OtherJournal n) f lacks = tt
begun_left extract calls fault f lacks = lacks

pub begin_left : (extract : List ℕ) (calls : Option ℕ) (answer : Result ReportValue RunFault) (f : Files) → OnOk answer (HasCalls 3 calls)
    → IfErr answer (LacksCallsToBegin extract calls f) → HasBeginCalls extract calls (begun_reply answer) f
begin_left extract calls (Ok report) f enough lacks = enough
begin_left extract calls (Err fault) f enough lacks = begun_left extract calls fault f lacks

-- ---- what a run of the follower leaves that is refused

spoiled_leaves : (given : FilterValue) (dir save : List ℕ) (n : ℕ) (s : Suffix) (fault : RunFault) (f g : Files)
    → SpoiledStep given dir save (file_name_of dir n s) (Err fault) f g → g ≡ f
spoiled_leaves given dir save n s fault f g (inl want) = want.1
spoiled_leaves given dir save n s fault f g (inr run) =
    mended_same (file_name_of dir n s) run.bytes f run.during run.after g run.there run.put (run.answer.leaves refl) run.back

pub spoiled_files : (given : FilterValue) (dir save : List ℕ) (n : ℕ) (s : Suffix) (calls : Option ℕ) (r : Reply) (a b : World)
    → SpoiledTo given dir save n s r a b → LeavesFiles (FollowSpoiled n s calls) r (files_of a.store) (files_of b.store)
spoiled_files given dir save n s calls (Refused fault) a b t = spoiled_leaves given dir save n s fault (files_of a.store) (files_of b.store) t.step
spoiled_files given dir save n s calls r a b t = tt

-- ---- an export

-- the number that was kept is the one that was exported, if it is done
pub export_to : (save extract : List ℕ) (answer : Result ReportValue RunFault) (number : ℕ) (f g : Files) (a m b : World)
    → ExportStep save extract answer f g → f ≡ files_of a.store → g ≡ files_of m.store → m.lost ≡ a.lost → m.published ≡ a.published
    → KeepsOthers m b → OnOk answer (b.exported ≡ number) → IsNumberKept number save (files_of a.store)
    → ExportTo save extract (exported_reply answer) a b
export_to save extract answer number f g a m b step same same_after lost published others exported kept = by_answer answer here exported
  where
    after : g ≡ files_of b.store
    after = same_after ∙ sym (ap files_of others.store)

    here : ExportStep save extract answer (files_of a.store) (files_of b.store)
    here = subst (λ (x : Files). ExportStep save extract answer (files_of a.store) x) after
        (subst (λ (x : Files). ExportStep save extract answer x g) same step)

    by_answer : (answer : Result ReportValue RunFault) → ExportStep save extract answer (files_of a.store) (files_of b.store)
        → OnOk answer (b.exported ≡ number) → ExportTo save extract (exported_reply answer) a b
    by_answer (Ok report) s n =
        (s, others.lost ∙ lost, others.published ∙ published, subst (λ k. IsNumberKept k save (files_of a.store)) (sym n) kept)
    by_answer (Err fault) s n = (s, others.lost ∙ lost, others.published ∙ published)

-- its calls, over the same files
pub exported_left : (save : List ℕ) (f g : Files) (calls : Option ℕ) (answer : Result ReportValue RunFault) → g ≡ f → OnOk answer (HasCalls 4 calls)
    → IfErr answer (LacksExportCalls save calls g) → HasExportCalls save calls (exported_reply answer) f
exported_left save f g calls (Ok report) same enough lacks = enough
exported_left save f g calls (Err fault) same enough lacks =
    subst (λ (x : Files). LacksExportCalls save calls x fault) same lacks
