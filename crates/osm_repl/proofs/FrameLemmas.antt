-- What each run leaves as it was.
use Rattle.std.proofs.Common.{◌≡◌, ℕ, ◌≤◌, List, inl, inr, ap}
use Rattle.std.specs.Prelude.{◌⊎◌, Result, Ok, Err, IfErr, IfOk, OnOk, OnErr}
use Rattle.osm_model.specs.Filter.{FilterValue}
use Rattle.osm_store.specs.Files.{Files, Spends}
use Rattle.osm_store.specs.Frames.{CallsBetween, IsKnown, ReadsBetween, ReplacesBetween, StoreState}
use Rattle.osm_beginning.specs.Keeping.{IsBegunBoth, IsCutShort, LeavesBegun, LeavesSave}
use Rattle.osm_runs.specs.Reports.{ReportValue}
use Rattle.osm_runs.specs.declared.fault.RunFault.{RunFault}
use Rattle.osm_runs.specs.declared.fault.RunFault.TheVariants.{OtherJournal}
use Rattle.osm_runs.specs.declared.progress.Progress.{Progress}
use Rattle.osm_runs.specs.declared.options.FollowOptions.{FollowOptions}
use Rattle.osm_round.specs.Keeping.{IsFollowed}
use Rattle.osm_round.specs.declared.kept.Sizes.{Sizes}
use Rattle.osm_repl.specs.Execution.{CarriesOut, IsBeside, IsUntouched, calls_of}
use Rattle.osm_words.specs.declared.orders.Order.{Order}

-- every file but one is as it was
abbrev pub OthersStay : List ℕ → Files → Files → Type 0
OthersStay target old new = (name : List ℕ) → (name ≡ target → ⊥) → new name ≡ old name

-- a run that reads alone
pub reads : {T E : Type 0} (blames : E → Type 0) (order : Order) (least most : ℕ) (old new : StoreState) (r : Result T E)
    → calls_of order ≡ least → ReadsBetween blames least most old new r → CarriesOut order old new r
reads blames order least most old new r is h = record {
  untouched = λ sure name own. ap (λ (f : Files). f name) h.files;
  known = h.makes.known;
  left = rw is h.makes.spent;
  left_after = h.makes.left;
  kept = h.makes.failures;
}

-- one that writes several files of its own
pub writes : {T E : Type 0} (blames : E → Type 0) (order : Order) (least most : ℕ) (old new : StoreState) (r : Result T E)
    → calls_of order ≡ least → CallsBetween blames least most old new r
    → (IsKnown old → (name : List ℕ) → IsUntouched order name → new.files name ≡ old.files name) → CarriesOut order old new r
writes blames order least most old new r is h untouched = record {
  untouched = untouched;
  known = h.makes.known;
  left = rw is h.makes.spent;
  left_after = h.makes.left;
  kept = h.makes.failures;
}

-- one that replaces a file at its end
pub replaces : {T E : Type 0} (order : Order) (target : List ℕ) (old new : StoreState) (r : Result T E)
    → ((name : List ℕ) → IsUntouched order name → name ≡ target → ⊥) → OnErr r (new.files ≡ old.files) → new.is_known ≡ old.is_known
    → Spends 0 old.left new.left → old.failures ≤ new.failures → OnOk r (Spends (calls_of order) old.left new.left)
    → OnOk r (IsKnown old → OthersStay target old.files new.files) → CarriesOut order old new r
replaces order target old new (Ok x) own files known left failures spent others = record {
  untouched = λ sure name un. others sure name (own name un);
  known = known;
  left = spent;
  left_after = left;
  kept = failures;
}
replaces order target old new (Err e) own files known left failures spent others = record {
  untouched = λ sure name un. ap (λ (f : Files). f name) files;
  known = known;
  left = tt;
  left_after = left;
  kept = failures;
}

pub replaces_once : {T E : Type 0} (blames : E → Type 0) (order : Order) (target : List ℕ) (least most : ℕ) (old new : StoreState) (r : Result T E)
    → calls_of order ≡ least → ((name : List ℕ) → IsUntouched order name → name ≡ target → ⊥) → ReplacesBetween blames least most old new r
    → OnOk r (IsKnown old → OthersStay target old.files new.files) → CarriesOut order old new r
replaces_once blames order target least most old new (Ok x) is own h others = record {
  untouched = λ sure name un. others sure name (own name un);
  known = h.makes.known;
  left = rw is h.makes.spent;
  left_after = h.makes.left;
  kept = h.makes.failures;
}
replaces_once blames order target least most old new (Err e) is own h others = record {
  untouched = λ sure name un. ap (λ (f : Files). f name) h.files;
  known = h.makes.known;
  left = tt;
  left_after = h.makes.left;
  kept = h.makes.failures;
}

-- a file is put, and so all others stay
pub others_of : {T E : Type 0} (P : T → Type 0) (Q : Type 0) (r : Result T E) → IfOk r P → ((x : T) → P x → Q) → OnOk r Q
others_of P Q (Ok x) p f = f x p
others_of P Q (Err e) p f = tt

-- ---- a run that may change a save and its journal

-- every file beside the two is as it was
abbrev pub BothChange : List ℕ → Files → Files → Type 0
BothChange save old new = (name : List ℕ) → IsBeside save name → new name ≡ old name

pub changes_both : {T E : Type 0} (order : Order) (save : List ℕ) (old new : StoreState) (r : Result T E)
    → ((name : List ℕ) → IsUntouched order name → IsBeside save name) → new.is_known ≡ old.is_known → Spends 0 old.left new.left
    → old.failures ≤ new.failures → OnOk r (Spends (calls_of order) old.left new.left)
    → OnOk r (IsKnown old → BothChange save old.files new.files) → OnErr r (IsKnown old → BothChange save old.files new.files)
    → CarriesOut order old new r
changes_both order save old new (Ok x) own known left failures spent done refused = record {
  untouched = λ sure name un. done sure name (own name un);
  known = known;
  left = spent;
  left_after = left;
  kept = failures;
}
changes_both order save old new (Err e) own known left failures spent done refused = record {
  untouched = λ sure name un. refused sure name (own name un);
  known = known;
  left = tt;
  left_after = left;
  kept = failures;
}

-- what a run of the follower leaves
pub follow_changes : (save : List ℕ) (old new : Files) (known : Type 0) (options : FollowOptions) (sizes : Sizes) (dir : List ℕ) (r : Result Progress RunFault)
    → IfOk r (λ p. known → IsFollowed known options sizes dir save old new p) → OnOk r (known → BothChange save old new)
follow_changes save old new known options sizes dir (Ok p) follows = λ sure name own. (follows sure).goes_on.others name own.0 own.1
follow_changes save old new known options sizes dir (Err fault) follows = tt

pub follow_leaves : (save : List ℕ) (old new : Files) (known : Type 0) (r : Result Progress RunFault)
    → OnErr r (new ≡ old) → OnErr r (known → BothChange save old new)
follow_leaves save old new known (Ok p) leaves = tt
follow_leaves save old new known (Err fault) leaves = λ sure name own. ap (λ (f : Files). f name) leaves

-- what a beginning leaves
pub begin_changes : (given : FilterValue) (base state save : List ℕ) (old new : Files) (known : Type 0) (r : Result ReportValue RunFault)
    → IfOk r (λ report. known → IsBegunBoth given base state save old new report) → OnOk r (known → BothChange save old new)
begin_changes given base state save old new known (Ok report) done = λ sure name own. (done sure).others name own.0 own.1
begin_changes given base state save old new known (Err fault) done = tt

both_left : (given : FilterValue) (base state save : List ℕ) (old new : Files)
    → LeavesSave save old new ⊎ IsCutShort given base state save old new → BothChange save old new
both_left given base state save old new (inl left) = λ name own. left.others name own.1
both_left given base state save old new (inr cut) = λ name own. cut.put.others name own.0

begun_leaves : (given : FilterValue) (base state save : List ℕ) (old new : Files) (fault : RunFault)
    → LeavesBegun given base state save old new fault → BothChange save old new
begun_leaves given base state save old new (OtherJournal number) cut = λ name own. cut.put.others name own.0
begun_leaves given base state save old new fault left = both_left given base state save old new left

pub begin_leaves : (given : FilterValue) (base state save : List ℕ) (old new : Files) (known : Type 0) (r : Result ReportValue RunFault)
    → IfErr r (λ fault. known → LeavesBegun given base state save old new fault) → OnErr r (known → BothChange save old new)
begin_leaves given base state save old new known (Ok report) leaves = tt
begin_leaves given base state save old new known (Err fault) leaves = λ sure. begun_leaves given base state save old new fault (leaves sure)
