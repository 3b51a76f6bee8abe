-- The names of the program's folder, save, changes and extract meet the premises of the main statement.
use Rattle.std.proofs.Common.{◌≡◌, ℕ, List, refl, arith, ap, get_or, None, Ok, Err, IfOk, codes}
use Rattle.std.specs.Prelude.{Result}
use Rattle.osm_model.specs.Filter.{FilterValue}
use Rattle.osm_store.specs.Files.{Files}
use Rattle.osm_runs.specs.Folder.{IsApart}
use Rattle.osm_runs.specs.Names.{file_name_of, top_name_of}
use Rattle.osm_store.specs.Stores.{files_of}
use Rattle.osm_model.specs.declared.memory.WantOfMemory.{WantOfMemory}
use Rattle.osm_operations.specs.Correct.{AreApart, IsNew, IsRun}
use Rattle.osm_operations.specs.declared.operation.Operation.{Operation}
use Rattle.osm_operations.specs.declared.world.Outcome.{Outcome}

-- a name with another first letter than the folder's is outside it
outside : (name : List ℕ) → (get_or name 0 0 ≡ 100 → ⊥) → IsApart (codes "dir") name
unfolding file_name_of top_name_of
outside name other = record {
  top = λ e. other (ap (λ (l : List ℕ). get_or l 0 0) e);
  each = λ k suffix most e. other (ap (λ (l : List ℕ). get_or l 0 0) e);
}

names_are_apart : AreApart (codes "dir") (codes "save") (codes "changes") (codes "extract.opl")
names_are_apart = record {
  save_is = outside (codes "save") (λ e. omega (arith, e));
  changes_are = outside (codes "changes") (λ e. omega (arith, e));
  extract_is = outside (codes "extract.opl") (λ e. omega (arith, e));
  differ = λ e. let h : 115 ≡ 99 = ap (λ (l : List ℕ). get_or l 0 0) e in omega (arith, h);
  not_saved = λ e. let h : 101 ≡ 115 = ap (λ (l : List ℕ). get_or l 0 0) e in omega (arith, h);
  not_changed = λ e. let h : 101 ≡ 99 = ap (λ (l : List ℕ). get_or l 0 0) e in omega (arith, h);
  not_journal = λ e. let h : 101 ≡ 115 = ap (λ (l : List ℕ). get_or l 0 0) e in omega (arith, h);
  no_changes = λ e. let h : 115 ≡ 99 = ap (λ (l : List ℕ). get_or l 0 0) e in omega (arith, h);
}

-- what holds for a run under the premises holds for one in a new store
pub holds_in_new_store : (given : FilterValue) (operations : List Operation) (result : Result Outcome WantOfMemory) (start : Files)
    → start ≡ (λ name. None)
    → IfOk result (λ r. AreApart (codes "dir") (codes "save") (codes "changes") (codes "extract.opl") → IsNew (codes "dir") (codes "save") start
    → IsRun given operations r.replies.items (codes "dir") (codes "save") (codes "changes") (codes "extract.opl") start (files_of r.store))
    → IfOk result (λ r. IsRun given operations r.replies.items (codes "dir") (codes "save") (codes "changes") (codes "extract.opl") (λ name. None)
    (files_of r.store))
holds_in_new_store given operations (Ok r) start new h =
    let run : (AreApart (codes "dir") (codes "save") (codes "changes") (codes "extract.opl") → IsNew (codes "dir") (codes "save") (λ name. None)
    → IsRun given operations r.replies.items (codes "dir") (codes "save") (codes "changes") (codes "extract.opl") (λ name. None)
    (files_of r.store)) = rw new at h in
    run names_are_apart (record { top = refl; saved = refl; journal = refl; zero = refl })
holds_in_new_store given operations (Err refused) start new h = tt
