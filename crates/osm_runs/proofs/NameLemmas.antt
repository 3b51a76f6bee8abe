-- The names of a folder's files differ.
use Rattle.std.proofs.Common.{◌≡◌, ℕ, ◌+◌, ◌/◌, ◌%◌, ◌≤◌, List, ◌++◌, arith, ap, get_or, drop}
use Rattle.std.specs.Prelude.{codes}
use Rattle.std.proofs.lemmas.List.{append_cancel_left}
use Rattle.osm_model.specs.Limits.{max_sequence}
use Rattle.osm_state.proofs.PathLemmas.{one_path}
use Rattle.osm_state.specs.Path.{path_text}
use Rattle.osm_state.specs.declared.paths.Suffix.{Suffix}
use Rattle.osm_runs.specs.Names.{file_name_of, top_name_of}

pub one_file : (dir : List ℕ) (m n : ℕ) (s t : Suffix) → m ≤ max_sequence → n ≤ max_sequence → file_name_of dir m s ≡ file_name_of dir n t → (m ≡ n) × (s ≡ t)
unfolding file_name_of
one_file dir m n s t p q e =
    one_path m n s t p q (ap (drop 1) (append_cancel_left dir (codes "/" ++ path_text m s) (codes "/" ++ path_text n t) e))

no_top : (n : ℕ) (s : Suffix) → codes "/state.txt" ≡ codes "/" ++ path_text n s → ⊥
unfolding path_text
no_top n s e =
    let h : 115 ≡ 48 + n / 1000000 / 100 % 10 = ap (λ (xs : List ℕ). get_or xs 1 0) e in omega (arith, h)

pub top_is_no_file : (dir : List ℕ) (n : ℕ) (s : Suffix) → top_name_of dir ≡ file_name_of dir n s → ⊥
unfolding file_name_of top_name_of
top_is_no_file dir n s e = no_top n s (append_cancel_left dir (codes "/state.txt") (codes "/" ++ path_text n s) e)
