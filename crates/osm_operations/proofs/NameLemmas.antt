-- The name of a journal is that of no file of a folder, and not that of its save.
use Rattle.std.proofs.Common.{◌≡◌, ℕ, List, ◌++◌, arith, ap, sym, ◌∙◌, get_or, codes, append_assoc}
use Rattle.std.specs.Prelude.{reverse}
use Rattle.std.proofs.lemmas.List.{reverse-append}
use Rattle.osm_state.specs.Path.{folders_text, path_text, suffix_text}
use Rattle.osm_state.specs.declared.paths.Suffix.{Suffix}
use Rattle.osm_state.specs.declared.paths.Suffix.TheVariants.{O5c, Opl, State}
use Rattle.osm_kept.specs.Names.{journal_name_of}
use Rattle.osm_runs.specs.Folder.{IsApart}
use Rattle.osm_runs.specs.Names.{file_name_of, top_name_of}

-- names that are the same have the same letter before the last one
same_ends : (a b s t : List ℕ) → a ++ s ≡ b ++ t → get_or (reverse s ++ reverse a) 1 0 ≡ get_or (reverse t ++ reverse b) 1 0
same_ends a b s t e = ap (λ (l : List ℕ). get_or l 1 0) (sym (reverse-append a s) ∙ (ap reverse e ∙ reverse-append b t))

-- what a journal's name ends with ends no other name of a folder
pub journal_outside : (dir save : List ℕ) → IsApart dir (journal_name_of save)
unfolding file_name_of top_name_of path_text
journal_outside dir save = record {
  top = λ e. (let h : 97 ≡ 120 = same_ends save dir (codes ".journal") (codes "/state.txt") e in omega (arith, h));
  each = λ k suffix most e. by_suffix k suffix (e ∙ parts k suffix);
}
  where
    parts : (k : ℕ) (suffix : Suffix) → dir ++ (codes "/" ++ (folders_text k ++ suffix_text suffix))
        ≡ (dir ++ (codes "/" ++ folders_text k)) ++ suffix_text suffix
    parts k suffix = ap (λ (l : List ℕ). dir ++ l) (sym (append_assoc (codes "/") (folders_text k) (suffix_text suffix)))
        ∙ sym (append_assoc dir (codes "/" ++ folders_text k) (suffix_text suffix))

    by_suffix : (k : ℕ) (suffix : Suffix) → journal_name_of save ≡ (dir ++ (codes "/" ++ folders_text k)) ++ suffix_text suffix → ⊥
    by_suffix k O5c e =
        let h : 97 ≡ 53 = same_ends save (dir ++ (codes "/" ++ folders_text k)) (codes ".journal") (codes ".o5c") e in omega (arith, h)
    by_suffix k Opl e =
        let h : 97 ≡ 112 = same_ends save (dir ++ (codes "/" ++ folders_text k)) (codes ".journal") (codes ".opl") e in omega (arith, h)
    by_suffix k State e =
        let h : 97 ≡ 120 = same_ends save (dir ++ (codes "/" ++ folders_text k)) (codes ".journal") (codes ".state.txt") e in omega (arith, h)
