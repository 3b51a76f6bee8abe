-- What a save and its journal keep.
use Rattle.std.proofs.Common.{◌≡◌, ℕ, List, Option, Some, None, arith, sym, subst, ◌∙◌}
use Rattle.osm_model.specs.Filter.{FilterValue}
use Rattle.osm_save.specs.declared.save.Saved.{Saved}
use Rattle.osm_store.specs.Files.{Files}
use Rattle.osm_kept.specs.Finding.{IsTakenOn}
use Rattle.osm_kept.specs.Kept.{IsNoJournal, Keeps}
use Rattle.osm_kept.specs.Laws.{BadKeepsNothing, OneIsKept, SavedIsKept}
use Rattle.osm_kept.specs.Names.{journal_name_of}
use Rattle.osm_kept.specs.declared.found.Kept.{Kept}
use Rattle.osm_merge.specs.Lists.{AreFew}
use Rattle.osm_merge.proofs.FewLemmas.{few_net}
use Rattle.osm_runs.specs.Following.{IsSaved}
use Rattle.osm_runs.specs.Keeping.{HasNoBadJournal, IsKept, KeptIn}

-- two files keep one thing at most
pub one_in : OneIsKept → (given : FilterValue) (told journal : Option (List ℕ)) (v w : Saved) → KeptIn given told journal v
    → KeptIn given told journal w → v ≡ w
one_in one given None journal v w a b = a ∙ sym b
one_in one given (Some bytes) journal v w a b = one (Some bytes) journal v w a b

-- so do a save and its journal
pub one_is_kept : OneIsKept → (given : FilterValue) (save : List ℕ) (files : Files) (v w : Saved) → IsKept given save files v
    → IsKept given save files w → v ≡ w
one_is_kept one given save files v w a b = one_in one given (files save) (files (journal_name_of save)) v w a b

-- if something is kept beside a save, the journal isn't bad
pub no_bad_journal : BadKeepsNothing → (given : FilterValue) (save file : List ℕ) (files : Files) (v : Saved) → files save ≡ Some file
    → IsKept given save files v → HasNoBadJournal save files
no_bad_journal nothing given save file files v there kept line bad =
    let both : Keeps (Some file) (files (journal_name_of save)) v =
    subst (λ (told : Option (List ℕ)). KeptIn given told (files (journal_name_of save)) v) there kept in
    nothing (files save) (files (journal_name_of save)) line v bad
    (subst (λ (told : Option (List ℕ)). Keeps told (files (journal_name_of save)) v) (sym there) both)

-- ---- a journal that says nothing

-- beside one, what is saved is kept
pub saved_in : SavedIsKept → (given : FilterValue) (told journal : Option (List ℕ)) (v : Saved) → IsNoJournal told journal
    → IsSaved given told v → KeptIn given told journal v
saved_in law given None journal v silent saved = saved
saved_in law given (Some bytes) journal v silent saved = law bytes journal v saved silent

-- ---- what was taken after it

-- its counts have room beside those of a save
pub few_taken : (kept : Kept) → IsTakenOn kept → AreFew kept.net
few_taken kept t =
    let number_is = t.number in
    let few = t.few in
    let most = t.limit in
    few_net kept.start.filter t.changes kept.net t.net (omega (arith, number_is, few, most))
