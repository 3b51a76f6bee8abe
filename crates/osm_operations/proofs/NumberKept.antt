-- The number of what a save and its journal keep, from their heads.
use Rattle.std.proofs.Common.{◌≡◌, ℕ, List, [], ◌++◌, Option, Some, None, inl, inr, refl, sym, ap, subst, ◌∙◌}
use Rattle.osm_model.specs.Filter.{FilterValue}
use Rattle.osm_save.specs.declared.head.Head.{Head}
use Rattle.osm_save.specs.declared.save.Saved.{Saved}
use Rattle.osm_store.specs.Files.{Files}
use Rattle.osm_kept.specs.Heads.{HasHead}
use Rattle.osm_save.specs.Lines.{ended}
use Rattle.osm_journal.specs.Openings.{OpensJournal, said_lines}
use Rattle.osm_journal.specs.declared.opening.Opening.{Opening}
use Rattle.osm_kept.specs.Kept.{ComesTo, Keeps}
use Rattle.osm_kept.specs.Laws.{OpensAsOther}
use Rattle.osm_kept.specs.Names.{journal_name_of}
use Rattle.osm_kept.specs.Refusal.{HasNoOther, OpensAbove}
use Rattle.osm_runs.specs.Keeping.{KeptIn}
use Rattle.osm_operations.specs.Stepping.{IsNumberKept}

by_told : (given : FilterValue) (told journal : Option (List ℕ)) (v : Saved) → (Keeps told journal v → ⊥) → KeptIn given told journal v → 0 ≡ v.number
by_told given None journal v none kept = sym (ap (λ (u : Saved). u.number) kept)
by_told given (Some bytes) journal v none kept = absurd (none kept)

some_keeps : (given : FilterValue) (told journal : Option (List ℕ)) (v : Saved) (file : List ℕ) → told ≡ Some file → KeptIn given told journal v
    → Keeps told journal v
some_keeps given None journal v file there kept = absurd (let bad : None ≡ Some file = there in cc)
some_keeps given (Some bytes) journal v file there kept = kept

-- the head of what is kept
pub head_number : (save : List ℕ) (f : Files) (head : Head) → HasHead (f save) (f (journal_name_of save)) head → IsNumberKept head.number save f
head_number save f head h = λ free given v kept. sym (ap (λ (x : Head). x.number)
    (h.only v (some_keeps given (f save) (f (journal_name_of save)) v h.starts.file h.starts.there kept)))

-- nothing opens no bytes
none_opens : (o : Opening) → OpensJournal [] o → ⊥
none_opens o opens = (let bad : [] ≡ ended (said_lines o) ++ opens.rest = opens.begins in cc)

-- beside a save something is kept only if a journal that opens as one of another save, above it, is none
none_comes : OpensAsOther → (told journal : Option (List ℕ)) (n : ℕ) (start v : Saved) → OpensAbove told journal n → HasNoOther told journal
    → ComesTo told journal start v → ⊥
none_comes opens told None n start v above free (inl (silent, same)) = none_opens above.opening above.opens
none_comes opens told (Some bytes) n start v above free (inl (inl empty, same)) =
    none_opens above.opening (subst (λ (l : List ℕ). OpensJournal l above.opening) empty above.opens)
none_comes opens told (Some bytes) n start v above free (inl (inr another, same)) =
    free n (opens told (Some bytes) n bytes another.value above refl another.spells)
none_comes opens told journal n start v above free (inr (j, has, adds)) = free n (opens told journal n has.bytes j above has.there has.spells)

-- beside such a journal nothing is kept but the start, where there is no save
pub other_number : OpensAsOther → (save : List ℕ) (f : Files) (n : ℕ) → OpensAbove (f save) (f (journal_name_of save)) n → IsNumberKept 0 save f
other_number opens save f n above = λ free given v kept. by_told given (f save) (f (journal_name_of save)) v
    (λ keeps. none_comes opens (f save) (f (journal_name_of save)) n keeps.start v above free keeps.comes) kept
