-- What two files keep: what the save begins with, and whose journal it is.
use Rattle.std.proofs.Common.{◌≡◌, ℕ, ◌<◌, List, [], ◌++◌, length, Option, Some, None, inl, inr, arith, refl, sym, ap, subst, ◌∙◌}
use Rattle.std.specs.Prelude.{◌↔◌, Bool, true, false, IsTrue, Result, Ok, Err, IfErr, IfOk}
use Rattle.osm_model.specs.Filter.{FilterValue}
use Rattle.osm_net.specs.Net.{no_net}
use Rattle.osm_net.proofs.NetLemmas.{none_changes_nothing}
use Rattle.osm_save.specs.Head.{head_of}
use Rattle.osm_save.specs.Save.{SpellsSave}
use Rattle.osm_save.specs.declared.head.Head.{Head}
use Rattle.osm_save.specs.declared.save.Saved.{Saved}
use Rattle.osm_save.specs.declared.version.Version.{Version}
use Rattle.osm_journal.specs.Journal.{IsJournal, JournalValue}
use Rattle.osm_kept.specs.Finding.{IsStart, IsStartOf, KeepsAs, StartsAs, bytes_of, kept_after}
use Rattle.osm_kept.specs.Kept.{BelongsTo, IsNoJournal, Keeps}
use Rattle.osm_kept.specs.Steps.Starting.{start_in}
use Rattle.osm_kept.specs.declared.found.Kept.{Kept}
use Rattle.osm_kept.specs.declared.start.Start.{Start}
use Rattle.osm_kept.proofs.LawLemmas.{journal_start, one_kept, same_file}
use Rattle.osm_kept.proofs.StartLemmas.{lines_of, one_start}

-- ---- whose journal it is

-- a journal of the save says of it what it begins with
pub belongs_same : (told : Option (List ℕ)) (s : Start) (j : JournalValue) → StartsAs told s → IsStart s → IsJournal j → BelongsTo j told
    → start_in j ≡ s
belongs_same told s j starts is journal belongs =
    one_start starts.file (start_in j) s belongs.rest starts.rest (journal_start j journal) is
    (same_file told starts.file belongs.file starts.there belongs.there ∙ belongs.begins) starts.begins

pub same_belongs : (told : Option (List ℕ)) (s : Start) (j : JournalValue) → StartsAs told s → start_in j ≡ s → BelongsTo j told
same_belongs told s j starts same = record {
  file = starts.file;
  there = starts.there;
  rest = starts.rest;
  begins = starts.begins ∙ ap (λ (x : Start). lines_of x ++ starts.rest) (sym same);
}

-- ---- the file of the journal

pub no_bytes : (told journal : Option (List ℕ)) → bytes_of journal ≡ [] → IsNoJournal told journal
no_bytes told None e = tt
no_bytes told (Some bytes) e = inl e

pub some_bytes : (journal : Option (List ℕ)) (bytes : List ℕ) → bytes_of journal ≡ bytes → 0 < length bytes → journal ≡ Some bytes
some_bytes None bytes e some = absurd (let none = ap length e in omega (arith, none, some))
some_bytes (Some all) bytes e some = ap (λ (l : List ℕ). Some l) e

-- ---- what is kept

only_from : (told journal : Option (List ℕ)) (kept : Kept)
    → ((file : List ℕ) (saved : Saved) → told ≡ Some file → SpellsSave file saved → Keeps told journal (kept_after kept saved))
    → (v : Saved) → Keeps told journal v → (head_of v ≡ kept.head) × (v.filter ≡ kept.start.filter)
only_from told journal kept keeps v k =
    let same : v ≡ kept_after kept k.start = one_kept told journal v (kept_after kept k.start) k (keeps k.file k.start k.there k.spells) in (
      ap head_of same,
      ap (λ (x : Saved). x.filter) same,
    )

pub keeps_as : (told journal : Option (List ℕ)) (kept : Kept) → StartsAs told kept.start
    → ((file : List ℕ) (saved : Saved) → told ≡ Some file → SpellsSave file saved → Keeps told journal (kept_after kept saved))
    → KeepsAs told journal kept
keeps_as told journal kept starts keeps = record { starts = starts; keeps = keeps; only = only_from told journal kept keeps }

-- what a save begins with is that of what it saves
pub start_saved : (told : Option (List ℕ)) (s : Start) (file : List ℕ) (v : Saved) → StartsAs told s → told ≡ Some file → SpellsSave file v → IsStartOf v s
start_saved told s file v starts there x =
    starts.is v (subst (λ (l : List ℕ). SpellsSave l v) (same_file told file starts.file there starts.there) x)

abbrev pub kept_alone : Start → Kept
kept_alone s = record { start = s; head = s.head; net = no_net }

pub alone_keeps : (told journal : Option (List ℕ)) (s : Start) → StartsAs told s → IsNoJournal told journal → KeepsAs told journal (kept_alone s)
alone_keeps told journal s starts silent = keeps_as told journal (kept_alone s) starts (λ file saved there x. record {
  file = file;
  there = there;
  start = saved;
  spells = x;
  comes = inl (
    silent,
    (let is : IsStartOf saved s = start_saved told s file saved starts there x in
        rw (← is.head, ← is.filter, none_changes_nothing saved.mirror) refl),
  );
})

-- ---- answers

abbrev pub start_with : Version → Head → FilterValue → ℕ → Start
start_with version head f objects = record { version = version; head = head; filter = f; objects = objects }

same_start : (version : Version) (head : Head) (f : FilterValue) (objects : ℕ) (s : Start) → (version ≡ s.version) × (head ≡ s.head)
    → (f ≡ s.filter) × (objects ≡ s.objects) → start_with version head f objects ≡ s
same_start version head f objects s (a, b) (c, d) = λ i. record { version = a i; head = b i; filter = c i; objects = d i }

-- if the heads are the same, the rest tells
pub rest_tells : (version : Version) (head : Head) (f : FilterValue) (objects : ℕ) (s : Start) (heads rest : Bool) → heads ≡ true
    → IsTrue heads ↔ (version ≡ s.version) × (head ≡ s.head) → IsTrue rest ↔ (f ≡ s.filter) × (objects ≡ s.objects)
    → IsTrue rest ↔ (start_with version head f objects ≡ s)
rest_tells version head f objects s heads rest is has lists = (
  (λ yes. same_start version head f objects s (has.0 is) (lists.0 yes)),
  (λ same. lists.1 (ap (λ (x : Start). x.filter) same, ap (λ (x : Start). x.objects) same)),
)

pub other_head : (version : Version) (head : Head) (f : FilterValue) (objects : ℕ) (s : Start) (heads : Bool) → heads ≡ false
    → IsTrue heads ↔ (version ≡ s.version) × (head ≡ s.head) → start_with version head f objects ≡ s → ⊥
other_head version head f objects s heads is has same =
    let yes : heads ≡ true = has.1 (ap (λ (x : Start). x.version) same, ap (λ (x : Start). x.head) same) in
    let bad : false ≡ true = sym is ∙ yes in
    cc

pub ok_map : {T E : Type 0} (P Q : T → Type 0) (r : Result T E) → IfOk r P → ((x : T) → P x → Q x) → IfOk r Q
ok_map P Q (Ok x) h f = f x h
ok_map P Q (Err e) h f = tt

pub err_map : {T E : Type 0} (P Q : E → Type 0) (r : Result T E) → IfErr r P → ((e : E) → P e → Q e) → IfErr r Q
err_map P Q (Ok x) h f = tt
err_map P Q (Err e) h f = f e h
