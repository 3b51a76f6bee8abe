-- What two files keep: one thing, and what one more batch does.
use Rattle.std.proofs.Common.{◌≡◌, ℕ, ◌+◌, ◌<◌, List, [], ◌∷◌, ◌++◌, length, length-append, Option, Some, None}
use Rattle.std.proofs.Common.{inl, inr, arith, refl, sym, ap, subst, ◌∙◌}
use Rattle.std.specs.Prelude.{◌⊎◌, codes}
use Rattle.std.proofs.lemmas.Option.{same_Some}
use Rattle.osm_model.specs.Change.{ChangeValue}
use Rattle.osm_mirror.specs.Mirror.{Applies}
use Rattle.osm_net.proofs.NetLemmas.{one_is_applied}
use Rattle.osm_o5c.specs.File.{SpellsO5c}
use Rattle.osm_o5c.proofs.FrontLemmas.{one_batch}
use Rattle.osm_save.specs.Save.{SpellsSave, save_text}
use Rattle.osm_save.specs.declared.save.Saved.{Saved}
use Rattle.osm_save.proofs.SaveLemmas.{one_save}
use Rattle.osm_journal.specs.Journal.{BatchValue, Follow, IsBatch, IsJournal, JournalValue, SpellsJournal, journal_text, last_number}
use Rattle.osm_journal.proofs.BatchLemmas.{number_reached}
use Rattle.osm_journal.proofs.JournalLemmas.{one_journal}
use Rattle.osm_kept.specs.Kept.{AddsBatch, AddsBatches, BelongsTo, ComesTo, HasJournal, IsNoJournal, Keeps}
use Rattle.osm_kept.specs.Laws.{BadKeepsNothing, EmptiedIsKept, EmptyIsNone, FirstIsAdded, JournalIsApplied, MergedIsKept}
use Rattle.osm_kept.specs.Laws.{MoreIsAdded, OneIsKept, SavedIsKept, first_journal, with_batch}
use Rattle.osm_kept.specs.Names.{JournalHasOwnName}
use Rattle.osm_kept.specs.Refusal.{HasBadBatch, IsBadBatchAt}
use Rattle.osm_kept.specs.Steps.Starting.{start_in}
use Rattle.osm_kept.specs.declared.start.Start.{Start}
use Rattle.osm_kept.specs.Finding.{IsStart}
use Rattle.osm_kept.proofs.BatchLemmas.{adds_more, all_append}
use Rattle.osm_kept.proofs.StartLemmas.{saved_begins, spelled_start, start_of_saved}

-- ---- one thing

-- a journal isn't empty
pub journal_some : (j : JournalValue) → SpellsJournal [] j → ⊥
journal_some j s = let bad : [] ≡ journal_text j = s.text in cc

pub same_file : (told : Option (List ℕ)) (a b : List ℕ) → told ≡ Some a → told ≡ Some b → a ≡ b
same_file told a b p q = same_Some a b (sym p ∙ q)

-- a journal that counts says something
pub journal_counts : (told journal : Option (List ℕ)) (j : JournalValue) → IsNoJournal told journal → HasJournal told journal j → ⊥
journal_counts told None j silent has = absurd (let bad = has.there in cc)
journal_counts told (Some bytes) j (inl empty) has =
    let same : has.bytes ≡ [] = sym (same_Some bytes has.bytes has.there) ∙ empty in
    journal_some j (subst (λ (l : List ℕ). SpellsJournal l j) same has.spells)
journal_counts told (Some bytes) j (inr another) has =
    let same : has.bytes ≡ bytes = sym (same_Some bytes has.bytes has.there) in
    let one : j ≡ another.value = one_journal bytes j another.value (subst (λ (l : List ℕ). SpellsJournal l j) same has.spells) another.spells in
    another.other (subst (λ (x : JournalValue). BelongsTo x told) one has.belongs)

one_added : (b : BatchValue) (old x y : Saved) → AddsBatch b old x → AddsBatch b old y → x ≡ y
one_added b old x y p q =
    let changes : p.changes ≡ q.changes = one_batch b.bytes p.changes q.changes p.spells q.spells in
    let applied = subst (λ (l : List ChangeValue). Applies old.filter old.mirror l x.mirror) changes p.applied in
    let mirror : x.mirror ≡ y.mirror = one_is_applied old.filter q.changes old.mirror x.mirror y.mirror applied q.applied in
    let number : x.number ≡ y.number = p.number ∙ sym q.number in
    let base : x.base ≡ y.base = p.base ∙ sym q.base in
    let kept : x.filter ≡ y.filter = p.same_filter ∙ sym q.same_filter in
    let time : x.time ≡ y.time = p.time ∙ sym q.time in
    λ i. record { number = number i; base = base i; time = time i; filter = kept i; mirror = mirror i }

one_adds : (bs : List BatchValue) (old x y : Saved) → AddsBatches bs old x → AddsBatches bs old y → x ≡ y
one_adds [] old x y p q = p ∙ sym q
one_adds (b ∷ bs) old x y (between, first, rest) (middle, one, more) =
    let same : between ≡ middle = one_added b old between middle first one in
    one_adds bs middle x y (subst (λ (v : Saved). AddsBatches bs v x) same rest) more

one_journal_counts : (told journal : Option (List ℕ)) (i j : JournalValue) → HasJournal told journal i → HasJournal told journal j → i ≡ j
one_journal_counts told journal i j p q =
    let same : p.bytes ≡ q.bytes = same_file journal p.bytes q.bytes p.there q.there in
    one_journal q.bytes i j (subst (λ (l : List ℕ). SpellsJournal l i) same p.spells) q.spells

one_comes : (told journal : Option (List ℕ)) (start a b : Saved) → ComesTo told journal start a → ComesTo told journal start b → a ≡ b
one_comes told journal start a b (inl (silent, x)) (inl (none, y)) = x ∙ sym y
one_comes told journal start a b (inl (silent, x)) (inr (j, has, adds)) = absurd (journal_counts told journal j silent has)
one_comes told journal start a b (inr (j, has, adds)) (inl (silent, y)) = absurd (journal_counts told journal j silent has)
one_comes told journal start a b (inr (i, p, x)) (inr (j, q, y)) =
    let same : i ≡ j = one_journal_counts told journal i j p q in
    one_adds j.batches start a b (subst (λ (z : JournalValue). AddsBatches z.batches start a) same x) y

same_saved : (told : Option (List ℕ)) (a b : List ℕ) (v w : Saved) → told ≡ Some a → told ≡ Some b → SpellsSave a v → SpellsSave b w → v ≡ w
same_saved told a b v w p q x y =
    let same : a ≡ b = same_file told a b p q in
    one_save b v w (subst (λ (l : List ℕ). SpellsSave l v) same x) y

pub one_kept : OneIsKept
one_kept told journal a b p q =
    let same : p.start ≡ q.start = same_saved told p.file q.file p.start q.start p.there q.there p.spells q.spells in
    one_comes told journal q.start a b (subst (λ (s : Saved). ComesTo told journal s a) same p.comes) q.comes

-- ---- a journal that says nothing

pub saved_is_kept : SavedIsKept
saved_is_kept file journal v x silent = record { file = file; there = refl; start = v; spells = x; comes = inl (silent, refl) }

pub empty_is_none : EmptyIsNone
empty_is_none told v = (
  (λ k. record { file = k.file; there = k.there; start = k.start; spells = k.spells; comes = to_none k.start k.comes }),
  (λ k. record { file = k.file; there = k.there; start = k.start; spells = k.spells; comes = to_empty k.start k.comes }),
)
  where
    to_none : (start : Saved) → ComesTo told (Some []) start v → ComesTo told None start v
    to_none start (inl (silent, same)) = inl (tt, same)
    to_none start (inr (j, has, adds)) = absurd (journal_counts told (Some []) j (inl refl) has)

    to_empty : (start : Saved) → ComesTo told None start v → ComesTo told (Some []) start v
    to_empty start (inl (silent, same)) = inl (inl refl, same)
    to_empty start (inr (j, has, adds)) = absurd (journal_counts told None j tt has)

pub emptied_is_kept : EmptiedIsKept
emptied_is_kept told journal v silent k = record {
  file = k.file;
  there = k.there;
  start = k.start;
  spells = k.spells;
  comes = emptied k.start k.comes;
}
  where
    emptied : (start : Saved) → ComesTo told journal start v → ComesTo told (Some []) start v
    emptied start (inl (nothing, same)) = inl (inl refl, same)
    emptied start (inr (j, has, adds)) = absurd (journal_counts told journal j silent has)

-- ---- a bad journal

adds_at : (before : List BatchValue) (b : BatchValue) (after : List BatchValue) (old new : Saved) → AddsBatches (before ++ b ∷ after) old new
    → (changes : List ChangeValue) × SpellsO5c b.bytes changes
adds_at [] b after old new (between, one, rest) = (one.changes, one.spells)
adds_at (x ∷ xs) b after old new (between, one, rest) = adds_at xs b after between new rest

bad_adds : (j : JournalValue) (line : ℕ) (old new : Saved) → IsBadBatchAt j line → AddsBatches j.batches old new → ⊥
bad_adds j line old new bad adds =
    let found = adds_at bad.before bad.bad bad.after old new (subst (λ (l : List BatchValue). AddsBatches l old new) bad.parts adds) in
    bad.none found.0 found.1

bad_comes : (told journal : Option (List ℕ)) (line : ℕ) (start v : Saved) (bytes : List ℕ) → journal ≡ Some bytes → 0 < length bytes
    → ((j : JournalValue) → SpellsJournal bytes j → ⊥) ⊎ HasBadBatch told bytes line → ComesTo told journal start v → ⊥
bad_comes told None line start v bytes there some bad comes = absurd (let e = there in cc)
bad_comes told (Some all) line start v bytes there some bad (inl (inl empty, same)) =
    let none : length bytes ≡ 0 = ap length (sym (same_Some all bytes there) ∙ empty) in
    omega (arith, none, some)
bad_comes told (Some all) line start v bytes there some (inl none) (inl (inr another, same)) =
    none another.value (subst (λ (l : List ℕ). SpellsJournal l another.value) (same_Some all bytes there) another.spells)
bad_comes told (Some all) line start v bytes there some (inr bad) (inl (inr another, same)) =
    let is : SpellsJournal bytes another.value = subst (λ (l : List ℕ). SpellsJournal l another.value) (same_Some all bytes there) another.spells in
    let one : bad.value ≡ another.value = one_journal bytes bad.value another.value bad.spells is in
    another.other (subst (λ (x : JournalValue). BelongsTo x told) one bad.belongs)
bad_comes told (Some all) line start v bytes there some (inl none) (inr (j, has, adds)) =
    none j (subst (λ (l : List ℕ). SpellsJournal l j) (same_file (Some all) has.bytes bytes has.there there) has.spells)
bad_comes told (Some all) line start v bytes there some (inr bad) (inr (j, has, adds)) =
    let is : SpellsJournal bytes j = subst (λ (l : List ℕ). SpellsJournal l j) (same_file (Some all) has.bytes bytes has.there there) has.spells in
    let one : bad.value ≡ j = one_journal bytes bad.value j bad.spells is in
    bad_adds j line start v (subst (λ (x : JournalValue). IsBadBatchAt x line) one bad.batch) adds

pub bad_keeps_nothing : BadKeepsNothing
bad_keeps_nothing told journal line v bad k = bad_comes told journal line k.start v bad.bytes bad.there bad.some bad.bad k.comes

-- ---- one more batch

pub adds_number : (bs : List BatchValue) (old new : Saved) → AddsBatches bs old new → new.number ≡ last_number old.number bs
adds_number [] old new same = ap (λ (v : Saved). v.number) same
adds_number (b ∷ bs) old new (between, one, rest) = adds_number bs between new rest ∙ ap (λ (n : ℕ). last_number n bs) one.number

follow_more : (number : ℕ) (bs : List BatchValue) (b : BatchValue) → Follow number bs → b.number ≡ last_number number bs + 1
    → Follow number (bs ++ b ∷ [])
follow_more number [] b follow next = (next, tt)
follow_more number (x ∷ xs) b follow next = (follow.0, follow_more x.number xs b follow.1 next)

with_more : (j : JournalValue) (b : BatchValue) → IsJournal j → IsBatch b → b.number ≡ last_number j.head.number j.batches + 1 → IsJournal (with_batch j b)
with_more j b is limits next = record {
  head = is.head;
  filter = is.filter;
  tells = is.tells;
  objects = is.objects;
  some = (let count = length-append j.batches (b ∷ []) in omega (arith, count));
  batches = all_append IsBatch j.batches (b ∷ []) is.batches (limits, tt);
  follow = follow_more j.head.number j.batches b is.follow next;
}

-- what a journal says of its save is right
pub journal_start : (j : JournalValue) → IsJournal j → IsStart (start_in j)
journal_start j is = record { head = is.head; filter = is.filter; tells = is.tells; objects = is.objects }

pub belongs_start : (told : Option (List ℕ)) (j : JournalValue) (file : List ℕ) (v : Saved) (x : SpellsSave file v) → told ≡ Some file
    → IsJournal j → BelongsTo j told → start_of_saved x.version v ≡ start_in j
belongs_start told j file v x there is belongs =
    spelled_start file v x (start_in j) belongs.rest (journal_start j is)
    (same_file told file belongs.file there belongs.there ∙ belongs.begins)

pub start_number : (told : Option (List ℕ)) (j : JournalValue) (file : List ℕ) (v : Saved) → SpellsSave file v → told ≡ Some file
    → IsJournal j → BelongsTo j told → v.number ≡ j.head.number
start_number told j file v x there is belongs = ap (λ (s : Start). s.head.number) (belongs_start told j file v x there is belongs)

pub comes_of : (told journal : Option (List ℕ)) (j : JournalValue) (start v : Saved) → HasJournal told journal j → ComesTo told journal start v
    → AddsBatches j.batches start v
comes_of told journal j start v has (inl (silent, same)) = absurd (journal_counts told journal j silent has)
comes_of told journal j start v has (inr (i, p, adds)) =
    subst (λ (z : JournalValue). AddsBatches z.batches start v) (one_journal_counts told journal i j p has) adds

-- the number that a save with a journal comes to
pub kept_number : (told journal : Option (List ℕ)) (j : JournalValue) (v : Saved) → HasJournal told journal j → (k : Keeps told journal v)
    → v.number ≡ last_number j.head.number j.batches
kept_number told journal j v has k =
    adds_number j.batches k.start v (comes_of told journal j k.start v has k.comes)
    ∙ ap (λ (n : ℕ). last_number n j.batches) (start_number told j k.file k.start k.spells k.there has.spells.journal has.belongs)

pub more_is_added : MoreIsAdded
more_is_added told journal j b v w has k limits adds =
    let next : b.number ≡ last_number j.head.number j.batches + 1 = adds.number_is ∙ ap (λ (n : ℕ). n + 1) (kept_number told journal j v has k) in
    record {
      file = k.file;
      there = k.there;
      start = k.start;
      spells = k.spells;
      comes = inr (
        with_batch j b,
        record {
          bytes = journal_text (with_batch j b);
          there = refl;
          spells = record { journal = with_more j b has.spells.journal limits next; text = refl };
          belongs = record { file = has.belongs.file; there = has.belongs.there; rest = has.belongs.rest; begins = has.belongs.begins };
        },
        adds_more j.batches b k.start v w (comes_of told journal j k.start v has k.comes) adds,
      );
    }

pub journal_is_applied : JournalIsApplied
journal_is_applied file j v w x is belongs adds = record {
  file = file;
  there = refl;
  start = v;
  spells = x;
  comes = inr (j, record { bytes = journal_text j; there = refl; spells = record { journal = is; text = refl }; belongs = belongs }, adds);
}

pub first_is_added : FirstIsAdded
first_is_added version b v w is limits adds =
    journal_is_applied (save_text version v) (first_journal version v b) v w (record { version = version; savable = is; text = refl }) (record {
      head = is.head;
      filter = is.filter;
      tells = is.tells;
      objects = is.objects;
      some = omega arith;
      batches = (limits, tt);
      follow = (adds.number_is, tt);
    }) (record { file = save_text version v; there = refl; rest = _; begins = saved_begins version v }) (w, adds, refl)

-- ---- once it is merged

pub merged_is_kept : MergedIsKept
merged_is_kept told journal j v w file has k more x =
    saved_is_kept file journal w x (rw has.there (inr (record {
      value = j;
      spells = has.spells;
      other = λ belongs. (let before = kept_number told journal j v has k in
          let is = has.spells.journal in
          let number = number_reached j.batches j.head.number is.follow in
          let some = is.some in
          let after = start_number (Some file) j file w x refl is belongs in
          omega (arith, before, number, some, after, more));
    })))

-- ---- its name

pub journal_has_own_name : JournalHasOwnName
journal_has_own_name save same =
    let sum = length-append save (codes ".journal") in
    let none = ap length same in
    omega (arith, sum, none)
