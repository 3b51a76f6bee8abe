-- A journal with more batches at its end, or a first one.
use Rattle.std.proofs.Common.{◌≡◌, ℕ, ◌+◌, ◌<◌, ◌≤◌, List, [], ◌∷◌, ◌++◌, length, length-append, Option, Some, None, Vec, map}
use Rattle.std.proofs.Common.{inl, inr, arith, refl, sym, ap, subst, ◌∙◌}
use Rattle.std.specs.Prelude.{IfSome, IfOk, Result, Ok, Err}
use Rattle.std.specs.List.{AllByRecursion}
use Rattle.std.specs.declared.alloc.Global.{Global}
use Rattle.std.proofs.lemmas.List.{map-append}
use Rattle.osm_model.specs.Filter.{FilterValue}
use Rattle.osm_model.specs.declared.memory.WantOfMemory.{WantOfMemory}
use Rattle.osm_save.specs.declared.head.Head.{Head}
use Rattle.osm_save.specs.declared.save.Saved.{Saved}
use Rattle.osm_journal.specs.Journal.{BatchValue, Follow, IsBatch, IsJournal, JournalValue, SpellsJournal, batches_text, journal_text, last_number}
use Rattle.osm_journal.specs.Journal.{batch_line, batch_of}
use Rattle.osm_journal.specs.declared.batch.Batch.{Batch}
use Rattle.osm_journal.proofs.JournalLemmas.{one_journal}
use Rattle.osm_kept.specs.Finding.{IsStart}
use Rattle.osm_kept.specs.Kept.{AddsBatches, BelongsTo, ComesTo, HasJournal, IsNoJournal, Keeps}
use Rattle.osm_kept.specs.Reaching.{FindsEnds, HasBatches, IsNextText, IsReach, IsTextWithin, ends_of, journal_after}
use Rattle.osm_kept.specs.Refusal.{HasNoOther}
use Rattle.osm_kept.specs.Steps.Starting.{start_in}
use Rattle.osm_kept.specs.Steps.Writing.{IsMoreText}
use Rattle.osm_kept.specs.declared.found.JournalFile.{JournalFile}
use Rattle.osm_kept.specs.declared.found.JournalFile.TheVariants.{Counts, Nothing, OfAnother}
use Rattle.osm_kept.specs.declared.found.Reach.{Reach}
use Rattle.osm_kept.specs.declared.start.Start.{Start}
use Rattle.osm_kept.proofs.BatchLemmas.{all_append}
use Rattle.osm_kept.proofs.KeptLemmas.{no_bytes, same_belongs}
use Rattle.osm_kept.proofs.LawLemmas.{comes_of, journal_counts}
use Rattle.osm_kept.proofs.OtherLemmas.{older_says_nothing, own_is_no_other}
use Rattle.osm_kept.proofs.TakingLemmas.{IsSilent, own_belongs, silent_has}

-- ---- lists of batches

adds_all : (xs ys : List BatchValue) (old between new : Saved) → AddsBatches xs old between → AddsBatches ys between new → AddsBatches (xs ++ ys) old new
adds_all [] ys old between new same more = subst (λ (v : Saved). AddsBatches ys v new) same more
adds_all (x ∷ xs) ys old between new (middle, first, rest) more = (middle, first, adds_all xs ys middle between new rest more)

follow_all : (number : ℕ) (xs ys : List BatchValue) → Follow number xs → Follow (last_number number xs) ys → Follow number (xs ++ ys)
follow_all number [] ys follow more = more
follow_all number (x ∷ xs) ys follow more = (follow.0, follow_all x.number xs ys follow.1 more)

-- ---- the next journal

is_first : (s : Start) (bs : List BatchValue) → IsStart s → 0 < length bs → AllByRecursion IsBatch bs → Follow s.head.number bs
    → IsJournal (journal_after s bs)
is_first s bs is some each follow = record {
  head = is.head;
  filter = is.filter;
  tells = is.tells;
  objects = is.objects;
  some = some;
  batches = each;
  follow = follow;
}

is_more : (s : Start) (before bs : List BatchValue) → IsJournal (journal_after s before) → AllByRecursion IsBatch bs
    → Follow (last_number s.head.number before) bs → IsJournal (journal_after s (before ++ bs))
is_more s before bs is each follow = record {
  head = is.head;
  filter = is.filter;
  tells = is.tells;
  objects = is.objects;
  some = (let count = length-append before bs in let some = is.some in omega (arith, count, some));
  batches = all_append IsBatch before bs is.batches each;
  follow = follow_all s.head.number before bs is.follow follow;
}

-- the batches come after those of before
follows_past : (reach : Reach) (journal : JournalFile) (is : IsReach reach journal) (bs : List BatchValue) → Follow reach.head.number bs
    → Follow (last_number reach.start.head.number is.batches) bs
follows_past reach journal is bs follow = subst (λ (h : Head). Follow h.number bs) is.head follow

-- ---- what is kept with it

-- beside a journal that says nothing, what is kept is what is saved
silent_kept : (told file : Option (List ℕ)) (start v : Saved) → IsNoJournal told file → ComesTo told file start v → v ≡ start
silent_kept told file start v silent (inl (none, same)) = same
silent_kept told file start v silent (inr (j, has, adds)) = absurd (journal_counts told file j silent has)

pub begun_keeps : (told file : Option (List ℕ)) (s : Start) (bs : List BatchValue) (text : List ℕ) (v w : Saved) → IsNoJournal told file
    → BelongsTo (journal_after s bs) told → SpellsJournal text (journal_after s bs) → Keeps told file v → AddsBatches bs v w → Keeps told (Some text) w
begun_keeps told file s bs text v w silent belongs spells k adds = record {
  file = k.file;
  there = k.there;
  start = k.start;
  spells = k.spells;
  comes = inr (
    journal_after s bs,
    record { bytes = text; there = refl; spells = spells; belongs = belongs },
    subst (λ (x : Saved). AddsBatches bs x w) (silent_kept told file k.start v silent k.comes) adds,
  );
}

-- a journal with more batches belongs to the same saves
more_belongs : (told : Option (List ℕ)) (s : Start) (before bs : List BatchValue) → BelongsTo (journal_after s before) told
    → BelongsTo (journal_after s (before ++ bs)) told
more_belongs told s before bs b = record { file = b.file; there = b.there; rest = b.rest; begins = b.begins }

pub more_keeps : (told file : Option (List ℕ)) (s : Start) (before bs : List BatchValue) (text : List ℕ) (v w : Saved)
    → HasJournal told file (journal_after s before) → SpellsJournal text (journal_after s (before ++ bs)) → Keeps told file v
    → AddsBatches bs v w → Keeps told (Some text) w
more_keeps told file s before bs text v w has spells k adds = record {
  file = k.file;
  there = k.there;
  start = k.start;
  spells = k.spells;
  comes = inr (
    journal_after s (before ++ bs),
    record { bytes = text; there = refl; spells = spells; belongs = more_belongs told s before bs has.belongs },
    adds_all before bs k.start v w (comes_of told file (journal_after s before) k.start v has k.comes) adds,
  );
}

-- ---- none of another save

free_with : (told : Option (List ℕ)) (j : JournalValue) → IsJournal j → BelongsTo j told → HasNoOther told (Some (journal_text j))
free_with told j is belongs =
    own_is_no_other told (Some (journal_text j)) j
    (record { bytes = journal_text j; there = refl; spells = record { journal = is; text = refl }; belongs = belongs })

-- ---- answers

-- what the answer of the next journal says
pub record IsNext (most : ℕ) (reach : Reach) (journal : JournalFile) (bs : List BatchValue) (answer : Option (Vec ℕ Global)) : Type 0 where
  pub text : IsNextText most reach.start journal bs answer
  pub keeps : IfSome answer (λ out. (told file : Option (List ℕ)) (v w : Saved) → FindsEnds told file (ends_of reach journal)
      → Keeps told file v → AddsBatches bs v w → Keeps told (Some out.items) w)
  pub free : IfSome answer (λ out. (told file : Option (List ℕ)) → FindsEnds told file (ends_of reach journal)
      → HasNoOther told (Some out.items))

-- the same of every text, for lack of one
keeps_if : (most : ℕ) (text : List ℕ) (answer : Option (Vec ℕ Global)) (P : List ℕ → Type 0) → IsTextWithin most text answer → P text
    → IfSome answer (λ out. P out.items)
keeps_if most text None P is p = tt
keeps_if most text (Some out) P is p = subst P (sym is.0) p

silent_finds : (told file : Option (List ℕ)) (reach : Reach) (journal : JournalFile) → IsSilent journal → FindsEnds told file (ends_of reach journal)
    → IsNoJournal told file
silent_finds told file reach Nothing silent ends = no_bytes told file ends.journal_is
silent_finds told file reach OfAnother silent ends = older_says_nothing told file ends.journal_is
silent_finds told file reach (Counts bytes) silent ends = absurd silent

silent_holds : (reach : Reach) (journal : JournalFile) → IsSilent journal → HasBatches reach.start journal []
silent_holds reach Nothing silent = refl
silent_holds reach OfAnother silent = refl
silent_holds reach (Counts bytes) silent = absurd silent

pub first_next : (most : ℕ) (reach : Reach) (journal : JournalFile) (bs : List BatchValue) (answer : Option (Vec ℕ Global)) → IsSilent journal
    → IsReach reach journal → 0 < length bs → AllByRecursion IsBatch bs → Follow reach.head.number bs
    → IsTextWithin most (journal_text (journal_after reach.start bs)) answer → IsNext most reach journal bs answer
first_next most reach journal bs answer silent is some each follow text =
    let none = silent_has reach journal is.batches silent is.has in
    let after : Follow reach.start.head.number bs =
    subst (λ (l : List BatchValue). Follow (last_number reach.start.head.number l) bs) none (follows_past reach journal is bs follow) in
    let right : IsJournal (journal_after reach.start bs) = is_first reach.start bs is.is_start some each after in
    record {
      text = record { before = []; has = silent_holds reach journal silent; is = right; text = text };
      keeps = keeps_if most (journal_text (journal_after reach.start bs)) answer
          (λ (l : List ℕ). (told file : Option (List ℕ)) (v w : Saved) → FindsEnds told file (ends_of reach journal) → Keeps told file v
          → AddsBatches bs v w → Keeps told (Some l) w) text
          (λ told file v w ends k adds. begun_keeps told file reach.start bs (journal_text (journal_after reach.start bs)) v w
          (silent_finds told file reach journal silent ends)
          (same_belongs told reach.start (journal_after reach.start bs) ends.reached.starts refl)
          (record { journal = right; text = refl }) k adds);
      free = keeps_if most (journal_text (journal_after reach.start bs)) answer
          (λ (l : List ℕ). (told file : Option (List ℕ)) → FindsEnds told file (ends_of reach journal) → HasNoOther told (Some l)) text
          (λ told file ends. free_with told (journal_after reach.start bs) right
          (same_belongs told reach.start (journal_after reach.start bs) ends.reached.starts refl));
    }

pub more_next : (most : ℕ) (reach : Reach) (bytes : Vec ℕ Global) (bs : List BatchValue) (answer : Option (Vec ℕ Global))
    → IsReach reach (Counts bytes) → AllByRecursion IsBatch bs → Follow reach.head.number bs → IsMoreText most bytes.items bs answer
    → IsNext most reach (Counts bytes) bs answer
more_next most reach bytes bs answer is each follow more =
    let same : more.value ≡ journal_after reach.start is.batches =
    one_journal bytes.items more.value (journal_after reach.start is.batches) more.spells is.has in
    let text : IsTextWithin most (journal_text (journal_after reach.start (is.batches ++ bs))) answer =
    subst (λ (j : JournalValue). IsTextWithin most (journal_text (journal_after (start_in j) (j.batches ++ bs))) answer) same more.text in
    let right : IsJournal (journal_after reach.start (is.batches ++ bs)) =
    is_more reach.start is.batches bs is.has.journal each (follows_past reach (Counts bytes) is bs follow) in
    record {
      text = record { before = is.batches; has = is.has; is = right; text = text };
      keeps = keeps_if most (journal_text (journal_after reach.start (is.batches ++ bs))) answer
          (λ (l : List ℕ). (told file : Option (List ℕ)) (v w : Saved) → FindsEnds told file (ends_of reach (Counts bytes)) → Keeps told file v
          → AddsBatches bs v w → Keeps told (Some l) w) text
          (λ told file v w ends k adds. more_keeps told file reach.start is.batches bs
          (journal_text (journal_after reach.start (is.batches ++ bs))) v w (record {
            bytes = bytes.items;
            there = ends.journal_is.there;
            spells = is.has;
            belongs = own_belongs told file reach bytes is.batches is.has ends;
          })
          (record { journal = right; text = refl }) k adds);
      free = keeps_if most (journal_text (journal_after reach.start (is.batches ++ bs))) answer
          (λ (l : List ℕ). (told file : Option (List ℕ)) → FindsEnds told file (ends_of reach (Counts bytes)) → HasNoOther told (Some l)) text
          (λ told file ends. free_with told (journal_after reach.start (is.batches ++ bs)) right
          (more_belongs told reach.start is.batches bs (own_belongs told file reach bytes is.batches is.has ends)));
    }

-- ---- lengths

-- and one more batch makes it longer by its bytes at least
pub one_long : (bs : List BatchValue) (b : BatchValue) → length (batches_text bs) + length b.bytes ≤ length (batches_text (bs ++ b ∷ []))
one_long [] b =
    let first = length-append (batch_line b) (10 ∷ (b.bytes ++ 10 ∷ [])) in
    let last = length-append b.bytes (10 ∷ []) in
    omega (arith, first, last)
one_long (x ∷ xs) b =
    let rest = one_long xs b in
    let first = length-append (batch_line x) (10 ∷ (x.bytes ++ 10 ∷ batches_text xs)) in
    let more = length-append (batch_line x) (10 ∷ (x.bytes ++ 10 ∷ batches_text (xs ++ b ∷ []))) in
    let bytes = length-append x.bytes (10 ∷ batches_text xs) in
    let longer = length-append x.bytes (10 ∷ batches_text (xs ++ b ∷ [])) in
    omega (arith, rest, first, more, bytes, longer)

-- ---- what is written

abbrev Answer : Type 0
Answer = Result (Option (Vec ℕ Global)) WantOfMemory

pub first_written : (most : ℕ) (s : Start) (f : FilterValue) (items bs : List Batch) (r : Answer) → f ≡ s.filter → items ≡ bs
    → IfOk r (IsTextWithin most (journal_text (record {
      version = s.version;
      head = s.head;
      kept_by = f;
      objects = s.objects;
      batches = map batch_of items;
    })))
    → IfOk r (IsTextWithin most (journal_text (journal_after s (map batch_of bs))))
first_written most s f items bs r same_filter same written =
    subst (λ (l : List Batch). IfOk r (IsTextWithin most (journal_text (journal_after s (map batch_of l))))) same
    (subst (λ (g : FilterValue). IfOk r (IsTextWithin most (journal_text (record {
      version = s.version;
      head = s.head;
      kept_by = g;
      objects = s.objects;
      batches = map batch_of items;
    })))) same_filter written)

pub more_written : (most : ℕ) (bytes : List ℕ) (j : JournalValue) (old bs new : List Batch) (r : Answer) → SpellsJournal bytes j
    → j.batches ≡ map batch_of old → new ≡ old ++ bs
    → IfOk r (IsTextWithin most (journal_text (journal_after (start_in j) (map batch_of new))))
    → IfOk r (IsMoreText most bytes (map batch_of bs))
more_written most bytes j old bs new (Ok answer) spells has more written = record {
  value = j;
  spells = spells;
  text = subst (λ (l : List BatchValue). IsTextWithin most (journal_text (journal_after (start_in j) l)) answer)
      (ap (map batch_of) more ∙ (map-append batch_of old bs ∙ ap (λ (l : List BatchValue). l ++ map batch_of bs) (sym has))) written;
}
more_written most bytes j old bs new (Err error) spells has more written = tt
