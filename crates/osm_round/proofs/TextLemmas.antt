-- The text of the journal with what a run gathered.
use Rattle.std.proofs.Common.{◌≡◌, ℕ, ◌+◌, ◌<◌, ◌≤◌, List, [], ◌∷◌, ◌++◌, length, length-append, map, codes, Option, Some, None, true, false, inl, inr}
use Rattle.std.proofs.Common.{arith, refl, sym, ap, subst, ◌∙◌}
use Rattle.std.proofs.lemmas.Option.{same_Some}
use Rattle.std.specs.Prelude.{◌⊎◌, Result, Ok, Err, IfOk, IfSome, Vec}
use Rattle.std.specs.List.{AllByRecursion}
use Rattle.osm_model.specs.Filter.{FilterValue}
use Rattle.osm_save.specs.Lines.{ended}
use Rattle.osm_save.specs.declared.head.Head.{Head}
use Rattle.osm_store.specs.Files.{Files, Puts}
use Rattle.osm_journal.specs.Journal.{BatchValue, IsBatch, JournalValue, SpellsJournal, batch_line, batches_text, journal_text, opening_lines}
use Rattle.osm_kept.specs.Laws.{OwnIsNoOther}
use Rattle.osm_kept.specs.Names.{JournalHasOwnName, journal_name_of}
use Rattle.osm_kept.specs.Reaching.{FindsEnds, IsFileOf, IsNextText, IsReach, ends_of, journal_after}
use Rattle.osm_kept.specs.declared.found.JournalFile.{JournalFile}
use Rattle.osm_kept.specs.declared.found.JournalFile.TheVariants.{Counts, Nothing, OfAnother}
use Rattle.osm_kept.specs.declared.found.Reach.{Reach}
use Rattle.osm_kept.specs.declared.start.Start.{Start}
use Rattle.osm_kept.proofs.KeptLemmas.{no_bytes}
use Rattle.osm_kept.proofs.OtherLemmas.{older_says_nothing}
use Rattle.osm_kept.proofs.TakingLemmas.{are_batches as are_batches_in, begins_so}
use Rattle.osm_kept.proofs.LawLemmas.{journal_some}
use Rattle.osm_round.specs.Gathering.{Gathers, GathersIn, KeepsUpTo, batch_in, total_of}
use Rattle.osm_round.specs.Keeping.{HasRightJournal, IsFree, IsJournalAfter, IsJournalWith, IsLongWith, IsShortAfter, StaysBesideSmall}
use Rattle.osm_round.specs.KeepingSteps.{IsJournalWithAll, IsMostBeside, IsTextOf, bound_of}
use Rattle.osm_round.specs.declared.gathered.Gathered.{Gathered}
use Rattle.osm_round.specs.declared.kept.Sizes.{Sizes}
use Rattle.osm_round.specs.News.{TakenValue}
use Rattle.osm_round.proofs.KeepingLemmas.{small_none, written_surely}

-- ---- what was gathered

module _ (f : FilterValue) (head : Head) (most : ℕ) (taken : TakenValue) (g : Gathered) (gathers : Gathers f head most taken g) (whole : g.is_whole ≡ true)
    (bs : List BatchValue) (same : bs ≡ map batch_in g.texts.items) where
  all_kept : (batches : List BatchValue) → KeepsUpTo most batches g g.is_whole → KeepsUpTo most batches g true
  all_kept batches keeps = subst (KeepsUpTo most batches g) whole keeps

  pub are_batches : (batches : List BatchValue) → KeepsUpTo most batches g g.is_whole → bs ≡ batches
  are_batches batches keeps = same ∙ (all_kept batches keeps).0

  own : bs ≡ gathers.batches
  own = are_batches gathers.batches gathers.keeps

  pub some_batches : head.number < taken.head.number → 0 < length bs
  some_batches above =
      let number = gathers.after.number in
      let count : length bs ≡ length gathers.batches = ap length own in
      omega (arith, above, number, count)

  pub each_batch : AllByRecursion IsBatch bs
  each_batch = subst (AllByRecursion IsBatch) (sym own) (all_kept gathers.batches gathers.keeps).1

-- ---- the journal of before

pub right_before : (save : List ℕ) (files : Files) (file : JournalFile) → IsFileOf (files save) (files (journal_name_of save)) file
    → HasRightJournal save files
right_before save files Nothing is = ([], inl (no_bytes (files save) (files (journal_name_of save)) is, refl))
right_before save files OfAnother is = ([], inl (older_says_nothing (files save) (files (journal_name_of save)) is, refl))
right_before save files (Counts bytes) is =
    (is.value.batches, inr (is.value, record { bytes = bytes.items; there = is.there; spells = is.spells; belongs = is.belongs }, refl))

-- ---- its length

batch_length : (b : BatchValue) (rest : List ℕ)
    → length (batch_line b ++ 10 ∷ (b.bytes ++ 10 ∷ rest)) ≡ length (batch_line b) + length b.bytes + length rest + 2
batch_length b rest =
    let one = length-append (batch_line b) (10 ∷ (b.bytes ++ 10 ∷ rest)) in
    let two = length-append b.bytes (10 ∷ rest) in
    omega (arith, one, two)

total_text : (bs : List BatchValue) → total_of bs ≤ length (batches_text bs)
total_text [] = omega arith
total_text (b ∷ bs) =
    let first = batch_length b (batches_text bs) in
    let rest = total_text bs in
    omega (arith, first, rest)

total_after : (before bs : List BatchValue) → total_of bs ≤ length (batches_text (before ++ bs))
total_after [] bs = total_text bs
total_after (b ∷ before) bs =
    let first = batch_length b (batches_text (before ++ bs)) in
    let rest = total_after before bs in
    omega (arith, first, rest)

long_text : (j : JournalValue) (before bs : List BatchValue) → j.batches ≡ before ++ bs → total_of bs < length (journal_text j)
long_text j before bs is =
    let one = length-append (ended (opening_lines j)) (batches_text j.batches ++ codes "end\n") in
    let two = length-append (batches_text j.batches) (codes "end\n") in
    let tail : length (codes "end\n") ≡ 4 = refl in
    let total : total_of bs ≤ length (batches_text j.batches) = subst (λ l. total_of bs ≤ length (batches_text l)) (sym is) (total_after before bs) in
    omega (arith, one, two, tail, total)

-- ---- it would be too long

module _ (most : ℕ) (reach : Reach) (file : JournalFile) (told journal : Option (List ℕ)) (found : FindsEnds told journal (ends_of reach file)) where
  -- since what was gathered is
  pub long_gathered : IsReach reach file → (g : Gathered) (batches : List BatchValue) → g.is_whole ≡ false → KeepsUpTo most batches g g.is_whole
      → IsLongWith most told journal batches
  long_gathered is g batches cut keeps = record {
    before = is.batches;
    are_old = are_batches_in told journal reach.start file is.batches found.reached.starts found.journal_is is.has;
    journal = journal_after reach.start (is.batches ++ batches);
    belongs = begins_so told reach.start (is.batches ++ batches) found.reached.starts;
    has = refl;
    long = by_reason (subst (KeepsUpTo most batches g) cut keeps);
  }
    where
      text : total_of batches < length (journal_text (journal_after reach.start (is.batches ++ batches)))
      text = long_text (journal_after reach.start (is.batches ++ batches)) is.batches batches refl

      by_reason : (most < total_of batches) ⊎ (most ≡ 0) → most < length (journal_text (journal_after reach.start (is.batches ++ batches)))
      by_reason (inl over) = omega (arith, over, text)
      by_reason (inr none) = omega (arith, none, text)

  -- since its text is
  pub long_next : {Z : Type 0} (bs batches : List BatchValue) → bs ≡ batches → IsNextText {Z = Z} most reach.start file bs None
      → IsLongWith most told journal batches
  long_next bs batches same next = record {
    before = next.before;
    are_old = are_batches_in told journal reach.start file next.before found.reached.starts found.journal_is next.has;
    journal = journal_after reach.start (next.before ++ bs);
    belongs = begins_so told reach.start (next.before ++ bs) found.reached.starts;
    has = ap (λ l. next.before ++ l) same;
    long = next.text;
  }

-- ---- answers that may be none

pub some_map : {T E : Type 0} (P Q : T → Type 0) (r : Result (Option T) E) → IfOk r (λ o. IfSome o P) → ((x : T) → P x → Q x)
    → IfOk r (λ o. IfSome o Q)
some_map P Q (Ok (Some x)) p f = f x p
some_map P Q (Ok None) p f = tt
some_map P Q (Err e) p f = tt

pub none_next : {Z E : Type 0} (most : ℕ) (start : Start) (file : JournalFile) (bs : List BatchValue) (Q : Type 0) (r : Result (Option (Vec ℕ Z)) E)
    → IfOk r (IsNextText most start file bs) → (IsNextText {Z = Z} most start file bs None → Q) → IfOk r (λ o. o ≡ None → Q)
none_next most start file bs Q (Ok o) next f = λ none. f (subst (IsNextText most start file bs) none next)
none_next most start file bs Q (Err e) next f = tt

-- the text is that of a journal with what was gathered
pub journal_next : {Z E : Type 0} (most : ℕ) (reach : Reach) (file : JournalFile) (g : Gathered) (bs : List BatchValue) (r : Result (Option (Vec ℕ Z)) E)
    → g.is_whole ≡ true → bs ≡ map batch_in g.texts.items → IfOk r (IsNextText most reach.start file bs)
    → IfOk r (λ o. IfSome o (λ text. IsTextOf reach file g text.items))
journal_next most reach file g bs (Ok (Some text)) whole same next = (let is = next.text.0 in
    record {
      whole = whole;
      is = λ told journal found. record {
        before = next.before;
        are_old = are_batches_in told journal reach.start file next.before found.reached.starts found.journal_is next.has;
        value = journal_after reach.start (next.before ++ bs);
        spells = record { journal = next.is; text = is };
        belongs = begins_so told reach.start (next.before ++ bs) found.reached.starts;
        has = ap (λ l. next.before ++ l) same;
      };
    })
journal_next most reach file g bs (Ok None) whole same next = tt
journal_next most reach file g bs (Err e) whole same next = tt

-- ---- the journal that is left

pub text_batches : (save : List ℕ) (reach : Reach) (file : JournalFile) (g : Gathered) (bytes : List ℕ) (old new : Files)
    → FindsEnds (old save) (old (journal_name_of save)) (ends_of reach file) → IsTextOf reach file g bytes
    → new (journal_name_of save) ≡ Some bytes → IsJournalWithAll save g old new
text_batches save reach file g bytes old new found text there =
    inr (record { whole = text.whole; bytes = bytes; there = there; is = text.is (old save) (old (journal_name_of save)) found })

-- which isn't empty
spelled_some : (bytes : List ℕ) (j : JournalValue) → SpellsJournal bytes j → length bytes ≤ 0 → ⊥
spelled_some [] j spells short = journal_some j spells
spelled_some (b ∷ bs) j spells short = absurd (omega (arith, short))

pub text_some : (told journal : Option (List ℕ)) (reach : Reach) (file : JournalFile) (g : Gathered) (bytes : List ℕ)
    → FindsEnds told journal (ends_of reach file) → IsTextOf reach file g bytes → length bytes ≤ 0 → ⊥
text_some told journal reach file g bytes found text short = let is = text.is told journal found in spelled_some bytes is.value is.spells short

-- so none is written beside a small save
pub stays_small : (sizes : Sizes) (dir save : List ℕ) (old new : Files) (most : Option ℕ) → IsMostBeside sizes (old save) most
    → IsShortAfter (bound_of most) save old new → IsJournalAfter dir save old new → StaysBesideSmall sizes.small save old new
stays_small sizes dir save old new most beside (inl same) after small = same
stays_small sizes dir save old new most beside (inr short) (inl same) small = same
stays_small sizes dir save old new most beside (inr (bytes, there, short)) (inr has) small =
    let same : bytes ≡ has.bytes = same_Some _ _ (sym there ∙ has.there) in
    let none : bound_of most ≡ 0 = ap bound_of (small_none sizes (old save) most beside small) in
    let empty : length has.bytes ≤ 0 = subst (λ (l : List ℕ). length l ≤ 0) same (omega (arith, none, short)) in
    absurd (spelled_some has.bytes has.is.value has.is.spells empty)

-- no run is refused for it
pub appended_free : JournalHasOwnName → (save : List ℕ) (old new : Files) (reach : Reach) (file : JournalFile) (g : Gathered)
    (bytes : List ℕ) → OwnIsNoOther → FindsEnds (old save) (old (journal_name_of save)) (ends_of reach file) → IsTextOf reach file g bytes
    → Puts old (journal_name_of save) (Some bytes) new → IsFree save new
appended_free named save old new reach file g bytes law found text put =
    let is = text.is (old save) (old (journal_name_of save)) found in
    let same : new save ≡ old save = put.others save (λ same. named save (sym same)) in
    rw (same, put.there) (law (old save) (Some bytes) is.value
    (record { bytes = bytes; there = refl; spells = is.spells; belongs = is.belongs }))

pub journal_after_run : (known : Type 0) (dir save : List ℕ) (f : FilterValue) (head : Head) (most : ℕ) (taken : TakenValue) (g : Gathered) (old new : Files)
    → known → GathersIn known old dir f head most taken g → IsJournalWithAll save g old new → IsJournalAfter dir save old new
journal_after_run known dir save f head most taken g old new sure gathers (inl same) = inl same
journal_after_run known dir save f head most taken g old new sure gathers (inr has) =
    let same : map batch_in g.texts.items ≡ gathers.gathers.batches = are_batches f head most taken g gathers.gathers has.whole (map batch_in g.texts.items)
    refl gathers.gathers.batches gathers.gathers.keeps in
    inr (record {
      batches = gathers.gathers.batches;
      written = written_surely known old dir gathers.gathers.batches sure gathers.written;
      bytes = has.bytes;
      there = has.there;
      is = subst (λ l. IsJournalWith (old save) (old (journal_name_of save)) l has.bytes) same has.is;
    })
