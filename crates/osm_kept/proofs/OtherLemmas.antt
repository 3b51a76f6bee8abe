-- Journals of other saves: that end above a save, and that don't.
use Rattle.std.proofs.Common.{◌≡◌, ℕ, ◌<◌, ◌≤◌, List, ◌++◌, length, drop, Option, Some, None, inl, inr, arith, refl, sym, ap, subst, ◌∙◌}
use Rattle.std.proofs.lemmas.Option.{same_Some}
use Rattle.osm_save.specs.Save.{SpellsSave, save_text}
use Rattle.osm_save.specs.declared.save.Saved.{Saved}
use Rattle.osm_journal.specs.Journal.{JournalValue, SpellsJournal}
use Rattle.osm_journal.proofs.BatchLemmas.{number_reached}
use Rattle.osm_journal.proofs.JournalLemmas.{one_journal}
use Rattle.osm_kept.specs.Finding.{IsStart, StartsAs, bytes_of}
use Rattle.osm_kept.specs.Kept.{BelongsTo, IsOfAnother}
use Rattle.osm_kept.specs.Laws.{EmptyIsNoOther, MergedIsOlder, OlderIsNoOther, OlderSaysNothing, OlderStays, OneIsAt, OneIsOther, OwnIsNoOther}
use Rattle.osm_kept.specs.Laws.{SavedIsAt}
use Rattle.osm_kept.specs.Reaching.{FindsEnds, IsFileOf}
use Rattle.osm_kept.specs.Refusal.{EndsStop, HasNoOther, IsAt, IsBelow, IsOlder, IsOther}
use Rattle.osm_kept.specs.Steps.Taking.{Holds, IsOfAbove, IsOfOlder, ReachStops, last_in}
use Rattle.osm_kept.specs.declared.fault.KeptFault.{KeptFault}
use Rattle.osm_kept.specs.declared.fault.KeptFault.TheVariants.{BadJournal, OtherJournal, WantOfMemory}
use Rattle.osm_kept.specs.declared.found.Ends.{Ends}
use Rattle.osm_kept.specs.declared.found.JournalFile.{JournalFile}
use Rattle.osm_kept.specs.declared.found.JournalFile.TheVariants.{Counts, Nothing, OfAnother}
use Rattle.osm_kept.specs.declared.start.Start.{Start}
use Rattle.osm_kept.proofs.KeptLemmas.{belongs_same, some_bytes}
use Rattle.osm_kept.proofs.LawLemmas.{journal_some, kept_number, same_file, start_number}
use Rattle.osm_kept.proofs.StartLemmas.{is_start_of, lines_of, one_start, saved_begins, saved_start, start_of_saved}

-- ---- the number of a save

pub one_is_at : OneIsAt
one_is_at told m n a b =
    let same : a.start ≡ b.start =
    one_start a.starts.file a.start b.start a.starts.rest b.starts.rest a.is_start b.is_start a.starts.begins
    (same_file told a.starts.file b.starts.file a.starts.there b.starts.there ∙ b.starts.begins) in
    a.number_is ∙ (ap (λ (s : Start). s.head.number) same ∙ sym b.number_is)

pub saved_is_at : SavedIsAt
saved_is_at file v x =
    let s : Start = start_of_saved x.version v in
    let rest : List ℕ = drop (length (lines_of s)) (save_text x.version v) in
    let is : IsStart s = saved_start x.version v x.savable in
    let begins : file ≡ lines_of s ++ rest = x.text ∙ saved_begins x.version v in
    record {
      start = s;
      is_start = is;
      starts = record { file = file; there = refl; rest = rest; begins = begins; is = λ w y. is_start_of file w s rest is begins y };
      number_is = refl;
    }

pub start_at_number : (told : Option (List ℕ)) (s : Start) → IsStart s → StartsAs told s → IsAt told s.head.number
start_at_number told s is starts = record { start = s; is_start = is; starts = starts; number_is = refl }

-- ---- one journal

pub file_bytes : (journal : Option (List ℕ)) (bytes : List ℕ) → journal ≡ Some bytes → bytes_of journal ≡ bytes
file_bytes None bytes there = absurd (let bad = there in cc)
file_bytes (Some all) bytes there = same_Some all bytes there

same_value : (journal : Option (List ℕ)) (bytes : List ℕ) (i j : JournalValue) → journal ≡ Some bytes → SpellsJournal (bytes_of journal) i
    → SpellsJournal bytes j → i ≡ j
same_value journal bytes i j there p q =
    one_journal bytes i j (subst (λ (l : List ℕ). SpellsJournal l i) (file_bytes journal bytes there) p) q

pub one_is_other : OneIsOther
one_is_other told journal m n a b =
    let same : a.value ≡ b.value =
    same_value journal b.bytes a.value b.value b.there (subst (λ (l : List ℕ). SpellsJournal l a.value) (sym (file_bytes journal a.bytes a.there)) a.spells)
    b.spells in
    a.ends ∙ (ap last_in same ∙ sym b.ends)

-- ---- none of another save that ends above

pub own_is_no_other : OwnIsNoOther
own_is_no_other told journal j has number is =
    let same : j ≡ is.value =
    same_value journal is.bytes j is.value is.there (subst (λ (l : List ℕ). SpellsJournal l j) (sym (file_bytes journal has.bytes has.there)) has.spells)
    is.spells in
    is.other (subst (λ (x : JournalValue). BelongsTo x told) same has.belongs)

pub not_below : (told : Option (List ℕ)) (at number : ℕ) → IsAt told at → number ≤ at → IsBelow told number → ⊥
not_below told at number is within (inl none) = (let bad : ◌≡◌ {A = Option (List ℕ)} None (Some is.starts.file) = sym none ∙ is.starts.there in cc)
not_below told at number is within (inr (low, there, below)) =
    let same = one_is_at told at low is there in
    omega (arith, same, within, below)

pub older_is_no_other : OlderIsNoOther
older_is_no_other told journal older number is =
    let same : older.value ≡ is.value = same_value journal is.bytes older.value is.value is.there older.spells is.spells in
    let ends : number ≡ last_in older.value = is.ends ∙ ap last_in (sym same) in
    let within = older.within in
    not_below told older.at number older.is_at (omega (arith, ends, within)) is.above

pub empty_is_no_other : EmptyIsNoOther
empty_is_no_other told journal none number is =
    journal_some is.value (subst (λ (l : List ℕ). SpellsJournal l is.value) (sym (file_bytes journal is.bytes is.there) ∙ none) is.spells)

-- ---- one that doesn't end above

pub older_says_nothing : OlderSaysNothing
older_says_nothing told None older = tt
older_says_nothing told (Some bytes) older = inr (record { value = older.value; spells = older.spells; other = older.other })

pub older_another : (told : Option (List ℕ)) (bytes : List ℕ) → IsOlder told bytes → IsOfAnother told bytes
older_another told bytes older = record { value = older.value; spells = older.spells; other = older.other }

-- beside every save that isn't below its last number
stays_older : (bytes file : List ℕ) (j : JournalValue) (w : Saved) → SpellsJournal bytes j → SpellsSave file w → last_in j ≤ w.number
    → IsOlder (Some file) bytes
stays_older bytes file j w spells x within = record {
  value = j;
  spells = spells;
  other = λ belongs. (let is = spells.journal in
      let number = number_reached j.batches j.head.number is.follow in
      let some = is.some in
      let after = start_number (Some file) j file w x refl is belongs in
      omega (arith, number, some, after, within));
  at = w.number;
  is_at = saved_is_at file w x;
  within = within;
}

pub older_stays : OlderStays
older_stays told journal file w older x more =
    let within = older.within in
    stays_older (bytes_of journal) file older.value w older.spells x (omega (arith, within, more))

pub merged_is_older : MergedIsOlder
merged_is_older told journal j v w file has k more x =
    let before = kept_number told journal j v has k in
    stays_older (bytes_of journal) file j w (subst (λ (l : List ℕ). SpellsJournal l j) (sym (file_bytes journal has.bytes has.there)) has.spells) x
    (omega (arith, before, more))

-- ---- what is found at the ends of two files

pub ends_free : (told journal : Option (List ℕ)) (ends : Ends) → FindsEnds told journal ends → HasNoOther told journal
ends_free told journal ends finds = by_file ends.journal finds.journal_is
  where
    by_file : (file : JournalFile) → IsFileOf told journal file → HasNoOther told journal
    by_file Nothing is = empty_is_no_other told journal is
    by_file OfAnother is = older_is_no_other told journal is
    by_file (Counts bytes) is =
        own_is_no_other told journal is.value (record { bytes = bytes.items; there = is.there; spells = is.spells; belongs = is.belongs })

pub of_older : (told : Option (List ℕ)) (s : Start) (bytes : List ℕ) → StartsAs told s → IsStart s → IsOfOlder s bytes → IsOlder told bytes
of_older told s bytes starts is older = record {
  value = older.value;
  spells = older.spells;
  other = λ belongs. older.other (belongs_same told s older.value starts is older.spells.journal belongs);
  at = s.head.number;
  is_at = start_at_number told s is starts;
  within = older.within;
}

above_other : (told journal : Option (List ℕ)) (s : Start) (bytes : List ℕ) (number : ℕ) → IsStart s → 0 < length bytes → Holds told journal s bytes
    → IsOfAbove s bytes number → IsOther told journal number
above_other told journal s bytes number is some holds above = record {
  bytes = bytes;
  there = some_bytes journal bytes holds.journal_is some;
  value = above.value;
  spells = above.spells;
  ends = above.ends;
  other = λ belongs. above.other (belongs_same told s above.value holds.starts is above.spells.journal belongs);
  above = inr (s.head.number, start_at_number told s is holds.starts, above.above);
}

pub reach_stops : (told journal : Option (List ℕ)) (s : Start) (bytes : List ℕ) (fault : KeptFault) → IsStart s → 0 < length bytes
    → Holds told journal s bytes → ReachStops s bytes fault → EndsStop told journal fault
reach_stops told journal s bytes (OtherJournal number) is some holds stops = above_other told journal s bytes number is some holds stops
reach_stops told journal s bytes (BadJournal line) is some holds stops =
    record { bytes = bytes; there = some_bytes journal bytes holds.journal_is some; some = some; none = stops }
reach_stops told journal s bytes WantOfMemory is some holds stops = tt
reach_stops told journal s bytes fault is some holds stops = absurd stops
