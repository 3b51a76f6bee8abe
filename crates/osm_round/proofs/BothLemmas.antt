-- What a run leaves in a save and the journal beside it.
use Rattle.std.proofs.Common.{◌≡◌, ℕ, ◌<◌, ◌≤◌, List, [], length, Option, Some, None, inl, inr}
use Rattle.std.proofs.Common.{arith, refl, sym, ap, subst, ◌∙◌}
use Rattle.std.specs.Prelude.{◌⊎◌}
use Rattle.std.proofs.lemmas.Option.{same_Some}
use Rattle.osm_model.specs.Filter.{FilterValue}
use Rattle.osm_model.specs.Limits.{max_sequence}
use Rattle.osm_mirror.specs.Mirror.{MirrorValue}
use Rattle.osm_net.specs.Laid.{laid_on}
use Rattle.osm_net.specs.Net.{IsNet}
use Rattle.osm_net.specs.NetLaws.{JoinedIsLaid}
use Rattle.osm_save.specs.Save.{SpellsSave, save_text, saved_with}
use Rattle.osm_save.specs.declared.head.Head.{Head}
use Rattle.osm_save.specs.declared.save.Saved.{Saved}
use Rattle.osm_save.specs.declared.version.Version.TheVariants.{Three}
use Rattle.osm_store.specs.Files.{Files, Puts}
use Rattle.osm_merge.specs.Merging.{HasTooMany, IsMerged}
use Rattle.osm_journal.specs.Journal.{BatchValue, JournalValue, SpellsJournal, journal_text}
use Rattle.osm_kept.specs.Finding.{KeepsAs, bytes_of, kept_after}
use Rattle.osm_kept.specs.Kept.{AddsBatches, IsNoJournal, Keeps}
use Rattle.osm_kept.specs.Laws.{EmptyIsNoOther, MergedIsOlder, OlderIsNoOther, OlderStays, OneIsKept, SavedIsKept}
use Rattle.osm_kept.specs.Names.{JournalHasOwnName, journal_name_of}
use Rattle.osm_kept.specs.Reaching.{FindsEnds, IsFileOf, IsReach, IsReached as IsReachedBy, ends_of, kept_of}
use Rattle.osm_kept.specs.Refusal.{HasNoOther, IsOlder}
use Rattle.osm_kept.specs.declared.found.Ends.{Ends}
use Rattle.osm_kept.specs.declared.found.JournalFile.{JournalFile}
use Rattle.osm_kept.specs.declared.found.JournalFile.TheVariants.{Counts, Nothing, OfAnother}
use Rattle.osm_kept.specs.declared.found.Reach.{Reach}
use Rattle.osm_runs.specs.Checking.{IsTooLarge}
use Rattle.osm_runs.specs.Following.{IsSaved, no_save}
use Rattle.osm_runs.specs.Keeping.{IsKept, KeptIn}
use Rattle.osm_runs.specs.Following.{no_head}
use Rattle.osm_runs.specs.declared.fault.RunFault.{RunFault}
use Rattle.osm_runs.specs.declared.fault.RunFault.TheVariants.{Absent, BadJournal, BadSave, Changed, ReadFault, TooLarge, WantOfMemory, WriteFault}
use Rattle.osm_runs.proofs.KeepingLemmas.{one_is_kept}
use Rattle.osm_round.specs.Gathering.{AreAfter}
use Rattle.osm_round.specs.Keeping.{IsFree, SavesAlone, WasKept}
use Rattle.osm_round.specs.KeepingSteps.{AreAt, HasManyKept, HasNeither, JoinStops, JoinsTo, JournalStays, KeepsAfter, PutKeptStops, PutsKept, PutsSave}
use Rattle.osm_round.specs.KeepingSteps.{SavesOnly}
use Rattle.osm_round.specs.Putting.{IsMadeOf, saved_after}
use Rattle.osm_round.specs.Rounds.{IsWhole}
use Rattle.osm_round.specs.declared.gathered.Gathered.{Gathered}
use Rattle.osm_round.specs.Starting.{MergeStops}
use Rattle.osm_round.specs.Taking.{IsNothing}
use Rattle.osm_round.specs.News.{TakenValue}
use Rattle.osm_net.proofs.NetLemmas.{none_changes_nothing}
use Rattle.osm_kept.proofs.KeptLemmas.{no_bytes}
use Rattle.osm_kept.proofs.OtherLemmas.{older_says_nothing}
use Rattle.osm_kept.proofs.LawLemmas.{journal_some}
use Rattle.osm_round.proofs.KeepingLemmas.{kept_orderly}
use Rattle.osm_round.proofs.PutLemmas.{merged_spells}

-- the laws of a journal beside a save that is written
pub record BesideLaws : Type 0 where
  pub one_kept : OneIsKept
  pub saved : SavedIsKept
  pub stays : OlderStays
  pub merged_older : MergedIsOlder
  pub older : OlderIsNoOther
  pub no_bytes : EmptyIsNoOther

-- ---- what was read of the two files

-- with a save, they are how far it reaches and what its journal's file is
pub ends_are : (ends : Ends) (reach : Reach) → ends.kept ≡ Some reach → ends ≡ ends_of reach ends.journal
ends_are ends reach is = ap (λ (k : Option Reach). record { kept = k; journal = ends.journal }) is

-- if there is no save, there is no journal or an empty one
pub neither : (save : List ℕ) (files : Files) (ends : Ends) → FindsEnds (files save) (files (journal_name_of save)) ends → ends.kept ≡ None
    → HasNeither save files
neither save files ends found absent = record { none = none; empty = by_file ends.journal found.journal_is }
  where
    none : files save ≡ None
    none = subst (IsReachedBy (files save) (files (journal_name_of save))) absent found.reached

    by_file : (f : JournalFile) → IsFileOf (files save) (files (journal_name_of save)) f → bytes_of (files (journal_name_of save)) ≡ []
    by_file Nothing is = is
    by_file OfAnother is = absurd (let bad : None ≡ Some is.is_at.starts.file = sym none ∙ is.is_at.starts.there in cc)
    by_file (Counts bytes) is = absurd (let bad : None ≡ Some is.belongs.file = sym none ∙ is.belongs.there in cc)

pub neither_free : EmptyIsNoOther → (save : List ℕ) (old new : Files) → HasNeither save old → JournalStays save old new → IsFree save new
neither_free empty save old new none same = empty (new save) (new (journal_name_of save)) (ap bytes_of same ∙ none.empty)

-- a save that is written, or a run that takes nothing, leaves the journal as it is
pub puts_save : (most : Option ℕ) (given : FilterValue) (save : List ℕ) (taken : TakenValue) (g : Gathered) (old new : Files)
    → PutsSave given save taken old new → (most ≡ None → IsWhole (old save)) → SavesOnly most given save g old new → PutsKept most given save taken g old new
puts_save most given save taken g old new puts whole stays = record {
  kept = puts.kept;
  alone = puts.alone;
  whole = whole;
  stays = stays;
  short = inl puts.journal;
  batches = inl puts.journal;
  free = puts.free;
}

module _ (named : JournalHasOwnName) (given : FilterValue) (save : List ℕ) (old : Files) where
  apart : save ≡ journal_name_of save → ⊥
  apart same = named save (sym same)

  -- what is spelled by a save that was written, and is kept then, is kept by it alone
  saved_alone : OneIsKept → (new : Files) (text : List ℕ) (w : Saved) → new save ≡ Some text → SpellsSave text w → IsKept given save new w
      → SavesAlone given save old new
  saved_alone one new text w there spells kept = inr (λ v is.
      subst (λ t. IsSaved given t v) (sym there) (subst (SpellsSave text) (one_is_kept one given save new w v kept is) spells))

  -- ---- nothing is new

  pub puts_still : (most : Option ℕ) (g : Gathered) (new : Files) (head : Head) (taken : TakenValue) → AreAt given save old head → IsNothing head taken
      → new ≡ old → IsFree save old → (most ≡ None → IsWhole (old save)) → PutsKept most given save taken g old new
  puts_still most g new head taken at none same free whole =
      let save_is : new save ≡ old save = ap (λ (f : Files). f save) same in
      let journal_is : JournalStays save old new = ap (λ (f : Files). f (journal_name_of save)) same in
      record {
        kept = record {
          kept = λ start kept. (let head_is = (at start kept).0 in
              let after : saved_after start taken ≡ start = rw (none.0, none.1, ← head_is, none_changes_nothing start.mirror) refl in
              rw (same, after) kept);
          there = λ none. sym save_is ∙ none;
          others = λ name a b. ap (λ (f : Files). f name) same;
        };
        alone = inl save_is;
        whole = whole;
        stays = inl save_is;
        short = inl journal_is;
        batches = inl journal_is;
        free = subst (IsFree save) (sym same) free;
      }

  -- ---- the journal is written

  pub keeps_appended : (new : Files) (reach : Reach) (file : JournalFile) (taken : TakenValue) (text : List ℕ) (batches : List BatchValue)
      → FindsEnds (old save) (old (journal_name_of save)) (ends_of reach file) → AreAt given save old reach.head → AreAfter given reach.head taken batches
      → ((told journal : Option (List ℕ)) (v w : Saved) → FindsEnds told journal (ends_of reach file) → Keeps told journal v
      → AddsBatches batches v w → Keeps told (Some text) w)
      → Puts old (journal_name_of save) (Some text) new → KeepsAfter given save taken old new
  keeps_appended new reach file taken text batches found at after keeps put =
      let same : new save ≡ old save = put.others save apart in
      let there : old save ≡ Some found.reached.starts.file = found.reached.starts.there in
      let journal = old (journal_name_of save) in
      record {
        kept = λ start kept. (let is = at start kept in
            let w = saved_after start taken in
            let adds : AddsBatches batches start w =
            after.adds start is.0 is.1 (kept_orderly given (old save) journal start kept) in
            let here : Keeps (Some found.reached.starts.file) journal start = subst (λ t. KeptIn given t journal start) there kept in
            let now : Keeps (Some found.reached.starts.file) (Some text) w = subst (λ t. Keeps t (Some text) w) there
            (keeps (old save) journal start w found (subst (λ t. Keeps t journal start) (sym there) here) adds) in
            subst (λ t. KeptIn given t (new (journal_name_of save)) w) (sym (same ∙ there))
            (subst (λ j. Keeps (Some found.reached.starts.file) j w) (sym put.there) now));
        there = λ none. sym same ∙ none;
        others = λ name a b. put.others name b;
      }

  -- ---- a save is made

  pub puts_nothing : EmptyIsNoOther → (taken : TakenValue) → HasNeither save old → IsNothing no_head taken → PutsSave given save taken old old
  puts_nothing empty taken none nothing = record {
    kept = record {
      kept = λ start kept. (let begins : start ≡ no_save given = subst (λ t. KeptIn given t (old (journal_name_of save)) start) none.none kept in
          let after : saved_after start taken ≡ start = rw (begins, nothing.0, nothing.1, none_changes_nothing (no_save given).mirror) refl in
          rw after kept);
      there = λ absent. none.none;
      others = λ name a b. refl;
    };
    alone = inl refl;
    journal = refl;
    free = neither_free empty save old old none refl;
  }

  module _ (law : SavedIsKept) (new : Files) (taken : TakenValue) (neither : HasNeither save old) (made : IsMadeOf given taken save old new) where
    abbrev first : Saved
    first = saved_after (no_save given) taken

    made_stays : JournalStays save old new
    made_stays = made.put.others (journal_name_of save) (named save)

    made_kept : IsKept given save new first
    made_kept =
        let now : Keeps (Some made.text) (old (journal_name_of save)) first =
        law made.text (old (journal_name_of save)) first made.spelled (no_bytes (Some made.text) (old (journal_name_of save)) neither.empty) in
        subst (λ t. KeptIn given t (new (journal_name_of save)) first) (sym made.put.there)
        (subst (λ j. Keeps (Some made.text) j first) (sym made_stays) now)

    pub puts_made : OneIsKept → EmptyIsNoOther → PutsSave given save taken old new
    puts_made one empty = record {
      kept = record {
        kept = λ start kept. (let begins : start ≡ no_save given = subst (λ t. KeptIn given t (old (journal_name_of save)) start) neither.none kept in
            subst (λ (v : Saved). IsKept given save new (saved_after v taken)) (sym begins) made_kept);
        there = λ absent. neither.none;
        others = λ name a b. made.put.others name a;
      };
      alone = saved_alone one new made.text first made.put.there made.spelled made_kept;
      journal = made_stays;
      free = neither_free empty save old new neither made_stays;
    }

  -- ---- the journal is merged into the save

  -- the journal is empty, or doesn't end above the save of that text
  abbrev IsLeft : List ℕ → Type 0
  IsLeft text = (bytes_of (old (journal_name_of save)) ≡ []) ⊎ IsOlder (Some text) (bytes_of (old (journal_name_of save)))

  -- then it says nothing of that save, and no run is refused for it
  left_silent : (text : List ℕ) → IsLeft text → IsNoJournal (Some text) (old (journal_name_of save))
  left_silent text (inl empty) = no_bytes (Some text) (old (journal_name_of save)) empty
  left_silent text (inr older) = older_says_nothing (Some text) (old (journal_name_of save)) older

  left_free : BesideLaws → (text : List ℕ) → IsLeft text → HasNoOther (Some text) (old (journal_name_of save))
  left_free laws text (inl empty) = laws.no_bytes (Some text) (old (journal_name_of save)) empty
  left_free laws text (inr older) = laws.older (Some text) (old (journal_name_of save)) older

  module _ (laid : JoinedIsLaid) (reach : Reach) (file : JournalFile) (taken all : TakenValue)
      (found : FindsEnds (old save) (old (journal_name_of save)) (ends_of reach file)) (under : reach.start.filter ≡ given)
      (joins : JoinsTo given reach file taken all) where
    kept_as : KeepsAs (old save) (old (journal_name_of save)) (kept_of reach joins.net)
    kept_as = (joins.found (old save) (old (journal_name_of save)) found).kept_is

    -- what was kept over what the save saves
    abbrev before_of : Saved → Saved
    before_of saved = kept_after (kept_of reach joins.net) saved

    before_keeps : (bytes : List ℕ) (saved : Saved) → old save ≡ Some bytes → SpellsSave bytes saved
        → Keeps (old save) (old (journal_name_of save)) (before_of saved)
    before_keeps bytes saved there spells = kept_as.keeps bytes saved there spells

    before_kept : (bytes : List ℕ) (saved : Saved) → old save ≡ Some bytes → SpellsSave bytes saved → IsKept given save old (before_of saved)
    before_kept bytes saved there spells =
        subst (λ t. KeptIn given t (old (journal_name_of save)) (before_of saved)) (sym there)
        (subst (λ t. Keeps t (old (journal_name_of save)) (before_of saved)) there (before_keeps bytes saved there spells))

    laid_twice : (bytes : List ℕ) (saved : Saved) → SpellsSave bytes saved
        → laid_on all.net saved.mirror ≡ laid_on taken.net (laid_on joins.net saved.mirror)
    laid_twice bytes saved spells =
        laid joins.net taken.net all.net saved.mirror joins.orderly joins.later joins.joined spells.savable.mirror.orderly

    -- the text that is merged is that of what was kept after what was taken
    after_same : (bytes : List ℕ) (saved : Saved) → old save ≡ Some bytes → SpellsSave bytes saved
        → saved_after saved all ≡ saved_after (before_of saved) taken
    after_same bytes saved there spells =
        let file_is : found.reached.starts.file ≡ bytes = same_Some _ _ (sym found.reached.starts.there ∙ there) in
        let start = found.reached.starts.is saved (subst (λ l. SpellsSave l saved) (sym file_is) spells) in
        ap (λ (h : Head). saved_with h saved.filter (laid_on all.net saved.mirror)) joins.head
        ∙ (ap (λ (g : FilterValue). saved_with taken.head g (laid_on all.net saved.mirror)) start.filter
        ∙ ap (λ (m : MirrorValue). saved_with taken.head reach.start.filter m) (laid_twice bytes saved spells))

    pub many_kept : (bytes : List ℕ) (saved : Saved) → old save ≡ Some bytes → SpellsSave bytes saved
        → 999999999999999999 < length (laid_on all.net saved.mirror).objects → HasManyKept given save taken old
    many_kept bytes saved there spells many = record {
      start = before_of saved;
      kept = before_kept bytes saved there spells;
      many = subst (λ (m : MirrorValue). 999999999999999999 < length m.objects) (laid_twice bytes saved spells) many;
    }

    -- so is the journal of before beside a save that is written with what was kept
    left_merged : BesideLaws → (text : List ℕ) (w : Saved) (bytes : List ℕ) (saved : Saved)
        → old save ≡ Some bytes → SpellsSave bytes saved → saved.number ≤ w.number → reach.head.number ≤ w.number → SpellsSave text w
        → (f : JournalFile) → IsFileOf (old save) (old (journal_name_of save)) f
        → IsLeft text
    left_merged laws text w bytes saved there spells low more spelled Nothing is = inl is
    left_merged laws text w bytes saved there spells low more spelled OfAnother is =
        let same : is.is_at.starts.file ≡ bytes = same_Some _ _ (sym is.is_at.starts.there ∙ there) in
        let start = is.is_at.starts.is saved (subst (λ l. SpellsSave l saved) (sym same) spells) in
        let number : is.at ≡ saved.number = is.is_at.number_is ∙ sym (ap (λ (h : Head). h.number) start.head) in
        inr (laws.stays (old save) (old (journal_name_of save)) text w is spelled (omega (arith, number, low)))
    left_merged laws text w bytes saved there spells low more spelled (Counts all_bytes) is =
        inr (laws.merged_older (old save) (old (journal_name_of save)) is.value (before_of saved) w text
        (record { bytes = all_bytes.items; there = is.there; spells = is.spells; belongs = is.belongs }) (before_keeps bytes saved there spells) more
        spelled)

    pub puts_merged : BesideLaws → (new : Files) → IsReach reach file → IsNet all.net → all.head.number ≤ max_sequence
        → reach.head.number ≤ taken.head.number → IsMerged all.head all.net save old new
        → PutsSave given save taken old new
    puts_merged laws new is_reach net most above merged =
        let file_is : found.reached.starts.file ≡ merged.file = same_Some _ _ (sym found.reached.starts.there ∙ merged.there) in
        let start = found.reached.starts.is merged.saved (subst (λ l. SpellsSave l merged.saved) (sym file_is) merged.spells) in
        let v = before_of merged.saved in
        let text = save_text Three (saved_after merged.saved all) in
        let w_is : saved_after merged.saved all ≡ saved_after v taken = after_same merged.file merged.saved merged.there merged.spells in
        let spelled : SpellsSave text (saved_after v taken) =
        subst (SpellsSave text) w_is (merged_spells given save reach.start.head joins.count all old new joins.is net most is_reach.is_start.head.base
        merged start.head (start.filter ∙ under)) in
        let first = is_reach.number in
        let begins : merged.saved.number ≡ reach.start.head.number = ap (λ (h : Head). h.number) start.head in
        let left = left_merged laws text (saved_after v taken) merged.file merged.saved
        merged.there merged.spells (omega (arith, first, begins, above)) above spelled file found.journal_is in
        let journal : new (journal_name_of save) ≡ old (journal_name_of save) = merged.put.others (journal_name_of save) (named save) in
        let kept_now : IsKept given save new (saved_after v taken) =
        subst (λ t. KeptIn given t (new (journal_name_of save)) (saved_after v taken)) (sym merged.put.there)
        (subst (λ j. Keeps (Some text) j (saved_after v taken)) (sym journal)
        (laws.saved text (old (journal_name_of save)) (saved_after v taken) spelled (left_silent text left))) in
        record {
          kept = record {
            kept = λ before kept. (let is : before ≡ v =
                one_is_kept laws.one_kept given save old before v kept (before_kept merged.file merged.saved merged.there merged.spells) in
                subst (λ (x : Saved). IsKept given save new (saved_after x taken)) (sym is) kept_now);
            there = λ none. (let bad : None ≡ Some text = sym none ∙ merged.put.there in cc);
            others = λ name a b. merged.put.others name a;
          };
          alone = saved_alone laws.one_kept new text (saved_after v taken) merged.put.there spelled kept_now;
          journal = journal;
          free = rw (merged.put.there, journal) (left_free laws text left);
        }

    -- it was a save text, and something was kept
    pub was_kept : (new : Files) → IsMerged all.head all.net save old new → WasKept given save old
    was_kept new merged = record {
      start = before_of merged.saved;
      kept = before_kept merged.file merged.saved merged.there merged.spells;
      whole = inr (record { file = merged.file; there = merged.there; saved = merged.saved; spells = merged.spells });
    }

  -- why they aren't merged
  pub merge_stops : (known : Type 0) → JoinedIsLaid → (reach : Reach) (file : JournalFile) (taken all : TakenValue)
      → (known → FindsEnds (old save) (old (journal_name_of save)) (ends_of reach file)) → reach.start.filter ≡ given → JoinsTo given reach file taken all
      → (fault : RunFault) → MergeStops known (old save) all.net fault
      → PutKeptStops known (old save) (old (journal_name_of save)) (HasManyKept given save taken old) fault
  merge_stops known laid reach file taken all found under joins fault h = by_fault fault h
    where
      by_reason : known → IsTooLarge (old save) ⊎ HasTooMany (old save) all.net → IsTooLarge (old save) ⊎ HasManyKept given save taken old
      by_reason sure (inl large) = inl large
      by_reason sure (inr many) =
          inr (many_kept laid reach file taken all (found sure) under joins many.file many.saved many.there many.spells many.many)

      is_there : known → old save ≡ None → ⊥
      is_there sure absent = (let bad : None ≡ Some (found sure).reached.starts.file = sym absent ∙ (found sure).reached.starts.there in cc)

      by_fault : (x : RunFault) → MergeStops known (old save) all.net x
          → PutKeptStops known (old save) (old (journal_name_of save)) (HasManyKept given save taken old) x
      by_fault WantOfMemory h = tt
      by_fault (ReadFault name) h = rw h tt
      by_fault (WriteFault name) h = rw h tt
      by_fault (Absent name) h = rw h.0 (λ sure. is_there sure (h.1 sure))
      by_fault (TooLarge name) h = rw h.0 (λ sure. by_reason sure (h.1 sure))
      by_fault (BadSave line) h = h
      by_fault (Changed name) h = rw h.0 h.1
      by_fault x h = absurd h

-- the batches of the journal aren't taken
pub join_stops : (known : Type 0) (told journal : Option (List ℕ)) (many : Type 0) (reach : Reach) (file : JournalFile) (fault : RunFault)
    → (known → FindsEnds told journal (ends_of reach file)) → JoinStops reach file fault → PutKeptStops known told journal many fault
join_stops known told journal many reach file WantOfMemory found h = tt
join_stops known told journal many reach file (BadJournal line) found h = λ sure. h told journal (found sure)
join_stops known told journal many reach file fault found h = absurd h
