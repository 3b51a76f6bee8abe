-- A save that begins beside a journal.
use Rattle.std.proofs.Common.{◌≡◌, ℕ, ◌<◌, ◌≤◌, List, [], ◌∷◌, ◌++◌, length, take, drop, refl, ap, sym, ◌∙◌, subst, Option, Some, None, arith}
use Rattle.std.proofs.Common.{append_assoc, inl, inr, length-append, take-append-drop}
use Rattle.std.proofs.Math.Seq.{take-append_seam}
use Rattle.std.specs.Prelude.{◌+◌, ◌⊎◌, Bool, Err, IfErr, Ok, OnErr, OnOk, Result, codes, decimal, false, true}
use Rattle.std.proofs.lemmas.Option.{same_Some}
use Rattle.osm_model.specs.Change.{ChangeValue}
use Rattle.osm_model.specs.ChangeForm.{SpellsNothing}
use Rattle.osm_model.specs.Data.{IsData}
use Rattle.osm_model.specs.Filter.{FilterValue, IsFilter}
use Rattle.osm_model.proofs.FileLimitLemmas.{data_limits}
use Rattle.osm_o5c.proofs.PlaceLemmas as o5m_places
use Rattle.osm_o5c.specs.File.{data_beginning}
use Rattle.osm_opl.proofs.FileLaws as opl_file
use Rattle.osm_save.proofs.HeadLemmas.{head_again}
use Rattle.osm_save.proofs.TextLemmas.{ended-append, ended_before, mirror_text, save_text_is}
use Rattle.osm_save.specs.Head.{head_lines, head_of}
use Rattle.osm_save.specs.Lines.{ended}
use Rattle.osm_save.specs.Reading.{head_at}
use Rattle.osm_save.specs.Save.{IsSavable, SpellsSave, save_text}
use Rattle.osm_save.specs.declared.head.Head.{Head}
use Rattle.osm_save.specs.declared.save.Saved.{Saved}
use Rattle.osm_save.specs.declared.version.Version.{Version}
use Rattle.osm_save.specs.declared.version.Version.TheVariants.{Three}
use Rattle.osm_state.specs.State.{IsState, StateValue}
use Rattle.osm_follow.specs.Begin.{kept_objects}
use Rattle.osm_store.proofs.FrameLemmas.{at_most_both}
use Rattle.osm_store.specs.Files.{Files, Puts, prefix_of}
use Rattle.osm_store.specs.Frames.{IsKnown, MakesAtMost, StoreState}
use Rattle.osm_merge.specs.Calls.{bytes_in}
use Rattle.osm_blocks.specs.Places.{IsHuge}
use Rattle.osm_data.specs.Reading.{Holds}
use Rattle.osm_journal.specs.Journal.{IsJournal, JournalValue, SpellsJournal, last_number}
use Rattle.osm_journal.proofs.JournalLemmas.{one_journal}
use Rattle.osm_kept.specs.Finding.{bytes_of}
use Rattle.osm_kept.specs.Kept.{BelongsTo, HasJournal, IsNoJournal, start_of}
use Rattle.osm_kept.specs.Laws.{EmptyIsNoOther, OlderIsNoOther, SavedIsAt, SavedIsKept}
use Rattle.osm_kept.specs.Names.{journal_name_of}
use Rattle.osm_kept.specs.Refusal.{HasNoOther, IsOther}
use Rattle.osm_kept.proofs.LawLemmas.{journal_some}
use Rattle.osm_runs.specs.DataForms.{HasDataEnd, place_of_data, spells_data}
use Rattle.osm_runs.specs.Following.{IsSaved}
use Rattle.osm_runs.specs.Keeping.{KeptIn}
use Rattle.osm_runs.specs.Reports.{ReportValue, begin_report_of}
use Rattle.osm_runs.specs.Runs.{IsDeviceFault}
use Rattle.osm_runs.specs.declared.data_form.DataForm.{DataForm}
use Rattle.osm_runs.specs.declared.data_form.DataForm.TheVariants.{Opl, O5m}
use Rattle.osm_runs.specs.declared.fault.FileName.TheVariants.{Base, Journal, Save}
use Rattle.osm_runs.specs.declared.fault.RunFault.{RunFault}
use Rattle.osm_runs.specs.declared.fault.RunFault.TheVariants.{WantOfMemory, ReadFault, WriteFault, TooLarge, Absent}
use Rattle.osm_runs.specs.declared.fault.RunFault.TheVariants.{BadChange, Changed, OlderState, OtherJournal}
use Rattle.osm_runs.proofs.KeepingLemmas.{saved_in}
use Rattle.osm_beginning.specs.Beginning.{BeginStops, IsBeginning, IsStart, begun_save, is_long_data, most_kept}
use Rattle.osm_beginning.specs.Keeping.{BeginKeptStops, EndsAt, HasNoJournal, IsBegunBoth, IsCutBeside, IsCutShort, IsDropped, IsSameOrEmpty}
use Rattle.osm_beginning.specs.Keeping.{LeavesBegun, LeavesSave}
use Rattle.osm_beginning.specs.Steps.Beginning.{compared, head_from}
use Rattle.osm_beginning.specs.Steps.Emptying.{BeginsWith, BesideStops, DropsOrLeaves, IsAbove, IsFirst, IsOwn, IsPut, IsPutAlone}
use Rattle.osm_beginning.specs.Steps.Emptying.{LeavesBeside, LeavesOrEmpties}
use Rattle.osm_beginning.specs.Steps.Emptying.{SaysNothing}
use Rattle.osm_beginning.specs.Steps.Passes.{AreFew, AreTooMany, HasNewest, IsKept, IsReplaced}
use Rattle.osm_beginning.specs.Steps.Passes.{begun_text, first_text, from_calls}
use Rattle.osm_beginning.specs.Steps.Storing.{LeavesIn, LeavesLast, PutsAlone, SaveStops, Saves, StopsBeside}
use Rattle.osm_beginning.specs.declared.begin.Beginning.{Beginning}
use Rattle.osm_beginning.proofs.BeginLemmas.{begun_spelled, from_stops, savable, spelled_data}

-- ---- names

pub journal_has_own_name : (save : List ℕ) → journal_name_of save ≡ save → ⊥
journal_has_own_name save same =
    let longer = length-append save (codes ".journal") in
    let lengths = ap length same in
    omega (arith, longer, lengths)

-- a data file isn't a journal by its name

abbrev next_last : List ℕ → ℕ
next_last [] = 0
next_last (x ∷ []) = 0
next_last (x ∷ y ∷ []) = x
next_last (x ∷ y ∷ z ∷ xs) = next_last (y ∷ z ∷ xs)

next_appended : (xs : List ℕ) (x y : ℕ) (ys : List ℕ) → next_last (xs ++ x ∷ y ∷ ys) ≡ next_last (x ∷ y ∷ ys)
next_appended [] x y ys = refl
next_appended (w ∷ []) x y ys = refl
next_appended (w ∷ v ∷ []) x y ys = next_appended (v ∷ []) x y ys
next_appended (w ∷ v ∷ u ∷ xs) x y ys = next_appended (v ∷ u ∷ xs) x y ys

next_of_journal : (save : List ℕ) → next_last (journal_name_of save) ≡ 97
next_of_journal save = next_appended save 46 106 (codes "ournal")

pub not_journal : (base save : List ℕ) (form : DataForm) → HasDataEnd base form → base ≡ journal_name_of save → ⊥
not_journal base save Opl end same =
    let bad : 112 ≡ 97 = sym (next_appended end.start 46 111 (codes "pl")) ∙ (ap next_last (sym end.name_is ∙ same) ∙ next_of_journal save) in
    omega (arith, bad)
not_journal base save O5m end same =
    let bad : 53 ≡ 97 = sym (next_appended end.start 46 111 (codes "5m")) ∙ (ap next_last (sym end.name_is ∙ same) ∙ next_of_journal save) in
    omega (arith, bad)

-- ---- whether a journal is one of the save

pub first_is_start : (j : JournalValue) → j.version ≡ Three → first_text j.head j.kept_by j.objects ≡ start_of j
unfolding first_text
first_is_start j three =
    let line : List ℕ = codes "objects " ++ decimal j.objects in
    sym (ended-append (head_lines Three j.head j.kept_by) (line ∷ []))
    ∙ ap (λ (v : Version). start_of (record { version = v; head = j.head; kept_by = j.kept_by; objects = j.objects; batches = j.batches })) (sym three)

pub own_of : (j : JournalValue) (told : Option (List ℕ)) (lines : List ℕ) → lines ≡ start_of j → BeginsWith told lines → BelongsTo j told
own_of j told lines same b =
    record { file = b.file; there = b.there; rest = b.rest; begins = b.begins ∙ ap (λ (l : List ℕ). l ++ b.rest) same }

pub begins_of : (j : JournalValue) (told : Option (List ℕ)) (lines : List ℕ) → lines ≡ start_of j → BelongsTo j told → BeginsWith told lines
begins_of j told lines same b =
    record { file = b.file; there = b.there; rest = b.rest; begins = b.begins ∙ ap (λ (l : List ℕ). l ++ b.rest) (sym same) }

pub begins_with : (told : Option (List ℕ)) (most : ℕ) (bytes lines : List ℕ) → most ≡ length lines → prefix_of most told ≡ Some bytes
    → bytes ≡ lines → BeginsWith told lines
begins_with None most bytes lines all e same = absurd (let bad : None ≡ Some bytes = e in cc)
begins_with (Some file) most bytes lines all e same = record {
  file = file;
  there = refl;
  rest = drop most file;
  begins = sym (take-append-drop most file) ∙ ap (λ (l : List ℕ). l ++ drop most file) (same_Some (take most file) bytes e ∙ same);
}

pub begins_same : (told : Option (List ℕ)) (most : ℕ) (bytes lines : List ℕ) → most ≡ length lines → prefix_of most told ≡ Some bytes
    → BeginsWith told lines → bytes ≡ lines
begins_same told most bytes lines all e b =
    let first : prefix_of most told ≡ Some (take most (lines ++ b.rest)) =
    ap (prefix_of most) b.there ∙ ap (λ (l : List ℕ). Some (take most l)) b.begins in
    same_Some bytes (take most (lines ++ b.rest)) (sym e ∙ first)
    ∙ (ap (λ (n : ℕ). take n (lines ++ b.rest)) all ∙ take-append_seam lines b.rest)

-- a journal is one alone
pub not_own : (told journal : Option (List ℕ)) (bytes : List ℕ) (i j : JournalValue) → bytes_of journal ≡ bytes → SpellsJournal bytes i
    → (BelongsTo i told → ⊥) → HasJournal told journal j → ⊥
not_own told journal bytes i j holds spells other has =
    let same : has.bytes ≡ bytes = sym (ap bytes_of has.there) ∙ holds in
    let one : j ≡ i = one_journal bytes j i (subst (λ (l : List ℕ). SpellsJournal l j) same has.spells) spells in
    other (subst (λ (x : JournalValue). BelongsTo x told) one has.belongs)

pub bytes_there : (journal : Option (List ℕ)) (bytes : List ℕ) (i : JournalValue) → bytes_of journal ≡ bytes → SpellsJournal bytes i
    → journal ≡ Some bytes
bytes_there None bytes i holds spells = absurd (journal_some i (subst (λ (l : List ℕ). SpellsJournal l i) (sym holds) spells))
bytes_there (Some file) bytes i holds spells = ap (λ (l : List ℕ). Some l) holds

pub ends_at : (journal : Option (List ℕ)) (bytes : List ℕ) (i : JournalValue) (last : ℕ) → bytes_of journal ≡ bytes → SpellsJournal bytes i
    → last ≡ last_number i.head.number i.batches → EndsAt journal last
ends_at journal bytes i last holds spells ends = record {
  bytes = bytes;
  there = bytes_there journal bytes i holds spells;
  value = i;
  spells = spells;
  ends = ends;
}

-- ---- what a save begins with

-- the lines before the objects, as they are read
abbrev Opening : Type 0
Opening = Version × Head × FilterValue × List ℕ

-- a save text begins with its own
text_head : (file : List ℕ) (v : Saved) (x : SpellsSave file v) → head_at file ≡ Some (x.version, head_of v, v.filter, mirror_text v.mirror)
text_head file v x =
    ap head_at (x.text ∙ save_text_is x.version v)
    ∙ head_again x.version (head_of v) v.filter (mirror_text v.mirror) x.savable.head x.savable.filter x.savable.tells

-- and with those that a journal of it has
journal_head : (j : JournalValue) (file rest : List ℕ) → IsJournal j → file ≡ start_of j ++ rest
    → head_at file ≡ Some (j.version, j.head, j.kept_by, ended ((codes "objects " ++ decimal j.objects) ∷ []) ++ rest)
journal_head j file rest is begins =
    let line : List (List ℕ) = (codes "objects " ++ decimal j.objects) ∷ [] in
    let lines : List (List ℕ) = head_lines j.version j.head j.kept_by in
    ap head_at (begins ∙ (ap (λ (l : List ℕ). l ++ rest) (ended-append lines line)
    ∙ (append_assoc (ended lines) (ended line) rest ∙ ended_before lines (ended line ++ rest))))
    ∙ head_again j.version j.head j.kept_by (ended line ++ rest) is.head is.filter is.tells

-- what a journal of a save says of it
such_of : (told : Option (List ℕ)) (j : JournalValue) (file : List ℕ) (v : Saved) (x : SpellsSave file v) → told ≡ Some file
    → IsJournal j → BelongsTo j told → (j.version ≡ x.version) × (j.head ≡ head_of v) × (j.kept_by ≡ v.filter)
such_of told j file v x there is has =
    let begins : file ≡ start_of j ++ has.rest = same_Some file has.file (sym there ∙ has.there) ∙ has.begins in
    let same = same_Some (j.version, j.head, j.kept_by, ended ((codes "objects " ++ decimal j.objects) ∷ []) ++ has.rest)
    (x.version, head_of v, v.filter, mirror_text v.mirror) (sym (journal_head j file has.rest is begins) ∙ text_head file v x) in (
      ap (λ (o : Opening). o.0) same,
      ap (λ (o : Opening). o.1) same,
      ap (λ (o : Opening). o.2) same,
    )

-- a journal that says nothing of a save that begins so
silent_beside : (v : Saved) (text : List ℕ) (journal : Option (List ℕ)) → IsSavable Three v → text ≡ save_text Three v
    → SaysNothing (head_of v) v.filter journal → IsNoJournal (Some text) journal
silent_beside v text None can is nothing = tt
silent_beside v text (Some bytes) can is (inl empty) = inl empty
silent_beside v text (Some bytes) can is (inr o) = inr (record {
  value = o.value;
  spells = o.spells;
  other = λ belongs. (let such = such_of (Some text) o.value text v (record { version = Three; savable = can; text = is }) refl o.spells.journal belongs in
      o.other (record { version = such.0; head_is = such.1; filter_is = such.2 }));
})

-- and doesn't end above that one
free_beside : SavedIsAt → OlderIsNoOther → EmptyIsNoOther → (v : Saved) (text : List ℕ) (journal : Option (List ℕ)) → IsSavable Three v
    → text ≡ save_text Three v → SaysNothing (head_of v) v.filter journal → HasNoOther (Some text) journal
free_beside saved_at older empty v text None can is nothing = empty (Some text) None refl
free_beside saved_at older empty v text (Some bytes) can is (inl none) = empty (Some text) (Some bytes) none
free_beside saved_at older empty v text (Some bytes) can is (inr o) = older (Some text) (Some bytes) (record {
  value = o.value;
  spells = o.spells;
  other = λ belongs. (let such = such_of (Some text) o.value text v (record { version = Three; savable = can; text = is }) refl o.spells.journal belongs in
      o.other (record { version = such.0; head_is = such.1; filter_is = such.2 }));
  at = v.number;
  is_at = saved_at text v (record { version = Three; savable = can; text = is });
  within = o.within;
})

-- one that ends above a save that begins so
other_beside : SavedIsAt → (v : Saved) (text : List ℕ) (journal : Option (List ℕ)) (number : ℕ) → IsSavable Three v → text ≡ save_text Three v
    → IsAbove (head_of v) v.filter journal number → IsOther (Some text) journal number
other_beside saved_at v text journal number can is o = record {
  bytes = o.bytes;
  there = o.there;
  value = o.value;
  spells = o.spells;
  ends = o.ends;
  other = λ belongs. (let such = such_of (Some text) o.value text v (record { version = Three; savable = can; text = is }) refl o.spells.journal belongs in
      o.other (record { version = such.0; head_is = such.1; filter_is = such.2 }));
  above = inr (v.number, saved_at text v (record { version = Three; savable = can; text = is }), o.above);
}

-- ---- what is left of the two files

-- the journal stays while the save is written
pub journal_stays : (w : Beginning) (name : List ℕ) (old new : StoreState) → name ≡ journal_name_of w.save.now → IsKnown old
    → Saves (spells_data w.form) w old new → new.files name ≡ old.files name
journal_stays w name old new named known saved = (saved known).holds_of.put.others name (λ same. journal_has_own_name w.save.now (sym named ∙ same))

-- what is told of it, if it was emptied
pub drops_of : (name save : List ℕ) (last : Option ℕ) (old mid new : Files) (told : Option ℕ) → name ≡ journal_name_of save → mid ≡ old
    → IsFirst (old name) last → DropsOrLeaves last (mid name) (new name) told → IsDropped (old (journal_name_of save)) (new (journal_name_of save)) told
drops_of name save last old mid new told named same first drops =
    subst (λ (n : List ℕ). IsDropped (old n) (new n) told) named
    (by_last last first (subst (λ (f : Files). DropsOrLeaves last (f name) (new name) told) same drops))
  where
    by_last : (last : Option ℕ) → IsFirst (old name) last → DropsOrLeaves last (old name) (new name) told → IsDropped (old name) (new name) told
    by_last (Some n) first (inl (stays, none)) = subst (IsDropped (old name) (new name)) (sym none) (inl stays)
    by_last None first (inl (stays, none)) = subst (IsDropped (old name) (new name)) (sym none) (inl stays)
    by_last (Some n) first (inr (empty, is)) = subst (IsDropped (old name) (new name)) (sym is) (first, empty)
    by_last None first (inr (empty, is)) = subst (IsDropped (old name) (new name)) (sym is) (inr (empty, first))

-- of a journal that isn't emptied nothing is told
pub drops_none : (w : Beginning) (old mid new : StoreState) (told : Option ℕ) (r : Result (Unit {0}) RunFault) → mid.files ≡ old.files → told ≡ None
    → OnOk r (Saves (spells_data w.form) w mid new) → OnErr r (new.files ≡ mid.files) → IsKnown mid
    → IsDropped (old.files (journal_name_of w.save.now)) (new.files (journal_name_of w.save.now)) told
drops_none w old mid new told r same none saved stays known =
    subst (IsDropped (old.files (journal_name_of w.save.now)) (new.files (journal_name_of w.save.now))) (sym none)
    (inl (by_result r saved stays ∙ ap (λ (f : Files). f (journal_name_of w.save.now)) same))
  where
    by_result : (r : Result (Unit {0}) RunFault) → OnOk r (Saves (spells_data w.form) w mid new) → OnErr r (new.files ≡ mid.files)
        → new.files (journal_name_of w.save.now) ≡ mid.files (journal_name_of w.save.now)
    by_result (Ok x) saved stays = journal_stays w (journal_name_of w.save.now) mid new refl known saved
    by_result (Err fault) saved stays = ap (λ (f : Files). f (journal_name_of w.save.now)) stays

pub put_first : (head : Head) (f : FilterValue) (save name : List ℕ) (old mid new : Files) (kept : List ChangeValue) → name ≡ journal_name_of save
    → Puts old name (Some []) mid → IsReplaced head f save mid new kept → IsPut head f save old new kept
put_first head f save name old mid new kept named e r =
    let put : Puts old (journal_name_of save) (Some []) mid = subst (λ (n : List ℕ). Puts old n (Some []) mid) named e in
    let empty : new (journal_name_of save) ≡ Some [] = r.put.others (journal_name_of save) (journal_has_own_name save) ∙ put.there in
    record {
      few = r.few;
      there = r.put.there;
      journal = inr empty;
      silent = subst (SaysNothing head f) (sym empty) (inl refl);
      others = λ name not_save not_journal. r.put.others name not_save ∙ put.others name not_journal;
    }

pub left_of : (save : List ℕ) (old new : Files) → HasNoJournal (old save) (old (journal_name_of save)) → LeavesOrEmpties save old new
    → LeavesSave save old new
left_of save old new none left = record { journal = by_journal left.journal; others = left.others }
  where
    by_journal : IsSameOrEmpty (old (journal_name_of save)) (new (journal_name_of save))
        → (new (journal_name_of save) ≡ old (journal_name_of save))
        ⊎ ((new (journal_name_of save) ≡ Some []) × HasNoJournal (old save) (old (journal_name_of save)))
    by_journal (inl same) = inl same
    by_journal (inr empty) = inr (empty, none)

pub all_left : (save : List ℕ) (old new : Files) → new ≡ old → LeavesSave save old new
all_left save old new same = record {
  journal = inl (ap (λ (f : Files). f (journal_name_of save)) same);
  others = λ name apart. ap (λ (f : Files). f name) same;
}

pub above_ends : (head : Head) (f : FilterValue) (journal : Option (List ℕ)) (number : ℕ) → IsAbove head f journal number → EndsAt journal number
above_ends head f journal number o = record { bytes = o.bytes; there = o.there; value = o.value; spells = o.spells; ends = o.ends }

-- a plain fault leaves this
abbrev pub IsLeft : Beginning → StoreState → StoreState → Type 0
IsLeft w old new = LeavesSave w.save.now old.files new.files
    ⊎ (IsOwn w.head w.filter.now (old.files w.save.now) (old.files (journal_name_of w.save.now)) × PutsAlone w old new)

-- one that was to be emptied last
pub last_left : (w : Beginning) (name : List ℕ) (old mid new : StoreState) → mid.files ≡ old.files → name ≡ journal_name_of w.save.now
    → IsOwn w.head w.filter.now (old.files w.save.now) (old.files name) → (new.files ≡ mid.files) ⊎ PutsAlone w mid new → IsLeft w old new
last_left w name old mid new same named own (inl stays) = inl (all_left w.save.now old.files new.files (stays ∙ same))
last_left w name old mid new same named own (inr put) = inr (
  subst (λ (n : List ℕ). IsOwn w.head w.filter.now (old.files w.save.now) (old.files n)) named own,
  subst (λ (f : Files). IsPutAlone (spells_data w.form) w.head w.filter.now (f w.base.now) w.save.now f new.files) same put,
)

-- the fault isn't one of another's journal, if it comes beside no journal too
leaves_plain : (w : Beginning) (old new : StoreState) (fault : RunFault) → StopsBeside w old None fault → (IsKnown old → IsLeft w old new)
    → LeavesIn w old new fault
leaves_plain w old new (OtherJournal number) stops left = λ yes. absurd (let bad : None ≡ Some (stops yes).bytes = (stops yes).there in cc)
leaves_plain w old new fault stops left = left

pub refused_plain : (w : Beginning) (old new : StoreState) (r : Result (Unit {0}) RunFault) → ((told : Option (List ℕ)) → IfErr r (StopsBeside w old told))
    → OnErr r (IsKnown old → IsLeft w old new) → IfErr r (LeavesIn w old new)
refused_plain w old new (Ok x) stops left = tt
refused_plain w old new (Err fault) stops left = leaves_plain w old new fault (stops None) left

module _ (w : Beginning) (old mid new : StoreState) (to : IsKnown old → IsKnown mid) (same : mid.files ≡ old.files) (last : ℕ)
    (above : IsKnown old → IsAbove w.head w.filter.now (old.files (journal_name_of w.save.now)) last) where
  leaves_above : (fault : RunFault) → LeavesLast false last w mid new fault → LeavesIn w old new fault
  leaves_above (OtherJournal number) left = λ yes. (
    subst (IsAbove w.head w.filter.now (old.files (journal_name_of w.save.now))) (sym (left (to yes)).0) (above yes),
    subst (λ (f : Files). IsPutAlone (spells_data w.form) w.head w.filter.now (f w.base.now) w.save.now f new.files) same (left (to yes)).1,
  )
  leaves_above fault left = λ yes. inl (all_left w.save.now old.files new.files (left (to yes) ∙ same))

  pub refused_above : (r : Result (Unit {0}) RunFault) → IfErr r (LeavesLast false last w mid new) → IfErr r (LeavesIn w old new)
  refused_above (Ok x) left = tt
  refused_above (Err fault) left = leaves_above fault left

-- a save that isn't written leaves all
pub last_same : (is_own : Bool) (last : ℕ) (w : Beginning) (old new : StoreState) (fault : RunFault)
    → SaveStops w old fault → new.files ≡ old.files → LeavesLast is_own last w old new fault
last_same true last w old new fault stops same = λ yes. inl same
last_same false last w old new (OtherJournal number) stops same = absurd stops
last_same false last w old new fault stops same = λ yes. same

-- ---- what a beginning leaves

-- the save that was put there, and what it was made of
beginning_of : (given : FilterValue) (base state : List ℕ) (old : Files) (form : DataForm) (s : StateValue) (head : Head)
    (told : Option (List ℕ)) (holds : List ChangeValue → Type 0) → HasDataEnd base form → IsFilter given → IsState s → IsStart (old state) s
    → told ≡ old base → head ≡ head_from s → (k : IsKept (spells_data form) given told holds) → length (kept_objects given k.objects) ≤ most_kept
    → IsBeginning given base state old s (begun_text head given (length (kept_objects given k.objects)) (kept_objects given k.objects))
beginning_of given base state old form s head told holds end is_filter is_state start same head_is k few =
    let kept : List ChangeValue = kept_objects given k.objects in
    let spelled = begun_spelled given s k.objects (begun_text head given (length kept) kept) is_filter is_state start.above
    (spelled_data form k.bytes k.objects k.spelled) few (ap (λ (h : Head). begun_text h given (length kept) kept) head_is) in
    record {
      start = start;
      objects = k.objects;
      base_is = record {
        named = record { form = form; end = end };
        bytes = k.bytes;
        there = sym same ∙ k.there;
        spelled = k.spelled;
      };
      spelled = spelled.0;
      text_is = spelled.1;
    }

module _ (given : FilterValue) (base state save : List ℕ) (old mid new : Files) (form : DataForm) (s : StateValue) (head : Head)
    (end : HasDataEnd base form) (is_filter : IsFilter given) (is_state : IsState s) (start : IsStart (old state) s) (same : mid ≡ old)
    (head_is : head ≡ head_from s) where
  pub both_of : SavedIsKept → SavedIsAt → OlderIsNoOther → EmptyIsNoOther → (report : ReportValue) → report ≡ begin_report_of s.sequence
      → IsKept (spells_data form) given (mid base) (IsPut head given save mid new) → IsBegunBoth given base state save old new report
  unfolding beginning_of
  both_of saved saved_at older empty report report_is k =
      let beginning = beginning_of given base state old form s head (mid base) (IsPut head given save mid new) end is_filter is_state start
      (ap (λ (f : Files). f base) same) head_is k k.holds_of.few in
      let v : Saved = begun_save given s k.objects in
      let can : IsSavable Three v =
      savable given s k.objects is_filter is_state start.above (spelled_data form k.bytes k.objects k.spelled) k.holds_of.few in
      let silent : SaysNothing (head_of v) v.filter (new (journal_name_of save)) =
      subst (λ (h : Head). SaysNothing h given (new (journal_name_of save))) head_is k.holds_of.silent in
      let kept = saved_in saved given (Some _) (new (journal_name_of save)) v
      (silent_beside v _ (new (journal_name_of save)) can beginning.text_is silent) beginning.spelled in
      record {
        s = s;
        text = _;
        beginning = beginning;
        there = k.holds_of.there;
        kept = subst (λ (o : Option (List ℕ)). KeptIn given o (new (journal_name_of save)) v) (sym k.holds_of.there) kept;
        journal = subst (λ (f : Files). IsSameOrEmpty (f (journal_name_of save)) (new (journal_name_of save))) same k.holds_of.journal;
        free = subst (λ (o : Option (List ℕ)). HasNoOther o (new (journal_name_of save))) (sym k.holds_of.there)
            (free_beside saved_at older empty v _ (new (journal_name_of save)) can beginning.text_is silent);
        others = subst (λ (f : Files). (name : List ℕ) → (name ≡ save → ⊥) → (name ≡ journal_name_of save → ⊥) → new name ≡ f name) same
            k.holds_of.others;
        report_is = report_is;
      }

  -- a save in whose place the new one was put, and whose journal is still there
  cut_short : IsOwn head given (old save) (old (journal_name_of save)) → IsPutAlone (spells_data form) head given (mid base) save mid new
      → IsCutShort given base state save old new
  unfolding beginning_of
  cut_short own k = record {
    s = s;
    text = begun_text head given (length (kept_objects given k.objects)) (kept_objects given k.objects);
    beginning = beginning_of given base state old form s head (mid base) (IsReplaced head given save mid new) end is_filter is_state start
        (ap (λ (f : Files). f base) same) head_is k k.holds_of.few;
    put = subst (λ (f : Files). Puts f save (Some (begun_text head given (length (kept_objects given k.objects)) (kept_objects given k.objects))) new)
        same k.holds_of.put;
    journal = own.value;
    has = own.has;
    version = λ v saved. by_file v own.has.belongs saved;
    head = λ v saved. head_by v own.has.belongs saved;
  }
    where
      by_file : (v : Saved) (b : BelongsTo own.value (old save)) → IsSaved given (old save) v → old save ≡ Some (save_text Three v)
      by_file v b saved =
          let x : SpellsSave b.file v = subst (λ (o : Option (List ℕ)). IsSaved given o v) b.there saved in
          let such = such_of (old save) own.value b.file v x b.there own.has.spells.journal b in
          b.there ∙ (ap (λ (t : List ℕ). Some t) x.text ∙ ap (λ (w : Version). Some (save_text w v)) (sym such.0 ∙ own.such.version))

      head_by : (v : Saved) (b : BelongsTo own.value (old save)) → IsSaved given (old save) v → head_of v ≡ head_from s
      head_by v b saved =
          let x : SpellsSave b.file v = subst (λ (o : Option (List ℕ)). IsSaved given o v) b.there saved in
          let such = such_of (old save) own.value b.file v x b.there own.has.spells.journal b in
          sym such.1 ∙ (own.such.head_is ∙ head_is)

  -- one beside which the journal of another save is still there, which ends above it
  cut_beside : SavedIsAt → (number : ℕ) → IsAbove head given (old (journal_name_of save)) number
      → IsPutAlone (spells_data form) head given (mid base) save mid new → IsCutBeside given base state save old new number
  unfolding beginning_of
  cut_beside saved_at number above k =
      let text : List ℕ = begun_text head given (length (kept_objects given k.objects)) (kept_objects given k.objects) in
      let beginning = beginning_of given base state old form s head (mid base) (IsReplaced head given save mid new) end is_filter is_state start
      (ap (λ (f : Files). f base) same) head_is k k.holds_of.few in
      let v : Saved = begun_save given s k.objects in
      let can : IsSavable Three v =
      savable given s k.objects is_filter is_state start.above (spelled_data form k.bytes k.objects k.spelled) k.holds_of.few in
      let put : Puts old save (Some text) new = subst (λ (f : Files). Puts f save (Some text) new) same k.holds_of.put in
      let higher : IsAbove (head_of v) v.filter (old (journal_name_of save)) number =
      subst (λ (h : Head). IsAbove h given (old (journal_name_of save)) number) head_is above in
      let stays : new (journal_name_of save) ≡ old (journal_name_of save) = put.others (journal_name_of save) (journal_has_own_name save) in
      record {
        s = s;
        text = text;
        beginning = beginning;
        put = put;
        other = subst (λ (o : Option (List ℕ)). IsOther o (new (journal_name_of save)) number) (sym put.there)
            (subst (λ (o : Option (List ℕ)). IsOther (Some text) o number) (sym stays)
            (other_beside saved_at v text (old (journal_name_of save)) number can beginning.text_is higher));
      }

  left_begun : LeavesSave save mid new
      ⊎ (IsOwn head given (mid save) (mid (journal_name_of save)) × IsPutAlone (spells_data form) head given (mid base) save mid new)
      → LeavesSave save old new ⊎ IsCutShort given base state save old new
  left_begun (inl left) = inl (subst (λ (f : Files). LeavesSave save f new) same left)
  left_begun (inr (own, put)) =
      inr (cut_short (subst (λ (f : Files). IsOwn head given (f save) (f (journal_name_of save))) same own) put)

  pub leaves_of : SavedIsAt → (fault : RunFault) → LeavesBeside (spells_data form) head given (mid base) save mid new fault
      → LeavesBegun given base state save old new fault
  leaves_of saved_at (OtherJournal number) (above, put) =
      cut_beside saved_at number (subst (λ (f : Files). IsAbove head given (f (journal_name_of save)) number) same above) put
  leaves_of saved_at fault left = left_begun left

-- ---- why nothing begins

pub kept_stops : (any_time : Bool) (given : FilterValue) (known : Type 0) (base state save : List ℕ) (files : Files) (fault : RunFault)
    → BeginStops known any_time given base state files fault → BeginKeptStops known any_time given base state save files fault
kept_stops any_time given known base state save files (ReadFault Save) h = absurd h
kept_stops any_time given known base state save files (ReadFault Journal) h = absurd h
kept_stops any_time given known base state save files (TooLarge Journal) h = absurd h
kept_stops any_time given known base state save files (WriteFault Journal) h = absurd h
kept_stops any_time given known base state save files (OtherJournal number) h = absurd h
kept_stops any_time given known base state save files fault h = h

-- a data file that goes wrong at a place spells nothing
data_nothing : (form : DataForm) (bytes : List ℕ) (place : ℕ) → place_of_data form bytes place → SpellsNothing (spells_data form) bytes
data_nothing Opl bytes place wrong = λ objects spelled. opl_file.apart IsData data_limits bytes objects place spelled wrong
data_nothing O5m bytes place wrong =
    λ objects spelled. o5m_places.spelled_or_wrong data_beginning IsData data_limits bytes objects place spelled wrong

-- why a save isn't begun beside a journal, at a state that was read
pub beside_stops : (any_time : Bool) (state_time : Option ℕ) (head : Head) (given : FilterValue) (known : Type 0) (base state save : List ℕ)
    (files : Files) (form : DataForm) (s : StateValue) → head ≡ head_from s → HasDataEnd base form
    → (known → IsStart (files state) s) → state_time ≡ compared any_time s → (fault : RunFault)
    → BesideStops (spells_data form) (place_of_data form) (is_long_data form) head given state_time known (files base) (files (journal_name_of save)) fault
    → BeginKeptStops known any_time given base state save files fault
beside_stops any_time state_time head given known base state save files form s head_is end start time_is (ReadFault Journal) h =
    (record { form = form; end = end }, λ yes. (s, start yes))
beside_stops any_time state_time head given known base state save files form s head_is end start time_is (ReadFault Save) h =
    (record { form = form; end = end }, λ yes. (s, start yes))
beside_stops any_time state_time head given known base state save files form s head_is end start time_is (WriteFault Journal) h =
    (record { form = form; end = end }, λ yes. (s, start yes))
beside_stops any_time state_time head given known base state save files form s head_is end start time_is (TooLarge Journal) h =
    (record { form = form; end = end }, λ yes. ((s, start yes), h yes))
beside_stops any_time state_time head given known base state save files form s head_is end start time_is (OtherJournal number) h = (
  record { form = form; end = end },
  λ yes. record {
    s = s;
    start = start yes;
    ends = record { bytes = (h yes).bytes; there = (h yes).there; value = (h yes).value; spells = (h yes).spells; ends = (h yes).ends };
    above = subst (λ (x : Head). x.number < number) head_is (h yes).above;
  },
)
beside_stops any_time state_time head given known base state save files form s head_is end start time_is fault h =
    kept_stops any_time given known base state save files fault
    (from_stops any_time state_time given known base state files form s end start time_is (data_nothing form) fault h)

-- the same reasons, once the journal is empty: the data file has the bytes that it had
pub stops_after : (w : Beginning) (old mid : StoreState) (told : Option (List ℕ)) → (IsKnown old → IsKnown mid)
    → (IsKnown old → mid.files w.base.now ≡ old.files w.base.now) → (fault : RunFault) → SaveStops w mid fault → StopsBeside w old told fault
stops_after w old mid told to same WantOfMemory h = tt
stops_after w old mid told to same (ReadFault Base) h = tt
stops_after w old mid told to same (Absent Base) h = λ yes. sym (same yes) ∙ h (to yes)
stops_after w old mid told to same (TooLarge Base) h =
    λ yes. subst (Holds (λ bytes. is_long_data w.form bytes ⊎ IsHuge bytes)) (same yes) (h (to yes))
stops_after w old mid told to same (BadChange Base place why) h =
    λ yes. subst (Holds (λ bytes. place_of_data w.form bytes place)) (same yes) (h (to yes))
stops_after w old mid told to same (Changed Base) h = λ yes. h (to yes)
stops_after w old mid told to same (OlderState time newest) h =
    (h.0, λ yes. subst (λ (o : Option (List ℕ)). HasNewest (spells_data w.form) o newest) (same yes) (h.1 (to yes)))
stops_after w old mid told to same (TooLarge Save) h =
    λ yes. subst (λ (o : Option (List ℕ)). IsKept (spells_data w.form) w.filter.now o AreTooMany) (same yes) (h (to yes))
stops_after w old mid told to same (WriteFault Save) h =
    λ yes. subst (λ (o : Option (List ℕ)). IsKept (spells_data w.form) w.filter.now o AreFew) (same yes) (h (to yes))
stops_after w old mid told to same fault h = absurd h

pub stops_read : (w : Beginning) (old mid : StoreState) → (IsKnown old → IsKnown mid) → mid.files ≡ old.files → (r : Result (Unit {0}) RunFault)
    → IfErr r (SaveStops w mid) → (told : Option (List ℕ)) → IfErr r (StopsBeside w old told)
stops_read w old mid to same (Ok x) stops told = tt
stops_read w old mid to same (Err fault) stops told = stops_after w old mid told to (λ yes. ap (λ (f : Files). f w.base.now) same) fault stops

-- ---- a save that is written after its journal was emptied

pub same_data : (w : Beginning) (name : List ℕ) (old mid : Files) → HasDataEnd w.base.now w.form → name ≡ journal_name_of w.save.now
    → Puts old name (Some []) mid → mid w.base.now ≡ old w.base.now
same_data w name old mid end named put = put.others w.base.now (λ same. not_journal w.base.now w.save.now w.form end (same ∙ named))

pub calls_after : {T : Type 0} (base : List ℕ) (a b c : StoreState) (r : Result T RunFault) → b.is_known ≡ a.is_known → b.files base ≡ a.files base
    → MakesAtMost {T = Unit {0}} IsDeviceFault 1 a b (Ok tt) → MakesAtMost IsDeviceFault (from_calls (bytes_in (b.files base))) b c r
    → MakesAtMost IsDeviceFault (from_calls (bytes_in (a.files base)) + 1) a c r
calls_after base a b c r known same one more =
    let last : MakesAtMost IsDeviceFault (from_calls (bytes_in (a.files base))) b c r =
    subst (λ (told : Option (List ℕ)). MakesAtMost IsDeviceFault (from_calls (bytes_in told)) b c r) same more in
    at_most_both IsDeviceFault 1 (from_calls (bytes_in (a.files base))) (from_calls (bytes_in (a.files base)) + 1) a b c tt r (omega arith) known one last
