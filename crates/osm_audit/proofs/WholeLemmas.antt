-- A folder has no findings exactly if it is whole.
use Rattle.std.proofs.Common.{◌≡◌, ℕ, zero, suc, ◌+◌, ◌-◌, ◌<◌, ◌≤◌, List, [], ◌∷◌, ◌++◌, length, Option, Some, None, inl, inr}
use Rattle.std.proofs.Common.{true, false, arith, refl, sym, subst, ◌∙◌, length-append}
use Rattle.std.specs.Prelude.{◌||◌, ◌&&◌, ◌⊎◌, ◌↔◌, Result, Ok, Err, IfOk, is_none}
use Rattle.std.proofs.lemmas.List.{get_or_append_left}
use Rattle.std.proofs.Math.Seq.{get_or-append_seam}
use Rattle.std.proofs.lemmas.Bool.{cases_lt}
use Rattle.osm_model.specs.Batch.{IsBatch}
use Rattle.osm_model.specs.Change.{ChangeValue}
use Rattle.osm_model.specs.Limits.{max_file, max_sequence}
use Rattle.osm_publisher.specs.Published.{AreSequences, IsSequence, PublishedValue, sequence_at, unpublished}
use Rattle.osm_o5c.proofs.FrontLemmas as o5c_file
use Rattle.osm_o5c.specs.Context.{Context}
use Rattle.osm_o5c.specs.File.{Front, SpellsO5c, beginning, begin, next}
use Rattle.osm_opl.proofs.FileLaws as opl_file
use Rattle.osm_state.specs.State.{IsState}
use Rattle.osm_state.specs.StateLaws.{NoFaultBesideState}
use Rattle.osm_state.specs.declared.paths.Suffix.{Suffix}
use Rattle.osm_state.specs.declared.paths.Suffix.TheVariants.{O5c, Opl, State}
use Rattle.osm_store.specs.Files.{Files, IsOver}
use Rattle.osm_runs.specs.Folder.{IsAbsentOr, IsFile, IsStateFile, IsThere}
use Rattle.osm_runs.specs.Following.{is_lost}
use Rattle.osm_runs.specs.Forms.{IsFaulty}
use Rattle.osm_runs.specs.Names.{file_name_of}
use Rattle.osm_runs.specs.Following.{AreFilesOf}
use Rattle.osm_runs.specs.declared.fault.FileName.{FileName}
use Rattle.osm_runs.specs.declared.fault.FileName.TheVariants.{Top, Sequence}
use Rattle.osm_runs.specs.declared.fault.RunFault.{RunFault}
use Rattle.osm_runs.specs.declared.form.Form.{Form}
use Rattle.osm_runs.specs.declared.form.Form.TheVariants as forms
use Rattle.osm_audit.specs.Findings.{AreFindings, AreOfNumber, AreOfNumbers, Falls, HasChanges, IsO5cRight, IsOplRight}
use Rattle.osm_audit.specs.Findings.{IsLost, IsOtherTop, IsRight, IsSaid, IsTopSaid, IsWrong, noted, of_none, of_number, of_range}
use Rattle.osm_audit.proofs.FoundLemmas.{not_past}
use Rattle.osm_audit.specs.Audit.{AuditValue, IsAsked, IsAudit}
use Rattle.osm_audit.specs.Whole.{IsWhole}
use Rattle.osm_audit.specs.declared.finding.Cause.{Cause}
use Rattle.osm_audit.specs.declared.finding.Cause.TheVariants.{Absent, TooLarge, BadState, Mismatch, TimeBack, BadChange, Differs}
use Rattle.osm_audit.specs.declared.finding.Found.{Found}
use Rattle.osm_audit.specs.declared.finding.Found.TheVariants.{Numbers}
use Rattle.osm_audit.proofs.ChangeLemmas.{faulty_changes, over_changes}
use Rattle.osm_audit.proofs.StateLemmas.{bad_state, one_file, one_time, over_state}

-- ---- lists of findings

none_left : (xs ys : List Found) → xs ++ ys ≡ [] → xs ≡ []
none_left [] ys e = refl
none_left (x ∷ xs) ys e = absurd (let f : x ∷ (xs ++ ys) ≡ [] = e in cc)

none_right : (xs ys : List Found) → xs ++ ys ≡ [] → ys ≡ []
none_right [] ys e = e
none_right (x ∷ xs) ys e = absurd (let f : x ∷ (xs ++ ys) ≡ [] = e in cc)

noted_none : (number : ℕ) (file : FileName) (cause : Option Cause) → noted number file cause ≡ [] → cause ≡ None
noted_none number file None e = refl
noted_none number file (Some cause) e = absurd (let f : _ ≡ [] = e in cc)

-- ---- one sequence more

sequence_before : (p : List PublishedValue) (x : PublishedValue) (k : ℕ) → 0 < k → k ≤ length p → sequence_at (p ++ x ∷ []) k ≡ sequence_at p k
sequence_before p x k above within = get_or_append_left p (x ∷ []) unpublished (k - 1) (omega arith)

sequence_last : (p : List PublishedValue) (x : PublishedValue) (k : ℕ) → k ≡ length p + 1 → sequence_at (p ++ x ∷ []) k ≡ x
sequence_last p x k e = let at : k - 1 ≡ length p = omega arith in rw at (get_or-append_seam p x [] unpublished)

sequences_more : (p : List PublishedValue) (x : PublishedValue) (n : ℕ) → n ≡ length p + 1 → AreSequences p → IsSequence n x
    → AreSequences (p ++ x ∷ [])
sequences_more p x n is_next are is k above within =
    let more : length (p ++ x ∷ []) ≡ length p + 1 = grind (arith, length-append) in
    let h = cases_lt (length p) k in
    elim h [
      | inl past ↦ (let same : k ≡ length p + 1 = omega (arith, more, past, within) in
          rw (sequence_last p x k same) (subst (λ (m : ℕ). IsSequence m x) (is_next ∙ sym same) is))
      | inr until ↦ rw (sequence_before p x k above until) (are k above until)
    ]

-- sequences without changes, at the least time
pub record Blanks (n : ℕ) : Type 0 where
  pub published : List PublishedValue
  pub sequences : AreSequences published
  pub count : length published ≡ n

no_changes : IsBatch []
no_changes = record { few = omega arith; each = tt }

blanks : (n : ℕ) → n ≤ max_sequence → Blanks n
blanks zero most = record { published = []; sequences = λ k above within. absurd (omega (arith, above, within)); count = refl }
blanks (suc n) most =
    let before = blanks n (omega arith) in
    let count = before.count in
    let one : PublishedValue = record { number = suc n; changes = []; time = 1 } in
    record {
      published = before.published ++ one ∷ [];
      sequences = sequences_more before.published one (suc n) (omega (arith, count)) before.sequences
          (record { number_is = refl; most = most; changes = no_changes; time = record { low = omega arith; high = omega arith } });
      count = grind (arith, length-append, count);
    }

-- ---- the files of a number without findings are those of a sequence

-- the changes of two files that are right
pub record Agreed (o5c opl : Option (List ℕ)) : Type 0 where
  pub changes : List ChangeValue
  pub limits : IsBatch changes
  pub in_o5c : IsAbsentOr o5c (HasChanges forms.O5c changes)
  pub in_opl : IsAbsentOr opl (HasChanges forms.Opl changes)
  pub some : (is_none o5c && is_none opl) ≡ false

front_batch : (prefix : List ℕ) (C : Context) (changes : List ChangeValue) → Front beginning IsBatch prefix C changes → IsBatch changes
front_batch _ _ _ begin = no_changes
front_batch _ _ _ (next prefix C changes dataset found after front one limits) = limits

o5c_batch : (bytes : List ℕ) (changes : List ChangeValue) → SpellsO5c bytes changes → IsBatch changes
o5c_batch bytes changes s = front_batch s.prefix s.context changes s.is_front

agreed : (o5c opl : Option (List ℕ)) → IsO5cRight o5c opl → IsOplRight o5c opl → Agreed o5c opl
agreed None None a b = absurd a
agreed None (Some right) a b = record { changes = b.0; limits = b.1.1.limits; in_o5c = tt; in_opl = b.1; some = refl }
agreed (Some left) None a b = record { changes = a.0; limits = o5c_batch left a.0 a.1.1; in_o5c = a.1; in_opl = tt; some = refl }
agreed (Some left) (Some right) a b = record {
  changes = a.0;
  limits = o5c_batch left a.0 a.1.1;
  in_o5c = a.1;
  in_opl = subst (λ (cs : List ChangeValue). HasChanges forms.Opl cs right) (sym (b.2 a.0 a.1)) b.1;
  some = refl;
}

o5c_of : (told : Option (List ℕ)) (p : PublishedValue) → IsAbsentOr told (HasChanges forms.O5c p.changes) → IsAbsentOr told (IsFile O5c p)
o5c_of None p h = tt
o5c_of (Some bytes) p h = h

opl_of : (told : Option (List ℕ)) (p : PublishedValue) → IsAbsentOr told (HasChanges forms.Opl p.changes) → IsAbsentOr told (IsFile Opl p)
opl_of None p h = tt
opl_of (Some bytes) p h = h

pub state_of : (told : Option (List ℕ)) (p : PublishedValue) → IsThere told (IsStateFile p.number p.time) → IsThere told (IsFile State p)
state_of None p h = h
state_of (Some bytes) p h = h

own_state : (told : Option (List ℕ)) (p : PublishedValue) → IsThere told (IsFile State p) → IsThere told (IsStateFile p.number p.time)
own_state None p h = h
own_state (Some bytes) p h = h

state_limits : (told : Option (List ℕ)) (n t : ℕ) → IsThere told (IsStateFile n t) → IsState (record { sequence = n; time = t })
state_limits None n t h = absurd h
state_limits (Some bytes) n t h = h.names.limits

found_of : (state o5c opl : Option (List ℕ)) (n t : ℕ) → IsThere state (IsStateFile n t) → (is_none o5c && is_none opl) ≡ false
    → (is_none state || (is_none o5c && is_none opl)) ≡ false
found_of None o5c opl n t there some = absurd there
found_of (Some bytes) o5c opl n t there some = some

-- the sequence of a number
pub record IsSequenceOf (files : Files) (dir : List ℕ) (from n : ℕ) : Type 0 where
  pub sequence : PublishedValue
  pub is : IsSequence n sequence
  pub files_are : AreFilesOf files dir sequence
  pub not_below : Falls files dir from n sequence.time → ⊥

sequence_of : (files : Files) (dir : List ℕ) (from n : ℕ) → IsRight files dir from n State → IsRight files dir from n O5c
    → IsRight files dir from n Opl → IsSequenceOf files dir from n
sequence_of files dir from n state o5c opl =
    let both = agreed (files (file_name_of dir n O5c)) (files (file_name_of dir n Opl)) o5c opl in
    let limits = state_limits (files (file_name_of dir n State)) n state.0 state.1 in
    let p : PublishedValue = record { number = n; changes = both.changes; time = state.0 } in
    record {
      sequence = p;
      is = record { number_is = refl; most = limits.sequence; changes = both.limits; time = limits.time };
      files_are = record {
        state = state_of (files (file_name_of dir n State)) p state.1;
        o5c = o5c_of (files (file_name_of dir n O5c)) p both.in_o5c;
        opl = opl_of (files (file_name_of dir n Opl)) p both.in_opl;
        found = found_of (files (file_name_of dir n State)) (files (file_name_of dir n O5c)) (files (file_name_of dir n Opl)) n state.0 state.1 both.some;
      };
      not_below = state.2;
    }

nothing_said : (files : Files) (dir : List ℕ) (from n : ℕ) (suffix : Suffix) (cause : Option Cause) → cause ≡ None
    → IsSaid files dir from n suffix cause → IsRight files dir from n suffix
nothing_said files dir from n suffix cause none said = subst (λ (c : Option Cause). IsSaid files dir from n suffix c) none said

number_whole : (files : Files) (dir : List ℕ) (from n : ℕ) (found : List Found) → AreOfNumber files dir from n found
    → found ≡ [] → IsSequenceOf files dir from n
number_whole files dir from n found are none =
    let state = noted n (Sequence n State) are.state in
    let o5c = noted n (Sequence n O5c) are.o5c in
    let opl = noted n (Sequence n Opl) are.opl in
    let all : state ++ (o5c ++ opl) ≡ [] = sym are.found_are ∙ none in
    let rest : o5c ++ opl ≡ [] = none_right state (o5c ++ opl) all in
    sequence_of files dir from n
    (nothing_said files dir from n State are.state (noted_none n (Sequence n State) are.state (none_left state (o5c ++ opl) all)) are.state_said)
    (nothing_said files dir from n O5c are.o5c (noted_none n (Sequence n O5c) are.o5c (none_left o5c opl rest)) are.o5c_said)
    (nothing_said files dir from n Opl are.opl (noted_none n (Sequence n Opl) are.opl (none_right o5c opl rest)) are.opl_said)

-- ---- the numbers without findings are those of published sequences

-- the same, of `count` numbers
pub record IsWholeTo (files : Files) (dir : List ℕ) (from count : ℕ) : Type 0 where
  pub published : List PublishedValue
  pub sequences : AreSequences published
  pub last : length published + 1 ≡ from + count
  pub each : (k : ℕ) → from ≤ k → k < from + count → AreFilesOf files dir (sequence_at published k)
  pub rising : (k : ℕ) → from ≤ k → k + 1 < from + count → (sequence_at published k).time ≤ (sequence_at published (k + 1)).time

-- the state of a sequence is in its file
state_at : (files : Files) (dir : List ℕ) (ps : List PublishedValue) (k : ℕ) → AreSequences ps → 0 < k → k ≤ length ps
    → AreFilesOf files dir (sequence_at ps k) → IsThere (files (file_name_of dir k State)) (IsStateFile k (sequence_at ps k).time)
state_at files dir ps k are above within is =
    let number = (are k above within).number_is in
    subst (λ (n : ℕ). IsThere (files (file_name_of dir n State)) (IsStateFile n (sequence_at ps k).time)) number
    (own_state (files (file_name_of dir (sequence_at ps k).number State)) (sequence_at ps k) is.state)

whole_none : (files : Files) (dir : List ℕ) (from : ℕ) → 0 < from → from ≤ max_sequence + 1 → IsWholeTo files dir from 0
whole_none files dir from above most =
    let before = blanks (from - 1) (omega (arith, above, most)) in
    let count = before.count in
    record {
      published = before.published;
      sequences = before.sequences;
      last = omega (arith, count, above);
      each = λ k low high. absurd (omega (arith, low, high));
      rising = λ k low high. absurd (omega (arith, low, high));
    }

whole_more : (files : Files) (dir : List ℕ) (from count : ℕ) → 0 < from → IsWholeTo files dir from count
    → IsSequenceOf files dir from (from + count) → IsWholeTo files dir from (suc count)
whole_more files dir from count above is then_comes = record {
  published = is.published ++ then_comes.sequence ∷ [];
  sequences = sequences_more is.published then_comes.sequence (from + count) (sym is.last) is.sequences then_comes.is;
  last = omega (arith, more, is.last);
  each = λ k low high. (let h = cases_lt k (from + count) in elim h [
    | inl below ↦ rw (before k low below) (is.each k low below)
    | inr reached ↦ rw (at_end k (omega (arith, high, reached))) then_comes.files_are
  ]);
  rising = λ k low high. (let h = cases_lt (k + 1) (from + count) in elim h [
    | inl below ↦ rw (before k low (omega (arith, below)), before (k + 1) (omega (arith, low)) below) (is.rising k low below)
    | inr reached ↦ rw (before k low (omega (arith, high)), at_end (k + 1) (omega (arith, high, reached)))
        (not_below k low (omega (arith, high, reached)))
  ]);
}
  where
    more : length (is.published ++ then_comes.sequence ∷ []) ≡ length is.published + 1
    more = grind (arith, length-append)

    before : (k : ℕ) → from ≤ k → k < from + count → sequence_at (is.published ++ then_comes.sequence ∷ []) k ≡ sequence_at is.published k
    before k low below =
        let last = is.last in
        sequence_before is.published then_comes.sequence k (omega (arith, low, above)) (omega (arith, below, last))

    at_end : (k : ℕ) → k ≡ from + count → sequence_at (is.published ++ then_comes.sequence ∷ []) k ≡ then_comes.sequence
    at_end k same = sequence_last is.published then_comes.sequence k (same ∙ sym is.last)

    not_below : (k : ℕ) → from ≤ k → k + 1 ≡ from + count → (sequence_at is.published k).time ≤ then_comes.sequence.time
    not_below k low same =
        let last = is.last in
        let h = cases_lt then_comes.sequence.time (sequence_at is.published k).time in
        let one_before : k ≡ from + count - 1 = omega (arith, same) in
        elim h [
          | inl later ↦ absurd (then_comes.not_below (record {
            within = omega (arith, low, same);
            before = (sequence_at is.published k).time;
            there = subst (λ (n : ℕ). IsThere (files (file_name_of dir n State)) (IsStateFile n (sequence_at is.published k).time)) one_before
                (state_at files dir is.published k is.sequences (omega (arith, low, above)) (omega (arith, same, last)) (is.each k low (omega (arith, same))));
            later = later;
          }))
          | inr fits ↦ fits
        ]

at_zero : (from : ℕ) → from - from ≡ 0
at_zero from = omega arith

numbers_whole : (files : Files) (dir : List ℕ) (from next : ℕ) (found : List Found) → 0 < from → from ≤ max_sequence + 1
    → AreOfNumbers files dir from next found → found ≡ [] → IsWholeTo files dir from (next - from)
numbers_whole files dir from _ _ above most of_none none =
    subst (λ (k : ℕ). IsWholeTo files dir from k) (sym (at_zero from)) (whole_none files dir from above most)
numbers_whole files dir from _ _ above most (of_number n earlier last are one) none =
    let low = not_past files dir from n earlier are in
    let next : suc (n - from) ≡ suc n - from = omega (arith, low) in
    let at : n ≡ from + (n - from) = omega (arith, low) in
    subst (λ (k : ℕ). IsWholeTo files dir from k) next
    (whole_more files dir from (n - from) above
    (numbers_whole files dir from n earlier above most are (none_left earlier last none))
    (subst (λ (k : ℕ). IsSequenceOf files dir from k) at (number_whole files dir from n last one (none_right earlier last none))))
numbers_whole files dir from _ _ above most (of_range first last earlier are begins some lost) none =
    absurd (let e : Numbers first last ∷ [] ≡ [] = none_right earlier (Numbers first last ∷ []) none in cc)

top_same : (files : Files) (dir : List ℕ) (from to : ℕ) (cause : Option Cause) → cause ≡ None → IsTopSaid files dir from to cause
    → IsOtherTop files dir from to → ⊥
top_same files dir from to cause none said = subst (λ (c : Option Cause). IsTopSaid files dir from to c) none said

equal_times : (t u : ℕ) → ((t ≡ u → ⊥) → ⊥) → t ≡ u
equal_times t u not = by_order (cases_lt t u)
  where
    by_order : (t < u) ⊎ (u ≤ t) → t ≡ u
    by_order (inl below) = absurd (not (λ same. omega (arith, same, below)))
    by_order (inr reached) = by_rest (cases_lt u t)
      where
        by_rest : (u < t) ⊎ (t ≤ u) → t ≡ u
        by_rest (inl above) = absurd (not (λ same. omega (arith, same, above)))
        by_rest (inr within) = omega (arith, reached, within)

nothing_is_whole : (files : Files) (dir : List ℕ) (from to : ℕ) (found : List Found) → 0 < from → from ≤ to + 1 → to ≤ max_sequence
    → AreFindings files dir from to found → found ≡ [] → IsWhole files dir from to
nothing_is_whole files dir from to found above until most are none =
    let joined : are.numbers ++ noted to Top are.top ≡ [] = sym are.found_are ∙ none in
    let is = numbers_whole files dir from (to + 1) are.numbers above (omega (arith, until, most)) are.numbers_are
    (none_left are.numbers (noted to Top are.top) joined) in
    let last = is.last in
    let same = top_same files dir from to are.top (noted_none to Top are.top (none_right are.numbers (noted to Top are.top) joined)) are.top_said in
    record {
      published = is.published;
      sequences = is.sequences;
      count = omega (arith, last, until);
      each = λ k low high. is.each k low (omega (arith, low, high, until));
      rising = λ k low high. is.rising k low (omega (arith, low, high, until));
      top = λ time some there. equal_times time (sequence_at is.published to).time (λ other. same (record {
        some = some;
        top = time;
        own = (sequence_at is.published to).time;
        top_is = there;
        own_is = state_at files dir is.published to is.sequences (omega (arith, some, above)) (omega (arith, last, until))
            (is.each to some (omega (arith, some)));
        other = other;
      }));
    }

-- ---- a whole folder has no findings

pub absent_changes : (form : Form) (told : Option (List ℕ)) (changes : List ChangeValue) → IsOver max_file told → IsAbsentOr told (HasChanges form changes) → ⊥
absent_changes form None changes o h = (let e = o.there in cc)
absent_changes form (Some bytes) changes o h = over_changes form (Some bytes) changes o h

o5c_held : (told : Option (List ℕ)) (p : PublishedValue) → IsAbsentOr told (IsFile O5c p) → IsAbsentOr told (HasChanges forms.O5c p.changes)
o5c_held None p h = tt
o5c_held (Some bytes) p h = h

opl_held : (told : Option (List ℕ)) (p : PublishedValue) → IsAbsentOr told (IsFile Opl p) → IsAbsentOr told (HasChanges forms.Opl p.changes)
opl_held None p h = tt
opl_held (Some bytes) p h = h

pub faulty_there : (form : Form) (told : Option (List ℕ)) (place : ℕ) (changes : List ChangeValue)
    → IsThere told (λ bytes. IsFaulty form bytes place) → IsAbsentOr told (HasChanges form changes) → ⊥
faulty_there form None place changes f h = f
faulty_there form (Some bytes) place changes f h = faulty_changes form (Some bytes) place changes f h

lost_both : (state o5c opl : Option (List ℕ)) → o5c ≡ None → opl ≡ None → (is_none state || (is_none o5c && is_none opl)) ≡ false → ⊥
lost_both None o5c opl a b found = (let e : true ≡ false = found in cc)
lost_both (Some bytes) None None a b found = (let e : true ≡ false = found in cc)
lost_both (Some bytes) (Some left) opl a b found = cc
lost_both (Some bytes) None (Some right) a b found = cc

one_o5c : (told : Option (List ℕ)) (a b : List ChangeValue) → IsThere told (HasChanges forms.O5c a) → IsAbsentOr told (HasChanges forms.O5c b) → a ≡ b
one_o5c None a b p q = absurd p
one_o5c (Some bytes) a b p q = o5c_file.one_batch bytes a b p.1 q.1

one_opl : (told : Option (List ℕ)) (a b : List ChangeValue) → IsThere told (HasChanges forms.Opl a) → IsAbsentOr told (HasChanges forms.Opl b) → a ≡ b
one_opl None a b p q = absurd p
one_opl (Some bytes) a b p q = opl_file.one_batch bytes a b p.1 q.1

-- the files of a number are those of a sequence
pub record AreOf (files : Files) (dir : List ℕ) (n : ℕ) (p : PublishedValue) : Type 0 where
  pub state : IsThere (files (file_name_of dir n State)) (IsStateFile n p.time)
  pub o5c : IsAbsentOr (files (file_name_of dir n O5c)) (HasChanges forms.O5c p.changes)
  pub opl : IsAbsentOr (files (file_name_of dir n Opl)) (HasChanges forms.Opl p.changes)
  pub found : is_lost files dir n ≡ false

are_of : (files : Files) (dir : List ℕ) (p : PublishedValue) → AreFilesOf files dir p → AreOf files dir p.number p
are_of files dir p is = record {
  state = own_state (files (file_name_of dir p.number State)) p is.state;
  o5c = o5c_held (files (file_name_of dir p.number O5c)) p is.o5c;
  opl = opl_held (files (file_name_of dir p.number Opl)) p is.opl;
  found = is.found;
}

pub whole_at : (files : Files) (dir : List ℕ) (from to k : ℕ) → 0 < from → (w : IsWhole files dir from to) → from ≤ k → k ≤ to
    → AreOf files dir k (sequence_at w.published k)
whole_at files dir from to k above w low high =
    let count = w.count in
    subst (λ (n : ℕ). AreOf files dir n (sequence_at w.published k))
    (w.sequences k (omega (arith, above, low)) (omega (arith, high, count))).number_is
    (are_of files dir (sequence_at w.published k) (w.each k low high))

no_fall : (files : Files) (dir : List ℕ) (from to k time : ℕ) → 0 < from → (w : IsWhole files dir from to) → from ≤ k → k ≤ to
    → IsThere (files (file_name_of dir k State)) (IsStateFile k time) → Falls files dir from k time → ⊥
no_fall files dir from to k time above w low high there f =
    let within = f.within in
    let later = f.later in
    let before = whole_at files dir from to (k - 1) above w (omega (arith, within)) (omega (arith, high)) in
    let here = whole_at files dir from to k above w low high in
    let own = one_time (files (file_name_of dir k State)) k time (sequence_at w.published k).time there here.state in
    let last = one_time (files (file_name_of dir (k - 1) State)) (k - 1) f.before (sequence_at w.published (k - 1)).time f.there before.state in
    let next : k - 1 + 1 ≡ k = omega (arith, within) in
    let rise : (sequence_at w.published (k - 1)).time ≤ (sequence_at w.published k).time =
    subst (λ (n : ℕ). (sequence_at w.published (k - 1)).time ≤ (sequence_at w.published n).time) next
    (w.rising (k - 1) (omega (arith, within)) (omega (arith, within, high))) in
    omega (arith, own, last, rise, later)

state_right : NoFaultBesideState → (files : Files) (dir : List ℕ) (from to k : ℕ) (cause : Cause) → 0 < from → IsWhole files dir from to
    → from ≤ k → k ≤ to → IsWrong files dir from k State cause → ⊥
state_right apart files dir from to k Absent above w low high wrong =
    let here = whole_at files dir from to k above w low high in
    subst (λ (o : Option (List ℕ)). IsThere o (IsStateFile k (sequence_at w.published k).time)) wrong here.state
state_right apart files dir from to k TooLarge above w low high wrong =
    let here = whole_at files dir from to k above w low high in
    over_state (files (file_name_of dir k State)) k (sequence_at w.published k).time wrong here.state
state_right apart files dir from to k (BadState e) above w low high wrong =
    let here = whole_at files dir from to k above w low high in
    bad_state apart (files (file_name_of dir k State)) k (sequence_at w.published k).time e wrong here.state
state_right apart files dir from to k Mismatch above w low high wrong =
    let here = whole_at files dir from to k above w low high in
    wrong.2 (one_file (files (file_name_of dir k State)) wrong.0 k wrong.1 (sequence_at w.published k).time wrong.3 here.state).0
state_right apart files dir from to k TimeBack above w low high wrong = no_fall files dir from to k wrong.0 above w low high wrong.1 wrong.2
state_right apart files dir from to k (BadChange place why) above w low high wrong = absurd wrong
state_right apart files dir from to k Differs above w low high wrong = absurd wrong

o5c_fine : (files : Files) (dir : List ℕ) (from k : ℕ) (p : PublishedValue) (cause : Cause) → AreOf files dir k p
    → IsWrong files dir from k O5c cause → ⊥
o5c_fine files dir from k p Absent are wrong = lost_both _ _ _ wrong.0 wrong.1 are.found
o5c_fine files dir from k p TooLarge are wrong = absent_changes forms.O5c _ p.changes wrong are.o5c
o5c_fine files dir from k p (BadChange place why) are wrong = faulty_there forms.O5c _ place p.changes wrong are.o5c
o5c_fine files dir from k p (BadState e) are wrong = absurd wrong
o5c_fine files dir from k p Mismatch are wrong = absurd wrong
o5c_fine files dir from k p TimeBack are wrong = absurd wrong
o5c_fine files dir from k p Differs are wrong = absurd wrong

opl_fine : (files : Files) (dir : List ℕ) (from k : ℕ) (p : PublishedValue) (cause : Cause) → AreOf files dir k p
    → IsWrong files dir from k Opl cause → ⊥
opl_fine files dir from k p TooLarge are wrong = absent_changes forms.Opl _ p.changes wrong are.opl
opl_fine files dir from k p (BadChange place why) are wrong = faulty_there forms.Opl _ place p.changes wrong are.opl
opl_fine files dir from k p Differs are wrong =
    wrong.4 (one_o5c _ wrong.0 p.changes wrong.2 are.o5c ∙ sym (one_opl _ wrong.1 p.changes wrong.3 are.opl))
opl_fine files dir from k p Absent are wrong = absurd wrong
opl_fine files dir from k p (BadState e) are wrong = absurd wrong
opl_fine files dir from k p Mismatch are wrong = absurd wrong
opl_fine files dir from k p TimeBack are wrong = absurd wrong

not_noted : (files : Files) (dir : List ℕ) (from k : ℕ) (suffix : Suffix) (file : FileName) (cause : Option Cause)
    → ((c : Cause) → IsWrong files dir from k suffix c → ⊥) → IsSaid files dir from k suffix cause → noted k file cause ≡ []
not_noted files dir from k suffix file None fine said = refl
not_noted files dir from k suffix file (Some cause) fine said = absurd (fine cause said)

number_fine : NoFaultBesideState → (files : Files) (dir : List ℕ) (from to k : ℕ) (found : List Found) → 0 < from → IsWhole files dir from to
    → from ≤ k → k ≤ to → AreOfNumber files dir from k found → found ≡ []
number_fine apart files dir from to k found above w low high are =
    let here = whole_at files dir from to k above w low high in
    let p = sequence_at w.published k in
    let state = not_noted files dir from k State (Sequence k State) are.state (λ c. state_right apart files dir from to k c above w low high) are.state_said in
    let o5c = not_noted files dir from k O5c (Sequence k O5c) are.o5c (λ c. o5c_fine files dir from k p c here) are.o5c_said in
    let opl = not_noted files dir from k Opl (Sequence k Opl) are.opl (λ c. opl_fine files dir from k p c here) are.opl_said in
    are.found_are ∙ rw (state, o5c, opl) refl

not_lost : (files : Files) (dir : List ℕ) (from to k : ℕ) → 0 < from → IsWhole files dir from to → from ≤ k → k ≤ to
    → IsLost files dir k → ⊥
not_lost files dir from to k above w low high lost =
    let here = whole_at files dir from to k above w low high in
    subst (λ (o : Option (List ℕ)). IsThere o (IsStateFile k (sequence_at w.published k).time)) lost.state here.state

numbers_fine : NoFaultBesideState → (files : Files) (dir : List ℕ) (from to next : ℕ) (found : List Found) → 0 < from → IsWhole files dir from to
    → next ≤ to + 1 → AreOfNumbers files dir from next found → found ≡ []
numbers_fine apart files dir from to _ _ above w fits of_none = refl
numbers_fine apart files dir from to _ _ above w fits (of_number n earlier last are one) =
    let low = not_past files dir from n earlier are in
    let before = numbers_fine apart files dir from to n earlier above w (omega (arith, fits)) are in
    let here = number_fine apart files dir from to n last above w low (omega (arith, fits)) one in
    rw (before, here) refl
numbers_fine apart files dir from to _ _ above w fits (of_range first last earlier are begins some lost) =
    let low = not_past files dir from first earlier are in
    absurd (not_lost files dir from to first above w low (omega (arith, fits, some)) (lost first (omega arith) some))

top_fine : (files : Files) (dir : List ℕ) (from to : ℕ) → 0 < from → IsWhole files dir from to → IsOtherTop files dir from to → ⊥
top_fine files dir from to above w other =
    let some = other.some in
    let here = whole_at files dir from to to above w some (omega arith) in
    let top = w.top other.top some other.top_is in
    let own = one_time (files (file_name_of dir to State)) to other.own (sequence_at w.published to).time other.own_is here.state in
    other.other (top ∙ sym own)

top_not_noted : (files : Files) (dir : List ℕ) (from to : ℕ) (cause : Option Cause) → 0 < from → IsWhole files dir from to
    → IsTopSaid files dir from to cause → noted to Top cause ≡ []
top_not_noted files dir from to None above w said = refl
top_not_noted files dir from to (Some Differs) above w said = absurd (top_fine files dir from to above w said)
top_not_noted files dir from to (Some Absent) above w said = absurd said
top_not_noted files dir from to (Some TooLarge) above w said = absurd said
top_not_noted files dir from to (Some (BadState e)) above w said = absurd said
top_not_noted files dir from to (Some Mismatch) above w said = absurd said
top_not_noted files dir from to (Some TimeBack) above w said = absurd said
top_not_noted files dir from to (Some (BadChange place why)) above w said = absurd said

whole_is_nothing : NoFaultBesideState → (files : Files) (dir : List ℕ) (from to : ℕ) (found : List Found) → 0 < from → from ≤ to + 1
    → AreFindings files dir from to found → IsWhole files dir from to → found ≡ []
whole_is_nothing apart files dir from to found above until are w =
    let numbers = numbers_fine apart files dir from to (to + 1) are.numbers above w (omega arith) are.numbers_are in
    let top = top_not_noted files dir from to are.top above w are.top_said in
    are.found_are ∙ rw (numbers, top) refl

-- ---- an audit

range_parts : (from : ℕ) (to : Option ℕ) (a : AuditValue) → IsAsked from to a → (0 < a.from) × (a.from ≤ a.to + 1) × (a.to ≤ max_sequence)
range_parts from None a asked = by_rest asked.range.2
  where
    first : a.from ≡ from
    first = asked.first

    above : 0 < from
    above = asked.range.0

    by_rest : (from ≤ a.to) ⊎ ((from ≡ 1) × (a.to ≡ 0)) → (0 < a.from) × (a.from ≤ a.to + 1) × (a.to ≤ max_sequence)
    by_rest (inl until) = (omega (arith, above, first), omega (arith, until, first), asked.range.1)
    by_rest (inr one) = (let at = one.0 in (omega (arith, above, first), omega (arith, at, first), asked.range.1))
range_parts from (Some n) a asked =
    let first = asked.first in
    let above = asked.range.0 in
    let last : a.to ≡ n = asked.given in
    let until = asked.range.2 in
    let most = asked.range.1 in
    (omega (arith, above, first), omega (arith, until, last, first), omega (arith, most, last))

whole_exactly : NoFaultBesideState → (files : Files) (dir : List ℕ) (from : ℕ) (to : Option ℕ) (a : AuditValue) → IsAsked from to a
    → IsAudit to dir files a → (a.findings ≡ []) ↔ IsWhole files dir a.from a.to
whole_exactly apart files dir from to a asked audit =
    let parts = range_parts from to a asked in (
      nothing_is_whole files dir a.from a.to a.findings parts.0 parts.1 parts.2 audit.found,
      whole_is_nothing apart files dir a.from a.to a.findings parts.0 parts.1 audit.found,
    )

pub whole_audit : NoFaultBesideState → (known : Type 0) (files : Files) (dir : List ℕ) (from : ℕ) (to : Option ℕ) (r : Result AuditValue RunFault)
    → IfOk r (IsAsked from to) → IfOk r (λ a. known → IsAudit to dir files a)
    → IfOk r (λ a. known → (a.findings ≡ []) ↔ IsWhole files dir a.from a.to)
whole_audit apart known files dir from to (Ok a) asked audit = λ sure. whole_exactly apart files dir from to a asked (audit sure)
whole_audit apart known files dir from to (Err fault) asked audit = tt
