-- The file of a published sequence that is spoiled for a while: it holds the one byte `x`, which is no state, no o5c
-- file and no line of OPL.
use Rattle.std.proofs.Common.{◌≡◌, ℕ, zero, suc, ◌+◌, ◌<◌, ◌≤◌, List, [], ◌∷◌, ◌++◌}
use Rattle.std.proofs.Common.{true, false, Option, Some, None, inl, inr, arith, refl, sym, ap, subst, ◌∙◌, append_assoc}
use Rattle.std.specs.Prelude.{◌⊎◌, is_none}
use Rattle.std.proofs.lemmas.Bool.{cases_eq, cases_lt}
use Rattle.osm_model.specs.Batch.{IsBatch}
use Rattle.osm_model.specs.Change.{ChangeValue}
use Rattle.osm_model.specs.Limits.{max_sequence}
use Rattle.osm_opl.specs.File as opl
use Rattle.osm_opl.specs.Reading.{key_at, line_at}
use Rattle.osm_opl.proofs.FileLaws.{first_line}
use Rattle.osm_opl.proofs.LineLaws.{line_again}
use Rattle.osm_o5c.specs.File.{SpellsO5c, beginning}
use Rattle.osm_o5c.proofs.FrontLemmas.{front_walks, heads}
use Rattle.osm_reading.specs.Pieces.{pieces}
use Rattle.osm_save.specs.declared.save.Saved.{Saved}
use Rattle.osm_state.specs.Properties.{entry_of, last_value, trimmed, value_of}
use Rattle.osm_state.specs.State.{StateValue}
use Rattle.osm_state.specs.StateText.{StateOf, sequence_key}
use Rattle.osm_state.specs.declared.paths.Suffix.{Suffix}
use Rattle.osm_state.specs.declared.paths.Suffix.TheVariants.{O5c, Opl, State}
use Rattle.osm_publisher.specs.Published.{PublishedValue}
use Rattle.osm_store.specs.Files.{Files, Puts}
use Rattle.osm_runs.specs.Folder.{IsFile}
use Rattle.osm_runs.specs.Following.{AddsAll, AreChanges, HasFiles, bytes_of, is_lost, size_in, size_of}
use Rattle.osm_runs.specs.Names.{file_name_of}
use Rattle.osm_runs.proofs.NameLemmas.{one_file}
use Rattle.osm_runs.proofs.TakingLemmas.{adds_number}
use Rattle.osm_operations.specs.Spoiling.{spoiled}

-- ---- the byte says nothing

pub no_state : (s : StateValue) → StateOf spoiled s → ⊥
unfolding last_value entry_of trimmed pieces
no_state s h =
    let none : value_of spoiled sequence_key ≡ None = refl in
    let bad : None ≡ Some h.sequence.value = sym none ∙ h.sequence.found in cc

pub no_o5c : (changes : List ChangeValue) → SpellsO5c spoiled changes → ⊥
no_o5c changes s =
    let first = front_walks beginning IsBatch s.prefix s.context changes (254 ∷ []) s.is_front in
    let one : spoiled ≡ beginning ++ (first.behind ++ 254 ∷ []) =
    s.whole ∙ ap (λ (l : List ℕ). l ++ 254 ∷ []) first.begins ∙ append_assoc beginning first.behind (254 ∷ []) in
    let bad : 120 ≡ 255 = heads 120 255 [] _ one in omega (arith, bad)

pub no_opl : (changes : List ChangeValue) → opl.SpellsOpl spoiled changes → ⊥
unfolding line_at key_at pieces
no_opl changes s =
    let first = first_line (120 ∷ []) [] changes refl s.lines in
    let none : line_at (120 ∷ []) ≡ None = refl in
    let bad : None ≡ Some first.change = sym none ∙ line_again (120 ∷ []) first.change first.spells in cc

pub no_file : (t : Suffix) (p : PublishedValue) → IsFile t p spoiled → ⊥
no_file State p h = no_state _ h.names
no_file O5c p h = no_o5c p.changes h.1
no_file Opl p h = no_opl p.changes h.1

-- ---- files that are others but for the spoiled one

pub suffix_cases : (s t : Suffix) → (s ≡ t) ⊎ (s ≡ t → ⊥)
suffix_cases State State = inl refl
suffix_cases State O5c = inr (λ e. cc)
suffix_cases State Opl = inr (λ e. cc)
suffix_cases O5c State = inr (λ e. cc)
suffix_cases O5c O5c = inl refl
suffix_cases O5c Opl = inr (λ e. cc)
suffix_cases Opl State = inr (λ e. cc)
suffix_cases Opl O5c = inr (λ e. cc)
suffix_cases Opl Opl = inl refl

-- the file of number k is spoiled, which was there
pub record IsSpoiled (dir : List ℕ) (k : ℕ) (s : Suffix) (old new : Files) : Type 0 where
  pub most : k ≤ max_sequence
  pub bytes : List ℕ
  pub there : old (file_name_of dir k s) ≡ Some bytes
  pub put : Puts old (file_name_of dir k s) (Some spoiled) new

pub other_number : (dir : List ℕ) (k j : ℕ) (s t : Suffix) (old new : Files) → IsSpoiled dir k s old new → j ≤ max_sequence
    → (j ≡ k → ⊥) → new (file_name_of dir j t) ≡ old (file_name_of dir j t)
other_number dir k j s t old new is most apart =
    is.put.others (file_name_of dir j t) (λ e. apart (one_file dir j k t s most is.most e).0)

pub other_suffix : (dir : List ℕ) (k j : ℕ) (s t : Suffix) (old new : Files) → IsSpoiled dir k s old new → j ≤ max_sequence
    → (t ≡ s → ⊥) → new (file_name_of dir j t) ≡ old (file_name_of dir j t)
other_suffix dir k j s t old new is most apart =
    is.put.others (file_name_of dir j t) (λ e. apart (one_file dir j k t s most is.most e).1)

-- each file is there exactly if it was
pub there_same : (dir : List ℕ) (k j : ℕ) (s t : Suffix) (old new : Files) → IsSpoiled dir k s old new → j ≤ max_sequence
    → is_none (new (file_name_of dir j t)) ≡ is_none (old (file_name_of dir j t))
there_same dir k j s t old new is most = elim (cases_eq j k) [
  | inr apart ↦ ap is_none (other_number dir k j s t old new is most apart)
  | inl same ↦ elim (suffix_cases t s) [
    | inr apart ↦ ap is_none (other_suffix dir k j s t old new is most apart)
    | inl too ↦ rw (same, too) (ap is_none is.put.there ∙ sym (ap is_none is.there))
  ]
]

pub lost_alike : (dir : List ℕ) (k j : ℕ) (s : Suffix) (old new : Files) → IsSpoiled dir k s old new → j ≤ max_sequence
    → is_lost new dir j ≡ is_lost old dir j
lost_alike dir k j s old new is most =
    rw (there_same dir k j s State old new is most, there_same dir k j s O5c old new is most, there_same dir k j s Opl old new is most) refl

-- a number whose files are right has no spoiled file that is read, and had the same files
pub record Unspoiled (dir : List ℕ) (k : ℕ) (s : Suffix) (old : Files) (p : PublishedValue) : Type 0 where
  pub has : HasFiles old dir p
  pub unread : p.number ≡ k → (s ≡ Opl) × (is_none (old (file_name_of dir k O5c)) ≡ false)

no_spoiled_o5c : (o5c opl : Option (List ℕ)) (p : PublishedValue) → o5c ≡ Some spoiled → AreChanges o5c opl p → ⊥
no_spoiled_o5c o5c opl p e h = no_file O5c p (rw e at h)

-- an OPL file that is spoiled is read only if there is no o5c file
opl_cases : (o5c opl other : Option (List ℕ)) (p : PublishedValue) → opl ≡ Some spoiled → AreChanges o5c opl p
    → AreChanges o5c other p × (is_none o5c ≡ false)
opl_cases None opl other p e h = absurd (no_file Opl p (rw e at h))
opl_cases (Some bytes) opl other p e h = (h, refl)

pub unspoiled : (dir : List ℕ) (k : ℕ) (s : Suffix) (old new : Files) (p : PublishedValue) → IsSpoiled dir k s old new
    → p.number ≤ max_sequence → HasFiles new dir p → Unspoiled dir k s old p
unspoiled dir k s old new p is most h = elim (cases_eq p.number k) [
  | inr apart ↦ record {
    has = record {
      state = rw (← other_number dir k p.number s State old new is most apart) h.state;
      changes = rw (← other_number dir k p.number s O5c old new is most apart, ← other_number dir k p.number s Opl old new is most apart) h.changes;
    };
    unread = λ e. absurd (apart e);
  }
  | inl same ↦ at_number same s is
]
  where
    at_number : p.number ≡ k → (t : Suffix) → IsSpoiled dir k t old new → Unspoiled dir k t old p
    at_number same State of =
        let e : new (file_name_of dir p.number State) ≡ Some spoiled = ap (λ (j : ℕ). new (file_name_of dir j State)) same ∙ of.put.there in
        absurd (no_file State p (rw e at h.state))
    at_number same O5c of =
        let e : new (file_name_of dir p.number O5c) ≡ Some spoiled = ap (λ (j : ℕ). new (file_name_of dir j O5c)) same ∙ of.put.there in
        absurd (no_spoiled_o5c (new (file_name_of dir p.number O5c)) (new (file_name_of dir p.number Opl)) p e h.changes)
    at_number same Opl of =
        let o5c : new (file_name_of dir p.number O5c) ≡ old (file_name_of dir p.number O5c) =
        other_suffix dir k p.number Opl O5c old new of most (λ e. cc) in
        let state : new (file_name_of dir p.number State) ≡ old (file_name_of dir p.number State) =
        other_suffix dir k p.number Opl State old new of most (λ e. cc) in
        let changes = opl_cases (new (file_name_of dir p.number O5c)) (new (file_name_of dir p.number Opl)) (old (file_name_of dir p.number Opl)) p
        (ap (λ (j : ℕ). new (file_name_of dir j Opl)) same ∙ of.put.there) h.changes in
        record {
          has = record { state = rw (← state) h.state; changes = rw (← o5c) changes.0 };
          unread = λ e. (refl, rw (← same, ← o5c) changes.1);
        }

-- numbers that were taken over the spoiled files
pub unspoiled_all : (dir : List ℕ) (k : ℕ) (s : Suffix) (old new : Files) (count : ℕ) (a b : Saved) → IsSpoiled dir k s old new
    → a.number + count ≤ max_sequence → AddsAll new dir count a b → AddsAll old dir count a b
unspoiled_all dir k s old new zero a b is most h = h
unspoiled_all dir k s old new (suc count) a b is most (between, before, last) =
    let at = adds_number new dir count a between before in
    let next = last.number_is in (
      between,
      unspoiled_all dir k s old new count a between is (omega (arith, most)) before,
      record {
        next = last.next;
        number_is = last.number_is;
        there = (unspoiled dir k s old new last.next is (omega (arith, at, next, most)) last.there).has;
        applied = last.applied;
        number = last.number;
        base = last.base;
        same_filter = last.same_filter;
        time = last.time;
        onward = last.onward;
      },
    )

-- and if k is among them, its spoiled file wasn't read
pub unread_among : (dir : List ℕ) (k : ℕ) (s : Suffix) (old new : Files) (count : ℕ) (a b : Saved) → IsSpoiled dir k s old new
    → a.number + count ≤ max_sequence → AddsAll new dir count a b → a.number < k → k ≤ a.number + count
    → (s ≡ Opl) × (is_none (old (file_name_of dir k O5c)) ≡ false)
unread_among dir k s old new zero a b is most h above until = absurd (omega (arith, above, until))
unread_among dir k s old new (suc count) a b is most (between, before, last) above until =
    let at = adds_number new dir count a between before in
    let next = last.number_is in
    elim (cases_eq last.next.number k) [
      | inl same ↦ (unspoiled dir k s old new last.next is (omega (arith, at, next, most)) last.there).unread same
      | inr apart ↦ unread_among dir k s old new count a between is (omega (arith, most)) before above
          (let other = apart in elim (cases_eq k (a.number + suc count)) [
            | inl e ↦ absurd (other (omega (arith, at, next, e)))
            | inr f ↦ below k (a.number + suc count) (a.number + count) (omega arith) until f
          ])
    ]
  where
    below : (x y z : ℕ) → y ≡ z + 1 → x ≤ y → (x ≡ y → ⊥) → x ≤ z
    below x y z e h apart = elim (cases_lt z x) [
      | inl past ↦ absurd (apart (omega (arith, e, h, past)))
      | inr within ↦ within
    ]

-- ---- the sizes of the change files that are read

size_there : (o5c opl other : Option (List ℕ)) → is_none o5c ≡ false → size_in o5c opl ≡ size_in o5c other
size_there None opl other there = absurd (let bad : true ≡ false = there in cc)
size_there (Some bytes) opl other there = refl

pub size_alike : (dir : List ℕ) (k : ℕ) (s : Suffix) (old new : Files) (p : PublishedValue) → IsSpoiled dir k s old new
    → p.number ≤ max_sequence → HasFiles new dir p → size_of new dir p.number ≡ size_of old dir p.number
size_alike dir k s old new p is most h = elim (cases_eq p.number k) [
  | inr apart ↦ rw (other_number dir k p.number s O5c old new is most apart, other_number dir k p.number s Opl old new is most apart) refl
  | inl same ↦ (let read = (unspoiled dir k s old new p is most h).unread same in
      let o5c : new (file_name_of dir p.number O5c) ≡ old (file_name_of dir p.number O5c) =
      other_suffix dir k p.number s O5c old new is most (λ e. let bad : O5c ≡ Opl = e ∙ read.0 in cc) in
      rw o5c (size_there (old (file_name_of dir p.number O5c)) (new (file_name_of dir p.number Opl)) (old (file_name_of dir p.number Opl))
      (rw same read.1)))
]

-- those of numbers that were taken over the spoiled files
pub bytes_alike : (dir : List ℕ) (k : ℕ) (s : Suffix) (old new : Files) (count : ℕ) (a b : Saved) → IsSpoiled dir k s old new
    → a.number + count ≤ max_sequence → AddsAll new dir count a b → bytes_of new dir a.number count ≡ bytes_of old dir a.number count
bytes_alike dir k s old new zero a b is most h = refl
bytes_alike dir k s old new (suc count) a b is most (between, before, last) =
    let at = adds_number new dir count a between before in
    let next = last.number_is in
    let number : last.next.number ≡ a.number + count + 1 = omega (arith, at, next) in
    let size : size_of new dir (a.number + count + 1) ≡ size_of old dir (a.number + count + 1) =
    subst (λ j. size_of new dir j ≡ size_of old dir j) number (size_alike dir k s old new last.next is (omega (arith, at, next, most)) last.there) in
    rw (bytes_alike dir k s old new count a between is (omega (arith, most)) before, size) refl
