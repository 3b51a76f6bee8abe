-- What the first bytes of an unescaped value tell about the number in it.
use Rattle.std.proofs.Common.{◌≡◌, ℕ, ◌≤◌, List, length, refl, sym, ap, ◌∙◌, arith, subst}
use Rattle.std.specs.Prelude.{Option, Some, None, IfSome, MatchResult, min}
use Rattle.std.specs.Option.{ok_or}
use Rattle.std.proofs.lemmas.Option.{same_Some}
use Rattle.std.proofs.lemmas.List.{take_all, length-take}
use Rattle.std.proofs.lemmas.Int.{ints}
use Rattle.osm_model.specs.Clock.{loose_moment}
use Rattle.osm_model.proofs.TimeLemmas.{shown_by_digits}
use Rattle.osm_model.specs.Time.{TimeText}
use Rattle.osm_state.specs.Steps.Values.{IsPlainPrefix}
use Rattle.std.specs.Str.Parse.{digits_value}
use Rattle.osm_state.specs.State.{StateValue, IsState}
use Rattle.osm_state.specs.StateText.{StandsForNumber, StateOf}
use Rattle.osm_reading.specs.Sequence.{SpellsSequence}
use Rattle.osm_reading.proofs.SequenceLemmas.{nine_digits}
use Rattle.osm_state.specs.StateFault.{StandsForNone}
use Rattle.osm_state.specs.Steps.Faults.{SequenceFault, TimeFault}
use Rattle.osm_state.specs.declared.state_text.StateError.TheVariants.{BadSequence, BadTime}

-- the text of a sequence number and the text of a time have at most 20 bytes
short_sequence : (bytes : List ℕ) (n : ℕ) → SpellsSequence bytes n → length bytes ≤ 20
short_sequence bytes n h = omega (arith, h.short)

short_time : (bytes : List ℕ) (t : ℕ) → TimeText bytes t → length bytes ≤ 20
short_time bytes t h =
    let e : length bytes ≡ 20 = ap length h.shows.text ∙ refl in
    omega arith

module _ (IsText : List ℕ → ℕ → Type 0) (short : (bytes : List ℕ) (n : ℕ) → IsText bytes n → length bytes ≤ 20) where
  -- if the first bytes are the text of a number, they are all of the bytes
  stands_for_number : (value prefix : List ℕ) (n : ℕ) → IsPlainPrefix value prefix → IsText prefix n → StandsForNumber IsText value n
  stands_for_number value prefix n h t =
      let cut : length prefix ≡ min 21 (length h.plain) = ap length h.cut ∙ length-take 21 h.plain in
      let all : prefix ≡ h.plain = h.cut ∙ take_all 21 h.plain (omega (arith, short prefix n t)) in
      record { plain = h.plain; stands_for = h.whole; number = subst (λ bytes. IsText bytes n) all t }

  stands_for_none : (value prefix : List ℕ) → IsPlainPrefix value prefix → ((n : ℕ) → IsText prefix n → ⊥) → StandsForNone IsText value
  stands_for_none value prefix h none = record {
    plain = h.plain;
    stands_for = h.whole;
    none = λ n t.
        let all : prefix ≡ h.plain = h.cut ∙ take_all 21 h.plain (omega (arith, short h.plain n t)) in
        none n (subst (λ bytes. IsText bytes n) (sym all) t);
  }

-- what is answered for the value of a sequence number
pub sequence_judged : (value prefix : List ℕ) (o : Option ℕ) → IsPlainPrefix value prefix
    → IfSome o (λ n. SpellsSequence prefix n) → ((n : ℕ) → SpellsSequence prefix n → o ≡ Some n)
    → MatchResult (ok_or o BadSequence) (StandsForNumber SpellsSequence value) (SequenceFault value)
sequence_judged value prefix (Some n) h sound complete = stands_for_number SpellsSequence short_sequence value prefix n h sound
sequence_judged value prefix None h sound complete =
    stands_for_none SpellsSequence short_sequence value prefix h (λ n t. let e = complete n t in cc)

-- what is answered for the value of a time
pub time_judged : (value prefix : List ℕ) (o : Option ℕ) → IsPlainPrefix value prefix
    → IfSome o (λ t. TimeText prefix t) → ((t : ℕ) → TimeText prefix t → o ≡ Some t)
    → MatchResult (ok_or o BadTime) (StandsForNumber TimeText value) (TimeFault value)
time_judged value prefix (Some n) h sound complete = stands_for_number TimeText short_time value prefix n h sound
time_judged value prefix None h sound complete =
    stands_for_none TimeText short_time value prefix h (λ n t. let e = complete n t in cc)

-- what a text names is within the limits
pub state_limits : (value time_value : List ℕ) (sequence time : ℕ) → StandsForNumber SpellsSequence value sequence
    → StandsForNumber TimeText time_value time → IsState (record { sequence = sequence; time = time })
state_limits value time_value sequence time s t =
    let small = nine_digits s.plain s.number.numeral.1 s.number.short in
    record { sequence = omega (arith, small, s.number.value); time = t.number.limits }

-- a value stands for at most one number
one_number : (value : List ℕ) (m n : ℕ) → StandsForNumber SpellsSequence value m → StandsForNumber SpellsSequence value n → m ≡ n
one_number value m n p q =
    let same : p.plain ≡ q.plain = same_Some _ _ (sym p.stands_for ∙ q.stands_for) in
    p.number.value ∙ (ap (λ bytes. digits_value 10 bytes) same ∙ sym q.number.value)

pub one_time : (bytes : List ℕ) (t u : ℕ) → TimeText bytes t → TimeText bytes u → t ≡ u
one_time bytes t u p q =
    let a = shown_by_digits bytes (loose_moment bytes) t refl p.shows in
    let b = shown_by_digits bytes (loose_moment bytes) u refl q.shows in
    omega (arith, ints, a.seconds, b.seconds)

one_time_number : (value : List ℕ) (t u : ℕ) → StandsForNumber TimeText value t → StandsForNumber TimeText value u → t ≡ u
one_time_number value t u p q =
    let same : p.plain ≡ q.plain = same_Some _ _ (sym p.stands_for ∙ q.stands_for) in
    one_time q.plain t u (subst (λ bytes. TimeText bytes t) same p.number) q.number

same_parts : (m t n u : ℕ) → m ≡ n → t ≡ u → (let a : StateValue = record { sequence = m; time = t } in
    a) ≡ (let b : StateValue = record { sequence = n; time = u } in b)
same_parts m t n u p q = rw (p, q) refl

-- a text has at most one state
pub one_state : (text : List ℕ) (s t : StateValue) → StateOf text s → StateOf text t → s ≡ t
one_state text s t p q =
    let a : p.sequence.value ≡ q.sequence.value = same_Some _ _ (sym p.sequence.found ∙ q.sequence.found) in
    let b : p.time.value ≡ q.time.value = same_Some _ _ (sym p.time.found ∙ q.time.found) in
    let n = one_number q.sequence.value s.sequence t.sequence
    (subst (λ v. StandsForNumber SpellsSequence v s.sequence) a p.sequence.is_true) q.sequence.is_true in
    let u = one_time_number q.time.value s.time t.time (subst (λ v. StandsForNumber TimeText v s.time) b p.time.is_true) q.time.is_true in
    same_parts s.sequence s.time t.sequence t.time n u
