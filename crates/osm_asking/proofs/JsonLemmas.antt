-- What has been written of an object as JSON.
use Rattle.std.proofs.Common.{
  ◌≡◌,
  ℕ,
  zero,
  suc,
  ◌+◌,
  ◌-◌,
  ◌*◌,
  ◌/◌,
  ◌%◌,
  ◌^◌,
  ◌<◌,
  ◌≤◌,
  false,
  List,
  [],
  ◌∷◌,
  ◌++◌,
  refl,
  sym,
  ap,
  ◌∙◌,
  subst,
  ℤ,
  pos,
  negsuc,
  append_assoc,
  arith,
}
use Rattle.std.specs.Prelude.{Err, Ok, OnOk, Result, ◌==◌, unsigned_abs}
use Rattle.std.proofs.lemmas.Bool.Decides.{nat_tests}
use Rattle.std.specs.Int.{is_negative}
use Rattle.std.specs.Fmt.{decimal, sign_text, signed_decimal}
use Rattle.std.proofs.lemmas.Nat.{div_below}
use Rattle.osm_opl.specs.Written.{decimals}
use Rattle.osm_opl.proofs.WrittenLemmas.{Writes, writes_all, writes_more}

-- ---- decimals

-- some decimals were written, and those of what is left follow
pub record DecimalsWritten (old new : List ℕ) (part left places : ℕ) : Type 0 where
  pub few : places ≤ 7
  pub below : left < 10 ^ places
  pub writes : Writes old new (decimals places left) (decimals 7 part)

pub has_places : (left places : ℕ) → left < 10 ^ places → 0 < left → 0 < places
has_places left zero below some = absurd (omega arith)
has_places left (suc k) below some = omega arith

pub scale_some : (k : ℕ) → 0 < 10 ^ k
scale_some zero = omega arith
scale_some (suc k) = let some = scale_some k in omega (arith, some)

-- the next digit
pub digit_below : (left places : ℕ) → left < 10 ^ places → 0 < places → left / 10 ^ (places - 1) < 10
digit_below left zero below some = absurd (omega arith)
digit_below left (suc k) below some =
    let back : suc k - 1 ≡ k = omega arith in
    let most : left < 10 * 10 ^ k = omega (arith, below) in
    rw back (div_below left (10 ^ k) 10 (scale_some k) most)

decimals_step : (k left : ℕ) → 0 < left → decimals (suc k) left ≡ (48 + left / 10 ^ k) ∷ decimals k (left % 10 ^ k)
unfolding decimals
decimals_step k left some =
    let other : (left == 0) ≡ false = grind (arith, nat_tests) in
    rw other refl

pub decimals_more : (old new next : List ℕ) (part left places : ℕ) → DecimalsWritten old new part left places → 0 < left
    → next ≡ new ++ (48 + left / 10 ^ (places - 1)) ∷ [] → DecimalsWritten old next part (left % 10 ^ (places - 1)) (places - 1)
decimals_more old new next part left zero h some n = absurd (let below = h.below in omega (arith, below))
decimals_more old new next part left (suc k) h some n =
    let few : suc k ≤ 7 = h.few in
    let back : suc k - 1 ≡ k = omega arith in
    let m : next ≡ new ++ (48 + left / 10 ^ k) ∷ [] = rw back at n in
    let scale : 0 < 10 ^ k = scale_some k in
    rw back (record {
      few = omega arith;
      below = omega (arith, scale);
      writes = writes_more old new (decimals (suc k) left) (decimals 7 part) ((48 + left / 10 ^ k) ∷ []) (decimals k (left % 10 ^ k)) next h.writes
          (decimals_step k left some) m;
    })

no_decimals : (places : ℕ) → decimals places 0 ≡ []
unfolding decimals
no_decimals zero = refl
no_decimals (suc k) = refl

pub decimals_done : (old new : List ℕ) (part left places : ℕ) → DecimalsWritten old new part left places → left ≡ 0 → new ≡ old ++ decimals 7 part
decimals_done old new part left places h e =
    let none : decimals places left ≡ [] = ap (decimals places) e ∙ no_decimals places in
    writes_all old new (decimals 7 part) (rw none at h.writes)

-- the same by the scale of a digit
pub decimals_scaled : (old new next : List ℕ) (part left places scale : ℕ) → DecimalsWritten old new part left places → 0 < left
    → scale ≡ 10 ^ (places - 1) → next ≡ new ++ (48 + left / scale) ∷ [] → DecimalsWritten old next part (left % scale) (places - 1)
decimals_scaled old new next part left places scale h some is n =
    subst (λ (s : ℕ). DecimalsWritten old next part (left % s) (places - 1)) (sym is)
    (decimals_more old new next part left places h some (n ∙ ap (λ (s : ℕ). new ++ (48 + left / s) ∷ []) is))

pub digit_scaled : (left places scale : ℕ) → left < 10 ^ places → 0 < left → scale ≡ 10 ^ (places - 1) → left / scale < 10
digit_scaled left places scale below some is =
    subst (λ (s : ℕ). left / s < 10) (sym is) (digit_below left places below (has_places left places below some))

pub scaled_some : (places scale : ℕ) → scale ≡ 10 ^ (places - 1) → 0 < scale
scaled_some places scale is = subst (λ (s : ℕ). 0 < s) (sym is) (scale_some (places - 1))

-- ---- a number with its sign

pub signed_is : (z : ℤ) → sign_text (is_negative z) ++ decimal (unsigned_abs z) ≡ signed_decimal z
signed_is (pos n) =
    let other : is_negative (pos n) ≡ false = grind (arith, nat_tests) in
    rw other refl
signed_is (negsuc n) = refl

-- ---- one part after the other

pub appended_three : {T E : Type 0} (r : Result T E) (old first second third a b c : List ℕ) → a ≡ old ++ first → b ≡ a ++ second
    → OnOk r (c ≡ b ++ third) → OnOk r (c ≡ old ++ (first ++ (second ++ third)))
appended_three (Err e) old first second third a b c p q h = tt
appended_three (Ok x) old first second third a b c p q h =
    h ∙ (ap (λ (l : List ℕ). l ++ third) (q ∙ ap (λ (l : List ℕ). l ++ second) p)
    ∙ (append_assoc (old ++ first) second third ∙ append_assoc old first (second ++ third)))

pub appended_two : {T E : Type 0} (r : Result T E) (old first second a b : List ℕ) → a ≡ old ++ first → OnOk r (b ≡ a ++ second)
    → OnOk r (b ≡ old ++ (first ++ second))
appended_two (Err e) old first second a b p h = tt
appended_two (Ok x) old first second a b p h = h ∙ (ap (λ (l : List ℕ). l ++ second) p ∙ append_assoc old first second)
