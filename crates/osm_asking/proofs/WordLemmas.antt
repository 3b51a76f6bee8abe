-- The digits of an id, as they are written and as they are parsed.
use Rattle.std.proofs.Common.{
  ◌≡◌,
  ◌≢◌,
  ℕ,
  zero,
  suc,
  ◌<◌,
  ◌≤◌,
  ◌^◌,
  true,
  false,
  List,
  [],
  ◌∷◌,
  length,
  get_or,
  refl,
  sym,
  ap,
  ◌∙◌,
  subst,
  ℤ,
  pos,
  negsuc,
  neg_ℤ,
  Option,
  Some,
  None,
  ◌⊎◌,
  inl,
  inr,
  arith,
}
use Rattle.std.specs.Prelude.{FitsSigned, IfOk, IfSome, Ok, Err, Result, option_map}
use Rattle.std.specs.Result.{OkIff, result_ok}
use Rattle.std.specs.Fmt.{decimal, signed_decimal}
use Rattle.std.specs.Int.{w64}
use Rattle.std.specs.Str.{IsUtf8}
use Rattle.std.specs.Str.Parse.{AllDigits, ParsesSigned, digits_value}
use Rattle.std.proofs.lemmas.Bool.{cases_eq}
use Rattle.std.proofs.lemmas.Bool.Decides.{nat_tests}
use Rattle.std.proofs.lemmas.Option.{same_Some}
use lib.Signed.{mag}
use Rattle.std.proofs.lemmas.Fmt.{IsAscii-signed, decimal-digits_value, decimal_digit, first_decimal, parse-signed_decimal}
use Rattle.std.proofs.lemmas.Str.{IsUtf8-from_ascii}
use Rattle.std.proofs.lemmas.Str.Parse.{IsNumeralModel, numerals_by_value, parse_signed_minus, parse_signed_plain, tells_digits}
use Rattle.osm_model.specs.declared.kind.Key.{Key}
use Rattle.osm_model.specs.declared.kind.Kind.{Kind}
use Rattle.osm_opl.specs.Lists.{letter_of}
use Rattle.osm_opl.specs.Reading.{kind_at}
use Rattle.osm_opl.specs.Written.{key_text}
use Rattle.osm_opl.proofs.ListLaws.{kind_taken, kind_again}
use Rattle.osm_asking.specs.Steps.Words.{is_plain}

own : IsNumeralModel (AllDigits 10) (digits_value 10)
own = numerals_by_value _ tells_digits

pub record Plain (bs : List ℕ) : Type 0 where
  pub no_plus : get_or bs 0 0 ≢ 43
  pub no_zero : get_or bs 0 0 ≡ 48 → length bs ≤ 1
  pub no_minus_zero : get_or bs 0 0 ≡ 45 → get_or bs 1 0 ≢ 48

plain_facts : (bs : List ℕ) → is_plain bs ≡ true → Plain bs
plain_facts bs is = record {
  no_plus = λ e. grind (arith, nat_tests);
  no_zero = λ e. grind (arith, nat_tests);
  no_minus_zero = λ e f. grind (arith, nat_tests);
}

-- ---- what is parsed is so written

negative : (ds : List ℕ) (v : ℕ) (z : ℤ) → decimal v ≡ ds → get_or ds 0 0 ≢ 48 → z ≡ neg_ℤ (pos v) → 45 ∷ ds ≡ signed_decimal z
negative ds zero z e first is = absurd (first (ap (λ (l : List ℕ). get_or l 0 0) (sym e ∙ decimal_digit 0 (omega arith))))
negative ds (suc n) z e first is = ap (λ (l : List ℕ). 45 ∷ l) (sym e) ∙ ap signed_decimal (sym is)

below_zero : (E : Type 0) (b : ℕ) (ds : List ℕ) (z : ℤ) → Plain (b ∷ ds) → ParsesSigned {E = E} w64 10 (b ∷ ds) (Ok z) → b ≡ 45
    → b ∷ ds ≡ signed_decimal z
below_zero E b ds z p h e =
    let read : OkIff {E = E} (Ok z) (AllDigits 10 ds × (0 < length ds) × (digits_value 10 ds ≤ 2 ^ 63)) (neg_ℤ (pos (digits_value 10 ds))) =
    parse_signed_minus own {E = E} w64 (b ∷ ds) (Ok z) h e in
    let small : digits_value 10 ds ≤ 2 ^ 63 = read.0.2 in
    let first : get_or ds 0 0 ≢ 48 = p.no_minus_zero e in
    ap (λ (n : ℕ). n ∷ ds) e ∙ negative ds (digits_value 10 ds) z
    (decimal-digits_value own ds read.0.0 read.0.1 (λ f. absurd (first f)) (omega (arith, small))) first read.1

not_below : (E : Type 0) (b : ℕ) (ds : List ℕ) (z : ℤ) → Plain (b ∷ ds) → ParsesSigned {E = E} w64 10 (b ∷ ds) (Ok z) → b ≢ 45
    → b ∷ ds ≡ signed_decimal z
not_below E b ds z p h other =
    let bs : List ℕ = b ∷ ds in
    let read : OkIff {E = E} (Ok z) (AllDigits 10 bs × (0 < length bs) × (digits_value 10 bs < 2 ^ 63)) (pos (digits_value 10 bs)) =
    parse_signed_plain own {E = E} w64 bs (Ok z) h p.no_plus other in
    let some : 0 < length bs = read.0.1 in
    let small : digits_value 10 bs < 2 ^ 63 = read.0.2 in
    sym (decimal-digits_value own bs read.0.0 some (λ f. (let most = p.no_zero f in omega (arith, most, some))) (omega (arith, small)))
    ∙ ap signed_decimal (sym read.1)

pub parsed_spelled : {E : Type 0} (bs : List ℕ) (r : Result ℤ E) → is_plain bs ≡ true → ParsesSigned w64 10 bs r → IfOk r (λ id. bs ≡ signed_decimal id)
parsed_spelled bs (Err e) is h = tt
parsed_spelled [] (Ok z) is h = absurd (omega (arith, h.0.0.0))
parsed_spelled {E} (b ∷ ds) (Ok z) is h = elim (cases_eq b 45) [
  | inl e ↦ below_zero E b ds z (plain_facts (b ∷ ds) is) h e
  | inr other ↦ not_below E b ds z (plain_facts (b ∷ ds) is) h other
]

pub ok_spelled : {E : Type 0} (bs : List ℕ) (r : Result ℤ E) (o : Option ℤ) → o ≡ result_ok r → IfOk r (λ id. bs ≡ signed_decimal id)
    → IfSome o (λ id. bs ≡ signed_decimal id)
ok_spelled bs (Ok z) o e h = subst (λ (x : Option ℤ). IfSome x (λ id. bs ≡ signed_decimal id)) (sym e) h
ok_spelled bs (Err f) o e h = subst (λ (x : Option ℤ). IfSome x (λ id. bs ≡ signed_decimal id)) (sym e) tt

-- ---- what is so written is parsed

pub small_id : (z : ℤ) → FitsSigned w64 z → mag z < 2 ^ 63
small_id (pos n) f = omega (arith, f.sfits)
small_id (negsuc n) f = omega (arith, f.sfits)

pub number_only : {E : Type 0} (bs : List ℕ) (r : Result ℤ E) (o : Option ℤ) (z : ℤ) → o ≡ result_ok r → ParsesSigned w64 10 bs r → FitsSigned w64 z
    → bs ≡ signed_decimal z → o ≡ Some z
number_only bs r o z e h fits is = e ∙ ap result_ok (parse-signed_decimal w64 z bs r fits (small_id z fits) is h)

plain_decimal : (n : ℕ) → n < 2 ^ 63 → is_plain (decimal n) ≡ true
plain_decimal zero small = ap is_plain (decimal_digit 0 (omega arith))
plain_decimal (suc n) small =
    let first : 48 < get_or (decimal (suc n)) 0 0 = first_decimal (suc n) (omega arith) (omega arith) in
    grind (arith, nat_tests, first)

pub plain_signed : (z : ℤ) → FitsSigned w64 z → is_plain (signed_decimal z) ≡ true
plain_signed (pos n) f = plain_decimal n (omega (arith, f.sfits))
plain_signed (negsuc n) f =
    let first : 48 < get_or (decimal (suc n)) 0 0 = first_decimal (suc n) (omega arith) (omega (arith, f.sfits)) in
    grind (arith, nat_tests, first)

pub signed_utf8 : (z : ℤ) → FitsSigned w64 z → IsUtf8 (signed_decimal z)
signed_utf8 z f = IsUtf8-from_ascii (signed_decimal z) (IsAscii-signed z (small_id z f))

-- ---- the letter

-- ---- a word

pub digits_only : (bs : List ℕ) (o : Option ℤ) (z : ℤ) → is_plain bs ≡ false → FitsSigned w64 z → bs ≡ signed_decimal z → o ≡ Some z
digits_only bs o z not_plain fits is =
    absurd (let bad : false ≡ true = sym not_plain ∙ (ap is_plain is ∙ plain_signed z fits) in cc)

-- the letter and the digits of a word
abbrev key_of : Kind → ℤ → Key
key_of kind id = record { kind = kind; id = id }

pub key_spelled : (letter : ℕ) (digits : List ℕ) (kind : Kind) (o : Option ℤ) (r : Option Key) → kind_at letter ≡ Some kind
    → IfSome o (λ id. digits ≡ signed_decimal id) → r ≡ option_map (key_of kind) o → IfSome r (λ key. letter ∷ digits ≡ key_text key)
key_spelled letter digits kind None r k d e = subst (λ (x : Option Key). IfSome x (λ key. letter ∷ digits ≡ key_text key)) (sym e) tt
key_spelled letter digits kind (Some id) r k d e =
    subst (λ (x : Option Key). IfSome x (λ key. letter ∷ digits ≡ key_text key)) (sym e)
    (ap (λ (b : ℕ). b ∷ digits) (kind_taken letter kind k) ∙ ap (λ (l : List ℕ). letter_of kind ∷ l) d)

word_letter : (digits : List ℕ) (letter : ℕ) (key : Key) → letter ∷ digits ≡ key_text key → kind_at letter ≡ Some key.kind
word_letter digits letter key is = let head : letter ≡ letter_of key.kind = cc in ap kind_at head ∙ kind_again key.kind

word_digits : (digits : List ℕ) (letter : ℕ) (key : Key) → letter ∷ digits ≡ key_text key → digits ≡ signed_decimal key.id
word_digits digits letter key is = cc

pub key_only : (letter : ℕ) (digits : List ℕ) (kind : Kind) (o : Option ℤ) (r : Option Key) → kind_at letter ≡ Some kind
    → ((id : ℤ) → FitsSigned w64 id → digits ≡ signed_decimal id → o ≡ Some id) → r ≡ option_map (key_of kind) o
    → (key : Key) → FitsSigned w64 key.id → letter ∷ digits ≡ key_text key → r ≡ Some key
key_only letter digits kind o r k only e key fits is =
    let same : kind ≡ key.kind = same_Some kind key.kind (sym k ∙ word_letter digits letter key is) in
    e ∙ (ap (option_map (key_of kind)) (only key.id fits (word_digits digits letter key is)) ∙ ap (λ (q : Kind). Some (key_of q key.id)) same)

pub no_kind : (letter : ℕ) (digits : List ℕ) (r : Option Key) (key : Key) → kind_at letter ≡ None → letter ∷ digits ≡ key_text key → r ≡ Some key
no_kind letter digits r key none is =
    absurd (let bad : ◌≡◌ {A = Option Kind} None (Some key.kind) = sym none ∙ word_letter digits letter key is in cc)

pub no_word : (word : List ℕ) (r : Option Key) (key : Key) → length word ≡ 0 → word ≡ key_text key → r ≡ Some key
no_word [] r key none is = absurd (let bad : ◌≡◌ {A = List ℕ} [] (letter_of key.kind ∷ signed_decimal key.id) = is in cc)
no_word (b ∷ bs) r key none is = absurd (omega (arith, none))
