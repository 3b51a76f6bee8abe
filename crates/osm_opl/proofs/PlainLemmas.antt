-- Numbers that are read in one pass are what the readers of whole fields find.
use Rattle.std.proofs.Common.{◌≡◌, ℕ, ◌+◌, ◌<◌, ◌≤◌, true, false, List, [], ◌∷◌, ◌++◌, length, get_or, take, drop}
use Rattle.std.proofs.Common.{Option, Some, None, refl, sym, ap, ◌∙◌, ◌^◌, arith, pos, lit≤}
use Rattle.std.specs.Prelude.{◌≢◌, ◌==◌, IfSome, ℤ, min, nat_le}
use Rattle.std.specs.Borrow.{Bor}
use Rattle.std.specs.Char.{digit_value}
use Rattle.std.specs.Str.Parse.{digits_value}
use Rattle.std.proofs.lemmas.Bool.Decides.{nat_tests}
use Rattle.std.proofs.lemmas.List.{drop_more, length-take, take-append-drop, take_all}
use Rattle.osm_model.specs.declared.kind.Kind.{Kind}
use Rattle.osm_opl.specs.Steps.Plain.{IdFirst, NumberFirst, first_at}
use Rattle.osm_opl.specs.Reading.{all_digits, digits_at, field_at, id_at, key_at, kind_at, number_at, positive_at, positive_field_at, ref_at}
use Rattle.osm_reading.specs.Pieces.{Lacks, pieces, pieces_after}
use Rattle.osm_reading.proofs.PieceLemmas.{pieces-more, pieces-one}
use Rattle.osm_opl.proofs.NumberLemmas.{Digits, IsNumeralOf, digits_again, digits_take, each_digit, few_digits}
use Rattle.osm_opl.proofs.NumberLaws.{digits_lack}

-- the number that was summed up is the value of up to 19 digits
pub exact_number : (bytes : List ℕ) (i so_far : ℕ) → i ≤ 19 → Digits 10 bytes 18446744073709551615 i so_far → so_far ≡ digits_value 10 (take i bytes)
exact_number bytes i so_far few h =
    let short : length (take i bytes) ≤ 19 = let n : length (take i bytes) ≡ min i (length bytes) = length-take i bytes in omega arith in
    let small : digits_value 10 (take i bytes) < 10 ^ 19 = few_digits 19 (take i bytes) short h.all in
    omega (arith, small, h.value)

record Led (bytes : List ℕ) (n count : ℕ) : Type 0 where
  lacks : (s : ℕ) → 10 ≤ digit_value s → Lacks s (take count bytes)
  number : digits_at 10 20 (take count bytes) ≡ Some n

led : (bytes : List ℕ) (n count : ℕ) → all_digits 10 (take count bytes) ≡ true → n ≡ digits_value 10 (take count bytes)
    → 1 ≤ count → count ≤ 19 → count ≤ length bytes → Led bytes n count
led bytes n count all value some few within =
    let l : length (take count bytes) ≡ min count (length bytes) = length-take count bytes in
    record {
      lacks = λ s h. digits_lack 10 s (take count bytes) h (each_digit 10 (take count bytes) all);
      number = digits_again 10 20 (take count bytes) n (record { all = all; some = omega arith; short = omega arith; value = value });
    }

pub number_then : (s : ℕ) (bytes : List ℕ) (n count : ℕ) → 10 ≤ digit_value s → all_digits 10 (take count bytes) ≡ true
    → n ≡ digits_value 10 (take count bytes) → 1 ≤ count → count ≤ 19 → count < length bytes → get_or bytes count 0 ≡ s
    → NumberFirst s bytes n (pieces s (drop (count + 1) bytes))
number_then s bytes n count other all value some few within here =
    let l : Led bytes n count = led bytes n count all value some few (omega arith) in
    let next : drop count bytes ≡ s ∷ drop (count + 1) bytes = drop_more bytes count 0 within ∙ ap (λ (b : ℕ). b ∷ drop (count + 1) bytes) here in
    let parts : bytes ≡ take count bytes ++ s ∷ drop (count + 1) bytes = sym (take-append-drop count bytes) ∙ ap (λ (b : List ℕ). take count bytes ++ b) next in
    record {
      digits = take count bytes;
      parts = ap (pieces s) parts ∙ pieces-more s (take count bytes) (drop (count + 1) bytes) (l.lacks s other);
      number = l.number;
    }

pub number_whole : (s : ℕ) (bytes : List ℕ) (n count : ℕ) → 10 ≤ digit_value s → all_digits 10 (take count bytes) ≡ true
    → n ≡ digits_value 10 (take count bytes) → 1 ≤ count → count ≤ 19 → count ≡ length bytes → NumberFirst s bytes n []
number_whole s bytes n count other all value some few is =
    let l : Led bytes n count = led bytes n count all value some few (omega arith) in
    let whole : take count bytes ≡ bytes = take_all count bytes (omega arith) in
    record {
      digits = take count bytes;
      parts = ap (pieces s) (sym whole) ∙ pieces-one s (take count bytes) (l.lacks s other);
      number = l.number;
    }

number_is : (most n : ℕ) (digits : List ℕ) → digits_at 10 20 digits ≡ Some n → n ≤ most → number_at most digits ≡ Some n
unfolding number_at
number_is most n digits e h = let t : nat_le n most ≡ true = grind (arith, nat_tests) in rw (e, t) refl

-- digits have no sign
unsigned_id : (digits : List ℕ) (n : ℕ) → digits_at 10 20 digits ≡ Some n → number_at 4611686018427387903 digits ≡ Some n → id_at digits ≡ Some (pos n)
unfolding id_at
unsigned_id [] n e is = let t : IsNumeralOf 10 20 [] n = digits_take 10 20 [] n e in let some : 1 ≤ length {A = ℕ} [] = t.some in absurd (omega arith)
unsigned_id (b ∷ bs) n e is =
    let t : IsNumeralOf 10 20 (b ∷ bs) n = digits_take 10 20 (b ∷ bs) n e in
    let lacks : Lacks 45 (b ∷ bs) = digits_lack 10 45 (b ∷ bs) (lit≤ tt) (each_digit 10 (b ∷ bs) t.all) in
    let other : b ≢ 45 = lacks.0 in
    let test : (b == 45) ≡ false = grind (arith, nat_tests) in
    rw (test, is) refl

pub id_first : (s : ℕ) (bytes : List ℕ) (n : ℕ) (more : List (List ℕ)) → NumberFirst s bytes n more → n ≤ 4611686018427387903 → IdFirst s bytes (pos n) more
id_first s bytes n more h limit = record {
  digits = h.digits;
  parts = h.parts;
  is = unsigned_id h.digits n h.number (number_is 4611686018427387903 n h.digits h.number limit);
}

-- a letter comes before the first piece
lettered : (s letter : ℕ) (content digits : List ℕ) (more : List (List ℕ)) → letter ≢ s
    → pieces s content ≡ digits ∷ more → pieces s (letter ∷ content) ≡ (letter ∷ digits) ∷ more
unfolding pieces
lettered s letter content digits more other e = let t : (letter == s) ≡ false = grind (arith, nat_tests) in rw (t, e) refl

pub plain_positive : (letter : ℕ) (content : List ℕ) (n : ℕ) (more : List (List ℕ)) → letter ≢ 32
    → NumberFirst 32 content n more → 1 ≤ n → n ≤ 4294967295 → positive_field_at letter (pieces 32 (letter ∷ content)) ≡
    Some (n, more)
unfolding positive_field_at field_at positive_at
plain_positive letter content n more other h some few =
    let parts : pieces 32 (letter ∷ content) ≡ (letter ∷ h.digits) ∷ more = lettered 32 letter content h.digits more other h.parts in
    let same : (letter == letter) ≡ true = grind (arith, nat_tests) in
    let number : number_at 4294967295 h.digits ≡ Some n = number_is 4294967295 n h.digits h.number few in
    let test : nat_le 1 n ≡ true = grind (arith, nat_tests) in
    rw (parts, same, number, test) refl

pub plain_key : (letter : ℕ) (kind : Kind) (content : List ℕ) (id : ℤ) (more : List (List ℕ))
    → kind_at letter ≡ Some kind → IdFirst 32 content id more → key_at (pieces 32 (letter ∷ content)) ≡
    Some (record { kind = kind; id = id }, more)
unfolding key_at
plain_key letter kind content id more k h =
    let parts : pieces 32 (letter ∷ content) ≡ (letter ∷ h.digits) ∷ more = lettered 32 letter content h.digits more (no_space letter kind k) h.parts in
    rw (parts, k, h.is) refl
  where
    no_space : (letter : ℕ) (kind : Kind) → kind_at letter ≡ Some kind → letter ≢ 32
    no_space letter kind k same = let e : kind_at 32 ≡ Some kind = rw same at k in cc

pub plain_ref : (content : List ℕ) (id : ℤ) (more : List (List ℕ)) → IdFirst 44 content id more → first_at ref_at (pieces 44 (110 ∷ content)) ≡ Some (id, more)
unfolding ref_at
plain_ref content id more h =
    let parts : pieces 44 (110 ∷ content) ≡ (110 ∷ h.digits) ∷ more = lettered 44 110 content h.digits more (λ e. omega arith) h.parts in
    rw (parts, h.is) refl

pub plain_refs : (r : Option (ℤ × Option (Bor (List ℕ)))) (items content : List ℕ) → items ≡ 110 ∷ content
    → IfSome r (λ r. IdFirst 44 content r.0 (pieces_after 44 r.1))
    → IfSome r (λ r. first_at ref_at (pieces 44 items) ≡ Some (r.0, pieces_after 44 r.1))
plain_refs None items content e h = tt
plain_refs (Some r) items content e h = rw e (plain_ref content r.0 (pieces_after 44 r.1) h)
