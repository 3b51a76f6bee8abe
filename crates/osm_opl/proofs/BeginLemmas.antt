-- Bytes that begin with what is written of a value.
use Rattle.std.proofs.Common.{◌≡◌, ℕ, ◌<◌, ◌≤◌, ◌^◌, true, List, ◌++◌, length, get_or, take, drop}
use Rattle.std.proofs.Common.{refl, sym, ap, ◌∙◌, arith}
use Rattle.std.specs.Fmt.{decimal}
use Rattle.std.specs.Str.Parse.{AllDigits, digits_value}
use Rattle.std.proofs.lemmas.Fmt.{decimal-digits_value}
use Rattle.std.proofs.lemmas.List.{get_or-take, length-take, take-append-drop}
use Rattle.std.proofs.lemmas.Str.Parse.{numerals_by_value, tells_digits}
use Rattle.std.proofs.Math.Seq.{take-append_seam}
use Rattle.osm_model.specs.CivilTime.{time_text}
use Rattle.osm_model.specs.Limits.{IsPositive}
use Rattle.osm_model.specs.Time.{TimeText}
use Rattle.osm_model.proofs.CivilTimeLemmas.{time_text_shows}
use Rattle.osm_model.proofs.TimeLemmas.{one_text}
use Rattle.osm_opl.specs.Reading.{all_digits}
use Rattle.osm_opl.specs.Steps.Begins.{Begins, BeginsWith}
use Rattle.osm_opl.proofs.NumberLemmas.{each_digit, few_digits}

-- ---- with its value, and without

pub begins : {X : Type 0} (text : X → List ℕ) (Limits : X → Type 0) (value : X) (bytes rest : List ℕ)
    → BeginsWith text Limits value bytes rest → Begins text Limits bytes rest
begins text Limits value bytes rest h = record { value = value; limits = h.limits; parts = h.parts }

pub begins_with : {X : Type 0} (text : X → List ℕ) (Limits : X → Type 0) (bytes rest : List ℕ)
    → (h : Begins text Limits bytes rest) → BeginsWith text Limits h.value bytes rest
begins_with text Limits bytes rest h = record { limits = h.limits; parts = h.parts }

-- ---- numbers

-- digits without a leading zero are what is written of their value
pub digits_written : (bytes : List ℕ) (n count : ℕ) → all_digits 10 (take count bytes) ≡ true
    → n ≡ digits_value 10 (take count bytes) → 1 ≤ count → count ≤ 19 → count ≤ length bytes
    → (get_or bytes 0 0 ≡ 48 → count ≤ 1) → bytes ≡ decimal n ++ drop count bytes
digits_written bytes n count all value some few within lead =
    let ds : List ℕ = take count bytes in
    let l : length (take count bytes) ≡ count = let m = length-take count bytes in omega (arith, m) in
    let small : digits_value 10 (take count bytes) < 10 ^ 19 = few_digits 19 (take count bytes) (omega arith) all in
    let first : get_or (take count bytes) 0 0 ≡ get_or bytes 0 0 = get_or-take count bytes 0 0 (omega arith) in
    let alone : get_or (take count bytes) 0 0 ≡ 48 → length (take count bytes) ≡ 1 = λ z. let h : count ≤ 1 = lead (sym first ∙ z) in omega arith in
    let text : decimal (digits_value 10 (take count bytes)) ≡ take count bytes =
    decimal-digits_value (numerals_by_value (AllDigits 10) tells_digits) (take count bytes)
    (each_digit 10 (take count bytes) all) (omega arith) alone (omega (arith, small)) in
    rw value (sym (take-append-drop count bytes) ∙ ap (λ (d : List ℕ). d ++ drop count bytes) (sym text))

-- ---- times

pub time_begins : (bytes : List ℕ) (t : ℕ) → TimeText (take 20 bytes) t → BeginsWith time_text IsPositive t bytes (drop 20 bytes)
time_begins bytes t h =
    let text : take 20 bytes ≡ time_text t = one_text (take 20 bytes) (time_text t) t h.shows (time_text_shows t h.limits.high) in
    record {
      limits = h.limits;
      parts = sym (take-append-drop 20 bytes) ∙ ap (λ (l : List ℕ). l ++ drop 20 bytes) text;
    }

time_size : (t : ℕ) → length (time_text t) ≡ 20
unfolding time_text
time_size t = refl

-- the bytes of the time that comes first
pub time_spelled : (bytes rest text : List ℕ) (t : ℕ) → bytes ≡ time_text t ++ rest → text ≡ take 20 bytes → text ≡ time_text t
time_spelled bytes rest text t e is =
    is ∙ ap (take 20) e ∙ ap (λ (n : ℕ). take n (time_text t ++ rest)) (sym (time_size t)) ∙ take-append_seam (time_text t) rest
