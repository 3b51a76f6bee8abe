-- Runs of bare characters, and escapes.
use Rattle.std.proofs.Common.{◌≡◌, ℕ, zero, suc, ◌+◌, ◌/◌, ◌%◌, ◌<◌, ◌≤◌, Bool, true, false, cond, ltb, leb, ◌&&◌, List}
use Rattle.std.proofs.Common.{[], ◌∷◌, ◌++◌, ◌∙◌, length, Some, None, refl, sym, arith}
use Rattle.std.specs.Prelude.{Contains}
use Rattle.std.specs.Str.{IsUtf8, is_utf8}
use Rattle.std.specs.List.{list_all}
use Rattle.std.proofs.lemmas.Bool.Decides.{nat_tests}
use Rattle.std.proofs.lemmas.Option.{same_Some}
use Rattle.std.proofs.lemmas.Str.{IsUtf8-append, IsUtf8-encode, is_utf8-from_IsUtf8, IsUtf8-from_is_utf8}
use Rattle.std.specs.Char.{encode_utf8}
use Rattle.std.specs.Prelude.{◌≢◌, not}
use Rattle.osm_opl.specs.Escape.{NamesChar, is_reserved}
use Rattle.osm_reading.specs.Pieces.{Lacks}
use Rattle.osm_reading.proofs.PieceLemmas.{lacks_append, pieces-one}
use Rattle.osm_reading.specs.Pieces.{pieces}
use Rattle.osm_reading.proofs.StepLemmas.{both_held, some_then, guard_some}
use Rattle.osm_opl.proofs.NumberLemmas.{IsNumeralOf, digits_take, digits_again, each_digit, all_from_each}
use Rattle.osm_model.specs.Text.{IsText}
use Rattle.std.specs.Prelude.{◌==◌}
use Rattle.std.proofs.Common.{lit<}
use lib.Utf8.{scalar}
use Rattle.osm_opl.specs.Reading.{digits_at, escape_at, is_bare_run, is_free, run_at, runs_at, text_at}
use Rattle.osm_reading.specs.Answers.{and_then}

pub is_text_run : (run : List ℕ) → IsUtf8 run → list_all is_free run ≡ true → run_at run ≡ Some run
is_text_run run u free = rw (free, is_utf8-from_IsUtf8 run u) refl

pub isnt_text_run : (run : List ℕ) → ¬ IsUtf8 run → run_at run ≡ None
isnt_text_run run u = by_tests (list_all is_free run) (is_utf8 run) (λ e. u (IsUtf8-from_is_utf8 run e))
  where
    by_tests : (a b : Bool) → (b ≡ true → ⊥) → cond (a && b) (Some run) None ≡ None
    by_tests a true n = absurd (n refl)
    by_tests true false n = refl
    by_tests false false n = refl

pub ruleset text_runs = (is_text_run, isnt_text_run)

-- ---- which bytes a character has

-- an ASCII byte occurs in no other character
pub encode_lacks : (s c : ℕ) → s < 128 → c ≢ s → Lacks s (encode_utf8 c)
unfolding encode_utf8
encode_lacks s c small other = by_tests (ltb c 128) (ltb c 2048) (ltb c 65536)
  where
    by_tests : (x y z : Bool)
        → Lacks s (cond x (c ∷ []) (cond y ((192 + c / 64) ∷ (128 + c % 64) ∷ [])
        (cond z ((224 + c / 4096) ∷ (128 + c / 64 % 64) ∷ (128 + c % 64) ∷ [])
        ((240 + c / 262144) ∷ (128 + c / 4096 % 64) ∷ (128 + c / 64 % 64) ∷ (128 + c % 64) ∷ []))))
    by_tests true y z = (other, tt)
    by_tests false true z = (λ e. omega arith, (λ e. omega arith, tt))
    by_tests false false true = (λ e. omega arith, (λ e. omega arith, (λ e. omega arith, tt)))
    by_tests false false false = (λ e. omega arith, (λ e. omega arith, (λ e. omega arith, (λ e. omega arith, tt))))

free_lacks : (s : ℕ) (run : List ℕ) → is_reserved s ≡ true → list_all is_free run ≡ true → Lacks s run
free_lacks s [] r e = tt
free_lacks s (b ∷ bs) r e =
    let p = both_held (is_free b) (list_all is_free bs) e in
    (λ same. let q : not (is_reserved s) ≡ true = rw same at p.0 in no_both (is_reserved s) r q, free_lacks s bs r p.1)
  where
    no_both : (x : Bool) → x ≡ true → not x ≡ true → ⊥
    no_both true a b = cc
    no_both false a b = cc

pub lacks_contains : (s : ℕ) (bytes : List ℕ) → Lacks s bytes → ¬ Contains bytes s
lacks_contains s [] h (k, lt, is) = absurd (omega (arith, lt))
lacks_contains s (b ∷ bs) h (zero, lt, is) = h.0 is
lacks_contains s (b ∷ bs) h (suc k, lt, is) = lacks_contains s bs h.1 (k, omega arith, is)

-- ---- what is read as an escape or a run

pub run_takes : (run text : List ℕ) → run_at run ≡ Some text → (text ≡ run) × (list_all is_free run ≡ true) × IsUtf8 run
run_takes run text e =
    let g = guard_some (is_bare_run run) (Some run) text e in
    let p = both_held (list_all is_free run) (is_utf8 run) g.0 in
    (sym (same_Some run text g.1), p.0, IsUtf8-from_is_utf8 run p.1)

pub escape_takes : (digits : List ℕ) (c : ℕ) → escape_at digits ≡ Some c → NamesChar digits c
unfolding escape_at
escape_takes digits c e =
    let x = some_then (digits_at 16 8 digits) (λ c. cond (scalar c && not (c == 0)) (Some c) None) c e in
    let g = guard_some (scalar x.0 && not (x.0 == 0)) (Some x.0) c x.2 in
    let p = both_held (scalar x.0) (not (x.0 == 0)) g.0 in
    let t : IsNumeralOf 16 8 digits x.0 = digits_take 16 8 digits x.0 x.1 in
    let same : x.0 ≡ c = same_Some x.0 c g.1 in
    let test : not (x.0 == 0) ≡ true = p.1 in
    let other : x.0 ≢ 0 = λ z. zero_out x.0 z test in
    rw (← same) (record { numeral = (t.some, each_digit 16 digits t.all); short = t.short; value = t.value; scalar = p.0; other = other })
  where
    zero_out : (n : ℕ) → n ≡ 0 → not (n == 0) ≡ true → ⊥
    zero_out n z test = let e : not (0 == 0) ≡ true = rw z at test in cc

pub escape_again : (digits : List ℕ) (c : ℕ) → NamesChar digits c → escape_at digits ≡ Some c
unfolding escape_at
escape_again digits c h =
    let read : digits_at 16 8 digits ≡ Some c =
    digits_again 16 8 digits c (record {
      all = all_from_each 16 digits h.numeral.1;
      some = h.numeral.0;
      short =
          h.short;
      value = h.value;
    }) in
    let s : scalar c ≡ true = h.scalar in
    let other : c ≢ 0 = h.other in
    let t : (c == 0) ≡ false = grind (arith, nat_tests) in
    rw (read, s, t) refl

-- ---- texts that are read

-- what is read is UTF-8, and no byte of it is 0
pub runs_plain : (ps : List (List ℕ)) (text : List ℕ) → runs_at ps ≡ Some text → IsUtf8 text × Lacks 0 text
runs_plain [] text e = absurd cc
runs_plain (run ∷ []) text e =
    let r = run_takes run text e in
    let same : text ≡ run = r.0 in
    rw same (r.2, free_lacks 0 run refl r.1)
runs_plain (run ∷ digits ∷ more) text e =
    let a = some_then (run_at run) (λ (r : List ℕ). and_then {A = ℕ} {B = List ℕ} (escape_at digits)
    (λ c. and_then {A = List ℕ} {B = List ℕ} (runs_at more) (λ t. Some (r ++ encode_utf8 c ++ t)))) text e in
    let b = some_then (escape_at digits) (λ (c : ℕ). and_then {A = List ℕ} {B = List ℕ} (runs_at more) (λ t. Some (a.0 ++ encode_utf8 c ++ t))) text a.2 in
    let d = some_then (runs_at more) (λ (t : List ℕ). Some (a.0 ++ encode_utf8 b.0 ++ t)) text b.2 in
    let r = run_takes run a.0 a.1 in
    let n : NamesChar digits b.0 = escape_takes digits b.0 b.1 in
    let inner = runs_plain more d.0 d.1 in
    let same : a.0 ++ encode_utf8 b.0 ++ d.0 ≡ text = same_Some (a.0 ++ encode_utf8 b.0 ++ d.0) text d.2 in
    let first : IsUtf8 a.0 = rw r.0 r.2 in
    let clean : Lacks 0 a.0 = rw r.0 (free_lacks 0 run refl r.1) in
    rw (← same) (
      IsUtf8-append (a.0 ++ encode_utf8 b.0) d.0 (IsUtf8-append a.0 (encode_utf8 b.0) first (IsUtf8-encode b.0 n.scalar)) inner.0,
      lacks_append 0 (a.0 ++ encode_utf8 b.0) d.0 (lacks_append 0 a.0 (encode_utf8 b.0) clean (encode_lacks 0 b.0 (lit< tt) n.other)) inner.1,
    )

pub text_is : (bytes text : List ℕ) → text_at bytes ≡ Some text → IsText text
unfolding text_at
text_is bytes text e =
    let x = some_then (runs_at (pieces 37 bytes)) (λ (t : List ℕ). cond (leb (length t) 1020) (Some t) None) text e in
    let g = guard_some (leb (length x.0) 1020) (Some x.0) text x.2 in
    let same : x.0 ≡ text = same_Some x.0 text g.1 in
    let test : leb (length x.0) 1020 ≡ true = g.0 in
    let p = runs_plain (pieces 37 bytes) x.0 x.1 in
    rw (← same) (record { utf8 = p.0; no_nul = lacks_contains 0 x.0 p.1; short = grind (arith, nat_tests) })

-- ---- texts without escapes

bare_is : (bytes : List ℕ) → list_all is_free bytes ≡ true → text_at bytes ≡ and_then (run_at bytes) (λ t. cond (leb (length t) 1020) (Some t) None)
unfolding text_at
bare_is bytes free = rw (pieces-one 37 bytes (free_lacks 37 bytes refl free)) refl

pub bare_text : (bytes : List ℕ) → list_all is_free bytes ≡ true → IsUtf8 bytes → ¬ (1020 < length bytes) → IsText bytes
bare_text bytes free u h = record { utf8 = u; no_nul = lacks_contains 0 bytes (free_lacks 0 bytes refl free); short = omega (arith, h) }

pub bare_read : (bytes : List ℕ) → list_all is_free bytes ≡ true → IsText bytes → text_at bytes ≡ Some bytes
bare_read bytes free h =
    let short : length bytes ≤ 1020 = h.short in
    let test : leb (length bytes) 1020 ≡ true = grind (arith, nat_tests) in
    bare_is bytes free ∙ rw (is_text_run bytes h.utf8 free, test) refl

pub bare_wrong : (bytes : List ℕ) → list_all is_free bytes ≡ true → ¬ IsUtf8 bytes → text_at bytes ≡ None
bare_wrong bytes free wrong = bare_is bytes free ∙ rw (isnt_text_run bytes wrong) refl

pub bare_long : (bytes : List ℕ) → list_all is_free bytes ≡ true → IsUtf8 bytes → 1020 < length bytes → text_at bytes ≡ None
bare_long bytes free u long =
    let test : leb (length bytes) 1020 ≡ false = grind (arith, nat_tests) in
    bare_is bytes free ∙ rw (is_text_run bytes u free, test) refl
