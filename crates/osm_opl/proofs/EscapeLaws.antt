-- A text that is read is spelled, and what is spelled is read.
use Rattle.std.proofs.Common.{◌≡◌, ℕ, ◌+◌, ◌<◌, ◌≤◌, Bool, true, false, cond, leb, List, [], ◌∷◌, ◌++◌, length, Some}
use Rattle.std.proofs.Common.{None, refl, sym, ap, ◌∙◌, append_assoc, arith, lit<, lit≤, ◌/◌, ◌%◌, ltb}
use Rattle.std.specs.Prelude.{◌≢◌, not, Result, Ok, Err, IfOk, IfErr, MatchResult}
use Rattle.std.specs.Char.{encode_utf8, digit_value}
use Rattle.std.specs.List.{list_all}
use Rattle.std.specs.Str.{IsUtf8}
use Rattle.std.proofs.lemmas.Bool.Decides.{nat_tests}
use Rattle.std.proofs.lemmas.List.{append-nil}
use Rattle.std.proofs.lemmas.Option.{same_Some}
use Rattle.std.proofs.lemmas.Str.{IsUtf8-append, IsUtf8-encode, IsUtf8-nil, is_utf8-from_IsUtf8, encode_ascii}
use lib.Utf8.{scalar, scalars, encodes}
use Rattle.osm_model.specs.Text.{IsText}
use Rattle.osm_opl.specs.Escape.{is_reserved, IsBare, NamesChar, SpellsText, TextStops, end, bare, escape}
use Rattle.osm_reading.specs.Pieces.{joined, pieces}
use Rattle.osm_opl.specs.Reading.{escape_at, is_free, run_at, runs_at, text_at}
use Rattle.osm_reading.specs.Refusal.{IsWant}
use Rattle.osm_reading.specs.Answers.{Gives, and_then}
use Rattle.osm_reading.specs.declared.refusal.Refusal.{Refusal}
use Rattle.osm_reading.specs.declared.refusal.Refusal.TheVariants.{WantOfMemory, Fault}
use Rattle.osm_reading.proofs.StepLemmas.{both_held, some_then, guard_some}
use Rattle.osm_reading.specs.Pieces.{Lacks}
use Rattle.osm_reading.proofs.PieceLemmas.{lacks_append, joined-pieces, pieces-prefix, pieces-more, with_prefix}
use Rattle.osm_opl.proofs.NumberLaws.{digits_lack}
use Rattle.osm_opl.proofs.EscapeLemmas.{encode_lacks, run_takes, escape_takes, escape_again}

reserved_is_ascii : (c : ℕ) → is_reserved c ≡ true → c < 128
reserved_is_ascii c e = grind (arith, nat_tests)

-- a character of a run of free bytes is bare
bare_in : (c : ℕ) (rest : List ℕ) → scalar c ≡ true → list_all is_free (encode_utf8 c ++ rest) ≡ true → IsBare c
bare_in c rest s free = record { scalar = s; free = by_test (is_reserved c) refl }
  where
    no_both : (x : Bool) → x ≡ true → not x ≡ true → ⊥
    no_both true a b = cc
    no_both false a b = cc

    by_test : (x : Bool) → is_reserved c ≡ x → is_reserved c ≡ false
    by_test false e = e
    by_test true e =
        let one : encode_utf8 c ≡ c ∷ [] = encode_ascii c (reserved_is_ascii c e) in
        let test : list_all is_free (c ∷ rest) ≡ true = rw one at free in
        absurd (no_both (is_reserved c) e (both_held (is_free c) (list_all is_free rest) test).0)

free_after : (xs ys : List ℕ) → list_all is_free (xs ++ ys) ≡ true → list_all is_free ys ≡ true
free_after [] ys e = e
free_after (x ∷ xs) ys e = free_after xs ys (both_held (is_free x) (list_all is_free (xs ++ ys)) e).1

-- a run of bare characters before a spelling of a text
run_before : (cs bytes text : List ℕ) → scalars cs ≡ true → list_all is_free (encodes cs) ≡ true → SpellsText bytes text
    → SpellsText (encodes cs ++ bytes) (encodes cs ++ text)
run_before [] bytes text s free h = h
run_before (c ∷ cs) bytes text s free h =
    let p = both_held (scalar c) (scalars cs) s in
    let inner = run_before cs bytes text p.1 (free_after (encode_utf8 c) (encodes cs) free) h in
    rw (append_assoc (encode_utf8 c) (encodes cs) bytes, append_assoc (encode_utf8 c) (encodes cs) text)
    (bare c (encodes cs ++ bytes) (encodes cs ++ text) (bare_in c (encodes cs) p.0 free) inner)

run_begins : (run bytes text : List ℕ) → list_all is_free run ≡ true → IsUtf8 run → SpellsText bytes text → SpellsText (run ++ bytes) (run ++ text)
run_begins run bytes text free (cs, (s, is)) h =
    let f : list_all is_free (encodes cs) ≡ true = rw is free in
    rw (is) at (run_before cs bytes text s f h)

runs_take : (ps : List (List ℕ)) (text : List ℕ) → runs_at ps ≡ Some text → SpellsText (joined 37 ps) text
runs_take [] text e = absurd cc
runs_take (run ∷ []) text e =
    let r = run_takes run text e in
    let h : SpellsText (run ++ []) (run ++ []) = run_begins run [] [] r.1 r.2 end in
    let plain : SpellsText run run = rw (append-nil run) at h in
    rw r.0 plain
runs_take (run ∷ digits ∷ []) text e =
    let a = some_then (run_at run) (λ (r : List ℕ). and_then {A = ℕ} {B = List ℕ} (escape_at digits)
    (λ c. and_then {A = List ℕ} {B = List ℕ} (runs_at []) (λ t. Some (r ++ encode_utf8 c ++ t)))) text e in
    let b = some_then (escape_at digits) (λ (c : ℕ). and_then {A = List ℕ} {B = List ℕ} (runs_at []) (λ t. Some (a.0 ++ encode_utf8 c ++ t))) text a.2 in
    let z : None ≡ Some text = b.2 in
    absurd cc
runs_take (run ∷ digits ∷ next ∷ more) text e =
    let a = some_then (run_at run) (λ (r : List ℕ). and_then {A = ℕ} {B = List ℕ} (escape_at digits)
    (λ c. and_then {A = List ℕ} {B = List ℕ} (runs_at (next ∷ more)) (λ t. Some (r ++ encode_utf8 c ++ t)))) text
    e in
    let b = some_then (escape_at digits) (λ (c : ℕ). and_then {A = List ℕ} {B = List ℕ} (runs_at (next ∷ more))
    (λ t. Some (a.0 ++ encode_utf8 c ++ t))) text a.2 in
    let d = some_then (runs_at (next ∷ more)) (λ (t : List ℕ). Some (a.0 ++ encode_utf8 b.0 ++ t)) text b.2 in
    let r = run_takes run a.0 a.1 in
    let n : NamesChar digits b.0 = escape_takes digits b.0 b.1 in
    let inner : SpellsText (joined 37 (next ∷ more)) d.0 = runs_take (next ∷ more) d.0 d.1 in
    let same : a.0 ++ encode_utf8 b.0 ++ d.0 ≡ text = same_Some (a.0 ++ encode_utf8 b.0 ++ d.0) text d.2 in
    let h : SpellsText (run ++ (37 ∷ (digits ++ (37 ∷ joined 37 (next ∷ more))))) (run ++ (encode_utf8 b.0 ++ d.0)) =
    run_begins run (37 ∷ (digits ++ (37 ∷ joined 37 (next ∷ more)))) (encode_utf8 b.0 ++ d.0) r.1 r.2
    (escape digits b.0 (joined 37 (next ∷ more)) d.0 n inner) in
    let value : run ++ (encode_utf8 b.0 ++ d.0) ≡ text = sym (append_assoc run (encode_utf8 b.0) d.0)
    ∙ (ap (λ (l : List ℕ). l ++ encode_utf8 b.0 ++ d.0) (sym r.0) ∙ same) in
    rw value at h

pub text_takes : (bytes text : List ℕ) → text_at bytes ≡ Some text → SpellsText bytes text
unfolding text_at
text_takes bytes text e =
    let x = some_then (runs_at (pieces 37 bytes)) (λ (t : List ℕ). cond (leb (length t) 1020) (Some t) None) text e in
    let g = guard_some (leb (length x.0) 1020) (Some x.0) text x.2 in
    let same : x.0 ≡ text = same_Some x.0 text g.1 in
    let h : SpellsText (joined 37 (pieces 37 bytes)) x.0 = runs_take (pieces 37 bytes) x.0 x.1 in
    rw (joined-pieces 37 bytes, same) at h

-- ---- what is spelled is read

high_free : (b : ℕ) → 128 ≤ b → is_free b ≡ true
high_free b h = let e : is_reserved b ≡ false = grind (arith, nat_tests) in rw e refl

free_append : (xs ys : List ℕ) → list_all is_free xs ≡ true → list_all is_free ys ≡ true → list_all is_free (xs ++ ys) ≡ true
free_append [] ys p q = q
free_append (x ∷ xs) ys p q =
    let h = both_held (is_free x) (list_all is_free xs) p in
    rw (h.0) (free_append xs ys h.1 q)

encode_free : (c : ℕ) → IsBare c → list_all is_free (encode_utf8 c) ≡ true
unfolding encode_utf8
encode_free c h = by_tests (ltb c 128) (ltb c 2048) (ltb c 65536)
  where
    by_tests : (x y z : Bool)
        → list_all is_free
        (cond x (c ∷ []) (cond y ((192 + c / 64) ∷ (128 + c % 64) ∷ [])
        (cond z ((224 + c / 4096) ∷ (128 + c / 64 % 64) ∷ (128 + c % 64) ∷ [])
        ((240 + c / 262144) ∷ (128 + c / 4096 % 64) ∷ (128 + c / 64 % 64) ∷ (128 + c % 64) ∷ [])))) ≡ true
    by_tests true y z = let e : is_reserved c ≡ false = h.free in rw e refl
    by_tests false true z = rw (high_free (192 + c / 64) (omega arith), high_free (128 + c % 64) (omega arith)) refl
    by_tests false false true =
        rw (
          high_free (224 + c / 4096) (omega arith),
          high_free (128 + c / 64 % 64) (omega arith),
          high_free (128 + c % 64) (omega arith),
        ) refl
    by_tests false false false =
        rw (
          high_free (240 + c / 262144) (omega arith),
          high_free (128 + c / 4096 % 64) (omega arith),
          high_free (128 + c / 64 % 64) (omega arith),
          high_free (128 + c % 64) (omega arith),
        ) refl

run_again : (run : List ℕ) → list_all is_free run ≡ true → IsUtf8 run → run_at run ≡ Some run
run_again run free u = rw (free, is_utf8-from_IsUtf8 run u) refl

run_longer : (c : ℕ) (run text : List ℕ) → IsBare c → run_at run ≡ Some text → run_at (encode_utf8 c ++ run) ≡ Some (encode_utf8 c ++ text)
run_longer c run text h e =
    let r = run_takes run text e in
    rw (r.0) (run_again (encode_utf8 c ++ run) (free_append (encode_utf8 c) run (encode_free c h) r.1)
    (IsUtf8-append (encode_utf8 c) run (IsUtf8-encode c h.scalar) r.2))

runs_of : (run digits : List ℕ) (more : List (List ℕ)) (r : List ℕ) (c : ℕ) (t : List ℕ) → run_at run ≡ Some r
    → escape_at digits ≡ Some c → runs_at more ≡ Some t → runs_at (run ∷ digits ∷ more) ≡ Some (r ++ encode_utf8 c ++ t)
runs_of run digits more r c t p q s = rw (p, q, s) refl

four_parts : (a b c d : List ℕ) → a ++ b ++ c ++ d ≡ a ++ (b ++ c ++ d)
four_parts a b c d = simp append_assoc

runs_longer : (c : ℕ) (ps : List (List ℕ)) (text : List ℕ) → IsBare c → runs_at ps ≡ Some text
    → runs_at (with_prefix (encode_utf8 c) ps) ≡ Some (encode_utf8 c ++ text)
runs_longer c [] text h e = absurd cc
runs_longer c (run ∷ []) text h e = run_longer c run text h e
runs_longer c (run ∷ digits ∷ more) text h e =
    let a = some_then (run_at run) (λ (r : List ℕ). and_then {A = ℕ} {B = List ℕ} (escape_at digits)
    (λ c. and_then {A = List ℕ} {B = List ℕ} (runs_at more) (λ t. Some (r ++ encode_utf8 c ++ t)))) text e in
    let b = some_then (escape_at digits) (λ (c : ℕ). and_then {A = List ℕ} {B = List ℕ} (runs_at more) (λ t. Some (a.0 ++ encode_utf8 c ++ t))) text a.2 in
    let d = some_then (runs_at more) (λ (t : List ℕ). Some (a.0 ++ encode_utf8 b.0 ++ t)) text b.2 in
    let value : a.0 ++ encode_utf8 b.0 ++ d.0 ≡ text = same_Some (a.0 ++ encode_utf8 b.0 ++ d.0) text d.2 in
    let regroup : encode_utf8 c ++ a.0 ++ encode_utf8 b.0 ++ d.0 ≡ encode_utf8 c ++ (a.0 ++ encode_utf8 b.0 ++ d.0) =
    four_parts (encode_utf8 c) a.0 (encode_utf8 b.0) d.0 in
    runs_of (encode_utf8 c ++ run) digits more (encode_utf8 c ++ a.0) b.0 d.0 (run_longer c run a.0 h a.1) b.1 d.1
    ∙ ap (λ (l : List ℕ). Some l) (regroup ∙ ap (λ (l : List ℕ). encode_utf8 c ++ l) value)

pub runs_again : (bytes text : List ℕ) → SpellsText bytes text → runs_at (pieces 37 bytes) ≡ Some text
unfolding pieces
runs_again _ _ end = rw (is_utf8-from_IsUtf8 [] IsUtf8-nil) refl
runs_again _ _ (bare c bytes text h rest) =
    let free : is_reserved c ≡ false = h.free in
    let other : c ≢ 37 = λ e. let q : is_reserved 37 ≡ false = rw e at free in cc in
    rw (pieces-prefix 37 (encode_utf8 c) bytes (encode_lacks 37 c (lit< tt) other)) (runs_longer c (pieces 37 bytes) text h (runs_again bytes text rest))
runs_again _ _ (escape digits c bytes text n rest) =
    rw (
      pieces-more 37 digits bytes (digits_lack 16 37 digits (lit≤ tt) n.numeral.1),
      is_utf8-from_IsUtf8 [] IsUtf8-nil,
      escape_again digits c n,
      runs_again bytes text rest,
    ) refl

pub text_again : (bytes text : List ℕ) → SpellsText bytes text → IsText text → text_at bytes ≡ Some text
unfolding text_at
text_again bytes text h is =
    let short : length text ≤ 1020 = is.short in
    let t : leb (length text) 1020 ≡ true = grind (arith, nat_tests) in
    rw (runs_again bytes text h, t) refl

-- bytes spell at most one text
pub one_text : (bytes a b : List ℕ) → SpellsText bytes a → SpellsText bytes b → a ≡ b
one_text bytes a b p q = same_Some a b (sym (runs_again bytes a p) ∙ runs_again bytes b q)

-- ---- what a reader answers

pub text_spelled : (bytes : List ℕ) (r : Result (List ℕ) Refusal) → Gives (λ t. t) r (text_at bytes) → IfOk r (λ t. SpellsText bytes t)
text_spelled bytes (Ok t) h = text_takes bytes t h
text_spelled bytes (Err e) h = tt

pub text_refused : (bytes : List ℕ) (r : Result (List ℕ) Refusal) → Gives (λ t. t) r (text_at bytes) → IfErr r (TextStops bytes)
text_refused bytes (Ok t) h = tt
text_refused bytes (Err WantOfMemory) h = tt
text_refused bytes (Err (Fault why)) h = λ t is s. let e = text_again bytes t s is in let z : None ≡ Some t = sym h ∙ e in absurd cc

pub text_only : (bytes : List ℕ) (r : Result (List ℕ) Refusal) → Gives (λ t. t) r (text_at bytes) → (text : List ℕ)
    → IsText text → SpellsText bytes text → MatchResult r (λ t. t ≡ text) IsWant
text_only bytes (Ok t) h text is s = same_Some t text (sym h ∙ text_again bytes text s is)
text_only bytes (Err WantOfMemory) h text is s = tt
text_only bytes (Err (Fault why)) h text is s = absurd (text_refused bytes (Err (Fault why)) h text is s)

-- a byte that can't be bare, other than `%`, occurs nowhere in a spelling of a text
pub text_lacks : (s : ℕ) (bytes text : List ℕ) → is_reserved s ≡ true → s ≢ 37 → 16 ≤ digit_value s → SpellsText bytes text → Lacks s bytes
text_lacks s _ _ r other far end = tt
text_lacks s _ _ r other far (bare c bytes text h rest) =
    let free : is_reserved c ≡ false = h.free in
    let apart : c ≢ s = λ e. let q : is_reserved s ≡ false = rw e at free in both_ways (is_reserved s) r q in
    lacks_append s (encode_utf8 c) bytes (encode_lacks s c (reserved_is_ascii s r) apart) (text_lacks s bytes text r other far rest)
  where
    both_ways : (x : Bool) → x ≡ true → x ≡ false → ⊥
    both_ways true a b = cc
    both_ways false a b = cc
text_lacks s _ _ r other far (escape digits c bytes text n rest) =
    lacks_append s (37 ∷ digits) (37 ∷ bytes) (λ e. other (sym e), digits_lack 16 s digits far n.numeral.1)
    (λ e. other (sym e), text_lacks s bytes text r other far rest)
