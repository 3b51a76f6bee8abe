-- Where a text is cut, and that joined pieces are cut apart again.
use Rattle.std.proofs.Common.{◌≡◌, ℕ, zero, suc, ◌+◌, ◌<◌, ◌≤◌, true, false, cond, List, [], ◌∷◌, ◌++◌, length, get_or}
use Rattle.std.proofs.Common.{take, drop, Option, Some, None, refl, sym, ap, subst, ◌∙◌, arith}
use Rattle.std.specs.Prelude.{◌≢◌, ◌==◌, IfSome, MatchOption}
use Rattle.std.specs.Borrow.{Bor}
use Rattle.std.specs.List.{AllByRecursion}
use Rattle.std.proofs.lemmas.Bool.Decides.{nat_tests}
use Rattle.std.proofs.lemmas.Option.{some_pair_parts}
use Rattle.std.proofs.lemmas.List.{append-nil}
use Rattle.memchr.specs.Find.{NoneBefore, Nowhere, Passes, is_byte}
use Rattle.osm_reading.specs.Pieces.{Lacks, cut_at, joined, pieces, with_before, with_first}
use Rattle.osm_reading.specs.Lines.{BeginsWithLine, without_cr}
use Rattle.osm_reading.proofs.StepLemmas.{chosen}

-- the first part of a cut, if a byte was put before it
some_before : (b : ℕ) (r : Option (List ℕ × List ℕ)) (c : List ℕ × List ℕ) → with_before b r ≡ Some c
    → (x : List ℕ × List ℕ) × (r ≡ Some x) × (Some (b ∷ x.0, x.1) ≡ Some c)
some_before b (Some x) c e = (x, refl, e)
some_before b None c e = absurd cc

no_before : (b : ℕ) (r : Option (List ℕ × List ℕ)) → with_before b r ≡ None → r ≡ None
no_before b None e = refl
no_before b (Some x) e = absurd cc

pub cut_found : (s : ℕ) (bytes : List ℕ) (i : ℕ) → i < length bytes → get_or bytes i 0 ≡ s
    → ((k : ℕ) → k < i → get_or bytes k 0 ≢ s) → cut_at s bytes ≡ Some (take i bytes, drop (i + 1) bytes)
unfolding cut_at
cut_found s [] i h e none = absurd (omega arith)
cut_found s (b ∷ bs) zero h e none = let t : (b == s) ≡ true = grind (arith, nat_tests) in rw t refl
cut_found s (b ∷ bs) (suc i) h e none =
    let n : b ≢ s = none 0 (omega arith) in
    let other : (b == s) ≡ false = grind (arith, nat_tests) in
    let rest : cut_at s bs ≡ Some (take i bs, drop (i + 1) bs) = cut_found s bs i (omega arith) e (λ k lt. none (suc k) (omega arith)) in
    let e : suc i + 1 ≡ suc (i + 1) = omega arith in
    rw (other, rest, e) refl

pub cut_none : (s : ℕ) (bytes : List ℕ) → ((k : ℕ) → k < length bytes → get_or bytes k 0 ≢ s) → cut_at s bytes ≡ None
unfolding cut_at
cut_none s [] none = refl
cut_none s (b ∷ bs) none =
    let n : b ≢ s = none 0 (omega arith) in
    let other : (b == s) ≡ false = grind (arith, nat_tests) in
    rw (other, cut_none s bs (λ k lt. none (suc k) (omega arith))) refl

-- the pieces of a text are what comes before the cut, and the pieces of what comes after it
pub pieces_cut : (s : ℕ) (bytes before rest : List ℕ) → cut_at s bytes ≡ Some (before, rest) → pieces s bytes ≡ before ∷ pieces s rest
unfolding cut_at pieces
pieces_cut s [] before rest e = absurd cc
pieces_cut s (b ∷ bs) before rest e =
    chosen (b == s) (Some ([], bs)) (with_before b (cut_at s bs)) (Some (before, rest)) e (pieces s (b ∷ bs) ≡ before ∷ pieces s rest)
    (λ t is.
    let p = some_pair_parts [] before bs rest is in
    let first : [] ≡ before = p.0 in
    let second : bs ≡ rest = p.1 in
    rw t cc)
    (λ f is.
    let x = some_before b (cut_at s bs) (before, rest) is in
    let p = some_pair_parts (b ∷ x.0.0) before x.0.1 rest x.2 in
    let inner : pieces s bs ≡ x.0.0 ∷ pieces s x.0.1 = pieces_cut s bs x.0.0 x.0.1 x.1 in
    let first : b ∷ x.0.0 ≡ before = p.0 in
    let second : x.0.1 ≡ rest = p.1 in
    rw (f, inner) cc)

-- a text without the separator is one piece
pub pieces_whole : (s : ℕ) (bytes : List ℕ) → cut_at s bytes ≡ None → pieces s bytes ≡ bytes ∷ []
unfolding cut_at pieces
pieces_whole s [] e = refl
pieces_whole s (b ∷ bs) e =
    chosen (b == s) (Some ([], bs)) (with_before b (cut_at s bs)) None e (pieces s (b ∷ bs) ≡ (b ∷ bs) ∷ [])
    (λ t is. absurd cc)
    (λ f is.
    let uncut : cut_at s bs ≡ None = no_before b (cut_at s bs) is in
    rw (f, pieces_whole s bs uncut) refl)

-- what a search for the separator says
pub record IsCut (s : ℕ) (bytes : List ℕ) (i : ℕ) : Type 0 where
  pub within : i < length bytes
  pub first : cut_at s bytes ≡ Some (take i bytes, drop (i + 1) bytes)
  pub pieces : pieces s bytes ≡ take i bytes ∷ pieces s (drop (i + 1) bytes)

pub is_cut : (s : ℕ) (bytes : List ℕ) (i : ℕ) → i < length bytes → get_or bytes i 0 ≡ s → ((k : ℕ) → k < i → get_or bytes k 0 ≢ s) → IsCut s bytes i
is_cut s bytes i lt here none =
    let cut : cut_at s bytes ≡ Some (take i bytes, drop (i + 1) bytes) = cut_found s bytes i lt here none in
    record { within = lt; first = cut; pieces = pieces_cut s bytes (take i bytes) (drop (i + 1) bytes) cut }

-- the same for the index that a search for the separator finds
pub found_cut : (s : ℕ) (bytes : List ℕ) (i : ℕ) → NoneBefore (Passes (is_byte s) bytes) 0 (length bytes) i → Passes (is_byte s) bytes i → IsCut s bytes i
found_cut s bytes i h here =
    is_cut s bytes i h.high (grind (arith, nat_tests)) (λ k lt e. h.before k (omega arith) lt (grind (arith, nat_tests)))

pub nowhere_cut : (s : ℕ) (bytes : List ℕ) → Nowhere (Passes (is_byte s) bytes) 0 (length bytes) → cut_at s bytes ≡ None
nowhere_cut s bytes h = cut_none s bytes (λ k lt e. h k (omega arith) lt (grind (arith, nat_tests)))

-- a text has at least one piece
pub pieces_some : (s : ℕ) (bytes : List ℕ) → (p : List ℕ) × (ps : List (List ℕ)) × (pieces s bytes ≡ p ∷ ps)
unfolding pieces
pieces_some s [] = ([], [], refl)
pieces_some s (b ∷ bs) =
    elim (b == s) as (λ t. (p : List ℕ) × (ps : List (List ℕ)) × (cond t ([] ∷ pieces s bs) (with_first b (pieces s bs)) ≡ p ∷ ps)) [
      | true ↦ ([], pieces s bs, refl)
      | false ↦ let r = pieces_some s bs in (b ∷ r.0, r.1, rw r.2 refl)
    ]

-- the CR at the end of a line
without_cr-push : (bytes : List ℕ) (b : ℕ) → without_cr (bytes ++ b ∷ []) ≡ bytes ++ cond (b == 13) [] (b ∷ [])
without_cr-push [] b = refl
without_cr-push (x ∷ []) b = refl
without_cr-push (x ∷ y ∷ ys) b = ap (λ (l : List ℕ). x ∷ l) (without_cr-push (y ∷ ys) b)

pub trimmed : (line prefix : List ℕ) (last : ℕ) → line ≡ prefix ++ last ∷ [] → last ≡ 13 → without_cr line ≡ prefix
trimmed line prefix last e is = rw (e, without_cr-push prefix last, is) (append-nil prefix)

pub untrimmed : (line prefix : List ℕ) (last : ℕ) → line ≡ prefix ++ last ∷ [] → last ≢ 13 → without_cr line ≡ line
untrimmed line prefix last e other =
    let t : (last == 13) ≡ false = grind (arith, nat_tests) in
    rw (e, without_cr-push prefix last, t) refl

pub trimmed_nothing : (line : List ℕ) → length line ≡ 0 → without_cr line ≡ line
trimmed_nothing [] e = refl
trimmed_nothing (b ∷ bs) e = absurd (omega arith)

pub ruleset line_ends = (trimmed, untrimmed, trimmed_nothing)

-- a measure of what is left to read
abbrev pub bytes_left : Option (Bor (List ℕ)) → ℕ
bytes_left None = 0
bytes_left (Some rest) = suc (length rest.now)

pub some_pieces : (s : ℕ) (bytes : List ℕ) → 1 ≤ length (pieces s bytes)
some_pieces s bytes = let r = pieces_some s bytes in rw r.2 (omega arith)

-- ---- pieces that are joined

pub lacks_append : (s : ℕ) (xs ys : List ℕ) → Lacks s xs → Lacks s ys → Lacks s (xs ++ ys)
lacks_append s [] ys p q = q
lacks_append s (x ∷ xs) ys p q = (p.0, lacks_append s xs ys p.1 q)

-- bytes before a text lengthen its first piece
abbrev pub with_prefix : List ℕ → List (List ℕ) → List (List ℕ)
with_prefix prefix [] = prefix ∷ []
with_prefix prefix (p ∷ ps) = (prefix ++ p) ∷ ps

with_prefix-nothing : (s : ℕ) (bytes : List ℕ) → with_prefix [] (pieces s bytes) ≡ pieces s bytes
with_prefix-nothing s bytes = let r = pieces_some s bytes in rw r.2 refl

with_first-prefix : (x : ℕ) (xs : List ℕ) (ps : List (List ℕ)) → with_first x (with_prefix xs ps) ≡ with_prefix (x ∷ xs) ps
with_first-prefix x xs [] = refl
with_first-prefix x xs (p ∷ ps) = refl

pub pieces-prefix : (s : ℕ) (xs ys : List ℕ) → Lacks s xs → pieces s (xs ++ ys) ≡ with_prefix xs (pieces s ys)
unfolding pieces
pieces-prefix s [] ys h = sym (with_prefix-nothing s ys)
pieces-prefix s (x ∷ xs) ys h =
    let other : x ≢ s = h.0 in
    let t : (x == s) ≡ false = grind (arith, nat_tests) in
    rw (t, pieces-prefix s xs ys h.1) (with_first-prefix x xs (pieces s ys))

-- bytes without the separator are one piece
pub pieces-one : (s : ℕ) (xs : List ℕ) → Lacks s xs → pieces s xs ≡ xs ∷ []
unfolding pieces
pieces-one s [] h = refl
pieces-one s (x ∷ xs) h =
    let other : x ≢ s = h.0 in
    let t : (x == s) ≡ false = grind (arith, nat_tests) in
    rw (t, pieces-one s xs h.1) refl

-- bytes without the separator, followed by the separator
pub pieces-more : (s : ℕ) (xs ys : List ℕ) → Lacks s xs → pieces s (xs ++ s ∷ ys) ≡ xs ∷ pieces s ys
unfolding pieces
pieces-more s [] ys h = let t : (s == s) ≡ true = grind (arith, nat_tests) in rw t refl
pieces-more s (x ∷ xs) ys h =
    let other : x ≢ s = h.0 in
    let t : (x == s) ≡ false = grind (arith, nat_tests) in
    rw (t, pieces-more s xs ys h.1) refl

-- pieces without the separator are cut where they are joined
pub pieces-joined : (s : ℕ) (p : List ℕ) (ps : List (List ℕ)) → AllByRecursion (Lacks s) (p ∷ ps) → pieces s (joined s (p ∷ ps)) ≡ p ∷ ps
pieces-joined s p [] h = pieces-one s p h.0
pieces-joined s p (q ∷ qs) h = pieces-more s p (joined s (q ∷ qs)) h.0 ∙ ap (λ (l : List (List ℕ)). p ∷ l) (pieces-joined s q qs h.1)

joined-first : (s b : ℕ) (ps : List (List ℕ)) → 1 ≤ length ps → joined s (with_first b ps) ≡ b ∷ joined s ps
joined-first s b [] h = absurd (omega arith)
joined-first s b (p ∷ []) h = refl
joined-first s b (p ∷ q ∷ ps) h = refl

-- a text is its pieces joined
pub joined-pieces : (s : ℕ) (bytes : List ℕ) → joined s (pieces s bytes) ≡ bytes
unfolding pieces
joined-pieces s [] = refl
joined-pieces s (b ∷ bs) =
    chosen (b == s) ([] ∷ pieces s bs) (with_first b (pieces s bs)) (pieces s (b ∷ bs)) refl (joined s (pieces s (b ∷ bs)) ≡ b ∷ bs)
    (λ t is.
    let same : b ≡ s = grind (arith, nat_tests) in
    let r = pieces_some s bs in
    let inner : joined s (r.0 ∷ r.1) ≡ bs = rw r.2 at (joined-pieces s bs) in
    let step : joined s ([] ∷ pieces s bs) ≡ s ∷ joined s (r.0 ∷ r.1) = rw r.2 refl in
    ap (joined s) (sym is) ∙ step ∙ ap (λ (l : List ℕ). s ∷ l) inner ∙ ap (λ (x : ℕ). x ∷ bs) (sym same))
    (λ f is. ap (joined s) (sym is) ∙ joined-first s b (pieces s bs) (some_pieces s bs) ∙ ap (λ (l : List ℕ). b ∷ l) (joined-pieces s bs))

-- ---- the first separator

pub cut_takes : (s : ℕ) (bytes before after : List ℕ) → cut_at s bytes ≡ Some (before, after) → bytes ≡ before ++ s ∷ after
unfolding cut_at
cut_takes s [] before after e = absurd cc
cut_takes s (b ∷ bs) before after e =
    chosen (b == s) (Some ([], bs)) (with_before b (cut_at s bs)) (Some (before, after)) e (b ∷ bs ≡ before ++ s ∷ after)
    (λ t is.
    let same : b ≡ s = grind (arith, nat_tests) in
    let p = some_pair_parts [] before bs after is in
    let first : [] ≡ before = p.0 in
    let second : bs ≡ after = p.1 in
    rw (← first) cc)
    (λ f is.
    let x = some_before b (cut_at s bs) (before, after) is in
    let p = some_pair_parts (b ∷ x.0.0) before x.0.1 after x.2 in
    let first : b ∷ x.0.0 ≡ before = p.0 in
    let second : x.0.1 ≡ after = p.1 in
    let inner : bs ≡ x.0.0 ++ s ∷ x.0.1 = cut_takes s bs x.0.0 x.0.1 x.1 in
    ap (λ (l : List ℕ). b ∷ l) inner ∙ ap (λ (l : List ℕ). b ∷ x.0.0 ++ s ∷ l) second ∙ ap (λ (l : List ℕ). l ++ s ∷ after) first)

pub cut_again : (s : ℕ) (before after : List ℕ) → Lacks s before → cut_at s (before ++ s ∷ after) ≡ Some (before, after)
unfolding cut_at
cut_again s [] after h = let t : (s == s) ≡ true = grind (arith, nat_tests) in rw t refl
cut_again s (x ∷ xs) after h =
    let other : x ≢ s = h.0 in
    let t : (x == s) ≡ false = grind (arith, nat_tests) in
    rw (t, cut_again s xs after h.1) refl

pub uncut_again : (s : ℕ) (bytes : List ℕ) → Lacks s bytes → cut_at s bytes ≡ None
unfolding cut_at
uncut_again s [] h = refl
uncut_again s (x ∷ xs) h =
    let other : x ≢ s = h.0 in
    let t : (x == s) ≡ false = grind (arith, nat_tests) in
    rw (t, uncut_again s xs h.1) refl

-- what follows a piece is shorter than the text that begins with it
pub less_left : (after : Option (Bor (List ℕ))) (n : ℕ) → IfSome after (λ rest. length rest.now < n) → bytes_left after ≤ n
less_left None n h = omega arith
less_left (Some rest) n h = omega arith

-- the bytes before the first separator lack it
pub cut_lacks : (s : ℕ) (bytes before after : List ℕ) → cut_at s bytes ≡ Some (before, after) → Lacks s before
unfolding cut_at
cut_lacks s [] before after e = absurd cc
cut_lacks s (b ∷ bs) before after e =
    chosen (b == s) (Some ([], bs)) (with_before b (cut_at s bs)) (Some (before, after)) e (Lacks s before)
    (λ t is.
    let p = some_pair_parts [] before bs after is in
    let first : [] ≡ before = p.0 in
    subst (λ (l : List ℕ). Lacks s l) first tt)
    (λ f is.
    let x = some_before b (cut_at s bs) (before, after) is in
    let p = some_pair_parts (b ∷ x.0.0) before x.0.1 after x.2 in
    let first : b ∷ x.0.0 ≡ before = p.0 in
    let other : b ≢ s = grind (arith, nat_tests) in
    subst (λ (l : List ℕ). Lacks s l) first (other, cut_lacks s bs x.0.0 x.0.1 x.1))

pub uncut_lacks : (s : ℕ) (bytes : List ℕ) → cut_at s bytes ≡ None → Lacks s bytes
unfolding cut_at
uncut_lacks s [] e = tt
uncut_lacks s (b ∷ bs) e =
    chosen (b == s) (Some ([], bs)) (with_before b (cut_at s bs)) None e (Lacks s (b ∷ bs))
    (λ t is. absurd cc)
    (λ f is.
    let other : b ≢ s = grind (arith, nat_tests) in
    (other, uncut_lacks s bs (no_before b (cut_at s bs) is)))

-- the bytes before the first LF are the first line, with its CR
pub begins_with_line : (bytes piece line rest : List ℕ) → cut_at 10 bytes ≡ Some (piece, rest) → line ≡ without_cr piece → BeginsWithLine bytes line rest
begins_with_line bytes piece line rest e l = record {
  piece = piece;
  parts = cut_takes 10 bytes piece rest e;
  first = cut_lacks 10 bytes piece rest e;
  ending = l;
}

pub after_line : (bytes piece line : List ℕ) (after : Option (Bor (List ℕ)))
    → MatchOption after ((cut_at 10 bytes ≡ None) × (piece ≡ bytes)) (λ rest. cut_at 10 bytes ≡ Some (piece, rest.now))
    → line ≡ without_cr piece → IfSome after (λ rest. BeginsWithLine bytes line rest.now)
after_line bytes piece line None e l = tt
after_line bytes piece line (Some rest) e l = begins_with_line bytes piece line rest.now e l
