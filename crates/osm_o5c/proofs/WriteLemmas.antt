-- What the writer appends, piece by piece.
use Rattle.std.proofs.Common.{◌≡◌, ℕ, zero, suc, ◌+◌, ◌-◌, ◌*◌, ◌/◌, ◌%◌, ◌<◌, ◌≤◌, true, false, ltb, List, [], ◌∷◌}
use Rattle.std.proofs.Common.{◌++◌, length, get_or, drop, Option, Some, Result, Ok, Err, refl, sym, ap, ◌∙◌}
use Rattle.std.proofs.Common.{append_assoc, arith}
use Rattle.std.specs.Prelude.{ℤ, ◌-ℤ◌, ◌≤ℤ◌, ◌<ℤ◌, OnOk}
use Rattle.std.proofs.lemmas.Bool.Decides.{nat_tests}
use Rattle.std.proofs.lemmas.List.{append-nil, length-append}
use Rattle.osm_o5c.specs.Number.{zigzag}
use Rattle.osm_model.specs.Change.{ChangeValue}
use Rattle.osm_model.specs.declared.kind.Kind.{Kind}
use Rattle.osm_o5c.specs.Written.{varint_text, change_text, after_change, objects_text}
use Rattle.osm_o5c.specs.declared.writer.State.{State}

-- what holds if a call succeeds
pub on_ok : {T E P Q : Type 0} (r : Result T E) → OnOk r P → (P → Q) → OnOk r Q
on_ok (Ok x) p f = f p
on_ok (Err e) p f = tt

-- ---- numbers

pub varint_none : (n : ℕ) (old : List ℕ) → old ≡ old ++ varint_text 0 n
unfolding varint_text
varint_none n old = sym (append-nil old)

last_byte : (most n : ℕ) → 0 < most → n < 128 → varint_text most n ≡ n ∷ []
unfolding varint_text
last_byte zero n some small = absurd (omega arith)
last_byte (suc k) n some small = let t : ltb n 128 ≡ true = grind (arith, nat_tests) in rw t refl

more_varint : (most n : ℕ) → 0 < most → 128 ≤ n → varint_text most n ≡ (n % 128 + 128) ∷ varint_text (most - 1) (n / 128)
unfolding varint_text
more_varint zero n some big = absurd (omega arith)
more_varint (suc k) n some big =
    let t : ltb n 128 ≡ false = grind (arith, nat_tests) in
    let j : suc k - 1 ≡ k = omega arith in
    rw (t, j) refl

pub varint_last : (most n : ℕ) (old new : List ℕ) → 0 < most → n < 128 → new ≡ old ++ n ∷ [] → new ≡ old ++ varint_text most n
varint_last most n old new some small e = e ∙ ap (λ (l : List ℕ). old ++ l) (sym (last_byte most n some small))

pub varint_more : (most n : ℕ) (old mid new : List ℕ) → 0 < most → 128 ≤ n → mid ≡ old ++ (n % 128 + 128) ∷ []
    → new ≡ mid ++ varint_text (most - 1) (n / 128) → new ≡ old ++ varint_text most n
varint_more most n old mid new some big m e =
    e ∙ ap (λ (l : List ℕ). l ++ varint_text (most - 1) (n / 128)) m ∙ append_assoc old ((n % 128 + 128) ∷ [])
    (varint_text (most - 1) (n / 128)) ∙ ap (λ (l : List ℕ). old ++ l) (sym (more_varint most n some big))

pub as_difference : (n : ℕ) (before value : ℤ) (old new : List ℕ) → n ≡ zigzag (value -ℤ before)
    → new ≡ old ++ varint_text 10 n → new ≡ old ++ varint_text 10 (zigzag (value -ℤ before))
as_difference n before value old new is e = e ∙ ap (λ (m : ℕ). old ++ varint_text 10 m) is

-- three pieces, one after another
pub three_pieces : (old a b new x y z : List ℕ) → a ≡ old ++ x → b ≡ a ++ y → new ≡ b ++ z → new ≡ old ++ (x ++ y ++ z)
three_pieces old a b new x y z p q r = r ∙ ap (λ (l : List ℕ). l ++ z) (q ∙ ap (λ (l : List ℕ). l ++ y) p)
    ∙ ap (λ (l : List ℕ). l ++ z) (append_assoc old x y) ∙ append_assoc old (x ++ y) z

pub four_pieces : (old a b d new x y z w : List ℕ) → a ≡ old ++ x → b ≡ a ++ y → d ≡ b ++ z → new ≡ d ++ w → new ≡ old ++ (x ++ y ++ z ++ w)
four_pieces old a b d new x y z w p q r s = rw (s, r, q, p) (simp append_assoc)

-- ---- files

drop-cons_at : (cs : List ChangeValue) (i : ℕ) (c : ChangeValue) → i < length cs → get_or cs i c ≡ c → drop i cs ≡ c ∷ drop (i + 1) cs
drop-cons_at [] i c h is = absurd (omega arith)
drop-cons_at (x ∷ xs) zero c h is = ap (λ (y : ChangeValue). y ∷ xs) is
drop-cons_at (x ∷ xs) (suc i) c h is = let n : suc i + 1 ≡ suc (i + 1) = omega arith in rw n (drop-cons_at xs i c (omega arith) is)

-- the text of the objects from one on is its text and that of the objects after it
objects_from : (before : Option Kind) (s : State) (cs : List ChangeValue) (i : ℕ) (c : ChangeValue) → i < length cs
    → get_or cs i c ≡ c → objects_text before s (drop i cs) ≡ change_text before s c ++ objects_text (Some c.key.kind)
    (after_change before s c) (drop (i + 1) cs)
objects_from before s cs i c h is =
    let here : drop i cs ≡ c ∷ drop (i + 1) cs = drop-cons_at cs i c h is in
    rw here refl

-- a step of the loop: what is written and the text of what is left stay the whole text
pub objects_more : (before kind : Option Kind) (s t : State) (cs : List ChangeValue) (i : ℕ) (c : ChangeValue)
    (old new whole : List ℕ) → i < length cs → get_or cs i c ≡ c → old ++ objects_text before s (drop i cs) ≡ whole
    → new ≡ old ++ change_text before s c → t ≡ after_change before s c → kind ≡ Some c.key.kind
    → new ++ objects_text kind t (drop (i + 1) cs) ≡ whole
objects_more before kind s t cs i c old new whole h is w e state_is k =
    rw (e, state_is, k) (append_assoc old (change_text before s c)
    (objects_text (Some c.key.kind) (after_change before s c) (drop (i + 1) cs)) ∙ ap (λ (l : List ℕ). old ++ l)
    (sym (objects_from before s cs i c h is)) ∙ w)

-- what is written is no longer than the whole text
pub written_short : (kind : Option Kind) (s : State) (start : List ℕ) (cs : List ChangeValue) (out left : List ℕ) (most : ℕ)
    → out ++ left ≡ start ++ objects_text kind s cs → most < length out
    → most < length (start ++ objects_text kind s cs ++ 254 ∷ [])
written_short kind s start cs out left most e h =
    omega (arith, ap length e, length-append out left, length-append (start ++ objects_text kind s cs) (254 ∷ []))
