-- Three digits and back, and the two parts of a path.
use Rattle.std.proofs.Common.{◌≡◌, ℕ, ◌+◌, ◌*◌, ◌/◌, ◌%◌, ◌<◌, ◌≤◌, List, [], ◌∷◌, ◌++◌, length, take, drop, get_or}
use Rattle.std.proofs.Common.{refl, sym, ap, ◌∙◌, arith, lit≤, false, inl, inr, ◌^◌, eqb}
use Rattle.std.specs.Prelude.{codes, decimal}
use Rattle.std.specs.Fmt.{padded_integral, format_spec, char_count}
use Rattle.std.proofs.lemmas.Bool.{cases_lt}
use Rattle.std.proofs.lemmas.Bool.Decides.{nat_tests}
use Rattle.std.proofs.lemmas.Fmt.{decimal_digit, decimal_step}
use Rattle.std.proofs.lemmas.List.{take-append-drop}
use Rattle.osm_model.specs.Limits.{max_sequence}
use Rattle.osm_state.specs.Path.{three_digits, folders_text, suffix_text, path_text}
use Rattle.osm_state.specs.declared.paths.Suffix.{Suffix}
use Rattle.osm_state.specs.declared.paths.Suffix.TheVariants.{O5c, Opl, State}

pub hundreds : (digits : List ℕ) (n : ℕ) → n < 1000 → digits ≡ three_digits n → get_or digits 0 0 ≡ 48 + n / 100
hundreds digits n h e = rw e (omega arith)

pub tens : (digits : List ℕ) (n : ℕ) → digits ≡ three_digits n → get_or digits 1 0 ≡ 48 + n / 10 % 10
tens digits n e = rw e refl

pub ones : (digits : List ℕ) (n : ℕ) → digits ≡ three_digits n → get_or digits 2 0 ≡ 48 + n % 10
ones digits n e = rw e refl

-- a number is made up of its three folders
pub folders_of : (m t o : ℕ) → m < 1000 → t < 1000 → o < 1000 → folders_text (1000000 * m + 1000 * t + o) ≡
    three_digits m ++ codes "/" ++ three_digits t ++ codes "/" ++ three_digits o
folders_of m t o p q r =
    let first : (1000000 * m + 1000 * t + o) / 1000000 ≡ m = omega arith in
    let second : (1000000 * m + 1000 * t + o) / 1000 % 1000 ≡ t = omega arith in
    let third : (1000000 * m + 1000 * t + o) % 1000 ≡ o = omega arith in
    rw (first, second, third) refl

-- the folders of a path are its first eleven bytes
pub path_folders : (n : ℕ) (s : Suffix) → take 11 (path_text n s) ≡ folders_text n
unfolding path_text
path_folders n s = refl

pub path_end : (n : ℕ) (s : Suffix) → drop 11 (path_text n s) ≡ suffix_text s
unfolding path_text
path_end n s = refl

pub path_long : (n : ℕ) (s : Suffix) → 11 ≤ length (path_text n s)
unfolding path_text
path_long n O5c = lit≤ tt
path_long n Opl = lit≤ tt
path_long n State = lit≤ tt

pub path_joined : (text : List ℕ) (n : ℕ) (s : Suffix) → take 11 text ≡ folders_text n → drop 11 text ≡ suffix_text s → text ≡ path_text n s
unfolding path_text
path_joined text n s f e = sym (take-append-drop 11 text) ∙ rw (f, e) refl

three_same : (a b c x y z : ℕ) → a ≡ x → b ≡ y → c ≡ z → (let l : List ℕ = a ∷ b ∷ c ∷ [] in l) ≡ (let m : List ℕ = x ∷ y ∷ z ∷ [] in m)
three_same a b c x y z p q r = rw (p, q, r) refl

-- what `{:03}` writes
abbrev pub filled_to_three : ℕ → List ℕ
filled_to_three n = padded_integral (format_spec 32 0 4 3 18446744073709551615) false [] (decimal n)

one_digit : (n : ℕ) → n < 10 → filled_to_three n ≡ three_digits n
unfolding padded_integral char_count
one_digit n h = rw (decimal_digit n h) (three_same 48 48 (48 + n) (48 + n / 100 % 10) (48 + n / 10 % 10) (48 + n % 10)
    (omega arith) (omega arith) (omega arith))

two_digits_long : (n : ℕ) → 10 ≤ n → n < 100 → filled_to_three n ≡ three_digits n
unfolding padded_integral char_count
two_digits_long n l h =
    let start : n / 10 < 10 = omega arith in
    let fits : n < 2 ^ 64 = omega arith in
    rw (decimal_step n l fits, decimal_digit (n / 10) start)
    (three_same 48 (48 + n / 10) (48 + n % 10) (48 + n / 100 % 10) (48 + n / 10 % 10) (48 + n % 10) (omega arith) (omega arith) refl)

three_digits_long : (n : ℕ) → 100 ≤ n → n < 1000 → filled_to_three n ≡ three_digits n
unfolding padded_integral char_count
three_digits_long n l h =
    let ten : 10 ≤ n = omega arith in
    let start : 10 ≤ n / 10 = omega arith in
    let first : n / 10 / 10 < 10 = omega arith in
    let fits : n < 2 ^ 64 = omega arith in
    let fits_start : n / 10 < 2 ^ 64 = omega arith in
    rw (decimal_step n ten fits, decimal_step (n / 10) start fits_start, decimal_digit (n / 10 / 10) first)
    (three_same (48 + n / 10 / 10) (48 + n / 10 % 10) (48 + n % 10) (48 + n / 100 % 10) (48 + n / 10 % 10) (48 + n % 10) (omega arith) refl refl)

pub padded_three : (n : ℕ) → n < 1000 → filled_to_three n ≡ three_digits n
padded_three n h =
    elim (cases_lt n 10) [
      | inl lt ↦ one_digit n lt
      | inr ge ↦ elim (cases_lt n 100) [ inl lt ↦ two_digits_long n ge lt | inr more ↦ three_digits_long n more h ]
    ]

-- eleven bytes are their three folders and the bytes between them
pub eleven : (l : List ℕ) (m t o : ℕ) → length l ≡ 11 → get_or l 3 0 ≡ 47 → get_or l 7 0 ≡ 47
    → (let a : List ℕ = get_or l 0 0 ∷ get_or l 1 0 ∷ get_or l 2 0 ∷ [] in a) ≡ three_digits m
    → (let b : List ℕ = get_or l 4 0 ∷ get_or l 5 0 ∷ get_or l 6 0 ∷ [] in b) ≡ three_digits t
    → (let c : List ℕ = get_or l 8 0 ∷ get_or l 9 0 ∷ get_or l 10 0 ∷ [] in c) ≡ three_digits o → l ≡ three_digits m
    ++ codes "/" ++ three_digits t ++ codes "/" ++ three_digits o
eleven (a ∷ b ∷ c ∷ d ∷ e ∷ f ∷ g ∷ h ∷ i ∷ j ∷ k ∷ []) m t o len p q x y z = cc
eleven _ m t o len p q x y z = absurd (omega arith)

same_three : (a b : ℕ) → a < 1000 → b < 1000 → three_digits a ≡ three_digits b → a ≡ b
same_three a b p q e =
    let first : 48 + a / 100 % 10 ≡ 48 + b / 100 % 10 = ap (λ l. get_or l 0 0) e in
    let second : 48 + a / 10 % 10 ≡ 48 + b / 10 % 10 = ap (λ l. get_or l 1 0) e in
    let third : 48 + a % 10 ≡ 48 + b % 10 = ap (λ l. get_or l 2 0) e in
    omega arith

same_number : (m n : ℕ) → m ≤ max_sequence → n ≤ max_sequence → folders_text m ≡ folders_text n → m ≡ n
same_number m n p q e =
    let first : three_digits (m / 1000000) ≡ three_digits (n / 1000000) = ap (λ l. take 3 l) e in
    let second : three_digits (m / 1000 % 1000) ≡ three_digits (n / 1000 % 1000) = ap (λ l. take 3 (drop 4 l)) e in
    let third : three_digits (m % 1000) ≡ three_digits (n % 1000) = ap (λ l. take 3 (drop 8 l)) e in
    let a = same_three (m / 1000000) (n / 1000000) (omega arith) (omega arith) first in
    let b = same_three (m / 1000 % 1000) (n / 1000 % 1000) (omega arith) (omega arith) second in
    let c = same_three (m % 1000) (n % 1000) (omega arith) (omega arith) third in
    omega (arith, a, b, c)

apart : {A : Type 0} (x y : ℕ) → x ≡ y → eqb x y ≡ false → A
apart x y e f = absurd (grind (arith, nat_tests))

same_suffix : (s t : Suffix) → suffix_text s ≡ suffix_text t → s ≡ t
same_suffix O5c O5c e = refl
same_suffix Opl Opl e = refl
same_suffix State State e = refl
same_suffix O5c Opl e = apart 53 112 (ap (λ l. get_or l 2 0) e) refl
same_suffix O5c State e = apart 111 115 (ap (λ l. get_or l 1 0) e) refl
same_suffix Opl O5c e = apart 112 53 (ap (λ l. get_or l 2 0) e) refl
same_suffix Opl State e = apart 111 115 (ap (λ l. get_or l 1 0) e) refl
same_suffix State O5c e = apart 115 111 (ap (λ l. get_or l 1 0) e) refl
same_suffix State Opl e = apart 115 111 (ap (λ l. get_or l 1 0) e) refl

-- a path belongs to one number and one suffix
pub one_path : (m n : ℕ) (s t : Suffix) → m ≤ max_sequence → n ≤ max_sequence → path_text m s ≡ path_text n t → (m ≡ n) × (s ≡ t)
one_path m n s t p q e =
    let start = sym (path_folders m s) ∙ (ap (λ l. take 11 l) e ∙ path_folders n t) in
    let end = sym (path_end m s) ∙ (ap (λ l. drop 11 l) e ∙ path_end n t) in
    (same_number m n p q start, same_suffix s t end)
