-- The strings of a table as bytes and sizes, entry by entry.
use Rattle.std.proofs.Common.{◌≡◌, ℕ, zero, suc, ◌+◌, ◌-◌, ◌<◌, ◌≤◌, true, leb, List, [], ◌∷◌, ◌++◌, length, take, drop}
use Rattle.std.proofs.Common.{Bor, get_or, Option, Some, None, refl, sym, ap, subst, ◌∙◌, arith, append_assoc}
use Rattle.std.specs.Prelude.{slice_get, option_copied, IsSome}
use Rattle.std.proofs.lemmas.Bool.Decides.{nat_tests}
use Rattle.std.proofs.lemmas.Option.{same_Some}
use Rattle.std.proofs.lemmas.List.{append-nil, length-append, length-drop, drop-append-le, take-append-le, take_at, drop_at}
use Rattle.circular_buffer.specs.Buffer.{keep_last}
use Rattle.osm_o5c.specs.StringReading.{latest}
use Rattle.osm_o5c.specs.declared.strings.Entry.{Entry}
use Rattle.osm_o5c.specs.declared.strings.Entry.TheVariants as entries
use Rattle.osm_data.specs.declared.o5m_carried.Sizes.{Sizes}
use Rattle.osm_data.specs.declared.o5m_carried.Sizes.TheVariants.{Pair, Single}
use Rattle.osm_data.specs.Steps.Strings.{AllAreTexts, AreSizesOf, AreTexts, bytes_of, size_in, entry_at, entries_in, total_of}

-- ---- one more entry

size_is : (s : Sizes) (e : Entry) → AreSizesOf s e → length (bytes_of e) ≡ size_in s
size_is (Pair f t x y) (entries.Pair first second) same = omega (arith, same.0, same.1, length-append first second)
size_is (Pair f t x y) (entries.Single text) same = absurd same
size_is (Single t x) (entries.Pair first second) same = absurd same
size_is (Single t x) (entries.Single text) same = sym same

all_taken : (xs : List ℕ) → take (length xs) xs ≡ xs
all_taken [] = refl
all_taken (x ∷ xs) = ap (λ (l : List ℕ). x ∷ l) (all_taken xs)

entry_again : (s : Sizes) (e : Entry) → AreSizesOf s e → entry_at s (bytes_of e) ≡ e
entry_again (Pair f t x y) (entries.Pair first second) same =
    let front : take (length first) (first ++ second) ≡ first = take_at first second (length first) refl in
    let rest : drop (length first) (first ++ second) ≡ second = drop_at first second (length first) refl in
    rw (same.0, same.1, front, rest, all_taken second) refl
entry_again (Pair f t x y) (entries.Single text) same = absurd same
entry_again (Single t x) (entries.Pair first second) same = absurd same
entry_again (Single t x) (entries.Single text) same = rw (same, all_taken text) refl

-- an entry that the first bytes hold doesn't change with more bytes
entry_more : (s : Sizes) (bytes more : List ℕ) → size_in s ≤ length bytes → entry_at s (bytes ++ more) ≡ entry_at s bytes
entry_more (Pair f t x y) bytes more fits =
    let few : f ≤ length bytes = omega (arith, fits) in
    let rest : t ≤ length (drop f bytes) = omega (arith, fits, length-drop f bytes) in
    rw (take-append-le f bytes more few, drop-append-le f bytes more few, take-append-le t (drop f bytes) more rest) refl
entry_more (Single t x) bytes more fits = rw (take-append-le t bytes more fits) refl

pub entries_then : (ss : List Sizes) (bytes : List ℕ) (s : Sizes) (e : Entry) → AreSizesOf s e → length bytes ≡ total_of ss
    → entries_in (ss ++ s ∷ []) (bytes ++ bytes_of e) ≡ entries_in ss bytes ++ e ∷ []
unfolding entries_in total_of
entries_then [] [] s e same all = ap (λ (x : Entry). x ∷ []) (entry_again s e same)
entries_then [] (b ∷ bytes) s e same all = absurd (omega (arith, all))
entries_then (z ∷ ss) bytes s e same all =
    let fits : size_in z ≤ length bytes = omega (arith, all) in
    let rest : length (drop (size_in z) bytes) ≡ total_of ss = omega (arith, all, length-drop (size_in z) bytes) in
    rw (entry_more z bytes (bytes_of e) fits, drop-append-le (size_in z) bytes (bytes_of e) fits)
    (ap (λ (l : List Entry). entry_at z bytes ∷ l) (entries_then ss (drop (size_in z) bytes) s e same rest))

pub total_then : (ss : List Sizes) (bytes : List ℕ) (s : Sizes) (e : Entry) → AreSizesOf s e → length bytes ≡ total_of ss
    → length (bytes ++ bytes_of e) ≡ total_of (ss ++ s ∷ [])
unfolding total_of
total_then [] bytes s e same all = omega (arith, all, length-append bytes (bytes_of e), size_is s e same)
total_then (z ∷ ss) bytes s e same all =
    let rest : length (drop (size_in z) bytes) ≡ total_of ss = omega (arith, all, length-drop (size_in z) bytes) in
    let last = total_then ss (drop (size_in z) bytes) s e same rest in
    omega (arith, all, last, length-append bytes (bytes_of e), length-append (drop (size_in z) bytes) (bytes_of e), length-drop (size_in z) bytes)

pub texts_then : (ss : List Sizes) (bytes : List ℕ) (s : Sizes) (e : Entry) → AreSizesOf s e → AreTexts s e → length bytes ≡ total_of ss
    → AllAreTexts ss bytes → AllAreTexts (ss ++ s ∷ []) (bytes ++ bytes_of e)
unfolding AllAreTexts total_of
texts_then [] [] s e same texts all before = (rw (entry_again s e same) texts, tt)
texts_then [] (b ∷ bytes) s e same texts all before = absurd (omega (arith, all))
texts_then (z ∷ ss) bytes s e same texts all before =
    let fits : size_in z ≤ length bytes = omega (arith, all) in
    let rest : length (drop (size_in z) bytes) ≡ total_of ss = omega (arith, all, length-drop (size_in z) bytes) in
    rw (entry_more z bytes (bytes_of e) fits, drop-append-le (size_in z) bytes (bytes_of e) fits)
    (before.0, texts_then ss (drop (size_in z) bytes) s e same texts rest before.1)

-- ---- the entries from the oldest on

pub latest_oldest : (table : List Entry) (n i : ℕ) → n ≡ length table → i < n → latest table (n - i) ≡ slice_get table i
unfolding latest
latest_oldest table n i all within =
    let one : leb 1 (n - i) ≡ true = (let o : 1 ≤ n - i = omega (arith, within) in grind (arith, nat_tests)) in
    let few : leb (n - i) (length table) ≡ true = (let o : n - i ≤ length table = omega (arith, all) in grind (arith, nat_tests)) in
    let at : length table - (n - i) ≡ i = omega (arith, all, within) in
    rw (one, few, at) refl

taken : (xs : List Entry) (i : ℕ) (x : Entry) → slice_get xs i ≡ Some x → take (suc i) xs ≡ take i xs ++ x ∷ []
taken [] i x e = absurd cc
taken (y ∷ xs) zero x e = ap (λ (z : Entry). z ∷ []) (same_Some y x e)
taken (y ∷ xs) (suc i) x e = ap (λ (l : List Entry). y ∷ l) (taken xs i x e)

pub take_then : (xs : List Entry) (i : ℕ) (x : Entry) → slice_get xs i ≡ Some x → take (i + 1) xs ≡ take i xs ++ x ∷ []
take_then xs i x e = let n : i + 1 ≡ suc i = omega arith in rw n (taken xs i x e)

pub copied_some : (o : Option (Bor Entry)) (x : Entry) → option_copied o ≡ Some x → IsSome o
copied_some None x e = absurd cc
copied_some (Some b) x e = refl

pub some_there : (xs : List Entry) (i : ℕ) → i < length xs → (x : Entry) × (slice_get xs i ≡ Some x)
some_there [] i h = absurd (omega (arith, h))
some_there (x ∷ xs) zero h = (x, refl)
some_there (x ∷ xs) (suc i) h = some_there xs i (omega (arith, h))

pub take_whole : (xs : List Entry) → take (length xs) xs ≡ xs
take_whole [] = refl
take_whole (x ∷ xs) = ap (λ (l : List Entry). x ∷ l) (take_whole xs)

-- ---- the table made again

pub keep_all : (xs : List Entry) → length xs ≤ 15000 → keep_last 15000 xs ≡ xs
keep_all xs few = let none : length xs - 15000 ≡ 0 = omega (arith, few) in rw none refl

pub entries-length : (ss : List Sizes) (bytes : List ℕ) → length (entries_in ss bytes) ≡ length ss
unfolding entries_in
entries-length [] bytes = refl
entries-length (s ∷ ss) bytes = ap suc (entries-length ss (drop (size_in s) bytes))

-- no entries
pub nothing_carried : record {
  same : entries_in [] [] ≡ [];
  whole : length {A = ℕ} [] ≡ total_of [];
  count : length {A = Sizes} [] ≡ 0;
  texts : AllAreTexts [] [];
}
unfolding entries_in total_of AllAreTexts
nothing_carried = record { same = refl; whole = refl; count = refl; texts = tt }

cut : (ss : List Sizes) (i : ℕ) (d : Sizes) → i < length ss → drop i ss ≡ get_or ss i d ∷ drop (suc i) ss
cut [] i d h = absurd (omega (arith, h))
cut (s ∷ ss) zero d h = refl
cut (s ∷ ss) (suc i) d h = cut ss i d (omega (arith, h))

cut_at : (ss : List Sizes) (i : ℕ) (d : Sizes) → i < length ss → drop i ss ≡ get_or ss i d ∷ drop (i + 1) ss
cut_at ss i d h = let n : i + 1 ≡ suc i = omega arith in rw n (cut ss i d h)

nothing_cut : (ss : List Sizes) (i : ℕ) → length ss ≤ i → drop i ss ≡ []
nothing_cut [] zero h = refl
nothing_cut [] (suc i) h = refl
nothing_cut (s ∷ ss) zero h = absurd (omega (arith, h))
nothing_cut (s ∷ ss) (suc i) h = nothing_cut ss i (omega (arith, h))

-- the next entry is there
pub next_fits : (ss : List Sizes) (i : ℕ) (d : Sizes) (rest : List ℕ) → i < length ss → length rest ≡ total_of (drop i ss)
    → size_in (get_or ss i d) ≤ length rest
unfolding total_of
next_fits ss i d rest h all =
    let parts : total_of (drop i ss) ≡ size_in (get_or ss i d) + total_of (drop (i + 1) ss) = ap total_of (cut_at ss i d h) in
    omega (arith, all, parts)

pub next_total : (ss : List Sizes) (i : ℕ) (d : Sizes) (rest : List ℕ) → i < length ss → length rest ≡ total_of (drop i ss)
    → length (drop (size_in (get_or ss i d)) rest) ≡ total_of (drop (i + 1) ss)
unfolding total_of
next_total ss i d rest h all =
    let parts : total_of (drop i ss) ≡ size_in (get_or ss i d) + total_of (drop (i + 1) ss) = ap total_of (cut_at ss i d h) in
    omega (arith, all, parts, length-drop (size_in (get_or ss i d)) rest)

-- the texts of the next entry, and of those after it
pub next_texts : (ss : List Sizes) (i : ℕ) (d : Sizes) (rest : List ℕ) → i < length ss → AllAreTexts (drop i ss) rest
    → AreTexts (get_or ss i d) (entry_at (get_or ss i d) rest) × AllAreTexts (drop (i + 1) ss) (drop (size_in (get_or ss i d)) rest)
unfolding AllAreTexts
next_texts ss i d rest h all = subst (λ (l : List Sizes). AllAreTexts l rest) (cut_at ss i d h) all

pub next_entry : (ss : List Sizes) (i : ℕ) (d : Sizes) (rest : List ℕ) (table after self : List Entry) → i < length ss
    → table ++ entries_in (drop i ss) rest ≡ self → length self ≤ 15000
    → after ≡ keep_last 15000 (table ++ entry_at (get_or ss i d) rest ∷ [])
    → after ++ entries_in (drop (i + 1) ss) (drop (size_in (get_or ss i d)) rest) ≡ self
unfolding entries_in
next_entry ss i d rest table after self h all few pushed =
    let s : Sizes = get_or ss i d in
    let more : List Entry = entries_in (drop (i + 1) ss) (drop (size_in s) rest) in
    let parts : entries_in (drop i ss) rest ≡ entry_at s rest ∷ more = ap (λ (l : List Sizes). entries_in l rest) (cut_at ss i d h) in
    let whole : table ++ (entry_at s rest ∷ more) ≡ self = ap (λ (l : List Entry). table ++ l) (sym parts) ∙ all in
    let one : (table ++ entry_at s rest ∷ []) ++ more ≡ self = append_assoc table (entry_at s rest ∷ []) more ∙ whole in
    let size : length (table ++ entry_at s rest ∷ []) ≤ 15000 = omega (arith, few, ap length one, length-append (table ++ entry_at s rest ∷ []) more) in
    rw (pushed, keep_all (table ++ entry_at s rest ∷ []) size) one

pub no_entry : (ss : List Sizes) (i : ℕ) (rest : List ℕ) (table self : List Entry) → length ss ≤ i
    → table ++ entries_in (drop i ss) rest ≡ self → table ≡ self
unfolding entries_in
no_entry ss i rest table self h all =
    let none : entries_in (drop i ss) rest ≡ [] = ap (λ (l : List Sizes). entries_in l rest) (nothing_cut ss i h) in
    sym (append-nil table) ∙ ap (λ (l : List Entry). table ++ l) (sym none) ∙ all
