-- The table holds the latest entries, and a reference names the same entry in both.
use Rattle.std.proofs.Common.{◌≡◌, ℕ, zero, suc, ◌+◌, ◌-◌, ◌<◌, ◌≤◌, true, false, cond, leb, List, [], ◌∷◌, ◌++◌, length, drop, refl, sym, ap, arith, inl, inr}
use Rattle.std.specs.Prelude.{slice_get}
use Rattle.std.proofs.lemmas.Bool.{cases_lt}
use Rattle.std.proofs.lemmas.Bool.Decides.{nat_tests}
use Rattle.std.proofs.lemmas.List.{drop-drop, drop-append-le, length-drop, length-append}
use Rattle.circular_buffer.specs.Buffer.{keep_last}
use Rattle.osm_o5c.specs.Entries.{size_of, entries_of, named}
use Rattle.osm_o5c.specs.StringReading.{latest, entered}
use Rattle.osm_o5c.specs.declared.strings.Entry.{Entry}

-- the table of the strings in line
abbrev pub table_of : List Entry → List Entry
table_of ss = keep_last 15000 (entries_of ss)

pub entries_of-push : (s : Entry) (ss : List Entry) → entries_of (ss ++ s ∷ []) ≡ cond (leb (size_of s) 250) (entries_of ss ++ s ∷ []) (entries_of ss)
entries_of-push s [] = refl
entries_of-push s (x ∷ xs) =
    elim (cases_lt 250 (size_of x)) [
      | inl long ↦ let t : leb (size_of x) 250 ≡ false = grind (arith, nat_tests) in rw t (entries_of-push s xs)
      | inr short ↦ let t : leb (size_of x) 250 ≡ true = grind (arith, nat_tests) in
          let inner = entries_of-push s xs in
          rw (t, inner) (elim (cases_lt 250 (size_of s)) [
            | inl big ↦ let u : leb (size_of s) 250 ≡ false = grind (arith, nat_tests) in rw u refl
            | inr small ↦ let u : leb (size_of s) 250 ≡ true = grind (arith, nat_tests) in rw u refl
          ])
    ]

keep_last-push : (es : List Entry) (s : Entry) → keep_last 15000 (keep_last 15000 es ++ s ∷ []) ≡ keep_last 15000 (es ++ s ∷ [])
keep_last-push es s =
    let prefix : drop (length es - 15000) es ++ s ∷ [] ≡ drop (length es - 15000) (es ++ s ∷ []) =
    sym (drop-append-le (length es - 15000) es (s ∷ []) (omega arith)) in
    let size : length (drop (length es - 15000) (es ++ s ∷ [])) ≡ length es + 1 - (length es - 15000) = simp (length-drop, length-append) refl in
    let where_to : length es - 15000 + (length (drop (length es - 15000) (es ++ s ∷ [])) - 15000) ≡
    length (es ++ s ∷ []) - 15000 = omega (arith, size, length-append es (s ∷ [])) in
    rw (prefix, drop-drop (length (drop (length es - 15000) (es ++ s ∷ [])) - 15000) (length es - 15000) (es ++ s ∷ []), where_to) refl

pub entered_is : (ss : List Entry) (s : Entry) → entered (table_of ss) s ≡ table_of (ss ++ s ∷ [])
unfolding entered
entered_is ss s =
    elim (cases_lt 250 (size_of s)) [
      | inl big ↦ let u : leb (size_of s) 250 ≡ false = grind (arith, nat_tests) in rw (entries_of-push s ss, u) refl
      | inr small ↦ let u : leb (size_of s) 250 ≡ true = grind (arith, nat_tests) in rw (entries_of-push s ss, u) (keep_last-push (entries_of ss) s)
    ]

get_later : (a : ℕ) (es : List Entry) (i : ℕ) → slice_get (drop a es) i ≡ slice_get es (a + i)
get_later zero es i = ap (slice_get es) (omega arith)
get_later (suc a) [] i = refl
get_later (suc a) (e ∷ es) i = let n : suc a + i ≡ suc (a + i) = omega arith in rw n (get_later a es i)

pub latest_is : (es : List Entry) (k : ℕ) → latest (keep_last 15000 es) k ≡ named es k
unfolding latest
latest_is es k =
    let len : length (drop (length es - 15000) es) ≡ length es - (length es - 15000) = length-drop (length es - 15000) es in
    elim (cases_lt k 1) [
      | inl less ↦ let t : leb 1 k ≡ false = grind (arith, nat_tests) in rw t refl
      | inr one ↦ let t : leb 1 k ≡ true = grind (arith, nat_tests) in
          elim (cases_lt 15000 k) [
            | inl more ↦ let u : leb k 15000 ≡ false = grind (arith, nat_tests) in
                let w : leb k (length (drop (length es - 15000) es)) ≡ false =
                rw len (let o : length es - (length es - 15000) < k = omega arith in grind (arith, nat_tests)) in
                rw (t, u, w) refl
            | inr few ↦ let u : leb k 15000 ≡ true = grind (arith, nat_tests) in
                elim (cases_lt (length es) k) [
                  | inl past ↦ let v : leb k (length es) ≡ false = grind (arith, nat_tests) in
                      let w : leb k (length (drop (length es - 15000) es)) ≡ false =
                      rw len (let o : length es - (length es - 15000) < k = omega arith in
                      grind (arith, nat_tests)) in rw (t, u, w, v) refl
                  | inr within ↦ let v : leb k (length es) ≡ true = grind (arith, nat_tests) in
                      let w : leb k (length (drop (length es - 15000) es)) ≡ true =
                      rw len (let o : k ≤ length es - (length es - 15000) = omega arith in
                      grind (arith, nat_tests)) in
                      let at : length es - 15000 + (length (drop (length es - 15000) es) - k) ≡ length es - k = omega arith in
                      rw (t, u, w, v, get_later (length es - 15000) es (length (drop (length es - 15000) es) - k), at) refl
                ]
          ]
    ]
