-- Lists of a save text: what is read is written that way, and what is written that way is read.
use Rattle.std.proofs.Common.{◌≡◌, ℕ, zero, suc, ◌<◌, ◌≤◌, List, [], ◌∷◌, ◌++◌, length, map, refl, ap, sym, ◌∙◌, true, Some, None, Option, subst, arith}
use Rattle.std.specs.Cmp.{IsTotalOrder}
use Rattle.std.specs.List.{AllByRecursion}
use Rattle.std.specs.List.Sorted.{IsStrictlySortedBy}
use Rattle.std.specs.Ordering.{is_lt}
use Rattle.std.specs.Prelude.{decimal}
use Rattle.std.specs.declared.cmp.Ordering.{Ordering}
use Rattle.std.specs.declared.cmp.Ordering.TheVariants.{Less}
use Rattle.std.proofs.lemmas.List.{append_assoc}
use Rattle.std.proofs.lemmas.Option.{same_Some}
use Rattle.osm_reading.specs.Pieces.{Lacks, cut_at}
use Rattle.osm_reading.specs.Answers.{and_then}
use Rattle.osm_reading.proofs.PieceLemmas.{cut_again, cut_takes}
use Rattle.osm_reading.proofs.StepLemmas.{some_then}
use Rattle.osm_save.specs.Lines.{ended, list_lines}
use Rattle.osm_save.specs.Reading.{is_above, items_at, numbered_at}
use Rattle.osm_save.proofs.ItemLemmas.{less_of}
use Rattle.osm_save.proofs.LineLemmas.{numbered_again, numbered_takes}

-- each key is above the one before it
abbrev pub Climbs : {K : Type 0} → (K → K → Ordering) → Option K → List K → Type 0
Climbs cmp last [] = Unit {0}
Climbs cmp last (k ∷ ks) = (is_above cmp last k ≡ true) × Climbs cmp (Some k) ks

module _ {K : Type 0} (cmp : K → K → Ordering) (total : IsTotalOrder cmp) where
  all_above : (p q : K) (ks : List K) → cmp p q ≡ Less → AllByRecursion (λ y. cmp q y ≡ Less) ks → AllByRecursion (λ y. cmp p y ≡ Less) ks
  all_above p q [] lt all = tt
  all_above p q (k ∷ ks) lt all = (total.trans p q k lt all.0, all_above p q ks lt all.1)

  rising_after : (q : K) (ks : List K) → Climbs cmp (Some q) ks → AllByRecursion (λ y. cmp q y ≡ Less) ks × IsStrictlySortedBy cmp ks
  unfolding IsStrictlySortedBy
  rising_after q [] climbs = (tt, tt)
  rising_after q (k ∷ ks) climbs =
      let lt : cmp q k ≡ Less = less_of (cmp q k) climbs.0 in
      let rest = rising_after k ks climbs.1 in
      ((lt, all_above q k ks lt rest.0), rest)

  pub rising_from : (ks : List K) → Climbs cmp None ks → IsStrictlySortedBy cmp ks
  unfolding IsStrictlySortedBy
  rising_from [] climbs = tt
  rising_from (k ∷ ks) climbs = rising_after k ks climbs.1

  climbs_after : (q : K) (ks : List K) → AllByRecursion (λ y. cmp q y ≡ Less) ks → IsStrictlySortedBy cmp ks → Climbs cmp (Some q) ks
  unfolding IsStrictlySortedBy
  climbs_after q [] all rising = tt
  climbs_after q (k ∷ ks) all rising = (ap is_lt all.0, climbs_after k ks rising.0 rising.1)

  pub climbs_from : (ks : List K) → IsStrictlySortedBy cmp ks → Climbs cmp None ks
  unfolding IsStrictlySortedBy
  climbs_from [] rising = tt
  climbs_from (k ∷ ks) rising = (refl, climbs_after k ks rising.0 rising.1)

-- the reader of a line: it reads the texts of good values above the one before, and no others
pub record IsItem {X K : Type 0} (cmp : K → K → Ordering) (key : X → K) (text : X → List ℕ) (Good : X → Type 0)
    (item : Option K → List ℕ → Option X) : Type 0 where
  pub takes : (last : Option K) (line : List ℕ) (x : X) → item last line ≡ Some x → (line ≡ text x) × Good x × (is_above cmp last (key x) ≡ true)
  pub again : (last : Option K) (x : X) → Good x → is_above cmp last (key x) ≡ true → item last (text x) ≡ Some x
  pub lacks : (x : X) → Good x → Lacks 10 (text x)

-- values that are read from the bytes
pub record TakesItems {X K : Type 0} (cmp : K → K → Ordering) (key : X → K) (text : X → List ℕ) (Good : X → Type 0)
    (many : ℕ) (last : Option K) (bytes : List ℕ) (xs : List X) (rest : List ℕ) : Type 0 where
  pub is_text : bytes ≡ ended (map text xs) ++ rest
  pub are_many : length xs ≡ many
  pub good : AllByRecursion Good xs
  pub climbs : Climbs cmp last (map key xs)

module _ {X K : Type 0} (cmp : K → K → Ordering) (key : X → K) (text : X → List ℕ) (Good : X → Type 0) (item : Option K
    → List ℕ → Option X) (is : IsItem cmp key text Good item) where
  joined : (bytes line after lines rest : List ℕ) (x : X) → bytes ≡ line ++ 10 ∷ after → line ≡ text x → after ≡ lines
      ++ rest → bytes ≡ (text x ++ 10 ∷ lines) ++ rest
  joined bytes line after lines rest x p q r = p ∙ (rw (q, r) (sym (append_assoc (text x) (10 ∷ lines) rest)))

  pub items_take : (many : ℕ) (last : Option K) (bytes : List ℕ) (r : List X × List ℕ)
      → items_at key item many last bytes ≡ Some r → TakesItems cmp key text Good many last bytes r.0 r.1
  items_take zero last bytes r e =
      subst (λ (x : List X × List ℕ). TakesItems cmp key text Good zero last bytes x.0 x.1) (same_Some ([], bytes) r e)
      (record { is_text = refl; are_many = refl; good = tt; climbs = tt })
  items_take (suc k) last bytes r e =
      let l = some_then (cut_at 10 bytes) (λ (l : List ℕ × List ℕ). and_then {A = X} {B = List X × List ℕ}
      (item last l.0) (λ (x : X). and_then {A = List X × List ℕ} {B = List X × List ℕ}
      (items_at key item k (Some (key x)) l.1) (λ (m : List X × List ℕ). Some (x ∷ m.0, m.1)))) r e in
      let x = some_then (item last l.0.0) (λ (x : X). and_then {A = List X × List ℕ} {B = List X × List ℕ}
      (items_at key item k (Some (key x)) l.0.1) (λ (m : List X × List ℕ). Some (x ∷ m.0, m.1))) r l.2 in
      let m = some_then (items_at key item k (Some (key x.0)) l.0.1) (λ (m : List X × List ℕ). Some (x.0 ∷ m.0, m.1)) r x.2 in
      let taken = is.takes last l.0.0 x.0 x.1 in
      let more = items_take k (Some (key x.0)) l.0.1 m.0 m.1 in
      let many : length m.0.0 ≡ k = more.are_many in
      subst (λ (y : List X × List ℕ). TakesItems cmp key text Good (suc k) last bytes y.0 y.1) (same_Some (x.0 ∷ m.0.0, m.0.1) r m.2) (record {
        is_text = joined bytes l.0.0 l.0.1 (ended (map text m.0.0)) m.0.1 x.0 (cut_takes 10 bytes l.0.0 l.0.1 l.1) taken.0 more.is_text;
        are_many = ap suc many;
        good = (taken.1, more.good);
        climbs = (taken.2, more.climbs);
      })

  pub items_again : (last : Option K) (xs : List X) (rest : List ℕ) → AllByRecursion Good xs
      → Climbs cmp last (map key xs) → items_at key item (length xs) last (ended (map text xs) ++ rest) ≡
      Some (xs, rest)
  items_again last [] rest good climbs = refl
  items_again last (x ∷ xs) rest good climbs =
      let cut : cut_at 10 ((text x ++ 10 ∷ ended (map text xs)) ++ rest) ≡ Some (text x, ended (map text xs) ++ rest) =
      rw (append_assoc (text x) (10 ∷ ended (map text xs)) rest)
      (cut_again 10 (text x) (ended (map text xs) ++ rest) (is.lacks x good.0)) in
      let read : item last (text x) ≡ Some x = is.again last x good.0 climbs.0 in
      let more : items_at key item (length xs) (Some (key x)) (ended (map text xs) ++ rest) ≡ Some (xs, rest) =
      items_again (Some (key x)) xs rest good.1 climbs.1 in
      rw (cut, read, more) refl

-- a list that is read from the bytes
pub record TakesList {X K : Type 0} (cmp : K → K → Ordering) (key : X → K) (text : X → List ℕ) (Good : X → Type 0)
    (word : List ℕ) (most : ℕ) (bytes : List ℕ) (xs : List X) (rest : List ℕ) : Type 0 where
  pub is_text : bytes ≡ ended (list_lines word text xs) ++ rest
  pub few : length xs ≤ most
  pub good : AllByRecursion Good xs
  pub rising : IsStrictlySortedBy cmp (map key xs)

module _ {X K : Type 0} (cmp : K → K → Ordering) (total : IsTotalOrder cmp) (key : X → K) (text : X → List ℕ) (Good : X
    → Type 0) (item : Option K → List ℕ → Option X) (is : IsItem cmp key text Good item) where
  whole : (word bytes after rest : List ℕ) (n : ℕ) (xs : List X) → bytes ≡ (word ++ decimal n) ++ 10 ∷ after
      → length xs ≡ n → after ≡ ended (map text xs) ++ rest → bytes ≡ ended (list_lines word text xs) ++ rest
  whole word bytes after rest n xs p q r = p ∙ (rw (← q, r) (sym (append_assoc (word ++ decimal (length xs)) (10 ∷ ended (map text xs)) rest)))

  pub list_takes : (word : List ℕ) (most : ℕ) (bytes : List ℕ) (r : List X × List ℕ)
      → and_then {A = ℕ × List ℕ} {B = List X × List ℕ} (numbered_at word most bytes)
      (λ (k : ℕ × List ℕ). items_at key item k.0 None k.1) ≡ Some r
      → TakesList cmp key text Good word most bytes r.0 r.1
  list_takes word most bytes r e =
      let k = some_then (numbered_at word most bytes) (λ (k : ℕ × List ℕ). items_at key item k.0 None k.1) r e in
      let head = numbered_takes word most bytes k.0 k.1 in
      let taken = items_take cmp key text Good item is k.0.0 None k.0.1 r k.2 in
      let many : length r.0 ≡ k.0.0 = taken.are_many in
      let few : k.0.0 ≤ most = head.few in
      record {
        is_text = whole word bytes k.0.1 r.1 k.0.0 r.0 head.text taken.are_many taken.is_text;
        few = omega arith;
        good = taken.good;
        rising = rising_from cmp total (map key r.0) taken.climbs;
      }

  pub list_again : (word : List ℕ) (most : ℕ) (xs : List X) (rest : List ℕ) → Lacks 10 word → length xs ≤ most
      → most < 1000000000000000000 → AllByRecursion Good xs → IsStrictlySortedBy cmp (map key xs)
      → and_then {A = ℕ × List ℕ} {B = List X × List ℕ}
      (numbered_at word most (ended (list_lines word text xs) ++ rest))
      (λ (k : ℕ × List ℕ). items_at key item k.0 None k.1) ≡ Some (xs, rest)
  list_again word most xs rest lacks few small good rising =
      let head : numbered_at word most (((word ++ decimal (length xs)) ++ 10 ∷ ended (map text xs)) ++ rest) ≡
      Some (length xs, ended (map text xs) ++ rest) =
      rw (append_assoc (word ++ decimal (length xs)) (10 ∷ ended (map text xs)) rest)
      (numbered_again word most (length xs) (ended (map text xs) ++ rest) lacks few (omega arith)) in
      let read : items_at key item (length xs) None (ended (map text xs) ++ rest) ≡ Some (xs, rest) =
      items_again cmp key text Good item is None xs rest good (climbs_from cmp total (map key xs) rising) in
      rw (head) read
