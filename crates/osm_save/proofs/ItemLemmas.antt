-- A list that is read line by line.
use Rattle.std.proofs.lemmas.List.{append-nil, append_assoc}
use Rattle.std.proofs.Common.{◌≡◌, ℕ, suc, ◌+◌, ◌-◌, ◌<◌, ◌≤◌, List, [], ◌∷◌, ◌++◌, refl, ap, sym, ◌∙◌, Option, Some, None, true, arith}
use Rattle.std.specs.List.{AllByRecursion}
use Rattle.std.specs.List.Sorted.{IsStrictlySortedBy}
use Rattle.std.specs.Cmp.{IsTotalOrder}
use Rattle.std.specs.Ordering.{is_lt}
use Rattle.std.specs.declared.cmp.Ordering.{Ordering}
use Rattle.std.specs.declared.cmp.Ordering.TheVariants.{Less, Equal, Greater}
use Rattle.osm_reading.specs.Pieces.{cut_at}
use Rattle.osm_reading.specs.Answers.{and_then}
use Rattle.std.specs.Prelude.{Err, Result}
use Rattle.osm_save.specs.Answers.{StopsPlainly, Stops, WantedIf, WantsOnlyIf}
use Rattle.osm_save.specs.Reading.{is_above, items_at}
use Rattle.osm_save.specs.declared.stop.Stop.{Stop}
use Rattle.osm_save.specs.declared.stop.Stop.TheVariants.{WantOfMemory, Wrong}

-- earlier values, and then those that are read
abbrev pub with_earlier : {X : Type 0} → List X → Option (List X × List ℕ) → Option (List X × List ℕ)
with_earlier earlier reading = and_then reading (λ r. Some (earlier ++ r.0, r.1))

-- the values read so far, and then those of the rest, are those of the whole list
pub record Items {X K : Type 0} (key : X → K) (item : Option K → List ℕ → Option X) (many : ℕ) (bytes : List ℕ) (i : ℕ)
    (xs : List X) (last : Option K) (rest : List ℕ) : Type 0 where
  pub same : items_at key item many None bytes ≡ with_earlier xs (items_at key item (many - i) last rest)

module _ {X K : Type 0} (key : X → K) (item : Option K → List ℕ → Option X) where
  pub items_begun : (many : ℕ) (bytes : List ℕ) → Items key item many bytes 0 [] None bytes
  items_begun many bytes =
      let left : many - 0 ≡ many = omega arith in
      record { same = rw left (alone (items_at key item many None bytes)) }
    where
      alone : (r : Option (List X × List ℕ)) → r ≡ with_earlier [] r
      alone None = refl
      alone (Some r) = refl

  pub items_more : (many : ℕ) (bytes : List ℕ) (i : ℕ) (xs : List X) (last : Option K) (rest line after : List ℕ)
      (x : X) → i < many → Items key item many bytes i xs last rest → cut_at 10 rest ≡ Some (line, after)
      → item last line ≡ Some x → Items key item many bytes (i + 1) (xs ++ x ∷ []) (Some (key x)) after
  items_more many bytes i xs last rest line after x lt h cut is =
      let left : many - i ≡ suc (many - (i + 1)) = omega arith in
      record { same = h.same ∙ rw (left, cut, is) (joined (items_at key item (many - (i + 1)) (Some (key x)) after)) }
    where
      joined : (r : Option (List X × List ℕ)) → with_earlier xs (and_then r (λ p. Some (x ∷ p.0, p.1))) ≡ with_earlier (xs ++ x ∷ []) r
      joined None = refl
      joined (Some r) = ap (λ (l : List X). Some (l, r.1)) (sym (append_assoc xs (x ∷ []) r.0))

  pub items_cut : (many : ℕ) (bytes : List ℕ) (i : ℕ) (xs : List X) (last : Option K) (rest : List ℕ) → i < many
      → Items key item many bytes i xs last rest → cut_at 10 rest ≡ None → items_at key item many None bytes ≡ None
  items_cut many bytes i xs last rest lt h cut =
      let left : many - i ≡ suc (many - (i + 1)) = omega arith in
      h.same ∙ rw (left, cut) refl

  pub items_wrong : (many : ℕ) (bytes : List ℕ) (i : ℕ) (xs : List X) (last : Option K) (rest line after : List ℕ)
      → i < many → Items key item many bytes i xs last rest → cut_at 10 rest ≡ Some (line, after)
      → item last line ≡ None → items_at key item many None bytes ≡ None
  items_wrong many bytes i xs last rest line after lt h cut is =
      let left : many - i ≡ suc (many - (i + 1)) = omega arith in
      h.same ∙ rw (left, cut, is) refl

  pub items_done : (many : ℕ) (bytes : List ℕ) (i : ℕ) (xs : List X) (last : Option K) (rest : List ℕ) → many ≤ i
      → Items key item many bytes i xs last rest → items_at key item many None bytes ≡ Some (xs, rest)
  items_done many bytes i xs last rest le h =
      let left : many - i ≡ 0 = omega arith in
      h.same ∙ rw (left, append-nil xs) refl

-- what the refusal of a line says of the whole list
pub stops : {A B : Type 0} (s : Stop) (r : Option A) (t : Option B) → StopsPlainly s r → (r ≡ None → t ≡ None) → Stops s t
stops WantOfMemory r t h f = tt
stops (Wrong left) r t h f = f h

wanted_from : (P Q : Type 0) (s : Stop) → WantedIf P s → (P → Q) → WantedIf Q s
wanted_from P Q WantOfMemory h f = f h
wanted_from P Q (Wrong left) h f = tt

-- memory is refused to the whole reading only if it is refused to its part
pub wants_from : {A : Type 0} (P Q : Type 0) (s : Stop) (r : Result A Stop) → WantedIf P s → (P → Q) → r ≡ Err s → WantsOnlyIf Q r
wants_from P Q s r h f e = rw e (wanted_from P Q s h f)

-- ---- rising

-- every key above the last one is above all keys
abbrev pub IsBelow : {K : Type 0} → (K → K → Ordering) → List K → Option K → Type 0
IsBelow {K} cmp ks last = (k : K) → is_above cmp last k ≡ true → IsStrictlySortedBy cmp (ks ++ k ∷ [])

pub less_of : (o : Ordering) → is_lt o ≡ true → o ≡ Less
less_of Less e = refl
less_of Equal e = absurd cc
less_of Greater e = absurd cc

module _ {K : Type 0} (cmp : K → K → Ordering) (total : IsTotalOrder cmp) where
  pub below_begun : IsBelow cmp [] None
  unfolding IsStrictlySortedBy
  below_begun = λ k above. (tt, tt)

  below_all : (ks : List K) (q k : K) → cmp q k ≡ Less → AllByRecursion (λ y. cmp y k ≡ Less) ks → AllByRecursion (λ y. cmp y k ≡ Less) (ks ++ q ∷ [])
  below_all [] q k lt all = (lt, tt)
  below_all (p ∷ ks) q k lt all = (all.0, below_all ks q k lt all.1)

  -- a key below all keys of a list is also below a key above the list's last
  all_more : (p : K) (ks : List K) (q k : K) → cmp q k ≡ Less → AllByRecursion (λ y. cmp p y ≡ Less) (ks ++ q ∷ [])
      → AllByRecursion (λ y. cmp p y ≡ Less) ((ks ++ q ∷ []) ++ k ∷ [])
  all_more p [] q k lt all = (all.0, (total.trans p q k all.0 lt, tt))
  all_more p (r ∷ ks) q k lt all = (all.0, all_more p ks q k lt all.1)

  rising_more : (ks : List K) (q k : K) → IsStrictlySortedBy cmp (ks ++ q ∷ []) → cmp q k ≡ Less → IsStrictlySortedBy cmp ((ks ++ q ∷ []) ++ k ∷ [])
  unfolding IsStrictlySortedBy
  rising_more [] q k rising lt = ((lt, tt), (tt, tt))
  rising_more (p ∷ ks) q k rising lt = (all_more p ks q k lt rising.0, rising_more ks q k rising.1 lt)

  pub below_more : (ks : List K) (last : Option K) (q : K) → IsBelow cmp ks last → is_above cmp last q ≡ true → IsBelow cmp (ks ++ q ∷ []) (Some q)
  below_more ks last q below above = λ k lt. rising_more ks q k (below q above) (less_of (cmp q k) lt)
