-- Lists: the loop that reads their parts, and the laws that connect reading and spelling.
use Rattle.std.proofs.Common.{◌≡◌, ℕ, zero, suc, ◌<◌, ◌≤◌, List, [], ◌∷◌, ◌++◌, length, Option, Some, None, refl, ap, subst, ◌∙◌, append_assoc, arith}
use Rattle.std.specs.List.{AllByRecursion}
use Rattle.std.proofs.lemmas.Option.{same_Some}
use Rattle.std.proofs.lemmas.List.{length-append, append-nil}
use Rattle.osm_o5c.specs.Many.{SpellsMany, none, more}
use Rattle.osm_o5c.specs.ObjectReading.{many_at}
use Rattle.osm_reading.specs.Answers.{and_then, Stops}
use Rattle.osm_reading.specs.declared.refusal.Refusal.{Refusal}
use Rattle.osm_reading.specs.declared.refusal.Refusal.TheVariants.{WantOfMemory, Fault}
use Rattle.osm_reading.proofs.StepLemmas.{some_then}
use Rattle.osm_o5c.proofs.TakenLemmas.{TakenTo}

module _ {S A : Type 0} where
  -- ---- the loop

  -- the answer for a list that begins with these parts, from the answer for the rest of it
  abbrev pub behind : List A → Option (List A × S) → Option (List A × S)
  behind prefix (Some m) = Some (prefix ++ m.0, m.1)
  behind prefix None = None

  pub behind_none : (reading : Option (List A × S)) → reading ≡ behind [] reading
  behind_none (Some m) = refl
  behind_none None = refl

  behind_one : (prefix : List A) (x : A) (reading : Option (List A × S))
      → behind prefix (and_then reading (λ m. Some (x ∷ m.0, m.1))) ≡ behind (prefix ++ x ∷ []) reading
  behind_one prefix x (Some m) = rw (append_assoc prefix (x ∷ []) m.0) refl
  behind_one prefix x None = refl

  many_full : (one : S → List ℕ → Option (A × S × List ℕ)) (s : S) (bytes : List ℕ) → 0 < length bytes → many_at one 0 s bytes ≡ None
  unfolding many_at
  many_full one s [] h = absurd (omega arith)
  many_full one s (b ∷ bs) h = refl

  many_one : (one : S → List ℕ → Option (A × S × List ℕ)) (k : ℕ) (s : S) (bytes : List ℕ) → 0 < length bytes
      → many_at one (suc k) s bytes ≡ and_then (one s bytes)
      (λ x. and_then (many_at one k x.1 x.2) (λ m. Some (x.0 ∷ m.0, m.1)))
  unfolding many_at
  many_one one k s [] h = absurd (omega arith)
  many_one one k s (b ∷ bs) h = refl

  many_end : (one : S → List ℕ → Option (A × S × List ℕ)) (k : ℕ) (s : S) → many_at one k s [] ≡ Some ([], s)
  unfolding many_at
  many_end one zero s = refl
  many_end one (suc k) s = refl

  many_bad : (one : S → List ℕ → Option (A × S × List ℕ)) (k : ℕ) (s : S) (bytes : List ℕ) → 0 < length bytes
      → one s bytes ≡ None → many_at one k s bytes ≡ None
  many_bad one zero s bytes h e = many_full one s bytes h
  many_bad one (suc k) s bytes h e = many_one one k s bytes h ∙ rw e refl

  -- a step of the loop reads one more part
  pub loop_more : (one : S → List ℕ → Option (A × S × List ℕ)) (k j : ℕ) (s : S) (bytes : List ℕ) (x : A) (t : S)
      (rest : List ℕ) (found : List A) (whole : Option (List A × S)) → 0 < length bytes → k ≡ suc j
      → one s bytes ≡ Some (x, t, rest) → whole ≡ behind found (many_at one k s bytes)
      → whole ≡ behind (found ++ x ∷ []) (many_at one j t rest)
  loop_more one k j s bytes x t rest found whole h is e w =
      let step : many_at one k s bytes ≡ and_then (many_at one j t rest) (λ m. Some (x ∷ m.0, m.1)) = rw (is, many_one one j s bytes h, e) refl in
      w ∙ ap (behind found) step ∙ behind_one found x (many_at one j t rest)

  -- there are too many parts
  pub loop_over : (one : S → List ℕ → Option (A × S × List ℕ)) (k : ℕ) (s : S) (bytes : List ℕ) (found : List A)
      (whole : Option (List A × S)) → whole ≡ behind found (many_at one k s bytes) → k ≡ 0 → 0 < length bytes
      → whole ≡ None
  loop_over one k s bytes found whole w z h = w ∙ rw (z, many_full one s bytes h) refl

  -- a part is wrong
  pub loop_wrong : (one : S → List ℕ → Option (A × S × List ℕ)) (k : ℕ) (s : S) (bytes : List ℕ) (found : List A)
      (whole : Option (List A × S)) (refusal : Refusal) → whole ≡ behind found (many_at one k s bytes)
      → 0 < length bytes → Stops refusal (one s bytes) → Stops refusal whole
  loop_wrong one k s bytes found whole WantOfMemory w h f = tt
  loop_wrong one k s bytes found whole (Fault why) w h f = w ∙ rw (many_bad one k s bytes h f) refl

  -- the bytes end
  pub loop_end : (one : S → List ℕ → Option (A × S × List ℕ)) (k : ℕ) (s : S) (bytes : List ℕ) (found : List A)
      (whole : Option (List A × S)) → whole ≡ behind found (many_at one k s bytes) → length bytes ≡ 0
      → whole ≡ Some (found, s)
  loop_end one k s [] found whole w h = w ∙ rw (many_end one k s, append-nil found) refl
  loop_end one k s (b ∷ bs) found whole w h = absurd (omega arith)

  -- there are no parts
  pub no_parts : (one : S → List ℕ → Option (A × S × List ℕ)) (k : ℕ) (s : S) (bytes : List ℕ) → length bytes ≡ 0
      → many_at one k s bytes ≡ Some ([], s)
  no_parts one k s [] h = many_end one k s
  no_parts one k s (b ∷ bs) h = absurd (omega arith)

-- the prefix spells the part, which is within its limits
pub record Within {Ctx A : Type 0} (spells : Ctx → List ℕ → A → Ctx → Type 0) (limits : A → Type 0) (C : Ctx) (x : A)
    (prefix : List ℕ) (after : Ctx) : Type 0 where
  pub spelled_so : spells C prefix x after
  pub within : limits x

module _ {Ctx S A : Type 0} where
  -- ---- the laws

  -- what is read is spelled, and what is spelled within the limits is read
  pub record IsExact (state_of : Ctx → S) (one : S → List ℕ → Option (A × S × List ℕ)) (spells : Ctx → List ℕ → A → Ctx
      → Type 0) (limits : A → Type 0) : Type 0 where
    pub takes : (C : Ctx) (bytes : List ℕ) (x : A × S × List ℕ) → one (state_of C) bytes ≡ Some x → TakenTo state_of (Within spells limits C x.0) bytes x.1 x.2
    pub again : (C : Ctx) (prefix : List ℕ) (x : A) (after : Ctx) (rest : List ℕ) → spells C prefix x after → limits x
        → one (state_of C) (prefix ++ rest) ≡ Some (x, state_of after, rest)
    pub some : (C : Ctx) (prefix : List ℕ) (x : A) (after : Ctx) → spells C prefix x after → 0 < length prefix

  pub record TakesMany (state_of : Ctx → S) (spells : Ctx → List ℕ → A → Ctx → Type 0) (limits : A → Type 0) (most : ℕ)
      (C : Ctx) (bytes : List ℕ) (xs : List A) (s : S) : Type 0 where
    pub after : Ctx
    pub spelled : SpellsMany spells C bytes xs after
    pub same : s ≡ state_of after
    pub few : length xs ≤ most
    pub each : AllByRecursion limits xs

  longer : (state_of : Ctx → S) (spells : Ctx → List ℕ → A → Ctx → Type 0) (limits : A → Type 0) (k : ℕ) (C : Ctx)
      (bytes : List ℕ) (x : A) (t : S) (rest : List ℕ) (xs : List A) (s : S)
      (one : TakenTo state_of (Within spells limits C x) bytes t rest)
      → TakesMany state_of spells limits k one.after rest xs s → TakesMany state_of spells limits (suc k) C bytes
      (x ∷ xs) s
  longer state_of spells limits k C bytes x t rest xs s one tail = record {
    after = tail.after;
    spelled = rw one.parts (more C one.prefix x one.after rest xs tail.after one.spelled.spelled_so tail.spelled);
    same = tail.same;
    few = let few : length xs ≤ k = tail.few in omega arith;
    each = (one.spelled.within, tail.each);
  }

  pub many_takes : (state_of : Ctx → S) (one : S → List ℕ → Option (A × S × List ℕ)) (spells : Ctx → List ℕ → A → Ctx
      → Type 0) (limits : A → Type 0) → IsExact state_of one spells limits → (most : ℕ) (C : Ctx) (bytes : List ℕ)
      (x : List A × S) → many_at one most (state_of C) bytes ≡ Some x
      → TakesMany state_of spells limits most C bytes x.0 x.1
  unfolding many_at
  many_takes state_of one spells limits law zero C [] x e =
      subst (λ (p : List A × S). TakesMany state_of spells limits zero C [] p.0 p.1) (same_Some ([], state_of C) x e)
      (record { after = C; spelled = none C; same = refl; few = omega arith; each = tt })
  many_takes state_of one spells limits law (suc k) C [] x e =
      subst (λ (p : List A × S). TakesMany state_of spells limits (suc k) C [] p.0 p.1) (same_Some ([], state_of C) x e)
      (record { after = C; spelled = none C; same = refl; few = omega arith; each = tt })
  many_takes state_of one spells limits law zero C (b ∷ bs) x e = absurd cc
  many_takes state_of one spells limits law (suc k) C (b ∷ bs) x e =
      let y = some_then (one (state_of C) (b ∷ bs)) (λ x. and_then (many_at one k x.1 x.2) (λ m. Some (x.0 ∷ m.0, m.1))) x e in
      let m = some_then (many_at one k y.0.1 y.0.2) (λ m. Some (y.0.0 ∷ m.0, m.1)) x y.2 in
      let t = law.takes C (b ∷ bs) y.0 y.1 in
      let tail : TakesMany state_of spells limits k t.after y.0.2 m.0.0 m.0.1 =
      many_takes state_of one spells limits law k t.after y.0.2 m.0
      (subst (λ (u : S). many_at one k u y.0.2 ≡ Some m.0) t.same m.1) in
      subst (λ (p : List A × S). TakesMany state_of spells limits (suc k) C (b ∷ bs) p.0 p.1) (same_Some (y.0.0 ∷ m.0.0, m.0.1) x m.2)
      (longer state_of spells limits k C (b ∷ bs) y.0.0 y.0.1 y.0.2 m.0.0 m.0.1 t tail)

  pub many_again : (state_of : Ctx → S) (one : S → List ℕ → Option (A × S × List ℕ)) (spells : Ctx → List ℕ → A → Ctx
      → Type 0) (limits : A → Type 0) → IsExact state_of one spells limits → (most : ℕ) (C : Ctx) (bytes : List ℕ)
      (xs : List A) (after : Ctx) → SpellsMany spells C bytes xs after → length xs ≤ most → AllByRecursion limits xs
      → many_at one most (state_of C) bytes ≡ Some (xs, state_of after)
  many_again state_of one spells limits law most _ _ _ _ (none C) few each = many_end one most (state_of C)
  many_again state_of one spells limits law zero _ _ _ _ (more C prefix x D rest xs after s m) few each = absurd (omega arith)
  many_again state_of one spells limits law (suc k) _ _ _ _ (more C prefix x D rest xs after s m) few each =
      let tail : many_at one k (state_of D) rest ≡ Some (xs, state_of after) =
      many_again state_of one spells limits law k D rest xs after m (omega arith) each.1 in
      let some : 0 < length (prefix ++ rest) = omega (arith, law.some C prefix x D s, length-append prefix rest) in
      rw (many_one one k (state_of C) (prefix ++ rest) some, law.again C prefix x D rest s each.0, tail) refl
