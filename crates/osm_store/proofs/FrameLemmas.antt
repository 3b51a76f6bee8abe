-- The frame of calls that come one after the other.
use Rattle.std.proofs.Common.{◌≡◌, ℕ, ◌+◌, ◌<◌, ◌≤◌, Option, None, Some, inl, inr, arith, refl, subst, ◌∙◌}
use Rattle.std.specs.Prelude.{◌⊎◌, Bool, IsTrue, Result, Ok, Err, IfErr}
use Rattle.std.proofs.lemmas.Bool.{cases_lt}
use Rattle.osm_store.specs.Files.{HasFailed, HasFewer, SpendsAtMost}
use Rattle.osm_store.specs.Frames.{Makes, MakesAtMost, ReadsBetween, StoreState}
use Rattle.osm_store.proofs.FileLemmas.{spends_both, spends_none}

pub most_none : (k : ℕ) (a : Option ℕ) → SpendsAtMost k a a
most_none k None = refl
most_none k (Some n) = (n, refl, omega arith)

pub most_both : (i j k : ℕ) (a b c : Option ℕ) → i + j ≤ k → SpendsAtMost i a b → SpendsAtMost j b c → SpendsAtMost k a c
most_both i j k None b c e x y = subst (λ o. SpendsAtMost j o c) x y
most_both i j k (Some n) b c e (m, is, few) y = from_some (subst (λ o. SpendsAtMost j o c) is y)
  where
    from_some : SpendsAtMost j (Some m) c → SpendsAtMost k (Some n) c
    from_some (l, at, fewer) = (l, at, omega arith)

pub most_more : (i k : ℕ) (a b : Option ℕ) → i ≤ k → SpendsAtMost i a b → SpendsAtMost k a b
most_more i k None b e s = s
most_more i k (Some n) b e (m, is, few) = (m, is, omega arith)

pub fewer_more : (i k : ℕ) (a : Option ℕ) → i ≤ k → HasFewer i a → HasFewer k a
fewer_more i k None e h = h
fewer_more i k (Some n) e h = omega arith

pub fewer_after : (i j k : ℕ) (a b : Option ℕ) → i + j ≤ k → SpendsAtMost i a b → HasFewer j b → HasFewer k a
fewer_after i j k None b e s h = subst (λ o. HasFewer j o) s h
fewer_after i j k (Some n) b e (m, is, most) h =
    let few : m < j = subst (λ o. HasFewer j o) is h in
    omega (arith, few)

-- a failure after earlier calls
pub failed_after : (a b c : ℕ) → a ≤ b → b ≤ c → HasFailed b c → HasFailed a c
failed_after a b c before after (inl rose) = inl (omega (arith, before, rose))
failed_after a b c before after (inr full) = by_order (cases_lt a b)
  where
    by_order : (a < b) ⊎ (b ≤ a) → HasFailed a c
    by_order (inl below) = inl (omega (arith, below, after))
    by_order (inr reached) = inr (omega (arith, full, reached))

known_after : (a b : Bool) → b ≡ a → IsTrue a → IsTrue b
known_after a b e sure = rw e sure

-- ---- no call

pub makes_none : {T E : Type 0} (blames : E → Type 0) (a : StoreState) (x : T) → Makes blames 0 a a (Ok x)
makes_none blames a x = record {
  known = refl;
  left = spends_none a.left;
  failures = omega arith;
  spent = spends_none a.left;
  failed = tt;
}

pub reads_none : {T E : Type 0} (blames : E → Type 0) (most : ℕ) (a : StoreState) (x : T) → ReadsBetween blames 0 most a a (Ok x)
reads_none blames most a x = record {
  files = refl;
  makes = makes_none blames a x;
  at_most = record { spent = most_none most a.left; lacks = tt };
}

-- ---- one call after the other

pub makes_both : {T U E : Type 0} (blames : E → Type 0) (i j k : ℕ) (a b c : StoreState) (x : T) (r : Result U E)
    → k ≤ i + j → Makes blames i a b (Ok x) → Makes blames j b c r → Makes blames k a c r
makes_both blames i j k a b c x (Ok y) e m n = record {
  known = n.known ∙ m.known;
  left = spends_both 0 0 0 a.left b.left c.left (omega arith) m.left n.left;
  failures = (let before = m.failures in let after = n.failures in omega (arith, before, after));
  spent = spends_both i j k a.left b.left c.left e m.spent n.spent;
  failed = tt;
}
makes_both blames i j k a b c x (Err f) e m n = record {
  known = n.known ∙ m.known;
  left = spends_both 0 0 0 a.left b.left c.left (omega arith) m.left n.left;
  failures = (let before = m.failures in let after = n.failures in omega (arith, before, after));
  spent = tt;
  failed = λ blame. failed_after a.failures b.failures c.failures m.failures n.failures (n.failed blame);
}

pub at_most_both : {T U E : Type 0} (blames : E → Type 0) (i j k : ℕ) (a b c : StoreState) (x : T) (r : Result U E)
    → i + j ≤ k → b.is_known ≡ a.is_known → MakesAtMost blames i a b (Ok x) → MakesAtMost blames j b c r
    → MakesAtMost blames k a c r
at_most_both blames i j k a b c x (Ok y) e same m n = record {
  spent = most_both i j k a.left b.left c.left e m.spent n.spent;
  lacks = tt;
}
at_most_both blames i j k a b c x (Err f) e same m n = record {
  spent = tt;
  lacks = λ sure blame. fewer_after i j k a.left b.left e m.spent (n.lacks (known_after a.is_known b.is_known same sure) blame);
}

pub reads_both : {T U E : Type 0} (blames : E → Type 0) (i j k l m n : ℕ) (a b c : StoreState) (x : T) (r : Result U E)
    → k ≤ i + j → l + m ≤ n → ReadsBetween blames i l a b (Ok x) → ReadsBetween blames j m b c r
    → ReadsBetween blames k n a c r
reads_both blames i j k l m n a b c x r least most f g = record {
  files = g.files ∙ f.files;
  makes = makes_both blames i j k a b c x r least f.makes g.makes;
  at_most = at_most_both blames l m n a b c x r most f.makes.known f.at_most g.at_most;
}

-- ---- more calls allowed

pub at_most_more : {T E : Type 0} (blames : E → Type 0) (i k : ℕ) (a b : StoreState) (r : Result T E)
    → i ≤ k → MakesAtMost blames i a b r → MakesAtMost blames k a b r
at_most_more blames i k a b (Ok x) e m = record { spent = most_more i k a.left b.left e m.spent; lacks = tt }
at_most_more blames i k a b (Err f) e m = record { spent = tt; lacks = λ sure blame. fewer_more i k a.left e (m.lacks sure blame) }

pub reads_more : {T E : Type 0} (blames : E → Type 0) (least i k : ℕ) (a b : StoreState) (r : Result T E)
    → i ≤ k → ReadsBetween blames least i a b r → ReadsBetween blames least k a b r
reads_more blames least i k a b r e f = record {
  files = f.files;
  makes = f.makes;
  at_most = at_most_more blames i k a b r e f.at_most;
}

-- ---- the same calls, with another answer

pub reads_ok : {T U E : Type 0} (blames : E → Type 0) (i l : ℕ) (a b : StoreState) (x : T) (y : U)
    → ReadsBetween {T = T} blames i l a b (Ok x) → ReadsBetween {T = U} blames i l a b (Ok y)
reads_ok blames i l a b x y f = record {
  files = f.files;
  makes = record {
    known = f.makes.known;
    left = f.makes.left;
    failures = f.makes.failures;
    spent = f.makes.spent;
    failed = tt;
  };
  at_most = record { spent = f.at_most.spent; lacks = tt };
}

pub reads_err : {T U E : Type 0} (blames : E → Type 0) (i l : ℕ) (a b : StoreState) (e : E)
    → ReadsBetween {T = T} blames i l a b (Err e) → ReadsBetween {T = U} blames i l a b (Err e)
reads_err blames i l a b e f = record {
  files = f.files;
  makes = record {
    known = f.makes.known;
    left = f.makes.left;
    failures = f.makes.failures;
    spent = tt;
    failed = f.makes.failed;
  };
  at_most = record { spent = tt; lacks = f.at_most.lacks };
}

-- what comes after them blames no device
pub makes_done : {T U E : Type 0} (blames : E → Type 0) (i : ℕ) (a b : StoreState) (x : T) (r : Result U E)
    → IfErr r (λ e. blames e → ⊥) → Makes blames i a b (Ok x) → Makes blames i a b r
makes_done blames i a b x (Ok y) none m = record {
  known = m.known;
  left = m.left;
  failures = m.failures;
  spent = m.spent;
  failed = tt;
}
makes_done blames i a b x (Err e) none m = record {
  known = m.known;
  left = m.left;
  failures = m.failures;
  spent = tt;
  failed = λ blame. absurd (none blame);
}

pub at_most_done : {T U E : Type 0} (blames : E → Type 0) (i : ℕ) (a b : StoreState) (x : T) (r : Result U E)
    → IfErr r (λ e. blames e → ⊥) → MakesAtMost blames i a b (Ok x) → MakesAtMost blames i a b r
at_most_done blames i a b x (Ok y) none m = record { spent = m.spent; lacks = tt }
at_most_done blames i a b x (Err e) none m = record { spent = tt; lacks = λ sure blame. absurd (none blame) }

pub reads_done : {T U E : Type 0} (blames : E → Type 0) (i l : ℕ) (a b : StoreState) (x : T) (r : Result U E)
    → IfErr r (λ e. blames e → ⊥) → ReadsBetween blames i l a b (Ok x) → ReadsBetween blames i l a b r
reads_done blames i l a b x r none f = record {
  files = f.files;
  makes = makes_done blames i a b x r none f.makes;
  at_most = at_most_done blames l a b x r none f.at_most;
}
