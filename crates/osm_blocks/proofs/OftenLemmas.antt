-- Calls that come one after the other, however many.
use Rattle.std.proofs.Common.{ℕ, ◌<◌, ◌≤◌, Option, None, Some, inl, inr, arith, refl, sym, subst, ◌∙◌}
use Rattle.std.specs.Prelude.{◌⊎◌, Bool, IsSome, IsTrue, Result, Ok, Err}
use Rattle.std.proofs.lemmas.Bool.{cases_lt}
use Rattle.osm_store.specs.Files.{HasFailed, Spends}
use Rattle.osm_store.specs.Frames.{StoreState}
use Rattle.osm_blocks.specs.Frames.{ReadsOften}
use Rattle.osm_store.proofs.FileLemmas.{spends_both, spends_none}

failed_after : (a b c : ℕ) → a ≤ b → b ≤ c → HasFailed b c → HasFailed a c
failed_after a b c before after (inl rose) = inl (omega (arith, before, rose))
failed_after a b c before after (inr full) = by_order (cases_lt a b)
  where
    by_order : (a < b) ⊎ (b ≤ a) → HasFailed a c
    by_order (inl below) = inl (omega (arith, below, after))
    by_order (inr reached) = inr (omega (arith, full, reached))

some_before : (a b : Option ℕ) → Spends 0 a b → IsSome b → IsSome a
some_before None b none some = subst (λ (o : Option ℕ). IsSome o) none some
some_before (Some n) b s some = refl

pub often_none : {T E : Type 0} (blames : E → Type 0) (a : StoreState) (x : T) → ReadsOften blames a a (Ok x)
often_none blames a x = record {
  files = refl;
  known = refl;
  left = spends_none a.left;
  failures = omega arith;
  failed = tt;
  stops = tt;
}

pub often_both : {T U E : Type 0} (blames : E → Type 0) (a b c : StoreState) (x : T) (r : Result U E) → ReadsOften blames a b (Ok x)
    → ReadsOften blames b c r → ReadsOften blames a c r
often_both blames a b c x (Ok y) m n = record {
  files = n.files ∙ m.files;
  known = n.known ∙ m.known;
  left = spends_both 0 0 0 a.left b.left c.left (omega arith) m.left n.left;
  failures = (let before = m.failures in let after = n.failures in omega (arith, before, after));
  failed = tt;
  stops = tt;
}
often_both blames a b c x (Err f) m n = record {
  files = n.files ∙ m.files;
  known = n.known ∙ m.known;
  left = spends_both 0 0 0 a.left b.left c.left (omega arith) m.left n.left;
  failures = (let before = m.failures in let after = n.failures in omega (arith, before, after));
  failed = λ blame. failed_after a.failures b.failures c.failures m.failures n.failures (n.failed blame);
  stops = λ yes blame. some_before a.left b.left m.left (n.stops (subst (λ (t : Bool). IsTrue t) (sym m.known) yes) blame);
}

pub often_then : {T U V E : Type 0} (blames : E → Type 0) (a b c : StoreState) (x : T) (y : U) (z : V) → ReadsOften {E = E} blames a b (Ok x)
    → ReadsOften {E = E} blames b c (Ok y) → ReadsOften {E = E} blames a c (Ok z)
often_then blames a b c x y z m n = record {
  files = n.files ∙ m.files;
  known = n.known ∙ m.known;
  left = spends_both 0 0 0 a.left b.left c.left (omega arith) m.left n.left;
  failures = (let before = m.failures in let after = n.failures in omega (arith, before, after));
  failed = tt;
  stops = tt;
}
