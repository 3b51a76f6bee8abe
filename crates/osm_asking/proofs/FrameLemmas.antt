-- Calls of a store, with another answer.
use Rattle.std.proofs.Common.{ℕ, Option, Some, None, refl}
use Rattle.std.specs.Prelude.{Err, IsSome, Ok, Result}
use Rattle.osm_blocks.specs.Frames.{ReadsOften}
use Rattle.osm_store.specs.Files.{HasFewer}
use Rattle.osm_store.specs.Frames.{ReadsBetween, StoreState}

pub often_as : {T U E F : Type 0} (blames : E → Type 0) (others : F → Type 0) (a b : StoreState) (x : T) (y : U) → ReadsOften blames a b (Ok x)
    → ReadsOften {E = F} others a b (Ok y)
often_as blames others a b x y f = record { files = f.files; known = f.known; left = f.left; failures = f.failures; failed = tt; stops = tt }

-- what ended the function came after them
pub often_late : {T U E F : Type 0} (blames : E → Type 0) (others : F → Type 0) (a b : StoreState) (x : T) (fault : F) → (others fault → ⊥)
    → ReadsOften blames a b (Ok x) → ReadsOften {T = U} others a b (Err fault)
often_late blames others a b x fault never f = record {
  files = f.files;
  known = f.known;
  left = f.left;
  failures = f.failures;
  failed = λ blame. absurd (never blame);
  stops = λ known blame. absurd (never blame);
}

-- a fault that is told as another one
pub often_told : {T U E F : Type 0} (blames : E → Type 0) (others : F → Type 0) (a b : StoreState) (fault : E) (other : F) → (others other → blames fault)
    → ReadsOften {T = T} blames a b (Err fault) → ReadsOften {T = U} others a b (Err other)
often_told blames others a b fault other same f = record {
  files = f.files;
  known = f.known;
  left = f.left;
  failures = f.failures;
  failed = λ blame. f.failed (same blame);
  stops = λ known blame. f.stops known (same blame);
}

-- from two to four of them
some_left : (left : Option ℕ) → HasFewer 4 left → IsSome left
some_left None h = absurd h
some_left (Some n) h = refl

pub often_few : {T E : Type 0} (blames : E → Type 0) (a b : StoreState) (r : Result T E) → ReadsBetween blames 2 4 a b r → ReadsOften blames a b r
often_few blames a b (Ok x) n = record {
  files = n.files;
  known = n.makes.known;
  left = n.makes.left;
  failures = n.makes.failures;
  failed = tt;
  stops = tt;
}
often_few blames a b (Err fault) n = record {
  files = n.files;
  known = n.makes.known;
  left = n.makes.left;
  failures = n.makes.failures;
  failed = n.makes.failed;
  stops = λ known blame. some_left a.left (n.at_most.lacks known blame);
}
