-- Publications by number: which run of a history published a number, and which runs answered that
-- it is published.
use Rattle.std.specs.Prelude.{◌≡◌, ℕ, ◌+◌, ◌<◌, ◌≤◌, [], ◌∷◌, ◌++◌, length}
use Rattle.osm_publisher.specs.Published.{PublishedValue, sequence_at}
use Rattle.osm_operations.specs.History.{History, Pair, published_of}
use Rattle.osm_operations.specs.declared.operation.Operation.{Operation}
use Rattle.osm_operations.specs.declared.operation.Operation.TheVariants.{Publish, PublishAs}
use Rattle.osm_operations.specs.declared.operation.Reply.{Reply}
use Rattle.osm_operations.specs.declared.operation.Reply.TheVariants.{Published}

-- the history is those pairs, that pair before them, and those before it
pub record IsCut (h later : History) (p : Pair) (before : History) : Type 0 where
  pub cut : h ≡ later ++ p ∷ before

-- the number, the changes and the time that the reply says are published, if that many sequences
-- were before it
abbrev pub Says : Operation → Reply → ℕ → PublishedValue → Type 0
Says (Publish changes time calls) (Published report) count p =
    p ≡ record { number = count + 1; changes = changes; time = time }
Says (PublishAs changes time n calls) (Published report) count p =
    p ≡ record { number = n; changes = changes; time = time }
Says e r count p = ⊥

-- a run of the history answered that this sequence is published
pub record Answers (h later : History) (pair : Pair) (before : History) (p : PublishedValue) :
    Type 0 where
  pub cut : IsCut h later pair before
  pub says : Says pair.0 pair.1 (length (published_of before)) p

-- the sequence is published, with its number, its changes and its time
pub record IsAnswered (h : History) (p : PublishedValue) : Type 0 where
  pub above : 0 < p.number
  pub within : p.number ≤ length (published_of h)
  pub same : sequence_at (published_of h) p.number ≡ p

-- a run of the history published that number, and no run before it answered that it is published
pub record IsFirst (h later : History) (pair : Pair) (before : History) (n : ℕ) : Type 0 where
  pub answers : Answers h later pair before (sequence_at (published_of h) n)
  pub number : (sequence_at (published_of h) n).number ≡ n
  pub adds : published_of (pair ∷ before)
      ≡ published_of before ++ sequence_at (published_of h) n ∷ []
  pub none : (after : History) (other : Pair) (rest : History) (p : PublishedValue)
      → Answers before after other rest p → p.number < n

-- exactly one run of the history published that number, and it is the first that answered it
pub record IsPublishedOnce (h : History) (n : ℕ) : Type 0 where
  pub later : History
  pub pair : Pair
  pub before : History
  pub first : IsFirst h later pair before n
  pub only : (after : History) (other : Pair) (rest : History) → IsCut h after other rest
      → length (published_of rest) + 1 ≡ n
      → (published_of (other ∷ rest) ≡ published_of rest → ⊥)
      → (after ≡ later) × (other ≡ pair) × (rest ≡ before)

-- the pair is a publication of that number, whatever its changes, its time and its reply
abbrev pub IsOfNumber : ℕ → Operation → Type 0
IsOfNumber n (PublishAs changes time number calls) = number ≡ n
IsOfNumber n e = ⊥

-- all pairs are publications of that number
abbrev pub AreOfNumber : ℕ → History → Type 0
AreOfNumber n [] = Unit {0}
AreOfNumber n (p ∷ h) = IsOfNumber n p.0 × AreOfNumber n h
