-- Changes that are laid over values, one value after another.
use Rattle.std.proofs.Common.{◌≡◌, ℕ, ◌+◌, ◌≤◌, List, [], ◌∷◌, ◌++◌, length, map, refl, sym, ap, ◌∙◌, arith, append_assoc, length-append}
use Rattle.std.proofs.lemmas.List.{append-nil, map-append}
use Rattle.osm_save.specs.Lines.{ended}
use Rattle.osm_save.proofs.TextLemmas.{lines_more}
use Rattle.osm_merge.specs.Laying.{Appends, Lays, LaysBelow, LaysRest}

module _ {E X : Type 0} (lay : List E → List X → List X) (text : X → List ℕ) where
  pub texts_more : (old now new : List ℕ) (put more : List X) → now ≡ old ++ ended (map text put) → new ≡ now ++ ended (map text more)
      → new ≡ old ++ ended (map text (put ++ more))
  texts_more old now new put more p q = rw (map-append) (lines_more old now new (map text put) (map text more) p q)

  pub below_begun : (es : List E) (x : X) (old : List ℕ) → LaysBelow lay text es x es 0 (Appends old old)
  below_begun es x old = record {
    put = [];
    laid = λ xs. refl;
    out = sym (append-nil old);
    many_are = refl;
    few = omega arith;
  }

  pub below_more : (es rest after : List E) (x : X) (many k : ℕ) (old now new : List ℕ) (more : List X)
      → LaysBelow lay text es x rest many (Appends old now) → ((xs : List X) → lay rest (x ∷ xs) ≡ more ++ lay after (x ∷ xs))
      → new ≡ now ++ ended (map text more) → k ≡ length more → k + length after ≤ length rest
      → LaysBelow lay text es x after (many + k) (Appends old new)
  below_more es rest after x many k old now new more h step is count few = record {
    put = h.put ++ more;
    laid = λ xs. h.laid xs ∙ (ap (λ (l : List X). h.put ++ l) (step xs) ∙ sym (append_assoc h.put more (lay after (x ∷ xs))));
    out = texts_more old now new h.put more h.out is;
    many_are = (let both = length-append h.put more in let m = h.many_are in omega (arith, both, m, count));
    few = (let f = h.few in omega (arith, f, few));
  }

  pub below_last : (es rest after : List E) (x : X) (many k : ℕ) (old now new : List ℕ) (more : List X)
      → LaysBelow lay text es x rest many (Appends old now) → ((xs : List X) → lay rest (x ∷ xs) ≡ more ++ lay after xs)
      → new ≡ now ++ ended (map text more) → k ≡ length more → k + length after ≤ length rest + 1
      → Lays lay text es x after (many + k) (Appends old new)
  below_last es rest after x many k old now new more h step is count few = record {
    put = h.put ++ more;
    laid = λ xs. h.laid xs ∙ (ap (λ (l : List X). h.put ++ l) (step xs) ∙ sym (append_assoc h.put more (lay after xs)));
    out = texts_more old now new h.put more h.out is;
    many_are = (let both = length-append h.put more in let m = h.many_are in omega (arith, both, m, count));
    few = (let f = h.few in omega (arith, f, few));
  }

  -- changes that were laid over nothing so far
  pub record LaysSome (es rest : List E) (many : ℕ) (old new : List ℕ) : Type 0 where
    pub put : List X
    pub laid : lay es [] ≡ put ++ lay rest []
    pub out : new ≡ old ++ ended (map text put)
    pub many_are : many ≡ length put
    pub few : many + length rest ≤ length es

  pub some_more : (es rest after : List E) (many k : ℕ) (old now new : List ℕ) (more : List X)
      → LaysSome es rest many old now → lay rest [] ≡ more ++ lay after []
      → new ≡ now ++ ended (map text more) → k ≡ length more → k + length after ≤ length rest
      → LaysSome es after (many + k) old new
  some_more es rest after many k old now new more h step is count few = record {
    put = h.put ++ more;
    laid = h.laid ∙ (ap (λ (l : List X). h.put ++ l) step ∙ sym (append_assoc h.put more (lay after [])));
    out = texts_more old now new h.put more h.out is;
    many_are = (let both = length-append h.put more in let m = h.many_are in omega (arith, both, m, count));
    few = (let f = h.few in omega (arith, f, few));
  }

  pub some_last : (es rest : List E) (many : ℕ) (old new : List ℕ) → LaysSome es rest many old new → lay rest [] ≡ []
      → LaysRest lay text es many (Appends old new)
  some_last es rest many old new h nothing =
      let all : lay es [] ≡ h.put = h.laid ∙ (ap (λ (l : List X). h.put ++ l) nothing ∙ append-nil h.put) in
      record {
        out = rw all h.out;
        many_are = rw all h.many_are;
        few = (let f = h.few in omega (arith, f));
      }
