-- What calls one after the other fill of a file that was begun.
use Rattle.std.proofs.Common.{◌≡◌, ℕ, List, [], ◌++◌, Some, refl, sym, ap, subst, ◌∙◌, append_assoc}
use Rattle.std.specs.Prelude.{Bool, IsTrue, Ok}
use Rattle.std.proofs.lemmas.List.{append-nil}
use Rattle.osm_blocks.specs.Frames.{ReadsOften}
use Rattle.osm_store.specs.Frames.{IsKnown, StoreState}
use Rattle.osm_runs.specs.Filling.{Fills, Lacks}

pub fills_none : (a : StoreState) (rest : List ℕ) → Fills a a rest rest
fills_none a rest = λ known name whole l. l

pub fills_as : (a b : StoreState) (x y z w : List ℕ) → Fills a b x y → z ≡ x → y ≡ w → Fills a b z w
fills_as a b x y z w fills before after = λ known name whole l.
    subst (λ (r : List ℕ). Lacks b name r whole) after (fills known name whole (subst (λ (r : List ℕ). Lacks a name r whole) before l))

pub fills_then : {T E : Type 0} {blames : E → Type 0} (a b c : StoreState) (t : T) (x y z : List ℕ) → ReadsOften blames a b (Ok t)
    → Fills a b x y → Fills b c y z → Fills a c x z
fills_then a b c t x y z frame first second = λ known name whole l.
    second (subst (λ (k : Bool). IsTrue k) (sym frame.known) known) name whole (first known name whole l)

-- bytes were appended
pub fills_by : (a b : StoreState) (bytes rest : List ℕ)
    → (IsKnown a → (name text : List ℕ) → a.stage ≡ Some (name, text) → b.stage ≡ Some (name, text ++ bytes))
    → Fills a b (bytes ++ rest) rest
fills_by a b bytes rest appended = λ known name whole l. record {
  text = l.text ++ bytes;
  staged = appended known name l.text l.staged;
  parts = l.parts ∙ sym (append_assoc l.text bytes rest);
}

-- a file that was begun lacks all
pub lacks_all : (a : StoreState) (name whole : List ℕ) → a.stage ≡ Some (name, []) → Lacks a name whole whole
lacks_all a name whole begun = record { text = []; staged = begun; parts = refl }

-- a file that lacks nothing is whole
pub lacks_nothing : (a : StoreState) (name whole : List ℕ) → Lacks a name [] whole → a.stage ≡ Some (name, whole)
lacks_nothing a name whole l = l.staged ∙ ap (λ (t : List ℕ). Some (name, t)) (sym (l.parts ∙ append-nil l.text))
