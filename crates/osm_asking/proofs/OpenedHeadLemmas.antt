-- The head that an opened save has.
use Rattle.std.proofs.Common.{◌≡◌, ℕ, List, Option, Some, None, subst, sym, ◌∙◌}
use Rattle.std.proofs.lemmas.Option.{same_Some}
use Rattle.std.specs.Prelude.{◌↔◌, Bool, IfSome, IsTrue, false, true}
use Rattle.osm_merge.specs.declared.opening.Opening.{Opening}
use Rattle.osm_save.specs.Head.{BeginsSave}
use Rattle.osm_save.specs.Reading.{head_at}
use Rattle.osm_save.specs.declared.head.Head.{Head}
use Rattle.osm_save.proofs.HeadLemmas.{head_begins, one_head}
use Rattle.osm_asking.specs.Steps.Laying.{FitsSave}

module _ (told : Option (List ℕ)) (o : Opening) (file rest : List ℕ) (there : told ≡ Some file)
    (head : head_at file ≡ Some (o.version, o.head, o.filter, rest)) where
  -- it has the head that fits it
  one_read : (known : Type 0) (read : Head) → FitsSave known told (Some read) → known → read ≡ o.head
  one_read known read fits sure = one_head file read o.head (fits sure file there) (head_begins file (o.version, o.head, o.filter, rest) head)

  same_head : (known : Type 0) (read : Option Head) → FitsSave known told read → known → IfSome read (λ before. before ≡ o.head)
  same_head known None fits sure = tt
  same_head known (Some read) fits sure = one_read known read fits sure

  pub other_head : (known : Type 0) (read : Option Head) (t : Bool) → FitsSave known told read
      → (IsTrue t ↔ IfSome read (λ before. before ≡ o.head)) → t ≡ false → known → ⊥
  other_head known read t fits tests isnt sure =
      let is : t ≡ true = tests.1 (same_head known read fits sure) in
      let bad : true ≡ false = sym is ∙ isnt in cc

  -- it is what the file begins with
  pub opened_begins : (other : List ℕ) → told ≡ Some other → BeginsSave other o.head
  opened_begins other is =
      subst (λ (f : List ℕ). BeginsSave f o.head) (same_Some file other (sym there ∙ is))
      (head_begins file (o.version, o.head, o.filter, rest) head)
