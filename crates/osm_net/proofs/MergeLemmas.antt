-- Sorted entries merged with sorted items: what stands at each key, and that the keys rise. Objects
-- and counts are both merged so.
use Rattle.std.proofs.Common.{◌≡◌, List, [], ◌∷◌, map, refl, sym, ap, ◌∙◌, Bool, true, false, cond, Option, Some, None}
use Rattle.std.specs.BTreeMap.{is_at}
use Rattle.std.specs.Cmp.{IsTotalOrder, alike_right}
use Rattle.std.specs.List.{AllByRecursion}
use Rattle.std.specs.List.Sorted.{IsStrictlySortedBy}
use Rattle.std.specs.Map.{keys_of, lookup}
use Rattle.std.specs.Ordering.{is_eq, match_ordering, ordering_reverse}
use Rattle.std.specs.declared.cmp.Ordering.{Ordering}
use Rattle.std.specs.declared.cmp.Ordering.TheVariants.{Less, Equal, Greater}
use Rattle.std.specs.Cmp.{eq_by_cmp_equiv}
use Rattle.std.proofs.lemmas.Map.{lookup-none}
use Rattle.std.proofs.lemmas.Map.Entries.{none_below_head, none_past_head}
use Rattle.std.proofs.lemmas.Map.Keys.{IsDistinct-from_sorted}

-- what holds of the chosen one
pub by_rank : {A : Type 0} (P : A → Type 0) (o : Ordering) (x y z : A) → (o ≡ Less → P x) → (o ≡ Equal → P y) → (o ≡ Greater → P z)
    → P (match_ordering o x y z)
by_rank P Less x y z a b c = a refl
by_rank P Equal x y z a b c = b refl
by_rank P Greater x y z a b c = c refl

-- the same order on both sides of a function
pub ranks_alike : {A B : Type 0} (f : A → B) (o : Ordering) (x y z : A) (u v w : B) → (o ≡ Less → f x ≡ u) → (o ≡ Equal → f y ≡ v) → (o ≡ Greater → f z ≡ w)
    → f (match_ordering o x y z) ≡ match_ordering o u v w
ranks_alike f Less x y z u v w a b c = a refl
ranks_alike f Equal x y z u v w a b c = b refl
ranks_alike f Greater x y z u v w a b c = c refl

by_test : {A : Type 0} (b : Bool) (x y z : A) → (b ≡ true → x ≡ z) → (b ≡ false → y ≡ z) → cond b x y ≡ z
by_test true x y z h g = h refl
by_test false x y z h g = g refl

-- what holds of each, if it follows from what holds of each
all_also : {A : Type 0} (P Q : A → Type 0) → ((x : A) → P x → Q x) → (xs : List A) → AllByRecursion P xs → AllByRecursion Q xs
all_also P Q h [] all = tt
all_also P Q h (x ∷ xs) all = (h x all.0, all_also P Q h xs all.1)

-- what holds of each of a list that was mapped
pub all_map : {A B : Type 0} (f : A → B) (P : B → Type 0) (xs : List A) → AllByRecursion (λ x. P (f x)) xs → AllByRecursion P (map f xs)
all_map f P [] all = tt
all_map f P (x ∷ xs) all = (all.0, all_map f P xs all.1)

pub all_of_map : {A B : Type 0} (f : A → B) (P : B → Type 0) (xs : List A) → AllByRecursion P (map f xs) → AllByRecursion (λ x. P (f x)) xs
all_of_map f P [] all = tt
all_of_map f P (x ∷ xs) all = (all.0, all_of_map f P xs all.1)

module _ {K Z X : Type 0} (cmp : K → K → Ordering) (fresh : Z → Option X) (over : Z → X → Option X) where
  abbrev pub put : K → Option X → List (K × X) → List (K × X)
  put k None rest = rest
  put k (Some x) rest = (k, x) ∷ rest

  abbrev pub step : K × Z → (List (K × X) → List (K × X)) → List (K × X) → List (K × X)
  step e later [] = put e.0 (fresh e.1) (later [])
  step e later (c ∷ cs) = match_ordering (cmp e.0 c.0) (put e.0 (fresh e.1) (later (c ∷ cs))) (put c.0 (over e.1 c.1) (later cs)) (c ∷ step e later cs)

  -- the merge
  abbrev pub merged : List (K × Z) → List (K × X) → List (K × X)
  merged [] cs = cs
  merged (e ∷ es) cs = step e (merged es) cs

  -- ---- what holds of each

  module _ (Q : K × Z → Type 0) (P : K × X → Type 0) (new : (e : K × Z) (x : X) → Q e → fresh e.1 ≡ Some x → P (e.0, x))
      (both : (e : K × Z) (c : K × X) (x : X) → Q e → P c → over e.1 c.1 ≡ Some x → P (c.0, x)) where
    all_put : (k : K) (o : Option X) (rest : List (K × X)) → ((x : X) → o ≡ Some x → P (k, x)) → AllByRecursion P rest → AllByRecursion P (put k o rest)
    all_put k None rest h all = all
    all_put k (Some x) rest h all = (h x refl, all)

    all_step : (e : K × Z) (later : List (K × X) → List (K × X)) → Q e → ((cs : List (K × X)) → AllByRecursion P cs → AllByRecursion P (later cs))
        → (cs : List (K × X)) → AllByRecursion P cs → AllByRecursion P (step e later cs)
    all_step e later q ih [] all = all_put e.0 (fresh e.1) (later []) (λ x. new e x q) (ih [] tt)
    all_step e later q ih (c ∷ cs) all = by_rank (AllByRecursion P) (cmp e.0 c.0) _ _ _
        (λ _. all_put e.0 (fresh e.1) (later (c ∷ cs)) (λ x. new e x q) (ih (c ∷ cs) all))
        (λ _. all_put c.0 (over e.1 c.1) (later cs) (λ x. both e c x q all.0) (ih cs all.1))
        (λ _. (all.0, all_step e later q ih cs all.1))

    pub all_merged : (es : List (K × Z)) (cs : List (K × X)) → AllByRecursion Q es → AllByRecursion P cs → AllByRecursion P (merged es cs)
    all_merged [] cs qs all = all
    all_merged (e ∷ es) cs qs all = all_step e (merged es) qs.0 (λ ds. all_merged es ds qs.1) cs all

  module _ (total : IsTotalOrder cmp) where
    -- ---- the keys rise

    abbrev Above : {Y : Type 0} → K → List (K × Y) → Type 0
    Above k es = AllByRecursion (λ e. cmp k e.0 ≡ Less) es

    abbrev Rises : {Y : Type 0} → List (K × Y) → Type 0
    Rises es = IsStrictlySortedBy cmp (keys_of es)

    first_above : {Y : Type 0} (e : K × Y) (es : List (K × Y)) → Rises (e ∷ es) → Above e.0 es
    unfolding IsStrictlySortedBy
    first_above {Y = Y} e es r = all_of_map (λ (x : K × Y). x.0) (λ (y : K). cmp e.0 y ≡ Less) es r.0

    rest_rises : {Y : Type 0} (e : K × Y) (es : List (K × Y)) → Rises (e ∷ es) → Rises es
    unfolding IsStrictlySortedBy
    rest_rises e es r = r.1

    rises : {Y : Type 0} (e : K × Y) (es : List (K × Y)) → Above e.0 es → Rises es → Rises (e ∷ es)
    unfolding IsStrictlySortedBy
    rises {Y = Y} e es above r = (all_map (λ (x : K × Y). x.0) (λ (y : K). cmp e.0 y ≡ Less) es above, r)

    above_less : {Y : Type 0} (k l : K) (es : List (K × Y)) → cmp k l ≡ Less → Above l es → Above k es
    above_less {Y = Y} k l es less all = all_also (λ (e : K × Y). cmp l e.0 ≡ Less) (λ (e : K × Y). cmp k e.0 ≡ Less)
        (λ e h. total.trans k l e.0 less h) es all

    above_equal : {Y : Type 0} (k l : K) (es : List (K × Y)) → cmp k l ≡ Equal → Above l es → Above k es
    above_equal {Y = Y} k l es same all = all_also (λ (e : K × Y). cmp l e.0 ≡ Less) (λ (e : K × Y). cmp k e.0 ≡ Less)
        (λ e h. total.congr k l e.0 same ∙ h) es all

    turned : (k l : K) → cmp k l ≡ Greater → cmp l k ≡ Less
    turned k l greater = total.antisymm l k ∙ ap ordering_reverse greater

    turned_equal : (k l : K) → cmp k l ≡ Equal → cmp l k ≡ Equal
    turned_equal k l same = total.antisymm l k ∙ ap ordering_reverse same

    above_merged : (k : K) (es : List (K × Z)) (cs : List (K × X)) → Above k es → Above k cs → Above k (merged es cs)
    above_merged k es cs a b = all_merged (λ (e : K × Z). cmp k e.0 ≡ Less) (λ (c : K × X). cmp k c.0 ≡ Less) (λ e x q is. q) (λ e c x q p is. p) es cs a b

    put_rises : (k : K) (o : Option X) (rest : List (K × X)) → Above k rest → Rises rest → Rises (put k o rest)
    put_rises k None rest above r = r
    put_rises k (Some x) rest above r = rises (k, x) rest above r

    step_rises : (e : K × Z) (es : List (K × Z)) → Rises (e ∷ es) → ((cs : List (K × X)) → Rises cs → Rises (merged es cs))
        → (cs : List (K × X)) → Rises cs → Rises (step e (merged es) cs)
    step_rises e es r ih [] s = put_rises e.0 (fresh e.1) (merged es []) (above_merged e.0 es [] (first_above e es r) tt) (ih [] s)
    step_rises e es r ih (c ∷ cs) s = by_rank (λ (ds : List (K × X)). Rises ds) (cmp e.0 c.0) _ _ _
        (λ less. put_rises e.0 (fresh e.1) (merged es (c ∷ cs))
        (above_merged e.0 es (c ∷ cs) (first_above e es r) (less, above_less e.0 c.0 cs less (first_above c cs s))) (ih (c ∷ cs) s))
        (λ same. put_rises c.0 (over e.1 c.1) (merged es cs)
        (above_merged c.0 es cs (above_equal c.0 e.0 es (turned_equal e.0 c.0 same) (first_above e es r)) (first_above c cs s)) (ih cs (rest_rises c cs s)))
        (λ greater. rises c (step e (merged es) cs)
        (above_merged c.0 (e ∷ es) cs (turned e.0 c.0 greater, above_less c.0 e.0 es (turned e.0 c.0 greater) (first_above e es r)) (first_above c cs s))
        (step_rises e es r ih cs (rest_rises c cs s)))

    pub merged_rises : (es : List (K × Z)) (cs : List (K × X)) → Rises es → Rises cs → Rises (merged es cs)
    merged_rises [] cs r s = s
    merged_rises (e ∷ es) cs r s = step_rises e es r (λ ds. merged_rises es ds (rest_rises e es r)) cs s

    -- ---- what stands at a key

    abbrev pub joined : Option Z → Option X → Option X
    joined None o = o
    joined (Some z) None = fresh z
    joined (Some z) (Some x) = over z x

    abbrev or_else : Option X → Option X → Option X
    or_else None o = o
    or_else (Some x) o = Some x

    or_none : (o : Option X) → or_else o None ≡ o
    or_none None = refl
    or_none (Some x) = refl

    module _ (q : K) where
      abbrev at : {Y : Type 0} → List (K × Y) → Option Y
      at es = lookup (is_at (cmp q)) es

      abbrev here : K → Bool
      here k = is_eq (cmp q k)

      put_at : (k : K) (o : Option X) (rest : List (K × X)) → at (put k o rest) ≡ cond (here k) (or_else o (at rest)) (at rest)
      put_at k None rest = by_same (here k)
        where
          by_same : (b : Bool) → at rest ≡ cond b (at rest) (at rest)
          by_same true = refl
          by_same false = refl
      put_at k (Some x) rest = refl

      equal_of : (o : Ordering) → is_eq o ≡ true → o ≡ Equal
      equal_of Less e = absurd (cc)
      equal_of Equal e = refl
      equal_of Greater e = absurd (cc)

      -- nothing stands at it after a first key that it is, or that it is below
      none_after : {Y : Type 0} (e : K × Y) (es : List (K × Y)) → Rises (e ∷ es) → here e.0 ≡ true → at es ≡ None
      none_after e es r is = lookup-none (is_at (cmp q)) es (none_past_head (eq_by_cmp_equiv total) q e es (IsDistinct-from_sorted cmp _ r) is)

      none_from : {Y : Type 0} (e : K × Y) (es : List (K × Y)) → Rises (e ∷ es) → cmp q e.0 ≡ Less → at (e ∷ es) ≡ None
      none_from e es r less = lookup-none (is_at (cmp q)) (e ∷ es) (none_below_head total q e es r less)

      -- one entry before all items
      fresh_at : (e : K × Z) (es : List (K × Z)) (cs rest : List (K × X)) → Rises (e ∷ es) → at rest ≡ joined (at es) (at cs)
          → (here e.0 ≡ true → at cs ≡ None) → at (put e.0 (fresh e.1) rest) ≡ joined (at (e ∷ es)) (at cs)
      fresh_at e es cs rest r ih none = put_at e.0 (fresh e.1) rest ∙ by_test (here e.0) _ _ _
          (λ is.
          let nothing : at rest ≡ None = ih ∙ (ap (λ o. joined o (at cs)) (none_after e es r is) ∙ none is) in
          ap (or_else (fresh e.1)) nothing ∙ (or_none (fresh e.1)
          ∙ (ap (joined (Some e.1)) (sym (none is)) ∙ ap (λ b. joined (cond b (Some e.1) (at es)) (at cs)) (sym is))))
          (λ other. ih ∙ ap (λ b. joined (cond b (Some e.1) (at es)) (at cs)) (sym other))

      -- an entry and an item of one key
      both_at : (e : K × Z) (c : K × X) (es : List (K × Z)) (cs rest : List (K × X)) → Rises (e ∷ es) → Rises (c ∷ cs) → cmp e.0 c.0 ≡ Equal
          → at rest ≡ joined (at es) (at cs) → at (put c.0 (over e.1 c.1) rest) ≡ joined (at (e ∷ es)) (at (c ∷ cs))
      both_at e c es cs rest r s same ih =
          let alike : here e.0 ≡ here c.0 = ap is_eq (alike_right total e.0 c.0 q same) in
          put_at c.0 (over e.1 c.1) rest ∙ (by_test (here c.0) _ _ (joined (cond (here c.0) (Some e.1) (at es)) (cond (here c.0) (Some c.1) (at cs)))
          (λ is.
          let nothing : at rest ≡ None = ih ∙ (ap (λ o. joined o (at cs)) (none_after e es r (alike ∙ is)) ∙ none_after c cs s is) in
          ap (or_else (over e.1 c.1)) nothing ∙ (or_none (over e.1 c.1)
          ∙ ap (λ b. joined (cond b (Some e.1) (at es)) (cond b (Some c.1) (at cs))) (sym is)))
          (λ other. ih ∙ ap (λ b. joined (cond b (Some e.1) (at es)) (cond b (Some c.1) (at cs))) (sym other))
          ∙ ap (λ b. joined (cond b (Some e.1) (at es)) (at (c ∷ cs))) (sym alike))

      -- an item before all entries
      kept_at : (e : K × Z) (c : K × X) (es : List (K × Z)) (cs rest : List (K × X)) → Rises (e ∷ es) → cmp e.0 c.0 ≡ Greater
          → at rest ≡ joined (at (e ∷ es)) (at cs) → at (c ∷ rest) ≡ joined (at (e ∷ es)) (at (c ∷ cs))
      kept_at e c es cs rest r greater ih = by_test (here c.0) _ _ _
          (λ is.
          let less : cmp q e.0 ≡ Less = total.congr q c.0 e.0 (equal_of (cmp q c.0) is) ∙ turned e.0 c.0 greater in
          ap (λ b. cond b (Some c.1) (at cs)) (sym is) ∙ ap (λ o. joined o (at (c ∷ cs))) (sym (none_from e es r less)))
          (λ other. ih ∙ ap (λ b. joined (at (e ∷ es)) (cond b (Some c.1) (at cs))) (sym other))

      step_at : (e : K × Z) (es : List (K × Z)) → Rises (e ∷ es) → ((cs : List (K × X)) → Rises cs → at (merged es cs) ≡ joined (at es) (at cs))
          → (cs : List (K × X)) → Rises cs → at (step e (merged es) cs) ≡ joined (at (e ∷ es)) (at cs)
      step_at e es r ih [] s = fresh_at e es [] (merged es []) r (ih [] s) (λ is. refl)
      step_at e es r ih (c ∷ cs) s = by_rank (λ (ds : List (K × X)). at ds ≡ joined (at (e ∷ es)) (at (c ∷ cs))) (cmp e.0 c.0) _ _ _
          (λ less. fresh_at e es (c ∷ cs) (merged es (c ∷ cs)) r (ih (c ∷ cs) s)
          (λ is. none_from c cs s (total.congr q e.0 c.0 (equal_of (cmp q e.0) is) ∙ less)))
          (λ same. both_at e c es cs (merged es cs) r s same (ih cs (rest_rises c cs s)))
          (λ greater. kept_at e c es cs (step e (merged es) cs) r greater (step_at e es r ih cs (rest_rises c cs s)))

      pub merged_at : (es : List (K × Z)) (cs : List (K × X)) → Rises es → Rises cs → at (merged es cs) ≡ joined (at es) (at cs)
      merged_at [] cs r s = refl
      merged_at (e ∷ es) cs r s = step_at e es r (λ ds. merged_at es ds (rest_rises e es r)) cs s
