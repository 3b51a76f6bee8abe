-- A word is that of one choice of columns.
use Rattle.std.proofs.Common.{◌≡◌, ℕ, List, [], ◌∷◌, ◌++◌, refl, ap, sym, ◌∙◌, Some, None, Option, append-nil, true, false, suc, length, arith}
use Rattle.std.specs.Prelude.{◌==◌, IsSome}
use Rattle.std.proofs.lemmas.Bool.{eq-eqb, eqb-true}
use Rattle.osm_range.specs.Columns.{AreDifferent, IsAtNoComma, IsChoice, column_text, columns_text, first_text, further_text}
use Rattle.osm_range.specs.TallyLaws.{OneChoice}
use Rattle.osm_range.specs.declared.columns.Column.{Column}
use Rattle.osm_range.specs.declared.columns.Column.TheVariants.{Day, User, Changeset, Kind}
use Rattle.osm_range.specs.declared.columns.Columns.{Columns}

apart : (n m : ℕ) (x y : List ℕ) → (n == m) ≡ false → n ∷ x ≡ m ∷ y → ⊥
apart n m x y differ e =
    let same : n ≡ m = cc in
    let bad : false ≡ true = sym differ ∙ eq-eqb n m same in
    cc

-- words that begin with columns begin with the same one
same_column : (a b : Column) (x y : List ℕ) → column_text a ++ x ≡ column_text b ++ y → (a ≡ b) × (x ≡ y)
same_column Day Day x y e = (refl, cc)
same_column User User x y e = (refl, cc)
same_column Changeset Changeset x y e = (refl, cc)
same_column Kind Kind x y e = (refl, cc)
same_column Day User x y e = absurd (apart 100 117 _ _ refl e)
same_column Day Changeset x y e = absurd (apart 100 99 _ _ refl e)
same_column Day Kind x y e = absurd (apart 100 107 _ _ refl e)
same_column User Day x y e = absurd (apart 117 100 _ _ refl e)
same_column User Changeset x y e = absurd (apart 117 99 _ _ refl e)
same_column User Kind x y e = absurd (apart 117 107 _ _ refl e)
same_column Changeset Day x y e = absurd (apart 99 100 _ _ refl e)
same_column Changeset User x y e = absurd (apart 99 117 _ _ refl e)
same_column Changeset Kind x y e = absurd (apart 99 107 _ _ refl e)
same_column Kind Day x y e = absurd (apart 107 100 _ _ refl e)
same_column Kind User x y e = absurd (apart 107 117 _ _ refl e)
same_column Kind Changeset x y e = absurd (apart 107 99 _ _ refl e)

tail_of : (n m : ℕ) (x y : List ℕ) → n ∷ x ≡ m ∷ y → x ≡ y
tail_of n m x y e = cc

-- what follows a column after a comma, or stands where there is none
pub same_further : (a b : Option Column) (word x y : List ℕ) → word ≡ further_text a ++ x → word ≡ further_text b ++ y
    → (a ≡ None → IsAtNoComma x) → (b ≡ None → IsAtNoComma y) → (a ≡ b) × (x ≡ y)
same_further None None word x y p q f g = (refl, sym p ∙ q)
same_further None (Some b) word x y p q f g = absurd (f refl (column_text b ++ y) (sym p ∙ q))
same_further (Some a) None word x y p q f g = absurd (g refl (column_text a ++ x) (sym q ∙ p))
same_further (Some a) (Some b) word x y p q f g =
    let both = same_column a b x y (tail_of 44 44 (column_text a ++ x) (column_text b ++ y) (sym p ∙ q)) in
    (ap Some both.0, both.1)

pub no_comma : IsAtNoComma []
no_comma rest e = cc

-- what stands after the second and after the third column of a choice
pub after_second : (columns : Columns) → IsChoice columns → columns.second ≡ None → IsAtNoComma (further_text columns.third ++ further_text columns.fourth)
after_second columns choice none =
    let third = choice.third none in
    rw (third, choice.fourth third) no_comma

pub after_third : (columns : Columns) → IsChoice columns → columns.third ≡ None → IsAtNoComma (further_text columns.fourth)
after_third columns choice none = rw (choice.fourth none) no_comma

-- the first column of a choice, and what stands after it
pub first_is : (columns : Columns) (first : Column) (word rest : List ℕ) → IsChoice columns → word ≡ columns_text columns → word ≡ column_text first ++ rest
    → (Some first ≡ columns.first) × (rest ≡ further_text columns.second ++ (further_text columns.third ++ further_text columns.fourth))
first_is columns first word rest choice is found = by_first columns.first refl choice.some
  where
    by_first : (o : Option Column) → columns.first ≡ o → IsSome o
        → (Some first ≡ columns.first) × (rest ≡ further_text columns.second ++ (further_text columns.third ++ further_text columns.fourth))
    by_first None e some = absurd (let bad : false ≡ true = some in cc)
    by_first (Some column) e some =
        let begins : word ≡ column_text column ++ (further_text columns.second ++ (further_text columns.third ++ further_text columns.fourth)) =
        is ∙ ap (λ o. first_text o ++ (further_text columns.second ++ (further_text columns.third ++ further_text columns.fourth))) e in
        let both = same_column first column rest _ (sym found ∙ begins) in
        (ap Some both.0 ∙ sym e, both.1)

-- the text of what was read is the word, if nothing is left of it
pub text_is : (first : Column) (second third fourth : Option Column) (word rest rest2 rest3 rest4 : List ℕ) → word ≡ column_text first ++ rest
    → rest ≡ further_text second ++ rest2 → rest2 ≡ further_text third ++ rest3 → rest3 ≡ further_text fourth ++ rest4 → rest4 ≡ []
    → word ≡ columns_text (record { first = Some first; second = second; third = third; fourth = fourth })
text_is first second third fourth word rest rest2 rest3 rest4 a b c d e =
    a ∙ ap (λ r. column_text first ++ r) (b ∙ ap (λ r. further_text second ++ r)
    (c ∙ ap (λ r. further_text third ++ r) (d ∙ (ap (λ r. further_text fourth ++ r) e ∙ append-nil (further_text fourth)))))

-- nothing is left of the word of a choice, and the columns are those of the choice
pub different_as : (columns : Columns) (first : Column) (second third fourth : Option Column) → Some first ≡ columns.first → second ≡ columns.second
    → third ≡ columns.third → fourth ≡ columns.fourth → AreDifferent columns
    → AreDifferent (record { first = Some first; second = second; third = third; fourth = fourth })
different_as columns first second third fourth a b c d different = rw (a, b, c, d) different

pub empty_of : (xs : List ℕ) → (length xs == 0) ≡ true → xs ≡ []
empty_of [] e = refl
empty_of (x ∷ xs) e = absurd (let some : suc (length xs) ≡ 0 = eqb-true (suc (length xs)) 0 e in omega (arith, some))

-- none stands where the word isn't at a comma
pub none_at : (o : Option Column) (word rest : List ℕ) → word ≡ further_text o ++ rest → IsAtNoComma word → o ≡ None
none_at None word rest is at = refl
none_at (Some column) word rest is at = absurd (at (column_text column ++ rest) is)

pub one_choice : OneChoice
one_choice a b p q e = by_first a.first refl p.some
  where
    by_first : (o : Option Column) → a.first ≡ o → IsSome o → a ≡ b
    by_first None is some = absurd (let bad : false ≡ true = some in cc)
    by_first (Some column) is some =
        let begins : columns_text a ≡ column_text column ++ (further_text a.second ++ (further_text a.third ++ further_text a.fourth)) =
        ap (λ o. first_text o ++ (further_text a.second ++ (further_text a.third ++ further_text a.fourth))) is in
        let first = first_is b column (columns_text a) _ q e begins in
        let second = same_further a.second b.second _ _ _ refl first.1 (after_second a p) (after_second b q) in
        let third = same_further a.third b.third _ _ _ refl second.1 (after_third a p) (after_third b q) in
        let fourth = same_further a.fourth b.fourth (further_text a.fourth) [] [] (sym (append-nil (further_text a.fourth)))
        (third.1 ∙ sym (append-nil (further_text b.fourth))) (λ none. no_comma) (λ none. no_comma) in
        let f : a.first ≡ b.first = is ∙ first.0 in
        λ i. record { first = f i; second = second.0 i; third = third.0 i; fourth = fourth.0 i }
