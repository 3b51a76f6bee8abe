-- What lines spell is counted by their first bytes.
use Rattle.std.proofs.Common.{◌≡◌, ℕ, ◌+◌, ◌<◌, Bool, true, false, cond, eqb, List, [], ◌∷◌, ◌++◌, length}
use Rattle.std.proofs.Common.{map, drop, get_or, Some, None, refl, sym, ap, subst, ◌∙◌, append_assoc, zero-add, arith}
use Rattle.std.specs.Prelude.{◌≢◌, ◌==◌, min}
use Rattle.std.proofs.lemmas.Bool.Decides.{nat_tests}
use Rattle.osm_model.specs.Change.{ChangeValue}
use Rattle.osm_model.specs.Filter.{FilterValue, chooses}
use Rattle.osm_model.specs.declared.kind.Kind.{Kind}
use Rattle.osm_model.specs.declared.kind.Kind.TheVariants.{Node, Way, Relation}
use Rattle.osm_reading.specs.Lines.{is_skipped, without_cr}
use Rattle.osm_reading.specs.Pieces.{Lacks, cut_at, pieces}
use Rattle.osm_reading.proofs.PieceLemmas.{cut_lacks, cut_takes, pieces_some, uncut_lacks}
use Rattle.osm_opl.specs.File.{SpellsData, SpellsLines, none, skipped, change}
use Rattle.osm_opl.specs.Line.{SpellsLine}
use Rattle.osm_opl.specs.Lists.{letter_of}
use Rattle.osm_data.specs.Counting.{IsTotal, chosen_objects, most_counted, one_of}
use Rattle.osm_data.specs.Steps.OplCounting.{BeginsCounter, ComesTo, kind_of_letter, number_at, number_in}
use Rattle.osm_data.specs.declared.opl_counting.OplCounter.{OplCounter}

-- ---- a line that is passed

-- inside a line nothing is counted
inside : (f : FilterValue) (bytes more : List ℕ) → Lacks 10 bytes → number_in f true (bytes ++ more) ≡ number_in f true more
unfolding number_in
inside f [] more lacks = refl
inside f (b ∷ bs) more lacks =
    let other : b ≢ 10 = lacks.0 in
    let t : eqb b 10 ≡ false = grind (arith, nat_tests) in
    rw t (zero-add (number_in f true (bs ++ more)) ∙ inside f bs more lacks.1)

-- up to its LF
inside_cut : (f : FilterValue) (bytes more : List ℕ) → Lacks 10 bytes → number_in f true (bytes ++ 10 ∷ more) ≡ number_in f false more
unfolding number_in
inside_cut f bytes more lacks = inside f bytes (10 ∷ more) lacks ∙ zero-add (number_in f false more)

-- a line counts by its first byte
first_cut : (f : FilterValue) (is_inside : Bool) (b : ℕ) (bytes piece rest more : List ℕ) → cut_at 10 (b ∷ bytes) ≡ Some (piece, rest)
    → number_in f is_inside ((b ∷ bytes) ++ more) ≡ number_at f is_inside b + number_in f false (rest ++ more)
unfolding number_in
first_cut f is_inside b bytes piece rest more e =
    by_piece piece (cut_takes 10 (b ∷ bytes) piece rest e) (cut_lacks 10 (b ∷ bytes) piece rest e)
  where
    by_piece : (piece : List ℕ) → b ∷ bytes ≡ piece ++ 10 ∷ rest → Lacks 10 piece
        → number_in f is_inside ((b ∷ bytes) ++ more) ≡ number_at f is_inside b + number_in f false (rest ++ more)
    by_piece [] parts lacks =
        let first : b ≡ 10 = cc in
        let after : bytes ≡ rest = cc in
        rw (first, after) refl
    by_piece (x ∷ xs) parts lacks =
        let first : b ≡ x = cc in
        let after : bytes ≡ xs ++ 10 ∷ rest = cc in
        let other : x ≢ 10 = lacks.0 in
        let t : eqb x 10 ≡ false = grind (arith, nat_tests) in
        rw (first, after, t, append_assoc xs (10 ∷ rest) more, inside_cut f xs (rest ++ more) lacks.1) refl

first_uncut : (f : FilterValue) (is_inside : Bool) (b : ℕ) (bytes more : List ℕ) → cut_at 10 (b ∷ bytes) ≡ None
    → number_in f is_inside ((b ∷ bytes) ++ more) ≡ number_at f is_inside b + number_in f true more
unfolding number_in
first_uncut f is_inside b bytes more e =
    let lacks : Lacks 10 (b ∷ bytes) = uncut_lacks 10 (b ∷ bytes) e in
    let other : b ≢ 10 = lacks.0 in
    let t : eqb b 10 ≡ false = grind (arith, nat_tests) in
    rw (t, inside f bytes more lacks.1) refl

-- what was counted of a line that was passed
pub line_total : (f : FilterValue) (old new : OplCounter) (bytes rest more : List ℕ) (line : List ℕ) (total : ℕ) → new.is_inside ≡ false
    → ((after total : ℕ) → IsTotal old.count (number_at f old.is_inside (get_or bytes 0 0) + after) total → IsTotal new.count after total)
    → cut_at 10 bytes ≡ Some (line, rest) → ComesTo f old (bytes ++ more) total → ComesTo f new (rest ++ more) total
unfolding cut_at
line_total f old new [] rest more line total outside begins e comes = absurd cc
line_total f old new (b ∷ bytes) rest more line total outside begins e comes =
    rw outside (begins (number_in f false (rest ++ more)) total
    (subst (λ (n : ℕ). IsTotal old.count n total) (first_cut f old.is_inside b bytes line rest more e) comes))

pub rest_total : (f : FilterValue) (old new : OplCounter) (bytes more : List ℕ) (total : ℕ) → 0 < length bytes → new.is_inside ≡ true
    → ((after total : ℕ) → IsTotal old.count (number_at f old.is_inside (get_or bytes 0 0) + after) total → IsTotal new.count after total)
    → cut_at 10 bytes ≡ None → ComesTo f old (bytes ++ more) total → ComesTo f new more total
rest_total f old new [] more total some is_inside begins e comes = absurd (omega (arith, some))
rest_total f old new (b ∷ bytes) more total some is_inside begins e comes =
    rw is_inside (begins (number_in f true more) total
    (subst (λ (n : ℕ). IsTotal old.count n total) (first_uncut f old.is_inside b bytes more e) comes))

pub none_left : (bytes : List ℕ) (is_empty : Bool) → is_empty ≡ (length bytes == 0) → is_empty ≡ true → bytes ≡ []
none_left [] is_empty e is = refl
none_left (b ∷ bytes) is_empty e is =
    let test : (length (b ∷ bytes) == 0) ≡ true = sym e ∙ is in
    let none : length (b ∷ bytes) ≡ 0 = grind (arith, nat_tests) in
    absurd (omega (arith, none))

-- nothing is left
pub ended_total : (f : FilterValue) (counter : OplCounter) (total : ℕ) → ComesTo f counter [] total → counter.count ≡ total
unfolding number_in
ended_total f counter total comes =
    let few = comes.few in
    let sum = comes.sum in
    omega (arith, few, sum)

-- ---- all lines

abbrev first_of : FilterValue → List ℕ → ℕ
first_of f [] = 0
first_of f (b ∷ bytes) = one_of f (kind_of_letter b)

abbrev sum_of : FilterValue → List (List ℕ) → ℕ
sum_of f [] = 0
sum_of f (p ∷ ps) = first_of f p + sum_of f ps

record ByPieces (f : FilterValue) (bytes : List ℕ) : Type 0 where
  outside : number_in f false bytes ≡ sum_of f (pieces 10 bytes)
  within : number_in f true bytes ≡ sum_of f (drop 1 (pieces 10 bytes))

by_pieces : (f : FilterValue) (bytes : List ℕ) → ByPieces f bytes
unfolding number_in pieces
by_pieces f [] = record { outside = refl; within = refl }
by_pieces f (b ∷ bs) = by_test (eqb b 10) refl (by_pieces f bs)
  where
    by_test : (t : Bool) → eqb b 10 ≡ t → ByPieces f bs → ByPieces f (b ∷ bs)
    by_test true e rest =
        let is : b ≡ 10 = grind (arith, nat_tests) in
        let none : 0 + number_in f false bs ≡ 0 + sum_of f (pieces 10 bs) = ap (λ (n : ℕ). 0 + n) rest.outside in
        rw is (record { outside = none; within = zero-add (number_in f false bs) ∙ rest.outside })
    by_test false e rest =
        let some = pieces_some 10 bs in
        let tail : number_in f true bs ≡ sum_of f some.1 = rest.within ∙ ap (λ (l : List (List ℕ)). sum_of f (drop 1 l)) some.2 in
        record { outside = rw (e, some.2, tail) refl; within = rw (e, some.2) (zero-add (number_in f true bs) ∙ tail) }

no_letter : (f : FilterValue) (b : ℕ) → b ≡ 35 → one_of f (kind_of_letter b) ≡ 0
no_letter f b is = rw is refl

-- a skipped line counts nothing
first_skipped : (f : FilterValue) (p : List ℕ) → is_skipped (without_cr p) ≡ true → first_of f p ≡ 0
first_skipped f [] e = refl
first_skipped f (b ∷ []) e =
    by_test (eqb b 13) refl e
  where
    by_test : (t : Bool) → eqb b 13 ≡ t → is_skipped (cond t [] (b ∷ [])) ≡ true → one_of f (kind_of_letter b) ≡ 0
    by_test true is e = let cr : b ≡ 13 = grind (arith, nat_tests) in rw cr refl
    by_test false is e = no_letter f b (grind (arith, nat_tests))
first_skipped f (b ∷ c ∷ bs) e = no_letter f b (grind (arith, nat_tests))

-- the first byte of a line that isn't empty
first_byte : (f : FilterValue) (p more : List ℕ) (b : ℕ) → without_cr p ≡ b ∷ more → first_of f p ≡ one_of f (kind_of_letter b)
first_byte f [] more b e = absurd cc
first_byte f (x ∷ []) more b e = by_test (eqb x 13) e
  where
    by_test : (t : Bool) → cond t [] (x ∷ []) ≡ b ∷ more → one_of f (kind_of_letter x) ≡ one_of f (kind_of_letter b)
    by_test true e = absurd cc
    by_test false e = let same : x ≡ b = cc in rw same refl
first_byte f (x ∷ c ∷ bs) more b e = let same : x ≡ b = cc in rw same refl

letter_again : (k : Kind) → kind_of_letter (letter_of k) ≡ Some k
letter_again Node = refl
letter_again Way = refl
letter_again Relation = refl

-- the line of an object counts by its kind
first_line : (f : FilterValue) (p : List ℕ) (c : ChangeValue) → SpellsLine (without_cr p) c → first_of f p ≡ one_of f (Some c.key.kind)
first_line f p c s = first_byte f p _ (letter_of c.key.kind) s.parts ∙ ap (one_of f) (letter_again c.key.kind)

more_chosen : (b : Bool) (c : ChangeValue) (cs : List ChangeValue) → length (cond b (c ∷ cs) cs) ≡ cond b 1 0 + length cs
more_chosen true c cs = omega arith
more_chosen false c cs = omega arith

spelled_sum : (f : FilterValue) (ps : List (List ℕ)) (objects : List ChangeValue) → SpellsLines (map without_cr ps) objects
    → sum_of f ps ≡ length (chosen_objects f objects)
spelled_sum f [] _ none = refl
spelled_sum f (p ∷ ps) _ (skipped _ _ objects is rest) = rw (first_skipped f p is) (zero-add (sum_of f ps) ∙ spelled_sum f ps objects rest)
spelled_sum f (p ∷ ps) _ (change _ _ c objects is spells rest) =
    rw (first_line f p c spells, spelled_sum f ps objects rest) (sym (more_chosen (chooses f c.key.kind) c (chosen_objects f objects)))

-- what a data file spells is counted
pub spelled_count : (f : FilterValue) (file : List ℕ) (objects : List ChangeValue) → SpellsData file objects
    → number_in f false file ≡ length (chosen_objects f objects)
spelled_count f file objects s = (by_pieces f file).outside ∙ spelled_sum f (pieces 10 file) objects s.lines

-- before the first line
pub begun_total : (f : FilterValue) (counter : OplCounter) (file : List ℕ) (objects : List ChangeValue) → BeginsCounter counter → SpellsData file objects
    → ComesTo f counter file (min (length (chosen_objects f objects)) most_counted)
begun_total f counter file objects begins s =
    let all : number_in f counter.is_inside file ≡ length (chosen_objects f objects) =
    ap (λ (t : Bool). number_in f t file) begins.outside ∙ spelled_count f file objects s in
    let none = begins.none in
    record { few = omega (arith, none); sum = rw (all, none, zero-add (length (chosen_objects f objects))) refl }
