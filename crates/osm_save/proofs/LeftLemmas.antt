-- Objects that are left in entries, taken one entry after the other.
use Rattle.std.proofs.Common.{◌≡◌, ℕ, ◌+◌, ◌<◌, ◌≤◌, List, [], ◌∷◌, ◌++◌, length, map, take}
use Rattle.std.proofs.Common.{get_or, slice_index_or, Option, Some, None, refl, ap, sym, ◌∙◌, arith}
use Rattle.std.proofs.lemmas.List.{append_assoc, append-nil, length-append, length-take, map-append, take_more}
use Rattle.osm_model.specs.Change.{ChangeValue}
use Rattle.osm_model.specs.declared.kind.Key.{Key}
use Rattle.osm_opl.specs.Written.{line_text}
use Rattle.osm_save.specs.Left.{left_in, left_of}
use Rattle.osm_save.specs.Lines.{ended}
use Rattle.osm_save.proofs.TextLemmas.{lines_more}

abbrev pub Entry : Type 0
Entry = Key × Option ChangeValue

pub left_in-append : (es fs : List Entry) → left_in (es ++ fs) ≡ left_in es ++ left_in fs
left_in-append [] fs = refl
left_in-append (e ∷ es) fs = ap (λ (l : List ChangeValue). left_of e.1 ++ l) (left_in-append es fs) ∙ sym (append_assoc (left_of e.1) (left_in es) (left_in fs))

pub left_of-few : (z : Option ChangeValue) → length (left_of z) ≤ 1
left_of-few None = omega arith
left_of-few (Some c) = omega arith

pub left_in-few : (es : List Entry) → length (left_in es) ≤ length es
left_in-few [] = omega arith
left_in-few (e ∷ es) =
    let few = left_in-few es in
    let one = left_of-few e.1 in
    let sum = length-append (left_of e.1) (left_in es) in
    omega (arith, few, one, sum)

pub left_more : (es : List Entry) (i : ℕ) (e : Entry) → i < length es → e ≡ slice_index_or es i e
    → left_in (take (i + 1) es) ≡ left_in (take i es) ++ left_of e.1
left_more es i e lt is = ap left_in (take_more es i e lt) ∙ (left_in-append (take i es) (get_or es i e ∷ [])
    ∙ ap (λ (l : List ChangeValue). left_in (take i es) ++ l) (append-nil (left_of (get_or es i e).1) ∙ ap (λ (x : Entry). left_of x.1) (sym is)))

pub left_fits : (es : List Entry) (i : ℕ) → length (left_in (take i es)) ≤ length es
left_fits es i = let few = left_in-few (take i es) in let short = length-take i es in omega (arith, few, short)

-- one more entry is counted, and its line is written
pub count_more : (es : List Entry) (i many one : ℕ) (e : Entry) → i < length es → e ≡ slice_index_or es i e
    → many ≡ length (left_in (take i es)) → one ≡ length (left_of e.1) → many + one ≡ length (left_in (take (i + 1) es))
count_more es i many one e lt is so next =
    let sum = length-append (left_in (take i es)) (left_of e.1) in
    let all = ap {A = List ChangeValue} length (left_more es i e lt is) in
    omega (arith, so, next, sum, all)

pub write_more : (es : List Entry) (i : ℕ) (e : Entry) (old now next : List ℕ) → i < length es → e ≡ slice_index_or es i e
    → now ≡ old ++ ended (map line_text (left_in (take i es))) → next ≡ now ++ ended (map line_text (left_of e.1))
    → next ≡ old ++ ended (map line_text (left_in (take (i + 1) es)))
write_more es i e old now next lt is so one =
    lines_more old now next (map line_text (left_in (take i es))) (map line_text (left_of e.1)) so one
    ∙ ap (λ (l : List (List ℕ)). old ++ ended l) (sym (map-append line_text (left_in (take i es)) (left_of e.1))
    ∙ ap (map line_text) (sym (left_more es i e lt is)))
