-- The strings that a writer has entered are the entries of the context, each as its in-line bytes.
use Rattle.std.proofs.Common.{◌≡◌, ℕ, zero, suc, ◌+◌, ◌-◌, ◌^◌, ◌<◌, ◌≤◌, Bool, true, false, cond, leb, ◌&&◌, List, []}
use Rattle.std.proofs.Common.{◌∷◌, ◌++◌, length, Option, Some, None, refl, sym, ap, subst, ◌∙◌, append_assoc, arith}
use Rattle.std.proofs.Common.{inl, inr}
use Rattle.std.specs.Prelude.{Contains, slice_get}
use Rattle.std.specs.List.{AllByRecursion}
use Rattle.std.proofs.lemmas.Bool.{cases_lt}
use Rattle.std.proofs.lemmas.Bool.Decides.{nat_tests}
use Rattle.std.proofs.lemmas.List.{length-append}
use Rattle.std.proofs.lemmas.Option.{same_Some}
use Rattle.osm_o5c.specs.Entries.{SpellsPair, in_line, reference, SpellsSingle, in_line_single, reference_single, size_of, entries_of, named}
use Rattle.osm_o5c.specs.Written.{number_text, pair_in_line, single_in_line, reference_of, by_reference, entered_by}
use Rattle.osm_o5c.specs.Written.{pair_text, after_pair, single_text, after_single}
use Rattle.osm_o5c.specs.Shortest.{IsShortestPair, IsShortestSingle, HasNoName, IsLeastName}
use Rattle.osm_o5c.specs.Steps.Index.{string_named, IsLeast}
use Rattle.osm_o5c.specs.StringReading.{until_nul_at}
use Rattle.osm_o5c.specs.declared.strings.Entry.{Entry}
use Rattle.osm_o5c.specs.declared.strings.Entry.TheVariants.{Pair, Single}
use Rattle.osm_o5c.proofs.IndexLemmas.{Names, names, reference_least}
use Rattle.osm_o5c.proofs.StringLemmas.{until_again}
use Rattle.osm_o5c.proofs.TableLemmas.{entries_of-push}
use Rattle.osm_o5c.proofs.WrittenNumbers.{number_spells, fewest_bytes, number_short, pair_length, single_length}

-- ---- entries in line

abbrev pub entry_in_line : Entry → List ℕ
entry_in_line (Pair first second) = pair_in_line first second
entry_in_line (Single text) = single_in_line text

abbrev pub entries_in_line : List Entry → List (List ℕ)
entries_in_line [] = []
entries_in_line (e ∷ es) = entry_in_line e ∷ entries_in_line es

-- no string of it holds 00
abbrev pub IsClean : Entry → Type 0
IsClean (Pair first second) = (¬ Contains first 0) × (¬ Contains second 0)
IsClean (Single text) = ¬ Contains text 0

-- these strings are the entries of a context, each as its in-line bytes
pub record IsKnown (ss : List Entry) (strings : List (List ℕ)) : Type 0 where
  pub are : strings ≡ entries_in_line (entries_of ss)
  pub clean : AllByRecursion IsClean (entries_of ss)

in_line-length : (es : List Entry) → length (entries_in_line es) ≡ length es
in_line-length [] = refl
in_line-length (e ∷ es) = ap suc (in_line-length es)

in_line-push : (es : List Entry) (e : Entry) → entries_in_line (es ++ e ∷ []) ≡ entries_in_line es ++ entry_in_line e ∷ []
in_line-push [] e = refl
in_line-push (x ∷ xs) e = ap (λ (l : List (List ℕ)). entry_in_line x ∷ l) (in_line-push xs e)

clean-push : (es : List Entry) (e : Entry) → AllByRecursion IsClean es → IsClean e → AllByRecursion IsClean (es ++ e ∷ [])
clean-push [] e all c = (c, tt)
clean-push (x ∷ xs) e all c = (all.0, clean-push xs e all.1 c)

-- ---- strings with the same in-line bytes are the same

abbrev tail_of : List ℕ → List ℕ
tail_of [] = []
tail_of (b ∷ bs) = bs

pair_tail : (a b : List ℕ) → tail_of (pair_in_line a b) ≡ a ++ 0 ∷ (b ++ 0 ∷ [])
pair_tail a b = append_assoc a (0 ∷ b) (0 ∷ [])

same_parts : (a b c d : List ℕ) → ¬ Contains a 0 → ¬ Contains c 0 → a ++ 0 ∷ b ≡ c ++ 0 ∷ d → (a ≡ c) × (b ≡ d)
same_parts a b c d p q e =
    let both : Some (a, b) ≡ Some (c, d) = sym (until_again a b p) ∙ ap until_nul_at e ∙ until_again c d q in
    let pair : (a, b) ≡ (c, d) = same_Some (a, b) (c, d) both in
    (ap (λ (x : List ℕ × List ℕ). x.0) pair, ap (λ (x : List ℕ × List ℕ). x.1) pair)

record SamePair (a b c d : List ℕ) : Type 0 where
  first : a ≡ c
  second : b ≡ d

same_pair : (a b c d : List ℕ) → IsClean (Pair a b) → IsClean (Pair c d) → pair_in_line a b ≡ pair_in_line c d → SamePair a b c d
same_pair a b c d p q e =
    let t : a ++ 0 ∷ (b ++ 0 ∷ []) ≡ c ++ 0 ∷ (d ++ 0 ∷ []) = sym (pair_tail a b) ∙ ap tail_of e ∙ pair_tail c d in
    let f = same_parts a (b ++ 0 ∷ []) c (d ++ 0 ∷ []) p.0 q.0 t in
    let s = same_parts b [] d [] p.1 q.1 f.1 in
    record { first = f.0; second = s.0 }

pair_or_single : (a b t : List ℕ) → ¬ Contains a 0 → ¬ Contains t 0 → pair_in_line a b ≡ single_in_line t → ⊥
pair_or_single a b t p q e =
    let u : a ++ 0 ∷ (b ++ 0 ∷ []) ≡ t ++ 0 ∷ [] = sym (pair_tail a b) ∙ ap tail_of e in
    let f = same_parts a (b ++ 0 ∷ []) t [] p q u in
    omega (arith, ap length f.1, length-append b (0 ∷ []))

same_entry : (x y : Entry) → IsClean x → IsClean y → entry_in_line x ≡ entry_in_line y → x ≡ y
same_entry (Pair a b) (Pair c d) p q e = let s : SamePair a b c d = same_pair a b c d p q e in rw (s.first, s.second) refl
same_entry (Pair a b) (Single t) p q e = absurd (pair_or_single a b t p.0 q e)
same_entry (Single t) (Pair a b) p q e = absurd (pair_or_single a b t q.0 p (sym e))
same_entry (Single s) (Single t) p q e = ap (λ (l : List ℕ). Single l) (same_parts s [] t [] p q (ap tail_of e)).0

-- ---- a number names the same in both

record Got (es : List Entry) (i : ℕ) (t : List ℕ) : Type 0 where
  entry : Entry
  is : slice_get es i ≡ Some entry
  spelled : entry_in_line entry ≡ t
  clean : IsClean entry

got : (es : List Entry) (i : ℕ) (t : List ℕ) → AllByRecursion IsClean es → slice_get (entries_in_line es) i ≡ Some t → Got es i t
got [] i t all e = absurd cc
got (x ∷ xs) zero t all e = record { entry = x; is = refl; spelled = same_Some (entry_in_line x) t e; clean = all.0 }
got (x ∷ xs) (suc i) t all e = let g : Got xs i t = got xs i t all.1 e in record { entry = g.entry; is = g.is; spelled = g.spelled; clean = g.clean }

put : (es : List Entry) (i : ℕ) (x : Entry) → slice_get es i ≡ Some x → slice_get (entries_in_line es) i ≡ Some (entry_in_line x)
put [] i x e = absurd cc
put (y ∷ ys) zero x e = ap (λ (z : Entry). Some (entry_in_line z)) (same_Some y x e)
put (y ∷ ys) (suc i) x e = put ys i x e

by_test : (b : Bool) (es : List Entry) (i : ℕ) (e : Entry) → AllByRecursion IsClean es → IsClean e
    → cond b (slice_get (entries_in_line es) i) None ≡ Some (entry_in_line e) → cond b (slice_get es i) None ≡ Some e
by_test true es i e all c h =
    let g : Got es i (entry_in_line e) = got es i (entry_in_line e) all h in
    g.is ∙ ap (λ (x : Entry). Some x) (same_entry g.entry e g.clean c g.spelled)
by_test false es i e all c h = absurd cc

to_test : (b : Bool) (es : List Entry) (i : ℕ) (e : Entry) → cond b (slice_get es i) None ≡ Some e
    → cond b (slice_get (entries_in_line es) i) None ≡ Some (entry_in_line e)
to_test true es i e h = put es i e h
to_test false es i e h = absurd cc

named_from : (es : List Entry) (e : Entry) (k : ℕ) → AllByRecursion IsClean es → IsClean e
    → string_named (entries_in_line es) k ≡ Some (entry_in_line e) → named es k ≡ Some e
named_from es e k all c h =
    by_test (leb 1 k && leb k 15000 && leb k (length es)) es (length es - k) e all c (rw (in_line-length es) at h)

named_to : (es : List Entry) (e : Entry) (k : ℕ) → named es k ≡ Some e → string_named (entries_in_line es) k ≡ Some (entry_in_line e)
named_to es e k h =
    rw (in_line-length es) (to_test (leb 1 k && leb k 15000 && leb k (length es)) es (length es - k) e h)

-- ---- a string by reference or in line

-- the strings entered after a string in line
known_after : (ss : List Entry) (strings : List (List ℕ)) (e : Entry) → IsKnown ss strings → IsClean e
    → IsKnown (ss ++ e ∷ []) (entered_by None strings (entry_in_line e) (size_of e))
known_after ss strings e k c =
    elim (cases_lt 250 (size_of e)) [
      | inl long ↦
          let t : leb (size_of e) 250 ≡ false = grind (arith, nat_tests) in
          let same : entries_of (ss ++ e ∷ []) ≡ entries_of ss = rw t at (entries_of-push e ss) in
          rw t (record { are = k.are ∙ ap entries_in_line (sym same); clean = subst (AllByRecursion IsClean) (sym same) k.clean })
      | inr short ↦
          let t : leb (size_of e) 250 ≡ true = grind (arith, nat_tests) in
          let more : entries_of (ss ++ e ∷ []) ≡ entries_of ss ++ e ∷ [] = rw t at (entries_of-push e ss) in
          rw t (record {
            are = ap (λ (l : List (List ℕ)). l ++ entry_in_line e ∷ []) k.are ∙ sym (in_line-push (entries_of ss) e) ∙ ap entries_in_line (sym more);
            clean = subst (AllByRecursion IsClean) (sym more) (clean-push (entries_of ss) e k.clean c);
          })
    ]

record Named (ss : List Entry) (e : Entry) (k : ℕ) : Type 0 where
  is : named (entries_of ss) k ≡ Some e
  least : IsLeastName ss k e
  small : k < 2 ^ 64

named_least : (ss : List Entry) (strings : List (List ℕ)) (e : Entry) (k : ℕ) → IsKnown ss strings → IsClean e
    → IsLeast strings (entry_in_line e) (Some k) → Named ss e k
named_least ss strings e k known c l =
    let n : Names strings (entry_in_line e) k = names strings (entry_in_line e) k l.0 in
    let high : k ≤ 15000 = n.high in
    let here : IsLeast (entries_in_line (entries_of ss)) (entry_in_line e) (Some k) =
    subst (λ (s : List (List ℕ)). IsLeast s (entry_in_line e) (Some k)) known.are l in
    record {
      is = named_from (entries_of ss) e k known.clean c here.0;
      least = λ j less h. here.1 j less (named_to (entries_of ss) e j h);
      small = omega arith;
    }

no_name : (ss : List Entry) (strings : List (List ℕ)) (e : Entry) → IsKnown ss strings → IsLeast strings (entry_in_line e) None → HasNoName ss e
no_name ss strings e known l =
    let here : IsLeast (entries_in_line (entries_of ss)) (entry_in_line e) None = subst (λ (s : List (List ℕ)). IsLeast s (entry_in_line e) None) known.are l in
    λ k h. here k (named_to (entries_of ss) e k h)

-- ---- pairs

record PairBy (ss : List Entry) (strings : List (List ℕ)) (first second : List ℕ) (r : Option ℕ) : Type 0 where
  after : List Entry
  spells : SpellsPair ss (by_reference r (pair_in_line first second)) first second after
  known : IsKnown after (entered_by r strings (pair_in_line first second) (length first + length second))
  shortest : IsShortestPair spells

pair_by : (ss : List Entry) (strings : List (List ℕ)) (first second : List ℕ) (r : Option ℕ) → IsKnown ss strings
    → IsClean (Pair first second) → IsLeast strings (pair_in_line first second) r → PairBy ss strings first second r
pair_by ss strings first second (Some k) known c l =
    let n : Named ss (Pair first second) k = named_least ss strings (Pair first second) k known c l in
    record {
      after = ss;
      spells = reference ss (number_text k) k first second (number_spells k n.small) n.is;
      known = known;
      shortest = ((λ other s. fewest_bytes other k s), n.least);
    }
pair_by ss strings first second None known c l = record {
  after = ss ++ Pair first second ∷ [];
  spells = in_line ss first second c.0 c.1;
  known = known_after ss strings (Pair first second) known c;
  shortest = no_name ss strings (Pair first second) known l;
}

-- the strings in line after a written pair, and the strings entered then
pub record PairWritten (ss : List Entry) (strings : List (List ℕ)) (first second : List ℕ) : Type 0 where
  pub after : List Entry
  pub spells : SpellsPair ss (pair_text strings first second) first second after
  pub known : IsKnown after (after_pair strings first second)
  pub shortest : IsShortestPair spells

pub pair_written : (ss : List Entry) (strings : List (List ℕ)) (first second : List ℕ) → IsKnown ss strings
    → ¬ Contains first 0 → ¬ Contains second 0 → PairWritten ss strings first second
pair_written ss strings first second known f s =
    let w : PairBy ss strings first second (reference_of strings (pair_in_line first second)) =
    pair_by ss strings first second (reference_of strings (pair_in_line first second)) known (f, s)
    (reference_least strings (pair_in_line first second)) in
    record { after = w.after; spells = w.spells; known = w.known; shortest = w.shortest }

by_reference-length : (r : Option ℕ) (text : List ℕ) → length (by_reference r text) ≤ 10 + length text
by_reference-length (Some k) text = omega (arith, number_short k)
by_reference-length None text = omega arith

pub pair_short : (strings : List (List ℕ)) (first second : List ℕ) → length (pair_text strings first second) ≤ length first + length second + 13
pair_short strings first second = omega (
  arith,
  by_reference-length (reference_of strings (pair_in_line first second))
      (pair_in_line first second),
  pair_length first second,
)

-- ---- single strings

record SingleBy (ss : List Entry) (strings : List (List ℕ)) (text : List ℕ) (r : Option ℕ) : Type 0 where
  after : List Entry
  spells : SpellsSingle ss (by_reference r (single_in_line text)) text after
  known : IsKnown after (entered_by r strings (single_in_line text) (length text))
  shortest : IsShortestSingle spells

single_by : (ss : List Entry) (strings : List (List ℕ)) (text : List ℕ) (r : Option ℕ) → IsKnown ss strings
    → IsClean (Single text) → IsLeast strings (single_in_line text) r → SingleBy ss strings text r
single_by ss strings text (Some k) known c l =
    let n : Named ss (Single text) k = named_least ss strings (Single text) k known c l in
    record {
      after = ss;
      spells = reference_single ss (number_text k) k text (number_spells k n.small) n.is;
      known = known;
      shortest = ((λ other s. fewest_bytes other k s), n.least);
    }
single_by ss strings text None known c l = record {
  after = ss ++ Single text ∷ [];
  spells = in_line_single ss text c;
  known = known_after ss strings (Single text) known c;
  shortest = no_name ss strings (Single text) known l;
}

pub record SingleWritten (ss : List Entry) (strings : List (List ℕ)) (text : List ℕ) : Type 0 where
  pub after : List Entry
  pub spells : SpellsSingle ss (single_text strings text) text after
  pub known : IsKnown after (after_single strings text)
  pub shortest : IsShortestSingle spells

pub single_written : (ss : List Entry) (strings : List (List ℕ)) (text : List ℕ) → IsKnown ss strings → ¬ Contains text 0 → SingleWritten ss strings text
single_written ss strings text known c =
    let w : SingleBy ss strings text (reference_of strings (single_in_line text)) =
    single_by ss strings text (reference_of strings (single_in_line text)) known c
    (reference_least strings (single_in_line text)) in
    record { after = w.after; spells = w.spells; known = w.known; shortest = w.shortest }

pub single_short : (strings : List (List ℕ)) (text : List ℕ) → length (single_text strings text) ≤ length text + 12
single_short strings text = omega (arith, by_reference-length (reference_of strings (single_in_line text)) (single_in_line text), single_length text)
