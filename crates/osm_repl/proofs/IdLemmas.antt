-- Words that name ids and objects. First the id of a user or of a changeset, as it is written and as
-- it is parsed.
use Rattle.std.proofs.Common.{◌≡◌, ℕ, ◌<◌, ◌^◌, ◌++◌, ◌∷◌, List, [], suc, ◌+◌, add-one, length, map, take, drop, get_or, sym, ap, ◌∙◌, subst, arith, inl, inr}
use Rattle.std.specs.Prelude.{◌⊎◌, Err, None, Ok, Option, Result, Some, codes}
use Rattle.std.specs.Borrow.{Bor}
use Rattle.std.specs.List.{AllByRecursion}
use Rattle.std.specs.Fmt.{decimal}
use Rattle.std.specs.Str.Parse.{ParsesUnsigned}
use Rattle.std.proofs.Math.Seq.{split_at, take-suc}
use Rattle.std.proofs.lemmas.List.{map-append}
use Rattle.std.proofs.lemmas.Fmt.{parse-decimal}
use Rattle.osm_runs.specs.declared.fault.RunFault.{RunFault}
use Rattle.osm_runs.specs.declared.fault.RunFault.TheVariants.{BadId, WantOfMemory}
use Rattle.osm_words.specs.Echo.{echo_of}
use Rattle.osm_repl.specs.Getting.{AreSought, IsObjectRefused, IsSought, IsSoughtWord, RefusesSought, sought_text}
use Rattle.osm_repl.specs.declared.sought.Sought.{Sought}
use Rattle.osm_repl.specs.declared.sought.Sought.TheVariants.{Input, Object}
use Rattle.osm_repl.specs.Sums.{NamesId, RefusesIds}
use Rattle.osm_kept.proofs.BatchLemmas.{all_append}

-- a word that is so written is parsed so
is_parsed : {E : Type 0} (word : List ℕ) (r : Result ℕ E) (id : ℕ) → ParsesUnsigned 32 10 word r → id < 2 ^ 32 → word ≡ decimal id → r ≡ Ok id
is_parsed word r id h small e = parse-decimal 32 id word r small (omega (arith, small)) e h

pub id_only : {E : Type 0} (word : List ℕ) (r : Result ℕ E) (found id : ℕ) (o : Option ℕ) → ParsesUnsigned 32 10 word r → r ≡ Ok found
    → (word ≡ decimal found → o ≡ Some found) → id < 2 ^ 32 → word ≡ decimal id → o ≡ Some id
id_only {E} word r found id o h is only small e =
    let both : ◌≡◌ {A = Result ℕ E} (Ok found) (Ok id) = sym is ∙ is_parsed word r id h small e in
    let same : found ≡ id = cc in
    subst (λ (n : ℕ). o ≡ Some n) same (only (e ∙ ap decimal (sym same)))

pub no_id : {E : Type 0} (word : List ℕ) (r : Result ℕ E) (fault : E) (id : ℕ) (o : Option ℕ) → ParsesUnsigned 32 10 word r → r ≡ Err fault
    → id < 2 ^ 32 → word ≡ decimal id → o ≡ Some id
no_id {E} word r fault id o h is small e =
    let both : ◌≡◌ {A = Result ℕ E} (Err fault) (Ok id) = sym is ∙ is_parsed word r id h small e in
    absurd cc

-- the words before were ids, and this one is none
pub ids_refused : (words : List (Bor (List ℕ))) (i : ℕ) (d : Bor (List ℕ)) (found : Option ℕ) (unnoted noted : List ℕ) (fault : RunFault)
    → i < length words → AllByRecursion (λ w. NamesId w.now) (take i words) → ((id : ℕ) → found ≡ Some id → ⊥)
    → ((id : ℕ) → id < 2 ^ 32 → (get_or words i d).now ≡ decimal id → found ≡ Some id) → unnoted ≡ []
    → ((fault ≡ BadId) × (noted ≡ echo_of (get_or words i d).now)) ⊎ ((fault ≡ WantOfMemory) × (noted ≡ unnoted)) → RefusesIds words noted fault
ids_refused words i d found unnoted noted fault within good none only empty (inl h) = inl (
  h.0,
  record {
    before = take i words;
    word = get_or words i d;
    after = drop (suc i) words;
    parts = split_at words i d within;
    good = good;
    bad = λ named. none named.0 (only named.0 named.1 named.2);
    noted_is = h.1;
  },
)
ids_refused words i d found unnoted noted fault within good none only empty (inr h) = inr (h.0, h.1 ∙ empty)

-- the words before named something, and this one doesn't
pub sought_refused : (words : List (Bor (List ℕ))) (i : ℕ) (d : Bor (List ℕ)) (noted : List ℕ) (fault : RunFault) → i < length words
    → AllByRecursion (λ w. IsSoughtWord w.now) (take i words) → ((get_or words i d).now ≡ codes "-" → ⊥)
    → IsObjectRefused (get_or words i d).now noted fault → RefusesSought words noted fault
sought_refused words i d noted fault within good other (inl h) = inl (
  h.0,
  record {
    before = take i words;
    word = get_or words i d;
    after = drop (suc i) words;
    parts = split_at words i d within;
    good = good;
    bad = λ named. elim named [
      | inl dash ↦ other dash
      | inr object ↦ h.1 object
    ];
    noted_is = h.2;
  },
)
sought_refused words i d noted fault within good other (inr h) = inr h

text_is : (word : List ℕ) (each : Sought) → IsSought word each → word ≡ sought_text each
text_is word (Object key) is = is
text_is word Input is = is

-- one word more
pub sought_next : (words : List (Bor (List ℕ))) (i : ℕ) (d : Bor (List ℕ)) (sought : List Sought) (each : Sought) → i < length words
    → AreSought (take i words) sought → IsSought (get_or words i d).now each → AreSought (take (i + 1) words) (sought ++ each ∷ [])
sought_next words i d sought each within are is =
    let next : take (i + 1) words ≡ take i words ++ (get_or words i d ∷ []) = rw add-one (take-suc words i d within) in
    rw next (record {
      same = map-append (λ (w : Bor (List ℕ)). w.now) (take i words) (get_or words i d ∷ [])
          ∙ (ap (λ (l : List (List ℕ)). l ++ (get_or words i d).now ∷ []) are.same
          ∙ (ap (λ (t : List ℕ). map sought_text sought ++ t ∷ []) (text_is (get_or words i d).now each is)
          ∙ sym (map-append sought_text sought (each ∷ []))));
      each = all_append (λ (w : Bor (List ℕ)). IsSoughtWord w.now) (take i words) (get_or words i d ∷ []) are.each ((each, is), tt);
    })
