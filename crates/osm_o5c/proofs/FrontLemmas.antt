-- A valid prefix is read step by step, so there is one longest valid prefix, with one list of changes.
use Rattle.std.proofs.Common.{◌≡◌, ℕ, zero, suc, ◌+◌, ◌-◌, ◌<◌, ◌≤◌, List, [], ◌∷◌, ◌++◌, length, get_or, take, drop, Option}
use Rattle.std.proofs.Common.{Some, None, refl, sym, ap, subst, ◌∙◌, append_assoc, arith, inl, inr}
use Rattle.std.proofs.lemmas.Bool.{cases_lt}
use Rattle.std.proofs.lemmas.Option.{same_Some}
use Rattle.std.proofs.lemmas.List.{append-nil, length-append, take_at}
use Rattle.osm_model.specs.Batch.{IsBatch}
use Rattle.osm_model.specs.Change.{ChangeValue}
use Rattle.osm_model.specs.declared.kind.Kind.{Kind}
use Rattle.osm_model.specs.declared.kind.Kind.TheVariants.{Node, Way, Relation}
use Rattle.osm_o5c.specs.Context.{Context, fresh}
use Rattle.osm_o5c.specs.File.{beginning, kind_byte, Dataset, object, skipped, lone, reset, changes_with, Front, begin, next}
use Rattle.osm_o5c.specs.File.{SpellsFile, SpellsO5c, Longest}
use Rattle.osm_o5c.specs.Datasets.{new_reader, Position, position, dataset_at, with_found, step, Stops}
use Rattle.osm_model.specs.Files.{AreLimits}
use Rattle.osm_reading.specs.Answers.{and_then}
use Rattle.osm_reading.proofs.StepLemmas.{some_then}
use Rattle.osm_o5c.specs.declared.reader.Reader.{Reader}
use Rattle.osm_o5c.proofs.FieldLemmas.{reader_of}
use Rattle.osm_o5c.proofs.DatasetLemmas.{fresh_reader, TakesStep, step_takes, step_again, dataset_some}
use Rattle.osm_model.proofs.FileLimitLemmas.{batch_limits}

-- ---- many steps

-- this many steps after the beginning
abbrev pub walk : ℕ → List ℕ → Option Position
walk zero bytes = Some (position new_reader [] bytes)
walk (suc k) bytes = and_then (walk k bytes) step

-- a valid prefix leads to the position that a number of steps after the beginning reaches
pub record Walked (start prefix rest : List ℕ) (p : Position) : Type 0 where
  pub behind : List ℕ
  pub begins : prefix ≡ start ++ behind
  pub count : ℕ
  pub leads : walk count (behind ++ rest) ≡ Some p

pub front_walks : (start : List ℕ) (Limits : List ChangeValue → Type 0) (prefix : List ℕ) (C : Context)
    (xs : List ChangeValue) (rest : List ℕ) → Front start Limits prefix C xs
    → Walked start prefix rest (position (reader_of C) xs rest)
front_walks start _ _ _ _ rest begin = record {
  behind = [];
  begins = sym (append-nil start);
  count = 0;
  leads = ap (λ (r : Reader). Some (position r [] rest)) fresh_reader;
}
front_walks start Limits _ _ _ rest (next prefix C xs d found after f s right) =
    let before : Walked start prefix (d ++ rest) (position (reader_of C) xs (d ++ rest)) =
    front_walks start Limits prefix C xs (d ++ rest) f in
    record {
      behind = before.behind ++ d;
      begins = ap (λ (l : List ℕ). l ++ d) before.begins ∙ append_assoc start before.behind d;
      count = suc before.count;
      leads = rw (append_assoc before.behind d rest, before.leads) (step_again C xs d found after rest s);
    }

-- the changes of a valid prefix are within the limits
pub front_right : (start : List ℕ) (Limits : List ChangeValue → Type 0) → AreLimits Limits → (prefix : List ℕ) (C : Context)
    (xs : List ChangeValue) → Front start Limits prefix C xs → Limits xs
front_right start Limits are _ _ _ begin = are.none
front_right start Limits are _ _ _ (next prefix C xs d found after f s right) = right

-- what is spelled is within the limits
pub spelled_right : (start : List ℕ) (Limits : List ChangeValue → Type 0) → AreLimits Limits → (bytes : List ℕ)
    (changes : List ChangeValue) → SpellsFile start Limits bytes changes → Limits changes
spelled_right start Limits are bytes changes s = front_right start Limits are s.prefix s.context changes s.is_front

pub spelled_limits : (bytes : List ℕ) (batch : List ChangeValue) → SpellsO5c bytes batch → IsBatch batch
spelled_limits = spelled_right beginning IsBatch batch_limits

-- a list goes on from another
pub record GoesOn (xs ys : List ChangeValue) : Type 0 where
  pub more : List ChangeValue
  pub whole : ys ≡ xs ++ more

goes_on : (xs ys zs : List ChangeValue) → GoesOn xs ys → GoesOn ys zs → GoesOn xs zs
goes_on xs ys zs a b = record {
  more = a.more ++ b.more;
  whole = b.whole ∙ ap (λ (l : List ChangeValue). l ++ b.more) a.whole ∙ append_assoc xs a.more b.more;
}

found_on : (xs : List ChangeValue) (found : Option ChangeValue) → GoesOn xs (changes_with xs found)
found_on xs None = record { more = []; whole = sym (append-nil xs) }
found_on xs (Some c) = record { more = c ∷ []; whole = refl }

-- changes are only added
pub step_on : (p q : Position) → step p ≡ Some q → GoesOn p.changes q.changes
unfolding step
step_on p q e =
    let x = some_then (dataset_at p.reader p.rest) (with_found p.changes) q e in
    subst (λ (q : Position). GoesOn p.changes q.changes) (same_Some (position x.0.1 (changes_with p.changes x.0.0) x.0.2) q x.2)
    (found_on p.changes x.0.0)

-- many steps pass every number of steps below theirs
pub record Passed (bytes : List ℕ) (k : ℕ) (q : Position) : Type 0 where
  pub at : Position
  pub leads : walk k bytes ≡ Some at
  pub on : GoesOn at.changes q.changes

pub walk_passes : (bytes : List ℕ) (k j : ℕ) (q : Position) → walk (k + j) bytes ≡ Some q → Passed bytes k q
walk_passes bytes k zero q e = record {
  at = q;
  leads = subst (λ (i : ℕ). walk i bytes ≡ Some q) (let z : k + 0 ≡ k = omega arith in z) e;
  on = record { more = []; whole = sym (append-nil q.changes) };
}
walk_passes bytes k (suc j) q e =
    let last : walk (suc (k + j)) bytes ≡ Some q = subst (λ (i : ℕ). walk i bytes ≡ Some q) (let z : k + suc j ≡ suc (k + j) = omega arith in z) e in
    let r = some_then (walk (k + j) bytes) step q last in
    let before : Passed bytes k r.0 = walk_passes bytes k j r.0 r.1 in
    record {
      at = before.at;
      leads = before.leads;
      on = goes_on before.at.changes r.0.changes q.changes before.on (step_on r.0 q r.2);
    }

-- the same for a number that is known to be less
pub passes : (bytes : List ℕ) (k n : ℕ) (q : Position) → k ≤ n → walk n bytes ≡ Some q → Passed bytes k q
passes bytes k n q le e = walk_passes bytes k (n - k) q
    (subst (λ (i : ℕ). walk i bytes ≡ Some q) (let z : n ≡ k + (n - k) = omega arith in z) e)

-- the step from one position to the one that the next number of steps reaches
pub step_of : (bytes : List ℕ) (k : ℕ) (p q : Position) → walk k bytes ≡ Some p → walk (suc k) bytes ≡ Some q → step p ≡ Some q
step_of bytes k p q here e =
    let r = some_then (walk k bytes) step q e in
    let same : r.0 ≡ p = same_Some r.0 p (sym r.1 ∙ here) in
    subst (λ (x : Position). step x ≡ Some q) same r.2

-- ---- the last step

-- a number of steps leads to this position, and none leads on within the limits
pub record Ends (Limits : List ChangeValue → Type 0) (bytes : List ℕ) (p : Position) : Type 0 where
  pub count : ℕ
  pub leads : walk count bytes ≡ Some p
  pub right : Limits p.changes
  pub stuck : Stops Limits (step p)

-- no more steps lead to a position within the limits
pub not_after : (Limits : List ChangeValue → Type 0) → AreLimits Limits → (bytes : List ℕ) (k n : ℕ) (p q : Position)
    → walk k bytes ≡ Some p → Stops Limits (step p) → walk n bytes ≡ Some q → Limits q.changes → k < n → ⊥
not_after Limits are bytes k n p q here stuck there right lt =
    let passed : Passed bytes (suc k) q = passes bytes (suc k) n q (omega arith) there in
    stuck passed.at (step_of bytes k p passed.at here passed.leads)
    (are.first passed.at.changes passed.on.more (subst (λ l. Limits l) passed.on.whole right))

pub one_end : (Limits : List ChangeValue → Type 0) → AreLimits Limits → (bytes : List ℕ) (p q : Position)
    → Ends Limits bytes p → Ends Limits bytes q → p ≡ q
one_end Limits are bytes p q a b =
    elim (cases_lt a.count b.count) [
      | inl less ↦ absurd (not_after Limits are bytes a.count b.count p q a.leads a.stuck b.leads b.right less)
      | inr more ↦ elim (cases_lt b.count a.count) [
        | inl less ↦ absurd (not_after Limits are bytes b.count a.count q p b.leads b.stuck a.leads a.right less)
        | inr same ↦ same_Some p q (sym a.leads ∙ subst (λ (j : ℕ). walk j bytes ≡ Some q) (let e : b.count ≡ a.count = omega arith in e) b.leads)
      ]
    ]

-- ---- the longest valid prefix

-- the bytes have the beginning, and the steps after it end at this position
pub record EndsAt (start : List ℕ) (Limits : List ChangeValue → Type 0) (bytes : List ℕ) (p : Position) : Type 0 where
  pub behind : List ℕ
  pub begins : bytes ≡ start ++ behind
  pub ends : Ends Limits behind p

pub longest_ends : (start : List ℕ) (Limits : List ChangeValue → Type 0) → AreLimits Limits → (bytes prefix rest : List ℕ)
    (l : Longest start Limits bytes prefix rest) → EndsAt start Limits bytes (position (reader_of l.context) l.changes rest)
longest_ends start Limits are bytes prefix rest l =
    let w = front_walks start Limits prefix l.context l.changes rest l.is_front in
    record {
      behind = w.behind ++ rest;
      begins = l.whole ∙ ap (λ (b : List ℕ). b ++ rest) w.begins ∙ append_assoc start w.behind rest;
      ends = record {
        count = w.count;
        leads = w.leads;
        right = front_right start Limits are prefix l.context l.changes l.is_front;
        stuck = λ q e right.
            let t : TakesStep l.context (position (reader_of l.context) l.changes rest) q = step_takes l.context l.changes rest q e in
            l.last t.prefix t.found t.after q.rest t.spelled (subst (λ xs. Limits xs) t.changes right) t.parts;
      };
    }

pub same_behind : (start a b : List ℕ) → start ++ a ≡ start ++ b → a ≡ b
same_behind [] a b e = e
same_behind (x ∷ start) a b e = same_behind start a b (ap (drop 1) e)

pub one_end_at : (start : List ℕ) (Limits : List ChangeValue → Type 0) → AreLimits Limits → (bytes : List ℕ) (p q : Position)
    → EndsAt start Limits bytes p → EndsAt start Limits bytes q → p ≡ q
one_end_at start Limits are bytes p q a b =
    let same : b.behind ≡ a.behind = same_behind start b.behind a.behind (sym b.begins ∙ a.begins) in
    one_end Limits are a.behind p q a.ends (subst (λ (l : List ℕ). Ends Limits l q) same b.ends)

pub heads : (a b : ℕ) (x y : List ℕ) → a ∷ x ≡ b ∷ y → a ≡ b
heads a b x y e = ap (λ (l : List ℕ). get_or l 0 0) e

kind_low : (k : Kind) → ◌≡◌ {A = ℕ} 254 (kind_byte k) → ⊥
kind_low Node e = omega arith
kind_low Way e = omega arith
kind_low Relation e = omega arith

-- no dataset begins with the end byte
end_last : (C : Context) (d : List ℕ) (found : Option ChangeValue) (after : Context) (rest more : List ℕ) → Dataset C d found after → 254 ∷ rest ≡ d ++ more → ⊥
end_last _ _ _ _ rest more (object C length_bytes content c after n s) e =
    kind_low c.key.kind (heads 254 (kind_byte c.key.kind) rest (length_bytes ++ content ++ more) e)
end_last _ _ _ _ rest more (skipped C t length_bytes content low other n) e =
    let q : 254 ≡ t = heads 254 t rest (length_bytes ++ content ++ more) e in omega arith
end_last _ _ _ _ rest more (lone C t big small) e = let q : 254 ≡ t = heads 254 t rest more e in omega arith
end_last _ _ _ _ rest more (reset C) e = let q : ◌≡◌ {A = ℕ} 254 255 = heads 254 255 rest more e in omega arith

-- a valid prefix before the end byte is the longest one
pub ended_longest : (start : List ℕ) (Limits : List ChangeValue → Type 0) (bytes prefix rest : List ℕ) (C : Context)
    (xs : List ChangeValue) → Front start Limits prefix C xs → bytes ≡ prefix ++ 254 ∷ rest
    → Longest start Limits bytes prefix (254 ∷ rest)
ended_longest start Limits bytes prefix rest C xs f whole = record {
  context = C;
  changes = xs;
  is_front = f;
  whole = whole;
  last = λ d found after more spelled right is. end_last C d found after rest more spelled is;
}

ended_ends : (start : List ℕ) (Limits : List ChangeValue → Type 0) → AreLimits Limits → (bytes prefix rest : List ℕ)
    (C : Context) (xs : List ChangeValue) → Front start Limits prefix C xs → bytes ≡ prefix ++ 254 ∷ rest
    → EndsAt start Limits bytes (position (reader_of C) xs (254 ∷ rest))
unfolding ended_longest
ended_ends start Limits are bytes prefix rest C xs f whole =
    longest_ends start Limits are bytes prefix (254 ∷ rest) (ended_longest start Limits bytes prefix rest C xs f whole)

pub spelled_ends : (start : List ℕ) (Limits : List ChangeValue → Type 0) → AreLimits Limits → (bytes : List ℕ)
    (changes : List ChangeValue) (s : SpellsFile start Limits bytes changes)
    → EndsAt start Limits bytes (position (reader_of s.context) changes (254 ∷ []))
spelled_ends start Limits are bytes changes s =
    ended_ends start Limits are bytes s.prefix [] s.context changes s.is_front s.whole

-- bytes spell at most one list of changes
pub one_list : (start : List ℕ) (Limits : List ChangeValue → Type 0) → AreLimits Limits → (bytes : List ℕ)
    (a b : List ChangeValue) → SpellsFile start Limits bytes a → SpellsFile start Limits bytes b → a ≡ b
one_list start Limits are bytes a b s t =
    ap (λ (p : Position). p.changes) (one_end_at start Limits are bytes (position (reader_of s.context) a (254 ∷ []))
    (position (reader_of t.context) b (254 ∷ [])) (spelled_ends start Limits are bytes a s)
    (spelled_ends start Limits are bytes b t))

pub one_batch : (bytes : List ℕ) (a b : List ChangeValue) → SpellsO5c bytes a → SpellsO5c bytes b → a ≡ b
one_batch = one_list beginning IsBatch batch_limits

-- no spelling is a prefix of another one
pub no_longer : (start : List ℕ) (Limits : List ChangeValue → Type 0) → AreLimits Limits → (bytes more : List ℕ)
    (a b : List ChangeValue) → SpellsFile start Limits bytes a → SpellsFile start Limits (bytes ++ more) b → more ≡ []
no_longer start Limits are bytes more a b s t =
    let whole : bytes ++ more ≡ s.prefix ++ 254 ∷ more = ap (λ (l : List ℕ). l ++ more) s.whole ∙ append_assoc s.prefix (254 ∷ []) more in
    let same : position (reader_of s.context) a (254 ∷ more) ≡ position (reader_of t.context) b (254 ∷ []) =
    one_end_at start Limits are (bytes ++ more) (position (reader_of s.context) a (254 ∷ more))
    (position (reader_of t.context) b (254 ∷ []))
    (ended_ends start Limits are (bytes ++ more) s.prefix more s.context a s.is_front whole)
    (spelled_ends start Limits are (bytes ++ more) b t) in
    ap (λ (p : Position). drop 1 p.rest) same

-- ---- how far a reader has come

pub record IsReached (start : List ℕ) (Limits : List ChangeValue → Type 0) (bytes : List ℕ) (p : Position) : Type 0 where
  pub prefix : List ℕ
  pub context : Context
  pub is_front : Front start Limits prefix context p.changes
  pub whole : bytes ≡ prefix ++ p.rest
  pub same : p.reader ≡ reader_of context

pub reached_first : (start : List ℕ) (Limits : List ChangeValue → Type 0) (bytes rest : List ℕ) → bytes ≡ start ++ rest
    → IsReached start Limits bytes (position new_reader [] rest)
reached_first start Limits bytes rest e = record { prefix = start; context = fresh; is_front = begin; whole = e; same = fresh_reader }

pub step_from : (C : Context) (p q : Position) → p.reader ≡ reader_of C → step p ≡ Some q → TakesStep C p q
step_from C p q same e = subst (λ (r : Reader). step (position r p.changes p.rest) ≡ Some q
    → TakesStep C (position r p.changes p.rest) q) (sym same) (step_takes C p.changes p.rest q) e

pub reached_more : (start : List ℕ) (Limits : List ChangeValue → Type 0) (bytes : List ℕ) (p q : Position)
    → IsReached start Limits bytes p → step p ≡ Some q → Limits q.changes → IsReached start Limits bytes q
reached_more start Limits bytes p q s e right =
    let t : TakesStep s.context p q = step_from s.context p q s.same e in
    record {
      prefix = s.prefix ++ t.prefix;
      context = t.after;
      is_front = subst (λ (xs : List ChangeValue). Front start Limits (s.prefix ++ t.prefix) t.after xs) (sym t.changes)
          (next s.prefix s.context p.changes t.prefix t.found t.after s.is_front t.spelled
          (subst (λ xs. Limits xs) t.changes right));
      whole = s.whole ∙ ap (λ (l : List ℕ). s.prefix ++ l) t.parts ∙ sym (append_assoc s.prefix t.prefix q.rest);
      same = t.same;
    }

pub step_shorter : (start : List ℕ) (Limits : List ChangeValue → Type 0) (bytes : List ℕ) (p q : Position)
    → IsReached start Limits bytes p → step p ≡ Some q → length q.rest < length p.rest
step_shorter start Limits bytes p q s e =
    let t : TakesStep s.context p q = step_from s.context p q s.same e in
    omega (arith, dataset_some s.context t.prefix t.found t.after t.spelled, ap length t.parts, length-append t.prefix q.rest)

pub reached_longest : (start : List ℕ) (Limits : List ChangeValue → Type 0) (bytes : List ℕ) (p : Position)
    (s : IsReached start Limits bytes p) → Stops Limits (step p) → Longest start Limits bytes s.prefix p.rest
reached_longest start Limits bytes p s stuck = record {
  context = s.context;
  changes = p.changes;
  is_front = s.is_front;
  whole = s.whole;
  last = λ d found after more spelled right is.
      let again : step (position (reader_of s.context) p.changes (d ++ more)) ≡
      Some (position (reader_of after) (changes_with p.changes found) more) =
      step_again s.context p.changes d found after more spelled in
      let here : step (position (reader_of s.context) p.changes p.rest) ≡
      Some (position (reader_of after) (changes_with p.changes found) more) =
      subst (λ (l : List ℕ). step (position (reader_of s.context) p.changes l) ≡
      Some (position (reader_of after) (changes_with p.changes found) more)) (sym is) again in
      stuck (position (reader_of after) (changes_with p.changes found) more)
      (subst (λ (r : Reader). step (position r p.changes p.rest) ≡
      Some (position (reader_of after) (changes_with p.changes found) more)) (sym s.same) here) right;
}

pub same_front : (prefix rest other more : List ℕ) → rest ≡ more → prefix ++ rest ≡ other ++ more → prefix ≡ other
same_front prefix rest other more e w =
    let whole : prefix ++ rest ≡ other ++ rest = w ∙ ap (λ (l : List ℕ). other ++ l) (sym e) in
    let size : length prefix ≡ length other = omega (arith, ap length whole, length-append prefix rest, length-append other rest) in
    sym (take_at prefix rest (length prefix) refl) ∙ ap (take (length prefix)) whole ∙ take_at other rest (length prefix) (sym size)

-- there is one longest valid prefix
pub one_front : (start : List ℕ) (Limits : List ChangeValue → Type 0) → AreLimits Limits → (bytes prefix rest other more : List ℕ)
    → Longest start Limits bytes prefix rest → Longest start Limits bytes other more → prefix ≡ other
one_front start Limits are bytes prefix rest other more l k =
    let same : position (reader_of l.context) l.changes rest ≡ position (reader_of k.context) k.changes more =
    one_end_at start Limits are bytes (position (reader_of l.context) l.changes rest)
    (position (reader_of k.context) k.changes more) (longest_ends start Limits are bytes prefix rest l)
    (longest_ends start Limits are bytes other more k) in
    same_front prefix rest other more (ap (λ (p : Position). p.rest) same) (sym l.whole ∙ k.whole)
