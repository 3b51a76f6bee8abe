-- Edits that wait in tables while changes are taken, and the changes that they come from.
use Rattle.std.proofs.Common.{◌≡◌, ℕ, ◌+◌, ◌<◌, ◌≤◌, List, [], ◌∷◌, length, refl, ap, sym, ◌∙◌, subst, Bool, true, false, arith, suc, zero}
use Rattle.std.proofs.Common.{⊎_elim, inl, inr, Option, Some, None, length-append}
use Rattle.std.specs.Prelude.{◌==◌, ◌^◌, drop, get_or, replicate, if◌then◌else◌}
use Rattle.std.specs.Prelude.{◌++◌, ◌⊎◌, Contains}
use Rattle.std.specs.List.{All, count_by, sum_by}
use Rattle.std.proofs.lemmas.Bool.{eqb-true}
use Rattle.std.proofs.lemmas.Bool.Decides.{eqb_tells}
use Rattle.std.proofs.lemmas.List.Elements.{All-replicate, Contains-append_left, Contains-append_right}
use Rattle.std.proofs.lemmas.List.Sums.{sum_by-cons, sum_by-drop_more}
use Rattle.osm_model.specs.Change.{ChangeValue}
use Rattle.osm_model.specs.Content.{edits_by_changeset, edits_by_user, last_of}
use Rattle.osm_model.specs.Filter.{FilterValue}
use Rattle.osm_model.specs.declared.kind.Key.{Key}
use Rattle.osm_model.proofs.ContentLemmas.{edits_by_changeset-append, edits_by_user-append, last_of-append}
use Rattle.osm_mirror.specs.Mirror.{Counted, count_at}
use Rattle.osm_net.specs.Net.{IsOrderlyNet, NeedsEntry, NetEntry, NetValue, Takes, net_at, taken_at}
use Rattle.osm_net.proofs.NetLemmas.{taken_at-later_of}
use Rattle.osm_net.specs.Steps.Recent.{Collects, HasRoomIn, IsNumbered, NeedsCount, edits_in, edits_of, no_edits, one_edit}

-- ---- the edits of an entry are among all those of its number, so they have room in the counts

sum_by-part : {X : Type 0} (f : X → ℕ) (xs : List X) (i : ℕ) (d : X) → i < length xs → f (get_or xs i d) ≤ sum_by f xs
sum_by-part f [] i d below = omega arith
sum_by-part f (x ∷ xs) zero d below = let a = sum_by-cons f x xs in omega (arith, a)
sum_by-part f (x ∷ xs) (suc i) d below =
    let rest = sum_by-part f xs i d (omega (arith, below)) in let a = sum_by-cons f x xs in omega (arith, a, rest)

edits_in-own : (e : Counted) → edits_in e.0 e ≡ e.1
edits_in-own e = ⊎_elim (λ same. ap (λ (t : Bool). if t then e.1 else 0) same.0) (λ other. absurd (other.1 refl)) (eqb_tells e.0 e.0)

pub room_for_entry : (counts entries : List Counted) (i more : ℕ) (d : Counted) → i < length entries → HasRoomIn counts entries more
    → count_at counts (get_or entries i d).0 + (get_or entries i d).1 + more < 2 ^ 64
room_for_entry counts entries i more d below room =
    let e : Counted = get_or entries i d in
    let part : edits_in e.0 e ≤ edits_of entries e.0 = sum_by-part (edits_in e.0) entries i d below in
    let own = edits_in-own e in
    let all = room e.0 in
    omega (arith, part, own, all)

-- the entries below `i` were added to the counts
pub room_for_next : (old now entries : List Counted) (i : ℕ) (d : Counted) → i < length entries → Collects old entries now (drop i entries) no_edits 0
    → HasRoomIn old entries 0 → count_at now (get_or entries i d).0 + (get_or entries i d).1 < 2 ^ 64
room_for_next old now entries i d below p room =
    let e : Counted = get_or entries i d in
    let part = sum_by-drop_more (edits_in e.0) entries i d below in
    let own = edits_in-own e in
    let same = p.counted e.0 in
    let all = room e.0 in
    omega (arith, part, own, same, all)

-- no entry of a new table has edits
pub numbered-none : (many : ℕ) → All IsNumbered (replicate many (0, 0))
numbered-none many = All-replicate IsNumbered many (0, 0) (λ some. omega arith)

-- ---- edits that are collected

-- first some edits, then others
collects_more : (old entries now later new last : List Counted) (first second all : ℕ → ℕ) (n m total : ℕ)
    → Collects old entries now later first n → Collects now later new last second m
    → ((k : ℕ) → all k ≡ first k + second k) → total ≡ n + m → Collects old entries new last all total
collects_more old entries now later new last first second all n m total p q sum is = record {
  counted = λ k. (let a = p.counted k in let b = q.counted k in let c = sum k in omega (arith, a, b, c));
  kept = λ k. (let a = p.kept k in let b = q.kept k in omega (arith, a, b));
  grown = (let a = p.grown in let b = q.grown in omega (arith, a, b, is));
}

-- a number has edits, and there was no count of it before them
record IsNeeded (old : List Counted) (edits : ℕ → ℕ) : Type 0 where
  number : ℕ
  new : count_at old number ≡ 0
  come : 0 < edits number

count_needed : (old now entries : List Counted) (edits : ℕ → ℕ) (many : ℕ) → Collects old [] now entries edits many
    → NeedsCount now entries → IsNeeded old edits
count_needed old now entries edits many p need =
    let a = p.counted need.number in
    let b = p.kept need.number in
    let c = need.new in
    let d = need.waiting in
    record { number = need.number; new = omega (arith, b, c); come = omega (arith, a, b, c, d) }

-- ---- what was counted is among the elements

record IsAmong {X : Type 0} (p : X → Bool) (xs : List X) : Type 0 where
  it : X
  among : Contains xs it
  passes : p it ≡ true

among_counted : {X : Type 0} (p : X → Bool) (xs : List X) → 0 < count_by p xs → IsAmong p xs
among_counted p [] some = absurd (omega arith)
among_counted p (x ∷ xs) some = by_test (p x) refl (among_counted p xs)
  where
    by_test : (t : Bool) → p x ≡ t → (0 < count_by p xs → IsAmong p xs) → IsAmong p (x ∷ xs)
    by_test true is later = record { it = x; among = (0, omega arith, refl); passes = is }
    by_test false is later =
        let sum = sum_by-cons (λ y. if p y then 1 else 0) x xs in
        let first : ◌≡◌ {A = ℕ} (if p x then 1 else 0) 0 = ap (λ (t : Bool). if t then 1 else 0) is in
        let rest : IsAmong p xs = later (omega (arith, some, sum, first)) in
        record { it = rest.it; among = Contains-append_right (x ∷ []) xs rest.it rest.among; passes = rest.passes }

-- ---- changes taken with two tables

-- the objects took the changes; the edits of users are in the counts or wait in table `u`, those of changesets in `s`
pub record AreTaken (f : FilterValue) (old now : NetValue) (u s : List Counted) (changes : List ChangeValue) : Type 0 where
  pub objects : (k : Key) → net_at now.objects k ≡ taken_at f (net_at old.objects k) (last_of changes k)
  pub users : Collects old.users [] now.users u (edits_by_user changes) (length changes)
  pub changesets : Collects old.changesets [] now.changesets s (edits_by_changeset changes) (length changes)

module _ (f : FilterValue) (old now : NetValue) (u s : List Counted) (changes : List ChangeValue) (p : AreTaken f old now u s changes) where
  pub one_taken : (c : ChangeValue) (new : NetValue) (v t : List Counted)
      → ((k : Key) → net_at new.objects k ≡ taken_at f (net_at now.objects k) (last_of (c ∷ []) k))
      → Collects now.users u new.users v (one_edit c.meta.uid) 1
      → Collects now.changesets s new.changesets t (one_edit c.meta.changeset) 1
      → AreTaken f old new v t (changes ++ c ∷ [])
  one_taken c new v t objects users changesets = record {
    objects = λ k. objects k ∙ (ap (λ (o : Option (Option ChangeValue)). taken_at f o (last_of (c ∷ []) k)) (p.objects k)
        ∙ (taken_at-later_of f (net_at old.objects k) (last_of changes k) (last_of (c ∷ []) k)
        ∙ ap (taken_at f (net_at old.objects k)) (sym (last_of-append changes (c ∷ []) k))));
    users = collects_more old.users [] now.users u new.users v (edits_by_user changes) (one_edit c.meta.uid) (edits_by_user (changes ++ c ∷ []))
        (length changes) 1 (length (changes ++ c ∷ [])) p.users users
        (λ n. (let a = edits_by_user-append changes (c ∷ []) n in omega (arith, a))) (length-append changes (c ∷ []));
    changesets = collects_more old.changesets [] now.changesets s new.changesets t (edits_by_changeset changes) (one_edit c.meta.changeset)
        (edits_by_changeset (changes ++ c ∷ [])) (length changes) 1 (length (changes ++ c ∷ [])) p.changesets changesets
        (λ n. (let a = edits_by_changeset-append changes (c ∷ []) n in omega (arith, a))) (length-append changes (c ∷ []));
  }

  -- the edits of both tables went into the counts
  pub all_taken : (new : NetValue) → IsOrderlyNet new → new.objects ≡ now.objects → Collects now.users u new.users [] no_edits 0
      → Collects now.changesets s new.changesets [] no_edits 0 → Takes f old changes new
  all_taken new orderly same users changesets = record {
    orderly = orderly;
    objects = λ k. ap (λ (es : List NetEntry). net_at es k) same ∙ p.objects k;
    users = λ uid. (let a = p.users.counted uid in let b = users.counted uid in omega (arith, a, b));
    changesets = λ id. (let a = p.changesets.counted id in let b = changesets.counted id in omega (arith, a, b));
  }

  -- ---- refusals, with more changes after these

  module _ (after : List ChangeValue) where
    pub user_needed : NeedsCount now.users u → NeedsEntry old (changes ++ after)
    user_needed need =
        let it = count_needed old.users now.users u (edits_by_user changes) (length changes) p.users need in
        let by = among_counted (λ (c : ChangeValue). c.meta.uid == it.number) changes it.come in
        let new : count_at old.users by.it.meta.uid ≡ 0 =
        subst (λ (n : ℕ). count_at old.users n ≡ 0) (sym (eqb-true by.it.meta.uid it.number by.passes)) it.new in
        record { change = by.it; among = Contains-append_left changes after by.it by.among; new = inl new }

    pub changeset_needed : NeedsCount now.changesets s → NeedsEntry old (changes ++ after)
    changeset_needed need =
        let it = count_needed old.changesets now.changesets s (edits_by_changeset changes) (length changes) p.changesets need in
        let by = among_counted (λ (c : ChangeValue). c.meta.changeset == it.number) changes it.come in
        let new : count_at old.changesets by.it.meta.changeset ≡ 0 =
        subst (λ (n : ℕ). count_at old.changesets n ≡ 0) (sym (eqb-true by.it.meta.changeset it.number by.passes)) it.new in
        record { change = by.it; among = Contains-append_left changes after by.it by.among; new = inr (inl new) }

  pub one_needed : (c : ChangeValue) (after : List ChangeValue)
      → (NeedsCount now.users u) ⊎ (NeedsCount now.changesets s) ⊎ (net_at now.objects c.key ≡ None)
      → NeedsEntry old (changes ++ c ∷ after)
  one_needed c after (inl user) = user_needed (c ∷ after) user
  one_needed c after (inr (inl changeset)) = changeset_needed (c ∷ after) changeset
  one_needed c after (inr (inr object)) = record {
    change = c;
    among = Contains-append_right changes (c ∷ after) c (0, omega arith, refl);
    new = inr (inr (before_none (net_at old.objects c.key) (last_of changes c.key) (sym (p.objects c.key) ∙ object)));
  }
    where
      before_none : (x : Option (Option ChangeValue)) (y : Option ChangeValue) → taken_at f x y ≡ None → x ≡ None
      before_none x None is = is
      before_none x (Some y) is = absurd (cc)
