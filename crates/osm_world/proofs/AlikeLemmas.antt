-- A state determines its mirror, what is held, and its view.
use Rattle.std.proofs.Common.{◌≡◌, ℕ, ◌<◌, ◌≤◌, List, [], ◌∷◌, map, refl, ap, sym, ◌∙◌, Bool, true, false, arith, Some, None, Option, inl, inr}
use Rattle.std.specs.Prelude.{if◌then◌else◌, IsSome, Contains, ◌↔◌}
use Rattle.std.specs.BTreeMap.{is_at}
use Rattle.std.specs.List.Sorted.{IsStrictlySortedBy}
use Rattle.std.specs.Map.{keys_of, lookup}
use Rattle.std.specs.Ordering.{eq_by_cmp, is_eq, nat_cmp}
use Rattle.std.specs.declared.cmp.Ordering.{Ordering}
use Rattle.std.specs.declared.cmp.Ordering.TheVariants.{Less, Equal, Greater}
use Rattle.std.proofs.lemmas.Bool.{cases_lt}
use Rattle.std.proofs.lemmas.Cmp.{eq_by_cmp_equiv, nat_cmp_total}
use Rattle.std.proofs.lemmas.Map.Lookups.{exact_unsigned}
use Rattle.std.proofs.lemmas.Map.Views.{Contains-keys_from_lookup, IsSome-lookup_from_Contains}
use Rattle.osm_model.specs.Filter.{FilterValue}
use Rattle.osm_mirror.specs.Mirror.{MirrorValue}
use Rattle.osm_follow.specs.Follower.{FollowerValue, IsState, held_at}
use Rattle.osm_publisher.specs.Published.{PublishedValue, changes_after, changes_up_to, sequence_at, time_at}
use Rattle.osm_follow.specs.Reach.{Reaches}
use Rattle.osm_follow.specs.View.{IsView, ViewValue}
use Rattle.osm_world.specs.Alike.{AreAlike}
use Rattle.osm_mirror.proofs.SameLemmas.{one_mirror, same_entries}
use Rattle.osm_follow.proofs.ReachLemmas.{reaches_same}
use Rattle.osm_world.proofs.ReachLemmas.{one_reach}

-- ---- numbers that rise

units : List ℕ → List (ℕ × Unit {0})
units xs = map (λ x. (x, tt)) xs

keys-units : (xs : List ℕ) → keys_of (units xs) ≡ xs
unfolding units
keys-units [] = refl
keys-units (x ∷ xs) = ap (λ (ys : List ℕ). x ∷ ys) (keys-units xs)

exact_by : (x y : ℕ) → eq_by_cmp nat_cmp x y ≡ true → x ≡ y
exact_by x y e = exact_unsigned x y (equal_of (nat_cmp x y) e)
  where
    equal_of : (o : Ordering) → is_eq o ≡ true → o ≡ Equal
    equal_of Less e = cc
    equal_of Equal e = refl
    equal_of Greater e = cc

unit_found : (o p : Option (Unit {0})) → (IsSome o → IsSome p) → (IsSome p → IsSome o) → o ≡ p
unit_found None None f g = refl
unit_found None (Some b) f g = absurd (let bad : false ≡ true = g refl in cc)
unit_found (Some a) None f g = absurd (let bad : false ≡ true = f refl in cc)
unit_found (Some a) (Some b) f g = refl

pub one_rising : (xs ys : List ℕ) → IsStrictlySortedBy nat_cmp xs → IsStrictlySortedBy nat_cmp ys → ((j : ℕ) → Contains xs j ↔ Contains ys j) → xs ≡ ys
one_rising xs ys s t same =
    let all : units xs ≡ units ys = same_entries nat_cmp nat_cmp_total exact_unsigned (units xs) (units ys)
    (rw (keys-units xs) s) (rw (keys-units ys) t) (λ q. unit_found (lookup (is_at (nat_cmp q)) (units xs))
    (lookup (is_at (nat_cmp q)) (units ys)) (crosses xs ys q (same q).0) (crosses ys xs q (same q).1)) in
    sym (keys-units xs) ∙ (ap keys_of all ∙ keys-units ys)
  where
    crosses : (us vs : List ℕ) (q : ℕ) → (Contains us q → Contains vs q)
        → IsSome (lookup (is_at (nat_cmp q)) (units us)) → IsSome (lookup (is_at (nat_cmp q)) (units vs))
    crosses us vs q over has =
        let there : Contains (keys_of (units us)) q = Contains-keys_from_lookup {eq = eq_by_cmp nat_cmp} exact_by q (units us) has in
        let moved : Contains (keys_of (units vs)) q = rw (keys-units vs) (over (rw (keys-units us) at there)) in
        IsSome-lookup_from_Contains {eq = eq_by_cmp nat_cmp} (eq_by_cmp_equiv nat_cmp_total) q (units vs) moved

-- ---- a state, its follower and its view

abbrev pub Same : (ℕ → Bool) → (ℕ → Bool) → Type 0
Same acc acd = (j : ℕ) → acc j ≡ acd j

pub one_number : (acc acd : ℕ → Bool) (start n m : ℕ) → Same acc acd → Reaches acc start n → Reaches acd start m → n ≡ m
one_number acc acd start n m same r s = one_reach acd start n m (reaches_same acc acd start n (λ j above. same j) r) s

pub state_alike : (filter : FilterValue) (ps : List PublishedValue) (base start : ℕ) (acc acd : ℕ → Bool) (f g : FollowerValue)
    → Same acc acd → IsState filter ps base start acc f → IsState filter ps base start acd g → AreAlike f g
state_alike filter ps base start acc acd f g same s t =
    let number : f.number ≡ g.number = one_number acc acd start f.number g.number same s.reach t.reach in
    let based : f.base ≡ g.base = s.base_is ∙ sym t.base_is in
    record {
      filter = s.filter_is ∙ sym t.filter_is;
      number = number;
      base = based;
      time = s.follows.time ∙ (ap (time_at ps) number ∙ sym t.follows.time);
      mirror = one_mirror filter (changes_up_to ps g.number) (changes_after ps g.base g.number) f.mirror g.mirror
          (rw (number, based, s.filter_is) at s.follows.mirror) (rw t.filter_is at t.follows.mirror);
      held = λ j. elim (cases_lt f.number j) [
        | inl above ↦ s.held j above ∙ (ap (λ b. if b then Some (sequence_at ps j) else None) (same j) ∙ sym (t.held j (omega arith)))
        | inr below ↦ none_held f s j below ∙ sym (none_held g t j (omega arith))
      ];
    }
  where
    none_held : {ac : ℕ → Bool} (x : FollowerValue) → IsState filter ps base start ac x → (j : ℕ) → j ≤ x.number → held_at x j ≡ None
    none_held x is j below = by_case (held_at x j) refl
      where
        by_case : (o : Option PublishedValue) → held_at x j ≡ o → o ≡ None
        by_case None e = refl
        by_case (Some p) e = absurd (let past = (is.follows.held j p e).0 in omega arith)

made_view : ℕ → ℕ → Option ℕ → MirrorValue → List ℕ → ViewValue
made_view number base time mirror held = record { number = number; base = base; time = time; mirror = mirror; held = held }

pub one_view : (filter : FilterValue) (ps : List PublishedValue) (base start : ℕ) (acc acd : ℕ → Bool) (v w : ViewValue) → Same acc acd
    → IsView filter ps base start acc v → IsView filter ps base start acd w → v ≡ w
unfolding made_view
one_view filter ps base start acc acd v w same s t =
    let number : v.number ≡ w.number = one_number acc acd start v.number w.number same s.reach t.reach in
    let time : v.time ≡ w.time = s.time ∙ (ap (time_at ps) number ∙ sym t.time) in
    let mirror : v.mirror ≡ w.mirror = one_mirror filter (changes_up_to ps w.number) (changes_after ps base w.number) v.mirror
    w.mirror (rw number at s.mirror) t.mirror in
    let based : v.base ≡ w.base = s.base_is ∙ sym t.base_is in
    let held : v.held ≡ w.held = one_rising v.held w.held s.rising t.rising (λ j. (
      λ has. (let both = (s.held j).0 has in (t.held j).1 (rw number at both.0, sym (same j) ∙ both.1)),
      λ has. (let both = (t.held j).0 has in (s.held j).1 (rw number both.0, same j ∙ both.1)),
    )) in
    ap (λ (x : ℕ). made_view x v.base v.time v.mirror v.held) number
    ∙ (ap (λ (x : ℕ). made_view w.number x v.time v.mirror v.held) based
    ∙ (ap (λ (x : Option ℕ). made_view w.number w.base x v.mirror v.held) time
    ∙ (ap (λ (x : MirrorValue). made_view w.number w.base w.time x v.held) mirror
    ∙ ap (λ (x : List ℕ). made_view w.number w.base w.time w.mirror x) held)))
