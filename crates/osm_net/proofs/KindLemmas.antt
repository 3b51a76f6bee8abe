-- Entries of one kind among those of all kinds, and an entry put among them.
use Rattle.std.proofs.Common.{◌≡◌, ◌⊎◌, inl, inr, ⊎_elim, List, [], ◌∷◌, ◌++◌, refl, ap, sym, ◌∙◌, subst, Bool, true, false, Option, Some, None, cond}
use Rattle.std.proofs.Common.{append-nil}
use Rattle.std.specs.Prelude.{ℤ, IsSome, if◌then◌else◌, Result, Ok, Err, OnOk, OnErr}
use Rattle.std.specs.BTreeMap.{insert_entry, is_at}
use Rattle.std.specs.List.{AllByRecursion}
use Rattle.std.specs.List.Sorted.{IsStrictlySortedBy}
use Rattle.std.specs.Map.{keys_of, lookup}
use Rattle.std.specs.Ordering.{int_cmp, is_eq, match_ordering}
use Rattle.std.specs.declared.cmp.Ordering.{Ordering}
use Rattle.std.specs.declared.cmp.Ordering.TheVariants.{Less, Equal, Greater}
use Rattle.std.proofs.lemmas.Map.Entries.{lookup_head, lookup_tail}
use Rattle.osm_model.specs.Change.{ChangeValue}
use Rattle.osm_model.specs.KeyOrder.{key_cmp, same_key}
use Rattle.osm_model.specs.declared.kind.Key.{Key}
use Rattle.osm_model.specs.declared.kind.Kind.{Kind}
use Rattle.osm_model.specs.declared.kind.Kind.TheVariants.{Node, Way, Relation}
use Rattle.osm_model.proofs.ContentLemmas.{one_key, same_key-only, same_key-refl}
use Rattle.osm_mirror.proofs.MirrorLemmas.{rising-nil}
use Rattle.osm_net.specs.Net.{AreKeysRising, HasNewKey, HasOwnKey, LeavesObject, NetEntry, joined_at, net_at}
use Rattle.osm_net.specs.Steps.Entries.{AreEntries, IdEntry, key_of, of_kind, of_kinds}
use Rattle.osm_net.proofs.NetLemmas.{entries_put}
use Rattle.osm_net.proofs.JoinedLemmas.{same_key-turned}

-- ---- an entry put into a map, and a look-up after it

module _ (k : Key) (z : Option ChangeValue) where
  put_here : (es : List NetEntry) → net_at (insert_entry key_cmp es k z) k ≡ Some z
  put_here [] = lookup_head (is_at (key_cmp k)) (k, z) [] (same_key-refl k)
  put_here (e ∷ es) = by_order (key_cmp k e.0) refl (put_here es)
    where
      by_order : (o : Ordering) → key_cmp k e.0 ≡ o → net_at (insert_entry key_cmp es k z) k ≡ Some z
          → net_at (match_ordering o ((k, z) ∷ e ∷ es) ((e.0, z) ∷ es) (e ∷ insert_entry key_cmp es k z)) k ≡ Some z
      by_order Less o rest = lookup_head (is_at (key_cmp k)) (k, z) (e ∷ es) (same_key-refl k)
      by_order Equal o rest = lookup_head (is_at (key_cmp k)) (e.0, z) es (ap is_eq o)
      by_order Greater o rest = lookup_tail (is_at (key_cmp k)) e (insert_entry key_cmp es k z) (ap is_eq o) ∙ rest

  put_there : (q : Key) → same_key k q ≡ false → (es : List NetEntry) → net_at (insert_entry key_cmp es k z) q ≡ net_at es q
  put_there q other [] = lookup_tail (is_at (key_cmp q)) (k, z) [] (same_key-turned k q other)
  put_there q other (e ∷ es) = by_order (key_cmp k e.0) refl (put_there q other es)
    where
      by_order : (o : Ordering) → key_cmp k e.0 ≡ o → net_at (insert_entry key_cmp es k z) q ≡ net_at es q
          → net_at (match_ordering o ((k, z) ∷ e ∷ es) ((e.0, z) ∷ es) (e ∷ insert_entry key_cmp es k z)) q ≡ net_at (e ∷ es) q
      by_order Less o rest = lookup_tail (is_at (key_cmp q)) (k, z) (e ∷ es) (same_key-turned k q other)
      by_order Equal o rest =
          let past : is_at (key_cmp q) e.0 ≡ false = subst (λ (p : Key). same_key q p ≡ false) (one_key k e.0 o) (same_key-turned k q other) in
          lookup_tail (is_at (key_cmp q)) (e.0, z) es past ∙ sym (lookup_tail (is_at (key_cmp q)) e es past)
      by_order Greater o rest = ap (λ (found : Option (Option ChangeValue)). cond (is_at (key_cmp q) e.0) (Some e.1) found) rest

  pub put_at : (es : List NetEntry) (q : Key) → net_at (insert_entry key_cmp es k z) q ≡ (if same_key k q then Some z else net_at es q)
  put_at es q = by_test (same_key k q) refl
    where
      by_test : (b : Bool) → same_key k q ≡ b → net_at (insert_entry key_cmp es k z) q ≡ (if b then Some z else net_at es q)
      by_test true is = subst (λ (p : Key). net_at (insert_entry key_cmp es k z) p ≡ Some z) (same_key-only k q is) (put_here es)
      by_test false is = put_there q is es

-- an entry is put; after a refusal, which comes at a new key alone, nothing has changed
pub record IsPut {E : Type 0} (r : Result (Unit {0}) E) (old new : List NetEntry) (k : Key) (z : Option ChangeValue) : Type 0 where
  pub put : OnOk r (new ≡ insert_entry key_cmp old k z)
  pub refused : OnErr r (net_at old k ≡ None)
  pub unchanged : OnErr r (new ≡ old)

module _ {E : Type 0} {r : Result (Unit {0}) E} {old new : List NetEntry} {k : Key} {z : Option ChangeValue} (p : IsPut r old new k z) where
  pub kept_put : HasOwnKey (k, z) → LeavesObject (k, z) → AreEntries old → AreEntries new
  kept_put own left all = by_result r p.put p.unchanged
    where
      by_result : (s : Result (Unit {0}) E) → OnOk s (new ≡ insert_entry key_cmp old k z) → OnErr s (new ≡ old) → AreEntries new
      by_result (Ok done) is same = rw is (entries_put old k z own left all)
      by_result (Err e) is same = rw same all

  pub found_put : OnOk r ((q : Key) → net_at new q ≡ (if same_key k q then Some z else net_at old q))
  found_put = by_result r p.put
    where
      by_result : (s : Result (Unit {0}) E) → OnOk s (new ≡ insert_entry key_cmp old k z)
          → OnOk s ((q : Key) → net_at new q ≡ (if same_key k q then Some z else net_at old q))
      by_result (Ok done) is = λ q. rw is (put_at k z old q)
      by_result (Err e) is = tt

-- ---- an entry put into the list of its kind

-- keys of one kind have the order of their ids
one_kind : (kind : Kind) (a b : ℤ) → key_cmp (key_of kind a) (key_of kind b) ≡ int_cmp a b
one_kind Node a b = refl
one_kind Way a b = refl
one_kind Relation a b = refl

-- an entry goes to its place among those of its kind, if it comes before all others
module _ (kind : Kind) (id : ℤ) (z : Option ChangeValue) (rest : List NetEntry)
    (before : insert_entry key_cmp rest (key_of kind id) z ≡ (key_of kind id, z) ∷ rest) where
  kind_put : (es : List IdEntry) → of_kind kind (insert_entry int_cmp es id z) ++ rest ≡ insert_entry key_cmp (of_kind kind es ++ rest) (key_of kind id) z
  kind_put [] = sym before
  kind_put (e ∷ es) =
      by_order (int_cmp id e.0) (kind_put es)
      ∙ ap (λ (o : Ordering). match_ordering o ((key_of kind id, z) ∷ of_kind kind (e ∷ es) ++ rest) ((key_of kind e.0, z) ∷ of_kind kind es ++ rest)
      ((key_of kind e.0, e.1) ∷ insert_entry key_cmp (of_kind kind es ++ rest) (key_of kind id) z)) (sym (one_kind kind id e.0))
    where
      by_order : (o : Ordering) → of_kind kind (insert_entry int_cmp es id z) ++ rest ≡ insert_entry key_cmp (of_kind kind es ++ rest) (key_of kind id) z
          → of_kind kind (match_ordering o ((id, z) ∷ e ∷ es) ((e.0, z) ∷ es) (e ∷ insert_entry int_cmp es id z)) ++ rest
          ≡ match_ordering o ((key_of kind id, z) ∷ of_kind kind (e ∷ es) ++ rest) ((key_of kind e.0, z) ∷ of_kind kind es ++ rest)
          ((key_of kind e.0, e.1) ∷ insert_entry key_cmp (of_kind kind es ++ rest) (key_of kind id) z)
      by_order Less later = refl
      by_order Equal later = refl
      by_order Greater later = ap (λ (ds : List NetEntry). (key_of kind e.0, e.1) ∷ ds) later

-- a key of a later kind goes past those of an earlier one
past_kind : (kind : Kind) (k : Key) (z : Option ChangeValue) (rest : List NetEntry) → ((id : ℤ) → key_cmp k (key_of kind id) ≡ Greater)
    → (es : List IdEntry) → of_kind kind es ++ insert_entry key_cmp rest k z ≡ insert_entry key_cmp (of_kind kind es ++ rest) k z
past_kind kind k z rest later [] = refl
past_kind kind k z rest later (e ∷ es) =
    ap (λ (ds : List NetEntry). (key_of kind e.0, e.1) ∷ ds) (past_kind kind k z rest later es)
    ∙ ap (λ (o : Ordering). match_ordering o ((k, z) ∷ of_kind kind (e ∷ es) ++ rest) ((key_of kind e.0, z) ∷ of_kind kind es ++ rest)
    ((key_of kind e.0, e.1) ∷ insert_entry key_cmp (of_kind kind es ++ rest) k z)) (sym (later e.0))

module _ (id : ℤ) (z : Option ChangeValue) (ns ws rs : List IdEntry) where
  node_put : of_kinds (insert_entry int_cmp ns id z) ws rs ≡ insert_entry key_cmp (of_kinds ns ws rs) (key_of Node id) z
  node_put = kind_put Node id z (of_kind Way ws ++ of_kind Relation rs) (before ws rs) ns
    where
      before : (ws rs : List IdEntry) → insert_entry key_cmp (of_kind Way ws ++ of_kind Relation rs) (key_of Node id) z
          ≡ (key_of Node id, z) ∷ (of_kind Way ws ++ of_kind Relation rs)
      before [] [] = refl
      before [] (r ∷ rs) = refl
      before (w ∷ ws) rs = refl

  way_put : of_kinds ns (insert_entry int_cmp ws id z) rs ≡ insert_entry key_cmp (of_kinds ns ws rs) (key_of Way id) z
  way_put = ap (λ (ds : List NetEntry). of_kind Node ns ++ ds) (kind_put Way id z (of_kind Relation rs) (before rs) ws)
      ∙ past_kind Node (key_of Way id) z (of_kind Way ws ++ of_kind Relation rs) (λ n. refl) ns
    where
      before : (rs : List IdEntry) → insert_entry key_cmp (of_kind Relation rs) (key_of Way id) z ≡ (key_of Way id, z) ∷ of_kind Relation rs
      before [] = refl
      before (r ∷ rs) = refl

  relation_put : of_kinds ns ws (insert_entry int_cmp rs id z) ≡ insert_entry key_cmp (of_kinds ns ws rs) (key_of Relation id) z
  relation_put =
      let last : of_kind Relation (insert_entry int_cmp rs id z) ≡ insert_entry key_cmp (of_kind Relation rs) (key_of Relation id) z =
      sym (append-nil (of_kind Relation (insert_entry int_cmp rs id z))) ∙ (kind_put Relation id z [] refl rs
      ∙ ap (λ (ds : List NetEntry). insert_entry key_cmp ds (key_of Relation id) z) (append-nil (of_kind Relation rs))) in
      ap (λ (ds : List NetEntry). of_kind Node ns ++ (of_kind Way ws ++ ds)) last
      ∙ (ap (λ (ds : List NetEntry). of_kind Node ns ++ ds) (past_kind Way (key_of Relation id) z (of_kind Relation rs) (λ w. refl) ws)
      ∙ past_kind Node (key_of Relation id) z (of_kind Way ws ++ of_kind Relation rs) (λ n. refl) ns)

-- ---- an entry looked up among those of all kinds

net_at-append : (xs ys : List NetEntry) (k : Key) → net_at (xs ++ ys) k ≡ joined_at (net_at ys k) (net_at xs k)
net_at-append [] ys k = refl
net_at-append (x ∷ xs) ys k = by_test (is_at (key_cmp k) x.0) (net_at-append xs ys k)
  where
    by_test : (b : Bool) → net_at (xs ++ ys) k ≡ joined_at (net_at ys k) (net_at xs k)
        → cond b (Some x.1) (net_at (xs ++ ys) k) ≡ joined_at (net_at ys k) (cond b (Some x.1) (net_at xs k))
    by_test true rest = refl
    by_test false rest = rest

-- a key of that kind
at_kind : (kind : Kind) (id : ℤ) (es : List IdEntry) → net_at (of_kind kind es) (key_of kind id) ≡ lookup (is_at (int_cmp id)) es
at_kind kind id [] = refl
at_kind kind id (e ∷ es) = λ i. cond (is_eq (one_kind kind id e.0 i)) (Some e.1) (at_kind kind id es i)

-- a key of another kind
at_other : (kind : Kind) (k : Key) → ((id : ℤ) → is_at (key_cmp k) (key_of kind id) ≡ false) → (es : List IdEntry) → net_at (of_kind kind es) k ≡ None
at_other kind k other [] = refl
at_other kind k other (e ∷ es) = lookup_tail (is_at (key_cmp k)) (key_of kind e.0, e.1) (of_kind kind es) (other e.0) ∙ at_other kind k other es

none_in_both : (xs ys : List NetEntry) (k : Key) → net_at xs k ≡ None → net_at ys k ≡ None → net_at (xs ++ ys) k ≡ None
none_in_both xs ys k first second = net_at-append xs ys k ∙ (λ i. joined_at (second i) (first i))

none_in_all : (ns ws rs : List IdEntry) (k : Key) → net_at (of_kind Node ns) k ≡ None → net_at (of_kind Way ws) k ≡ None
    → net_at (of_kind Relation rs) k ≡ None → net_at (of_kinds ns ws rs) k ≡ None
none_in_all ns ws rs k n w r =
    none_in_both (of_kind Node ns) (of_kind Way ws ++ of_kind Relation rs) k n (none_in_both (of_kind Way ws) (of_kind Relation rs) k w r)

module _ (id : ℤ) (ns ws rs : List IdEntry) where
  no_node : lookup (is_at (int_cmp id)) ns ≡ None → net_at (of_kinds ns ws rs) (key_of Node id) ≡ None
  no_node none = none_in_all ns ws rs (key_of Node id) (at_kind Node id ns ∙ none)
      (at_other Way (key_of Node id) (λ w. refl) ws) (at_other Relation (key_of Node id) (λ r. refl) rs)

  no_way : lookup (is_at (int_cmp id)) ws ≡ None → net_at (of_kinds ns ws rs) (key_of Way id) ≡ None
  no_way none = none_in_all ns ws rs (key_of Way id) (at_other Node (key_of Way id) (λ n. refl) ns)
      (at_kind Way id ws ∙ none) (at_other Relation (key_of Way id) (λ r. refl) rs)

  no_relation : lookup (is_at (int_cmp id)) rs ≡ None → net_at (of_kinds ns ws rs) (key_of Relation id) ≡ None
  no_relation none = none_in_all ns ws rs (key_of Relation id) (at_other Node (key_of Relation id) (λ n. refl) ns)
      (at_other Way (key_of Relation id) (λ w. refl) ws) (at_kind Relation id rs ∙ none)

-- ---- a put into the entries of a kind, seen among those of all kinds

module _ {E : Type 0} (r : Result (Unit {0}) E) (k : Key) (z : Option ChangeValue) (es new : List IdEntry)
    (put : OnOk r (new ≡ insert_entry int_cmp es k.id z)) (refused : OnErr r (lookup (is_at (int_cmp k.id)) es ≡ None))
    (unchanged : OnErr r (new ≡ es)) where
  put_among : (all : List IdEntry → List NetEntry) (kind : Kind) → k.kind ≡ kind
      → all (insert_entry int_cmp es k.id z) ≡ insert_entry key_cmp (all es) (key_of kind k.id) z
      → (lookup (is_at (int_cmp k.id)) es ≡ None → net_at (all es) (key_of kind k.id) ≡ None) → IsPut r (all es) (all new) k z
  put_among all kind is here none =
      subst (λ (q : Kind). IsPut r (all es) (all new) (key_of q k.id) z) (sym is) (by_result r put refused unchanged)
    where
      by_result : (s : Result (Unit {0}) E) → OnOk s (new ≡ insert_entry int_cmp es k.id z) → OnErr s (lookup (is_at (int_cmp k.id)) es ≡ None)
          → OnErr s (new ≡ es) → IsPut s (all es) (all new) (key_of kind k.id) z
      by_result (Ok done) now old same = record { put = ap all now ∙ here; refused = tt; unchanged = tt }
      by_result (Err e) now old same = record { put = tt; refused = none old; unchanged = ap all same }

  pub put_node : (ws rs : List IdEntry) → k.kind ≡ Node → IsPut r (of_kinds es ws rs) (of_kinds new ws rs) k z
  put_node ws rs is = put_among (λ ns. of_kinds ns ws rs) Node is (node_put k.id z es ws rs) (no_node k.id es ws rs)

  pub put_way : (ns rs : List IdEntry) → k.kind ≡ Way → IsPut r (of_kinds ns es rs) (of_kinds ns new rs) k z
  put_way ns rs is = put_among (λ ws. of_kinds ns ws rs) Way is (way_put k.id z ns es rs) (no_way k.id ns es rs)

  pub put_relation : (ns ws : List IdEntry) → k.kind ≡ Relation → IsPut r (of_kinds ns ws es) (of_kinds ns ws new) k z
  put_relation ns ws is = put_among (λ rs. of_kinds ns ws rs) Relation is (relation_put k.id z ns ws es) (no_relation k.id ns ws es)

-- ---- the entries of all kinds, put after others kind by kind

joined_both : (o : Option (Option ChangeValue)) (xs ys : List NetEntry) (k : Key) → (net_at xs k ≡ None) ⊎ (net_at ys k ≡ None)
    → joined_at (joined_at o (net_at xs k)) (net_at ys k) ≡ joined_at o (net_at (xs ++ ys) k)
joined_both o xs ys k one = by_found (net_at xs k) (net_at ys k) one ∙ ap (joined_at o) (sym (net_at-append xs ys k))
  where
    by_found : (x y : Option (Option ChangeValue)) → (x ≡ None) ⊎ (y ≡ None) → joined_at (joined_at o x) y ≡ joined_at o (joined_at y x)
    by_found None None one = refl
    by_found None (Some y) one = refl
    by_found (Some x) None one = refl
    by_found (Some x) (Some y) one = absurd (⊎_elim (λ (a : Some x ≡ None). cc) (λ (b : Some y ≡ None). cc) one)

-- no key is of two kinds
one_kind_alone : (ns ws rs : List IdEntry) (kind : Kind) (id : ℤ) → (let k : Key = key_of kind id in
    ((net_at (of_kind Node ns) k ≡ None) ⊎ (net_at (of_kind Way ws ++ of_kind Relation rs) k ≡ None))
    × ((net_at (of_kind Way ws) k ≡ None) ⊎ (net_at (of_kind Relation rs) k ≡ None)))
one_kind_alone ns ws rs Node id =
    let w = at_other Way (key_of Node id) (λ i. refl) ws in
    (inr (none_in_both (of_kind Way ws) (of_kind Relation rs) (key_of Node id) w (at_other Relation (key_of Node id) (λ i. refl) rs)), inl w)
one_kind_alone ns ws rs Way id = (inl (at_other Node (key_of Way id) (λ i. refl) ns), inr (at_other Relation (key_of Way id) (λ i. refl) rs))
one_kind_alone ns ws rs Relation id =
    (inl (at_other Node (key_of Relation id) (λ i. refl) ns), inl (at_other Way (key_of Relation id) (λ i. refl) ws))

joined_kinds : (ns ws rs : List IdEntry) (o : Option (Option ChangeValue)) (k : Key)
    → joined_at (joined_at (joined_at o (net_at (of_kind Node ns) k)) (net_at (of_kind Way ws) k)) (net_at (of_kind Relation rs) k)
    ≡ joined_at o (net_at (of_kinds ns ws rs) k)
joined_kinds ns ws rs o k =
    let alone = one_kind_alone ns ws rs k.kind k.id in
    joined_both (joined_at o (net_at (of_kind Node ns) k)) (of_kind Way ws) (of_kind Relation rs) k alone.1
    ∙ joined_both o (of_kind Node ns) (of_kind Way ws ++ of_kind Relation rs) k alone.0

joined_none : (x y : Option (Option ChangeValue)) → joined_at x y ≡ None → x ≡ None
joined_none x None none = none
joined_none x (Some z) none = absurd (cc)

joined_some : (x y : Option (Option ChangeValue)) → IsSome x → IsSome (joined_at x y)
joined_some x None some = some
joined_some x (Some z) some = refl

some_last : (x y : Option (Option ChangeValue)) → IsSome y → IsSome (joined_at x y)
some_last x None some = absurd (cc)
some_last x (Some z) some = refl

in_first : (xs ys : List NetEntry) (k : Key) → IsSome (net_at xs k) → IsSome (net_at (xs ++ ys) k)
in_first xs ys k some = subst IsSome (sym (net_at-append xs ys k)) (some_last (net_at ys k) (net_at xs k) some)

in_second : (xs ys : List NetEntry) (k : Key) → IsSome (net_at ys k) → IsSome (net_at (xs ++ ys) k)
in_second xs ys k some = subst IsSome (sym (net_at-append xs ys k)) (joined_some (net_at ys k) (net_at xs k) some)

module _ (ns ws rs : List IdEntry) (old : List NetEntry) where
  pub new_node : HasNewKey old (of_kind Node ns) → HasNewKey old (of_kinds ns ws rs)
  new_node h = record { key = h.key; new = h.new; there = in_first (of_kind Node ns) (of_kind Way ws ++ of_kind Relation rs) h.key h.there }

  module _ (more : List NetEntry) (nodes : (k : Key) → net_at more k ≡ joined_at (net_at old k) (net_at (of_kind Node ns) k)) where
    pub new_way : HasNewKey more (of_kind Way ws) → HasNewKey old (of_kinds ns ws rs)
    new_way h = record {
      key = h.key;
      new = joined_none (net_at old h.key) (net_at (of_kind Node ns) h.key) (sym (nodes h.key) ∙ h.new);
      there = in_second (of_kind Node ns) (of_kind Way ws ++ of_kind Relation rs) h.key
          (in_first (of_kind Way ws) (of_kind Relation rs) h.key h.there);
    }

    module _ (most : List NetEntry) (ways : (k : Key) → net_at most k ≡ joined_at (net_at more k) (net_at (of_kind Way ws) k)) where
      pub new_relation : HasNewKey most (of_kind Relation rs) → HasNewKey old (of_kinds ns ws rs)
      new_relation h = record {
        key = h.key;
        new = joined_none (net_at old h.key) (net_at (of_kind Node ns) h.key) (sym (nodes h.key)
            ∙ joined_none (net_at more h.key) (net_at (of_kind Way ws) h.key) (sym (ways h.key) ∙ h.new));
        there = in_second (of_kind Node ns) (of_kind Way ws ++ of_kind Relation rs) h.key
            (in_second (of_kind Way ws) (of_kind Relation rs) h.key h.there);
      }

      pub all_joined : (new : List NetEntry) → ((k : Key) → net_at new k ≡ joined_at (net_at most k) (net_at (of_kind Relation rs) k))
          → (k : Key) → net_at new k ≡ joined_at (net_at old k) (net_at (of_kinds ns ws rs) k)
      all_joined new relations k =
          relations k
          ∙ (ap (λ (o : Option (Option ChangeValue)). joined_at o (net_at (of_kind Relation rs) k))
          (ways k ∙ ap (λ (o : Option (Option ChangeValue)). joined_at o (net_at (of_kind Way ws) k)) (nodes k))
          ∙ joined_kinds ns ws rs (net_at old k) k)

-- ---- what holds of the entries of all kinds

all_first : (P : NetEntry → Type 0) (xs ys : List NetEntry) → AllByRecursion P (xs ++ ys) → AllByRecursion P xs
all_first P [] ys all = tt
all_first P (x ∷ xs) ys all = (all.0, all_first P xs ys all.1)

all_second : (P : NetEntry → Type 0) (xs ys : List NetEntry) → AllByRecursion P (xs ++ ys) → AllByRecursion P ys
all_second P [] ys all = all
all_second P (x ∷ xs) ys all = all_second P xs ys all.1

entries_first : (xs ys : List NetEntry) → AreEntries (xs ++ ys) → AreEntries xs
entries_first xs ys all = record { own = all_first HasOwnKey xs ys all.own; each = all_first LeavesObject xs ys all.each }

entries_second : (xs ys : List NetEntry) → AreEntries (xs ++ ys) → AreEntries ys
entries_second xs ys all = record { own = all_second HasOwnKey xs ys all.own; each = all_second LeavesObject xs ys all.each }

module _ (ns ws rs : List IdEntry) (all : AreEntries (of_kinds ns ws rs)) where
  pub nodes_are : AreEntries (of_kind Node ns)
  nodes_are = entries_first (of_kind Node ns) (of_kind Way ws ++ of_kind Relation rs) all

  others_are : AreEntries (of_kind Way ws ++ of_kind Relation rs)
  others_are = entries_second (of_kind Node ns) (of_kind Way ws ++ of_kind Relation rs) all

  pub ways_are : AreEntries (of_kind Way ws)
  ways_are = entries_first (of_kind Way ws) (of_kind Relation rs) others_are

  pub relations_are : AreEntries (of_kind Relation rs)
  relations_are = entries_second (of_kind Way ws) (of_kind Relation rs) others_are

-- ---- the keys rise

-- those of the key's kind that have a greater id, and others
above_same : (kind : Kind) (id : ℤ) (es : List IdEntry) (rest : List NetEntry) → AllByRecursion (λ (n : ℤ). int_cmp id n ≡ Less) (keys_of es)
    → AllByRecursion (λ q. key_cmp (key_of kind id) q ≡ Less) (keys_of rest)
    → AllByRecursion (λ q. key_cmp (key_of kind id) q ≡ Less) (keys_of (of_kind kind es ++ rest))
above_same kind id [] rest all others = others
above_same kind id (e ∷ es) rest all others = (one_kind kind id e.0 ∙ all.0, above_same kind id es rest all.1 others)

-- those of a later kind, and others
above_later : (kind : Kind) (k : Key) → ((id : ℤ) → key_cmp k (key_of kind id) ≡ Less) → (es : List IdEntry) (rest : List NetEntry)
    → AllByRecursion (λ q. key_cmp k q ≡ Less) (keys_of rest) → AllByRecursion (λ q. key_cmp k q ≡ Less) (keys_of (of_kind kind es ++ rest))
above_later kind k later [] rest others = others
above_later kind k later (e ∷ es) rest others = (later e.0, above_later kind k later es rest others)

relations_above : (k : Key) → ((id : ℤ) → key_cmp k (key_of Relation id) ≡ Less) → (rs : List IdEntry)
    → AllByRecursion (λ q. key_cmp k q ≡ Less) (keys_of (of_kind Relation rs))
relations_above k later [] = tt
relations_above k later (r ∷ rs) = (later r.0, relations_above k later rs)

kind_rises : (kind : Kind) (es : List IdEntry) (rest : List NetEntry) → IsStrictlySortedBy int_cmp (keys_of es) → AreKeysRising rest
    → ((id : ℤ) → AllByRecursion (λ q. key_cmp (key_of kind id) q ≡ Less) (keys_of rest)) → AreKeysRising (of_kind kind es ++ rest)
unfolding IsStrictlySortedBy
kind_rises kind [] rest rising others above = others
kind_rises kind (e ∷ es) rest rising others above =
    (above_same kind e.0 es rest rising.0 (above e.0), kind_rises kind es rest rising.1 others above)

pub one_kind_rises : (kind : Kind) (es : List IdEntry) → IsStrictlySortedBy int_cmp (keys_of es) → AreKeysRising (of_kind kind es)
one_kind_rises kind es rising = subst AreKeysRising (append-nil (of_kind kind es)) (kind_rises kind es [] rising (rising-nil key_cmp) (λ id. tt))

pub kinds_rise : (ns ws rs : List IdEntry) → IsStrictlySortedBy int_cmp (keys_of ns) → IsStrictlySortedBy int_cmp (keys_of ws)
    → IsStrictlySortedBy int_cmp (keys_of rs) → AreKeysRising (of_kinds ns ws rs)
kinds_rise ns ws rs n w r =
    kind_rises Node ns (of_kind Way ws ++ of_kind Relation rs) n
    (kind_rises Way ws (of_kind Relation rs) w (one_kind_rises Relation rs r) (λ id. relations_above (key_of Way id) (λ i. refl) rs))
    (λ id. above_later Way (key_of Node id) (λ i. refl) ws (of_kind Relation rs) (relations_above (key_of Node id) (λ i. refl) rs))

-- ---- no entries

pub none_of_all : (ns ws rs : List IdEntry) → ns ≡ [] → ws ≡ [] → rs ≡ [] → of_kinds ns ws rs ≡ []
none_of_all ns ws rs n w r = λ i. of_kinds (n i) (w i) (r i)

pub all_none : (ns ws rs : List IdEntry) → of_kinds ns ws rs ≡ [] → (ns ≡ []) × (ws ≡ []) × (rs ≡ [])
all_none [] [] [] none = (refl, refl, refl)
all_none [] [] (r ∷ rs) none = absurd (cc)
all_none [] (w ∷ ws) rs none = absurd (cc)
all_none (n ∷ ns) ws rs none = absurd (cc)
