-- An index of slots and what is left at them: what a put and a move out of a slot make of them.
use Rattle.std.proofs.Common.{◌≡◌, ℕ, ◌+◌, ◌<◌, List, [], ◌∷◌, ◌++◌, length, map, drop, append-nil, suc, zero, refl, ap, sym, ◌∙◌, subst}
use Rattle.std.proofs.Common.{Bool, true, false, Option, Some, None, cond, arith}
use Rattle.std.proofs.Math.ListN.{set, get_or-append}
use Rattle.std.proofs.Math.Seq.{get_or-append_seam}
use Rattle.std.specs.Prelude.{ℤ, ◌-◌, Result, Ok, Err, OnErr, option_to_list, slice_get}
use Rattle.std.specs.BTreeMap.{insert_entry, is_at}
use Rattle.std.specs.List.{AllByRecursion}
use Rattle.std.specs.List.Sorted.{IsStrictlySortedBy}
use Rattle.std.specs.Map.{keys_of, lookup}
use Rattle.std.specs.Option.{option_map}
use Rattle.std.specs.Ordering.{int_cmp, is_eq, match_ordering}
use Rattle.std.specs.declared.cmp.Ordering.{Ordering}
use Rattle.std.specs.declared.cmp.Ordering.TheVariants.{Less, Equal, Greater}
use Rattle.std.proofs.lemmas.Cmp.{int_cmp_total}
use Rattle.std.proofs.lemmas.Grind.{get_or-set_at}
use Rattle.std.proofs.lemmas.List.{get_or-set_other, length-append}
use Rattle.std.proofs.lemmas.Map.{lookup-none}
use Rattle.std.proofs.lemmas.Map.Entries.{lookup_head, lookup_tail, none_below_head}
use Rattle.std.proofs.lemmas.Map.Keys.{sorted_tail}
use Rattle.std.proofs.lemmas.Map.Lookups.{exact_signed}
use Rattle.std.proofs.lemmas.Map.Made.{lookup-map_values}
use Rattle.osm_model.specs.Change.{ChangeValue}
use Rattle.osm_model.specs.declared.kind.Kind.{Kind}
use Rattle.osm_net.specs.Steps.Entries.{AreApart, AreSlots, FillSlots, IdEntry, IsApart, IsBelow, entries_of, key_of, of_kind, paired, slot_at}
use Rattle.osm_net.specs.Steps.Index.{numbered}
use Rattle.osm_net.proofs.IndexLemmas.{put_longer}
use Rattle.osm_net.proofs.NetLemmas.{all-insert_entry}

-- ---- an id with a slot of its own

more_below : (index : List (ℤ × ℕ)) (n : ℕ) → AllByRecursion (IsBelow n) index → AllByRecursion (IsBelow (n + 1)) index
more_below [] n all = tt
more_below (e ∷ es) n all = (let p = all.0 in omega arith, more_below es n all.1)

all_apart : (index : List (ℤ × ℕ)) (n : ℕ) → AllByRecursion (IsBelow n) index → AllByRecursion (IsApart n) index
all_apart [] n all = tt
all_apart (e ∷ es) n all = (λ same. let p = all.0 in absurd (omega (arith, p, same)), all_apart es n all.1)

apart_put : (index : List (ℤ × ℕ)) (id : ℤ) (n : ℕ) → AllByRecursion (IsBelow n) index → AreApart index → AreApart (insert_entry int_cmp index id n)
apart_put [] id n below apart = (tt, tt)
apart_put (e ∷ es) id n below apart =
    let p = below.0 in
    by_order (int_cmp id e.0) (all-insert_entry int_cmp exact_signed (IsApart e.1) es id n (λ same. absurd (omega (arith, p, same))) apart.0)
    (apart_put es id n below.1 apart.1)
  where
    by_order : (o : Ordering) → AllByRecursion (IsApart e.1) (insert_entry int_cmp es id n) → AreApart (insert_entry int_cmp es id n)
        → AreApart (match_ordering o ((id, n) ∷ e ∷ es) ((e.0, n) ∷ es) (e ∷ insert_entry int_cmp es id n))
    by_order Less all rest = (all_apart (e ∷ es) n below, apart)
    by_order Equal all rest = (all_apart es n below.1, apart.1)
    by_order Greater all rest = (all, rest)

-- a new id takes the slot after all others
pub slots_put : (index now : List (ℤ × ℕ)) (id : ℤ) (n many : ℕ) → AreSlots index n → many ≡ n + 1 → now ≡ insert_entry int_cmp index id n → AreSlots now many
slots_put index now id n many all next is = rw (is, next) (record {
  below = all-insert_entry int_cmp exact_signed (IsBelow (n + 1)) index id n (omega arith) (more_below index n all.below);
  apart = apart_put index id n all.below all.apart;
})

pub filled_put : (index now : List (ℤ × ℕ)) (id : ℤ) (n many : ℕ) → FillSlots index n → lookup (is_at (int_cmp id)) index ≡ None → many ≡ n + 1
    → now ≡ insert_entry int_cmp index id n → FillSlots now many
filled_put index now id n many fill none next is = record {
  slots = slots_put index now id n many fill.slots next is;
  all = (let more : length now ≡ length index + 1 = rw is (put_longer index id n none) in let all = fill.all in omega (arith, more, all, next));
}

-- what holds of all slots holds of one that is found
found_slot : (P : ℕ → Type 0) (index : List (ℤ × ℕ)) (id : ℤ) (slot : ℕ) → AllByRecursion (λ (e : ℤ × ℕ). P e.1) index
    → lookup (is_at (int_cmp id)) index ≡ Some slot → P slot
found_slot P [] id slot all found = absurd (cc)
found_slot P (e ∷ es) id slot all found = by_test (is_at (int_cmp id) e.0) found (found_slot P es id slot all.1)
  where
    by_test : (b : Bool) → cond b (Some e.1) (lookup (is_at (int_cmp id)) es) ≡ Some slot → (lookup (is_at (int_cmp id)) es ≡ Some slot → P slot) → P slot
    by_test true is rest = (let same : e.1 ≡ slot = cc in subst P same all.0)
    by_test false is rest = rest is

pub found_below : (index : List (ℤ × ℕ)) (id : ℤ) (slot many : ℕ) → AreSlots index many → lookup (is_at (int_cmp id)) index ≡ Some slot → slot < many
found_below index id slot many is found = found_slot (λ (n : ℕ). n < many) index id slot is.below found

-- ---- the entries after a put

map-insert_entry : (g : ℕ → Option ChangeValue) (es : List (ℤ × ℕ)) (id : ℤ) (n : ℕ)
    → map (λ (e : ℤ × ℕ). (e.0, g e.1)) (insert_entry int_cmp es id n) ≡ insert_entry int_cmp (map (λ (e : ℤ × ℕ). (e.0, g e.1)) es) id (g n)
map-insert_entry g [] id n = refl
map-insert_entry g (e ∷ es) id n = by_order (int_cmp id e.0) (map-insert_entry g es id n)
  where
    by_order : (o : Ordering)
        → map (λ (d : ℤ × ℕ). (d.0, g d.1)) (insert_entry int_cmp es id n) ≡ insert_entry int_cmp (map (λ (d : ℤ × ℕ). (d.0, g d.1)) es) id (g n)
        → map (λ (d : ℤ × ℕ). (d.0, g d.1)) (match_ordering o ((id, n) ∷ e ∷ es) ((e.0, n) ∷ es) (e ∷ insert_entry int_cmp es id n))
        ≡ match_ordering o ((id, g n) ∷ map (λ (d : ℤ × ℕ). (d.0, g d.1)) (e ∷ es)) ((e.0, g n) ∷ map (λ (d : ℤ × ℕ). (d.0, g d.1)) es)
        ((e.0, g e.1) ∷ insert_entry int_cmp (map (λ (d : ℤ × ℕ). (d.0, g d.1)) es) id (g n))
    by_order Less rest = refl
    by_order Equal rest = refl
    by_order Greater rest = ap (λ (ds : List IdEntry). (e.0, g e.1) ∷ ds) rest

entries_pushed : (index : List (ℤ × ℕ)) (slots : List (Option ChangeValue)) (left : Option ChangeValue) → AllByRecursion (IsBelow (length slots)) index
    → entries_of index (slots ++ left ∷ []) ≡ entries_of index slots
entries_pushed [] slots left all = refl
entries_pushed (e ∷ es) slots left all =
    let head : slot_at (slots ++ left ∷ []) e.1 ≡ slot_at slots e.1 = get_or-append slots (left ∷ []) None e.1 all.0 in
    let rest : entries_of es (slots ++ left ∷ []) ≡ entries_of es slots = entries_pushed es slots left all.1 in
    λ i. (e.0, head i) ∷ rest i

-- a new id
pub new_entry : (index now : List (ℤ × ℕ)) (slots : List (Option ChangeValue)) (id : ℤ) (left : Option ChangeValue) → AreSlots index (length slots)
    → now ≡ insert_entry int_cmp index id (length slots)
    → entries_of now (slots ++ left ∷ []) ≡ insert_entry int_cmp (entries_of index slots) id left
new_entry index now slots id left all is =
    let others : entries_of index (slots ++ left ∷ []) ≡ entries_of index slots = entries_pushed index slots left all.below in
    let here : slot_at (slots ++ left ∷ []) (length slots) ≡ left = get_or-append_seam slots left [] None in
    ap (λ (es : List (ℤ × ℕ)). entries_of es (slots ++ left ∷ [])) is
    ∙ (map-insert_entry (slot_at (slots ++ left ∷ [])) index id (length slots) ∙ (λ i. insert_entry int_cmp (others i) id (here i)))

-- what is put into a slot changes no other
pub entries_stay : (index : List (ℤ × ℕ)) (slots : List (Option ChangeValue)) (slot : ℕ) (left : Option ChangeValue) → AllByRecursion (IsApart slot) index
    → entries_of index (set slots slot left) ≡ entries_of index slots
entries_stay [] slots slot left all = refl
entries_stay (e ∷ es) slots slot left all =
    let head : slot_at (set slots slot left) e.1 ≡ slot_at slots e.1 = get_or-set_other slots slot e.1 left None all.0 in
    let rest : entries_of es (set slots slot left) ≡ entries_of es slots = entries_stay es slots slot left all.1 in
    λ i. (e.0, head i) ∷ rest i

-- an id that has a slot
same_entry : (index : List (ℤ × ℕ)) (slots : List (Option ChangeValue)) (id : ℤ) (slot : ℕ) (left : Option ChangeValue)
    → slot < length slots → AreApart index → IsStrictlySortedBy int_cmp (keys_of index) → lookup (is_at (int_cmp id)) index ≡ Some slot
    → entries_of index (set slots slot left) ≡ insert_entry int_cmp (entries_of index slots) id left
same_entry [] slots id slot left below apart rising found = absurd (cc)
same_entry (e ∷ es) slots id slot left below apart rising found =
    by_order (int_cmp id e.0) refl (same_entry es slots id slot left below apart.1 (sorted_tail int_cmp e.0 (keys_of es) rising))
  where
    by_order : (o : Ordering) → int_cmp id e.0 ≡ o
        → (lookup (is_at (int_cmp id)) es ≡ Some slot → entries_of es (set slots slot left) ≡ insert_entry int_cmp (entries_of es slots) id left)
        → (e.0, slot_at (set slots slot left) e.1) ∷ entries_of es (set slots slot left)
        ≡ match_ordering o ((id, left) ∷ entries_of (e ∷ es) slots) ((e.0, left) ∷ entries_of es slots)
        ((e.0, slot_at slots e.1) ∷ insert_entry int_cmp (entries_of es slots) id left)
    by_order Less o later_too =
        let none : lookup (is_at (int_cmp id)) (e ∷ es) ≡ None = lookup-none (is_at (int_cmp id)) (e ∷ es) (none_below_head int_cmp_total id e es rising o) in
        absurd (let bad : None ≡ Some slot = sym none ∙ found in cc)
    by_order Equal o later_too =
        let first : Some e.1 ≡ Some slot = sym (lookup_head (is_at (int_cmp id)) e es (ap is_eq o)) ∙ found in
        let same : e.1 ≡ slot = cc in
        let head : slot_at (set slots slot left) e.1 ≡ left = get_or-set_at slots slot e.1 left None same below in
        let rest : entries_of es (set slots slot left) ≡ entries_of es slots =
        entries_stay es slots slot left (subst (λ (n : ℕ). AllByRecursion (IsApart n) es) same apart.0) in
        λ i. (e.0, head i) ∷ rest i
    by_order Greater o later_too =
        let later : lookup (is_at (int_cmp id)) es ≡ Some slot = sym (lookup_tail (is_at (int_cmp id)) e es (ap is_eq o)) ∙ found in
        let other : slot ≡ e.1 → ⊥ = found_slot (λ (n : ℕ). n ≡ e.1 → ⊥) es id slot apart.0 later in
        let head : slot_at (set slots slot left) e.1 ≡ slot_at slots e.1 = get_or-set_other slots slot e.1 left None (λ same. other (sym same)) in
        let rest : entries_of es (set slots slot left) ≡ insert_entry int_cmp (entries_of es slots) id left = later_too later in
        λ i. (e.0, head i) ∷ rest i

pub old_entry : (index now : List (ℤ × ℕ)) (slots : List (Option ChangeValue)) (id : ℤ) (slot : ℕ) (left : Option ChangeValue)
    → AreSlots index (length slots) → IsStrictlySortedBy int_cmp (keys_of index) → lookup (is_at (int_cmp id)) index ≡ Some slot → now ≡ index
    → entries_of now (set slots slot left) ≡ insert_entry int_cmp (entries_of index slots) id left
old_entry index now slots id slot left all rising found is =
    ap (λ (es : List (ℤ × ℕ)). entries_of es (set slots slot left)) is
    ∙ same_entry index slots id slot left (found_below index id slot (length slots) all found) all.apart rising found

-- an id that has no slot has no entry
pub no_entry : (index : List (ℤ × ℕ)) (slots : List (Option ChangeValue)) (id : ℤ) → lookup (is_at (int_cmp id)) index ≡ None
    → lookup (is_at (int_cmp id)) (entries_of index slots) ≡ None
no_entry index slots id none = lookup-map_values (slot_at slots) (is_at (int_cmp id)) index ∙ ap (option_map (slot_at slots)) none

pub err_also : {A E : Type 0} {P Q : Type 0} (r : Result A E) → (P → Q) → OnErr r P → OnErr r Q
err_also (Ok x) h p = tt
err_also (Err e) h p = h p

pub on_err : {A E : Type 0} {P : Type 0} (r : Result A E) → P → OnErr r P
on_err (Ok x) p = tt
on_err (Err e) p = p

-- ---- what is left, moved out of its slot

-- an empty slot at the end tells nothing
pub empty_end : (slots : List (Option ChangeValue)) (slot : ℕ) → slot_at (slots ++ None ∷ []) slot ≡ slot_at slots slot
empty_end [] zero = refl
empty_end [] (suc n) = refl
empty_end (z ∷ zs) zero = refl
empty_end (z ∷ zs) (suc n) = empty_end zs n

last_of_end : (slots : List (Option ChangeValue)) (left : Option ChangeValue) → slice_get (slots ++ left ∷ []) (length slots) ≡ Some left
last_of_end [] left = refl
last_of_end (z ∷ zs) left = last_of_end zs left

-- the last slot goes, if it is empty
pub last_empty : (slots rest : List (Option ChangeValue)) (out : Option (Option ChangeValue)) → slots ≡ rest ++ option_to_list out
    → slice_get slots (length slots - 1) ≡ Some None → (slot : ℕ) → slot_at rest slot ≡ slot_at slots slot
last_empty slots rest None is last slot = rw (is, append-nil) refl
last_empty slots rest (Some left) is last slot =
    let at : length slots - 1 ≡ length rest = rw is (let long = length-append rest (left ∷ []) in omega (arith, long)) in
    let found : slice_get (rest ++ left ∷ []) (length rest) ≡ Some None =
    subst (λ (zs : List (Option ChangeValue)). slice_get zs (length rest) ≡ Some None) is (subst (λ (n : ℕ). slice_get slots n ≡ Some None) at last) in
    let same : Some left ≡ Some None = sym (last_of_end rest left) ∙ found in
    let none : left ≡ None = cc in
    rw (is, none) (sym (empty_end rest slot))

-- the first entry of an index goes out of its slot, all others stay in theirs
module _ (e : ℤ × ℕ) (es : List (ℤ × ℕ)) (slots new : List (Option ChangeValue)) (apart : AreApart (e ∷ es))
    (same : (other : ℕ) → slot_at new other ≡ slot_at (set slots e.1 None) other) where
  others_stay : (ds : List (ℤ × ℕ)) → AllByRecursion (IsApart e.1) ds → entries_of ds new ≡ entries_of ds slots
  others_stay [] all = refl
  others_stay (d ∷ ds) all =
      let head : slot_at new d.1 ≡ slot_at slots d.1 = same d.1 ∙ get_or-set_other slots e.1 d.1 None None all.0 in
      let rest : entries_of ds new ≡ entries_of ds slots = others_stay ds all.1 in
      λ i. (d.0, head i) ∷ rest i

  pub entries_after : (kind : Kind) (left : Option ChangeValue) → left ≡ slot_at slots e.1
      → of_kind kind (entries_of (e ∷ es) slots) ≡ (key_of kind e.0, left) ∷ of_kind kind (entries_of es new)
  entries_after kind left out =
      rw out (ap (λ (ds : List IdEntry). (key_of kind e.0, slot_at slots e.1) ∷ of_kind kind ds) (sym (others_stay es apart.0)))

-- ---- ids that came in order: an id's slot is its position

length-numbered : (n : ℕ) (ids : List ℤ) → length (numbered n ids) ≡ length ids
length-numbered n [] = refl
length-numbered n (id ∷ ids) = ap suc (length-numbered (n + 1) ids)

drop_slot : (slots : List (Option ChangeValue)) (n : ℕ) → n < length slots → drop n slots ≡ slot_at slots n ∷ drop (n + 1) slots
drop_slot [] n below = absurd (omega arith)
drop_slot (z ∷ zs) zero below = refl
drop_slot (z ∷ zs) (suc n) below =
    let same : suc (n + 1) ≡ suc n + 1 = omega arith in
    drop_slot zs n (omega arith) ∙ ap (λ (m : ℕ). slot_at zs n ∷ drop m (z ∷ zs)) same

numbered_entries : (n : ℕ) (ids : List ℤ) (slots : List (Option ChangeValue)) → n + length ids ≡ length slots
    → paired ids (drop n slots) ≡ entries_of (numbered n ids) slots
numbered_entries n [] slots many = refl
numbered_entries n (id ∷ ids) slots many =
    ap (paired (id ∷ ids)) (drop_slot slots n (omega (arith, many)))
    ∙ ap (λ (es : List IdEntry). (id, slot_at slots n) ∷ es) (numbered_entries (n + 1) ids slots (omega (arith, many)))

module _ (ids : List ℤ) (index : List (ℤ × ℕ)) (slots : List (Option ChangeValue)) (is : numbered 0 ids ≡ index) (fill : FillSlots index (length slots)) where
  pub listed_many : length ids ≡ length slots
  listed_many = (let p = length-numbered 0 ids in let q = ap {A = List (ℤ × ℕ)} length is in let all = fill.all in omega (arith, p, q, all))

  pub listed_entries : paired ids slots ≡ entries_of index slots
  listed_entries = numbered_entries 0 ids slots (let many = listed_many in omega (arith, many)) ∙ ap (λ (es : List (ℤ × ℕ)). entries_of es slots) is

-- as many as there are ids
length-paired : (ids : List ℤ) (lefts : List (Option ChangeValue)) → length ids ≡ length lefts → length (paired ids lefts) ≡ length ids
length-paired [] lefts many = refl
length-paired (id ∷ ids) [] many = absurd (omega (arith, many))
length-paired (id ∷ ids) (z ∷ zs) many = (let rest = length-paired ids zs (omega (arith, many)) in omega (arith, rest))

pub some_listed : (ids : List ℤ) (lefts : List (Option ChangeValue)) (from : List IdEntry) → length ids ≡ length lefts → paired ids lefts ≡ from
    → 0 < length ids → 0 < length from
some_listed ids lefts from many is some =
    let p = length-paired ids lefts many in
    let q = ap {A = List IdEntry} length is in
    omega (arith, p, q, some)
