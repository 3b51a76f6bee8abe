-- The map of strings that no chain leads to.
use Rattle.std.proofs.Common.{◌≡◌, ◌⊎◌, inl, inr, ℕ, ◌+◌, ◌-◌, ◌<◌, ◌≤◌, true, false, Bool, List, [], ◌∷◌, ◌++◌, length}
use Rattle.std.proofs.Common.{Option, Some, None, refl, sym, ap, subst, ◌∙◌, arith, Vec}
use Rattle.std.specs.Prelude.{if◌then◌else◌, nat_lt, filter, unwrap_or}
use Rattle.std.specs.List.{AllByRecursion}
use Rattle.std.specs.List.Sorted.{IsStrictlySortedBy}
use Rattle.std.specs.BTreeMap.{insert_entry}
use Rattle.std.specs.Cmp.Lexicographic.{slice_cmp}
use Rattle.std.specs.declared.alloc.Global.{Global}
use Rattle.std.specs.declared.cmp.Ordering.{Ordering}
use Rattle.std.specs.declared.cmp.Ordering.TheVariants.{Less, Equal, Greater}
use Rattle.std.specs.Map.{keys_of}
use Rattle.std.specs.Ordering.{is_eq, match_ordering, nat_cmp}
use Rattle.std.specs.Str.{bytes_eq}
use Rattle.std.proofs.lemmas.Bool.{cases_lt, cases_Bool}
use Rattle.std.proofs.lemmas.Bool.Decides.{nat_tests}
use Rattle.std.proofs.lemmas.List.{length-append, get_or_append_left}
use Rattle.std.proofs.lemmas.Map.Entries.{option_filter}
use Rattle.std.proofs.lemmas.Map.Keys.{sorted_head, sorted_tail}
use Rattle.std.proofs.lemmas.Map.Lookups.{exact_bytes}
use Rattle.std.proofs.lemmas.Map.Text.{is_eq-slice_cmp}
use Rattle.std.proofs.lemmas.Slice.Eq.{bytes_eq-Decides}
use Rattle.std.proofs.Math.Seq.{get_or-append_seam}
use Rattle.osm_o5c.specs.Written.{reference_of}
use Rattle.osm_o5c.specs.Steps.Index.{string_at, bucket_of, Chained, IsLastIn, IsRecent, IsLatest, IsIndexed, AreBelow}
use Rattle.osm_o5c.specs.Steps.Latest.{place_in, number_or_zero, latest_of, MayHaveForgotten}
use Rattle.osm_o5c.specs.declared.latest.Latest.{Latest}
use Rattle.osm_o5c.proofs.IndexLemmas.{pushed, linked, led_linked, led_kept, led_again, none_below, found_below}

Entries : Type 0
Entries = List (Vec ℕ Global × ℕ)

abbrev pub vec_cmp : Vec ℕ Global → Vec ℕ Global → Ordering
vec_cmp x y = slice_cmp nat_cmp x.items y.items

-- an empty map
none_in : (es : List (Vec ℕ Global × ℕ)) (t : List ℕ) → length es ≡ 0 → place_in es t ≡ None
none_in [] t e = refl
none_in (x ∷ es) t e = absurd (omega (arith, e))

pub latest_of_empty : (l : Latest) (t : List ℕ) → length l.numbers.entries ≡ 0 → latest_of l t ≡ 0
latest_of_empty l t none = rw (none_in l.numbers.entries t none) refl

-- a map with one more entry
pub place_in-insert : (es : List (Vec ℕ Global × ℕ)) (k : Vec ℕ Global) (n : ℕ) (t : List ℕ)
    → place_in (insert_entry (λ (x y : Vec ℕ Global). slice_cmp nat_cmp x.items y.items) es k n) t ≡
    (if bytes_eq k.items t then Some n else place_in es t)
place_in-insert [] k n t =
    elim (cases_Bool (bytes_eq k.items t)) [
      | inl is ↦
          let e : k.items ≡ t = (bytes_eq-Decides k.items t).0 is in
          let s : is_eq (slice_cmp nat_cmp t k.items) ≡ true = is_eq-slice_cmp t k.items ∙ (bytes_eq-Decides t k.items).1 (sym e) in
          rw (is, s) refl
      | inr other ↦
          let s : is_eq (slice_cmp nat_cmp t k.items) ≡ false = is_eq-slice_cmp t k.items ∙ flipped k.items t other in
          rw (other, s) refl
    ]
  where
    flipped : (x y : List ℕ) → bytes_eq x y ≡ false → bytes_eq y x ≡ false
    flipped x y other = elim (cases_Bool (bytes_eq y x)) [
      | inl is ↦ let e : bytes_eq x y ≡ true = (bytes_eq-Decides x y).1 (sym ((bytes_eq-Decides y x).0 is)) in absurd cc
      | inr none ↦ none
    ]
place_in-insert (e ∷ es) k n t = by_order (slice_cmp nat_cmp k.items e.0.items) refl (place_in-insert es k n t)
  where
    flipped : (x y : List ℕ) → bytes_eq x y ≡ false → bytes_eq y x ≡ false
    flipped x y other = elim (cases_Bool (bytes_eq y x)) [
      | inl is ↦ let e : bytes_eq x y ≡ true = (bytes_eq-Decides x y).1 (sym ((bytes_eq-Decides y x).0 is)) in absurd cc
      | inr none ↦ none
    ]

    by_order : (o : Ordering) → slice_cmp nat_cmp k.items e.0.items ≡ o
        → place_in (insert_entry (λ (x y : Vec ℕ Global). slice_cmp nat_cmp x.items y.items) es k n) t ≡
        (if bytes_eq k.items t then Some n else place_in es t)
        → place_in (match_ordering o ((k, n) ∷ e ∷ es) ((e.0, n) ∷ es)
        (e ∷ insert_entry (λ (x y : Vec ℕ Global). slice_cmp nat_cmp x.items y.items) es k n)) t ≡
        (if bytes_eq k.items t then Some n else place_in (e ∷ es) t)
    by_order Less o rest =
        elim (cases_Bool (bytes_eq k.items t)) [
          | inl is ↦
              let s : is_eq (slice_cmp nat_cmp t k.items) ≡ true = is_eq-slice_cmp t k.items
              ∙ (bytes_eq-Decides t k.items).1 (sym ((bytes_eq-Decides k.items t).0 is)) in
              rw (is, s) refl
          | inr other ↦
              let s : is_eq (slice_cmp nat_cmp t k.items) ≡ false = is_eq-slice_cmp t k.items ∙ flipped k.items t other in
              rw (other, s) refl
        ]
    by_order Equal o rest =
        let same : k.items ≡ e.0.items = exact_bytes k.items e.0.items o in
        elim (cases_Bool (bytes_eq k.items t)) [
          | inl is ↦
              let s : is_eq (slice_cmp nat_cmp t e.0.items) ≡ true = is_eq-slice_cmp t e.0.items
              ∙ (bytes_eq-Decides t e.0.items).1 (sym (sym same ∙ (bytes_eq-Decides k.items t).0 is)) in
              rw (is, s) refl
          | inr other ↦
              let s : is_eq (slice_cmp nat_cmp t e.0.items) ≡ false = is_eq-slice_cmp t e.0.items
              ∙ subst (λ (x : List ℕ). bytes_eq t x ≡ false) same (flipped k.items t other) in
              rw (other, s) refl
        ]
    by_order Greater o rest =
        elim (cases_Bool (bytes_eq k.items t)) [
          | inl is ↦
              let apart : bytes_eq k.items e.0.items ≡ false = sym (is_eq-slice_cmp k.items e.0.items) ∙ ap is_eq o in
              let s : is_eq (slice_cmp nat_cmp t e.0.items) ≡ false = is_eq-slice_cmp t e.0.items
              ∙ subst (λ (x : List ℕ). bytes_eq x e.0.items ≡ false) ((bytes_eq-Decides k.items t).0 is) apart in
              rw (s, rest, is) refl
          | inr other ↦ rw (other, rest, other) refl
        ]

pub latest_of-insert : (es fs : List (Vec ℕ Global × ℕ)) (k : Vec ℕ Global) (n : ℕ)
    → fs ≡ insert_entry (λ (x y : Vec ℕ Global). slice_cmp nat_cmp x.items y.items) es k n
    → (t : List ℕ) → number_or_zero (place_in fs t) ≡ (if bytes_eq k.items t then n else number_or_zero (place_in es t))
latest_of-insert es fs k n is t = rw (is, place_in-insert es k n t) (either (bytes_eq k.items t))
  where
    either : (b : Bool) → number_or_zero (if b then Some n else place_in es t) ≡ (if b then n else number_or_zero (place_in es t))
    either true = refl
    either false = refl

-- the number that a string has after `keep`
pub number_kept : (place : Option ℕ) (last number kept newest : ℕ) → kept ≡ unwrap_or place number
    → newest ≡ (if nat_lt last kept then kept else number)
    → newest ≡ (if nat_lt last (number_or_zero place) then number_or_zero place else number)
number_kept None last number kept newest is by =
    let none : nat_lt last 0 ≡ false = grind (arith, nat_tests) in
    rw none (by ∙ ap (λ (k : ℕ). if nat_lt last k then k else number) is ∙ same (nat_lt last number))
  where
    same : (b : Bool) → (if b then number else number) ≡ number
    same true = refl
    same false = refl
number_kept (Some n) last number kept newest is by = by ∙ ap (λ (k : ℕ). if nat_lt last k then k else number) is

-- ---- strings that are forgotten

none_later : (p : ℕ → Bool) (k : Vec ℕ Global) (es : List (Vec ℕ Global × ℕ)) → AllByRecursion (λ y. vec_cmp k y ≡ Less) (keys_of es)
    → (t : List ℕ) → k.items ≡ t → place_in (filter (λ e. p e.1) es) t ≡ None
none_later p k [] a t same = refl
none_later p k (e ∷ es) a t same =
    let apart : is_eq (slice_cmp nat_cmp t e.0.items) ≡ false =
    subst (λ (x : List ℕ). is_eq (slice_cmp nat_cmp x e.0.items) ≡ false) same (ap is_eq a.0) in
    elim (cases_Bool (p e.1)) [
      | inl stays ↦ rw (stays, apart) (none_later p k es a.1 t same)
      | inr gone ↦ rw gone (none_later p k es a.1 t same)
    ]

place_in-filter : (p : ℕ → Bool) (es : List (Vec ℕ Global × ℕ)) → IsStrictlySortedBy vec_cmp (keys_of es) → (t : List ℕ)
    → place_in (filter (λ e. p e.1) es) t ≡ option_filter p (place_in es t)
place_in-filter p [] s t = refl
place_in-filter p (e ∷ es) s t =
    let rest : place_in (filter (λ e. p e.1) es) t ≡ option_filter p (place_in es t) = place_in-filter p es (sorted_tail vec_cmp e.0 (keys_of es) s) t in
    elim (cases_Bool (bytes_eq t e.0.items)) [
      | inl is ↦
          let here : is_eq (slice_cmp nat_cmp t e.0.items) ≡ true = is_eq-slice_cmp t e.0.items ∙ is in
          elim (cases_Bool (p e.1)) [
            | inl stays ↦ rw (stays, here, stays) refl
            | inr gone ↦ rw (gone, here, gone)
                (none_later p e.0 es (sorted_head vec_cmp e.0 (keys_of es) s) t (sym ((bytes_eq-Decides t e.0.items).0 is)))
          ]
      | inr other ↦
          let past : is_eq (slice_cmp nat_cmp t e.0.items) ≡ false = is_eq-slice_cmp t e.0.items ∙ other in
          elim (cases_Bool (p e.1)) [
            | inl stays ↦ rw (stays, past) rest
            | inr gone ↦ rw (gone, past) rest
          ]
    ]

pub forgotten : (es fs : List (Vec ℕ Global × ℕ)) (count last : ℕ) → 15000 ≤ count → last ≡ count - 15000
    → IsStrictlySortedBy vec_cmp (keys_of es) → fs ≡ filter (λ e. nat_lt last e.1) es
    → (t : List ℕ) → (number_or_zero (place_in fs t) ≡ number_or_zero (place_in es t))
    ⊎ ((number_or_zero (place_in fs t) ≡ 0) × (number_or_zero (place_in es t) + 15000 ≤ count))
forgotten es fs count last due past sorted is t =
    rw (is, place_in-filter (nat_lt last) es sorted t) (by (place_in es t))
  where
    by : (place : Option ℕ) → (number_or_zero (option_filter (nat_lt last) place) ≡ number_or_zero place)
        ⊎ ((number_or_zero (option_filter (nat_lt last) place) ≡ 0) × (number_or_zero place + 15000 ≤ count))
    by None = inl refl
    by (Some n) = elim (cases_lt last n) [
      | inl near ↦ let yes : nat_lt last n ≡ true = grind (arith, nat_tests) in inl (rw yes refl)
      | inr far ↦ let no : nat_lt last n ≡ false = grind (arith, nat_tests) in inr (rw no (refl, omega arith))
    ]

still_latest : (strings : List (List ℕ)) (before after : List ℕ → ℕ)
    → ((t : List ℕ) → (after t ≡ before t) ⊎ (after t ≡ 0)) → IsLatest strings before → IsLatest strings after
still_latest strings before after may all = record {
  within = λ t. elim (may t) [
    | inl is ↦ rw is (all.within t)
    | inr none ↦ rw none (omega arith)
  ];
  equal = λ t some. elim (may t) [
    | inl is ↦ rw is (all.equal t (subst (λ (n : ℕ). 0 < n) is some))
    | inr none ↦ absurd (omega (arith, some, none))
  ];
}

pub indexed_forgotten : (c : Chained) (before after : Latest) (count : ℕ) → count ≡ length c.strings
    → MayHaveForgotten before after count → IsIndexed c before → IsIndexed c after
indexed_forgotten c before after count is may x = record {
  led = led_again c (latest_of before) (latest_of after) follows x.led;
  latest = still_latest c.strings (latest_of before) (latest_of after) either x.latest;
}
  where
    follows : (t : List ℕ) (j : ℕ) → j < length c.strings → IsRecent c.strings j → latest_of after t ≤ j → latest_of before t ≤ j
    follows t j h recent late = elim (may t) [
      | inl same ↦ omega (arith, same, late)
      | inr gone ↦ let past : latest_of before t + 15000 ≤ count = gone.1 in omega (arith, past, is, recent)
    ]

    either : (t : List ℕ) → (latest_of after t ≡ latest_of before t) ⊎ (latest_of after t ≡ 0)
    either t = elim (may t) [
      | inl same ↦ inl same
      | inr gone ↦ inr gone.0
    ]

-- ---- one more string

latest_more : (strings : List (List ℕ)) (text : List ℕ) (latest : List ℕ → ℕ) → IsLatest strings latest → IsLatest (strings ++ text ∷ []) latest
latest_more strings text latest all = record {
  within = λ t. omega (arith, all.within t, length-append strings (text ∷ []));
  equal = λ t some. get_or_append_left strings (text ∷ []) [] (latest t - 1) (omega (arith, all.within t, some)) ∙ all.equal t some;
}

-- a string to which its chain leads
pub indexed_linked : (c : Chained) (l : Latest) (text : List ℕ) (previous bucket : ℕ) → bucket ≡ bucket_of text
    → bucket < 32768 → IsLastIn c bucket previous → IsIndexed c l → IsIndexed (linked c text previous bucket) l
indexed_linked c l text previous bucket is bound last x = record {
  led = led_linked c (latest_of l) text previous bucket is bound last x.led;
  latest = latest_more c.strings text (latest_of l) x.latest;
}

-- after has the text's number, and the other numbers of before
abbrev pub HasPut : Latest → Latest → List ℕ → ℕ → Type 0
HasPut before after text number = (t : List ℕ) → latest_of after t ≡ (if bytes_eq text t then number else latest_of before t)

put_same : (before after : Latest) (text : List ℕ) (number : ℕ) → HasPut before after text number → latest_of after text ≡ number
put_same before after text number put =
    let e : bytes_eq text text ≡ true = (bytes_eq-Decides text text).1 refl in
    put text ∙ rw e refl

put_other : (before after : Latest) (text : List ℕ) (number : ℕ) → HasPut before after text number → (t : List ℕ)
    → bytes_eq text t ≡ false → latest_of after t ≡ latest_of before t
put_other before after text number put t other = put t ∙ rw other refl

-- a string to which the map leads
pub indexed_kept : (c : Chained) (before after : Latest) (text : List ℕ) (previous number bucket : ℕ) → bucket ≡ bucket_of text
    → number ≡ length c.strings + 1 → IsLastIn c bucket previous → HasPut before after text number → IsIndexed c before
    → IsIndexed (pushed c text previous) after
indexed_kept c before after text previous number bucket bucket_is is last put x =
    record {
      led = led_kept c (latest_of before) (latest_of after) text previous bucket bucket_is
          (put_same before after text number put ∙ is) (λ t j h r late. follows t j h late (bytes_eq text t) refl) last
          x.led;
      latest = record {
        within = λ t. within t (bytes_eq text t) refl;
        equal = λ t some. equal t some (bytes_eq text t) refl;
      };
    }
  where
    whole : length (c.strings ++ text ∷ []) ≡ length c.strings + 1
    whole = length-append c.strings (text ∷ [])

    here : (t : List ℕ) → bytes_eq text t ≡ true → latest_of after t ≡ number
    here t same = subst (λ (s : List ℕ). latest_of after s ≡ number) ((bytes_eq-Decides text t).0 same) (put_same before after text number put)

    follows : (t : List ℕ) (j : ℕ) → j < length c.strings → latest_of after t ≤ j → (b : Bool) → bytes_eq text t ≡ b → latest_of before t ≤ j
    follows t j h late true same = absurd (omega (arith, here t same, late, h, is))
    follows t j h late false other = omega (arith, put_other before after text number put t other, late)

    within : (t : List ℕ) (b : Bool) → bytes_eq text t ≡ b → latest_of after t ≤ length (c.strings ++ text ∷ [])
    within t true same = omega (arith, here t same, is, whole)
    within t false other = omega (arith, put_other before after text number put t other, x.latest.within t, whole)

    equal : (t : List ℕ) → 0 < latest_of after t → (b : Bool) → bytes_eq text t ≡ b → string_at (c.strings ++ text ∷ []) (latest_of after t - 1) ≡ t
    equal t some true same =
        let at : latest_of after t - 1 ≡ length c.strings = omega (arith, here t same, is) in
        rw at (get_or-append_seam c.strings text [] []) ∙ (bytes_eq-Decides text t).0 same
    equal t some false other =
        let same : latest_of after t ≡ latest_of before t = put_other before after text number put t other in
        rw same ((latest_more c.strings text (latest_of before) x.latest).equal t (subst (λ (n : ℕ). 0 < n) same some))

-- a map with the same numbers
indexed_same : (c : Chained) (before after : Latest) → ((t : List ℕ) → latest_of after t ≡ latest_of before t)
    → IsIndexed c before → IsIndexed c after
indexed_same c before after is x = record {
  led = led_again c (latest_of before) (latest_of after) (λ t j h r late. omega (arith, is t, late)) x.led;
  latest = still_latest c.strings (latest_of before) (latest_of after) (λ t. inl (is t)) x.latest;
}

-- a map that refused a string
pub indexed_refused : (c : Chained) (before after : Latest) → after.numbers.entries ≡ before.numbers.entries
    → IsIndexed c before → IsIndexed c after
indexed_refused c before after same x = indexed_same c before after (λ t. rw same refl) x

-- ---- a string that the map alone can have

-- `number` is the text's next number, `n` the one that it has once it is kept, and `last` the last that can't be named
pub record IsNext (c : Chained) (before : Latest) (text : List ℕ) (last number n : ℕ) : Type 0 where
  pub indexed : IsIndexed c before
  pub below : AreBelow c.strings text (latest_of before text)
  pub next : number ≡ length c.strings + 1
  pub far : last ≡ length c.strings - 15000
  pub is : n ≡ (if nat_lt last (latest_of before text) then latest_of before text else number)

-- the map had a number that names the text
record HadNumber (c : Chained) (before : Latest) (text : List ℕ) (last n : ℕ) : Type 0 where
  same : n ≡ latest_of before text
  near : last < n

had_number : (c : Chained) (before : Latest) (text : List ℕ) (last number n : ℕ) → IsNext c before text last number n
    → n ≤ length c.strings → HadNumber c before text last n
had_number c before text last number n x few = elim (cases_lt last (latest_of before text)) [
  | inl near ↦
      let yes : nat_lt last (latest_of before text) ≡ true = grind (arith, nat_tests) in
      let same : n ≡ latest_of before text = rw yes at x.is in
      record { same = same; near = omega (arith, same, near) }
  | inr past ↦
      let no : nat_lt last (latest_of before text) ≡ false = grind (arith, nat_tests) in
      let same : n ≡ number = rw no at x.is in
      absurd (omega (arith, same, few, x.next))
]

pub reference_had : (c : Chained) (before : Latest) (text : List ℕ) (last number n r : ℕ) → IsNext c before text last number n
    → n ≤ length c.strings → r ≡ length c.strings - (n - 1) → reference_of c.strings text ≡ Some r
reference_had c before text last number n r x few is =
    let had : HadNumber c before text last n = had_number c before text last number n x few in
    let near : last < n = had.near in
    let far : last ≡ length c.strings - 15000 = x.far in
    let below : AreBelow c.strings text n = subst (λ (k : ℕ). AreBelow c.strings text k) (sym had.same) x.below in
    let some : 0 < latest_of before text = omega (arith, had.same, near) in
    let equal : string_at c.strings (n - 1) ≡ text = rw had.same (x.indexed.latest.equal text some) in
    found_below c.strings text n r below (omega arith) few equal is (omega arith)

pub indexed_had : (c : Chained) (before after : Latest) (text : List ℕ) (last number n : ℕ) → IsNext c before text last number n
    → n ≤ length c.strings → HasPut before after text n → IsIndexed c after
indexed_had c before after text last number n x few put = indexed_same c before after (λ t. same t (bytes_eq text t) refl) x.indexed
  where
    had : HadNumber c before text last n
    had = had_number c before text last number n x few

    same : (t : List ℕ) (b : Bool) → bytes_eq text t ≡ b → latest_of after t ≡ latest_of before t
    same t true is = put t ∙ rw is (had.same ∙ ap (latest_of before) ((bytes_eq-Decides text t).0 is))
    same t false other = put_other before after text n put t other

-- the map had none
record HadNone (c : Chained) (before : Latest) (text : List ℕ) (last number n : ℕ) : Type 0 where
  same : n ≡ number
  past : latest_of before text ≤ last

had_none : (c : Chained) (before : Latest) (text : List ℕ) (last number n : ℕ) → IsNext c before text last number n
    → length c.strings < n → HadNone c before text last number n
had_none c before text last number n x more = elim (cases_lt last (latest_of before text)) [
  | inl near ↦
      let yes : nat_lt last (latest_of before text) ≡ true = grind (arith, nat_tests) in
      let same : n ≡ latest_of before text = rw yes at x.is in
      absurd (omega (arith, same, more, x.indexed.latest.within text))
  | inr past ↦
      let no : nat_lt last (latest_of before text) ≡ false = grind (arith, nat_tests) in
      let same : n ≡ number = rw no at x.is in
      record { same = same; past = past }
]

pub reference_lacked : (c : Chained) (before : Latest) (text : List ℕ) (last number n : ℕ) → IsNext c before text last number n
    → length c.strings < n → reference_of c.strings text ≡ None
reference_lacked c before text last number n x more =
    let past : latest_of before text ≤ last = (had_none c before text last number n x more).past in
    let far : last ≡ length c.strings - 15000 = x.far in
    none_below c.strings text (latest_of before text) x.below (λ some. omega arith)

pub indexed_lacked : (c : Chained) (before after : Latest) (text : List ℕ) (last number n previous bucket : ℕ)
    → IsNext c before text last number n → length c.strings < n → bucket ≡ bucket_of text → IsLastIn c bucket previous
    → HasPut before after text n → IsIndexed (pushed c text previous) after
indexed_lacked c before after text last number n previous bucket x more bucket_is last_is put =
    let same : n ≡ number = (had_none c before text last number n x more).same in
    indexed_kept c before after text previous n bucket bucket_is (same ∙ x.next) last_is put x.indexed
