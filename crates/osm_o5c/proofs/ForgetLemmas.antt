-- Strings that can't be named any more may be forgotten: what is written afterwards is the same.
use Rattle.std.proofs.Common.{◌≡◌, ℕ, ◌+◌, ◌-◌, ◌<◌, ◌≤◌, true, false, leb, List, [], ◌∷◌, ◌++◌, length, take, drop, get_or, suc, Bool}
use Rattle.std.proofs.Common.{Option, Some, None, refl, sym, ap, ◌∙◌, arith, inl, inr}
use Rattle.std.specs.Prelude.{if◌then◌else◌}
use Rattle.std.specs.Str.{bytes_eq}
use Rattle.std.proofs.lemmas.Bool.{cases_Bool}
use Rattle.std.proofs.lemmas.Bool.Decides.{nat_tests}
use Rattle.std.proofs.lemmas.List.{length-append, length-drop, take-append-drop, get_or-drop}
use Rattle.std.proofs.Math.Seq.{take-suc}
use Rattle.osm_o5c.specs.Steps.Index.{string_at}
use Rattle.osm_model.specs.Change.{ChangeValue}
use Rattle.osm_model.specs.Meta.{MetaValue}
use Rattle.osm_model.specs.declared.kind.Kind.{Kind}
use Rattle.osm_model.specs.declared.change.What.{What}
use Rattle.osm_model.specs.declared.change.What.TheVariants.{Node, Way, Relation, Deleted}
use Rattle.osm_model.specs.declared.lists.Member.{Member}
use Rattle.osm_model.specs.declared.lists.Tag.{Tag}
use Rattle.osm_o5c.specs.Context.{kind_digit}
use Rattle.osm_o5c.specs.Written.{last_equal, reference_of, entered_by, number_text, pair_in_line, single_in_line}
use Rattle.osm_o5c.specs.Written.{pair_text, after_pair, single_text, after_single, meta_text, tags_text, after_tags}
use Rattle.osm_o5c.specs.Written.{member_text, after_member, members_text, after_members, what_text, after_what, after_meta}
use Rattle.osm_o5c.specs.Written.{object_text, after_object, change_text, after_change, objects_text, is_other}
use Rattle.osm_o5c.specs.Written.{difference_text, part_text}
use Rattle.osm_o5c.specs.declared.counters.Counters.{Counters}
use Rattle.osm_o5c.specs.declared.writer.State.{State}

-- ---- which numbers name a string

-- the last equal string of a list that goes on after other strings
abbrev behind : ℕ → ℕ → ℕ → ℕ
behind before count last = if leb 1 last then last else (if leb 1 before then before + count else 0)

last_behind : (old strings : List (List ℕ)) (text : List ℕ)
    → last_equal (old ++ strings) text ≡ behind (last_equal old text) (length strings) (last_equal strings text)
last_behind [] strings text =
    elim (cases_Bool (leb 1 (last_equal strings text))) [
      | inl is ↦ rw is refl
      | inr none ↦ (let zero_is : last_equal strings text ≡ 0 = (let l : last_equal strings text < 1 = grind (arith, nat_tests) in omega arith) in
          rw (none, zero_is) refl)
    ]
last_behind (one ∷ old) strings text =
    let inner : last_equal (old ++ strings) text ≡ behind (last_equal old text) (length strings) (last_equal strings text) = last_behind old strings text in
    let many : length (old ++ strings) ≡ length old + length strings = length-append old strings in
    rw (inner, many) (elim (cases_Bool (leb 1 (last_equal strings text))) [
      | inl is ↦ rw (is, is) refl
      | inr none ↦ rw none (elim (cases_Bool (leb 1 (last_equal old text))) [
        | inl before ↦
            let above : leb 1 (last_equal old text + length strings) ≡ true =
            (let l : 1 ≤ last_equal old text = grind (arith, nat_tests) in grind (arith, nat_tests)) in
            rw (before, above, before) refl
        | inr not_before ↦ rw not_before (elim (cases_Bool (bytes_eq one text)) [
          | inl equal ↦
              let above : leb 1 (length old + 1) ≡ true = grind (arith, nat_tests) in
              let sum : length old + length strings + 1 ≡ length old + 1 + length strings = omega arith in
              rw (equal, above, sum) refl
          | inr other ↦ rw other refl
        ])
      ])
    ])

-- the same numbers name the same texts
abbrev pub NamesAlike : List (List ℕ) → List (List ℕ) → Type 0
NamesAlike a b = (text : List ℕ) → reference_of a text ≡ reference_of b text

-- the number that names a text after one more string, which is that text or isn't
abbrev after_one : Bool → Option ℕ → Option ℕ
after_one true number = Some 1
after_one false None = None
after_one false (Some k) = if leb (k + 1) 15000 then Some (k + 1) else None

reference_more : (strings : List (List ℕ)) (x text : List ℕ)
    → reference_of (strings ++ x ∷ []) text ≡ after_one (bytes_eq x text) (reference_of strings text)
reference_more strings x text =
    let last : last_equal (strings ++ x ∷ []) text ≡ behind (last_equal strings text) 1 (last_equal (x ∷ []) text) =
    last_behind strings (x ∷ []) text in
    rw last (elim (cases_Bool (bytes_eq x text)) [
      | inl equal ↦ rw equal refl
      | inr other ↦ rw other (elim (cases_Bool (leb 1 (last_equal strings text))) [
        | inl some ↦
            let l : 1 ≤ last_equal strings text = grind (arith, nat_tests) in
            let above : leb 1 (last_equal strings text + 1) ≡ true = grind (arith, nat_tests) in
            rw (some, above) (elim (cases_Bool (leb (last_equal strings text) 15000)) [
              | inl near ↦ rw near refl
              | inr far ↦
                  let past : leb (last_equal strings text + 1) 15000 ≡ false =
                  (let p : 15000 < last_equal strings text = grind (arith, nat_tests) in grind (arith, nat_tests)) in
                  rw (far, past) refl
            ])
        | inr none ↦ rw none refl
      ])
    ])

alike_more : (a b : List (List ℕ)) (x : List ℕ) → NamesAlike a b → NamesAlike (a ++ x ∷ []) (b ++ x ∷ [])
alike_more a b x alike text =
    reference_more a x text
    ∙ ap (λ (r : Option ℕ). after_one (bytes_eq x text) r) (alike text)
    ∙ sym (reference_more b x text)

-- of strings of which at least 15,000 are last, the others name nothing
pub alike_after : (old strings : List (List ℕ)) → 15000 ≤ length strings → NamesAlike strings (old ++ strings)
alike_after old strings many text =
    let last : last_equal (old ++ strings) text ≡ behind (last_equal old text) (length strings) (last_equal strings text) =
    last_behind old strings text in
    rw last (elim (cases_Bool (leb 1 (last_equal strings text))) [
      | inl some ↦ rw (some, some) refl
      | inr none ↦ rw none (elim (cases_Bool (leb 1 (last_equal old text))) [
        | inl before ↦
            let l : 1 ≤ last_equal old text = grind (arith, nat_tests) in
            let above : leb 1 (last_equal old text + length strings) ≡ true = grind (arith, nat_tests) in
            let past : leb (last_equal old text + length strings) 15000 ≡ false = grind (arith, nat_tests) in
            rw (before, above, past) refl
        | inr not_before ↦ rw not_before refl
      ])
    ])

-- ---- what is written

alike_entered : (r : Option ℕ) (a b : List (List ℕ)) (text : List ℕ) (size : ℕ) → NamesAlike a b
    → NamesAlike (entered_by r a text size) (entered_by r b text size)
alike_entered (Some k) a b text size alike = alike
alike_entered None a b text size alike =
    elim (cases_Bool (leb size 250)) [
      | inl short ↦ rw short (alike_more a b text alike)
      | inr long ↦ rw long alike
    ]

alike_pair : (a b : List (List ℕ)) (first second : List ℕ) → NamesAlike a b → NamesAlike (after_pair a first second) (after_pair b first second)
alike_pair a b first second alike =
    rw (alike (pair_in_line first second))
    (alike_entered (reference_of b (pair_in_line first second)) a b (pair_in_line first second) (length first + length second) alike)

alike_single : (a b : List (List ℕ)) (text : List ℕ) → NamesAlike a b → NamesAlike (after_single a text) (after_single b text)
alike_single a b text alike =
    rw (alike (single_in_line text))
    (alike_entered (reference_of b (single_in_line text)) a b (single_in_line text) (length text) alike)

same_pair : (a b : List (List ℕ)) (first second : List ℕ) → NamesAlike a b → pair_text a first second ≡ pair_text b first second
same_pair a b first second alike = rw (alike (pair_in_line first second)) refl

same_single : (a b : List (List ℕ)) (text : List ℕ) → NamesAlike a b → single_text a text ≡ single_text b text
same_single a b text alike = rw (alike (single_in_line text)) refl

same_tags : (a b : List (List ℕ)) (tags : List Tag) → NamesAlike a b → tags_text a tags ≡ tags_text b tags
same_tags a b [] alike = refl
same_tags a b (t ∷ ts) alike =
    rw (same_pair a b t.key t.value alike)
    (ap (λ (rest : List ℕ). pair_text b t.key t.value ++ rest)
    (same_tags (after_pair a t.key t.value) (after_pair b t.key t.value) ts (alike_pair a b t.key t.value alike)))

alike_tags : (a b : List (List ℕ)) (tags : List Tag) → NamesAlike a b → NamesAlike (after_tags a tags) (after_tags b tags)
alike_tags a b [] alike = alike
alike_tags a b (t ∷ ts) alike =
    alike_tags (after_pair a t.key t.value) (after_pair b t.key t.value) ts (alike_pair a b t.key t.value alike)

-- a state with these counters and strings
abbrev state_with : Counters → List (List ℕ) → State
state_with counters strings = record { counters = counters; strings = strings }

-- states with the same counters whose strings are named alike
record Alike (s t : State) : Type 0 where
  counters : s.counters ≡ t.counters
  strings : NamesAlike s.strings t.strings

alike_member : (s t : State) (m : Member) → Alike s t → Alike (after_member s m) (after_member t m)
alike_member s t m alike = record {
  counters = rw alike.counters refl;
  strings = alike_single s.strings t.strings (kind_digit m.key.kind ∷ m.role) alike.strings;
}

same_member : (s t : State) (m : Member) → Alike s t → member_text s m ≡ member_text t m
same_member s t m alike =
    rw (alike.counters, same_single s.strings t.strings (kind_digit m.key.kind ∷ m.role) alike.strings) refl

same_members : (s t : State) (members : List Member) → Alike s t → members_text s members ≡ members_text t members
same_members s t [] alike = refl
same_members s t (m ∷ ms) alike =
    rw (same_member s t m alike)
    (ap (λ (rest : List ℕ). member_text t m ++ rest)
    (same_members (after_member s m) (after_member t m) ms (alike_member s t m alike)))

alike_members : (s t : State) (members : List Member) → Alike s t → Alike (after_members s members) (after_members t members)
alike_members s t [] alike = alike
alike_members s t (m ∷ ms) alike = alike_members (after_member s m) (after_member t m) ms (alike_member s t m alike)

same_what : (s t : State) (what : What) → Alike s t → what_text s what ≡ what_text t what
same_what s t (Node lon lat tags) alike = rw (alike.counters, same_tags s.strings t.strings tags alike.strings) refl
same_what s t (Way refs tags) alike = rw (alike.counters, same_tags s.strings t.strings tags alike.strings) refl
same_what s t (Relation members tags) alike =
    rw (same_members s t members alike)
    (ap (λ (rest : List ℕ). part_text (members_text t members) ++ rest)
    (same_tags (after_members s members).strings (after_members t members).strings tags (alike_members s t members alike).strings))
same_what s t Deleted alike = refl

alike_what : (s t : State) (what : What) → Alike s t → Alike (after_what s what) (after_what t what)
alike_what s t (Node lon lat tags) alike = record {
  counters = rw alike.counters refl;
  strings = alike_tags s.strings t.strings tags alike.strings;
}
alike_what s t (Way refs tags) alike = record {
  counters = rw alike.counters refl;
  strings = alike_tags s.strings t.strings tags alike.strings;
}
alike_what s t (Relation members tags) alike =
    let after : Alike (after_members s members) (after_members t members) = alike_members s t members alike in
    record {
      counters = after.counters;
      strings = alike_tags (after_members s members).strings (after_members t members).strings tags after.strings;
    }
alike_what s t Deleted alike = alike

alike_meta : (s t : State) (c : ChangeValue) → Alike s t → Alike (after_meta s c) (after_meta t c)
alike_meta s t c alike = record {
  counters = rw alike.counters refl;
  strings = alike_pair s.strings t.strings (number_text c.meta.uid) c.meta.user alike.strings;
}

same_meta : (s t : State) (m : MetaValue) → Alike s t → meta_text s m ≡ meta_text t m
same_meta s t m alike = rw (alike.counters, same_pair s.strings t.strings (number_text m.uid) m.user alike.strings) refl

same_object : (s t : State) (c : ChangeValue) → Alike s t → object_text s c ≡ object_text t c
same_object s t c alike =
    ap (λ (k : Counters). difference_text k.id c.key.id ++ meta_text s c.meta ++ what_text (after_meta s c) c.what) alike.counters
    ∙ ap (λ (m : List ℕ). difference_text t.counters.id c.key.id ++ m ++ what_text (after_meta s c) c.what) (same_meta s t c.meta alike)
    ∙ ap (λ (w : List ℕ). difference_text t.counters.id c.key.id ++ meta_text t c.meta ++ w)
    (same_what (after_meta s c) (after_meta t c) c.what (alike_meta s t c alike))

alike_object : (s t : State) (c : ChangeValue) → Alike s t → Alike (after_object s c) (after_object t c)
alike_object s t c alike = alike_what (after_meta s c) (after_meta t c) c.what (alike_meta s t c alike)

same_change : (kind : Option Kind) (s t : State) (c : ChangeValue) → Alike s t → change_text kind s c ≡ change_text kind t c
same_change kind s t c alike =
    elim (cases_Bool (is_other kind c.key.kind)) [
      | inl other ↦ rw other refl
      | inr same ↦ rw (same, same_object s t c alike) refl
    ]

alike_change : (kind : Option Kind) (s t : State) (c : ChangeValue) → Alike s t → Alike (after_change kind s c) (after_change kind t c)
alike_change kind s t c alike =
    elim (cases_Bool (is_other kind c.key.kind)) [
      | inl other ↦ rw other (record { counters = refl; strings = λ (text : List ℕ). refl })
      | inr same ↦ rw same (alike_object s t c alike)
    ]

same_objects : (kind : Option Kind) (s t : State) (objects : List ChangeValue) → Alike s t
    → objects_text kind s objects ≡ objects_text kind t objects
same_objects kind s t [] alike = refl
same_objects kind s t (c ∷ cs) alike =
    rw (same_change kind s t c alike)
    (ap (λ (rest : List ℕ). change_text kind t c ++ rest)
    (same_objects (Some c.key.kind) (after_change kind s c) (after_change kind t c) cs (alike_change kind s t c alike)))

-- without the strings that can't be named any more the same is written
pub same_without : (kind : Option Kind) (counters : Counters) (strings recent : List (List ℕ)) (objects : List ChangeValue)
    → 15000 < length strings → recent ≡ drop (length strings - 15000) strings
    → objects_text kind (record { counters = counters; strings = recent }) objects
    ≡ objects_text kind (record { counters = counters; strings = strings }) objects
same_without kind counters strings recent objects many is =
    let count : length recent ≡ 15000 = rw is (omega (arith, length-drop (length strings - 15000) strings)) in
    let parts : take (length strings - 15000) strings ++ recent ≡ strings = rw is (take-append-drop (length strings - 15000) strings) in
    let alike : NamesAlike recent (take (length strings - 15000) strings ++ recent) =
    alike_after (take (length strings - 15000) strings) recent (omega arith) in
    same_objects kind (state_with counters recent) (state_with counters strings) objects
    (record { counters = refl; strings = rw parts at alike })

-- one more of the last strings
pub take_more : (strings : List (List ℕ)) (from index : ℕ) → from ≤ index → index < length strings
    → take (index + 1 - from) (drop from strings) ≡ take (index - from) (drop from strings) ++ string_at strings index ∷ []
take_more strings from index above below =
    let next : index + 1 - from ≡ suc (index - from) = omega arith in
    let within : index - from < length (drop from strings) = omega (arith, length-drop from strings) in
    let place : from + (index - from) ≡ index = omega arith in
    let same : get_or (drop from strings) (index - from) [] ≡ string_at strings index =
    get_or-drop from strings (index - from) [] ∙ ap (λ (i : ℕ). get_or strings i []) place in
    rw (next, take-suc (drop from strings) (index - from) [] within, same) refl
