-- A list that is read is spelled, and what is spelled is read.
use Rattle.std.proofs.Common.{◌≡◌, ℕ, suc, ◌+◌, ◌<◌, ◌≤◌, true, cond, leb, List, [], ◌∷◌, ◌++◌, length, Option, Some}
use Rattle.std.proofs.Common.{None, refl, sym, subst, ◌∙◌, arith, lit<, lit≤}
use Rattle.std.specs.Prelude.{◌≢◌, ◌==◌, ℤ}
use Rattle.std.specs.List.{AllByRecursion}
use Rattle.std.proofs.lemmas.Bool.Decides.{nat_tests}
use Rattle.std.proofs.lemmas.List.{length-append}
use Rattle.std.proofs.lemmas.Option.{same_Some}
use Rattle.osm_model.specs.Change.{HasMemberId}
use Rattle.osm_model.specs.Limits.{IsId}
use Rattle.osm_model.specs.Lists.{IsTag, IsRole}
use Rattle.osm_model.specs.declared.kind.Kind.{Kind}
use Rattle.osm_model.specs.declared.kind.Kind.TheVariants.{Node, Way, Relation}
use Rattle.osm_model.specs.declared.lists.Member.{Member}
use Rattle.osm_model.specs.declared.lists.Tag.{Tag}
use Rattle.std.specs.Char.{digit_value}
use Rattle.osm_opl.specs.Flat.{IsMember}
use Rattle.osm_opl.specs.Escape.{is_reserved}
use Rattle.osm_opl.specs.Lists.{Each, none, item, SpellsList, empty, items, letter_of, SpellsTag, SpellsRef, SpellsMember}
use Rattle.osm_reading.specs.Pieces.{joined, pieces}
use Rattle.osm_opl.specs.Reading.{each_at, id_at, kind_at, list_at, list_pieces, member_after, member_at, ref_at, tag_at, text_at}
use Rattle.osm_reading.specs.Answers.{and_then}
use Rattle.osm_reading.specs.Pieces.{cut_at}
use Rattle.osm_reading.proofs.StepLemmas.{some_then, guard_some, chosen}
use Rattle.osm_reading.specs.Pieces.{Lacks}
use Rattle.osm_reading.proofs.PieceLemmas.{cut_takes, cut_again, joined-pieces, lacks_append, pieces-joined, pieces_some}
use Rattle.osm_opl.proofs.NumberLaws.{id_takes, id_again, id_lacks, TakesId}
use Rattle.osm_opl.proofs.EscapeLemmas.{text_is}
use Rattle.osm_opl.proofs.EscapeLaws.{text_takes, text_again, text_lacks}

-- a space, a line feed or a carriage return
pub record IsBlank (s : ℕ) : Type 0 where
  pub reserved : is_reserved s ≡ true
  pub low : s < 37
  pub far : 16 ≤ digit_value s

-- what has to hold for a reader of items
pub record ReadsItems {X : Type 0} (read : List ℕ → Option X) (Spells : List ℕ → X → Type 0) (Limits : X → Type 0) : Type 0 where
  pub takes : (p : List ℕ) (x : X) → read p ≡ Some x → Spells p x
  pub limits : (p : List ℕ) (x : X) → read p ≡ Some x → Limits x
  pub again : (p : List ℕ) (x : X) → Spells p x → Limits x → read p ≡ Some x
  pub some : (p : List ℕ) (x : X) → Spells p x → 0 < length p
  pub no_comma : (p : List ℕ) (x : X) → Spells p x → Lacks 44 p
  pub no_blank : (s : ℕ) → IsBlank s → (p : List ℕ) (x : X) → Spells p x → Lacks s p

each_takes : {X : Type 0} (read : List ℕ → Option X) (Spells : List ℕ → X → Type 0) (Limits : X → Type 0)
    → ReadsItems read Spells Limits → (ps : List (List ℕ)) (xs : List X) → each_at read ps ≡ Some xs → Each Spells ps xs
    × AllByRecursion Limits xs
each_takes {X} read Spells Limits r [] xs e = let same : [] ≡ xs = same_Some [] xs e in rw (← same) (none, tt)
each_takes {X} read Spells Limits r (p ∷ ps) xs e =
    let a = some_then (read p) (λ (x : X). and_then {A = List X} {B = List X} (each_at read ps) (λ ys. Some (x ∷ ys))) xs e in
    let b = some_then (each_at read ps) (λ (ys : List X). Some (a.0 ∷ ys)) xs a.2 in
    let same : a.0 ∷ b.0 ≡ xs = same_Some (a.0 ∷ b.0) xs b.2 in
    let inner = each_takes read Spells Limits r ps b.0 b.1 in
    rw (← same) (item p ps a.0 b.0 (r.takes p a.0 a.1) inner.0, (r.limits p a.0 a.1, inner.1))

each_again : {X : Type 0} (read : List ℕ → Option X) (Spells : List ℕ → X → Type 0) (Limits : X → Type 0)
    → ReadsItems read Spells Limits → (ps : List (List ℕ)) (xs : List X) → Each Spells ps xs → AllByRecursion Limits xs
    → each_at read ps ≡ Some xs
each_again read Spells Limits r _ _ none limits = refl
each_again read Spells Limits r _ _ (item p ps x xs h more) limits =
    rw (r.again p x h limits.0, each_again read Spells Limits r ps xs more limits.1) refl

each_lacks : {X : Type 0} (Spells : List ℕ → X → Type 0) (s : ℕ) → ((p : List ℕ) (x : X) → Spells p x → Lacks s p)
    → (ps : List (List ℕ)) (xs : List X) → Each Spells ps xs → AllByRecursion (Lacks s) ps
each_lacks Spells s f _ _ none = tt
each_lacks Spells s f _ _ (item p ps x xs h more) = (f p x h, each_lacks Spells s f ps xs more)

pub joined_lacks : (separator s : ℕ) (ps : List (List ℕ)) → s ≢ separator → AllByRecursion (Lacks s) ps → Lacks s (joined separator ps)
joined_lacks separator s [] other h = tt
joined_lacks separator s (p ∷ []) other h = h.0
joined_lacks separator s (p ∷ q ∷ ps) other h = lacks_append s p (separator ∷ joined separator (q ∷ ps)) h.0
    (λ e. other (sym e), joined_lacks separator s (q ∷ ps) other h.1)

pub record TakesList {X : Type 0} (Spells : List ℕ → X → Type 0) (Limits : X → Type 0) (most : ℕ) (bytes : List ℕ) (xs : List X) : Type 0 where
  pub spells : SpellsList Spells bytes xs
  pub few : length xs ≤ most
  pub each : AllByRecursion Limits xs

list_spelled : {X : Type 0} (read : List ℕ → Option X) (Spells : List ℕ → X → Type 0) (Limits : X → Type 0)
    → ReadsItems read Spells Limits → (bytes : List ℕ) (xs : List X) → each_at read (list_pieces bytes) ≡ Some xs
    → SpellsList Spells bytes xs × AllByRecursion Limits xs
list_spelled read Spells Limits r [] xs e = let same : [] ≡ xs = same_Some [] xs e in rw (← same) (empty, tt)
list_spelled {X} read Spells Limits r (b ∷ bs) xs e =
    let q = pieces_some 44 (b ∷ bs) in
    let f : each_at read (q.0 ∷ q.1) ≡ Some xs = rw q.2 at e in
    let h = each_takes read Spells Limits r (q.0 ∷ q.1) xs f in
    let whole : joined 44 (q.0 ∷ q.1) ≡ b ∷ bs = rw q.2 at (joined-pieces 44 (b ∷ bs)) in
    let spelled : SpellsList Spells (joined 44 (q.0 ∷ q.1)) xs = items q.0 q.1 xs h.0 in
    let P : List ℕ → Type 0 = λ l. SpellsList Spells l xs in
    (subst P whole spelled, h.1)

pub list_takes : {X : Type 0} (read : List ℕ → Option X) (Spells : List ℕ → X → Type 0) (Limits : X → Type 0)
    → ReadsItems read Spells Limits → (most : ℕ) (bytes : List ℕ) (xs : List X) → list_at read most bytes ≡ Some xs
    → TakesList Spells Limits most bytes xs
unfolding list_at
list_takes {X} read Spells Limits r most bytes xs e =
    let x = some_then (each_at read (list_pieces bytes)) (λ (xs : List X). cond (leb (length xs) most) (Some xs) None) xs e in
    let g = guard_some (leb (length x.0) most) (Some x.0) xs x.2 in
    let t : leb (length x.0) most ≡ true = g.0 in
    let few : length x.0 ≤ most = grind (arith, nat_tests) in
    let same : x.0 ≡ xs = same_Some x.0 xs g.1 in
    let h = list_spelled read Spells Limits r bytes x.0 x.1 in
    rw (← same) (record { spells = h.0; few = few; each = h.1 })

list_pieces-some : (bytes : List ℕ) → 0 < length bytes → list_pieces bytes ≡ pieces 44 bytes
list_pieces-some [] h = absurd (omega arith)
list_pieces-some (b ∷ bs) h = refl

joined_some : (s : ℕ) (p : List ℕ) (ps : List (List ℕ)) → 0 < length p → 0 < length (joined s (p ∷ ps))
joined_some s p [] h = h
joined_some s p (q ∷ qs) h = let l : length (p ++ s ∷ joined s (q ∷ qs)) ≡ length p + suc (length (joined s (q ∷ qs))) =
    length-append p (s ∷ joined s (q ∷ qs)) in omega arith

first_some : {X : Type 0} (Spells : List ℕ → X → Type 0) → ((p : List ℕ) (x : X) → Spells p x → 0 < length p)
    → (p : List ℕ) (ps : List (List ℕ)) (xs : List X) → Each Spells (p ∷ ps) xs → 0 < length p
first_some Spells f _ _ _ (item p ps x xs h more) = f p x h

pub list_again : {X : Type 0} (read : List ℕ → Option X) (Spells : List ℕ → X → Type 0) (Limits : X → Type 0)
    → ReadsItems read Spells Limits → (most : ℕ) (bytes : List ℕ) (xs : List X) → SpellsList Spells bytes xs
    → length xs ≤ most → AllByRecursion Limits xs → list_at read most bytes ≡ Some xs
unfolding list_at
list_again {X} read Spells Limits r most _ _ empty few limits = let t : leb 0 most ≡ true = grind (arith, nat_tests) in rw t refl
list_again {X} read Spells Limits r most _ _ (items p ps xs each) few limits =
    let some : 0 < length (joined 44 (p ∷ ps)) = joined_some 44 p ps (first_some Spells r.some p ps xs each) in
    let cut : list_pieces (joined 44 (p ∷ ps)) ≡ p ∷ ps = list_pieces-some (joined 44 (p ∷ ps)) some
    ∙ pieces-joined 44 p ps (each_lacks Spells 44 r.no_comma (p ∷ ps) xs each) in
    let t : leb (length xs) most ≡ true = grind (arith, nat_tests) in
    let whole : each_at read (p ∷ ps) ≡ Some xs = each_again read Spells Limits r (p ∷ ps) xs each limits in
    rw (cut, whole, t) refl

pub list_lacks : {X : Type 0} (read : List ℕ → Option X) (Spells : List ℕ → X → Type 0) (Limits : X → Type 0)
    → ReadsItems read Spells Limits → (s : ℕ) → IsBlank s → (bytes : List ℕ) (xs : List X) → SpellsList Spells bytes xs
    → Lacks s bytes
list_lacks read Spells Limits r s b _ _ empty = tt
list_lacks read Spells Limits r s b _ _ (items p ps xs each) = joined_lacks 44 s (p ∷ ps) (λ e. omega (arith, e, b.low))
    (each_lacks Spells s (r.no_blank s b) (p ∷ ps) xs each)

-- ---- tags

tag_taken : (p : List ℕ) (t : Tag) → tag_at p ≡ Some t → SpellsTag p t × IsTag t
unfolding tag_at
tag_taken p t e =
    let c = some_then (cut_at 61 p) (λ (c : List ℕ × List ℕ). and_then {A = List ℕ} {B = Tag} (text_at c.0)
    (λ key. and_then {A = List ℕ} {B = Tag} (text_at c.1) (λ value. Some (record { key = key; value = value })))) t
    e in
    let k = some_then (text_at c.0.0) (λ (key : List ℕ). and_then {A = List ℕ} {B = Tag} (text_at c.0.1)
    (λ value. Some (record { key = key; value = value }))) t c.2 in
    let v = some_then (text_at c.0.1) (λ (value : List ℕ). Some (let u : Tag = record { key = k.0; value = value } in u)) t k.2 in
    let made : Tag = record { key = k.0; value = v.0 } in
    let same : made ≡ t = same_Some made t v.2 in
    let P : Tag → Type 0 = λ u. SpellsTag p u × IsTag u in
    subst P same (
      record {
        before = c.0.0;
        after = c.0.1;
        parts = cut_takes 61 p c.0.0 c.0.1 c.1;
        key =
            text_takes c.0.0 k.0 k.1;
        value = text_takes c.0.1 v.0 v.1;
      },
      record {
        key = text_is c.0.0 k.0 k.1;
        value =
            text_is c.0.1 v.0 v.1;
      },
    )

tag_again : (p : List ℕ) (t : Tag) → SpellsTag p t → IsTag t → tag_at p ≡ Some t
unfolding tag_at
tag_again p t h limits =
    let cut : cut_at 61 (h.before ++ 61 ∷ h.after) ≡ Some (h.before, h.after) =
    cut_again 61 h.before h.after (text_lacks 61 h.before t.key refl (λ e. omega (arith, e)) (lit≤ tt) h.key) in
    rw (h.parts, cut, text_again h.before t.key h.key limits.key, text_again h.after t.value h.value limits.value) refl

tag_some : (p : List ℕ) (t : Tag) → SpellsTag p t → 0 < length p
tag_some p t h = let l : length (h.before ++ 61 ∷ h.after) ≡ length h.before + suc (length h.after) =
    length-append h.before (61 ∷ h.after) in rw h.parts (omega arith)

tag_lacks : (s : ℕ) (p : List ℕ) (t : Tag) → is_reserved s ≡ true → s ≢ 37 → s ≢ 61 → 16 ≤ digit_value s → SpellsTag p t → Lacks s p
tag_lacks s p t r n37 n61 far h =
    rw h.parts (lacks_append s h.before (61 ∷ h.after) (text_lacks s h.before t.key r n37 far h.key)
    (λ e. n61 (sym e), text_lacks s h.after t.value r n37 far h.value))

pub tags_read : ReadsItems tag_at SpellsTag IsTag
tags_read = record {
  takes = λ p t e. (tag_taken p t e).0;
  limits = λ p t e. (tag_taken p t e).1;
  again = tag_again;
  some = tag_some;
  no_comma = λ p t h. tag_lacks 44 p t refl (λ e. omega (arith, e)) (λ e. omega (arith, e)) (lit≤ tt) h;
  no_blank = λ s b p t h. tag_lacks s p t b.reserved (λ e. omega (arith, e, b.low)) (λ e. omega (arith, e, b.low)) b.far h;
}

-- ---- nodes of a way

ref_taken : (p : List ℕ) (id : ℤ) → ref_at p ≡ Some id → SpellsRef p id × IsId id
unfolding ref_at
ref_taken [] id e = absurd cc
ref_taken (b ∷ bs) id e =
    let g = guard_some (b == 110) (id_at bs) id e in
    let t : (b == 110) ≡ true = g.0 in
    let same : b ≡ 110 = grind (arith, nat_tests) in
    let k : TakesId bs id = id_takes bs id g.1 in
    (record { digits = bs; parts = rw same refl; spells = k.spells }, k.limits)

ref_again : (p : List ℕ) (id : ℤ) → SpellsRef p id → IsId id → ref_at p ≡ Some id
unfolding ref_at
ref_again p id h limits = rw h.parts (id_again h.digits id h.spells limits)

ref_lacks : (s : ℕ) (p : List ℕ) (id : ℤ) → 10 ≤ digit_value s → s ≢ 46 → s ≢ 45 → s ≢ 110 → SpellsRef p id → Lacks s p
ref_lacks s p id far n46 n45 n110 h = rw h.parts (λ e. n110 (sym e), id_lacks s h.digits id far n46 n45 h.spells)

pub refs_read : ReadsItems ref_at SpellsRef IsId
refs_read = record {
  takes = λ p id e. (ref_taken p id e).0;
  limits = λ p id e. (ref_taken p id e).1;
  again = ref_again;
  some = λ p id h. rw h.parts (omega arith);
  no_comma = λ p id h. ref_lacks 44 p id (lit≤ tt) (λ e. omega (arith, e)) (λ e. omega (arith, e)) (λ e. omega (arith, e)) h;
  no_blank = λ s b p id h. ref_lacks s p id (omega (arith, b.far)) (λ e. omega (arith, e, b.low))
      (λ e. omega (arith, e, b.low)) (λ e. omega (arith, e, b.low)) h;
}

-- ---- members

pub kind_taken : (b : ℕ) (kind : Kind) → kind_at b ≡ Some kind → b ≡ letter_of kind
kind_taken b kind e =
    chosen (b == 110) (Some Node) (cond (b == 119) (Some Way) (cond (b == 114) (Some Relation) None)) (Some kind) e (b ≡ letter_of kind)
    (λ t is. let k : Node ≡ kind = same_Some Node kind is in let same : b ≡ 110 = grind (arith, nat_tests) in rw (← k) same)
    (λ f is. chosen (b == 119) (Some Way) (cond (b == 114) (Some Relation) None) (Some kind) is (b ≡ letter_of kind)
    (λ t is. let k : Way ≡ kind = same_Some Way kind is in let same : b ≡ 119 = grind (arith, nat_tests) in rw (← k) same)
    (λ f is. let g = guard_some (b == 114) (Some Relation) kind is in let t : (b == 114) ≡ true = g.0 in
    let k : Relation ≡ kind = same_Some Relation kind g.1 in let same : b ≡ 114 = grind (arith, nat_tests) in
    rw (← k) same))

pub kind_again : (kind : Kind) → kind_at (letter_of kind) ≡ Some kind
kind_again Node = refl
kind_again Way = refl
kind_again Relation = refl

member_taken : (p : List ℕ) (m : Member) → member_at p ≡ Some m → SpellsMember p m × IsMember m
unfolding member_at
member_taken [] m e = absurd cc
member_taken (b ∷ bs) m e =
    let k = some_then (kind_at b) (member_after bs) m e in
    let c = some_then (cut_at 64 bs) (λ (c : List ℕ × List ℕ). and_then {A = ℤ} {B = Member} (id_at c.0)
    (λ id. and_then {A = List ℕ} {B = Member} (text_at c.1)
    (λ role. Some (record { key = record { kind = k.0; id = id }; role = role })))) m k.2 in
    let i = some_then (id_at c.0.0) (λ (id : ℤ). and_then {A = List ℕ} {B = Member} (text_at c.0.1)
    (λ role. Some (record { key = record { kind = k.0; id = id }; role = role }))) m c.2 in
    let r = some_then (text_at c.0.1) (λ (role : List ℕ). Some (let u : Member = record { key = record { kind = k.0; id = i.0 }; role = role } in u)) m i.2 in
    let made : Member = record { key = record { kind = k.0; id = i.0 }; role = r.0 } in
    let same : made ≡ m = same_Some made m r.2 in
    let letter : b ≡ letter_of k.0 = kind_taken b k.0 k.1 in
    let rest : bs ≡ c.0.0 ++ 64 ∷ c.0.1 = cut_takes 64 bs c.0.0 c.0.1 c.1 in
    let t : TakesId c.0.0 i.0 = id_takes c.0.0 i.0 i.1 in
    let P : Member → Type 0 = λ u. SpellsMember (b ∷ bs) u × IsMember u in
    subst P same (
      record { before = c.0.0; after = c.0.1; parts = cc; id = t.spells; role = text_takes c.0.1 r.0 r.1 },
      record { id = t.limits; role = text_is c.0.1 r.0 r.1 },
    )

member_again : (p : List ℕ) (m : Member) → SpellsMember p m → IsMember m → member_at p ≡ Some m
unfolding member_at
member_again p m h limits =
    let cut : cut_at 64 (h.before ++ 64 ∷ h.after) ≡ Some (h.before, h.after) =
    cut_again 64 h.before h.after (id_lacks 64 h.before m.key.id (lit≤ tt) (λ e. omega (arith, e))
    (λ e. omega (arith, e)) h.id) in
    rw (h.parts, kind_again m.key.kind, cut, id_again h.before m.key.id h.id limits.id, text_again h.after m.role h.role limits.role) refl

letter_lacks : (s : ℕ) (kind : Kind) → s < 100 → letter_of kind ≢ s
letter_lacks s Node h = λ e. omega (arith, e)
letter_lacks s Way h = λ e. omega (arith, e)
letter_lacks s Relation h = λ e. omega (arith, e)

member_lacks : (s : ℕ) (p : List ℕ) (m : Member) → is_reserved s ≡ true → s ≢ 37 → s ≢ 64 → s ≢ 46 → s ≢ 45 → s < 100
    → 16 ≤ digit_value s → SpellsMember p m → Lacks s p
member_lacks s p m r n37 n64 n46 n45 low far h =
    rw h.parts (
      letter_lacks s m.key.kind low,
      lacks_append s h.before (64 ∷ h.after)
          (id_lacks s h.before m.key.id (omega arith) n46 n45 h.id)
          (λ e. n64 (sym e), text_lacks s h.after m.role r n37 far h.role),
    )

pub members_read : ReadsItems member_at SpellsMember IsMember
members_read = record {
  takes = λ p m e. (member_taken p m e).0;
  limits = λ p m e. (member_taken p m e).1;
  again = member_again;
  some = λ p m h. rw h.parts (omega arith);
  no_comma = λ p m h. member_lacks 44 p m refl (λ e. omega (arith, e)) (λ e. omega (arith, e)) (λ e. omega (arith, e))
      (λ e. omega (arith, e)) (lit< tt) (lit≤ tt) h;
  no_blank = λ s b p m h. member_lacks s p m b.reserved (λ e. omega (arith, e, b.low)) (λ e. omega (arith, e, b.low))
      (λ e. omega (arith, e, b.low)) (λ e. omega (arith, e, b.low)) (omega (arith, b.low)) b.far h;
}

-- members within the limits, as the two lists of facts that the model has
pub members_split : (ms : List Member) → AllByRecursion IsMember ms → AllByRecursion HasMemberId ms × AllByRecursion IsRole ms
members_split [] h = (tt, tt)
members_split (m ∷ ms) h = let r = members_split ms h.1 in ((h.0.id, r.0), (h.0.role, r.1))

pub members_join : (ms : List Member) → AllByRecursion HasMemberId ms → AllByRecursion IsRole ms → AllByRecursion IsMember ms
members_join [] ids roles = tt
members_join (m ∷ ms) ids roles = (record { id = ids.0; role = roles.0 }, members_join ms ids.1 roles.1)

pub space : IsBlank 32
space = record { reserved = refl; low = lit< tt; far = lit≤ tt }

pub line_feed : IsBlank 10
line_feed = record { reserved = refl; low = lit< tt; far = lit≤ tt }

pub carriage_return : IsBlank 13
carriage_return = record { reserved = refl; low = lit< tt; far = lit≤ tt }
