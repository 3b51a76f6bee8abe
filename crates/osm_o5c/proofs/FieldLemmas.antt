-- Users, tags, references, members and metadata that are read are spelled, and vice versa.
use Rattle.std.proofs.Common.{◌≡◌, ℕ, suc, ◌<◌, true, cond, eqb, List, [], ◌∷◌, ◌++◌, length, Some, None, refl, sym, ap, subst, ◌∙◌, append_assoc, arith}
use Rattle.std.specs.Prelude.{ℤ, pos, ◌+ℤ◌}
use Rattle.std.proofs.lemmas.Bool.Decides.{nat_tests}
use Rattle.std.proofs.lemmas.Option.{same_Some}
use Rattle.std.proofs.lemmas.List.{length-append, append-nil}
use Rattle.osm_model.specs.Change.{HasMemberId}
use Rattle.osm_model.specs.Limits.{IsId, IsPositive}
use Rattle.osm_model.specs.Lists.{IsTag, IsRole}
use Rattle.osm_model.specs.Meta.{MetaValue, IsMeta}
use Rattle.osm_model.specs.Text.{IsText}
use Rattle.osm_model.specs.declared.kind.Kind.{Kind}
use Rattle.osm_model.specs.declared.kind.Kind.TheVariants.{Node, Way, Relation}
use Rattle.osm_model.specs.declared.lists.Member.{Member}
use Rattle.osm_model.specs.declared.lists.Tag.{Tag}
use Rattle.osm_o5c.specs.Number.{SpellsNumber}
use Rattle.osm_o5c.specs.Entries.{SpellsPair, SpellsSingle}
use Rattle.osm_o5c.specs.Context.{Context, total, SpellsSum, members_of, with_members, with_strings, kind_digit}
use Rattle.osm_o5c.specs.Written.{member_counter, with_member_counter}
use Rattle.osm_o5c.specs.Object.{SpellsUser, SpellsMeta, SpellsTag, SpellsMember}
use Rattle.osm_o5c.specs.NumberReading.{varint_at, unsigned_at, signed_at, is_positive, positive_at, positive_sum_at, id_at, is_id}
use Rattle.osm_o5c.specs.StringReading.{pair_at, single_at, text_of, uid_of, user_at, tag_at}
use Rattle.osm_o5c.specs.ObjectReading.{ref_at, kind_of_digit, role_of, member_at, meta_at}
use Rattle.osm_reading.specs.Answers.{and_then, when}
use Rattle.osm_o5c.specs.declared.counters.Counters.{Counters}
use Rattle.osm_o5c.specs.declared.reader.Reader.{Reader}
use Rattle.osm_o5c.specs.declared.strings.Entry.{Entry}
use Rattle.osm_reading.proofs.StepLemmas.{some_then, some_when, chosen}
use Rattle.osm_o5c.proofs.TakenLemmas.{TakenTo, parts_then}
use Rattle.osm_o5c.proofs.NumberLemmas.{unsigned_takes, unsigned_again, signed_takes, signed_again, is_positive_is}
use Rattle.osm_o5c.proofs.NumberLemmas.{is_positive_again, positive_takes, positive_again}
use Rattle.osm_o5c.proofs.CounterLemmas.{total-push, is_id_is, is_id_again, id_takes, id_again, sum_of, sum_some}
use Rattle.osm_o5c.proofs.CounterLemmas.{positive_sum_takes, positive_sum_again, wrapped_total}
use Rattle.osm_o5c.proofs.TableLemmas.{table_of}
use Rattle.osm_o5c.proofs.StringLemmas.{pair_takes, pair_again, pair_some, single_takes, single_again, text_takes, text_again}
use Rattle.osm_o5c.proofs.ManyLemmas.{Within, IsExact}

-- the running counters of a context
abbrev pub counters_of : Context → Counters
counters_of C = record {
  id = total C.ids;
  time = total C.times;
  changeset = total C.changesets;
  lon = wrapped_total C.lons;
  lat = wrapped_total C.lats;
  way_node = total C.way_nodes;
  node_member = total C.node_members;
  way_member = total C.way_members;
  relation_member = total C.relation_members;
}

-- the reader of a context
abbrev pub reader_of : Context → Reader
reader_of C = record { counters = counters_of C; strings = table_of C.strings }

-- ---- users

nothing_left : (l : List ℕ) → eqb (length l) 0 ≡ true → l ≡ []
nothing_left [] e = refl
nothing_left (b ∷ bs) e = absurd (let q : suc (length bs) ≡ 0 = grind (arith, nat_tests) in omega arith)

record UidSpelled (uid : ℕ) (bytes : List ℕ) : Type 0 where
  spells : SpellsNumber bytes uid
  limits : IsPositive uid

uid_takes : (bytes : List ℕ) (uid : ℕ) → uid_of bytes ≡ Some uid → UidSpelled uid bytes
unfolding uid_of
uid_takes bytes uid e =
    let n = some_then (unsigned_at bytes) (λ n. when (eqb (length n.1) 0) (when (is_positive n.0) (Some n.0))) uid e in
    let g = some_when (eqb (length n.0.1) 0) (when (is_positive n.0.0) (Some n.0.0)) uid n.2 in
    let h = some_when (is_positive n.0.0) (Some n.0.0) uid g.1 in
    let t = unsigned_takes bytes n.0 n.1 in
    let whole : bytes ≡ t.prefix = t.parts ∙ ap (λ (l : List ℕ). t.prefix ++ l) (nothing_left n.0.1 g.0) ∙ append-nil t.prefix in
    subst (λ (v : ℕ). UidSpelled v bytes) (same_Some n.0.0 uid h.1)
    (record { spells = subst (λ (l : List ℕ). SpellsNumber l n.0.0) (sym whole) t.spelled; limits = is_positive_is n.0.0 h.0 })

uid_again : (bytes : List ℕ) (uid : ℕ) → SpellsNumber bytes uid → IsPositive uid → uid_of bytes ≡ Some uid
unfolding uid_of
uid_again bytes uid s p =
    let read : unsigned_at bytes ≡ Some (uid, []) = subst (λ (l : List ℕ). unsigned_at l ≡ Some (uid, [])) (append-nil bytes) (unsigned_again bytes uid [] s) in
    rw (read, is_positive_again uid p) refl

-- an empty string isn't a user id
pub no_uid : (bytes : List ℕ) → length bytes ≡ 0 → uid_of bytes ≡ None
unfolding uid_of varint_at
no_uid [] e = refl
no_uid (b ∷ bs) e = absurd (omega arith)

pub record UserSpelled (ss : List Entry) (uid : ℕ) (name prefix : List ℕ) (after : List Entry) : Type 0 where
  pub spells : SpellsUser ss prefix uid name after
  pub uid_limits : IsPositive uid
  pub name_limits : IsText name

pub user_takes : (ss : List Entry) (bytes : List ℕ) (x : (ℕ × List ℕ) × List Entry × List ℕ)
    → user_at (table_of ss) bytes ≡ Some x → TakenTo table_of (UserSpelled ss x.0.0 x.0.1) bytes x.1 x.2
unfolding user_at
user_takes ss bytes x e =
    let p = some_then (pair_at (table_of ss) bytes)
    (λ p. and_then (uid_of p.0.0) (λ uid. and_then (text_of p.0.1) (λ name. Some ((uid, name), p.1, p.2)))) x e in
    let u = some_then (uid_of p.0.0.0) (λ uid. and_then (text_of p.0.0.1) (λ name. Some ((uid, name), p.0.1, p.0.2))) x p.2 in
    let n = some_then (text_of p.0.0.1) (λ name. Some ((u.0, name), p.0.1, p.0.2)) x u.2 in
    let t = pair_takes ss bytes p.0 p.1 in
    let uid : UidSpelled u.0 p.0.0.0 = uid_takes p.0.0.0 u.0 u.1 in
    let name = text_takes p.0.0.1 n.0 n.1 in
    subst (λ (q : (ℕ × List ℕ) × List Entry × List ℕ). TakenTo table_of (UserSpelled ss q.0.0 q.0.1) bytes q.1 q.2) (same_Some ((u.0, n.0), p.0.1, p.0.2) x n.2)
    (record {
      prefix = t.prefix;
      after = t.after;
      parts = t.parts;
      spelled = record {
        spells = record { first = p.0.0.0; pair = subst (λ (l : List ℕ). SpellsPair ss t.prefix p.0.0.0 l t.after) name.0 t.spelled; number = uid.spells };
        uid_limits = uid.limits;
        name_limits = name.1;
      };
      same = t.same;
    })

pub user_again : (ss : List Entry) (prefix : List ℕ) (uid : ℕ) (name : List ℕ) (after : List Entry) (rest : List ℕ)
    → SpellsUser ss prefix uid name after → IsPositive uid → IsText name → user_at (table_of ss) (prefix ++ rest) ≡
    Some ((uid, name), table_of after, rest)
unfolding user_at
user_again ss prefix uid name after rest s p t =
    rw (pair_again ss prefix s.first name after rest s.pair, uid_again s.first uid s.number p, text_again name t) refl

-- ---- tags

pub tag_takes : (ss : List Entry) (bytes : List ℕ) (x : Tag × List Entry × List ℕ) → tag_at (table_of ss) bytes ≡ Some x
    → TakenTo table_of (Within SpellsTag IsTag ss x.0) bytes x.1 x.2
unfolding tag_at
tag_takes ss bytes x e =
    let p = some_then (pair_at (table_of ss) bytes)
    (λ p. and_then (text_of p.0.0)
    (λ key. and_then (text_of p.0.1) (λ value. Some (record { key = key; value = value }, p.1, p.2)))) x e in
    let k = some_then (text_of p.0.0.0) (λ key. and_then (text_of p.0.0.1) (λ value. Some (record { key = key; value = value }, p.0.1, p.0.2))) x p.2 in
    let v = some_then (text_of p.0.0.1) (λ value. Some (record { key = k.0; value = value }, p.0.1, p.0.2)) x k.2 in
    let t = pair_takes ss bytes p.0 p.1 in
    let key = text_takes p.0.0.0 k.0 k.1 in
    let value = text_takes p.0.0.1 v.0 v.1 in
    let spells : SpellsPair ss t.prefix k.0 v.0 t.after = subst (λ (l : List ℕ). SpellsPair ss t.prefix l v.0 t.after)
    key.0 (subst (λ (l : List ℕ). SpellsPair ss t.prefix p.0.0.0 l t.after) value.0 t.spelled) in
    subst (λ (q : Tag × List Entry × List ℕ). TakenTo table_of (Within SpellsTag IsTag ss q.0) bytes q.1 q.2)
    (same_Some (record { key = k.0; value = v.0 }, p.0.1, p.0.2) x v.2)
    (record {
      prefix = t.prefix;
      after = t.after;
      parts = t.parts;
      spelled =
          record { spelled_so = spells; within = record { key = key.1; value = value.1 } };
      same = t.same;
    })

pub tag_again : (ss : List Entry) (prefix : List ℕ) (t : Tag) (after : List Entry) (rest : List ℕ)
    → SpellsTag ss prefix t after → IsTag t → tag_at (table_of ss) (prefix ++ rest) ≡ Some (t, table_of after, rest)
unfolding tag_at
tag_again ss prefix t after rest s l =
    rw (pair_again ss prefix t.key t.value after rest s, text_again t.key l.key, text_again t.value l.value) refl

pub tag_exact : IsExact table_of tag_at SpellsTag IsTag
tag_exact = record { takes = tag_takes; again = tag_again; some = λ ss prefix t after s. pair_some ss prefix t.key t.value after s }

-- ---- references

pub ref_takes : (before : List ℤ) (bytes : List ℕ) (x : ℤ × ℤ × List ℕ) → ref_at (total before) bytes ≡ Some x
    → TakenTo total (Within SpellsSum IsId before x.0) bytes x.1 x.2
unfolding ref_at
ref_takes before bytes x e =
    let r = some_then (id_at (total before) bytes) (λ r. Some (r.0, r.0, r.1)) x e in
    let t = id_takes before bytes r.0 r.1 in
    subst (λ (q : ℤ × ℤ × List ℕ). TakenTo total (Within SpellsSum IsId before q.0) bytes q.1 q.2) (same_Some (r.0.0, r.0.0, r.0.1) x r.2)
    (record {
      prefix = t.prefix;
      after = t.after;
      parts = t.parts;
      spelled =
          record { spelled_so = t.spelled.spells; within = t.spelled.limits };
      same = t.same;
    })

pub ref_again : (before : List ℤ) (prefix : List ℕ) (id : ℤ) (after : List ℤ) (rest : List ℕ)
    → SpellsSum before prefix id after → IsId id → ref_at (total before) (prefix ++ rest) ≡ Some (id, total after, rest)
unfolding ref_at
ref_again before prefix id after rest s l = rw (id_again before prefix id after rest s l, ← s.sum_is) refl

pub ref_exact : IsExact total ref_at SpellsSum IsId
ref_exact = record { takes = ref_takes; again = ref_again; some = sum_some }

-- ---- members

kind_takes : (b : ℕ) (k : Kind) → kind_of_digit b ≡ Some k → b ≡ kind_digit k
kind_takes b k e =
    chosen (eqb b 48) (Some Node) (cond (eqb b 49) (Some Way) (cond (eqb b 50) (Some Relation) None)) (Some k) e (b ≡ kind_digit k)
    (λ t is. subst (λ (q : Kind). b ≡ kind_digit q) (same_Some Node k is) (grind (arith, nat_tests)))
    (λ f is. chosen (eqb b 49) (Some Way) (cond (eqb b 50) (Some Relation) None) (Some k) is (b ≡ kind_digit k)
    (λ t is. subst (λ (q : Kind). b ≡ kind_digit q) (same_Some Way k is) (grind (arith, nat_tests)))
    (λ f is. chosen (eqb b 50) (Some Relation) None (Some k) is (b ≡ kind_digit k)
    (λ t is. subst (λ (q : Kind). b ≡ kind_digit q) (same_Some Relation k is) (grind (arith, nat_tests)))
    (λ f is. absurd cc)))

kind_again : (k : Kind) → kind_of_digit (kind_digit k) ≡ Some k
kind_again Node = refl
kind_again Way = refl
kind_again Relation = refl

record RoleIs (bytes : List ℕ) (kind : Kind) (role : List ℕ) : Type 0 where
  whole : bytes ≡ kind_digit kind ∷ role
  limits : IsText role

role_takes : (bytes : List ℕ) (x : Kind × List ℕ) → role_of bytes ≡ Some x → RoleIs bytes x.0 x.1
unfolding role_of
role_takes [] x e = absurd cc
role_takes (b ∷ bs) x e =
    let k = some_then (kind_of_digit b) (λ kind. and_then (text_of bs) (λ role. Some (kind, role))) x e in
    let r = some_then (text_of bs) (λ role. Some (k.0, role)) x k.2 in
    let t = text_takes bs r.0 r.1 in
    subst (λ (p : Kind × List ℕ). RoleIs (b ∷ bs) p.0 p.1) (same_Some (k.0, r.0) x r.2)
    (record { whole = ap (λ (i : ℕ). i ∷ bs) (kind_takes b k.0 k.1) ∙ ap (λ (l : List ℕ). kind_digit k.0 ∷ l) t.0; limits = t.1 })

role_again : (kind : Kind) (role : List ℕ) → IsText role → role_of (kind_digit kind ∷ role) ≡ Some (kind, role)
unfolding role_of
role_again kind role t = rw (kind_again kind, text_again role t) refl

-- a counter for members is the total of their differences
pub counter_is : (k : Kind) (C : Context) → member_counter k (counters_of C) ≡ total (members_of k C)
counter_is Node C = refl
counter_is Way C = refl
counter_is Relation C = refl

reader_with : (k : Kind) (C : Context) (ids : List ℤ) (ss : List Entry)
    → record { counters = with_member_counter k (counters_of C) (total ids); strings = table_of ss } ≡ reader_of
    (with_strings (with_members k C ids) ss)
reader_with Node C ids ss = refl
reader_with Way C ids ss = refl
reader_with Relation C ids ss = refl

member_state : (k : Kind) (C : Context) (ids : List ℤ) (ss : List Entry) (sum : ℤ) (table : List Entry)
    → sum ≡ total ids → table ≡ table_of ss → record {
      counters = with_member_counter k (counters_of C) sum;
      strings =
          table;
    } ≡ reader_of (with_strings (with_members k C ids) ss)
member_state k C ids ss sum table e t = rw (e, t) (reader_with k C ids ss)

-- a member's id and role are within the limits
pub record IsMember (m : Member) : Type 0 where
  pub id : HasMemberId m
  pub role : IsRole m

-- the member and the reader that these parts make
abbrev pub made_member : Reader → ℤ → List ℕ × List Entry × List ℕ → Kind × List ℕ → Member × Reader × List ℕ
made_member s d t r = (
  record { key = record { kind = r.0; id = member_counter r.0 s.counters +ℤ d }; role = r.1 },
  record { counters = with_member_counter r.0 s.counters (member_counter r.0 s.counters +ℤ d); strings = t.1 },
  t.2,
)

pub member_takes : (C : Context) (bytes : List ℕ) (x : Member × Reader × List ℕ) → member_at (reader_of C) bytes ≡
    Some x → TakenTo reader_of (Within SpellsMember IsMember C x.0) bytes x.1 x.2
unfolding member_at
member_takes C bytes x e =
    let d = some_then (signed_at bytes) (λ d. and_then (single_at (table_of C.strings) d.1)
    (λ t. and_then (role_of t.0) (λ r. when (is_id (member_counter r.0 (counters_of C) +ℤ d.0))
    (Some (made_member (reader_of C) d.0 t r))))) x e in
    let t = some_then (single_at (table_of C.strings) d.0.1)
    (λ t. and_then (role_of t.0) (λ r. when (is_id (member_counter r.0 (counters_of C) +ℤ d.0.0))
    (Some (made_member (reader_of C) d.0.0 t r)))) x d.2 in
    let r = some_then (role_of t.0.0) (λ r. when (is_id (member_counter r.0 (counters_of C) +ℤ d.0.0)) (Some (made_member (reader_of C) d.0.0 t.0 r))) x t.2 in
    let g = some_when (is_id (member_counter r.0.0 (counters_of C) +ℤ d.0.0)) (Some (made_member (reader_of C) d.0.0 t.0 r.0)) x r.2 in
    let number = signed_takes bytes d.0 d.1 in
    let string = single_takes C.strings d.0.1 t.0 t.1 in
    let role : RoleIs t.0.0 r.0.0 r.0.1 = role_takes t.0.0 r.0 r.1 in
    let ids : List ℤ = members_of r.0.0 C ++ d.0.0 ∷ [] in
    let sum : member_counter r.0.0 (counters_of C) +ℤ d.0.0 ≡ total (members_of r.0.0 C ++ d.0.0 ∷ []) =
    ap (λ (z : ℤ). z +ℤ d.0.0) (counter_is r.0.0 C) ∙ sym (total-push (members_of r.0.0 C) d.0.0) in
    subst (λ (q : Member × Reader × List ℕ). TakenTo reader_of (Within SpellsMember IsMember C q.0) bytes q.1 q.2)
    (same_Some (made_member (reader_of C) d.0.0 t.0 r.0) x g.1)
    (record {
      prefix = number.prefix ++ string.prefix;
      after = with_strings (with_members r.0.0 C (members_of r.0.0 C ++ d.0.0 ∷ [])) string.after;
      parts = parts_then bytes number.prefix string.prefix d.0.1 t.0.2 number.parts string.parts;
      spelled = record {
        spelled_so = record {
          id_bytes = number.prefix;
          role_bytes = string.prefix;
          ids = members_of r.0.0 C ++ d.0.0 ∷ [];
          strings = string.after;
          whole = refl;
          id = record { difference = d.0.0; signed = number.spelled; added = refl; sum_is = sum };
          role = subst (λ (l : List ℕ). SpellsSingle C.strings string.prefix l string.after) role.whole string.spelled;
          context = refl;
        };
        within = record { id = is_id_is (member_counter r.0.0 (counters_of C) +ℤ d.0.0) g.0; role = role.limits };
      };
      same = member_state r.0.0 C (members_of r.0.0 C ++ d.0.0 ∷ []) string.after (member_counter r.0.0 (counters_of C) +ℤ d.0.0) t.0.1 sum string.same;
    })

pub member_again : (C : Context) (prefix : List ℕ) (m : Member) (after : Context) (rest : List ℕ)
    → SpellsMember C prefix m after → IsMember m → member_at (reader_of C) (prefix ++ rest) ≡
    Some (m, reader_of after, rest)
unfolding member_at
member_again C prefix m after rest s l =
    let number : signed_at (s.id_bytes ++ (s.role_bytes ++ rest)) ≡ Some (s.id.difference, s.role_bytes ++ rest) =
    signed_again s.id_bytes s.id.difference (s.role_bytes ++ rest) s.id.signed in
    let string : single_at (table_of C.strings) (s.role_bytes ++ rest) ≡ Some (
      kind_digit m.key.kind ∷ m.role,
      table_of s.strings,
      rest,
    ) = single_again C.strings s.role_bytes (kind_digit m.key.kind ∷ m.role) s.strings rest
    s.role in
    let sum : member_counter m.key.kind (counters_of C) +ℤ s.id.difference ≡ m.key.id =
    ap (λ (z : ℤ). z +ℤ s.id.difference) (counter_is m.key.kind C)
    ∙ sum_of (members_of m.key.kind C) s.id_bytes m.key.id s.ids s.id in
    let state : record {
      counters = with_member_counter m.key.kind (counters_of C) m.key.id;
      strings =
          table_of s.strings;
    } ≡ reader_of after =
    ap (λ (z : ℤ). record {
      counters = with_member_counter m.key.kind (counters_of C) z;
      strings =
          table_of s.strings;
    }) s.id.sum_is ∙ reader_with m.key.kind C s.ids s.strings ∙ ap reader_of (sym s.context) in
    rw (s.whole, append_assoc s.id_bytes s.role_bytes rest, number, string, role_again m.key.kind m.role l.role, sum, is_id_again m.key.id l.id, state) refl

member_some : (C : Context) (prefix : List ℕ) (m : Member) (after : Context) → SpellsMember C prefix m after → 0 < length prefix
member_some C prefix m after s = omega (
  arith,
  sum_some (members_of m.key.kind C) s.id_bytes m.key.id s.ids s.id,
  ap length s.whole,
  length-append s.id_bytes s.role_bytes,
)

pub member_exact : IsExact reader_of member_at SpellsMember IsMember
member_exact = record { takes = member_takes; again = member_again; some = member_some }

-- ---- metadata

-- the metadata and the reader that these parts make
abbrev made_meta : Reader → ℕ × List ℕ → ℕ × List ℕ → ℕ × List ℕ → (ℕ × List ℕ) × List Entry × List ℕ → MetaValue × Reader × List ℕ
made_meta s v t c u = (
  record { version = v.0; time = t.0; changeset = c.0; uid = u.0.0; user = u.0.1 },
  record { counters = record s.counters { time = pos t.0; changeset = pos c.0 }; strings = u.1 },
  u.2,
)

meta_state : (C : Context) (times changesets : List ℤ) (ss : List Entry) (time changeset : ℤ) (table : List Entry)
    → time ≡ total times → changeset ≡ total changesets → table ≡ table_of ss
    → record { counters = record (counters_of C) { time = time; changeset = changeset }; strings = table } ≡ reader_of
    (record C { times = times; changesets = changesets; strings = ss })
meta_state C times changesets ss time changeset table t c u = rw (t, c, u) refl

pub meta_takes : (C : Context) (bytes : List ℕ) (x : MetaValue × Reader × List ℕ) → meta_at (reader_of C) bytes ≡ Some x
    → TakenTo reader_of (Within SpellsMeta IsMeta C x.0) bytes x.1 x.2
unfolding meta_at
meta_takes C bytes x e =
    let v = some_then (positive_at bytes) (λ v. and_then (positive_sum_at (total C.times) v.1)
    (λ t. and_then (positive_sum_at (total C.changesets) t.1) (λ c. and_then (user_at (table_of C.strings) c.1)
    (λ u. Some (made_meta (reader_of C) v t c u))))) x e in
    let t = some_then (positive_sum_at (total C.times) v.0.1) (λ t. and_then (positive_sum_at (total C.changesets) t.1)
    (λ c. and_then (user_at (table_of C.strings) c.1) (λ u. Some (made_meta (reader_of C) v.0 t c u)))) x v.2 in
    let c = some_then (positive_sum_at (total C.changesets) t.0.1) (λ c. and_then (user_at (table_of C.strings) c.1)
    (λ u. Some (made_meta (reader_of C) v.0 t.0 c u))) x t.2 in
    let u = some_then (user_at (table_of C.strings) c.0.1) (λ u. Some (made_meta (reader_of C) v.0 t.0 c.0 u)) x c.2 in
    let version = positive_takes bytes v.0 v.1 in
    let time = positive_sum_takes C.times v.0.1 t.0 t.1 in
    let changeset = positive_sum_takes C.changesets t.0.1 c.0 c.1 in
    let user = user_takes C.strings c.0.1 u.0 u.1 in
    let two = parts_then bytes version.prefix time.prefix v.0.1 t.0.1 version.parts time.parts in
    let three = parts_then bytes (version.prefix ++ time.prefix) changeset.prefix t.0.1 c.0.1 two changeset.parts in
    subst (λ (q : MetaValue × Reader × List ℕ). TakenTo reader_of (Within SpellsMeta IsMeta C q.0) bytes q.1 q.2)
    (same_Some (made_meta (reader_of C) v.0 t.0 c.0 u.0) x u.2)
    (record {
      prefix = version.prefix ++ time.prefix ++ changeset.prefix ++ user.prefix;
      after = record C { times = time.after; changesets = changeset.after; strings = user.after };
      parts = parts_then bytes (version.prefix ++ time.prefix ++ changeset.prefix) user.prefix c.0.1 u.0.2 three user.parts;
      spelled = record {
        spelled_so = record {
          version_bytes = version.prefix;
          time_bytes = time.prefix;
          changeset_bytes = changeset.prefix;
          user_bytes = user.prefix;
          times = time.after;
          changesets = changeset.after;
          strings = user.after;
          whole = refl;
          version = version.spelled.spells;
          time = time.spelled.spells;
          changeset = changeset.spelled.spells;
          user = user.spelled.spells;
          context = refl;
        };
        within = record {
          version = version.spelled.limits;
          time = time.spelled.limits;
          changeset = changeset.spelled.limits;
          uid = user.spelled.uid_limits;
          user = user.spelled.name_limits;
        };
      };
      same = meta_state C time.after changeset.after user.after (pos t.0.0) (pos c.0.0) u.0.1 time.same changeset.same user.same;
    })

pub meta_again : (C : Context) (prefix : List ℕ) (m : MetaValue) (after : Context) (rest : List ℕ)
    → SpellsMeta C prefix m after → IsMeta m → meta_at (reader_of C) (prefix ++ rest) ≡ Some (m, reader_of after, rest)
unfolding meta_at
meta_again C prefix m after rest s l =
    let user : user_at (table_of C.strings) (s.user_bytes ++ rest) ≡ Some ((m.uid, m.user), table_of s.strings, rest) =
    user_again C.strings s.user_bytes m.uid m.user s.strings rest s.user l.uid l.user in
    let changeset : positive_sum_at (total C.changesets) (s.changeset_bytes ++ (s.user_bytes ++ rest)) ≡
    Some (m.changeset, s.user_bytes ++ rest) = positive_sum_again C.changesets s.changeset_bytes m.changeset
    s.changesets (s.user_bytes ++ rest) s.changeset l.changeset in
    let time : positive_sum_at (total C.times) (s.time_bytes ++ (s.changeset_bytes ++ (s.user_bytes ++ rest))) ≡
    Some (m.time, s.changeset_bytes ++ (s.user_bytes ++ rest)) =
    positive_sum_again C.times s.time_bytes m.time s.times (s.changeset_bytes ++ (s.user_bytes ++ rest)) s.time
    l.time in
    let version : positive_at (s.version_bytes ++ (s.time_bytes ++ (s.changeset_bytes ++ (s.user_bytes ++ rest)))) ≡
    Some (m.version, s.time_bytes ++ (s.changeset_bytes ++ (s.user_bytes ++ rest))) =
    positive_again s.version_bytes m.version (s.time_bytes ++ (s.changeset_bytes ++ (s.user_bytes ++ rest)))
    s.version l.version in
    let whole : prefix ++ rest ≡ s.version_bytes ++ (s.time_bytes ++ (s.changeset_bytes ++ (s.user_bytes ++ rest))) = rw s.whole (simp append_assoc) in
    rw (whole, version, time, changeset, user, s.context, s.time.sum_is, s.changeset.sum_is) refl
