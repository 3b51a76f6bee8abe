-- What is written for tags, references and members spells them, and how long it is.
use Rattle.std.proofs.Common.{◌≡◌, ℕ, ◌*◌, ◌≤◌, List, [], ◌∷◌, ◌++◌, length, refl, sym, ap, subst, ◌∙◌, arith}
use Rattle.std.specs.Prelude.{ℤ, pos, neg_ℤ, ◌-ℤ◌, ◌≤ℤ◌, Contains}
use Rattle.std.specs.List.{AllByRecursion}
use Rattle.std.proofs.lemmas.Int.{ints}
use Rattle.std.proofs.lemmas.List.{length-append}
use Rattle.osm_model.specs.Change.{HasMemberId}
use Rattle.osm_model.specs.Limits.{IsId}
use Rattle.osm_model.specs.Lists.{IsTag, IsRole}
use Rattle.osm_model.specs.Text.{IsText}
use Rattle.osm_model.specs.declared.kind.Kind.{Kind}
use Rattle.osm_model.specs.declared.kind.Kind.TheVariants.{Node, Way, Relation}
use Rattle.osm_model.specs.declared.lists.Member.{Member}
use Rattle.osm_model.specs.declared.lists.Tag.{Tag}
use Rattle.osm_o5c.specs.Number.{zigzag}
use Rattle.osm_o5c.specs.Context.{Context, total, members_of, with_members, with_strings, kind_digit}
use Rattle.osm_o5c.specs.Written.{member_counter, with_member_counter, difference_text, pair_text, after_pair}
use Rattle.osm_o5c.specs.Written.{single_text, tags_text, after_tags, refs_text, last_ref, member_text, after_member}
use Rattle.osm_o5c.specs.Written.{members_text, after_members}
use Rattle.osm_o5c.specs.Many.{none, more}
use Rattle.osm_o5c.specs.Object.{SpellsTags, SpellsRefs, SpellsMember, SpellsMembers}
use Rattle.osm_o5c.specs.declared.counters.Counters.{Counters}
use Rattle.osm_o5c.specs.Shortest.{AreShortestTags, AreShortestRefs, IsShortestMember, AreShortestMembers}
use Rattle.osm_o5c.specs.declared.strings.Entry.{Entry}
use Rattle.osm_o5c.specs.declared.writer.State.{State}
use Rattle.osm_o5c.proofs.StringLemmas.{none_before}
use Rattle.osm_o5c.proofs.FieldLemmas.{counters_of, counter_is}
use Rattle.osm_o5c.proofs.WrittenNumbers.{number_short, SumWritten, sum_written, sum_after}
use Rattle.osm_o5c.proofs.KnownLemmas.{IsKnown, PairWritten, pair_written, pair_short, SingleWritten, single_written, single_short}

-- ---- tags

-- the strings in line after the tags, and the strings entered then
pub record TagsWritten (ss : List Entry) (strings : List (List ℕ)) (tags : List Tag) : Type 0 where
  pub after : List Entry
  pub spells : SpellsTags ss (tags_text strings tags) tags after
  pub known : IsKnown after (after_tags strings tags)
  pub shortest : AreShortestTags spells

pub tags_spell : (ss : List Entry) (strings : List (List ℕ)) (tags : List Tag) → IsKnown ss strings → AllByRecursion IsTag tags → TagsWritten ss strings tags
tags_spell ss strings [] known each = record { after = ss; spells = none ss; known = known; shortest = tt }
tags_spell ss strings (t ∷ ts) known each =
    let one : PairWritten ss strings t.key t.value = pair_written ss strings t.key t.value known each.0.key.no_nul each.0.value.no_nul in
    let rest : TagsWritten one.after (after_pair strings t.key t.value) ts = tags_spell one.after (after_pair strings t.key t.value) ts one.known each.1 in
    record {
      after = rest.after;
      spells = more ss (pair_text strings t.key t.value) t one.after (tags_text (after_pair strings t.key t.value) ts) ts rest.after one.spells rest.spells;
      known = rest.known;
      shortest = (one.shortest, rest.shortest);
    }

pub tags_short : (strings : List (List ℕ)) (tags : List Tag) → AllByRecursion IsTag tags → length (tags_text strings tags) ≤ 2053 * length tags
tags_short strings [] each = omega arith
tags_short strings (t ∷ ts) each =
    let key : length t.key ≤ 1020 = each.0.key.short in
    let value : length t.value ≤ 1020 = each.0.value.short in
    omega (
      arith,
      tags_short (after_pair strings t.key t.value) ts each.1,
      length-append (pair_text strings t.key t.value) (tags_text (after_pair strings t.key t.value) ts),
      pair_short strings t.key t.value,
    )

-- ---- references

-- the difference of two ids fits in 64 bits
pub ids_apart : (a b : ℤ) → IsId a → IsId b → (neg_ℤ (pos 9223372036854775808) ≤ℤ (b -ℤ a)) × ((b -ℤ a) ≤ℤ pos 9223372036854775807)
ids_apart a b p q = let al = p.low in let ah = p.high in let bl = q.low in let bh = q.high in (omega (arith, ints), omega (arith, ints))

pub record RefsWritten (before : List ℤ) (refs : List ℤ) : Type 0 where
  pub after : List ℤ
  pub spells : SpellsRefs before (refs_text (total before) refs) refs after
  pub last : total after ≡ last_ref (total before) refs
  pub shortest : AreShortestRefs spells

-- what is written for references, with the counter at this value, spells them
record RefsFrom (before : List ℤ) (counter : ℤ) (refs : List ℤ) : Type 0 where
  after : List ℤ
  spells : SpellsRefs before (refs_text counter refs) refs after
  last : total after ≡ last_ref counter refs
  shortest : AreShortestRefs spells

pub refs_spell : (before : List ℤ) (refs : List ℤ) → IsId (total before) → AllByRecursion IsId refs → RefsWritten before refs
refs_spell before [] b each = record { after = before; spells = none before; last = refl; shortest = tt }
refs_spell before (r ∷ rs) b each =
    let near = ids_apart (total before) r b each.0 in
    let one : SumWritten before (total before) r = sum_written before r near.0 near.1 in
    let is : total (before ++ (r -ℤ total before) ∷ []) ≡ r = sum_after before r in
    let rest : RefsWritten (before ++ (r -ℤ total before) ∷ []) rs = refs_spell (before ++ (r -ℤ total before) ∷ []) rs (subst IsId (sym is) each.0) each.1 in
    let from : RefsFrom (before ++ (r -ℤ total before) ∷ []) (total (before ++ (r -ℤ total before) ∷ [])) rs =
    record { after = rest.after; spells = rest.spells; last = rest.last; shortest = rest.shortest } in
    let tail : RefsFrom (before ++ (r -ℤ total before) ∷ []) r rs = subst (λ (v : ℤ). RefsFrom (before ++ (r -ℤ total before) ∷ []) v rs) is from in
    record {
      after = tail.after;
      spells = more before (difference_text (total before) r) r (before ++ (r -ℤ total before) ∷ []) (refs_text r rs) rs tail.after one.spells tail.spells;
      last = tail.last;
      shortest = (one.shortest, tail.shortest);
    }

pub refs_short : (before : ℤ) (refs : List ℤ) → length (refs_text before refs) ≤ 10 * length refs
refs_short before [] = omega arith
refs_short before (r ∷ rs) = omega (arith, refs_short r rs, number_short (zigzag (r -ℤ before)), length-append (difference_text before r) (refs_text r rs))

pub last_is_id : (before : ℤ) (refs : List ℤ) → IsId before → AllByRecursion IsId refs → IsId (last_ref before refs)
last_is_id before [] b each = b
last_is_id before (r ∷ rs) b each = last_is_id r rs each.0 each.1

-- ---- members

-- the counters are within the limits of what they count
pub record Bounds (s : Counters) : Type 0 where
  pub id : IsId s.id
  pub time_low : pos 0 ≤ℤ s.time
  pub time_high : s.time ≤ℤ pos 4294967295
  pub changeset_low : pos 0 ≤ℤ s.changeset
  pub changeset_high : s.changeset ≤ℤ pos 4294967295
  pub way_node : IsId s.way_node
  pub node_member : IsId s.node_member
  pub way_member : IsId s.way_member
  pub relation_member : IsId s.relation_member

member_bound : (k : Kind) (s : Counters) → Bounds s → IsId (member_counter k s)
member_bound Node s b = b.node_member
member_bound Way s b = b.way_member
member_bound Relation s b = b.relation_member

bounds_member : (k : Kind) (s : Counters) (id : ℤ) → Bounds s → IsId id → Bounds (with_member_counter k s id)
bounds_member Node s id b h = record {
  id = b.id;
  time_low = b.time_low;
  time_high = b.time_high;
  changeset_low =
      b.changeset_low;
  changeset_high = b.changeset_high;
  way_node = b.way_node;
  node_member = h;
  way_member =
      b.way_member;
  relation_member = b.relation_member;
}
bounds_member Way s id b h = record {
  id = b.id;
  time_low = b.time_low;
  time_high = b.time_high;
  changeset_low =
      b.changeset_low;
  changeset_high = b.changeset_high;
  way_node = b.way_node;
  node_member = b.node_member;
  way_member =
      h;
  relation_member = b.relation_member;
}
bounds_member Relation s id b h = record {
  id = b.id;
  time_low = b.time_low;
  time_high = b.time_high;
  changeset_low =
      b.changeset_low;
  changeset_high = b.changeset_high;
  way_node = b.way_node;
  node_member = b.node_member;
  way_member =
      b.way_member;
  relation_member = h;
}

digit_text : (k : Kind) (role : List ℕ) → IsText role → ¬ Contains (kind_digit k ∷ role) 0
digit_text Node role t = none_before 48 role (λ z. omega arith) t.no_nul
digit_text Way role t = none_before 49 role (λ z. omega arith) t.no_nul
digit_text Relation role t = none_before 50 role (λ z. omega arith) t.no_nul

-- the context after a written member
positive_sum_with : (k : Kind) (C : Context) (ids : List ℤ) (ss : List Entry)
    → counters_of (with_strings (with_members k C ids) ss) ≡ with_member_counter k (counters_of C) (total ids)
positive_sum_with Node C ids ss = refl
positive_sum_with Way C ids ss = refl
positive_sum_with Relation C ids ss = refl

-- the state of a writer is that of a context, with its counters and entries
pub record IsState (C : Context) (s : State) : Type 0 where
  pub counters_are : counters_of C ≡ s.counters
  pub known : IsKnown C.strings s.strings

record MemberWritten (C : Context) (s : State) (m : Member) : Type 0 where
  after : Context
  spells : SpellsMember C (member_text s m) m after
  state_is : IsState after (after_member s m)
  shortest : IsShortestMember spells

member_spells : (C : Context) (s : State) (m : Member) → IsState C s → Bounds s.counters → HasMemberId m → IsRole m → MemberWritten C s m
member_spells C s m st b i r =
    let at : member_counter m.key.kind s.counters ≡ total (members_of m.key.kind C) =
    ap (λ (k : Counters). member_counter m.key.kind k) (sym st.counters_are) ∙ counter_is m.key.kind C in
    let near = ids_apart (total (members_of m.key.kind C)) m.key.id (subst IsId at (member_bound m.key.kind s.counters b)) i in
    let number : SumWritten (members_of m.key.kind C) (member_counter m.key.kind s.counters) m.key.id =
    subst (λ (v : ℤ). SumWritten (members_of m.key.kind C) v m.key.id) (sym at)
    (sum_written (members_of m.key.kind C) m.key.id near.0 near.1) in
    let string : SingleWritten C.strings s.strings (kind_digit m.key.kind ∷ m.role) =
    single_written C.strings s.strings (kind_digit m.key.kind ∷ m.role) st.known (digit_text m.key.kind m.role r) in
    record {
      after = with_strings (with_members m.key.kind C (members_of m.key.kind C ++ (m.key.id -ℤ total (members_of m.key.kind C)) ∷ [])) string.after;
      spells = record {
        id_bytes = difference_text (member_counter m.key.kind s.counters) m.key.id;
        role_bytes = single_text s.strings (kind_digit m.key.kind ∷ m.role);
        ids = members_of m.key.kind C ++ (m.key.id -ℤ total (members_of m.key.kind C)) ∷ [];
        strings = string.after;
        whole = refl;
        id = number.spells;
        role = string.spells;
        context = refl;
      };
      state_is = record {
        counters_are =
            positive_sum_with m.key.kind C (members_of m.key.kind C ++ (m.key.id -ℤ total (members_of m.key.kind C)) ∷
            []) string.after ∙ ap (λ (v : ℤ). with_member_counter m.key.kind (counters_of C) v)
            (sum_after (members_of m.key.kind C) m.key.id)
            ∙ ap (λ (k : Counters). with_member_counter m.key.kind k m.key.id) st.counters_are;
        known = string.known;
      };
      shortest = (number.shortest, string.shortest);
    }

pub record MembersWritten (C : Context) (s : State) (members : List Member) : Type 0 where
  pub after : Context
  pub spells : SpellsMembers C (members_text s members) members after
  pub state_is : IsState after (after_members s members)
  pub bounds : Bounds (after_members s members).counters
  pub shortest : AreShortestMembers spells

pub members_spell : (C : Context) (s : State) (members : List Member) → IsState C s → Bounds s.counters
    → AllByRecursion HasMemberId members → AllByRecursion IsRole members → MembersWritten C s members
members_spell C s [] st b i r = record { after = C; spells = none C; state_is = st; bounds = b; shortest = tt }
members_spell C s (m ∷ ms) st b i r =
    let one : MemberWritten C s m = member_spells C s m st b i.0 r.0 in
    let rest : MembersWritten one.after (after_member s m) ms =
    members_spell one.after (after_member s m) ms one.state_is (bounds_member m.key.kind s.counters m.key.id b i.0)
    i.1 r.1 in
    record {
      after = rest.after;
      spells = more C (member_text s m) m one.after (members_text (after_member s m) ms) ms rest.after one.spells rest.spells;
      state_is = rest.state_is;
      bounds = rest.bounds;
      shortest = (one.shortest, rest.shortest);
    }

pub members_short : (s : State) (members : List Member) → AllByRecursion IsRole members → length (members_text s members) ≤ 1043 * length members
members_short s [] r = omega arith
members_short s (m ∷ ms) r =
    let role : length m.role ≤ 1020 = r.0.short in
    omega (
      arith,
      members_short (after_member s m) ms r.1,
      number_short (zigzag (m.key.id -ℤ member_counter m.key.kind s.counters)),
      single_short s.strings
          (kind_digit m.key.kind ∷ m.role),
      length-append (member_text s m) (members_text (after_member s m) ms),
      length-append (difference_text (member_counter m.key.kind s.counters) m.key.id)
          (single_text s.strings (kind_digit m.key.kind ∷ m.role)),
    )
