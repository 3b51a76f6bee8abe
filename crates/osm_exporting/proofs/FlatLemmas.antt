-- Lists that are written item by item from what a line has of them.
use Rattle.std.proofs.Common.{◌≡◌, ℕ, ◌<◌, List, [], ◌∷◌, ◌++◌, length, Option, Some, None, refl, sym, ap, subst, ◌∙◌, append_assoc, arith}
use Rattle.std.proofs.Common.{Result, Ok, Err, pos}
use Rattle.std.specs.Prelude.{ℤ, MatchOption, OnOk, true, ◌&&◌}
use Rattle.std.specs.Borrow.{Bor}
use Rattle.std.proofs.lemmas.List.{append-nil, length-append}
use Rattle.osm_model.specs.Change.{ChangeValue}
use Rattle.osm_model.specs.Data.{IsLeft}
use Rattle.osm_model.specs.Filter.{FilterValue, keeps}
use Rattle.osm_model.specs.KeyOrder.{key_cmp}
use Rattle.osm_model.specs.Limits.{IsId}
use Rattle.osm_model.specs.Lists.{IsTag}
use Rattle.osm_model.specs.declared.change.What.TheVariants as whats
use Rattle.osm_model.specs.declared.kind.Key.{Key}
use Rattle.osm_model.specs.declared.lists.Member.{Member}
use Rattle.osm_model.specs.declared.lists.Tag.{Tag}
use Rattle.osm_o5c.specs.File.{kind_byte}
use Rattle.osm_o5c.specs.Written.{after_member, after_members, after_meta, after_object, after_pair, dataset_text, difference_text}
use Rattle.osm_o5c.specs.Written.{last_ref, member_text, members_text, meta_text, number_text, object_text, pair_text, part_text}
use Rattle.osm_o5c.specs.Written.{refs_text, reset_text, state_before, tags_text, what_text, with_tags}
use Rattle.osm_o5c.specs.declared.counters.Counters.{Counters}
use Rattle.osm_o5c.specs.declared.writer.State.{State}
use Rattle.osm_o5c.specs.declared.writer.Writer.{Writer}
use Rattle.osm_opl.specs.Flat.{AreFlat, AreFlatMembers, AreFlatRefs, AreFlatTags, IsFirstMember, IsFirstRef, IsFirstTag}
use Rattle.osm_opl.specs.Flat.{IsMember, IsRest}
use Rattle.osm_opl.specs.Written as opl
use Rattle.osm_opl.specs.Written.{escaped_text, more_items, ref_text, tag_text}
use Rattle.osm_save.specs.Reading.{is_above}
use Rattle.osm_exporting.specs.Steps.Flat.{KeepsAll, WritesChange, WritesMembers, WritesObject, WritesRefs, WritesTags, WritesWhat}

-- these items are left: what was written, and what is written of them, is what is written of all,
-- and so are the states
pub record Left {X S : Type 0} (Are : List ℕ → List X → Type 0) (text : S → List X → List ℕ) (after : S → List X → S)
    (old new : List ℕ) (before now : S) (all : List X) (rest : Option (Bor (List ℕ))) : Type 0 where
  pub items : List X
  pub are : IsRest Are items rest
  pub same : new ++ text now items ≡ old ++ text before all
  pub state : after now items ≡ after before all

-- the next item, if something is left to read, and those after it
pub record Next {X S : Type 0} (Are : List ℕ → List X → Type 0) (text : S → List X → List ℕ) (after : S → List X → S)
    (old new : List ℕ) (before now : S) (all : List X) (bytes : List ℕ) : Type 0 where
  pub item : X
  pub more : List X
  pub are : Are bytes (item ∷ more)
  pub same : new ++ text now (item ∷ more) ≡ old ++ text before all
  pub state : after now (item ∷ more) ≡ after before all

-- before the first item is written
pub all_left : {X S : Type 0} (spelled : X → List ℕ) (Limits : X → Type 0) (text : S → List X → List ℕ) (after : S → List X → S)
    (old : List ℕ) (before : S) (all : List X) (bytes : List ℕ) (rest : Option (Bor (List ℕ)))
    → ((x : X) → 0 < length (spelled x))
    → MatchOption rest (length bytes ≡ 0) (λ items. (items.now ≡ bytes) × (0 < length bytes)) → AreFlat spelled Limits bytes all
    → Left (AreFlat spelled Limits) text after old old before before all rest
all_left spelled Limits text after old before [] bytes None some m h = record { items = []; are = tt; same = refl; state = refl }
all_left spelled Limits text after old before [] bytes (Some r) some m h = absurd (omega (arith, ap length h.list, m.1))
all_left spelled Limits text after old before (x ∷ xs) bytes None some m h =
    absurd (omega (arith, ap length h.list, m, some x, length-append (spelled x) (more_items spelled xs)))
all_left spelled Limits text after old before (x ∷ xs) bytes (Some r) some m h = record {
  items = x ∷ xs;
  are = subst (λ (l : List ℕ). AreFlat spelled Limits l (x ∷ xs)) (sym m.0) h;
  same = refl;
  state = refl;
}

next_in : {X S : Type 0} (Are : List ℕ → List X → Type 0) (text : S → List X → List ℕ) (after : S → List X → S)
    (old new : List ℕ) (before now : S) (all items : List X) (bytes : Bor (List ℕ)) → IsRest Are items (Some bytes)
    → new ++ text now items ≡ old ++ text before all → after now items ≡ after before all
    → Next Are text after old new before now all bytes.now
next_in Are text after old new before now all [] bytes are same state = absurd are
next_in Are text after old new before now all (x ∷ xs) bytes are same state =
    record { item = x; more = xs; are = are; same = same; state = state }

pub next_of : {X S : Type 0} (Are : List ℕ → List X → Type 0) (text : S → List X → List ℕ) (after : S → List X → S)
    (old new : List ℕ) (before now : S) (all : List X) (bytes : Bor (List ℕ))
    → Left Are text after old new before now all (Some bytes) → Next Are text after old new before now all bytes.now
next_of Are text after old new before now all bytes h =
    next_in Are text after old new before now all h.items bytes h.are h.same h.state

-- nothing is left
pub record Done {X S : Type 0} (text : S → List X → List ℕ) (after : S → List X → S) (old new : List ℕ) (before now : S)
    (all : List X) : Type 0 where
  pub text_is : new ++ text now [] ≡ old ++ text before all
  pub state_is : after now [] ≡ after before all

done_in : {X S : Type 0} (Are : List ℕ → List X → Type 0) (text : S → List X → List ℕ) (after : S → List X → S)
    (old new : List ℕ) (before now : S) (all items : List X) → IsRest Are items None
    → new ++ text now items ≡ old ++ text before all → after now items ≡ after before all
    → Done text after old new before now all
done_in Are text after old new before now all [] are same state = record { text_is = same; state_is = state }
done_in Are text after old new before now all (x ∷ xs) are same state = absurd are

pub done_of : {X S : Type 0} (Are : List ℕ → List X → Type 0) (text : S → List X → List ℕ) (after : S → List X → S)
    (old new : List ℕ) (before now : S) (all : List X) → Left Are text after old new before now all None
    → Done text after old new before now all
done_of Are text after old new before now all h = done_in Are text after old new before now all h.items h.are h.same h.state

-- ---- tags

abbrev pub text_of_tags : State → List Tag → List ℕ
text_of_tags s tags = tags_text s.strings tags

abbrev pub TagsLeft : List ℕ → List ℕ → State → State → List Tag → Option (Bor (List ℕ)) → Type 0
TagsLeft = Left AreFlatTags text_of_tags with_tags

some_tag : (t : Tag) → 0 < length (tag_text t)
some_tag t = omega (arith, length-append (escaped_text t.key) (61 ∷ escaped_text t.value))

pub no_tags : (old bytes : List ℕ) (before : State) (tags : List Tag) → length bytes ≡ 0 → AreFlatTags bytes tags
    → WritesTags old old before before tags
no_tags old bytes before [] e h = record { text = sym (append-nil old); state_is = refl }
no_tags old bytes before (t ∷ ts) e h =
    absurd (omega (arith, ap length h.list, e, some_tag t, length-append (tag_text t) (more_items tag_text ts)))

pub tags_left : (old : List ℕ) (before : State) (tags : List Tag) (bytes : List ℕ) (rest : Option (Bor (List ℕ)))
    → MatchOption rest (length bytes ≡ 0) (λ items. (items.now ≡ bytes) × (0 < length bytes)) → AreFlatTags bytes tags
    → TagsLeft old old before before tags rest
tags_left old before tags bytes rest = all_left tag_text IsTag text_of_tags with_tags old before tags bytes rest some_tag

pub tags_more : (old mid new : List ℕ) (before now after : State) (all : List Tag) (bytes : Bor (List ℕ)) (key value : List ℕ)
    (rest : Option (Bor (List ℕ))) → TagsLeft old mid before now all (Some bytes)
    → ((t : Tag) (ts : List Tag) → AreFlatTags bytes.now (t ∷ ts) → IsFirstTag t ts key value rest)
    → new ≡ mid ++ pair_text now.strings key value → after ≡ record now { strings = after_pair now.strings key value }
    → TagsLeft old new before after all rest
tags_more old mid new before now after all bytes key value rest left first text state =
    let next : Next AreFlatTags text_of_tags with_tags old mid before now all bytes.now =
    next_of AreFlatTags text_of_tags with_tags old mid before now all bytes left in
    let here : IsFirstTag next.item next.more key value rest = first next.item next.more next.are in
    let pair : new ≡ mid ++ pair_text now.strings next.item.key next.item.value =
    text ∙ (rw (here.named, here.valued) refl) in
    let entered : after ≡ record now { strings = after_pair now.strings next.item.key next.item.value } =
    state ∙ (rw (here.named, here.valued) refl) in
    record {
      items = next.more;
      are = here.left;
      same = rw (pair, entered) (append_assoc mid (pair_text now.strings next.item.key next.item.value)
          (tags_text (after_pair now.strings next.item.key next.item.value) next.more) ∙ next.same);
      state = rw entered next.state;
    }

pub tags_done : (old new : List ℕ) (before now : State) (all : List Tag) → TagsLeft old new before now all None
    → WritesTags old new before now all
tags_done old new before now all left =
    let done = done_of AreFlatTags text_of_tags with_tags old new before now all left in
    record { text = sym (append-nil new) ∙ done.text_is; state_is = done.state_is }

-- ---- nodes

abbrev pub text_of_refs : Counters → List ℤ → List ℕ
text_of_refs c ids = refs_text c.way_node ids

abbrev pub after_refs : Counters → List ℤ → Counters
after_refs c ids = record c { way_node = last_ref c.way_node ids }

abbrev pub RefsLeft : List ℕ → List ℕ → Counters → Counters → List ℤ → Option (Bor (List ℕ)) → Type 0
RefsLeft = Left AreFlatRefs text_of_refs after_refs

pub refs_left : (old : List ℕ) (before : Counters) (ids : List ℤ) (bytes : List ℕ) (rest : Option (Bor (List ℕ)))
    → MatchOption rest (length bytes ≡ 0) (λ items. (items.now ≡ bytes) × (0 < length bytes)) → AreFlatRefs bytes ids
    → RefsLeft old old before before ids rest
refs_left old before ids bytes rest = all_left ref_text IsId text_of_refs after_refs old before ids bytes rest (λ id. omega arith)

pub refs_more : (old mid new : List ℕ) (before now after : Counters) (all : List ℤ) (bytes : Bor (List ℕ)) (found : ℤ)
    (rest : Option (Bor (List ℕ))) → RefsLeft old mid before now all (Some bytes)
    → ((id : ℤ) (ids : List ℤ) → AreFlatRefs bytes.now (id ∷ ids) → IsFirstRef id ids found rest)
    → new ≡ mid ++ difference_text now.way_node found → after ≡ record now { way_node = found }
    → RefsLeft old new before after all rest
refs_more old mid new before now after all bytes found rest left first text counters =
    let next : Next AreFlatRefs text_of_refs after_refs old mid before now all bytes.now =
    next_of AreFlatRefs text_of_refs after_refs old mid before now all bytes left in
    let here : IsFirstRef next.item next.more found rest = first next.item next.more next.are in
    let written : new ≡ mid ++ difference_text now.way_node next.item = text ∙ (rw here.here refl) in
    let moved : after ≡ record now { way_node = next.item } = counters ∙ (rw here.here refl) in
    record {
      items = next.more;
      are = here.left;
      same = rw (written, moved) (append_assoc mid (difference_text now.way_node next.item) (refs_text next.item next.more) ∙ next.same);
      state = rw moved next.state;
    }

-- a node that is left is read
pub refs_unread : (old mid : List ℕ) (before now : Counters) (all : List ℤ) (bytes : Bor (List ℕ)) {P : Type 0}
    → RefsLeft old mid before now all (Some bytes) → ((id : ℤ) (ids : List ℤ) → AreFlatRefs bytes.now (id ∷ ids) → ⊥) → P
refs_unread old mid before now all bytes left none =
    let next : Next AreFlatRefs text_of_refs after_refs old mid before now all bytes.now =
    next_of AreFlatRefs text_of_refs after_refs old mid before now all bytes left in
    absurd (none next.item next.more next.are)

pub refs_done : (old new : List ℕ) (before now : Counters) (all : List ℤ) → RefsLeft old new before now all None
    → WritesRefs old new before now all
refs_done old new before now all left =
    let done = done_of AreFlatRefs text_of_refs after_refs old new before now all left in
    record { text = sym (append-nil new) ∙ done.text_is; counters_are = done.state_is }

-- ---- members

abbrev pub MembersLeft : List ℕ → List ℕ → State → State → List Member → Option (Bor (List ℕ)) → Type 0
MembersLeft = Left AreFlatMembers members_text after_members

pub members_left : (old : List ℕ) (before : State) (members : List Member) (bytes : List ℕ) (rest : Option (Bor (List ℕ)))
    → MatchOption rest (length bytes ≡ 0) (λ items. (items.now ≡ bytes) × (0 < length bytes)) → AreFlatMembers bytes members
    → MembersLeft old old before before members rest
members_left old before members bytes rest =
    all_left opl.member_text IsMember members_text after_members old before members bytes rest (λ m. omega arith)

pub members_more : (old mid new : List ℕ) (before now after : State) (all : List Member) (bytes : Bor (List ℕ)) (one : Member)
    (rest : Option (Bor (List ℕ))) → MembersLeft old mid before now all (Some bytes)
    → ((m : Member) (ms : List Member) → AreFlatMembers bytes.now (m ∷ ms) → IsFirstMember m ms one.key one.role rest)
    → new ≡ mid ++ member_text now one → after ≡ after_member now one
    → MembersLeft old new before after all rest
members_more old mid new before now after all bytes one rest left first text state =
    let next : Next AreFlatMembers members_text after_members old mid before now all bytes.now =
    next_of AreFlatMembers members_text after_members old mid before now all bytes left in
    let here : IsFirstMember next.item next.more one.key one.role rest = first next.item next.more next.are in
    let same : one ≡ next.item = rw (here.named, here.roled) refl in
    let written : new ≡ mid ++ member_text now next.item = text ∙ (rw same refl) in
    let moved : after ≡ after_member now next.item = state ∙ (rw same refl) in
    record {
      items = next.more;
      are = here.left;
      same = rw (written, moved) (append_assoc mid (member_text now next.item) (members_text (after_member now next.item) next.more) ∙ next.same);
      state = rw moved next.state;
    }

-- a member that is left is read
pub members_unread : (old mid : List ℕ) (before now : State) (all : List Member) (bytes : Bor (List ℕ)) {P : Type 0}
    → MembersLeft old mid before now all (Some bytes) → ((m : Member) (ms : List Member) → AreFlatMembers bytes.now (m ∷ ms) → ⊥) → P
members_unread old mid before now all bytes left none =
    let next : Next AreFlatMembers members_text after_members old mid before now all bytes.now =
    next_of AreFlatMembers members_text after_members old mid before now all bytes left in
    absurd (none next.item next.more next.are)

pub members_done : (old new : List ℕ) (before now : State) (all : List Member) → MembersLeft old new before now all None
    → WritesMembers old new before now all
members_done old new before now all left =
    let done = done_of AreFlatMembers members_text after_members old new before now all left in
    record { text = sym (append-nil new) ∙ done.text_is; state_is = done.state_is }

-- ---- objects

-- an object that the filter keeps whatever its tags are, with a key above the last one
pub keeps_all : (f : FilterValue) (last : Option Key) (c : ChangeValue) → IsLeft c → KeepsAll f c.key.kind
    → is_above key_cmp last c.key ≡ true → (keeps f c && is_above key_cmp last c.key) ≡ true
unfolding keeps
keeps_all f last c left all above = rw (left, all.chosen, all.any, above) refl

-- ---- what is written one after another

pub if_all_ok : {T E P Q R X : Type 0} (r : Result T E) → OnOk r P → OnOk r Q → OnOk r R → (P → Q → R → X) → OnOk r X
if_all_ok (Ok x) p q r f = f p q r
if_all_ok (Err e) p q r f = tt

pub node_written : (old a b new : List ℕ) (s after : State) (counters : Counters) (lon lat : ℤ) (tags : List Tag)
    → a ≡ old ++ difference_text s.counters.lon lon → b ≡ a ++ difference_text s.counters.lat lat
    → counters ≡ record s.counters { lon = lon; lat = lat } → WritesTags b new (record s { counters = counters }) after tags
    → WritesWhat old new s after (whats.Node lon lat tags)
node_written old a b new s after counters lon lat tags x y e h =
    let lon_text : List ℕ = difference_text s.counters.lon lon in
    let lat_text : List ℕ = difference_text s.counters.lat lat in
    record {
      text = h.text
          ∙ ap (λ (l : List ℕ). l ++ tags_text s.strings tags) (y ∙ ap (λ (l : List ℕ). l ++ lat_text) x ∙ append_assoc old lon_text lat_text)
          ∙ append_assoc old (lon_text ++ lat_text) (tags_text s.strings tags);
      state_is = h.state_is ∙ ap (λ (c : Counters). with_tags (record s { counters = c }) tags) e;
    }

pub way_written : (old start part mid new : List ℕ) (s after : State) (counters : Counters) (ids : List ℤ) (tags : List Tag)
    → start ≡ [] → WritesRefs start part s.counters counters ids → mid ≡ old ++ part_text part
    → WritesTags mid new (record s { counters = counters }) after tags → WritesWhat old new s after (whats.Way ids tags)
way_written old start part mid new s after counters ids tags e r p h =
    let text : part ≡ refs_text s.counters.way_node ids = r.text ∙ ap (λ (l : List ℕ). l ++ refs_text s.counters.way_node ids) e in
    record {
      text = h.text ∙ ap (λ (l : List ℕ). l ++ tags_text s.strings tags) (p ∙ ap (λ (l : List ℕ). old ++ part_text l) text)
          ∙ append_assoc old (part_text (refs_text s.counters.way_node ids)) (tags_text s.strings tags);
      state_is = h.state_is ∙ ap (λ (c : Counters). with_tags (record s { counters = c }) tags) r.counters_are;
    }

pub relation_written : (old start part mid new : List ℕ) (s between after : State) (members : List Member) (tags : List Tag)
    → start ≡ [] → WritesMembers start part s between members → mid ≡ old ++ part_text part
    → WritesTags mid new between after tags → WritesWhat old new s after (whats.Relation members tags)
relation_written old start part mid new s between after members tags e m p h =
    let text : part ≡ members_text s members = m.text ∙ ap (λ (l : List ℕ). l ++ members_text s members) e in
    record {
      text = h.text ∙ ap (λ (t : State). mid ++ tags_text t.strings tags) m.state_is
          ∙ ap (λ (l : List ℕ). l ++ tags_text (after_members s members).strings tags) (p ∙ ap (λ (l : List ℕ). old ++ part_text l) text)
          ∙ append_assoc old (part_text (members_text s members)) (tags_text (after_members s members).strings tags);
      state_is = h.state_is ∙ ap (λ (t : State). with_tags t tags) m.state_is;
    }

pub object_written : (a b new : List ℕ) (s mid after : State) (counters : Counters) (c : ChangeValue)
    → a ≡ difference_text s.counters.id c.key.id → b ≡ a ++ meta_text s c.meta
    → mid ≡ record s { strings = after_pair s.strings (number_text c.meta.uid) c.meta.user }
    → counters ≡ record mid.counters { id = c.key.id; time = pos c.meta.time; changeset = pos c.meta.changeset }
    → WritesWhat b new (record mid { counters = counters }) after c.what → WritesObject new s after c
object_written a b new s mid after counters c x y m e h =
    let P : Counters → Type 0 = λ d. WritesWhat b new (record mid { counters = d }) after c.what in
    let Q : State → Type 0 = λ t. WritesWhat b new (record t {
      counters = record t.counters { id = c.key.id; time = pos c.meta.time; changeset = pos c.meta.changeset };
    }) after c.what in
    let k : WritesWhat b new (after_meta s c) after c.what = subst Q m (subst P e h) in
    record {
      text = k.text ∙ ap (λ (l : List ℕ). l ++ what_text (after_meta s c) c.what) (y ∙ ap (λ (l : List ℕ). l ++ meta_text s c.meta) x);
      state_is = k.state_is;
    }

pub change_written : (old new : Writer) (out content : List ℕ) (s after : State) (c : ChangeValue)
    → out ≡ old.out.items ++ reset_text old.kind c.key.kind → s ≡ state_before old.kind old.state c.key.kind
    → WritesObject content s after c → new.out.items ≡ out ++ kind_byte c.key.kind ∷ part_text content → new.state ≡ after
    → new.kind ≡ Some c.key.kind → WritesChange old new c
change_written old new out content s after c r b h t n k =
    let now : State = state_before old.kind old.state c.key.kind in
    let same : content ≡ object_text now c = h.text ∙ ap (λ (x : State). object_text x c) b in
    record {
      text = t ∙ ap (λ (l : List ℕ). l ++ kind_byte c.key.kind ∷ part_text content) r
          ∙ ap (λ (l : List ℕ). (old.out.items ++ reset_text old.kind c.key.kind) ++ kind_byte c.key.kind ∷ part_text l) same
          ∙ append_assoc old.out.items (reset_text old.kind c.key.kind) (dataset_text now c);
      state_is = n ∙ h.state_is ∙ ap (λ (x : State). after_object x c) b;
      kind_is = k;
    }
