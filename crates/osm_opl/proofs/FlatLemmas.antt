-- Lines that are taken apart.
use Rattle.std.proofs.Common.{◌≡◌, ℕ, ◌+◌, ◌-◌, List, [], ◌∷◌, ◌++◌, length, take, None, Some}
use Rattle.std.proofs.Common.{refl, sym, ap, ◌∙◌, append_assoc, arith}
use Rattle.std.proofs.Common.{subst, lit≤}
use Rattle.std.specs.Prelude.{Bool, true, false, Option, MatchOption, ℤ, map, codes}
use Rattle.std.specs.List.{AllByRecursion, list_all}
use Rattle.std.specs.Str.{chars}
use Rattle.std.proofs.lemmas.Option.{same_Some}
use Rattle.std.proofs.lemmas.Str.{encodes-IsAscii, encodes-chars}
use Rattle.std.proofs.lemmas.List.{append-nil, length-append}
use Rattle.std.proofs.Math.Seq.{take-append_seam}
use Rattle.osm_model.specs.Change.{AreMembers, AreRefs, AreTags}
use Rattle.osm_model.specs.Limits.{IsId}
use Rattle.osm_model.specs.Meta.{IsMeta}
use Rattle.osm_model.specs.Text.{IsText}
use Rattle.osm_model.specs.declared.kind.Key.{Key}
use Rattle.osm_model.specs.declared.kind.Kind.{Kind}
use Rattle.osm_model.specs.declared.kind.Kind.TheVariants.{Node, Relation, Way}
use Rattle.osm_model.specs.Lists.{IsTag}
use Rattle.osm_model.specs.declared.lists.Tag.{Tag}
use Rattle.osm_reading.specs.Pieces.{Lacks, cut_at, joined, pieces, pieces_after}
use Rattle.osm_reading.proofs.PieceLemmas.{cut_again, joined-pieces, lacks_append, pieces-joined, pieces_some, uncut_again}
use Rattle.osm_model.specs.declared.change.What.TheVariants as whats
use Rattle.std.specs.Fmt.{signed_decimal}
use Rattle.osm_model.specs.declared.lists.Member.{Member}
use Rattle.osm_opl.specs.Lists.{letter_of}
use Rattle.osm_opl.specs.Reading.{id_at, kind_at, ref_at}
use Rattle.osm_opl.specs.Steps.Plain.{first_at}
use Rattle.osm_opl.specs.Flat.{AreFlat, AreFlatMembers, AreFlatRefs, AreFlatTags, IsBare, IsFirstMember, IsFirstRef, IsFirstTag}
use Rattle.osm_opl.specs.Flat.{IsFlat, IsMember, IsRest, flat_object, meta_of}
use Rattle.osm_opl.specs.Steps.BeginsFlat.{BeginsFlat, BeginsItems}
use Rattle.osm_opl.specs.Steps.Begins.{AreNumbers, Begins, BeginsWith, IsNear, numbers_text}
use Rattle.osm_opl.specs.Written.{char_text, chars_text, coordinate_field, escaped_text, is_written_bare}
use Rattle.osm_opl.specs.Written.{items_text, key_text, member_text, meta_text, more_items, ref_text, tag_text}
use Rattle.osm_opl.specs.declared.flat_parts.FlatLine.{FlatLine}
use Rattle.osm_opl.specs.declared.flat_parts.FlatWhat.TheVariants as flats
use Rattle.std.specs.Borrow.{Bor}
use Rattle.osm_opl.proofs.EscapeLaws.{text_lacks}
use Rattle.osm_opl.proofs.ListLaws.{kind_again, members_join, members_read, refs_read}
use Rattle.osm_opl.proofs.NumberLaws.{id_again, id_lacks}
use Rattle.osm_opl.proofs.WrittenLemmas.{ascii_if_bare, bare_chars}
use Rattle.osm_opl.proofs.WrittenNumbers.{id_spells}
use Rattle.osm_opl.proofs.WrittenLists.{joined_items, member_spells, ref_spells}
use Rattle.osm_opl.proofs.WrittenTexts.{text_is_spelled}
use Rattle.osm_opl.proofs.BeginFieldLemmas.{head_with, is_left, line_with, node_with, relation_with, way_with}

-- what is there of a list is what is written of its items
pub spelled_so : {X : Type 0} (text : X → List ℕ) (Limits : List X → Type 0) (items rest : List ℕ)
    → (h : Begins (items_text text) Limits items rest) → take (length items - length rest) items ≡ items_text text h.value
spelled_so text Limits items rest h =
    let size : length items ≡ length (items_text text h.value) + length rest =
    ap length h.parts ∙ length-append (items_text text h.value) rest in
    let count : length items - length rest ≡ length (items_text text h.value) = omega (arith, size) in
    ap (λ (n : ℕ). take n items) count ∙ ap (λ (l : List ℕ). take (length (items_text text h.value)) l) h.parts
    ∙ take-append_seam (items_text text h.value) rest

ref_bare : (id : ℤ) → IsId id → IsBare (ref_text id)
ref_bare id h =
    (λ e. omega (arith, e), id_lacks 37 (signed_decimal id) id (lit≤ tt) (λ e. omega (arith, e)) (λ e. omega (arith, e)) (id_spells id h))

items_begin : {X : Type 0} (mark : List ℕ) (text : X → List ℕ) (Limits : List X → Type 0) (One : X → Type 0)
    → ((xs : List X) → Limits xs → AllByRecursion One xs) → (bytes items rest : List ℕ) → bytes ≡ mark ++ items
    → Begins (items_text text) Limits items rest → IsBare (take (length items - length rest) items)
    → BeginsItems mark text Limits One (take (length items - length rest) items) bytes rest
items_begin mark text Limits One each bytes items rest e h bare =
    let spelled : List ℕ = take (length items - length rest) items in
    let list : spelled ≡ items_text text h.value = spelled_so text Limits items rest h in
    let there : items ≡ spelled ++ rest = h.parts ∙ ap (λ (l : List ℕ). l ++ rest) (sym list) in
    record {
      items = h.value;
      limits = h.limits;
      are = record { limits = each h.value h.limits; list = list; bare = bare };
      parts = e ∙ ap (λ (l : List ℕ). mark ++ l) there ∙ sym (append_assoc mark spelled rest);
    }

-- no node has an escape
refs_bare : (ids : List ℤ) → AllByRecursion IsId ids → IsBare (more_items ref_text ids)
refs_bare [] h = tt
refs_bare (id ∷ ids) h =
    (λ e. omega (arith, e), lacks_append 37 (ref_text id) (more_items ref_text ids) (ref_bare id h.0) (refs_bare ids h.1))

pub all_bare : (ids : List ℤ) → AllByRecursion IsId ids → IsBare (items_text ref_text ids)
all_bare [] h = tt
all_bare (id ∷ ids) h = lacks_append 37 (ref_text id) (more_items ref_text ids) (ref_bare id h.0) (refs_bare ids h.1)

pub refs_begin_flat : (bytes items rest : List ℕ) → bytes ≡ codes " N" ++ items → Begins (items_text ref_text) AreRefs items rest
    → BeginsItems (codes " N") ref_text AreRefs IsId (take (length items - length rest) items) bytes rest
refs_begin_flat bytes items rest e h =
    items_begin (codes " N") ref_text AreRefs IsId (λ xs l. l.each) bytes items rest e h
    (subst IsBare (sym (spelled_so ref_text AreRefs items rest h)) (all_bare h.value h.limits.each))

pub members_begin_flat : (bytes items rest : List ℕ) → bytes ≡ codes " M" ++ items
    → Begins (items_text member_text) AreMembers items rest → IsBare (take (length items - length rest) items)
    → BeginsItems (codes " M") member_text AreMembers IsMember (take (length items - length rest) items) bytes rest
members_begin_flat bytes items rest e h bare =
    items_begin (codes " M") member_text AreMembers IsMember (λ xs l. members_join xs l.ids l.roles) bytes items rest e h bare

-- a field of a list is what it is spelled as
field_of : {X : Type 0} (mark : List ℕ) (text : X → List ℕ) (Limits : List X → Type 0) (One : X → Type 0) (spelled bytes rest : List ℕ)
    → (h : BeginsItems mark text Limits One spelled bytes rest)
    → BeginsWith (λ xs. mark ++ items_text text xs) Limits h.items bytes rest
field_of mark text Limits One spelled bytes rest h = record {
  limits = h.limits;
  parts = h.parts ∙ ap (λ (l : List ℕ). (mark ++ l) ++ rest) h.are.list;
}

-- ---- texts without escapes

lacks_first : (s : ℕ) (xs ys : List ℕ) → Lacks s (xs ++ ys) → Lacks s xs
lacks_first s [] ys h = tt
lacks_first s (x ∷ xs) ys h = (h.0, lacks_first s xs ys h.1)

lacks_second : (s : ℕ) (xs ys : List ℕ) → Lacks s (xs ++ ys) → Lacks s ys
lacks_second s [] ys h = h
lacks_second s (x ∷ xs) ys h = lacks_second s xs ys h.1

bare_char : (c : ℕ) (b : Bool) → is_written_bare c ≡ b → Lacks 37 (char_text c) → is_written_bare c ≡ true
unfolding char_text
bare_char c true e h = e
bare_char c false e h = let k = rw e at h in absurd (k.0 refl)

bare_if_lacks : (cs : List ℕ) → Lacks 37 (chars_text cs) → list_all is_written_bare cs ≡ true
bare_if_lacks [] h = refl
bare_if_lacks (c ∷ cs) h =
    let first : is_written_bare c ≡ true = bare_char c (is_written_bare c) refl (lacks_first 37 (char_text c) (chars_text cs) h) in
    let rest : list_all is_written_bare cs ≡ true = bare_if_lacks cs (lacks_second 37 (char_text c) (chars_text cs) h) in
    rw (first, rest) refl

pub bare_is : (text : List ℕ) → IsText text → Lacks 37 (escaped_text text) → escaped_text text ≡ text
unfolding escaped_text
bare_is text is h =
    let bare : list_all is_written_bare (chars text) ≡ true = bare_if_lacks (chars text) h in
    bare_chars (chars text) bare ∙ sym (encodes-IsAscii (chars text) (ascii_if_bare (chars text) bare)) ∙ encodes-chars text is.utf8

-- ---- the first of several items

both_same : (a c b d : List ℕ) → ◌≡◌ {A = Option (List ℕ × List ℕ)} (Some (a, b)) (Some (c, d)) → (a ≡ c) × (b ≡ d)
both_same a c b d e =
    let x : List ℕ × List ℕ = (a, b) in
    let y : List ℕ × List ℕ = (c, d) in
    let p : x ≡ y = same_Some x y e in
    (ap (λ (q : List ℕ × List ℕ). q.0) p, ap (λ (q : List ℕ × List ℕ). q.1) p)

-- what a search for a comma finds: the bytes before the first one, and those after it
abbrev pub IsCutAtComma : List ℕ → List ℕ → Option (Bor (List ℕ)) → Type 0
IsCutAtComma bytes found rest =
    MatchOption rest ((cut_at 44 bytes ≡ None) × (found ≡ bytes)) (λ r. cut_at 44 bytes ≡ Some (found, r.now))

-- the end of an item, and what comes after the item
pub record IsEnd {X : Type 0} (text : X → List ℕ) (Limits : X → Type 0) (piece : List ℕ) (xs : List X) (found : List ℕ)
    (rest : Option (Bor (List ℕ))) : Type 0 where
  pub here : found ≡ piece
  pub left : IsRest (AreFlat text Limits) xs rest

end_cut : {X : Type 0} (text : X → List ℕ) (Limits : X → Type 0) (bytes found piece : List ℕ) (xs : List X)
    (rest : Option (Bor (List ℕ))) → Lacks 44 piece → IsCutAtComma bytes found rest → bytes ≡ piece ++ more_items text xs
    → AllByRecursion Limits xs → IsBare bytes → IsEnd text Limits piece xs found rest
end_cut text Limits bytes found piece [] None lacks m list limits bare = record { here = m.1 ∙ list ∙ append-nil piece; left = tt }
end_cut text Limits bytes found piece [] (Some r) lacks m list limits bare =
    let none : cut_at 44 bytes ≡ None = ap (cut_at 44) (list ∙ append-nil piece) ∙ uncut_again 44 piece lacks in
    let clash : ◌≡◌ {A = Option (List ℕ × List ℕ)} None (Some (found, r.now)) = sym none ∙ m in
    absurd cc
end_cut text Limits bytes found piece (y ∷ ys) None lacks m list limits bare =
    let some : cut_at 44 bytes ≡ Some (piece, text y ++ more_items text ys) =
    ap (cut_at 44) list ∙ cut_again 44 piece (text y ++ more_items text ys) lacks in
    let clash : ◌≡◌ {A = Option (List ℕ × List ℕ)} None (Some (piece, text y ++ more_items text ys)) = sym m.0 ∙ some in
    absurd cc
end_cut text Limits bytes found piece (y ∷ ys) (Some r) lacks m list limits bare =
    let some : cut_at 44 bytes ≡ Some (piece, text y ++ more_items text ys) =
    ap (cut_at 44) list ∙ cut_again 44 piece (text y ++ more_items text ys) lacks in
    let both = both_same found piece r.now (text y ++ more_items text ys) (sym m ∙ some) in
    let after = lacks_second 37 piece (44 ∷ (text y ++ more_items text ys)) (subst (Lacks 37) list bare) in
    record { here = both.0; left = record { limits = limits; list = both.1; bare = subst (Lacks 37) (sym both.1) after.1 } }

-- ---- tags

comma_lacks : (text : List ℕ) → IsText text → Lacks 44 (escaped_text text)
comma_lacks text is = text_lacks 44 (escaped_text text) text refl (λ e. omega (arith, e)) (lit≤ tt) (text_is_spelled text is)

equals_lacks : (text : List ℕ) → IsText text → Lacks 61 (escaped_text text)
equals_lacks text is = text_lacks 61 (escaped_text text) text refl (λ e. omega (arith, e)) (lit≤ tt) (text_is_spelled text is)

-- a list of tags begins with a key, and what follows the `=`
key_first : (tags : List ℕ) (tag : Tag) (more : List Tag) → AreFlatTags tags (tag ∷ more)
    → tags ≡ escaped_text tag.key ++ 61 ∷ (escaped_text tag.value ++ more_items tag_text more)
key_first tags tag more h = h.list ∙ append_assoc (escaped_text tag.key) (61 ∷ escaped_text tag.value) (more_items tag_text more)

key_cut : (tags : List ℕ) (tag : Tag) (more : List Tag) → AreFlatTags tags (tag ∷ more)
    → cut_at 61 tags ≡ Some (escaped_text tag.key, escaped_text tag.value ++ more_items tag_text more)
key_cut tags tag more h = ap (cut_at 61) (key_first tags tag more h)
    ∙ cut_again 61 (escaped_text tag.key) (escaped_text tag.value ++ more_items tag_text more) (equals_lacks tag.key h.limits.0.key)

pub first_tag_is : (tags key after value : List ℕ) (tag : Tag) (more : List Tag) (rest : Option (Bor (List ℕ)))
    → cut_at 61 tags ≡ Some (key, after) → IsCutAtComma after value rest → AreFlatTags tags (tag ∷ more)
    → IsFirstTag tag more key value rest
first_tag_is tags key after value tag more rest e m h =
    let is : IsTag tag = h.limits.0 in
    let both = both_same key (escaped_text tag.key) after (escaped_text tag.value ++ more_items tag_text more)
    (sym e ∙ key_cut tags tag more h) in
    let bare : Lacks 37 (escaped_text tag.key ++ 61 ∷ (escaped_text tag.value ++ more_items tag_text more)) =
    subst (Lacks 37) (key_first tags tag more h) h.bare in
    let left = lacks_second 37 (escaped_text tag.key) (61 ∷ (escaped_text tag.value ++ more_items tag_text more)) bare in
    let here : IsEnd tag_text IsTag (escaped_text tag.value) more value rest =
    end_cut tag_text IsTag after value (escaped_text tag.value) more rest (comma_lacks tag.value is.value) m both.1 h.limits.1
    (subst (Lacks 37) (sym both.1) left.1) in
    record {
      named = both.0 ∙ bare_is tag.key is.key
          (lacks_first 37 (escaped_text tag.key) (61 ∷ (escaped_text tag.value ++ more_items tag_text more)) bare);
      valued = here.here ∙ bare_is tag.value is.value (lacks_first 37 (escaped_text tag.value) (more_items tag_text more) left.1);
      left = here.left;
    }

-- a tag has its `=`
pub no_value : (tags : List ℕ) (tag : Tag) (more : List Tag) {P : Type 0} → cut_at 61 tags ≡ None
    → AreFlatTags tags (tag ∷ more) → P
no_value tags tag more e h =
    let clash : ◌≡◌ {A = Option (List ℕ × List ℕ)} None (Some (escaped_text tag.key, escaped_text tag.value ++ more_items tag_text more)) =
    sym e ∙ key_cut tags tag more h in
    absurd cc

-- ---- nodes

ref_read : (id : ℤ) → IsId id → ref_at (ref_text id) ≡ Some id
ref_read id is = refs_read.again (ref_text id) id (ref_spells id is) is

ref_pieces : (ids : List ℤ) → AllByRecursion IsId ids → AllByRecursion (Lacks 44) (map ref_text ids)
ref_pieces [] h = tt
ref_pieces (id ∷ ids) h = (refs_read.no_comma (ref_text id) id (ref_spells id h.0), ref_pieces ids h.1)

-- the pieces of a list of nodes
pieces_of : (refs : List ℕ) (id : ℤ) (more : List ℤ) → AreFlatRefs refs (id ∷ more) → pieces 44 refs ≡ map ref_text (id ∷ more)
pieces_of refs id more h =
    ap (pieces 44) (h.list ∙ sym (joined_items ref_text (ref_text id) more))
    ∙ pieces-joined 44 (ref_text id) (map ref_text more) (ref_pieces (id ∷ more) h.limits)

ref_first : (refs : List ℕ) (id : ℤ) (more : List ℤ) → AreFlatRefs refs (id ∷ more)
    → first_at ref_at (pieces 44 refs) ≡ Some (id, map ref_text more)
ref_first refs id more h = rw (pieces_of refs id more h, ref_read id h.limits.0) refl

-- what comes after a node has the pieces of the others
rest_of : (more : List ℤ) (rest : Option (Bor (List ℕ))) → AllByRecursion IsId more
    → pieces_after 44 rest ≡ map ref_text more → IsRest AreFlatRefs more rest
rest_of [] None h e = tt
rest_of [] (Some r) h e = let some = pieces_some 44 r.now in let clash : some.0 ∷ some.1 ≡ [] = sym some.2 ∙ e in absurd cc
rest_of (id ∷ ids) None h e = absurd cc
rest_of (id ∷ ids) (Some r) h e =
    let list : r.now ≡ items_text ref_text (id ∷ ids) =
    sym (joined-pieces 44 r.now) ∙ ap (joined 44) e ∙ joined_items ref_text (ref_text id) ids in
    record { limits = h; list = list; bare = subst IsBare (sym list) (all_bare (id ∷ ids) h) }

pub first_ref_is : (refs : List ℕ) (id found : ℤ) (more : List ℤ) (rest : Option (Bor (List ℕ)))
    → first_at ref_at (pieces 44 refs) ≡ Some (found, pieces_after 44 rest) → AreFlatRefs refs (id ∷ more)
    → IsFirstRef id more found rest
first_ref_is refs id found more rest e h =
    let x : ℤ × List (List ℕ) = (found, pieces_after 44 rest) in
    let y : ℤ × List (List ℕ) = (id, map ref_text more) in
    let p : x ≡ y = same_Some x y (sym e ∙ ref_first refs id more h) in
    record {
      here = ap (λ (q : ℤ × List (List ℕ)). q.0) p;
      left = rest_of more rest h.limits.1 (ap (λ (q : ℤ × List (List ℕ)). q.1) p);
    }

pub no_ref : (refs : List ℕ) (id : ℤ) (more : List ℤ) {P : Type 0} → first_at ref_at (pieces 44 refs) ≡ None
    → AreFlatRefs refs (id ∷ more) → P
no_ref refs id more e h =
    let clash : ◌≡◌ {A = Option (ℤ × List (List ℕ))} None (Some (id, map ref_text more)) = sym e ∙ ref_first refs id more h in
    absurd cc

-- ---- members

member_comma : (m : Member) → IsMember m → Lacks 44 (member_text m)
member_comma m is = members_read.no_comma (member_text m) m (member_spells m is)

at_cut : (id : ℤ) → IsId id → (after : List ℕ) → cut_at 64 (signed_decimal id ++ 64 ∷ after) ≡ Some (signed_decimal id, after)
at_cut id is after = cut_again 64 (signed_decimal id) after
    (id_lacks 64 (signed_decimal id) id (lit≤ tt) (λ e. omega (arith, e)) (λ e. omega (arith, e)) (id_spells id is))

-- what is read of a member's piece
pub record MemberCut (m : Member) (piece : List ℕ) : Type 0 where
  pub letter : piece ≡ letter_of m.key.kind ∷ (signed_decimal m.key.id ++ 64 ∷ escaped_text m.role)
  pub cut : cut_at 64 (signed_decimal m.key.id ++ 64 ∷ escaped_text m.role) ≡ Some (signed_decimal m.key.id, escaped_text m.role)
  pub id : id_at (signed_decimal m.key.id) ≡ Some m.key.id
  pub bare : escaped_text m.role ≡ m.role

pub member_cut : (members piece : List ℕ) (m : Member) (more : List Member) (rest : Option (Bor (List ℕ)))
    → IsCutAtComma members piece rest → AreFlatMembers members (m ∷ more) → MemberCut m piece × IsRest AreFlatMembers more rest
member_cut members piece m more rest e h =
    let is : IsMember m = h.limits.0 in
    let first : IsEnd member_text IsMember (member_text m) more piece rest =
    end_cut member_text IsMember members piece (member_text m) more rest (member_comma m is) e h.list h.limits.1 h.bare in
    let bare : Lacks 37 ((key_text m.key ++ 64 ∷ escaped_text m.role) ++ more_items member_text more) = subst (Lacks 37) h.list h.bare in
    let after = lacks_second 37 (key_text m.key) (64 ∷ escaped_text m.role)
    (lacks_first 37 (key_text m.key ++ 64 ∷ escaped_text m.role) (more_items member_text more) bare) in (
      record {
        letter = first.here;
        cut = at_cut m.key.id is.id (escaped_text m.role);
        id = id_again (signed_decimal m.key.id) m.key.id (id_spells m.key.id is.id) is.id;
        bare = bare_is m.role is.role after.1;
      },
      first.left,
    )

-- a list of members begins with a key, and what follows the `@`
member_first : (members : List ℕ) (m : Member) (more : List Member) → AreFlatMembers members (m ∷ more)
    → members ≡ key_text m.key ++ 64 ∷ (escaped_text m.role ++ more_items member_text more)
member_first members m more h = h.list ∙ append_assoc (key_text m.key) (64 ∷ escaped_text m.role) (more_items member_text more)

-- a key before an `@` is that of the member
key_is : (key : Key) (after role : List ℕ) (m : Member) → IsId key.id → IsMember m
    → key_text key ++ 64 ∷ after ≡ key_text m.key ++ 64 ∷ role → (key ≡ m.key) × (after ≡ role)
key_is key after role m is member e =
    let letters : letter_of key.kind ≡ letter_of m.key.kind = cc in
    let kinds : key.kind ≡ m.key.kind =
    same_Some key.kind m.key.kind (sym (kind_again key.kind) ∙ ap kind_at letters ∙ kind_again m.key.kind) in
    let tails : signed_decimal key.id ++ 64 ∷ after ≡ signed_decimal m.key.id ++ 64 ∷ role = cc in
    let both = both_same (signed_decimal key.id) (signed_decimal m.key.id) after role
    (sym (at_cut key.id is after) ∙ ap (cut_at 64) tails ∙ at_cut m.key.id member.id role) in
    let ids : key.id ≡ m.key.id =
    same_Some key.id m.key.id (sym (id_again (signed_decimal key.id) key.id (id_spells key.id is) is) ∙ ap id_at both.0
    ∙ id_again (signed_decimal m.key.id) m.key.id (id_spells m.key.id member.id) member.id) in
    (rw (kinds, ids) refl, both.1)

pub plain_member_is : (members rest after role : List ℕ) (key : Key) (m : Member) (more : List Member) (left : Option (Bor (List ℕ)))
    → members ≡ key_text key ++ rest → IsId key.id → rest ≡ 64 ∷ after → IsCutAtComma after role left
    → AreFlatMembers members (m ∷ more) → IsFirstMember m more key role left
plain_member_is members rest after role key m more left e is mark cut h =
    let member : IsMember m = h.limits.0 in
    let whole : key_text key ++ 64 ∷ after ≡ key_text m.key ++ 64 ∷ (escaped_text m.role ++ more_items member_text more) =
    ap (λ (l : List ℕ). key_text key ++ l) (sym mark) ∙ sym e ∙ member_first members m more h in
    let both = key_is key after (escaped_text m.role ++ more_items member_text more) m is member whole in
    let bare : Lacks 37 (key_text m.key ++ 64 ∷ (escaped_text m.role ++ more_items member_text more)) =
    subst (Lacks 37) (member_first members m more h) h.bare in
    let last = lacks_second 37 (key_text m.key) (64 ∷ (escaped_text m.role ++ more_items member_text more)) bare in
    let here : IsEnd member_text IsMember (escaped_text m.role) more role left =
    end_cut member_text IsMember after role (escaped_text m.role) more left (comma_lacks m.role member.role) cut both.1 h.limits.1
    (subst (Lacks 37) (sym both.1) last.1) in
    record {
      named = both.0;
      roled = here.here ∙ bare_is m.role member.role (lacks_first 37 (escaped_text m.role) (more_items member_text more) last.1);
      left = here.left;
    }

pub no_member : (piece : List ℕ) (m : Member) {P : Type 0} → MemberCut m piece → length piece ≡ 0 → P
no_member piece m h e =
    let some : length piece ≡ length (signed_decimal m.key.id ++ 64 ∷ escaped_text m.role) + 1 = ap length h.letter ∙ omega arith in
    absurd (omega (arith, e, some))

-- the letter of a member, and what follows it
parted : (piece : List ℕ) (letter : ℕ) (named : List ℕ) (m : Member) → MemberCut m piece → piece ≡ letter ∷ named
    → (letter ≡ letter_of m.key.kind) × (named ≡ signed_decimal m.key.id ++ 64 ∷ escaped_text m.role)
parted piece letter named m h e =
    let same : letter ∷ named ≡ letter_of m.key.kind ∷ (signed_decimal m.key.id ++ 64 ∷ escaped_text m.role) = sym e ∙ h.letter in
    (cc, cc)

pub no_role : (piece : List ℕ) (letter : ℕ) (named : List ℕ) (m : Member) {P : Type 0} → MemberCut m piece
    → piece ≡ letter ∷ named → cut_at 64 named ≡ None → P
no_role piece letter named m h e none =
    let cut : cut_at 64 named ≡ Some (signed_decimal m.key.id, escaped_text m.role) =
    ap (cut_at 64) (parted piece letter named m h e).1 ∙ h.cut in
    let clash : ◌≡◌ {A = Option (List ℕ × List ℕ)} None (Some (signed_decimal m.key.id, escaped_text m.role)) = sym none ∙ cut in
    absurd cc

pub no_kind : (piece : List ℕ) (letter : ℕ) (named : List ℕ) (m : Member) {P : Type 0} → MemberCut m piece
    → piece ≡ letter ∷ named → kind_at letter ≡ None → P
no_kind piece letter named m h e none =
    let some : kind_at letter ≡ Some m.key.kind = ap kind_at (parted piece letter named m h e).0 ∙ kind_again m.key.kind in
    let clash : None ≡ Some m.key.kind = sym none ∙ some in
    absurd cc

-- the id and the role of a member
named_parts : (piece : List ℕ) (letter : ℕ) (named id role : List ℕ) (m : Member) → MemberCut m piece → piece ≡ letter ∷ named
    → cut_at 64 named ≡ Some (id, role) → (id ≡ signed_decimal m.key.id) × (role ≡ escaped_text m.role)
named_parts piece letter named id role m h e some =
    both_same id (signed_decimal m.key.id) role (escaped_text m.role)
    (sym some ∙ ap (cut_at 64) (parted piece letter named m h e).1 ∙ h.cut)

pub no_member_id : (piece : List ℕ) (letter : ℕ) (named id role : List ℕ) (m : Member) {P : Type 0} → MemberCut m piece
    → piece ≡ letter ∷ named → cut_at 64 named ≡ Some (id, role) → id_at id ≡ None → P
no_member_id piece letter named id role m h e some none =
    let read : id_at id ≡ Some m.key.id = ap id_at (named_parts piece letter named id role m h e some).0 ∙ h.id in
    let clash : None ≡ Some m.key.id = sym none ∙ read in
    absurd cc

pub first_member_is : (piece : List ℕ) (letter : ℕ) (named id role : List ℕ) (kind : Kind) (z : ℤ) (m : Member) (more : List Member)
    (rest : Option (Bor (List ℕ))) → MemberCut m piece → piece ≡ letter ∷ named → cut_at 64 named ≡ Some (id, role)
    → kind_at letter ≡ Some kind → id_at id ≡ Some z → IsRest AreFlatMembers more rest
    → IsFirstMember m more (record { kind = kind; id = z }) role rest
first_member_is piece letter named id role kind z m more rest h e some k i left =
    let parts = named_parts piece letter named id role m h e some in
    let kinds : kind ≡ m.key.kind = same_Some kind m.key.kind (sym k ∙ ap kind_at (parted piece letter named m h e).0 ∙ kind_again m.key.kind) in
    let ids : z ≡ m.key.id = same_Some z m.key.id (sym i ∙ ap id_at parts.0 ∙ h.id) in
    record { named = rw (kinds, ids) refl; roled = parts.1 ∙ h.bare; left = left }

-- ---- lines

pub node_flat : (lon lat : ℤ) (tags bytes a b rest : List ℕ) → BeginsItems (codes " T") tag_text AreTags IsTag tags bytes a
    → BeginsWith (coordinate_field (codes " x")) (IsNear 1800000000) lon a b
    → BeginsWith (coordinate_field (codes " y")) (IsNear 900000000) lat b rest
    → BeginsFlat Node tags (flats.Node lon lat) bytes rest
node_flat lon lat tags bytes a b rest t x y = record {
  what = whats.Node lon lat t.items;
  there = node_with t.items lon lat bytes a b rest (field_of (codes " T") tag_text AreTags IsTag tags bytes a t) x y;
  tagged = t.are;
  same = (refl, refl);
}

pub way_flat : (refs : Bor (List ℕ)) (tags bytes a rest : List ℕ) → BeginsItems (codes " T") tag_text AreTags IsTag tags bytes a
    → BeginsItems (codes " N") ref_text AreRefs IsId refs.now a rest → BeginsFlat Way tags (flats.Way refs) bytes rest
way_flat refs tags bytes a rest t n = record {
  what = whats.Way n.items t.items;
  there = way_with t.items n.items bytes a rest (field_of (codes " T") tag_text AreTags IsTag tags bytes a t)
      (field_of (codes " N") ref_text AreRefs IsId refs.now a rest n);
  tagged = t.are;
  same = n.are;
}

pub relation_flat : (members : Bor (List ℕ)) (tags bytes a rest : List ℕ) → BeginsItems (codes " T") tag_text AreTags IsTag tags bytes a
    → BeginsItems (codes " M") member_text AreMembers IsMember members.now a rest
    → BeginsFlat Relation tags (flats.Relation members) bytes rest
relation_flat members tags bytes a rest t m = record {
  what = whats.Relation m.items t.items;
  there = relation_with t.items m.items bytes a rest (field_of (codes " T") tag_text AreTags IsTag tags bytes a t)
      (field_of (codes " M") member_text AreMembers IsMember members.now a rest m);
  tagged = t.are;
  same = m.are;
}

pub line_flat : (line a b d rest : List ℕ) (flat : FlatLine) → line ≡ key_text flat.key ++ a → IsId flat.key.id
    → BeginsWith numbers_text AreNumbers flat.numbers a b → BeginsWith escaped_text IsText flat.user.now b d
    → BeginsFlat flat.key.kind flat.tags.now flat.what d rest → length rest ≡ 0 → IsFlat line flat
line_flat line a b d rest flat k is numbers user h none =
    let head : BeginsWith (meta_text (codes "V")) IsMeta (meta_of flat.numbers flat.user.now) a d =
    head_with flat.numbers flat.user.now a b d numbers user in
    record {
      what = h.what;
      limits = record { id = is; meta = head.limits; what = h.there.limits.limits };
      left = is_left (flat_object flat h.what) h.what h.there.limits.left;
      text = line_with line a d rest flat.key (meta_of flat.numbers flat.user.now) h.what k head h.there none;
      tagged = h.tagged;
      same = h.same;
    }
