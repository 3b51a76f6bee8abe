-- The fields of a written line: the line is its fields with spaces between them, and the fields of the
-- object spell it.
use Rattle.std.proofs.Common.{◌≡◌, ℕ, List, [], ◌∷◌, ◌++◌, refl, sym, ap, subst, ◌∙◌, append_assoc, arith}
use Rattle.std.specs.Prelude.{decimal}
use Rattle.std.specs.Fmt.{signed_decimal}
use Rattle.std.proofs.lemmas.Int.{ints}
use Rattle.std.proofs.lemmas.List.{append-nil}
use Rattle.osm_model.specs.Change.{ChangeValue, IsWhat}
use Rattle.osm_model.specs.Meta.{MetaValue}
use Rattle.osm_model.specs.declared.change.What.{What}
use Rattle.osm_model.specs.declared.change.What.TheVariants as whats
use Rattle.osm_model.specs.declared.kind.Kind.{Kind}
use Rattle.osm_model.specs.declared.kind.Kind.TheVariants.{Node, Way, Relation}
use Rattle.osm_model.specs.CivilTime.{time_text}
use Rattle.osm_opl.specs.Line.{SpellsWhat, node, way, relation, deleted_node, deleted_way, deleted_relation, absent, status_text}
use Rattle.osm_opl.specs.Lists.{empty, letter_of}
use Rattle.osm_reading.specs.Pieces.{joined}
use Rattle.osm_opl.specs.Written.{coordinate_text, items_text, line_text, member_text, meta_text, ref_text, tag_text, escaped_text, what_text}
use Rattle.osm_opl.proofs.WrittenNumbers.{coordinate_spells}
use Rattle.osm_opl.proofs.WrittenLists.{tags_spell, refs_spell, members_spell}

-- fields with a space before each
spaced : List (List ℕ) → List ℕ
spaced [] = []
spaced (f ∷ fs) = 32 ∷ f ++ spaced fs

joined_spaced : (f : List ℕ) (fs : List (List ℕ)) → joined 32 (f ∷ fs) ≡ f ++ spaced fs
unfolding spaced
joined_spaced f [] = sym (append-nil f)
joined_spaced f (g ∷ gs) = ap (λ (l : List ℕ). f ++ 32 ∷ l) (joined_spaced g gs)

spaced-append : (xs ys : List (List ℕ)) → spaced (xs ++ ys) ≡ spaced xs ++ spaced ys
unfolding spaced
spaced-append [] ys = refl
spaced-append (x ∷ xs) ys = ap (λ (l : List ℕ). (32 ∷ x) ++ l) (spaced-append xs ys) ∙ sym (append_assoc (32 ∷ x) (spaced xs) (spaced ys))

pub what_fields : Kind → What → List (List ℕ)
what_fields kind (whats.Node lon lat tags) = (84 ∷ items_text tag_text tags) ∷ (120 ∷ coordinate_text lon) ∷ (121 ∷ coordinate_text lat) ∷ []
what_fields kind (whats.Way refs tags) = (84 ∷ items_text tag_text tags) ∷ (78 ∷ items_text ref_text refs) ∷ []
what_fields kind (whats.Relation members tags) = (84 ∷ items_text tag_text tags) ∷ (77 ∷ items_text member_text members) ∷ []
what_fields Node whats.Deleted = (84 ∷ []) ∷ (120 ∷ []) ∷ (121 ∷ []) ∷ []
what_fields Way whats.Deleted = (84 ∷ []) ∷ (78 ∷ []) ∷ []
what_fields Relation whats.Deleted = (84 ∷ []) ∷ (77 ∷ []) ∷ []

two_spaced : (a b : List ℕ) → spaced (a ∷ b ∷ []) ≡ (32 ∷ a) ++ (32 ∷ b)
unfolding spaced
two_spaced a b = ap (λ (l : List ℕ). (32 ∷ a) ++ (32 ∷ l)) (append-nil b)

three_spaced : (a b c : List ℕ) → spaced (a ∷ b ∷ c ∷ []) ≡ (32 ∷ a) ++ (32 ∷ b) ++ (32 ∷ c)
unfolding spaced
three_spaced a b c = ap (λ (l : List ℕ). (32 ∷ a) ++ ((32 ∷ b) ++ (32 ∷ l))) (append-nil c) ∙ sym (append_assoc (32 ∷ a) (32 ∷ b) (32 ∷ c))

what_parts : (kind : Kind) (what : What) → what_text kind what ≡ spaced (what_fields kind what)
unfolding what_fields
what_parts kind (whats.Node lon lat tags) = sym (three_spaced (84 ∷ items_text tag_text tags) (120 ∷ coordinate_text lon) (121 ∷ coordinate_text lat))
what_parts kind (whats.Way refs tags) = sym (two_spaced (84 ∷ items_text tag_text tags) (78 ∷ items_text ref_text refs))
what_parts kind (whats.Relation members tags) = sym (two_spaced (84 ∷ items_text tag_text tags) (77 ∷ items_text member_text members))
what_parts Node whats.Deleted = sym (three_spaced (84 ∷ []) (120 ∷ []) (121 ∷ []))
what_parts Way whats.Deleted = sym (two_spaced (84 ∷ []) (78 ∷ []))
what_parts Relation whats.Deleted = sym (two_spaced (84 ∷ []) (77 ∷ []))

pub what_spells : (kind : Kind) (what : What) → IsWhat kind what → SpellsWhat kind (what_fields kind what) what
unfolding what_fields
what_spells kind (whats.Node lon lat tags) h =
    let spelled : SpellsWhat Node ((84 ∷ items_text tag_text tags) ∷ (120 ∷ coordinate_text lon) ∷
    (121 ∷ coordinate_text lat) ∷ []) (whats.Node lon lat tags) =
    node (items_text tag_text tags) (coordinate_text lon) (coordinate_text lat) tags lon lat (tags_spell tags h.2)
    (coordinate_spells lon h.1.longitude.low h.1.longitude.high)
    (coordinate_spells lat (omega (arith, ints, h.1.latitude.low)) (omega (arith, ints, h.1.latitude.high))) in
    subst (λ (k : Kind). SpellsWhat k ((84 ∷ items_text tag_text tags) ∷ (120 ∷ coordinate_text lon) ∷
    (121 ∷ coordinate_text lat) ∷ []) (whats.Node lon lat tags)) (sym h.0) spelled
what_spells kind (whats.Way refs tags) h =
    subst (λ (k : Kind). SpellsWhat k ((84 ∷ items_text tag_text tags) ∷ (78 ∷ items_text ref_text refs) ∷ [])
    (whats.Way refs tags)) (sym h.0) (way (items_text tag_text tags) (items_text ref_text refs) tags refs
    (tags_spell tags h.2) (refs_spell refs h.1))
what_spells kind (whats.Relation members tags) h =
    subst (λ (k : Kind). SpellsWhat k ((84 ∷ items_text tag_text tags) ∷ (77 ∷ items_text member_text members) ∷ [])
    (whats.Relation members tags)) (sym h.0) (relation (items_text tag_text tags) (items_text member_text members)
    tags members (tags_spell tags h.2) (members_spell members h.1))
what_spells Node whats.Deleted h = deleted_node [] [] [] [] empty (record { few = omega arith; each = tt }) absent absent
what_spells Way whats.Deleted h = deleted_way [] [] [] [] empty (record { few = omega arith; each = tt }) empty (record { few = omega arith; each = tt })
what_spells Relation whats.Deleted h = deleted_relation [] [] [] [] empty (record { few = omega arith; each = tt })
    empty (record { few = omega arith; ids = tt; roles = tt })

six : (a b c d e f : List ℕ) → ((32 ∷ a) ++ (32 ∷ b) ++ (32 ∷ c)) ++ ((32 ∷ d) ++ (32 ∷ e) ++ (32 ∷ f)) ≡ spaced (a ∷ b ∷ c ∷ []) ++ spaced (d ∷ e ∷ f ∷ [])
six a b c d e f = rw (three_spaced a b c, three_spaced d e f) refl

head_parts : (status : List ℕ) (m : MetaValue)
    → meta_text status m ≡ spaced ((118 ∷ decimal m.version) ∷ (100 ∷ status) ∷ (99 ∷ decimal m.changeset) ∷
    (116 ∷ time_text m.time) ∷ (105 ∷ decimal m.uid) ∷ (117 ∷ escaped_text m.user) ∷ [])
head_parts status m =
    six (118 ∷ decimal m.version) (100 ∷ status) (99 ∷ decimal m.changeset) (116 ∷ time_text m.time) (105 ∷ decimal m.uid) (117 ∷ escaped_text m.user)
    ∙ sym (spaced-append ((118 ∷ decimal m.version) ∷ (100 ∷ status) ∷ (99 ∷ decimal m.changeset) ∷ [])
    ((116 ∷ time_text m.time) ∷ (105 ∷ decimal m.uid) ∷ (117 ∷ escaped_text m.user) ∷ []))

pub line_whole : (c : ChangeValue) → line_text c ≡ joined 32 ((letter_of c.key.kind ∷ signed_decimal c.key.id) ∷
    (118 ∷ decimal c.meta.version) ∷ (100 ∷ status_text c.what) ∷ (99 ∷ decimal c.meta.changeset) ∷
    (116 ∷ time_text c.meta.time) ∷ (105 ∷ decimal c.meta.uid) ∷ (117 ∷ escaped_text c.meta.user) ∷ what_fields
    c.key.kind c.what)
unfolding line_text
line_whole c =
    let head : List (List ℕ) = (118 ∷ decimal c.meta.version) ∷ (100 ∷ status_text c.what) ∷
    (99 ∷ decimal c.meta.changeset) ∷ (116 ∷ time_text c.meta.time) ∷ (105 ∷ decimal c.meta.uid) ∷
    (117 ∷ escaped_text c.meta.user) ∷ [] in
    let first : List ℕ = letter_of c.key.kind ∷ signed_decimal c.key.id in
    append_assoc first (meta_text (status_text c.what) c.meta) (what_text c.key.kind c.what)
    ∙ ap (λ (l : List ℕ). first ++ (l ++ what_text c.key.kind c.what)) (head_parts (status_text c.what) c.meta)
    ∙ ap (λ (l : List ℕ). first ++ (spaced head ++ l)) (what_parts c.key.kind c.what)
    ∙ ap (λ (l : List ℕ). first ++ l) (sym (spaced-append head (what_fields c.key.kind c.what)))
    ∙ sym (joined_spaced first (head ++ what_fields c.key.kind c.what))
