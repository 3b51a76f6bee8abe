-- A list of tags, references or members that is written spells what was written.
use Rattle.std.proofs.Common.{◌≡◌, ℕ, List, [], ◌∷◌, ◌++◌, refl, sym, ap, subst}
use Rattle.std.specs.Prelude.{ℤ, map}
use Rattle.std.specs.Fmt.{signed_decimal}
use Rattle.std.specs.List.{AllByRecursion}
use Rattle.std.proofs.lemmas.List.{append-nil}
use Rattle.osm_model.specs.Change.{AreTags, AreRefs, AreMembers}
use Rattle.osm_model.specs.Limits.{IsId}
use Rattle.osm_model.specs.Lists.{IsTag}
use Rattle.osm_model.specs.declared.lists.Member.{Member}
use Rattle.osm_model.specs.declared.lists.Tag.{Tag}
use Rattle.osm_opl.specs.Lists.{Each, none as no_items, item, SpellsList, empty, items, SpellsTag, SpellsRef, SpellsMember}
use Rattle.osm_reading.specs.Pieces.{joined}
use Rattle.osm_opl.specs.Written.{items_text, member_text, more_items, ref_text, tag_text, escaped_text}
use Rattle.osm_opl.specs.Flat.{IsMember}
use Rattle.osm_opl.proofs.ListLaws.{members_join}
use Rattle.osm_opl.proofs.WrittenNumbers.{id_spells}
use Rattle.osm_opl.proofs.WrittenTexts.{text_is_spelled}

pub joined_items : {X : Type 0} (text : X → List ℕ) (p : List ℕ) (xs : List X) → joined 44 (p ∷ map text xs) ≡ p ++ more_items text xs
joined_items text p [] = sym (append-nil p)
joined_items text p (x ∷ xs) = ap (λ (l : List ℕ). p ++ 44 ∷ l) (joined_items text (text x) xs)

each_spells : {X : Type 0} (text : X → List ℕ) (Spells : List ℕ → X → Type 0) (Limits : X → Type 0)
    → ((x : X) → Limits x → Spells (text x) x) → (xs : List X) → AllByRecursion Limits xs → Each Spells (map text xs) xs
each_spells text Spells Limits f [] h = no_items
each_spells text Spells Limits f (x ∷ xs) h = item (text x) (map text xs) x xs (f x h.0) (each_spells text Spells Limits f xs h.1)

list_spells : {X : Type 0} (text : X → List ℕ) (Spells : List ℕ → X → Type 0) (Limits : X → Type 0)
    → ((x : X) → Limits x → Spells (text x) x) → (xs : List X) → AllByRecursion Limits xs
    → SpellsList Spells (items_text text xs) xs
list_spells text Spells Limits f [] h = empty
list_spells {X} text Spells Limits f (x ∷ xs) h =
    let P : List ℕ → Type 0 = λ l. SpellsList Spells l (x ∷ xs) in
    subst P (joined_items text (text x) xs) (items (text x) (map text xs) (x ∷ xs) (each_spells text Spells Limits f (x ∷ xs) h))

pub tag_spells : (t : Tag) → IsTag t → SpellsTag (tag_text t) t
tag_spells t h = record {
  before = escaped_text t.key;
  after = escaped_text t.value;
  parts = refl;
  key =
      text_is_spelled t.key h.key;
  value = text_is_spelled t.value h.value;
}

pub ref_spells : (id : ℤ) → IsId id → SpellsRef (ref_text id) id
ref_spells id h = record { digits = signed_decimal id; parts = refl; spells = id_spells id h }

pub member_spells : (m : Member) → IsMember m → SpellsMember (member_text m) m
member_spells m h = record {
  before = signed_decimal m.key.id;
  after = escaped_text m.role;
  parts = refl;
  id =
      id_spells m.key.id h.id;
  role = text_is_spelled m.role h.role;
}

pub tags_spell : (tags : List Tag) → AreTags tags → SpellsList SpellsTag (items_text tag_text tags) tags
tags_spell tags h = list_spells tag_text SpellsTag IsTag tag_spells tags h.each

pub refs_spell : (refs : List ℤ) → AreRefs refs → SpellsList SpellsRef (items_text ref_text refs) refs
refs_spell refs h = list_spells ref_text SpellsRef IsId ref_spells refs h.each

pub members_spell : (members : List Member) → AreMembers members → SpellsList SpellsMember (items_text member_text members) members
members_spell members h = list_spells member_text SpellsMember IsMember member_spells members (members_join members h.ids h.roles)
