-- The definitions at the numbers and datasets of the wiki's page, worked out by hand.
use Rattle.std.proofs.Common.{◌≡◌, ℕ, ◌+◌, ◌≤◌, true, List, [], ◌∷◌, ◌++◌, length, Option, Some, None, refl, arith}
use Rattle.std.specs.Prelude.{pos, negsuc, neg_ℤ}
use Rattle.std.specs.Str.{bytes_eq}
use Rattle.std.proofs.lemmas.Int.{ints}
use Rattle.std.proofs.lemmas.List.{length-append}
use Rattle.std.proofs.lemmas.Slice.Eq.{bytes_eq-Decides}
use Rattle.osm_model.specs.Batch.{IsBatch}
use Rattle.osm_model.specs.Change.{ChangeValue}
use Rattle.osm_model.specs.Limits.{max_changes}
use Rattle.osm_model.specs.Meta.{MetaValue}
use Rattle.osm_model.specs.declared.kind.Kind.TheVariants as kinds
use Rattle.osm_model.specs.declared.change.What.TheVariants.{Node, Way, Relation, Deleted}
use Rattle.osm_o5c.specs.Number.{SpellsNumber}
use Rattle.osm_o5c.specs.Context.{Context, IsWrapped}
use Rattle.osm_o5c.specs.Entries.{entries_of, named}
use Rattle.osm_o5c.specs.File.{changes_with, Dataset, object}
use Rattle.osm_o5c.specs.Written.{after_object, new_state, varint_text, number_text, signed_text, dataset_text, o5c_text, o5m_text}
use Rattle.osm_o5c.specs.Written.{last_equal, reference_of, entered_by, reset_text, state_before}
use Rattle.osm_o5c.specs.declared.strings.Entry.{Entry}
use Rattle.osm_o5c.specs.declared.strings.Entry.TheVariants.{Pair, Single}
use Rattle.osm_o5c.specs.declared.writer.State.{State}
use Rattle.osm_model.proofs.FileLimitLemmas.{batch_next}

unsigned_5 : number_text 5 ≡ 5 ∷ []
unfolding varint_text
unsigned_5 = refl

unsigned_127 : number_text 127 ≡ 0x7f ∷ []
unfolding varint_text
unsigned_127 = refl

unsigned_323 : number_text 323 ≡ 0xc3 ∷ 0x02 ∷ []
unfolding varint_text
unsigned_323 = refl

unsigned_16384 : number_text 16384 ≡ 0x80 ∷ 0x80 ∷ 0x01 ∷ []
unfolding varint_text
unsigned_16384 = refl

signed_4 : signed_text (pos 4) ≡ 0x08 ∷ []
unfolding varint_text
signed_4 = refl

signed_64 : signed_text (pos 64) ≡ 0x80 ∷ 0x01 ∷ []
unfolding varint_text
signed_64 = refl

signed_minus_2 : signed_text (negsuc 1) ≡ 0x03 ∷ []
unfolding varint_text
signed_minus_2 = refl

signed_minus_65 : signed_text (negsuc 64) ≡ 0x81 ∷ 0x01 ∷ []
unfolding varint_text
signed_minus_65 = refl

-- a varint with a last byte that adds nothing
padded_5 : SpellsNumber (0x85 ∷ 0x00 ∷ []) 5
padded_5 = record { varint = (omega arith, omega arith); value = refl; short = omega arith; small = omega arith }

-- one step past 180 degrees east by a difference in 32 bits is 180 degrees west
wrapped_180 : IsWrapped (neg_ℤ (pos 1800000000)) (pos 2494967296)
wrapped_180 = record { multiple = pos 1; low = omega (arith, ints); high = omega (arith, ints); differs = refl }

-- version 1, changeset 7, 2024-01-01T00:00:00Z, user 5, `ann`
ann : MetaValue
ann = record { version = 1; time = 1704067200; changeset = 7; uid = 5; user = 0x61 ∷ 0x6e ∷ 0x6e ∷ [] }

abbrev with_meta : List ℕ → List ℕ → List ℕ
with_meta head tail =
    head ++ (0x01 ∷ 0x80 ∷ 0x82 ∷ 0x90 ∷ 0xd9 ∷ 0x0c ∷ 0x0e ∷ 0x00 ∷ 0x05 ∷ 0x00 ∷ 0x61 ∷ 0x6e ∷ 0x6e ∷ 0x00 ∷ []) ++ tail

-- node 1 at 1 degree east and 2 degrees north
node_dataset : dataset_text new_state (record { key = record { kind = kinds.Node; id = pos 1 }; meta = ann; what = Node (pos 10000000) (pos 20000000) [] })
    ≡ with_meta (0x10 ∷ 0x17 ∷ 0x02 ∷ []) (0x80 ∷ 0xda ∷ 0xc4 ∷ 0x09 ∷ 0x80 ∷ 0xb4 ∷ 0x89 ∷ 0x13 ∷ [])
unfolding varint_text ann
node_dataset = refl

-- node 2 at the same location, after node 1: the user is the last string
second_dataset : dataset_text (after_object new_state (record {
  key = record { kind = kinds.Node; id = pos 1 };
  meta =
      ann;
  what = Node (pos 10000000) (pos 20000000) [];
})) (record {
  key = record { kind = kinds.Node; id = pos 2 };
  meta = ann;
  what = Node (pos 10000000) (pos 20000000) [];
})
    ≡ 0x10 ∷ 0x07 ∷ 0x02 ∷ 0x01 ∷ 0x00 ∷ 0x00 ∷ 0x01 ∷ 0x00 ∷ 0x00 ∷ []
unfolding varint_text ann
second_dataset = refl

-- way 10 with the nodes 1, 2, 5 and the tag `highway=path`
way_dataset : dataset_text new_state (record {
  key = record { kind = kinds.Way; id = pos 10 };
  meta = ann;
  what =
      Way (pos 1 ∷ pos 2 ∷ pos 5 ∷ []) (record {
        key = 0x68 ∷ 0x69 ∷ 0x67 ∷ 0x68 ∷ 0x77 ∷ 0x61 ∷ 0x79 ∷ [];
        value =
            0x70 ∷ 0x61 ∷ 0x74 ∷ 0x68 ∷ [];
      } ∷ []);
})
    ≡ with_meta (0x11 ∷ 0x21 ∷ 0x14 ∷ []) (0x03 ∷ 0x02 ∷ 0x02 ∷ 0x06 ∷ 0x00 ∷ 0x68 ∷ 0x69 ∷ 0x67 ∷ 0x68 ∷ 0x77 ∷ 0x61
    ∷ 0x79 ∷ 0x00 ∷ 0x70 ∷ 0x61 ∷ 0x74 ∷ 0x68 ∷ 0x00 ∷ [])
unfolding varint_text ann
way_dataset = refl

-- relation 3 with the members node 1, way 10 as `outer`, and node 4, whose role is the second string
-- from the end
relation_dataset : dataset_text new_state (record {
  key = record { kind = kinds.Relation; id = pos 3 };
  meta = ann;
  what = Relation (
      record { key = record { kind = kinds.Node; id = pos 1 }; role = [] }
      ∷ record { key = record { kind = kinds.Way; id = pos 10 }; role = 0x6f ∷ 0x75 ∷ 0x74 ∷ 0x65 ∷ 0x72 ∷ [] }
      ∷ record { key = record { kind = kinds.Node; id = pos 4 }; role = [] } ∷ []) [];
})
    ≡ with_meta (0x12 ∷ 0x1f ∷ 0x06 ∷ []) (0x0f ∷ 0x02 ∷ 0x00 ∷ 0x30 ∷ 0x00 ∷ 0x14 ∷ 0x00 ∷ 0x31 ∷ 0x6f ∷ 0x75 ∷ 0x74 ∷ 0x65 ∷ 0x72 ∷ 0x00 ∷ 0x06 ∷ 0x02 ∷ [])
unfolding varint_text ann
relation_dataset = refl

-- relation 3 with the members way 10 as `outer` and relation 20
nested_dataset : dataset_text new_state (record {
  key = record { kind = kinds.Relation; id = pos 3 };
  meta = ann;
  what = Relation (
      record { key = record { kind = kinds.Way; id = pos 10 }; role = 0x6f ∷ 0x75 ∷ 0x74 ∷ 0x65 ∷ 0x72 ∷ [] }
      ∷ record { key = record { kind = kinds.Relation; id = pos 20 }; role = [] } ∷ []) [];
})
    ≡ with_meta (0x12 ∷ 0x1d ∷ 0x06 ∷ []) (0x0d ∷ 0x14 ∷ 0x00 ∷ 0x31 ∷ 0x6f ∷ 0x75 ∷ 0x74 ∷ 0x65 ∷ 0x72 ∷ 0x00 ∷ 0x28 ∷ 0x00 ∷ 0x32 ∷ 0x00 ∷ [])
unfolding varint_text ann
nested_dataset = refl

-- way 10 without nodes and tags, and its deletion
empty_way_dataset : dataset_text new_state (record {
  key = record { kind = kinds.Way; id = pos 10 };
  meta = ann;
  what =
      Way [] [];
}) ≡ with_meta (0x11 ∷ 0x10 ∷ 0x14 ∷ []) (0x00 ∷ [])
unfolding varint_text ann
empty_way_dataset = refl

deletion_dataset : dataset_text new_state (record {
  key = record { kind = kinds.Way; id = pos 10 };
  meta = ann;
  what =
      Deleted;
}) ≡ with_meta (0x11 ∷ 0x0f ∷ 0x14 ∷ []) []
unfolding varint_text ann
deletion_dataset = refl

empty_batch : o5c_text [] ≡ 0xff ∷ 0xe0 ∷ 0x04 ∷ 0x6f ∷ 0x35 ∷ 0x63 ∷ 0x32 ∷ 0xfe ∷ []
empty_batch = refl

no_objects : o5m_text [] ≡ 0xff ∷ 0xe0 ∷ 0x04 ∷ 0x6f ∷ 0x35 ∷ 0x6d ∷ 0x32 ∷ 0xfe ∷ []
no_objects = refl

-- node 1 alone as a data file
one_node : o5m_text (record { key = record { kind = kinds.Node; id = pos 1 }; meta = ann; what = Node (pos 10000000) (pos 20000000) [] } ∷ [])
    ≡ 0xff ∷ 0xe0 ∷ 0x04 ∷ 0x6f ∷ 0x35 ∷ 0x6d ∷ 0x32 ∷ with_meta (0x10 ∷ 0x17 ∷ 0x02 ∷ [])
    (0x80 ∷ 0xda ∷ 0xc4 ∷ 0x09 ∷ 0x80 ∷ 0xb4 ∷ 0x89 ∷ 0x13 ∷ 0xfe ∷ [])
unfolding varint_text ann
one_node = refl

-- ---- limits, at the last value within and at the first one beyond

-- 2^64 - 1 in 10 bytes, and the most padding that a number may have
unsigned_most : number_text 18446744073709551615 ≡ 0xff ∷ 0xff ∷ 0xff ∷ 0xff ∷ 0xff ∷ 0xff ∷ 0xff ∷ 0xff ∷ 0xff ∷ 0x01 ∷ []
unfolding varint_text
unsigned_most = refl

padded_to_10 : SpellsNumber (0x85 ∷ 0x80 ∷ 0x80 ∷ 0x80 ∷ 0x80 ∷ 0x80 ∷ 0x80 ∷ 0x80 ∷ 0x80 ∷ 0x00 ∷ []) 5
padded_to_10 = record {
  varint = (omega arith, (omega arith, (omega arith, (omega arith, (omega arith, (omega arith, (omega arith, (omega arith, (omega arith, omega arith)))))))));
  value = refl;
  short = omega arith;
  small = omega arith;
}

padded_to_11 : SpellsNumber (0x85 ∷ 0x80 ∷ 0x80 ∷ 0x80 ∷ 0x80 ∷ 0x80 ∷ 0x80 ∷ 0x80 ∷ 0x80 ∷ 0x80 ∷ 0x00 ∷ []) 5 → ⊥
padded_to_11 n = omega (arith, n.short)

-- a sum of -2^33, the sums on both sides of it, and one half a turn below it
wrapped_two_turns : IsWrapped (pos 0) (neg_ℤ (pos 8589934592))
wrapped_two_turns = record { multiple = neg_ℤ (pos 2); low = omega (arith, ints); high = omega (arith, ints); differs = refl }

wrapped_above_two_turns : IsWrapped (pos 1) (neg_ℤ (pos 8589934591))
wrapped_above_two_turns = record { multiple = neg_ℤ (pos 2); low = omega (arith, ints); high = omega (arith, ints); differs = refl }

wrapped_below_two_turns : IsWrapped (negsuc 0) (neg_ℤ (pos 8589934593))
wrapped_below_two_turns = record { multiple = neg_ℤ (pos 2); low = omega (arith, ints); high = omega (arith, ints); differs = refl }

wrapped_half_a_turn_further : IsWrapped (pos 2147483647) (neg_ℤ (pos 10737418241))
wrapped_half_a_turn_further = record { multiple = neg_ℤ (pos 3); low = omega (arith, ints); high = omega (arith, ints); differs = refl }

-- a reference names the 15,000th entry from the end, and not the one before it
named_15000 : (first : Entry) (rest : List Entry) → length rest ≡ 14999 → named (first ∷ rest) 15000 ≡ Some first
named_15000 first rest size =
    let count : length (first ∷ rest) ≡ 15000 = omega (arith, size) in
    rw count refl

not_named_15001 : (entries : List Entry) → named entries 15001 ≡ None
not_named_15001 entries = refl

-- the writer names a string by 15,000, and by no greater number
reference_15000 : (text : List ℕ) (rest : List (List ℕ)) → last_equal rest text ≡ 0 → length rest ≡ 14999 → reference_of (text ∷ rest) text ≡ Some 15000
reference_15000 text rest none size =
    let same : bytes_eq text text ≡ true = (bytes_eq-Decides text text).1 refl in
    rw (none, same, size) refl

no_reference_15001 : (text : List ℕ) (rest : List (List ℕ)) → last_equal rest text ≡ 0 → length rest ≡ 15000 → reference_of (text ∷ rest) text ≡ None
no_reference_15001 text rest none size =
    let same : bytes_eq text text ≡ true = (bytes_eq-Decides text text).1 refl in
    rw (none, same, size) refl

-- a string of 250 bytes is entered, one of 251 isn't; a pair counts as both together
entered_250 : (text : List ℕ) → length text ≡ 250 → entries_of (Single text ∷ []) ≡ Single text ∷ []
entered_250 text size = rw size refl

not_entered_251 : (text : List ℕ) → length text ≡ 251 → entries_of (Single text ∷ []) ≡ []
not_entered_251 text size = rw size refl

pair_entered_250 : (first second : List ℕ) → length first ≡ 100 → length second ≡ 150 → entries_of (Pair first second ∷ []) ≡ Pair first second ∷ []
pair_entered_250 first second one two = rw (one, two) refl

pair_not_entered_251 : (first second : List ℕ) → length first ≡ 100 → length second ≡ 151 → entries_of (Pair first second ∷ []) ≡ []
pair_not_entered_251 first second one two = rw (one, two) refl

-- the writer enters the same strings
written_250 : (strings : List (List ℕ)) (text : List ℕ) → entered_by None strings text 250 ≡ strings ++ text ∷ []
written_250 strings text = refl

not_written_251 : (strings : List (List ℕ)) (text : List ℕ) → entered_by None strings text 251 ≡ strings
not_written_251 strings text = refl

-- a reset stands between kinds, up and down, and nowhere else; after it nothing is left of the state
reset_before_a_way : reset_text (Some kinds.Node) kinds.Way ≡ 0xff ∷ []
reset_before_a_way = refl

reset_before_a_relation : reset_text (Some kinds.Way) kinds.Relation ≡ 0xff ∷ []
reset_before_a_relation = refl

reset_before_a_node : reset_text (Some kinds.Relation) kinds.Node ≡ 0xff ∷ []
reset_before_a_node = refl

no_reset_within_a_kind : reset_text (Some kinds.Way) kinds.Way ≡ []
no_reset_within_a_kind = refl

no_reset_at_the_start : reset_text None kinds.Way ≡ []
no_reset_at_the_start = refl

forgotten_at_a_reset : (s : State) → state_before (Some kinds.Node) s kinds.Way ≡ new_state
forgotten_at_a_reset s = refl

kept_within_a_kind : (s : State) → state_before (Some kinds.Node) s kinds.Node ≡ s
kept_within_a_kind s = refl

-- of the limits of a batch, a dataset of a change file can pass only the number of its changes
only_their_number_counts : (changes : List ChangeValue) (C : Context) (dataset : List ℕ) (found : Option ChangeValue) (after : Context)
    → IsBatch changes → Dataset C dataset found after → length (changes_with changes found) ≤ max_changes
    → IsBatch (changes_with changes found)
only_their_number_counts changes C dataset None after is read few = is
only_their_number_counts changes C _ (Some _) _ is (object _ length_bytes content c after n s) few =
    let l : length (changes ++ c ∷ []) ≡ length changes + 1 = length-append changes (c ∷ []) in
    batch_next changes c is s.limits (omega (arith, l, few))
