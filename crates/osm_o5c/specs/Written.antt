-- The written text of changes (our choice of spelling): every number in its fewest bytes, exact
-- differences, every string by the least number that names it or else in line, a reset exactly if
-- the kind changes.
use Rattle.std.specs.Prelude.{ℕ, zero, suc, ◌+◌, ◌/◌, ◌%◌, ◌<◌, List, [], ◌∷◌, ◌++◌, length, Option}
use Rattle.std.specs.Prelude.{Some, None, Bool, true, false, if◌then◌else◌, nat_lt, ◌==◌, ℤ, pos}
use Rattle.std.specs.Prelude.{◌-ℤ◌, nat_le, ◌&&◌}
use Rattle.std.specs.Str.{bytes_eq}
use Rattle.osm_model.specs.Change.{ChangeValue}
use Rattle.osm_model.specs.Meta.{MetaValue}
use Rattle.osm_model.specs.declared.kind.Kind.{Kind}
use Rattle.osm_model.specs.declared.kind.Kind.TheVariants as kinds
use Rattle.osm_model.specs.declared.change.What.{What}
use Rattle.osm_model.specs.declared.change.What.TheVariants.{Node, Way, Relation, Deleted}
use Rattle.osm_model.specs.declared.lists.Member.{Member}
use Rattle.osm_model.specs.declared.lists.Tag.{Tag}
use Rattle.osm_model.specs.declared.files.WriteError.{WriteError}
use Rattle.osm_model.specs.declared.files.WriteError.TheVariants.{TooLarge, WantOfMemory}
use Rattle.osm_o5c.specs.Number.{zigzag}
use Rattle.osm_o5c.specs.Entries.{max_size, max_entries}
use Rattle.osm_o5c.specs.Context.{kind_digit}
use Rattle.osm_o5c.specs.File.{beginning, data_beginning, kind_byte, end_byte}
use Rattle.osm_o5c.specs.declared.counters.Counters.{Counters}
use Rattle.osm_o5c.specs.declared.writer.State.{State}

-- the counters: the last value of each field since the last reset; all 0 right after one
abbrev pub no_counters : Counters
no_counters = record {
  id = pos 0;
  time = pos 0;
  changeset = pos 0;
  lon = pos 0;
  lat = pos 0;
  way_node = pos 0;
  node_member = pos 0;
  way_member = pos 0;
  relation_member = pos 0;
}

-- the state right after a reset: all counters 0, no strings
abbrev pub new_state : State
new_state = record { counters = no_counters; strings = [] }

-- the counter for members of a kind
abbrev pub member_counter : Kind → Counters → ℤ
member_counter kinds.Node s = s.node_member
member_counter kinds.Way s = s.way_member
member_counter kinds.Relation s = s.relation_member

-- the counters with this one for members of a kind
abbrev pub with_member_counter : Kind → Counters → ℤ → Counters
with_member_counter kinds.Node s id = record s { node_member = id }
with_member_counter kinds.Way s id = record s { way_member = id }
with_member_counter kinds.Relation s id = record s { relation_member = id }

-- the varint of a number, the least significant seven bits first, in at most this many bytes
unfoldable pub varint_text : ℕ → ℕ → List ℕ
varint_text zero n = []
varint_text (suc k) n = if nat_lt n 128 then n ∷ [] else (n % 128 + 128) ∷ varint_text k (n / 128)

-- an unsigned number below 2^64 in its fewest bytes
abbrev pub number_text : ℕ → List ℕ
number_text n = varint_text 10 n

-- a signed number in its fewest bytes
abbrev pub signed_text : ℤ → List ℕ
signed_text v = number_text (zigzag v)

-- the exact difference between a number and the last value of its counter
abbrev pub difference_text : ℤ → ℤ → List ℕ
difference_text before value = signed_text (value -ℤ before)

-- `00 first 00 second 00`
abbrev pub pair_in_line : List ℕ → List ℕ → List ℕ
pair_in_line first second = 0 ∷ first ++ 0 ∷ second ++ 0 ∷ []

-- `00 text 00`
abbrev pub single_in_line : List ℕ → List ℕ
single_in_line text = 0 ∷ text ++ 0 ∷ []

-- the number of the last of these strings that equals this one, counted from 1 at the end; 0 if
-- none does
abbrev pub last_equal : List (List ℕ) → List ℕ → ℕ
last_equal [] text = 0
last_equal (one ∷ rest) text =
    if nat_le 1 (last_equal rest text) then last_equal rest text
    else (if bytes_eq one text then length rest + 1 else 0)

-- the least number that names a string, if it equals one of the last 15,000 of these strings
abbrev pub reference_of : List (List ℕ) → List ℕ → Option ℕ
reference_of strings text =
    if nat_le 1 (last_equal strings text) && nat_le (last_equal strings text) max_entries
    then Some (last_equal strings text) else None

-- a string by that number, if there is one; otherwise in line
abbrev pub by_reference : Option ℕ → List ℕ → List ℕ
by_reference (Some k) text = number_text k
by_reference None text = text

-- the entered strings after one more of this size, which is entered if it is written in line and
-- isn't too long
abbrev pub entered_by : Option ℕ → List (List ℕ) → List ℕ → ℕ → List (List ℕ)
entered_by (Some k) strings text size = strings
entered_by None strings text size =
    if nat_le size max_size then strings ++ text ∷ [] else strings

-- the text of a pair, given the entered strings
abbrev pub pair_text : List (List ℕ) → List ℕ → List ℕ → List ℕ
pair_text strings first second =
    by_reference (reference_of strings (pair_in_line first second)) (pair_in_line first second)

-- the entered strings after a pair
abbrev pub after_pair : List (List ℕ) → List ℕ → List ℕ → List (List ℕ)
after_pair strings first second =
    entered_by (reference_of strings (pair_in_line first second)) strings
    (pair_in_line first second) (length first + length second)

-- the text of a single string, given the entered strings
abbrev pub single_text : List (List ℕ) → List ℕ → List ℕ
single_text strings text =
    by_reference (reference_of strings (single_in_line text)) (single_in_line text)

-- the entered strings after a single string
abbrev pub after_single : List (List ℕ) → List ℕ → List (List ℕ)
after_single strings text =
    entered_by (reference_of strings (single_in_line text)) strings
    (single_in_line text) (length text)

-- a length, and that many bytes
abbrev pub part_text : List ℕ → List ℕ
part_text part = number_text (length part) ++ part

-- version, time, changeset and user
abbrev pub meta_text : State → MetaValue → List ℕ
meta_text s m =
    number_text m.version ++ difference_text s.counters.time (pos m.time)
    ++ difference_text s.counters.changeset (pos m.changeset)
    ++ pair_text s.strings (number_text m.uid) m.user

-- the pairs of keys and values
abbrev pub tags_text : List (List ℕ) → List Tag → List ℕ
tags_text strings [] = []
tags_text strings (t ∷ ts) =
    pair_text strings t.key t.value ++ tags_text (after_pair strings t.key t.value) ts

-- the entered strings after tags
abbrev pub after_tags : List (List ℕ) → List Tag → List (List ℕ)
after_tags strings [] = strings
after_tags strings (t ∷ ts) = after_tags (after_pair strings t.key t.value) ts

-- each reference as the difference from the one before it
abbrev pub refs_text : ℤ → List ℤ → List ℕ
refs_text before [] = []
refs_text before (r ∷ rs) = difference_text before r ++ refs_text r rs

-- the last reference, or the counter if there are none
abbrev pub last_ref : ℤ → List ℤ → ℤ
last_ref before [] = before
last_ref before (r ∷ rs) = last_ref r rs

-- a member: its id as the difference from the counter of its kind, then the digit of its kind and
-- its role
abbrev pub member_text : State → Member → List ℕ
member_text s m =
    difference_text (member_counter m.key.kind s.counters) m.key.id
    ++ single_text s.strings (kind_digit m.key.kind ∷ m.role)

-- the state after a member
abbrev pub after_member : State → Member → State
after_member s m = record {
  counters = with_member_counter m.key.kind s.counters m.key.id;
  strings = after_single s.strings (kind_digit m.key.kind ∷ m.role);
}

abbrev pub members_text : State → List Member → List ℕ
members_text s [] = []
members_text s (m ∷ ms) = member_text s m ++ members_text (after_member s m) ms

-- the state after members
abbrev pub after_members : State → List Member → State
after_members s [] = s
after_members s (m ∷ ms) = after_members (after_member s m) ms

-- the state after tags
abbrev pub with_tags : State → List Tag → State
with_tags s tags = record { counters = s.counters; strings = after_tags s.strings tags }

-- what an object is: a location, references or members, and tags; no bytes for a deletion
abbrev pub what_text : State → What → List ℕ
what_text s (Node lon lat tags) =
    difference_text s.counters.lon lon ++ difference_text s.counters.lat lat
    ++ tags_text s.strings tags
what_text s (Way refs tags) =
    part_text (refs_text s.counters.way_node refs) ++ tags_text s.strings tags
what_text s (Relation members tags) =
    part_text (members_text s members) ++ tags_text (after_members s members).strings tags
what_text s Deleted = []

-- the state after what an object is
abbrev pub after_what : State → What → State
after_what s (Node lon lat tags) =
    with_tags (record s { counters = record s.counters { lon = lon; lat = lat } }) tags
after_what s (Way refs tags) =
    with_tags (record s {
      counters = record s.counters { way_node = last_ref s.counters.way_node refs };
    }) tags
after_what s (Relation members tags) = with_tags (after_members s members) tags
after_what s Deleted = s

-- the state after an id and metadata
abbrev pub after_meta : State → ChangeValue → State
after_meta s c = record {
  counters = record s.counters {
    id = c.key.id;
    time = pos c.meta.time;
    changeset = pos c.meta.changeset;
  };
  strings = after_pair s.strings (number_text c.meta.uid) c.meta.user;
}

-- the content of an object
abbrev pub object_text : State → ChangeValue → List ℕ
object_text s c =
    difference_text s.counters.id c.key.id ++ meta_text s c.meta
    ++ what_text (after_meta s c) c.what

-- the state after an object
abbrev pub after_object : State → ChangeValue → State
after_object s c = after_what (after_meta s c) c.what

-- the type of an object, its length, and its content
abbrev pub dataset_text : State → ChangeValue → List ℕ
dataset_text s c = kind_byte c.key.kind ∷ part_text (object_text s c)

-- whether the object before this one was of another kind; the first object has none before it
abbrev pub is_other : Option Kind → Kind → Bool
is_other None kind = false
is_other (Some before) kind = if kind_byte before == kind_byte kind then false else true

-- a reset if the kind changes
abbrev pub reset_text : Option Kind → Kind → List ℕ
reset_text before kind = if is_other before kind then 0xff ∷ [] else []

-- the state before an object: new if a reset precedes it
abbrev pub state_before : Option Kind → State → Kind → State
state_before before s kind = if is_other before kind then new_state else s

-- an object, after a reset if the kind changes
abbrev pub change_text : Option Kind → State → ChangeValue → List ℕ
change_text before s c =
    reset_text before c.key.kind ++ dataset_text (state_before before s c.key.kind) c

-- the state after an object and the reset before it, if there is one
abbrev pub after_change : Option Kind → State → ChangeValue → State
after_change before s c = after_object (state_before before s c.key.kind) c

-- objects in this state, after one of this kind
abbrev pub objects_text : Option Kind → State → List ChangeValue → List ℕ
objects_text before s [] = []
objects_text before s (c ∷ cs) =
    change_text before s c ++ objects_text (Some c.key.kind) (after_change before s c) cs

-- the written text of a file with this beginning
abbrev pub file_text : List ℕ → List ChangeValue → List ℕ
file_text start changes = start ++ objects_text None new_state changes ++ end_byte ∷ []

-- the written text of a batch
abbrev pub o5c_text : List ChangeValue → List ℕ
o5c_text batch = file_text beginning batch

-- the written text of the objects of a data file
abbrev pub o5m_text : List ChangeValue → List ℕ
o5m_text objects = file_text data_beginning objects

-- a text isn't written: as too large only if it has more than `most` bytes
abbrev pub WriteStops : ℕ → List ℕ → WriteError → Type 0
WriteStops most text TooLarge = most < length text
WriteStops most text WantOfMemory = Unit {0}
