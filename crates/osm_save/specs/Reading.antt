-- How a save text is read, line by line. The lemmas that tie this to the text are in proofs/.
use Rattle.std.specs.Prelude.{◌≡◌, ℕ, zero, suc, ◌^◌, ◌-◌, ◌<◌, ◌==◌, ◌&&◌, nat_lt, nat_le}
use Rattle.std.specs.Prelude.{Bool, true, List, [], ◌∷◌, length, take, drop, codes, decimal}
use Rattle.std.specs.Prelude.{Option, Some, None, option_map, unwrap_or}
use Rattle.std.specs.Prelude.{slice_get, if◌then◌else◌, pos}
use Rattle.std.specs.List.{list_any}
use Rattle.std.specs.Ordering.{is_lt, nat_cmp}
use Rattle.std.specs.Str.{bytes_eq}
use Rattle.std.specs.declared.cmp.Ordering.{Ordering}
use Rattle.osm_model.specs.Change.{ChangeValue}
use Rattle.osm_model.specs.Filter.{FilterValue, everything, has_kind, keeps}
use Rattle.osm_model.specs.KeyOrder.{key_cmp}
use Rattle.osm_model.specs.Limits.{max_keys, max_sequence}
use Rattle.osm_model.specs.Text.{bytes_cmp}
use Rattle.osm_model.specs.declared.change.What.TheVariants.{Deleted}
use Rattle.osm_model.specs.declared.kind.Key.{Key}
use Rattle.osm_model.specs.declared.kind.Kind.TheVariants.{Node}
use Rattle.osm_mirror.specs.Mirror.{Counted}
use Rattle.osm_opl.specs.Reading.{digits_at, line_at, text_at, time_at}
use Rattle.osm_opl.specs.Written.{escaped_text, line_text}
use Rattle.osm_reading.specs.Pieces.{cut_at}
use Rattle.osm_reading.specs.Answers.{and_then}
use Rattle.osm_save.specs.Filters.{kinds_text}
use Rattle.osm_save.specs.Head.{most_counted}
use Rattle.osm_save.specs.Save.{most_objects, saved_with}
use Rattle.osm_save.specs.declared.filter.Kinds.{Kinds}
use Rattle.osm_save.specs.declared.head.Head.{Head}
use Rattle.osm_save.specs.declared.save.Saved.{Saved}
use Rattle.osm_save.specs.declared.version.Version.{Version}
use Rattle.osm_save.specs.declared.version.Version.TheVariants.{One, Three, Two}

-- the number with exactly this text, of at most 18 digits
unfoldable pub number_at : List ℕ → Option ℕ
number_at bytes =
    and_then (digits_at 10 18 bytes) (λ n.
    if bytes_eq (decimal n) bytes then Some n else None)

-- the bytes after a prefix
abbrev pub after_word : List ℕ → List ℕ → Option (List ℕ)
after_word word bytes =
    if bytes_eq (take (length word) bytes) word then Some (drop (length word) bytes) else None

-- the bytes after the line with this text
unfoldable pub fixed_at : List ℕ → List ℕ → Option (List ℕ)
fixed_at text bytes =
    and_then (cut_at 10 bytes) (λ l. if bytes_eq l.0 text then Some l.1 else None)

-- the number after a word, at most `most`, and the bytes after the line
unfoldable pub numbered_at : List ℕ → ℕ → List ℕ → Option (ℕ × List ℕ)
numbered_at word most bytes =
    and_then (cut_at 10 bytes) (λ l. and_then (after_word word l.0) (λ digits.
    and_then (number_at digits) (λ n. if nat_le n most then Some (n, l.1) else None)))

-- the time of a number, which 0 doesn't have, and the bytes after the line
unfoldable pub time_line_at : ℕ → List ℕ → Option (Option ℕ × List ℕ)
time_line_at number bytes =
    if number == 0 then and_then (fixed_at (codes "time none") bytes) (λ rest. Some (None, rest))
    else and_then (cut_at 10 bytes) (λ l. and_then (after_word (codes "time ") l.0) (λ text.
    and_then (time_at text) (λ time. Some (Some time, l.1))))

-- a key is above the one before it
abbrev pub is_above : {K : Type 0} → (K → K → Ordering) → Option K → K → Bool
is_above cmp None key = true
is_above cmp (Some last) key = is_lt (cmp last key)

-- the values of that many lines, each read knowing the key of the one before it
abbrev pub items_at : {X K : Type 0} → (X → K) → (Option K → List ℕ → Option X) → ℕ → Option K
    → List ℕ → Option (List X × List ℕ)
items_at key item zero last bytes = Some ([], bytes)
items_at key item (suc k) last bytes =
    and_then (cut_at 10 bytes) (λ l. and_then (item last l.0) (λ x.
    and_then (items_at key item k (Some (key x)) l.1) (λ r. Some (x ∷ r.0, r.1))))

-- the object whose written line this is, which the filter keeps, with a key above the one before it
unfoldable pub object_at : FilterValue → Option Key → List ℕ → Option ChangeValue
object_at f last line =
    and_then (line_at line) (λ c.
    if bytes_eq (line_text c) line && keeps f c && is_above key_cmp last c.key
    then Some c else None)

-- the change that is written as the line, which is in the buffer too; there is none if no object is
-- read from the line
abbrev pub IsWritten : List ℕ → List ℕ → Option ChangeValue → Type 0
IsWritten line buffer None =
    (f : FilterValue) (last : Option Key) → object_at f last line ≡ None
IsWritten line buffer (Some c) = (line ≡ line_text c) × (buffer ≡ line)

-- the change that a line spells; that of a line that spells none means nothing
abbrev pub object_of : List ℕ → ChangeValue
object_of line = unwrap_or (line_at line) (record {
  key = record { kind = Node; id = pos 0 };
  meta = record { version = 0; time = 0; changeset = 0; uid = 0; user = [] };
  what = Deleted;
})

-- the key of the object that is read from a line, if one is
pub record IsKeyOf (f : FilterValue) (last : Option Key) (line : List ℕ) (found : Option Key)
    : Type 0 where
  pub read : object_at f last line ≡ option_map (λ _. object_of line) found
  pub named : found ≡ option_map (λ _. (object_of line).key) found

-- a number and its count, with a number above the one before it
unfoldable pub count_at : ℕ → Option ℕ → List ℕ → Option Counted
count_at most last line =
    and_then (cut_at 32 line) (λ p. and_then (number_at p.0) (λ n. and_then (number_at p.1) (λ k.
    if nat_le 1 n && nat_lt n (2 ^ 32) && nat_le 1 k && nat_le k most && is_above nat_cmp last n
    then Some (n, k) else None)))

-- the list of objects, and the bytes after it
unfoldable pub objects_at : FilterValue → ℕ → List ℕ → Option (List ChangeValue × List ℕ)
objects_at f most bytes =
    and_then (numbered_at (codes "objects ") most bytes) (λ k.
    items_at (λ c. c.key) (object_at f) k.0 None k.1)

-- the list of counts that begins with the word, and the bytes after it
unfoldable pub counts_at : List ℕ → ℕ → List ℕ → Option (List Counted × List ℕ)
counts_at word most bytes =
    and_then (numbered_at word most bytes) (λ k.
    items_at (λ e. e.0) (count_at most) k.0 None k.1)

-- the three lists of a mirror, and `end`
unfoldable pub mirror_at : Version → Head → FilterValue → List ℕ → Option Saved
mirror_at version head f bytes =
    and_then (objects_at f (most_objects version head.number) bytes) (λ o.
    and_then (counts_at (codes "users ") (most_counted head) o.1) (λ u.
    and_then (counts_at (codes "changesets ") (most_counted head) u.1) (λ s.
    and_then (fixed_at (codes "end") s.1) (λ rest.
    if length rest == 0
    then Some (saved_with head f (record { objects = o.0; users = u.0; changesets = s.0 }))
    else None))))

-- the kinds that are among the letters
abbrev pub kinds_in : List ℕ → Kinds
kinds_in letters = record {
  nodes = list_any (λ b. b == 110) letters;
  ways = list_any (λ b. b == 119) letters;
  relations = list_any (λ b. b == 114) letters;
}

-- the kinds with exactly these letters, of which there is one at least
abbrev pub have_letters : Kinds → List ℕ → Bool
have_letters k letters =
    has_kind k.nodes k.ways k.relations
    && bytes_eq (kinds_text k.nodes k.ways k.relations) letters

unfoldable pub letters_at : List ℕ → Option Kinds
letters_at letters =
    if have_letters (kinds_in letters) letters then Some (kinds_in letters) else None

-- the kinds that a filter's first line names, and the bytes after the line
unfoldable pub kinds_at : List ℕ → Option (Kinds × List ℕ)
kinds_at bytes =
    and_then (cut_at 10 bytes) (λ l. and_then (after_word (codes "kinds ") l.0) (λ letters.
    and_then (letters_at letters) (λ kinds. Some (kinds, l.1))))

-- the last of the values
abbrev pub last_of : {X : Type 0} → List X → Option X
last_of xs = slice_get xs (length xs - 1)

-- the key of a filter whose written line this is, above the one before it
unfoldable pub key_at : Option (List ℕ) → List ℕ → Option (List ℕ)
key_at last line =
    and_then (text_at line) (λ key.
    if bytes_eq (escaped_text key) line && is_above bytes_cmp last key then Some key else None)

-- the list of a filter's keys, and the bytes after it
unfoldable pub keys_at : List ℕ → Option (List (List ℕ) × List ℕ)
keys_at bytes =
    and_then (numbered_at (codes "keys ") max_keys bytes) (λ k.
    items_at (λ key. key) key_at k.0 None k.1)

-- the filter of those kinds and keys
abbrev pub filter_with : Kinds → List (List ℕ) → FilterValue
filter_with kinds keys = record {
  nodes = kinds.nodes;
  ways = kinds.ways;
  relations = kinds.relations;
  keys = keys;
}

-- a filter, and the bytes after its lines
unfoldable pub filter_lines_at : List ℕ → Option (FilterValue × List ℕ)
filter_lines_at bytes =
    and_then (kinds_at bytes) (λ k.
    and_then (keys_at k.1) (λ t. Some (filter_with k.0 t.0, t.1)))

-- the filter of a text of that version, and the bytes after its lines, if the version has some
abbrev pub filter_at : Version → List ℕ → Option (FilterValue × List ℕ)
filter_at One bytes = Some (everything, bytes)
filter_at Two bytes = Some (everything, bytes)
filter_at Three bytes = filter_lines_at bytes

-- the next line says that there are keys
pub record SaysKeys (bytes : List ℕ) : Type 0 where
  pub many : ℕ
  pub some : 0 < many
  pub rest : List ℕ
  pub read : numbered_at (codes "keys ") max_keys bytes ≡ Some (many, rest)

-- the lines of a filter say that there are keys
pub record ListsKeys (bytes : List ℕ) : Type 0 where
  pub kinds : Kinds
  pub after : List ℕ
  pub read : kinds_at bytes ≡ Some (kinds, after)
  pub keys : SaysKeys after

-- such lines are next in a text of that version
abbrev pub TellsKeys : Version → List ℕ → Type 0
TellsKeys One bytes = ⊥
TellsKeys Two bytes = ⊥
TellsKeys Three bytes = ListsKeys bytes

-- the version that the first line names, and the bytes after the line
unfoldable pub version_at : List ℕ → Option (Version × List ℕ)
version_at bytes =
    and_then (cut_at 10 bytes) (λ l.
    if bytes_eq l.0 (codes "osmrepl-save 3") then Some (Three, l.1)
    else (if bytes_eq l.0 (codes "osmrepl-save 2") then Some (Two, l.1)
    else (if bytes_eq l.0 (codes "osmrepl-save 1") then Some (One, l.1) else None)))

-- the base of a text of that version, and the bytes after its line, if the version has one
abbrev pub base_at : Version → List ℕ → Option (ℕ × List ℕ)
base_at One bytes = Some (0, bytes)
base_at Two bytes = numbered_at (codes "base ") max_sequence bytes
base_at Three bytes = numbered_at (codes "base ") max_sequence bytes

-- the number, which isn't below the base, and the bytes after the line
unfoldable pub sequence_at : ℕ → List ℕ → Option (ℕ × List ℕ)
sequence_at base bytes =
    and_then (numbered_at (codes "sequence ") max_sequence bytes) (λ n.
    if nat_le base n.0 then Some n else None)

-- the version, the head, the filter, and the bytes after them
unfoldable pub head_at : List ℕ → Option (Version × Head × FilterValue × List ℕ)
head_at bytes =
    and_then (version_at bytes) (λ v.
    and_then (base_at v.0 v.1) (λ b.
    and_then (filter_at v.0 b.1) (λ f.
    and_then (sequence_at b.0 f.1) (λ n.
    and_then (time_line_at n.0 n.1) (λ t.
    Some (v.0, record { number = n.0; base = b.0; time = t.0 }, f.0, t.1))))))

-- what the bytes save
unfoldable pub save_at : List ℕ → Option Saved
save_at bytes = and_then (head_at bytes) (λ h. mirror_at h.0 h.1 h.2 h.3)
