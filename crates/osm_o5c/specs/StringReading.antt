-- The string at the start of bytes, the table after it, and the bytes after it.
use Rattle.std.specs.Prelude.{ℕ, ◌-◌, ◌==◌, ◌&&◌, ◌||◌, not, List, [], ◌∷◌, ◌++◌, length, Option}
use Rattle.std.specs.Prelude.{Some, None, Bool, false, if◌then◌else◌, nat_le, slice_get}
use Rattle.std.specs.Str.{is_utf8}
use Rattle.circular_buffer.specs.Buffer.{keep_last}
use Rattle.osm_model.specs.declared.lists.Tag.{Tag}
use Rattle.osm_reading.specs.Answers.{and_then, when}
use Rattle.osm_o5c.specs.NumberReading.{unsigned_at, is_positive}
use Rattle.osm_o5c.specs.Entries.{size_of, max_size, max_entries}
use Rattle.osm_o5c.specs.declared.strings.Entry.{Entry}
use Rattle.osm_o5c.specs.declared.strings.Entry.TheVariants.{Pair, Single}

-- the bytes up to the first 00, and those after it
unfoldable pub until_nul_at : List ℕ → Option (List ℕ × List ℕ)
until_nul_at [] = None
until_nul_at (b ∷ bs) =
    if b == 0 then Some ([], bs) else and_then (until_nul_at bs) (λ t. Some (b ∷ t.0, t.1))

-- the k-th entry from the end
unfoldable pub latest : List Entry → ℕ → Option Entry
latest table k =
    if nat_le 1 k && nat_le k (length table) then slice_get table (length table - k) else None

-- the table after one more string, which is entered unless it is too long
unfoldable pub entered : List Entry → Entry → List Entry
entered table entry =
    if nat_le (size_of entry) max_size then keep_last max_entries (table ++ entry ∷ []) else table

abbrev pub pair_of : Option Entry → Option (List ℕ × List ℕ)
pair_of (Some (Pair first second)) = Some (first, second)
pair_of (Some (Single text)) = None
pair_of None = None

abbrev pub single_of : Option Entry → Option (List ℕ)
single_of (Some (Single text)) = Some text
single_of (Some (Pair first second)) = None
single_of None = None

unfoldable pub pair_at : List Entry → List ℕ → Option ((List ℕ × List ℕ) × List Entry × List ℕ)
pair_at table [] = None
pair_at table (b ∷ bs) =
    if b == 0
    then and_then (until_nul_at bs) (λ f. and_then (until_nul_at f.1) (λ s.
    Some ((f.0, s.0), entered table (Pair f.0 s.0), s.1)))
    else and_then (unsigned_at (b ∷ bs)) (λ k. and_then (pair_of (latest table k.0)) (λ p.
    Some (p, table, k.1)))

unfoldable pub single_at : List Entry → List ℕ → Option (List ℕ × List Entry × List ℕ)
single_at table [] = None
single_at table (b ∷ bs) =
    if b == 0
    then and_then (until_nul_at bs) (λ t. Some (t.0, entered table (Single t.0), t.1))
    else and_then (unsigned_at (b ∷ bs)) (λ k. and_then (single_of (latest table k.0)) (λ t.
    Some (t, table, k.1)))

abbrev pub has_nul : List ℕ → Bool
has_nul [] = false
has_nul (b ∷ bs) = b == 0 || has_nul bs

unfoldable pub is_text : List ℕ → Bool
is_text bytes = is_utf8 bytes && (not (has_nul bytes) && nat_le (length bytes) 1020)

unfoldable pub text_of : List ℕ → Option (List ℕ)
text_of bytes = when (is_text bytes) (Some bytes)

-- one unsigned number, and nothing after it
unfoldable pub uid_of : List ℕ → Option ℕ
uid_of bytes = and_then (unsigned_at bytes) (λ n.
    when (length n.1 == 0) (when (is_positive n.0) (Some n.0)))

unfoldable pub user_at : List Entry → List ℕ → Option ((ℕ × List ℕ) × List Entry × List ℕ)
user_at table bytes = and_then (pair_at table bytes) (λ p.
    and_then (uid_of p.0.0) (λ uid.
    and_then (text_of p.0.1) (λ name.
    Some ((uid, name), p.1, p.2))))

unfoldable pub tag_at : List Entry → List ℕ → Option (Tag × List Entry × List ℕ)
tag_at table bytes = and_then (pair_at table bytes) (λ p.
    and_then (text_of p.0.0) (λ key.
    and_then (text_of p.0.1) (λ value.
    Some (record { key = key; value = value }, p.1, p.2))))
