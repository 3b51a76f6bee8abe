-- An index of strings: the strings of each bucket form a chain, newest first.
use Rattle.std.specs.Prelude.{◌≡◌, ◌≢◌, ℕ, ◌+◌, ◌-◌, ◌*◌, ◌/◌, ◌%◌, ◌<◌, ◌≤◌, ◌&&◌, List, []}
use Rattle.std.specs.Prelude.{◌∷◌, length, map, take, drop, get_or, slice_get, nat_le, nat_lt}
use Rattle.std.specs.Prelude.{Option, Some, None, Bool, true, false, zero, suc, if◌then◌else◌}
use Rattle.std.specs.Int.{w32, w64, from_le_bytes}
use Rattle.std.specs.Simd.{first_chunks}
use Rattle.osm_o5c.specs.Entries.{max_entries}
use Rattle.osm_o5c.specs.Steps.Latest.{latest_of}
use Rattle.osm_o5c.specs.declared.chains.Slot.{Slot}
use Rattle.osm_o5c.specs.declared.latest.Latest.{Latest}

-- one step of a polynomial, modulo 2^64
abbrev pub mixed : ℕ → ℕ → ℕ
mixed h n = (h * 1099511628211 + n) % 18446744073709551616

-- a polynomial in words of eight bytes
abbrev pub words_hash : ℕ → List (List ℕ) → ℕ
words_hash h [] = h
words_hash h (w ∷ ws) = words_hash (mixed h (from_le_bytes w64 w)) ws

-- a polynomial in bytes
abbrev pub bytes_hash : ℕ → List ℕ → ℕ
bytes_hash h [] = h
bytes_hash h (b ∷ bs) = bytes_hash (mixed h b) bs

-- the polynomial of a string of at most seven bytes: in its first four bytes and its last four, or
-- in each byte if it has fewer than four
abbrev pub short_hash : List ℕ → ℕ
short_hash text =
    if nat_lt (length text) 4 then bytes_hash 0 text
    else mixed (from_le_bytes w32 (take 4 text)) (from_le_bytes w32 (drop (length text - 4) text))

-- the polynomial of a string: in its whole words, then in its last eight bytes
unfoldable pub polynomial_of : List ℕ → ℕ
polynomial_of text =
    if nat_lt (length text) 8 then short_hash text
    else mixed (words_hash 0 (first_chunks 8 (length text / 8) text))
    (from_le_bytes w64 (drop (length text - 8) text))

-- the hash of a string: the high 32 bits of a multiple of its polynomial
unfoldable pub hash_of : List ℕ → ℕ
hash_of text =
    polynomial_of text * 11400714819323198485 % 18446744073709551616 / 4294967296

-- the bucket of a string: the high 15 bits of its hash
unfoldable pub bucket_of : List ℕ → ℕ
bucket_of text = hash_of text / 131072

-- the string of a slot
abbrev pub string_of : List ℕ → Slot → List ℕ
string_of bytes slot = take slot.size (drop slot.start bytes)

-- the strings of the slots
abbrev pub strings_of : List ℕ → List Slot → List (List ℕ)
strings_of bytes [] = []
strings_of bytes (slot ∷ slots) = string_of bytes slot ∷ strings_of bytes slots

abbrev pub no_slot : Slot
no_slot = record { start = 0; size = 0; hash = 0; previous = 0 }

-- the string at an index
abbrev pub string_at : List (List ℕ) → ℕ → List ℕ
string_at strings j = get_or strings j []

-- for each slot, one more than the index of the string before it in its bucket, or 0
abbrev pub links_of : List Slot → List ℕ
links_of slots = map (λ slot. slot.previous) slots

-- the strings, the link of each, and for each bucket one more than the index of its head, or 0
pub record Chained : Type 0 where
  pub strings : List (List ℕ)
  pub links : List ℕ
  pub heads : List ℕ

-- the string of each slot lies within the bytes and has the slot's hash
pub record IsStored (bytes : List ℕ) (slots : List Slot) (heads : List ℕ) : Type 0 where
  pub within : (i : ℕ) → i < length slots
      → (get_or slots i no_slot).start + (get_or slots i no_slot).size ≤ length bytes
  pub hash : (i : ℕ) → i < length slots
      → (get_or slots i no_slot).hash ≡ hash_of (string_at (strings_of bytes slots) i)
  pub back : (i : ℕ) → i < length slots → (get_or slots i no_slot).previous ≤ i
  pub heads_are : length heads ≡ 32768

-- a chain has at least n strings that can be named, from the one before the number p on
abbrev pub has_links : ℕ → List ℕ → ℕ → ℕ → Bool
has_links count links zero p = true
has_links count links (suc n) zero = false
has_links count links (suc n) (suc p) =
    if nat_lt count (suc p + max_entries) then has_links count links n (get_or links p 0) else false

-- a number p leads to the string at index j: p is one more than the index of a string in the same
-- bucket, and that index is j or greater
pub record Leads (strings : List (List ℕ)) (j p : ℕ) : Type 0 where
  pub after : j < p
  pub within : p ≤ length strings
  pub same : bucket_of (string_at strings (p - 1)) ≡ bucket_of (string_at strings j)

-- the string at an index can be named
abbrev pub IsRecent : List (List ℕ) → ℕ → Type 0
IsRecent strings j = length strings ≤ j + max_entries

-- a number that leads to each string in a bucket that its head leads to and that can be named; 0
-- only if there is none
pub record IsLastIn (chained : Chained) (bucket p : ℕ) : Type 0 where
  pub within : p ≤ length chained.strings
  pub last : (j : ℕ) → j < length chained.strings → IsRecent chained.strings j
      → bucket_of (string_at chained.strings j) ≡ bucket
      → Leads chained.strings j (get_or chained.heads bucket 0) → Leads chained.strings j p

-- the head of a bucket leads to each string in it that can be named, and the link of a string to
-- each such string before it in its bucket, except for strings with a later number in `latest`
pub record AreLed (chained : Chained) (latest : List ℕ → ℕ) : Type 0 where
  pub links_are : length chained.links ≡ length chained.strings
  pub heads_are : length chained.heads ≡ 32768
  pub head : (j : ℕ) → j < length chained.strings → IsRecent chained.strings j
      → latest (string_at chained.strings j) ≤ j
      → Leads chained.strings j (get_or chained.heads (bucket_of (string_at chained.strings j)) 0)
  pub chain : (i j : ℕ) → j < i → i < length chained.strings → IsRecent chained.strings j
      → bucket_of (string_at chained.strings j) ≡ bucket_of (string_at chained.strings i)
      → latest (string_at chained.strings j) ≤ j
      → Leads chained.strings j (get_or chained.links i 0)

-- every string that equals the text and can be named is before the number
abbrev pub AreBelow : List (List ℕ) → List ℕ → ℕ → Type 0
AreBelow strings text at = (j : ℕ) → j < length strings → IsRecent strings j
    → string_at strings j ≡ text → j < at

-- no chain leads to a string that equals the text and can be named, so that it has a later number
-- in `latest`, if there is such a string
abbrev pub IsLeftOut : Chained → List ℕ → Type 0
IsLeftOut chained text = (latest : List ℕ → ℕ) → AreLed chained latest
    → AreBelow chained.strings text (latest text)

-- a number of `latest` is one more than the index of its string
pub record IsLatest (strings : List (List ℕ)) (latest : List ℕ → ℕ) : Type 0 where
  pub within : (t : List ℕ) → latest t ≤ length strings
  pub equal : (t : List ℕ) → 0 < latest t → string_at strings (latest t - 1) ≡ t

-- the chains and the map lead to every string that can be named
pub record IsIndexed (chained : Chained) (kept : Latest) : Type 0 where
  pub led : AreLed chained (latest_of kept)
  pub latest : IsLatest chained.strings (latest_of kept)

-- the k-th string from the end, if a reference can name it
abbrev pub string_named : List (List ℕ) → ℕ → Option (List ℕ)
string_named strings k =
    if nat_le 1 k && nat_le k max_entries && nat_le k (length strings)
    then slice_get strings (length strings - k) else None

-- the least number that names the string: it does, and no smaller one does; none if no number does
abbrev pub IsLeast : List (List ℕ) → List ℕ → Option ℕ → Type 0
IsLeast strings text (Some k) =
    (string_named strings k ≡ Some text)
    × ((j : ℕ) → j < k → string_named strings j ≢ Some text)
IsLeast strings text None = (k : ℕ) → string_named strings k ≢ Some text
