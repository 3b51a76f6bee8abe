-- The strings of a table as bytes and sizes.
use Rattle.std.specs.Prelude.{◌≡◌, ℕ, ◌+◌, ◌≤◌, List, [], ◌∷◌, ◌++◌, length, take, drop, IsTrue}
use Rattle.osm_model.specs.Text.{IsText}
use Rattle.osm_o5c.specs.declared.strings.Entry.{Entry}
use Rattle.osm_o5c.specs.declared.strings.Entry.TheVariants as entries
use Rattle.osm_data.specs.declared.o5m_carried.Sizes.{Sizes}
use Rattle.osm_data.specs.declared.o5m_carried.Sizes.TheVariants.{Pair, Single}

-- the bytes of an entry's strings
abbrev pub bytes_of : Entry → List ℕ
bytes_of (entries.Pair first second) = first ++ second
bytes_of (entries.Single text) = text

-- the size of an entry
abbrev pub size_in : Sizes → ℕ
size_in (Pair first second is_first_text is_second_text) = first + second
size_in (Single text is_text) = text

-- the entry of those sizes at the start of bytes
abbrev pub entry_at : Sizes → List ℕ → Entry
entry_at (Pair first second is_first_text is_second_text) bytes =
    entries.Pair (take first bytes) (take second (drop first bytes))
entry_at (Single text is_text) bytes = entries.Single (take text bytes)

-- the strings of an entry that are marked as texts are texts
abbrev pub AreTexts : Sizes → Entry → Type 0
AreTexts (Pair f s is_first_text is_second_text) (entries.Pair first second) =
    (IsTrue is_first_text → IsText first) × (IsTrue is_second_text → IsText second)
AreTexts (Pair f s is_first_text is_second_text) (entries.Single text) = ⊥
AreTexts (Single t is_text) (entries.Pair first second) = ⊥
AreTexts (Single t is_text) (entries.Single text) = IsTrue is_text → IsText text

-- those are the sizes of an entry's strings
abbrev pub AreSizesOf : Sizes → Entry → Type 0
AreSizesOf (Pair f s is_first_text is_second_text) (entries.Pair first second) =
    (f ≡ length first) × (s ≡ length second)
AreSizesOf (Pair f s is_first_text is_second_text) (entries.Single text) = ⊥
AreSizesOf (Single t is_text) (entries.Pair first second) = ⊥
AreSizesOf (Single t is_text) (entries.Single text) = t ≡ length text

-- the entries of those sizes at the start of bytes, one after the other
unfoldable pub entries_in : List Sizes → List ℕ → List Entry
entries_in [] bytes = []
entries_in (s ∷ ss) bytes = entry_at s bytes ∷ entries_in ss (drop (size_in s) bytes)

-- the size of all entries
unfoldable pub total_of : List Sizes → ℕ
total_of [] = 0
total_of (s ∷ ss) = size_in s + total_of ss

-- in each entry the strings that are marked as texts are texts
unfoldable pub AllAreTexts : List Sizes → List ℕ → Type 0
AllAreTexts [] bytes = Unit {0}
AllAreTexts (s ∷ ss) bytes = AreTexts s (entry_at s bytes) × AllAreTexts ss (drop (size_in s) bytes)

-- the bytes are those of the entries, which are at most 15,000
pub record AreCarried (sizes : List Sizes) (bytes : List ℕ) : Type 0 where
  pub whole : length bytes ≡ total_of sizes
  pub few : length sizes ≤ 15000
  pub texts : AllAreTexts sizes bytes
