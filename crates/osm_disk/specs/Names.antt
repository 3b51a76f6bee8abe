-- Names that belong to a path.
use Rattle.std.specs.Prelude.{◌≡◌, ℕ, ◌<◌, List, ◌∷◌, ◌++◌, length, slice_index, codes, decimal}
use Rattle.std.specs.Prelude.{if◌then◌else◌, nat_le}
use Rattle.std.specs.Path.{slash}
use Rattle.hex.specs.Hex.{encode_lower}
use Rattle.sha2.specs.Sha256.{sha256}

-- no byte is a slash
abbrev pub IsBare : List ℕ → Type 0
IsBare name = (i : ℕ) → i < length name → slice_index name i ≡ slash → ⊥

-- a path is a folder, its last slash, and a name
pub record IsIn (folder name path : List ℕ) : Type 0 where
  pub bare : IsBare name
  pub whole : path ≡ folder ++ slash ∷ name

-- the folder of a path is what comes before its last slash: `.` if there is no slash, and `/` if
-- nothing comes before it
pub data IsFolderOf (path : List ℕ) : List ℕ → Type 0 where
  in_no_folder : IsBare path → IsFolderOf path (codes ".")
  in_root : (folder name : List ℕ) → IsIn folder name path → length folder ≡ 0
      → IsFolderOf path (codes "/")
  in_folder : (folder name : List ℕ) → IsIn folder name path → 0 < length folder
      → IsFolderOf path folder

-- what the temporary files of a long name begin with: `.DIGEST.osmrepl--`, with its SHA-256
abbrev pub digest_start : List ℕ → List ℕ
digest_start name = codes "." ++ (encode_lower (sha256 name) ++ codes ".osmrepl--")

-- what the temporary files of a name begin with: `.NAME.osmrepl-` up to 235 bytes. No two names
-- begin so but for two long ones with one digest: before the digits stands `l-` or `l--`
abbrev pub hidden_start : List ℕ → List ℕ
hidden_start name =
    if nat_le (length name) 235 then codes "." ++ (name ++ codes ".osmrepl-") else digest_start name

-- the name of a temporary file
abbrev pub hidden_text : List ℕ → List ℕ → List ℕ
hidden_text name process = hidden_start name ++ process

-- the same with a process id
abbrev pub hidden_name : List ℕ → ℕ → List ℕ
hidden_name name process = hidden_text name (decimal process)

-- the temporary file of a path has that name, in the same folder
pub data IsTemporary (path : List ℕ) (process : ℕ) : List ℕ → Type 0 where
  hidden : IsBare path → IsTemporary path process (hidden_name path process)
  hidden_below : (folder name : List ℕ) → IsIn folder name path
      → IsTemporary path process (folder ++ codes "/" ++ hidden_name name process)

-- what the temporary files of a path begin with, in its folder
pub data IsStartOf (path : List ℕ) : List ℕ → Type 0 where
  of_bare : IsBare path → IsStartOf path (hidden_start path)
  of_below : (folder name : List ℕ) → IsIn folder name path → IsStartOf path (hidden_start name)

-- a link whose text begins with a slash leads to that path; any other text is a path from the
-- folder of the link
pub data LeadsTo (link text : List ℕ) : List ℕ → Type 0 where
  from_root : slice_index text 0 ≡ slash → LeadsTo link text text
  from_here : IsBare link → LeadsTo link text text
  from_folder : (folder name : List ℕ) → IsIn folder name link → (slice_index text 0 ≡ slash → ⊥)
      → LeadsTo link text (folder ++ codes "/" ++ text)

-- a journal lies beside its save, and has its name and `.journal`
abbrev pub IsJournalOf : List ℕ → List ℕ → Type 0
IsJournalOf save path = path ≡ save ++ codes ".journal"
