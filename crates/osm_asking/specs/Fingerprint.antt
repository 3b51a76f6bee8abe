-- The fingerprint of what a mirror keeps: the SHA-256 of the lines of its objects.
use Rattle.std.specs.Prelude.{◌≡◌, ℕ, zero, suc, ◌<◌, List, [], ◌∷◌, ◌++◌, length, codes, decimal}
use Rattle.std.specs.Prelude.{Option, Some, None}
use Rattle.std.specs.List.{AllByRecursion, flat_map}
use Rattle.hex.specs.Hex.{encode_lower}
use Rattle.osm_model.specs.Change.{ChangeValue}
use Rattle.osm_kept.specs.Kept.{Keeps}
use Rattle.osm_kept.specs.Refusal.{HasNoOther}
use Rattle.osm_opl.specs.Written.{line_text, opl_text}
use Rattle.osm_reading.specs.Pieces.{cut_at}
use Rattle.osm_runs.specs.Reports.{ReportValue}
use Rattle.osm_save.specs.declared.save.Saved.{Saved}
use Rattle.sha2.specs.Sha256.{sha256}

-- `NAME objects COUNT sha256 DIGITS` and LF
abbrev pub sum_line_of : List ℕ → ℕ → List ℕ → List ℕ
sum_line_of name count digits =
    name ++ codes " objects " ++ decimal count ++ codes " sha256 " ++ digits ++ 10 ∷ []

-- that line of some objects: how many there are, and the SHA-256 of their lines, each with its LF,
-- as `show` prints them
abbrev pub sum_line : List ℕ → List ChangeValue → List ℕ
sum_line name objects =
    sum_line_of name (length objects) (encode_lower (sha256 (opl_text objects)))

-- the bytes before the first blank, or all if there is none: of an object's line, its key
abbrev pub before_cut : List ℕ → Option (List ℕ × List ℕ) → List ℕ
before_cut bytes None = bytes
before_cut bytes (Some parts) = parts.0

abbrev pub first_word : List ℕ → List ℕ
first_word bytes = before_cut bytes (cut_at 32 bytes)

-- the line of a block: its name is the key of its first object. No objects have no line
abbrev pub block_line : List ChangeValue → List ℕ
block_line [] = []
block_line (x ∷ xs) = sum_line (first_word (line_text x)) (x ∷ xs)

-- the lines of blocks of so many objects each, the last of which has fewer
pub record AreBlockLines (every : ℕ) (objects : List ChangeValue) (lines : List ℕ) : Type 0 where
  pub full : List (List ChangeValue)
  pub last : List ChangeValue
  pub whole : objects ≡ flat_map (λ block. block) full ++ last
  pub each : AllByRecursion (λ block. length block ≡ every) full
  pub fewer : length last < every
  pub lines_are : lines ≡ flat_map block_line full ++ block_line last

-- the same, and none for blocks of 0
abbrev pub AreKeyLines : ℕ → List ChangeValue → List ℕ → Type 0
AreKeyLines zero objects lines = lines ≡ []
AreKeyLines (suc n) objects lines = AreBlockLines (suc n) objects lines

-- the lines of blocks, and then one for all objects at that number
pub record IsFingerprint (keys number : ℕ) (objects : List ChangeValue) (text : List ℕ) : Type 0
  where
    pub lines : List ℕ
    pub are : AreKeyLines keys objects lines
    pub text_is : text ≡ lines ++ sum_line (codes "number " ++ decimal number) objects

-- the report of the fingerprint of what was saved
abbrev pub IsFingerprintOf : ℕ → Saved → ReportValue → Type 0
IsFingerprintOf keys v report =
    IsFingerprint keys v.number v.mirror.objects report.text × (report.status ≡ 0)

-- the two files keep something, the journal isn't one of another save that ends above the save, and
-- the report is the fingerprint of what they keep
pub record HasFingerprint (keys : ℕ) (told journal : Option (List ℕ)) (report : ReportValue)
    : Type 0 where
  pub value : Saved
  pub kept : Keeps told journal value
  pub free : HasNoOther told journal
  pub is : IsFingerprintOf keys value report
