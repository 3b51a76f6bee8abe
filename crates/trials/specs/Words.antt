-- What the words of a line mean.
use Rattle.std.specs.Prelude.{◌≡◌, ◌≤◌, ℕ, List, [], ◌∷◌, ◌++◌, length, map, slice_index_or, codes}
use Rattle.std.specs.Prelude.{drop, Option, Some, None}
use Rattle.std.specs.Borrow.{Bor}
use Rattle.osm_model.specs.Change.{ChangeValue}
use Rattle.osm_model.specs.Filter.{FilterValue}
use Rattle.osm_model.specs.Time.{TimeText}
use Rattle.osm_opl.specs.Line.{SpellsLine}
use Rattle.osm_runs.specs.Filters.{IsAsked}
use Rattle.osm_reading.specs.Sequence.{SpellsSequence}
use Rattle.osm_state.specs.declared.paths.Suffix.{Suffix}
use Rattle.osm_state.specs.declared.paths.Suffix.TheVariants.{O5c, Opl, State}
use Rattle.osm_operations.specs.declared.operation.Operation.{Operation}
use Rattle.osm_operations.specs.declared.operation.Operation.TheVariants.{Publish, PublishAs}
use Rattle.osm_operations.specs.declared.operation.Operation.TheVariants.{Follow, FollowOther}
use Rattle.osm_operations.specs.declared.operation.Operation.TheVariants.{FollowSpoiled}
use Rattle.osm_operations.specs.declared.operation.Operation.TheVariants.{Export, Begin}
use Rattle.osm_operations.specs.declared.operation.Operation.TheVariants.{Lose, PutBack}

-- the words of a line, a `&[&str]`
abbrev pub Words : Type 0
Words = List (Bor (List ℕ))

-- the text of a word, counted from 0
abbrev pub word : Words → ℕ → List ℕ
word words i = (slice_index_or words i (record { ref_ptr = (0, 0); now = [] })).now

-- the word of a suffix
abbrev pub suffix_word : Suffix → List ℕ
suffix_word O5c = codes "o5c"
suffix_word Opl = codes "opl"
suffix_word State = codes "state"

-- `publish TIME`
pub record IsPublish (words : Words) (time : ℕ) : Type 0 where
  pub many : length words ≡ 2
  pub first : word words 0 ≡ codes "publish"
  pub time_is : TimeText (word words 1) time

-- `killed publish CALLS TIME`
pub record IsKilledPublish (words : Words) (calls time : ℕ) : Type 0 where
  pub many : length words ≡ 4
  pub first : word words 0 ≡ codes "killed"
  pub second : word words 1 ≡ codes "publish"
  pub calls_are : SpellsSequence (word words 2) calls
  pub time_is : TimeText (word words 3) time

-- `publish as NUMBER TIME`
pub record IsPublishAs (words : Words) (number time : ℕ) : Type 0 where
  pub many : length words ≡ 4
  pub first : word words 0 ≡ codes "publish"
  pub second : word words 1 ≡ codes "as"
  pub number_is : SpellsSequence (word words 2) number
  pub time_is : TimeText (word words 3) time

-- `killed publish as NUMBER CALLS TIME`
pub record IsKilledPublishAs (words : Words) (number calls time : ℕ) : Type 0 where
  pub many : length words ≡ 6
  pub first : word words 0 ≡ codes "killed"
  pub second : word words 1 ≡ codes "publish"
  pub third : word words 2 ≡ codes "as"
  pub number_is : SpellsSequence (word words 3) number
  pub calls_are : SpellsSequence (word words 4) calls
  pub time_is : TimeText (word words 5) time

-- `follow`
pub record IsFollow (words : Words) : Type 0 where
  pub many : length words ≡ 1
  pub first : word words 0 ≡ codes "follow"

-- `killed follow CALLS`
pub record IsKilledFollow (words : Words) (calls : ℕ) : Type 0 where
  pub many : length words ≡ 3
  pub first : word words 0 ≡ codes "killed"
  pub second : word words 1 ≡ codes "follow"
  pub calls_are : SpellsSequence (word words 2) calls

-- `follow other KINDS KEY..`
pub record IsFollowOther (words : Words) (f : FilterValue) : Type 0 where
  pub many : 3 ≤ length words
  pub first : word words 0 ≡ codes "follow"
  pub second : word words 1 ≡ codes "other"
  pub asked : IsAsked (word words 2) (map (λ key. key.now) (drop 3 words)) f

-- `follow spoiled NUMBER SUFFIX`
pub record IsFollowSpoiled (words : Words) (number : ℕ) (suffix : Suffix) : Type 0 where
  pub many : length words ≡ 4
  pub first : word words 0 ≡ codes "follow"
  pub second : word words 1 ≡ codes "spoiled"
  pub number_is : SpellsSequence (word words 2) number
  pub suffix_is : word words 3 ≡ suffix_word suffix

-- `killed follow spoiled NUMBER SUFFIX CALLS`
pub record IsKilledFollowSpoiled (words : Words) (number : ℕ) (suffix : Suffix) (calls : ℕ) :
    Type 0 where
  pub many : length words ≡ 6
  pub first : word words 0 ≡ codes "killed"
  pub second : word words 1 ≡ codes "follow"
  pub third : word words 2 ≡ codes "spoiled"
  pub number_is : SpellsSequence (word words 3) number
  pub suffix_is : word words 4 ≡ suffix_word suffix
  pub calls_are : SpellsSequence (word words 5) calls

-- `export`
pub record IsExport (words : Words) : Type 0 where
  pub many : length words ≡ 1
  pub first : word words 0 ≡ codes "export"

-- `killed export CALLS`
pub record IsKilledExport (words : Words) (calls : ℕ) : Type 0 where
  pub many : length words ≡ 3
  pub first : word words 0 ≡ codes "killed"
  pub second : word words 1 ≡ codes "export"
  pub calls_are : SpellsSequence (word words 2) calls

-- `begin`
pub record IsBegin (words : Words) : Type 0 where
  pub many : length words ≡ 1
  pub first : word words 0 ≡ codes "begin"

-- `killed begin CALLS`
pub record IsKilledBegin (words : Words) (calls : ℕ) : Type 0 where
  pub many : length words ≡ 3
  pub first : word words 0 ≡ codes "killed"
  pub second : word words 1 ≡ codes "begin"
  pub calls_are : SpellsSequence (word words 2) calls

-- `lose NUMBER SUFFIX`
pub record IsLose (words : Words) (number : ℕ) (suffix : Suffix) : Type 0 where
  pub many : length words ≡ 3
  pub first : word words 0 ≡ codes "lose"
  pub number_is : SpellsSequence (word words 1) number
  pub suffix_is : word words 2 ≡ suffix_word suffix

-- `put back NUMBER SUFFIX`
pub record IsPutBack (words : Words) (number : ℕ) (suffix : Suffix) : Type 0 where
  pub many : length words ≡ 4
  pub first : word words 0 ≡ codes "put"
  pub second : word words 1 ≡ codes "back"
  pub number_is : SpellsSequence (word words 2) number
  pub suffix_is : word words 3 ≡ suffix_word suffix

-- the words say that operation; a publication has the changes that were read before it
abbrev pub Says : Words → List ChangeValue → Operation → Type 0
Says words changes (Publish batch time None) = IsPublish words time × (batch ≡ changes)
Says words changes (Publish batch time (Some calls)) =
    IsKilledPublish words calls time × (batch ≡ changes)
Says words changes (PublishAs batch time number None) =
    IsPublishAs words number time × (batch ≡ changes)
Says words changes (PublishAs batch time number (Some calls)) =
    IsKilledPublishAs words number calls time × (batch ≡ changes)
Says words changes (Follow None) = IsFollow words
Says words changes (Follow (Some calls)) = IsKilledFollow words calls
Says words changes (FollowOther filter) = IsFollowOther words filter
Says words changes (FollowSpoiled number suffix None) = IsFollowSpoiled words number suffix
Says words changes (FollowSpoiled number suffix (Some calls)) =
    IsKilledFollowSpoiled words number suffix calls
Says words changes (Export None) = IsExport words
Says words changes (Export (Some calls)) = IsKilledExport words calls
Says words changes (Begin None) = IsBegin words
Says words changes (Begin (Some calls)) = IsKilledBegin words calls
Says words changes (Lose number suffix) = IsLose words number suffix
Says words changes (PutBack number suffix) = IsPutBack words number suffix

-- the changes that are left for the next publication
abbrev pub changes_after : Operation → List ChangeValue → List ChangeValue
changes_after (Publish batch time calls) changes = []
changes_after (PublishAs batch time number calls) changes = []
changes_after operation changes = changes

-- the filter of a list is that of those kinds and keys
abbrev pub IsFiltered : List ℕ → List (List ℕ) → Option FilterValue → Type 0
IsFiltered kinds keys None = ⊥
IsFiltered kinds keys (Some f) = IsAsked kinds keys f

-- the change on a line of OPL is added
abbrev pub IsEdited : List ℕ → List ChangeValue → List ChangeValue → Type 0
IsEdited line old new = (change : ChangeValue) × SpellsLine line change × (new ≡ old ++ change ∷ [])
