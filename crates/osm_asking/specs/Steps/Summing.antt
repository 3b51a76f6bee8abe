-- Sums of objects whose lines are taken one after the other.
use Rattle.std.specs.Prelude.{◌≡◌, ℕ, ◌<◌, List, [], ◌∷◌, ◌++◌, length, Option, Some, None}
use Rattle.std.specs.Prelude.{Bool, true, false}
use Rattle.std.specs.List.{AllByRecursion, flat_map}
use Rattle.osm_model.specs.Change.{ChangeValue}
use Rattle.osm_opl.specs.Written.{line_text, opl_text}
use Rattle.sha2.specs.Hashers.{Holds256}
use Rattle.osm_kept.specs.declared.laid.Laid.{Laid}
use Rattle.osm_runs.specs.Checking.{IsSaveText}
use Rattle.osm_net.specs.Laid.{laid_over}
use Rattle.osm_asking.specs.Fingerprint.{IsFingerprint, block_line, first_word}
use Rattle.osm_asking.specs.declared.block_sums.Blocks.{Blocks}
use Rattle.osm_asking.specs.declared.sum.Sum.{Sum}
use Rattle.osm_asking.specs.declared.sums.Sums.{Sums}

-- so many objects were counted, and their lines are the bytes that were hashed and those that wait
pub record IsSumOf (sum : Sum) (waiting : List ℕ) (objects : List ChangeValue) : Type 0 where
  pub hashed : List ℕ
  pub holds : Holds256 sum.hasher hashed
  pub lines : opl_text objects ≡ hashed ++ waiting
  pub count : sum.count ≡ length objects

-- the name of a block that has objects is the key of the first
abbrev pub IsName : List ChangeValue → List ℕ → Type 0
IsName [] name = Unit {0}
IsName (x ∷ xs) name = name ≡ first_word (line_text x)

-- the objects are those of full blocks, whose lines are there, and of one that is summed
pub record AreInBlocks (blocks : Blocks) (waiting : List ℕ) (objects : List ChangeValue) : Type 0
  where
    pub full : List (List ChangeValue)
    pub last : List ChangeValue
    pub whole : objects ≡ flat_map (λ block. block) full ++ last
    pub each : AllByRecursion (λ block. length block ≡ blocks.every) full
    pub sum : IsSumOf blocks.sum waiting last
    pub name : IsName last blocks.name.items
    pub text : blocks.text.items ≡ flat_map block_line full

-- the last block isn't full
abbrev pub HasRoom : Blocks → Type 0
HasRoom blocks = blocks.sum.count < blocks.every

-- once an object was counted, the last block is full or not
abbrev pub IsNoted : Bool → Blocks → Type 0
IsNoted true blocks = (blocks.sum.count ≡ blocks.every) × (0 < blocks.every)
IsNoted false blocks = HasRoom blocks

-- the same of blocks, if there are any
abbrev pub AreInAny : Option Blocks → List ℕ → List ChangeValue → Type 0
AreInAny None waiting objects = Unit {0}
AreInAny (Some blocks) waiting objects = AreInBlocks blocks waiting objects

abbrev pub AnyHasRoom : Option Blocks → Type 0
AnyHasRoom None = Unit {0}
AnyHasRoom (Some blocks) = HasRoom blocks

abbrev pub AnyIsNoted : Bool → Option Blocks → Type 0
AnyIsNoted is_full None = is_full ≡ false
AnyIsNoted is_full (Some blocks) = IsNoted is_full blocks

-- the blocks have as many objects each as before
abbrev pub AreOfSameKeys : Option Blocks → Option Blocks → Type 0
AreOfSameKeys None None = Unit {0}
AreOfSameKeys (Some old) (Some new) = new.every ≡ old.every
AreOfSameKeys old new = ⊥

-- and the last one has as many as before
abbrev pub HaveSameRoom : Option Blocks → Option Blocks → Type 0
HaveSameRoom None None = Unit {0}
HaveSameRoom (Some old) (Some new) =
    (new.every ≡ old.every) × (new.sum.count ≡ old.sum.count)
HaveSameRoom old new = ⊥

-- all objects are summed, and those of blocks, the last of which isn't full
pub record AreSummed (sums : Sums) (waiting : List ℕ) (objects : List ChangeValue) : Type 0 where
  pub all : IsSumOf sums.all waiting objects
  pub blocks : AreInAny sums.blocks waiting objects
  pub room : AnyHasRoom sums.blocks

-- the blocks are those that the option asks for
abbrev pub IsOfKeys : ℕ → Option Blocks → Type 0
IsOfKeys keys None = keys ≡ 0
IsOfKeys keys (Some blocks) = (0 < keys) × (blocks.every ≡ keys)

-- the save is a save text, and the text has the sums of its objects after the net changes
pub record IsSummed (keys : ℕ) (told : Option (List ℕ)) (laid : Laid) (text : List ℕ) : Type 0 where
  pub held : IsSaveText told
  pub text_is : IsFingerprint keys laid.head.number
      (laid_over laid.lists.objects.items held.saved.mirror.objects) text
