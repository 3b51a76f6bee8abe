-- What a merge of a save text with net changes leaves.
use Rattle.std.specs.Prelude.{◌≡◌, ℕ, ◌<◌, ◌≤◌, ◌⊎◌, List, ◌++◌, length, Option, Some}
use Rattle.osm_net.specs.Laid.{laid_on}
use Rattle.osm_net.specs.Net.{NetValue}
use Rattle.osm_save.specs.Head.{head_lines}
use Rattle.osm_save.specs.Lines.{ended}
use Rattle.osm_save.specs.Reading.{save_at}
use Rattle.osm_save.specs.Save.{SpellsSave, most_objects, save_text, saved_with}
use Rattle.osm_save.specs.declared.head.Head.{Head}
use Rattle.osm_save.specs.declared.save.Saved.{Saved}
use Rattle.osm_save.specs.declared.version.Version.TheVariants.{Three}
use Rattle.osm_store.specs.Files.{Files, Puts}
use Rattle.osm_merge.specs.Checking.{CheckStops, IsHugeFile}
use Rattle.osm_merge.specs.Mirrors.{lists_text, totals_of}
use Rattle.osm_merge.specs.declared.fault.MergeFault.{MergeFault}
use Rattle.osm_merge.specs.declared.fault.MergeFault.TheVariants.{TooLarge}
use Rattle.osm_merge.specs.declared.lists.Totals.{Totals}

-- the file was the save text of something, and is that of it with the new head and after the net
-- changes; no other file changed
pub record IsMerged (head : Head) (n : NetValue) (name : List ℕ) (old new : Files) : Type 0 where
  pub file : List ℕ
  pub there : old name ≡ Some file
  pub saved : Saved
  pub spells : SpellsSave file saved
  pub few : length (laid_on n saved.mirror).objects ≤ most_objects Three head.number
  pub put : Puts old name
      (Some (save_text Three (saved_with head saved.filter (laid_on n saved.mirror)))) new

-- the file is the save text of something, and after the net changes it has more objects than a save
-- text can have
pub record HasTooMany (told : Option (List ℕ)) (n : NetValue) : Type 0 where
  pub file : List ℕ
  pub there : told ≡ Some file
  pub saved : Saved
  pub spells : SpellsSave file saved
  pub many : 999999999999999999 < length (laid_on n saved.mirror).objects

-- why a file isn't merged with net changes: for what refuses a check, or for too many objects
abbrev pub MergeStops : Option (List ℕ) → NetValue → MergeFault → Type 0
MergeStops told n TooLarge = IsHugeFile told ⊎ HasTooMany told n
MergeStops told n fault = CheckStops told fault

-- the file is the save text of something, and after the net changes its lists have those numbers
pub record IsCounted (told : Option (List ℕ)) (n : NetValue) (totals : Totals) : Type 0 where
  pub file : List ℕ
  pub there : told ≡ Some file
  pub saved : Saved
  pub is : save_at file ≡ Some saved
  pub totals_are : totals ≡ totals_of (laid_on n saved.mirror)

-- the new head, the lists after the net changes under those numbers, and `end`
abbrev pub merged_text : Head → Totals → NetValue → Saved → List ℕ
merged_text head given n saved =
    ended (head_lines Three head saved.filter) ++ lists_text given (laid_on n saved.mirror)

-- the same, and what is said of what it saves holds
pub record IsStaged (told : Option (List ℕ)) (n : NetValue) (counted : Totals)
    (Says : Saved → Type 0) : Type 0 where
  pub count : IsCounted told n counted
  pub says : Says count.saved
