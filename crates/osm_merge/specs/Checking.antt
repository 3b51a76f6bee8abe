-- What a check of a save text says.
use Rattle.std.specs.Prelude.{◌≡◌, ℕ, List, ◌++◌, Option, None, Some}
use Rattle.osm_blocks.specs.Places.{IsHuge}
use Rattle.osm_net.specs.Laid.{laid_on}
use Rattle.osm_net.specs.Net.{NetValue}
use Rattle.osm_save.specs.Head.{head_lines, head_of}
use Rattle.osm_save.specs.Lines.{ended}
use Rattle.osm_save.specs.Save.{SpellsSave}
use Rattle.osm_save.specs.declared.save.Saved.{Saved}
use Rattle.osm_merge.specs.Mirrors.{totals_of}
use Rattle.osm_merge.specs.declared.check.Checked.{Checked}
use Rattle.osm_merge.specs.declared.fault.MergeFault.{MergeFault}
use Rattle.osm_merge.specs.declared.fault.MergeFault.TheVariants.{BadSave, Changed, ReadFault}
use Rattle.osm_merge.specs.declared.fault.MergeFault.TheVariants.{WriteFault}
use Rattle.osm_merge.specs.declared.fault.MergeFault.TheVariants.{LongLine, NoSave, TooLarge}
use Rattle.osm_merge.specs.declared.fault.MergeFault.TheVariants.{WantOfMemory}

-- the file is a save text, of that version, with that head and filter and as many objects, users
-- and changesets
pub record IsChecked (told : Option (List ℕ)) (checked : Checked) : Type 0 where
  pub file : List ℕ
  pub there : told ≡ Some file
  pub saved : Saved
  pub spells : SpellsSave file saved
  pub head : head_of saved ≡ checked.head
  pub filter : saved.filter ≡ checked.filter
  pub totals : checked.totals ≡ totals_of saved.mirror
  pub rest : List ℕ
  pub begins : file ≡ ended (head_lines checked.version checked.head checked.filter) ++ rest

-- the file is a save text, of that version, with that head and filter, and has as many objects,
-- users and changesets after net changes
pub record IsCheckedWith (told : Option (List ℕ)) (n : NetValue) (checked : Checked) : Type 0 where
  pub file : List ℕ
  pub there : told ≡ Some file
  pub saved : Saved
  pub spells : SpellsSave file saved
  pub head : head_of saved ≡ checked.head
  pub filter : saved.filter ≡ checked.filter
  pub totals : checked.totals ≡ totals_of (laid_on n saved.mirror)
  pub rest : List ℕ
  pub begins : file ≡ ended (head_lines checked.version checked.head checked.filter) ++ rest

-- the file is the save text of nothing
pub record IsNoSave (told : Option (List ℕ)) : Type 0 where
  pub file : List ℕ
  pub there : told ≡ Some file
  pub none : (v : Saved) → SpellsSave file v → ⊥

-- the file has more bytes than 64 bits count
pub record IsHugeFile (told : Option (List ℕ)) : Type 0 where
  pub file : List ℕ
  pub there : told ≡ Some file
  pub huge : IsHuge file

-- why a file isn't found to be a save text: a line is bad or too long only if the file saves
-- nothing
abbrev pub CheckStops : Option (List ℕ) → MergeFault → Type 0
CheckStops told NoSave = told ≡ None
CheckStops told (BadSave line) = IsNoSave told
CheckStops told LongLine = IsNoSave told
CheckStops told TooLarge = IsHugeFile told
CheckStops told Changed = ⊥
CheckStops told ReadFault = Unit {0}
CheckStops told WriteFault = Unit {0}
CheckStops told WantOfMemory = Unit {0}
