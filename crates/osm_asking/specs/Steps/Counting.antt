-- The counts of a save with those of its journal added, as they are read.
use Rattle.std.specs.Prelude.{◌≡◌, ℕ, ◌+◌, List, [], length, Option, Some}
use Rattle.osm_asking.specs.Lines.{lines_from}
use Rattle.osm_blocks.specs.Calls.{blocks_in}
use Rattle.osm_blocks.specs.Places.{HasFile, Place, left_of}
use Rattle.osm_merge.specs.Mirrors.{both_at}
use Rattle.osm_mirror.specs.Mirror.{Counted}
use Rattle.osm_net.specs.Laid.{laid_on}
use Rattle.osm_net.specs.Net.{NetValue}
use Rattle.osm_save.specs.Save.{SpellsSave}
use Rattle.osm_save.specs.declared.save.Saved.{Saved}
use Rattle.osm_store.specs.Frames.{StoreState}
use Rattle.osm_asking.specs.Counts.{counts_by}
use Rattle.osm_asking.specs.declared.choice.By.{By}
use Rattle.osm_asking.specs.declared.fault.SearchFault.{SearchFault}
use Rattle.osm_asking.specs.declared.fault.SearchFault.TheVariants.{Failed, WantOfMemory}

-- counts of a known file were read up to the new place
abbrev pub ReadsCounts : StoreState → List ℕ → (List ℕ → Option (List Counted × List ℕ)) → Place
    → Place → List Counted → Type 0
ReadsCounts state name reading begun now counts = (file : List ℕ) → HasFile state name file
    → reading (left_of begun file) ≡ Some (counts, left_of now file)

-- the counts are those of a save text after the net changes
abbrev pub AreCounted : Option (List ℕ) → By → NetValue → List Counted → Type 0
AreCounted told by n counts = (file : List ℕ) (saved : Saved) → told ≡ Some file
    → SpellsSave file saved → counts ≡ counts_by by (laid_on n saved.mirror)

-- the counts are those that follow the objects of a save, after the net changes, if both lists of
-- counts and the end can be read there
abbrev pub CountsAfter : By → NetValue → ℕ → List ℕ → List Counted → Type 0
CountsAfter by n most bytes counts = (users changesets : List Counted)
    → both_at most bytes ≡ Some (users, changesets)
    → counts ≡ counts_by by (laid_on n
    (record { objects = []; users = users; changesets = changesets }))

-- what is left of a known file, if it is a save text, are the lines after its objects
abbrev pub AreCountsNext : StoreState → List ℕ → Place → Type 0
AreCountsNext state name place = (file : List ℕ) (saved : Saved) → HasFile state name file
    → SpellsSave file saved → left_of place file ≡ lines_from [] saved.mirror

-- the device or memory is why a search ends
abbrev pub IsPlainSearch : SearchFault → Type 0
IsPlainSearch Failed = Unit {0}
IsPlainSearch WantOfMemory = Unit {0}
IsPlainSearch fault = ⊥

-- the most calls that it takes to read the counts at the end of a save
abbrev pub most_at_end : Saved → ℕ
most_at_end v = 61 + blocks_in (length (lines_from [] v.mirror))
