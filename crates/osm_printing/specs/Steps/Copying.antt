-- How the lists of a save are copied. The file of that name has them from a place on, and after
-- them its last line.
use Rattle.std.specs.Prelude.{◌≡◌, ℕ, ◌≤◌, List, ◌++◌, drop, length, Option, Some, None, codes}
use Rattle.std.specs.Io.KnownBytes.{Appends}
use Rattle.osm_blocks.specs.Places.{HasFile, IsHuge}
use Rattle.osm_model.specs.Filter.{FilterValue}
use Rattle.osm_mirror.specs.Mirror.{MirrorValue}
use Rattle.osm_save.specs.Shown.{counts_text, objects_text}
use Rattle.osm_save.specs.Head.{head_of}
use Rattle.osm_save.specs.Reading.{head_at}
use Rattle.osm_save.specs.Save.{SpellsSave}
use Rattle.osm_save.specs.declared.save.Saved.{Saved}
use Rattle.osm_save.specs.declared.version.Version.{Version}
use Rattle.osm_store.specs.Frames.{StoreState}
use Rattle.osm_runs.specs.declared.fault.FileName.TheVariants.{Output, Save}
use Rattle.osm_runs.specs.declared.fault.RunFault.{RunFault}
use Rattle.osm_runs.specs.declared.fault.RunFault.TheVariants.{Changed}
use Rattle.osm_runs.specs.declared.fault.RunFault.TheVariants.{ReadFault, TooLarge, WantOfMemory}
use Rattle.osm_runs.specs.declared.fault.RunFault.TheVariants.{WriteFault}
use Rattle.osm_printing.specs.Printing.{shown_text}
use Rattle.osm_printing.specs.declared.start.Start.{Start}

-- the last line of a save text
abbrev pub end_line : List ℕ
end_line = codes "end\n"

-- the lists of a mirror, as a show text has them
abbrev pub lists_of : MirrorValue → List ℕ
lists_of m =
    objects_text m.objects ++ counts_text (codes "users ") m.users
    ++ counts_text (codes "changesets ") m.changesets

-- why no block is read
abbrev pub BlockStops : StoreState → List ℕ → RunFault → Type 0
BlockStops state name WantOfMemory = Unit {0}
BlockStops state name (ReadFault file) = file ≡ Save
BlockStops state name (Changed file) =
    (file ≡ Save) × ((bytes : List ℕ) → HasFile state name bytes → ⊥)
BlockStops state name fault = ⊥

-- the bytes begin with a head, and the place is after it
pub record StartsAt (bytes : List ℕ) (start : Start) : Type 0 where
  pub version : Version
  pub filter : FilterValue
  pub within : start.after ≤ length bytes
  pub head : head_at bytes ≡ Some (version, start.head, filter, drop start.after bytes)

-- why no head is read
abbrev pub HeadStops : List ℕ → RunFault → Type 0
HeadStops bytes WantOfMemory = Unit {0}
HeadStops bytes (Changed file) = (file ≡ Save) × (head_at bytes ≡ None)
HeadStops bytes fault = ⊥

-- what is read of the start of a save text: its head, and where its lists are
pub record IsStart (file : List ℕ) (saved : Saved) (start : Start) : Type 0 where
  pub head : start.head ≡ head_of saved
  pub lists : drop start.after file ≡ lists_of saved.mirror ++ end_line

-- why the start isn't read: not since a known file is no save text
abbrev pub StartStops : StoreState → List ℕ → RunFault → Type 0
StartStops state name WantOfMemory = Unit {0}
StartStops state name (ReadFault file) = file ≡ Save
StartStops state name (Changed file) =
    (file ≡ Save)
    × ((bytes : List ℕ) (saved : Saved) → HasFile state name bytes → SpellsSave bytes saved → ⊥)
StartStops state name fault = ⊥

-- from that place on, the file has those lists, and then its last line
pub record HasLists (state : StoreState) (name : List ℕ) (place : ℕ) (lists : List ℕ)
    : Type 0 where
  pub file : List ℕ
  pub has : HasFile state name file
  pub parts : drop place file ≡ lists ++ end_line

-- the lists were printed
pub record IsCopied (state : StoreState) (name : List ℕ) (place : ℕ)
    (printed after : Option (List ℕ)) : Type 0 where
  pub copied : List ℕ
  pub all : Appends printed after copied
  pub are : (lists : List ℕ) → HasLists state name place lists → copied ≡ lists

-- the first bytes of a whole
pub record IsPart (part whole : List ℕ) : Type 0 where
  pub rest : List ℕ
  pub parts : whole ≡ part ++ rest

-- the save has more bytes than 64 bits count
abbrev pub IsHugeAt : StoreState → List ℕ → Type 0
IsHugeAt state name = (file : List ℕ) → HasFile state name file → IsHuge file

-- why copying stops: a known file with lists and a last line doesn't change
abbrev pub PlaceStops : StoreState → List ℕ → ℕ → RunFault → Type 0
PlaceStops state name place WantOfMemory = Unit {0}
PlaceStops state name place (ReadFault file) = file ≡ Save
PlaceStops state name place (WriteFault file) = file ≡ Output
PlaceStops state name place (TooLarge file) = (file ≡ Save) × IsHugeAt state name
PlaceStops state name place (Changed file) =
    (file ≡ Save) × ((lists : List ℕ) → HasLists state name place lists → ⊥)
PlaceStops state name place fault = ⊥

-- copying stopped, and a part of the lists was printed
pub record IsCopiedInPart (state : StoreState) (name : List ℕ) (place : ℕ)
    (printed after : Option (List ℕ)) (fault : RunFault) : Type 0 where
  pub stops : PlaceStops state name place fault
  pub copied : List ℕ
  pub some : Appends printed after copied
  pub are : (lists : List ℕ) → HasLists state name place lists → IsPart copied lists

-- a show text was printed, with the lists of the save
pub record IsPrintedFrom (state : StoreState) (name : List ℕ) (start : Start)
    (printed after : Option (List ℕ)) : Type 0 where
  pub lists : List ℕ
  pub all : Appends printed after (shown_text start.head lists)
  pub are : (own : List ℕ) → HasLists state name start.after own → lists ≡ own

-- a part of a show text was printed, which is that of the save's lists if these are known
pub record IsPrintedInPart (state : StoreState) (name : List ℕ) (start : Start)
    (printed after : Option (List ℕ)) (fault : RunFault) : Type 0 where
  pub stops : PlaceStops state name start.after fault
  pub part : List ℕ
  pub some : Appends printed after part
  pub lists : List ℕ
  pub of_some : IsPart part (shown_text start.head lists)
  pub of_own : (own : List ℕ) → HasLists state name start.after own
      → IsPart part (shown_text start.head own)
