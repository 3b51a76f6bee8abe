-- A save with net changes laid over it, which is checked, and printed while it is read again.
use Rattle.std.specs.Prelude.{◌≡◌, ℕ, List, ◌++◌, Option, Some, codes}
use Rattle.std.specs.List.{flat_map}
use Rattle.std.specs.Io.KnownBytes.{Appends}
use Rattle.osm_blocks.specs.Places.{HasFile}
use Rattle.osm_mirror.specs.Mirror.{MirrorValue}
use Rattle.osm_net.specs.Laid.{laid_on}
use Rattle.osm_net.specs.Net.{NetValue}
use Rattle.osm_reading.specs.NumberLines.{count_line, numbered_line}
use Rattle.osm_save.specs.Head.{head_of}
use Rattle.osm_save.specs.Save.{SpellsSave}
use Rattle.osm_save.specs.declared.head.Head.{Head}
use Rattle.osm_save.specs.declared.save.Saved.{Saved}
use Rattle.osm_save.specs.Shown.{object_line}
use Rattle.osm_store.specs.Frames.{StoreState}
use Rattle.osm_runs.specs.declared.fault.RunFault.{RunFault}
use Rattle.osm_merge.specs.declared.lists.Totals.{Totals}
use Rattle.osm_printing.specs.Printing.{shown_text}
use Rattle.osm_printing.specs.Steps.Copying.{IsPart}
use Rattle.osm_printing.specs.Steps.Parts.{IsPut, IsPutInPart, PartStops}

-- the lists of a mirror as a show text has them, under those numbers
abbrev pub laid_text : Totals → MirrorValue → List ℕ
laid_text t m =
    (numbered_line (codes "objects ") t.objects ++ flat_map object_line m.objects)
    ++ ((numbered_line (codes "users ") t.users ++ flat_map count_line m.users)
    ++ (numbered_line (codes "changesets ") t.changesets ++ flat_map count_line m.changesets))

-- no save text is known to be there
abbrev pub IsNoText : List ℕ → Type 0
IsNoText file = (saved : Saved) → SpellsSave file saved → ⊥

-- the file has that head if it is a save text
abbrev pub HasHead : Option (List ℕ) → Head → Type 0
HasHead told head = (file : List ℕ) (saved : Saved) → told ≡ Some file → SpellsSave file saved
    → head_of saved ≡ head

-- the lists of a save text were put, after the net changes
pub record AreListsPut (state : StoreState) (name : List ℕ) (n : NetValue) (t : Totals)
    (printed after : Option (List ℕ)) (waited waits : List ℕ) : Type 0 where
  pub text : List ℕ
  pub put : IsPut printed after waited waits text
  pub is : (file : List ℕ) (saved : Saved) → HasFile state name file → SpellsSave file saved
      → text ≡ laid_text t (laid_on n saved.mirror)

-- they weren't, but a part of them
pub record AreListsCut (state : StoreState) (name : List ℕ) (n : NetValue) (t : Totals)
    (printed after : Option (List ℕ)) (waited : List ℕ) (fault : RunFault) : Type 0 where
  pub stops : PartStops state name IsNoText fault
  pub text : List ℕ
  pub some : IsPutInPart printed after waited text
  pub first : (file : List ℕ) (saved : Saved) → HasFile state name file → SpellsSave file saved
      → IsPart text (laid_text t (laid_on n saved.mirror))

-- a show text was printed, with those lists
pub record IsLaidPrinted (state : StoreState) (name : List ℕ) (head : Head) (n : NetValue)
    (t : Totals) (printed after : Option (List ℕ)) : Type 0 where
  pub lists : List ℕ
  pub all : Appends printed after (shown_text head lists)
  pub are : (file : List ℕ) (saved : Saved) → HasFile state name file → SpellsSave file saved
      → lists ≡ laid_text t (laid_on n saved.mirror)

-- a part of one was printed, which is that of those lists if the save is known
pub record IsLaidCut (state : StoreState) (name : List ℕ) (head : Head) (n : NetValue)
    (t : Totals) (printed after : Option (List ℕ)) (fault : RunFault) : Type 0 where
  pub stops : PartStops state name IsNoText fault
  pub part : List ℕ
  pub some : Appends printed after part
  pub lists : List ℕ
  pub of_some : IsPart part (shown_text head lists)
  pub of_own : (file : List ℕ) (saved : Saved) → HasFile state name file
      → SpellsSave file saved
      → IsPart part (shown_text head (laid_text t (laid_on n saved.mirror)))
