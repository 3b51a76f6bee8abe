-- A text that is printed in parts, while it is read.
use Rattle.std.specs.Prelude.{◌≡◌, ℕ, ◌≤◌, List, [], ◌++◌, Option, Some, None, codes}
use Rattle.std.specs.Prelude.{Bool, true, false, Result, IfErr, OnOk}
use Rattle.std.specs.List.{flat_map}
use Rattle.std.specs.Io.KnownBytes.{Appends}
use Rattle.osm_blocks.specs.Frames.{ReadsOften}
use Rattle.osm_blocks.specs.Places.{HasFile, IsHuge, Place, left_of}
use Rattle.osm_mirror.specs.Mirror.{Counted}
use Rattle.osm_model.specs.Change.{ChangeValue}
use Rattle.osm_model.specs.Filter.{FilterValue}
use Rattle.osm_model.specs.Limits.{max_sequence}
use Rattle.osm_model.specs.declared.kind.Key.{Key}
use Rattle.osm_net.specs.Laid.{added}
use Rattle.osm_net.specs.Net.{NetEntry, NetValue}
use Rattle.osm_reading.specs.Answers.{and_then}
use Rattle.osm_reading.specs.NumberLines.{count_line, numbered_line}
use Rattle.osm_save.specs.Head.{most_counted}
use Rattle.osm_save.specs.Reading.{counts_at}
use Rattle.osm_save.specs.declared.head.Head.{Head}
use Rattle.osm_save.specs.Shown.{object_line}
use Rattle.osm_store.specs.Frames.{StoreState}
use Rattle.osm_runs.specs.declared.fault.FileName.TheVariants.{Output, Save}
use Rattle.osm_runs.specs.declared.fault.RunFault.{RunFault}
use Rattle.osm_runs.specs.declared.fault.RunFault.TheVariants.{Changed, ReadFault, TooLarge}
use Rattle.osm_runs.specs.declared.fault.RunFault.TheVariants.{WantOfMemory, WriteFault}
use Rattle.osm_merge.specs.Lists.{AreFew}
use Rattle.osm_merge.specs.Mirrors.{end_at}
use Rattle.osm_merge.specs.declared.fault.MergeFault.{MergeFault}
use Rattle.osm_merge.specs.declared.fault.MergeFault.TheVariants as merges
use Rattle.osm_merge.specs.declared.lists.Totals.{Totals}
use Rattle.osm_merge.specs.declared.opening.Opening.{Opening}
use Rattle.osm_merged.specs.Ahead.{Ahead, CountsAhead, counts_ahead, laid_after, objects_ahead}
use Rattle.osm_printing.specs.Printing.{IsReadFault}
use Rattle.osm_printing.specs.Steps.Copying.{IsPart}

-- ---- what is given to a printer

-- of what waited and these bytes all was printed, except what waits now
pub record IsPut (printed after : Option (List ℕ)) (waited waits bytes : List ℕ) : Type 0 where
  pub written : List ℕ
  pub all : Appends printed after written
  pub parts : waited ++ bytes ≡ written ++ waits

-- a prefix of what waited and of these bytes was printed
pub record IsPutInPart (printed after : Option (List ℕ)) (waited bytes : List ℕ) : Type 0 where
  pub part : List ℕ
  pub some : Appends printed after part
  pub first : IsPart part (waited ++ bytes)

-- why bytes aren't put: memory or standard output
abbrev pub WritingStops : RunFault → Type 0
WritingStops WantOfMemory = Unit {0}
WritingStops (WriteFault file) = file ≡ Output
WritingStops fault = ⊥

-- they weren't put, and a part of them was printed
pub record PutFails (printed after : Option (List ℕ)) (waited bytes : List ℕ) (fault : RunFault)
    : Type 0 where
  pub stops : WritingStops fault
  pub some : IsPutInPart printed after waited bytes

-- ---- what is laid over a save

-- their counts have room beside those of a save with that head
pub record HaveRoom (head : Head) (n : NetValue) : Type 0 where
  pub number : head.number ≤ max_sequence
  pub base : head.base ≤ head.number
  pub few : AreFew n

-- ---- what is read of a text that is ahead

-- bytes as text, and the bytes after them
abbrev pub Text : Type 0
Text = Option (List ℕ × List ℕ)

-- the lines of values that are read
abbrev pub lines_in : {X : Type 0} → (X → List ℕ) → Option (List X × List ℕ) → Text
lines_in line reading = and_then reading (λ r. Some (flat_map line r.0, r.1))

-- a text, and then what is read
abbrev pub with_text : List ℕ → Text → Text
with_text text reading = and_then reading (λ r. Some (text ++ r.0, r.1))

-- what is read, and then what is read of the bytes after it
abbrev pub then_text : Text → (List ℕ → Text) → Text
then_text reading next = and_then reading (λ r. with_text r.0 (next r.1))

-- the lines of the objects that are ahead, and those of the counts
abbrev pub object_lines : FilterValue → Ahead NetEntry ChangeValue Key → List ℕ → Text
object_lines f a bytes = lines_in object_line (objects_ahead f a bytes)

abbrev pub count_lines : CountsAhead → List ℕ → Text
count_lines a bytes = lines_in count_line (counts_ahead a bytes)

-- the list of objects that is ahead, with its number
abbrev pub objects_part : ℕ → FilterValue → Ahead NetEntry ChangeValue Key → List ℕ → Text
objects_part total f a bytes =
    with_text (numbered_line (codes "objects ") total) (object_lines f a bytes)

-- a list of counts with increments added to them, with its number
abbrev pub counts_part : List ℕ → ℕ → Head → List Counted → List ℕ → Text
counts_part word total head increments bytes =
    with_text (numbered_line word total) (lines_in count_line (laid_after added increments
    (counts_at word (most_counted head) bytes)))

-- both lists of counts
abbrev pub both_parts : Totals → Head → NetValue → List ℕ → Text
both_parts t head n bytes =
    then_text (counts_part (codes "users ") t.users head n.users bytes)
    (counts_part (codes "changesets ") t.changesets head n.changesets)

-- nothing, if the end is next
abbrev pub end_part : List ℕ → Text
end_part bytes = and_then (end_at bytes) (λ e. Some ([], bytes))

-- all lists, and the end
abbrev pub whole_part : Totals → Opening → NetValue → Ahead NetEntry ChangeValue Key → List ℕ
    → Text
whole_part t o n a bytes =
    then_text (objects_part t.objects o.filter a bytes) (λ after.
    then_text (both_parts t o.head n after) end_part)

-- ---- a part that was read and printed

-- why a part isn't read and printed: a known file changes only if it can't be read
abbrev pub PartStops : StoreState → List ℕ → (List ℕ → Type 0) → RunFault → Type 0
PartStops state name Lacks WantOfMemory = Unit {0}
PartStops state name Lacks (ReadFault file) = file ≡ Save
PartStops state name Lacks (WriteFault file) = file ≡ Output
PartStops state name Lacks (TooLarge file) =
    (file ≡ Save) × ((bytes : List ℕ) → HasFile state name bytes → IsHuge bytes)
PartStops state name Lacks (Changed file) =
    (file ≡ Save) × ((bytes : List ℕ) → HasFile state name bytes → Lacks bytes)
PartStops state name Lacks fault = ⊥

-- the next line of what was ahead was read, or its end
abbrev pub TakesLine : StoreState → List ℕ → (List ℕ → Text) → (List ℕ → Text) → Place → Place
    → List ℕ → Bool → Type 0
TakesLine state name old new begun place line true = (file : List ℕ) → HasFile state name file
    → old (left_of begun file) ≡ with_text line (new (left_of place file))
TakesLine state name old new begun place line false = (file : List ℕ) → HasFile state name file
    → old (left_of begun file) ≡ Some ([], left_of place file)

-- the fault of a second reading: whatever is wrong, the file changed
abbrev pub again_fault_of : MergeFault → RunFault
again_fault_of merges.ReadFault = ReadFault Save
again_fault_of merges.WriteFault = ReadFault Save
again_fault_of merges.WantOfMemory = WantOfMemory
again_fault_of merges.TooLarge = TooLarge Save
again_fault_of fault = Changed Save

-- what is ahead at `begun` was read up to the new place, and its text was put
pub record IsPrintedPart (state : StoreState) (name : List ℕ) (reading : List ℕ → Text)
    (begun place : Place) (printed after : Option (List ℕ)) (waited waits : List ℕ) : Type 0 where
  pub text : List ℕ
  pub put : IsPut printed after waited waits text
  pub read : (file : List ℕ) → HasFile state name file
      → reading (left_of begun file) ≡ Some (text, left_of place file)

-- not all of it was read and put, but a part
pub record IsPartCut (state : StoreState) (name : List ℕ) (reading : List ℕ → Text)
    (begun : Place) (printed after : Option (List ℕ)) (waited : List ℕ) (fault : RunFault) : Type 0
  where
    pub stops : PartStops state name (λ file. reading (left_of begun file) ≡ None) fault
    pub text : List ℕ
    pub some : IsPutInPart printed after waited text
    pub first : (file whole rest : List ℕ) → HasFile state name file
        → reading (left_of begun file) ≡ Some (whole, rest) → IsPart text whole

-- a part of the file of that name was read up to the new place, and its text was put, or why not
pub record PrintsPart (name : List ℕ) (reading : List ℕ → Text)
    (result : Result (Unit {0}) RunFault) (before : StoreState) (begun : Place)
    (printed : Option (List ℕ)) (waited : List ℕ) (after : StoreState) (place : Place)
    (prints : Option (List ℕ)) (waits : List ℕ) : Type 0 where
  pub all : OnOk result
      (IsPrintedPart before name reading begun place printed prints waited waits)
  pub cut : IfErr result (IsPartCut before name reading begun printed prints waited)
  pub frame : ReadsOften IsReadFault before after result

-- all that is ahead was, up to some place
pub record PrintsLast (name : List ℕ) (reading : List ℕ → Text)
    (result : Result (Unit {0}) RunFault) (before : StoreState) (begun : Place)
    (printed : Option (List ℕ)) (waited : List ℕ) (after : StoreState)
    (prints : Option (List ℕ)) (waits : List ℕ) : Type 0 where
  pub end : Place
  pub part : PrintsPart name reading result before begun printed waited after end prints waits
