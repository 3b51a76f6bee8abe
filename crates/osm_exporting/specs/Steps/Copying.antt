-- How the objects of a save text with net changes laid over them are read, and written to a file
-- that was begun.
use Rattle.std.specs.Prelude.{◌≡◌, ℕ, ◌+◌, ◌<◌, ◌⊎◌, List, [], ◌∷◌, ◌++◌, Option, Some, None}
use Rattle.std.specs.Prelude.{Bool, Result, true, false, IfErr, IfOk, IsTrue, OnOk}
use Rattle.osm_blocks.specs.Calls.{Advances, reads_ahead}
use Rattle.osm_blocks.specs.Frames.{ReadsOften}
use Rattle.osm_blocks.specs.Places.{HasFile, IsHuge, left_of}
use Rattle.osm_runs.specs.Checking.{IsSaveText, ReadStops}
use Rattle.osm_merge.specs.Mirrors.{both_at}
use Rattle.osm_merge.specs.declared.opening.Opening.{Opening}
use Rattle.osm_merged.specs.Ahead.{IsGiven, most_ahead, most_in, objects_ahead}
use Rattle.osm_mirror.specs.Mirror.{Counted}
use Rattle.osm_model.specs.Change.{ChangeValue}
use Rattle.osm_model.specs.Filter.{FilterValue}
use Rattle.osm_net.specs.Laid.{laid_over}
use Rattle.osm_net.specs.Net.{NetEntry}
use Rattle.osm_o5c.specs.File.{end_byte}
use Rattle.osm_o5c.specs.Written.{objects_text}
use Rattle.osm_o5c.specs.declared.writer.Writer.{Writer}
use Rattle.osm_reading.specs.Answers.{and_then}
use Rattle.osm_save.specs.Head.{most_counted}
use Rattle.osm_store.specs.Files.{Files, Puts, Stage}
use Rattle.osm_store.specs.Frames.{StoreState}
use Rattle.osm_runs.specs.DataForms.{data_text_of}
use Rattle.osm_runs.specs.Runs.{IsDeviceFault}
use Rattle.osm_runs.specs.declared.data_form.DataForm.{DataForm}
use Rattle.osm_runs.specs.declared.fault.FileName.TheVariants.{Output, Save}
use Rattle.osm_runs.specs.declared.fault.RunFault.{RunFault}
use Rattle.osm_runs.specs.declared.fault.RunFault.TheVariants.{Absent, BadSave, Changed}
use Rattle.osm_runs.specs.declared.fault.RunFault.TheVariants.{ReadFault, TooLarge, WantOfMemory}
use Rattle.osm_runs.specs.declared.fault.RunFault.TheVariants.{WriteFault}
use Rattle.osm_runs.specs.Filling.{Fills}
use Rattle.osm_exporting.specs.declared.objects.SavedObjects.{SavedObjects}

-- the objects that are ahead in a file with those bytes, and the bytes after them
abbrev pub ahead_in : FilterValue → SavedObjects → List ℕ → Option (List ChangeValue × List ℕ)
ahead_in f objects file = objects_ahead f objects.merged (left_of objects.source file)

-- why a part of the pass stops. Of a known file a line is bad or too long only if the part can't be
-- read, and a file that was opened is neither absent nor changed
abbrev pub PassStops : StoreState → List ℕ → (List ℕ → Type 0) → RunFault → Type 0
PassStops state name Unreadable WantOfMemory = Unit {0}
PassStops state name Unreadable (ReadFault file) = file ≡ Save
PassStops state name Unreadable (WriteFault file) = file ≡ Output
PassStops state name Unreadable (BadSave line) =
    (bytes : List ℕ) → HasFile state name bytes → Unreadable bytes
PassStops state name Unreadable (TooLarge file) =
    (file ≡ Save)
    × ((bytes : List ℕ) → HasFile state name bytes → IsHuge bytes ⊎ Unreadable bytes)
PassStops state name Unreadable (Absent file) =
    (file ≡ Save) × ((bytes : List ℕ) → HasFile state name bytes → ⊥)
PassStops state name Unreadable (Changed file) =
    (file ≡ Save) × ((bytes : List ℕ) → HasFile state name bytes → ⊥)
PassStops state name Unreadable fault = ⊥

-- why the output isn't written
abbrev pub OutputStops : RunFault → Type 0
OutputStops WantOfMemory = Unit {0}
OutputStops (WriteFault file) = file ≡ Output
OutputStops fault = ⊥

-- why the pass stops: for the output, whatever the save is, or for the save
abbrev pub StageStops : Type 0 → Option (List ℕ) → RunFault → Type 0
StageStops known told (WriteFault file) = file ≡ Output
StageStops known told fault = ReadStops known told fault

-- the output is the reason
abbrev pub IsOfOutput : RunFault → Type 0
IsOfOutput (WriteFault file) = Unit {0}
IsOfOutput fault = ⊥

-- the objects that are ahead, and after them both lists of counts and the end
abbrev pub all_in : Opening → SavedObjects → List ℕ
    → Option (List ChangeValue × (List Counted × List Counted))
all_in o objects file = and_then (ahead_in o.filter objects file) (λ r.
    and_then (both_at (most_counted o.head) r.1) (λ c. Some (r.0, c)))

-- all of that was read, and the objects are those
abbrev pub IsAllRead : Opening → SavedObjects → List ℕ → List ChangeValue → Type 0
IsAllRead o objects file values =
    (counts : List Counted × List Counted) × (all_in o objects file ≡ Some (values, counts))

-- the save is a save text, and all of its objects, after the entries, are in the file that was
-- begun at that name
pub record IsStaged (told : Option (List ℕ)) (output : List ℕ) (form : DataForm)
    (es : List NetEntry) (stage : Option Stage) : Type 0 where
  pub held : IsSaveText told
  pub staged : stage
      ≡ Some (output, data_text_of form (laid_over es held.saved.mirror.objects))

-- the save is a save text, and the output holds all of its objects after the entries
pub record IsWritten (save output : List ℕ) (form : DataForm) (es : List NetEntry)
    (old new : Files) : Type 0 where
  pub held : IsSaveText (old save)
  pub put : Puts old output
      (Some (data_text_of form (laid_over es held.saved.mirror.objects))) new

-- the calls that are ahead of a copy at most: of reads, and an append for each object, so for each
-- byte that is left and each entry
abbrev pub copies_ahead : SavedObjects → List ℕ → ℕ
copies_ahead objects file =
    reads_ahead objects.source file + most_in objects.merged (left_of objects.source file)

-- why the objects that are ahead aren't read
abbrev pub ObjectsStop : StoreState → List ℕ → FilterValue → SavedObjects → RunFault → Type 0
ObjectsStop state name f objects = PassStops state name (λ file. ahead_in f objects file ≡ None)

-- the next object of a known file was read, or there is none
abbrev pub ReadsNext : StoreState → List ℕ → FilterValue → SavedObjects → SavedObjects
    → Option ChangeValue → Type 0
ReadsNext state name f old new given = (file : List ℕ) → HasFile state name file
    → IsGiven (left_of new.source file) (ahead_in f old file) (ahead_in f new file) given

-- nothing of a known file was read
abbrev pub ReadsNone : StoreState → List ℕ → SavedObjects → SavedObjects → Type 0
ReadsNone state name old new = (new.merged ≡ old.merged) × ((file : List ℕ)
    → HasFile state name file → left_of new.source file ≡ left_of old.source file)

-- the objects were read on: nothing of what is being written changed, and how many calls it took
pub record ReadsOn {T : Type 0} (old new : StoreState) (name : List ℕ) (left next : SavedObjects)
    (result : Result T RunFault) : Type 0 where
  pub stage : new.stage ≡ old.stage
  pub frame : ReadsOften IsDeviceFault old new result
  pub calls : (file : List ℕ) → HasFile old name file → Advances IsDeviceFault
      (reads_ahead left.source file) (λ _. reads_ahead next.source file) old new result

-- all objects of a known file were read
abbrev pub ReadsAll : StoreState → List ℕ → FilterValue → SavedObjects → SavedObjects
    → List ChangeValue → Type 0
ReadsAll state name f old new values = (file : List ℕ) → HasFile state name file
    → ahead_in f old file ≡ Some (values, left_of new.source file)

-- the next object was read, and of what lacked its text less is lacking now; or there is none, and
-- as much is lacking
abbrev pub CopiesNext : StoreState → StoreState → (Option ChangeValue → Type 0)
    → (List ChangeValue → List ℕ) → (List ChangeValue → List ℕ) → Bool → Type 0
CopiesNext old new Reads before after true = (x : ChangeValue) × Reads (Some x)
    × ((objects : List ChangeValue) → Fills old new (before (x ∷ objects)) (after objects))
CopiesNext old new Reads before after false =
    Reads None × ((objects : List ChangeValue) → Fills old new (before objects) (after objects))

-- that, or why it wasn't done, and how many calls it took
pub record CopiesOne (old new : StoreState) (name : List ℕ) (f : FilterValue)
    (left next : SavedObjects) (before after : List ChangeValue → List ℕ)
    (result : Result Bool RunFault) : Type 0 where
  pub copied : IfOk result (CopiesNext old new (ReadsNext old name f left next) before after)
  pub fewer : IfOk result (λ is_next. IsTrue is_next
      → most_ahead next.merged < most_ahead left.merged)
  pub stops : IfErr result (ObjectsStop old name f left)
  pub frame : ReadsOften IsDeviceFault old new result
  pub calls : (file : List ℕ) → HasFile old name file → Advances IsDeviceFault
      (copies_ahead left file) (λ _. copies_ahead next file) old new result

-- objects were read, and nothing is lacking any more where their text was
pub record Copies (old new : StoreState) (Reads : List ChangeValue → Type 0)
    (text : List ChangeValue → List ℕ) : Type 0 where
  pub objects : List ChangeValue
  pub read : Reads objects
  pub fills : Fills old new (text objects) []

-- that was done with all objects that are ahead, or why it wasn't, and how many calls it took
pub record CopiesAll (old new : StoreState) (name : List ℕ) (f : FilterValue)
    (left last : SavedObjects) (text : List ChangeValue → List ℕ)
    (result : Result (Unit {0}) RunFault) : Type 0 where
  pub copied : OnOk result (Copies old new (ReadsAll old name f left last) text)
  pub stops : IfErr result (ObjectsStop old name f left)
  pub frame : ReadsOften IsDeviceFault old new result
  pub calls : (file : List ℕ) → HasFile old name file → Advances IsDeviceFault
      (copies_ahead left file + 1) (λ _. reads_ahead last.source file) old new result

-- what a file in the form o5m has from here on, if these objects come: first the bytes that were
-- made
abbrev pub o5m_ahead : Writer → List ChangeValue → List ℕ
o5m_ahead w objects = w.out.items ++ objects_text w.kind w.state objects ++ end_byte ∷ []
