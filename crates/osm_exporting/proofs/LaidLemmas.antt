-- A save with net changes laid over its objects, which is exported.
use Rattle.std.proofs.Common.{◌≡◌, ℕ, ◌+◌, ◌≤◌, List, [], length, Option, None, Some, sym, ap, ◌∙◌, arith}
use Rattle.std.specs.Prelude.{Err, Ok}
use Rattle.osm_blocks.specs.Calls.{Advances, reads_ahead}
use Rattle.osm_blocks.specs.Frames.{ReadsOften}
use Rattle.osm_blocks.specs.Places.{HasFile, left_of}
use Rattle.osm_model.specs.Change.{ChangeValue}
use Rattle.osm_save.specs.Head.{most_counted}
use Rattle.osm_store.specs.Frames.{IsKnown, MakesAtMost, StoreState}
use Rattle.osm_merge.specs.Calls.{check_calls}
use Rattle.osm_merge.specs.Mirrors.{both_at}
use Rattle.osm_merge.specs.Passing.{IsRead}
use Rattle.osm_merge.specs.declared.opening.Opening.{Opening}
use Rattle.osm_merge.proofs.CallLemmas.{advances_fails, advances_of, advances_then, at_most}
use Rattle.osm_merge.proofs.FrameLemmas.{has_still}
use Rattle.osm_merged.specs.Ahead.{most_in}
use Rattle.osm_merged.specs.Laws.{AllIsSaved}
use Rattle.osm_merged.specs.Opening.{BeginsMerged}
use Rattle.osm_kept.specs.declared.laid.Laid.{Laid}
use Rattle.osm_runs.specs.DataForms.{data_text_of}
use Rattle.osm_runs.specs.Runs.{IsDeviceFault}
use Rattle.osm_runs.specs.declared.data_form.DataForm.{DataForm}
use Rattle.osm_runs.specs.declared.fault.RunFault.{RunFault}
use Rattle.osm_runs.specs.declared.fault.RunFault.TheVariants.{WantOfMemory, WriteFault}
use Rattle.osm_runs.proofs.FillLemmas.{fills_then, lacks_all, lacks_nothing}
use Rattle.osm_exporting.specs.Steps.Copying.{Copies, CopiesAll, IsAllRead, IsStaged, OutputStops, PassStops, StageStops, all_in, copies_ahead}
use Rattle.osm_exporting.specs.Steps.Laying.{staged_calls}
use Rattle.osm_exporting.specs.declared.objects.SavedObjects.{SavedObjects}
use Rattle.osm_exporting.proofs.ObjectLemmas.{all_read, parts_of, rest_nothing}
use Rattle.osm_exporting.proofs.PassLemmas.{fills_still, pass_map}

-- ---- why an export stops

-- for the output, over a save of which nothing more is known yet
pub output_stops : (known : Type 0) (told : Option (List ℕ)) (fault : RunFault) → OutputStops fault → StageStops known told fault
output_stops known told WantOfMemory r = tt
output_stops known told (WriteFault file) r = r
output_stops known told fault r = absurd r

-- ---- what is staged

-- the objects that are ahead were written, and what follows them was read
module _ (a b : StoreState) (name : List ℕ) (o : Opening) (first last : SavedObjects) (text : List ChangeValue → List ℕ)
    (all : CopiesAll a b name o.filter first last text (Ok tt)) where
  has_after : (file : List ℕ) → HasFile a name file → HasFile b name file
  has_after file has = has_still a b tt name file all.frame has

  pub written_of : (c : StoreState)
      → ((file : List ℕ) → HasFile b name file → IsRead (both_at (most_counted o.head) (left_of last.source file))) → c.stage ≡ b.stage
      → Copies a c (λ values. (file : List ℕ) → HasFile a name file → IsAllRead o first file values) text
  written_of c rest same =
      let objects = all.copied.objects in
      record {
        objects = objects;
        read = λ file has. (let both = rest file (has_after file has) in
            all_read o first file objects (left_of last.source file) (all.copied.read file has) both.value both.read);
        fills = fills_then {T = Unit {0}} a b c tt (text objects) [] [] all.frame all.copied.fills (fills_still b c [] same);
      }

  -- or wasn't
  pub rest_stops : (fault : RunFault) → PassStops b name (λ file. both_at (most_counted o.head) (left_of last.source file) ≡ None) fault
      → PassStops a name (λ file. all_in o first file ≡ None) fault
  rest_stops fault stops =
      pass_map a b name (λ file. both_at (most_counted o.head) (left_of last.source file) ≡ None) (λ file. all_in o first file ≡ None) fault has_after
      (λ file has none. rest_nothing o first file all.copied.objects (left_of last.source file) (all.copied.read file has) none) stops

  module _ (c : StoreState) (file : List ℕ) (has : HasFile a name file) where
    pub rest_done : ((file : List ℕ) → HasFile b name file
        → Advances {T = Unit {0}} {E = RunFault} IsDeviceFault (reads_ahead last.source file) (λ _. 0) b c (Ok tt))
        → Advances {T = Unit {0}} {E = RunFault} IsDeviceFault (copies_ahead first file + 1) (λ _. 0) a c (Ok tt)
    rest_done calls =
        advances_then {V = Unit {0}} (copies_ahead first file + 1) (λ _. 0) a b c tt tt tt (all.calls file has) (calls file (has_after file has)) (omega arith)

    pub rest_fails : (fault : RunFault) → ((file : List ℕ) → HasFile b name file
        → Advances {T = Unit {0}} IsDeviceFault (reads_ahead last.source file) (λ _. 0) b c (Err fault))
        → Advances {T = Unit {0}} IsDeviceFault (copies_ahead first file + 1) (λ _. 0) a c (Err fault)
    rest_fails fault calls =
        advances_fails {V = Unit {0}} (copies_ahead first file + 1) (λ _. 0) a b c tt fault (all.calls file has) (calls file (has_after file has)) (omega arith)

-- ---- a save that was opened

abbrev most_staged : ℕ → ℕ → ℕ
most_staged bytes entries = check_calls bytes + bytes + entries + 2

module _ (a b d : StoreState) (save : List ℕ) (laid : Laid) (opened : SavedObjects × Opening) (known : IsKnown a)
    (at : BeginsMerged (a.files save) laid.lists.objects.items opened.0.source opened.1 opened.0.merged)
    (frame : ReadsOften {E = RunFault} IsDeviceFault a b (Ok opened)) where
  has_first : HasFile a save at.file
  has_first = record { known = known; there = at.there }

  has_opened : HasFile b save at.file
  has_opened = has_still a b opened save at.file frame has_first

  -- the output was begun
  module _ (begins : ReadsOften {T = Unit {0}} {E = RunFault} IsDeviceFault b d (Ok tt)) where
    pub has_begun : HasFile d save at.file
    has_begun = has_still b d tt save at.file begins has_opened

    -- and all of that was done
    pub staged_of : AllIsSaved → (e : StoreState) (output : List ℕ) (form : DataForm) → (IsKnown b → d.stage ≡ Some (output, []))
        → Copies d e (λ values. (file : List ℕ) → HasFile d save file → IsAllRead opened.1 opened.0 file values) (data_text_of form)
        → IsStaged (a.files save) output form laid.lists.objects.items e.stage
    staged_of made e output form begun copied =
        let objects = copied.objects in
        let whole = data_text_of form objects in
        let text : e.stage ≡ Some (output, whole) =
        lacks_nothing e output whole (copied.fills has_begun.known output whole (lacks_all d output whole (begun has_opened.known))) in
        let all = copied.read at.file has_begun in
        let parts = parts_of opened.1 opened.0 at.file objects all.0 all.1 in
        let was = made (a.files save) laid.lists.objects.items opened.0.source opened.1 opened.0.merged at objects parts.after all.0.0 all.0.1 parts.ahead
        parts.both in
        record {
          held = record { file = at.file; there = at.there; saved = was.saved; spells = was.spells };
          staged = text ∙ ap (λ (l : List ChangeValue). Some (output, data_text_of form l)) was.objects_are;
        }

  -- how many calls were made
  module _ (shorter : (file : List ℕ) → HasFile a save file
      → most_in opened.0.merged (left_of opened.0.source file) ≤ length file + length laid.lists.objects.items)
      (calls : (file : List ℕ) → HasFile a save file → Advances {T = SavedObjects × Opening} IsDeviceFault (check_calls (length file))
      (λ r. reads_ahead r.0.source file) a b (Ok opened)) where
    told_calls : most_staged (length at.file) (length laid.lists.objects.items) ≡ staged_calls (a.files save) laid
    told_calls = sym (ap (λ (o : Option (List ℕ)). staged_calls o laid) at.there)

    pub begin_calls : (fault : RunFault) → MakesAtMost {T = Unit {0}} IsDeviceFault 1 b d (Err fault)
        → MakesAtMost {T = Unit {0}} IsDeviceFault (staged_calls (a.files save) laid) a d (Err fault)
    begin_calls fault begun =
        at_most (staged_calls (a.files save) laid) a d (Err fault)
        (advances_fails {V = Unit {0}} (most_staged (length at.file) (length laid.lists.objects.items)) (λ _. 0) a b d opened fault
        (calls at.file has_first) (advances_of 1 b d (Err fault) has_opened.known begun) (omega arith))
        (omega (arith, told_calls))

    module _ (begins : ReadsOften {T = Unit {0}} {E = RunFault} IsDeviceFault b d (Ok tt))
        (begun : MakesAtMost {T = Unit {0}} {E = RunFault} IsDeviceFault 1 b d (Ok tt)) (e : StoreState) where
      begun_so_far : Advances {T = Unit {0}} IsDeviceFault (most_staged (length at.file) (length laid.lists.objects.items))
          (λ _. reads_ahead opened.0.source at.file + length at.file + length laid.lists.objects.items + 1) a d (Ok tt)
      begun_so_far =
          advances_then {V = Unit {0}} (most_staged (length at.file) (length laid.lists.objects.items))
          (λ _. reads_ahead opened.0.source at.file + length at.file + length laid.lists.objects.items + 1) a b d opened tt tt (calls at.file has_first)
          (advances_of 1 b d (Ok tt) has_opened.known begun) (omega arith)

      pub write_done : ((file : List ℕ) → HasFile d save file
          → Advances {T = Unit {0}} {E = RunFault} IsDeviceFault (copies_ahead opened.0 file + 1) (λ _. 0) d e (Ok tt))
          → MakesAtMost {T = Unit {0}} IsDeviceFault (staged_calls (a.files save) laid) a e (Ok tt)
      write_done writes =
          at_most (staged_calls (a.files save) laid) a e (Ok tt)
          (advances_then {V = Unit {0}} (most_staged (length at.file) (length laid.lists.objects.items)) (λ _. 0) a d e tt tt tt begun_so_far
          (writes at.file (has_begun begins)) (omega (arith, shorter at.file has_first)))
          (omega (arith, told_calls))

      pub write_calls : (fault : RunFault) → ((file : List ℕ) → HasFile d save file
          → Advances {T = Unit {0}} IsDeviceFault (copies_ahead opened.0 file + 1) (λ _. 0) d e (Err fault))
          → MakesAtMost {T = Unit {0}} IsDeviceFault (staged_calls (a.files save) laid) a e (Err fault)
      write_calls fault writes =
          at_most (staged_calls (a.files save) laid) a e (Err fault)
          (advances_fails {V = Unit {0}} (most_staged (length at.file) (length laid.lists.objects.items)) (λ _. 0) a d e tt fault begun_so_far
          (writes at.file (has_begun begins)) (omega (arith, shorter at.file has_first)))
          (omega (arith, told_calls))
