-- Parts of a text that are printed one after the other, while they are read.
use Rattle.std.proofs.Common.{◌≡◌, ℕ, List, [], ◌∷◌, ◌++◌, Option, Some, None, refl, sym, ap, subst, ◌∙◌}
use Rattle.std.specs.Prelude.{Err, Ok, Result, IfSome, is_some}
use Rattle.std.proofs.lemmas.Option.{same_Some}
use Rattle.osm_store.specs.Frames.{StoreState}
use Rattle.osm_blocks.specs.Frames.{ReadsOften}
use Rattle.osm_blocks.specs.Places.{HasFile, Place, left_of}
use Rattle.osm_blocks.proofs.OftenLemmas.{often_both}
use Rattle.osm_runs.specs.declared.fault.RunFault.{RunFault}
use Rattle.osm_runs.specs.declared.fault.RunFault.TheVariants.{Changed, ReadFault, TooLarge, WantOfMemory, WriteFault}
use Rattle.osm_merge.specs.Faults.{IsDeviceFault}
use Rattle.osm_merge.specs.Mirrors.{end_at}
use Rattle.osm_merge.specs.Reading.{LineStops, Refuses}
use Rattle.osm_merge.specs.declared.fault.MergeFault.{MergeFault}
use Rattle.osm_merge.specs.declared.fault.MergeFault.TheVariants as merges
use Rattle.osm_merge.proofs.FrameLemmas.{has_still}
use Rattle.osm_merged.specs.Ahead.{Ahead, CountsAhead, Gives, counts_ahead, laid_after, objects_ahead, with_first}
use Rattle.osm_mirror.specs.Mirror.{Counted}
use Rattle.osm_net.specs.Laid.{added}
use Rattle.osm_reading.specs.Answers.{and_then}
use Rattle.osm_reading.specs.NumberLines.{count_line, numbered_line}
use Rattle.osm_save.specs.Head.{most_counted}
use Rattle.osm_save.specs.Reading.{counts_at}
use Rattle.osm_save.specs.declared.head.Head.{Head}
use Rattle.osm_model.specs.Change.{ChangeValue}
use Rattle.osm_model.specs.Filter.{FilterValue}
use Rattle.osm_model.specs.declared.kind.Key.{Key}
use Rattle.osm_net.specs.Net.{NetEntry}
use Rattle.osm_opl.specs.Written.{line_text}
use Rattle.osm_save.specs.Shown.{object_line}
use Rattle.osm_printing.specs.Printing.{IsReadFault}
use Rattle.osm_printing.specs.Steps.Copying.{IsPart}
use Rattle.osm_printing.specs.Steps.Parts.{IsPut, PartStops, PrintsPart, PutFails, Text, WritingStops, again_fault_of, lines_in}
use Rattle.osm_printing.specs.Steps.Parts.{TakesLine, count_lines, counts_part, end_part, object_lines, then_text, with_text}
use Rattle.osm_printing.proofs.CopyLemmas.{part_after, part_front, part_nil, part_trans}
use Rattle.osm_printing.proofs.PutLemmas.{cut_after, cut_none, put_both, put_none}

-- ---- texts

-- the line of the first value, and those of the others
pub lines_first : {X : Type 0} (line : X → List ℕ) (x : X) {old : Option (List X × List ℕ)} (new : Option (List X × List ℕ)) → old ≡ with_first x new
    → lines_in line old ≡ with_text (line x) (lines_in line new)
lines_first line x None e = ap (lines_in line) e
lines_first line x (Some r) e = ap (lines_in line) e

-- what comes first of all that is read
first_of : (xs whole rest : List ℕ) (r : Text) → with_text xs r ≡ Some (whole, rest) → IsPart xs whole
first_of xs whole rest None e = absurd cc
first_of xs whole rest (Some r) e =
    let same : ◌≡◌ {A = List ℕ × List ℕ} (xs ++ r.0, r.1) (whole, rest) = same_Some (xs ++ r.0, r.1) (whole, rest) e in
    subst (IsPart xs) (ap (λ (p : List ℕ × List ℕ). p.0) same) (part_front xs r.0)

-- what comes first of the second of two texts
first_after : (xs part whole rest : List ℕ) (r : Text) → ((text left : List ℕ) → r ≡ Some (text, left) → IsPart part text)
    → with_text xs r ≡ Some (whole, rest) → IsPart (xs ++ part) whole
first_after xs part whole rest None are e = absurd cc
first_after xs part whole rest (Some r) are e =
    let same : ◌≡◌ {A = List ℕ × List ℕ} (xs ++ r.0, r.1) (whole, rest) = same_Some (xs ++ r.0, r.1) (whole, rest) e in
    subst (IsPart (xs ++ part)) (ap (λ (p : List ℕ × List ℕ). p.0) same) (part_after part xs r.0 (are r.0 r.1 refl))

first_then : (part whole rest : List ℕ) (r : Text) (next : List ℕ → Text) → ((text left : List ℕ) → r ≡ Some (text, left) → IsPart part text)
    → then_text r next ≡ Some (whole, rest) → (text : List ℕ) × IsPart part text × IsPart text whole
first_then part whole rest None next are e = absurd cc
first_then part whole rest (Some r) next are e = (r.0, are r.0 r.1 refl, first_of r.0 whole rest (next r.1) e)

-- ---- faults

again_blames : (fault : MergeFault) → IsReadFault (again_fault_of fault) → IsDeviceFault fault
again_blames merges.ReadFault h = tt
again_blames merges.WriteFault h = tt
again_blames fault h = absurd h

pub frame_read : {T U E : Type 0} {blames : E → Type 0} (a b : StoreState) (x : T) (y : U) → ReadsOften blames a b (Ok x)
    → ReadsOften IsReadFault a b (Ok y)
frame_read a b x y n = record { files = n.files; known = n.known; left = n.left; failures = n.failures; failed = tt; stops = tt }

frame_again : {T U : Type 0} (a b : StoreState) (fault : MergeFault) → ReadsOften {T = T} IsDeviceFault a b (Err fault)
    → ReadsOften {T = U} IsReadFault a b (Err (again_fault_of fault))
frame_again a b fault n = record {
  files = n.files;
  known = n.known;
  left = n.left;
  failures = n.failures;
  failed = λ blame. n.failed (again_blames fault blame);
  stops = λ known blame. n.stops known (again_blames fault blame);
}

-- nothing is blamed on the device of the save if putting fails
frame_unput : {T U E : Type 0} {blames : E → Type 0} (a b : StoreState) (x : T) (fault : RunFault) → ReadsOften blames a b (Ok x) → WritingStops fault
    → ReadsOften {T = U} IsReadFault a b (Err fault)
frame_unput a b x fault n stops = record {
  files = n.files;
  known = n.known;
  left = n.left;
  failures = n.failures;
  failed = λ blame. absurd (never fault stops blame);
  stops = λ known blame. absurd (never fault stops blame);
}
  where
    never : (fault : RunFault) → WritingStops fault → IsReadFault fault → ⊥
    never WantOfMemory stops blame = blame
    never (WriteFault file) stops blame = blame
    never fault stops blame = absurd stops

-- a reading that fails
again_stops : {A : Type 0} (state : StoreState) (name : List ℕ) (reading : List ℕ → Option A) (Lacks : List ℕ → Type 0) (fault : MergeFault)
    → ((file : List ℕ) → HasFile state name file → LineStops file fault (reading file)) → ((file : List ℕ) → reading file ≡ None → Lacks file)
    → PartStops state name Lacks (again_fault_of fault)
again_stops state name reading Lacks (merges.BadSave line) h none = (refl, λ file has. none file (h file has))
again_stops state name reading Lacks merges.LongLine h none = (refl, λ file has. none file (h file has))
again_stops state name reading Lacks merges.TooLarge h none = (refl, λ file has. h file has)
again_stops state name reading Lacks merges.NoSave h none = (refl, λ file has. absurd (h file has))
again_stops state name reading Lacks merges.Changed h none = (refl, λ file has. absurd (h file has))
again_stops state name reading Lacks merges.ReadFault h none = refl
again_stops state name reading Lacks merges.WriteFault h none = refl
again_stops state name reading Lacks merges.WantOfMemory h none = tt

pub part_stops : (a b : StoreState) (name : List ℕ) (First Then : List ℕ → Type 0) (fault : RunFault)
    → ((file : List ℕ) → HasFile a name file → HasFile b name file) → ((file : List ℕ) → HasFile a name file → Then file → First file)
    → PartStops b name Then fault → PartStops a name First fault
part_stops a b name First Then WantOfMemory still lacks h = tt
part_stops a b name First Then (ReadFault file) still lacks h = h
part_stops a b name First Then (WriteFault file) still lacks h = h
part_stops a b name First Then (TooLarge file) still lacks h = (h.0, λ bytes has. h.1 bytes (still bytes has))
part_stops a b name First Then (Changed file) still lacks h = (h.0, λ bytes has. lacks bytes has (h.1 bytes (still bytes has)))
part_stops a b name First Then fault still lacks h = absurd h

pub write_fails : (a : StoreState) (name : List ℕ) (Lacks : List ℕ → Type 0) (fault : RunFault) → WritingStops fault → PartStops a name Lacks fault
write_fails a name Lacks WantOfMemory h = tt
write_fails a name Lacks (WriteFault file) h = h
write_fails a name Lacks fault h = absurd h

-- ---- parts that are read and printed

-- all of it was read, and nothing had to be put
pub part_ended : {T E : Type 0} {blames : E → Type 0} {x : T} {a b : StoreState} {name : List ℕ} {part : List ℕ → Text} {begun at : Place}
    {p : Option (List ℕ)} {w : List ℕ} → ReadsOften blames a b (Ok x)
    → ((file : List ℕ) → HasFile a name file → part (left_of begun file) ≡ Some ([], left_of at file))
    → PrintsPart name part (Ok tt) a begun p w b at p w
part_ended {x = x} {a = a} {b = b} {p = p} {w = w} frame is = record {
  all = record { text = []; put = put_none p w; read = is };
  cut = tt;
  frame = frame_read a b x tt frame;
}

-- it can't be read
pub part_refused : {A T : Type 0} {fault : MergeFault} {a b : StoreState} {name : List ℕ} {part : List ℕ → Text} {begun at : Place}
    {p : Option (List ℕ)} {w v : List ℕ} (reading : List ℕ → Option A) → ReadsOften {T = T} IsDeviceFault a b (Err fault)
    → Refuses a name begun reading fault → ((bytes : List ℕ) → reading bytes ≡ None → part bytes ≡ None)
    → PrintsPart name part (Err (again_fault_of fault)) a begun p w b at p v
part_refused {fault = fault} {a = a} {b = b} {name = name} {part = part} {begun = begun} {p = p} {w = w} reading frame refused none = record {
  all = tt;
  cut = record {
    stops = again_stops a name (λ file. reading (left_of begun file)) (λ file. part (left_of begun file) ≡ None) fault refused
        (λ file. none (left_of begun file));
    text = [];
    some = cut_none p w [];
    first = λ file whole rest has is. part_nil whole;
  };
  frame = frame_again a b fault frame;
}

-- the first of it was read
module _ {T E : Type 0} {blames : E → Type 0} {x : T} {a b : StoreState} {name : List ℕ} {part : List ℕ → Text} (rest : List ℕ → Text)
    {begun at : Place} {text : List ℕ} (frame : ReadsOften blames a b (Ok x))
    (is : (file : List ℕ) → HasFile a name file → part (left_of begun file) ≡ with_text text (rest (left_of at file))) where
  -- but not put
  pub part_unput : {p q : Option (List ℕ)} {w v : List ℕ} {fault : RunFault} → PutFails p q w text fault
      → PrintsPart name part (Err fault) a begun p w b at q v
  part_unput {fault = fault} fails = record {
    all = tt;
    cut = record {
      stops = write_fails a name (λ file. part (left_of begun file) ≡ None) fault fails.stops;
      text = text;
      some = fails.some;
      first = λ file whole left has e. first_of text whole left (rest (left_of at file)) (sym (is file has) ∙ e);
    };
    frame = frame_unput a b x fault frame fails.stops;
  }

  -- and put, and then the rest
  pub part_then : {result : Result (Unit {0}) RunFault} {c : StoreState} {next : Place} {p q r : Option (List ℕ)} {w v u : List ℕ}
      → IsPut p q w v text → PrintsPart name rest result b at q v c next r u → PrintsPart name part result a begun p w c next r u
  part_then {result = Ok y} {c = c} {p = p} {q = q} {r = r} {w = w} {v = v} {u = u} put n = record {
    all = record {
      text = text ++ n.all.text;
      put = put_both p q r w v u text n.all.text put n.all.put;
      read = λ file has. is file has ∙ ap (with_text text) (n.all.read file (has_still a b x name file frame has));
    };
    cut = tt;
    frame = often_both IsReadFault a b c x (Ok y) (frame_read a b x x frame) n.frame;
  }
  part_then {result = Err fault} {c = c} {p = p} {q = q} {r = r} {w = w} {v = v} put n = record {
    all = tt;
    cut = record {
      stops = part_stops a b name (λ file. part (left_of begun file) ≡ None) (λ file. rest (left_of at file) ≡ None) fault
          (λ file. has_still a b x name file frame) (λ file has none. is file has ∙ ap (with_text text) none) n.cut.stops;
      text = text ++ n.cut.text;
      some = cut_after p q r w v text n.cut.text put n.cut.some;
      first = λ file whole left has e. first_after text n.cut.text whole left (rest (left_of at file))
          (λ own after. n.cut.first file own after (has_still a b x name file frame has)) (sym (is file has) ∙ e);
    };
    frame = often_both IsReadFault a b c x (Err fault) (frame_read a b x x frame) n.frame;
  }

-- ---- a part after a part

-- the first wasn't printed
pub first_cut : {name : List ℕ} {first : List ℕ → Text} (next : List ℕ → Text) {a b : StoreState} {begun at : Place}
    {p q : Option (List ℕ)} {w v : List ℕ} {fault : RunFault} → PrintsPart name first (Err fault) a begun p w b at q v
    → PrintsPart name (λ bytes. then_text (first bytes) next) (Err fault) a begun p w b at q v
first_cut {name = name} {first = first} next {a = a} {begun = begun} {fault = fault} m = record {
  all = tt;
  cut = record {
    stops = part_stops a a name (λ file. then_text (first (left_of begun file)) next ≡ None) (λ file. first (left_of begun file) ≡ None) fault
        (λ file has. has) (λ file has none. ap (λ (t : Text). then_text t next) none) m.cut.stops;
    text = m.cut.text;
    some = m.cut.some;
    first = λ file whole rest has is.
        let cut = first_then m.cut.text whole rest (first (left_of begun file)) next (λ own after. m.cut.first file own after has) is in
        part_trans m.cut.text cut.0 whole cut.1 cut.2;
  };
  frame = m.frame;
}

-- it was, and so the next decides
pub first_done : {name : List ℕ} {first next : List ℕ → Text} {result : Result (Unit {0}) RunFault} {a b c : StoreState} {begun at end : Place}
    {p q r : Option (List ℕ)} {w v u : List ℕ} → PrintsPart name first (Ok tt) a begun p w b at q v → PrintsPart name next result b at q v c end r u
    → PrintsPart name (λ bytes. then_text (first bytes) next) result a begun p w c end r u
first_done {next = next} m n =
    part_then next m.frame (λ file has. ap (λ (t : Text). then_text t next) (m.all.read file has)) m.all.put n

-- ---- how far the printing of a part has come

-- what is printed of the rest makes up the whole
pub record Prints (name : List ℕ) (whole : List ℕ → Text) (a : StoreState) (begun : Place) (p : Option (List ℕ)) (w : List ℕ) (rest : List ℕ → Text)
    (b : StoreState) (at : Place) (q : Option (List ℕ)) (v : List ℕ) : Type 0 where
  pub makes : {result : Result (Unit {0}) RunFault} {c : StoreState} {end : Place} {r : Option (List ℕ)} {u : List ℕ}
      → PrintsPart name rest result b at q v c end r u → PrintsPart name whole result a begun p w c end r u

-- the line of an object was read, or none is left
pub takes_line : (a : StoreState) (name : List ℕ) (f : FilterValue) (old new : Ahead NetEntry ChangeValue Key) (begun at : Place) (line : List ℕ)
    (given : Option ChangeValue)
    → ((file : List ℕ) → HasFile a name file
    → Gives file (left_of at file) (objects_ahead f old (left_of begun file)) (objects_ahead f new (left_of at file)) (Ok given))
    → IfSome given (λ x. line ≡ line_text x)
    → TakesLine a name (object_lines f old) (object_lines f new) begun at (line ++ 10 ∷ []) (is_some given)
takes_line a name f old new begun at line None given is = λ file has. ap (lines_in object_line) (given file has).0
takes_line a name f old new begun at line (Some x) given is = λ file has.
    lines_first object_line x (objects_ahead f new (left_of at file)) (given file has)
    ∙ ap (λ (l : List ℕ). with_text (l ++ 10 ∷ []) (object_lines f new (left_of at file))) (sym is)

-- ---- a list of counts

pub counts_none : (word : List ℕ) (total : ℕ) (head : Head) (increments : List Counted) (bytes : List ℕ)
    → counts_at word (most_counted head) bytes ≡ None → counts_part word total head increments bytes ≡ None
counts_none word total head increments bytes none =
    ap (λ (o : Option (List Counted × List ℕ)). with_text (numbered_line word total) (lines_in count_line (laid_after added increments o))) none

pub counts_opened : (word : List ℕ) (total : ℕ) (head : Head) (increments : List Counted) (counts : CountsAhead) (bytes rest : List ℕ)
    → counts_ahead counts rest ≡ laid_after added increments (counts_at word (most_counted head) bytes)
    → counts_part word total head increments bytes ≡ with_text (numbered_line word total) (count_lines counts rest)
counts_opened word total head increments counts bytes rest e =
    sym (ap (λ (o : Option (List Counted × List ℕ)). with_text (numbered_line word total) (lines_in count_line o)) e)

-- ---- the end

pub end_none : (bytes : List ℕ) → end_at bytes ≡ None → end_part bytes ≡ None
end_none bytes none = ap (λ (x : Option (Unit {0})). and_then {A = Unit {0}} {B = List ℕ × List ℕ} x (λ e. Some ([], bytes))) none

pub end_is : {bytes : List ℕ} → end_at bytes ≡ Some tt → end_part bytes ≡ Some ([], bytes)
end_is {bytes} is = ap (λ (x : Option (Unit {0})). and_then {A = Unit {0}} {B = List ℕ × List ℕ} x (λ e. Some ([], bytes))) is
