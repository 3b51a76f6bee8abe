-- How a line that is passed brings the reading of a file further, and why it stops.
use Rattle.std.proofs.Common.{◌≡◌, ℕ, ◌+◌, ◌-◌, ◌<◌, ◌≤◌, Bool, true, false, List, [], ◌∷◌, ◌++◌, length, take, drop}
use Rattle.std.proofs.Common.{Option, Some, None, refl, sym, ap, subst, ◌∙◌, arith, append_assoc, lit<}
use Rattle.std.specs.Prelude.{◌==◌, min}
use Rattle.std.proofs.lemmas.Bool.Decides.{nat_tests}
use Rattle.std.proofs.lemmas.Option.{same_Some}
use Rattle.std.proofs.lemmas.List.{append-nil, length-append, length-drop, length-take}
use Rattle.osm_model.specs.Change.{ChangeValue}
use Rattle.osm_model.specs.Data.{IsData}
use Rattle.osm_model.proofs.DataLemmas.{no_objects}
use Rattle.osm_reading.specs.Lines.{lines_of, without_cr}
use Rattle.osm_reading.specs.Pieces.{cut_at, pieces}
use Rattle.osm_reading.proofs.PieceLemmas.{pieces_whole}
use Rattle.osm_blocks.specs.Places.{IsAllRead, IsLine, Place, Opens, ReadStops, left_of, max_block, past}
use Rattle.osm_blocks.specs.declared.fault.BlockFault.{BlockFault}
use Rattle.osm_blocks.specs.declared.fault.BlockFault.TheVariants as blocks
use Rattle.osm_opl.specs.File.{DataFaultLine, SpellsData, SpellsLines, none, skipped, change}
use Rattle.osm_opl.proofs.FileLaws.{lines_append}
use Rattle.osm_data.specs.Reading.{NextStops, blocks_fault_of}
use Rattle.osm_data.specs.declared.fault.DataFault.{DataFault}
use Rattle.osm_data.specs.declared.fault.DataFault.TheVariants.{Device, WantOfMemory, NoFile, BadData, LongPart, TooLarge}
use Rattle.osm_data.specs.OplReading.{EndsOrStands, HasLongLine, HasPassed, HasRead, Stands, last_key}
use Rattle.osm_data.specs.Steps.OplObjects.{AddStops, Adds, GivesObject, Keeps, LineStops}
use Rattle.osm_data.specs.Steps.OplPassing.{Begins, IsLast, PassesLine, line_of}
use Rattle.osm_data.specs.declared.opl_data.OplData.{OplData}
use Rattle.osm_data.specs.declared.opl_so_far.SoFar.{SoFar}
use Rattle.osm_data.proofs.OplLineLemmas.{LongFirst, after_cut, cut_within, lines_cut, lines_uncut, long_first, taken_length, trimmed, within_file}
use Rattle.osm_data.proofs.OplOrderLemmas.{last_key-push}

-- ---- a line more

-- a line that is skipped, or that spells an object, was passed
pub passes : (file line : List ℕ) (more : List (List ℕ)) (old new : SoFar) (count : ℕ) (done xs ys : List ChangeValue)
    → HasPassed file (line ∷ more) (done ++ xs) old → 0 < count → Adds line count old new xs ys → HasPassed file more (done ++ ys) new
passes file line more old new count done xs ys p some adds = by_object adds.object adds.gives adds.keeps
  where
    further : (objects : List ChangeValue) → SpellsLines (p.before ++ line ∷ []) objects → IsData objects → new.last ≡ last_key objects
        → HasPassed file more objects new
    further objects spelled right last =
        let n : old.lines ≡ length p.before = p.number in
        let l : length (p.before ++ line ∷ []) ≡ length p.before + 1 = length-append p.before (line ∷ []) in
        let lines : new.lines ≡ old.lines + 1 = adds.lines in
        let bytes : new.bytes ≡ old.bytes + count = adds.bytes in
        let few : old.lines ≤ old.bytes = p.few in
        record {
          before = p.before ++ line ∷ [];
          parts = p.parts ∙ sym (append_assoc p.before (line ∷ []) more);
          number = omega (arith, n, l, lines);
          few = omega (arith, lines, bytes, few, some);
          spelled = spelled;
          right = right;
          last = last;
        }

    by_object : (o : Option ChangeValue) → GivesObject line old.last o → Keeps o old.last new.last xs ys → HasPassed file more (done ++ ys) new
    by_object None skip keeps =
        let objects : List ChangeValue = done ++ xs in
        let spelled : SpellsLines (p.before ++ line ∷ []) objects =
        subst (λ (l : List ChangeValue). SpellsLines (p.before ++ line ∷ []) l) (append-nil objects)
        (lines_append p.before (line ∷ []) objects [] p.spelled (skipped line [] [] skip none)) in
        subst (λ (l : List ChangeValue). HasPassed file more (done ++ l) new) (sym keeps.1) (further objects spelled p.right (keeps.0 ∙ p.last))
    by_object (Some c) gives keeps =
        let objects : List ChangeValue = done ++ xs in
        let whole : objects ++ c ∷ [] ≡ done ++ ys =
        append_assoc done xs (c ∷ []) ∙ ap (λ (l : List ChangeValue). done ++ l) (sym keeps.1) in
        let spelled : SpellsLines (p.before ++ line ∷ []) (objects ++ c ∷ []) =
        lines_append p.before (line ∷ []) objects (c ∷ []) p.spelled (change line [] c [] gives.0 gives.1 none) in
        subst (λ (l : List ChangeValue). HasPassed file more l new) whole
        (further (objects ++ c ∷ []) spelled (gives.2 objects p.right p.last) (keeps.0 ∙ sym (last_key-push objects c)))

-- all lines were passed
pub all_passed : (file : List ℕ) (objects : List ChangeValue) (so_far : SoFar) → HasPassed file [] objects so_far → SpellsData file objects
all_passed file objects so_far p =
    let whole : lines_of file ≡ p.before = p.parts ∙ append-nil p.before in
    record { lines = rw whole p.spelled; limits = p.right }

-- ---- the beginning

-- a known file was opened
pub record IsOpened (place : Place) (file : List ℕ) : Type 0 where
  pub unread : place.unread ≡ take max_block file
  pub left : left_of place file ≡ file
  pub empty : (length place.unread == 0) ≡ true → file ≡ []

nothing_taken : (most : ℕ) → 0 < most → (file : List ℕ) → length (take most file) ≡ 0 → file ≡ []
nothing_taken most some [] empty = refl
nothing_taken most some (b ∷ bs) empty =
    let long : length (take most (b ∷ bs)) ≡ min most (length (b ∷ bs)) = length-take most (b ∷ bs) in
    absurd (omega (arith, long, empty, some))

pub opened : (place : Place) (file : List ℕ) → Opens (Some place) (Some file) → IsOpened place file
opened place file opens =
    let same : opens.0 ≡ file = sym (same_Some file opens.0 opens.1) in
    let unread : place.unread ≡ take max_block file = subst (λ (l : List ℕ). place.unread ≡ take max_block l) same opens.2 in
    record {
      unread = unread;
      left = subst (λ (l : List ℕ). left_of place l ≡ l) same opens.3;
      empty = λ is.
          let none : length place.unread ≡ 0 = grind (arith, nat_tests) in
          nothing_taken max_block (lit< tt) file (sym (ap length unread) ∙ none);
    }

-- no line of a file was passed, and an empty one has none
begins_with : (file : List ℕ) (place : Place) (reader : OplData) (t : Bool) → left_of place file ≡ file → (t ≡ true → file ≡ []) → Begins place reader
    → reader.is_ended ≡ t → EndsOrStands t reader file []
unfolding pieces
begins_with file place reader true left empty is e =
    let nothing : file ≡ [] = empty refl in
    rw nothing (record { lines = skipped [] [] [] refl none; limits = no_objects })
begins_with file place reader false left empty is e = record {
  left = rw (is.same, is.bytes) left;
  passed = record {
    before = [];
    parts = rw is.bytes refl;
    number = is.lines;
    few = rw (is.lines, is.bytes) (omega arith);
    spelled = none;
    right = no_objects;
    last = is.last;
  };
}

pub begun : (file : List ℕ) (place : Place) (reader : OplData) → left_of place file ≡ file → ((length place.unread == 0) ≡ true → file ≡ [])
    → Begins place reader → HasRead reader file []
begun file place reader left empty is = record {
  within = rw is.bytes (omega arith);
  reads = subst (λ (t : Bool). EndsOrStands t reader file []) (sym is.ended)
      (begins_with file place reader (length place.unread == 0) left empty is is.ended);
}

-- ---- why a line isn't passed

-- a line is too long, or a fault
line_fault : (file line : List ℕ) (more : List (List ℕ)) (so_far : SoFar) (objects : List ChangeValue) (fault : DataFault)
    → HasPassed file (line ∷ more) objects so_far → LineStops line (so_far.lines + 1) so_far.last fault
    → NextStops DataFaultLine HasLongLine file fault
line_fault file line more so_far objects Device p stop = tt
line_fault file line more so_far objects WantOfMemory p stop = tt
line_fault file line more so_far objects NoFile p stop = stop
line_fault file line more so_far objects TooLarge p stop = absurd stop
line_fault file line more so_far objects LongPart p stop = record {
  before = p.before;
  line = line;
  after = more;
  objects = objects;
  parts = p.parts;
  spelled = p.spelled;
  right = p.right;
  long = stop;
}
line_fault file line more so_far objects (BadData place why) p stop = record {
  before = p.before;
  line = line;
  after = more;
  changes = objects;
  parts = p.parts;
  number = stop.0 ∙ ap (λ (n : ℕ). n + 1) p.number;
  spelled = p.spelled;
  right = p.right;
  counts = stop.1;
  fault = λ c spells next. stop.2 c spells objects p.right p.last next;
}

-- or the file has more bytes than are counted
pub add_fault : (file line : List ℕ) (more : List (List ℕ)) (so_far : SoFar) (count : ℕ) (objects : List ChangeValue) (fault : DataFault)
    → HasPassed file (line ∷ more) objects so_far → 0 < count → so_far.bytes + count ≤ length file → AddStops line count so_far fault
    → NextStops DataFaultLine HasLongLine file fault
add_fault file line more so_far count objects TooLarge p some within stop =
    let high : 18446744073709551615 < so_far.bytes + count = stop p.few in
    omega (arith, high, within)
add_fault file line more so_far count objects Device p some within stop = tt
add_fault file line more so_far count objects WantOfMemory p some within stop = tt
add_fault file line more so_far count objects NoFile p some within stop = stop
add_fault file line more so_far count objects LongPart p some within stop = line_fault file line more so_far objects LongPart p stop
add_fault file line more so_far count objects (BadData place why) p some within stop =
    line_fault file line more so_far objects (BadData place why) p stop

-- a first line that is too long
long_fault : (file : List ℕ) (so_far : SoFar) (objects : List ChangeValue) (left : List ℕ)
    → HasPassed file (lines_of left) objects so_far → LongFirst left → HasLongLine file
long_fault file so_far objects left p is = record {
  before = p.before;
  line = is.line;
  after = is.more;
  objects = objects;
  parts = p.parts ∙ ap (λ (l : List (List ℕ)). p.before ++ l) is.parts;
  spelled = p.spelled;
  right = p.right;
  long = is.long;
}

-- ---- the next line

-- the next line, up to its LF, was passed
pub line_read : (mid new : OplData) (file left : List ℕ) (count : ℕ) (done xs ys : List ChangeValue)
    → mid.is_ended ≡ false → mid.so_far.bytes ≤ length file
    → HasPassed file (lines_of (drop mid.so_far.bytes file)) (done ++ xs) mid.so_far
    → left ≡ drop mid.so_far.bytes file
    → cut_at 10 left ≡ Some (take count mid.reader.unread, left_of (past (count + 1) mid.reader) file)
    → IsLine mid.reader count → PassesLine count mid new xs ys → HasRead new file (done ++ ys)
line_read mid new file left count done xs ys open_still within p same found is passes_line =
    let piece : List ℕ = take count mid.reader.unread in
    let after : List ℕ = left_of (past (count + 1) mid.reader) file in
    let from : ℕ = mid.so_far.bytes in
    let cut : cut_at 10 (drop from file) ≡ Some (piece, after) = rw same at found in
    let long : length piece ≡ count = taken_length count mid.reader.unread is.within in
    let bytes : new.so_far.bytes ≡ from + (count + 1) = passes_line.adds.bytes in
    let few : length piece + 1 ≤ length (drop from file) = cut_within (drop from file) piece after cut in
    let inside : from + (length piece + 1) ≤ length file = within_file file from (length piece + 1) within few in
    let place : from + (length piece + 1) ≡ new.so_far.bytes = omega (arith, long, bytes) in
    let begins : after ≡ drop new.so_far.bytes file = subst (λ (n : ℕ). after ≡ drop n file) place (after_cut file piece after from cut) in
    let lines : lines_of (drop from file) ≡ line_of count mid ∷ lines_of (drop new.so_far.bytes file) =
    subst (λ (l : List ℕ). lines_of (drop from file) ≡ line_of count mid ∷ lines_of l) begins (lines_cut (drop from file) piece after cut) in
    let before : HasPassed file (line_of count mid ∷ lines_of (drop new.so_far.bytes file)) (done ++ xs) mid.so_far =
    subst (λ (l : List (List ℕ)). HasPassed file l (done ++ xs) mid.so_far) lines p in
    let stands : Stands new file (done ++ ys) = record {
      left = ap (λ (r : Place). left_of r file) passes_line.passed ∙ begins;
      passed = passes file (line_of count mid) (lines_of (drop new.so_far.bytes file)) mid.so_far new.so_far (count + 1) done xs ys before
          (omega arith) passes_line.adds;
    } in
    record {
      within = omega (arith, inside, place);
      reads = subst (λ (t : Bool). EndsOrStands t new file (done ++ ys)) (sym (passes_line.open_still ∙ open_still)) stands;
    }

-- and why it isn't
pub line_unread : (mid : OplData) (file left : List ℕ) (count : ℕ) (objects : List ChangeValue) (fault : DataFault)
    → mid.so_far.bytes ≤ length file
    → HasPassed file (lines_of (drop mid.so_far.bytes file)) objects mid.so_far
    → left ≡ drop mid.so_far.bytes file
    → cut_at 10 left ≡ Some (take count mid.reader.unread, left_of (past (count + 1) mid.reader) file)
    → IsLine mid.reader count → AddStops (line_of count mid) (count + 1) mid.so_far fault
    → NextStops DataFaultLine HasLongLine file fault
line_unread mid file left count objects fault within p same found is stop =
    let piece : List ℕ = take count mid.reader.unread in
    let after : List ℕ = left_of (past (count + 1) mid.reader) file in
    let from : ℕ = mid.so_far.bytes in
    let cut : cut_at 10 (drop from file) ≡ Some (piece, after) = rw same at found in
    let long : length piece ≡ count = taken_length count mid.reader.unread is.within in
    let few : length piece + 1 ≤ length (drop from file) = cut_within (drop from file) piece after cut in
    let inside : from + (length piece + 1) ≤ length file = within_file file from (length piece + 1) within few in
    let before : HasPassed file (line_of count mid ∷ lines_of after) objects mid.so_far =
    subst (λ (l : List (List ℕ)). HasPassed file l objects mid.so_far) (lines_cut (drop from file) piece after cut) p in
    add_fault file (line_of count mid) (lines_of after) mid.so_far (count + 1) objects fault before (omega arith) (omega (arith, inside, long)) stop

-- why no line is found
pub unfound : (reader : OplData) (file : List ℕ) (objects : List ChangeValue) (fault : BlockFault) → Stands reader file objects
    → ReadStops file reader.reader fault → NextStops DataFaultLine HasLongLine file (blocks_fault_of fault)
unfound reader file objects blocks.Device s stop = tt
unfound reader file objects blocks.WantOfMemory s stop = tt
unfound reader file objects blocks.TooLarge s stop = stop
unfound reader file objects blocks.LongLine s stop =
    long_fault file reader.so_far objects (drop reader.so_far.bytes file) s.passed
    (subst (λ (l : List ℕ). LongFirst l) s.left (long_first (left_of reader.reader file) stop))

-- ---- what follows the last LF

-- it is unread where no LF was found
pub is_last : (old : OplData) (place : Place) (file : List ℕ) (objects : List ChangeValue) → old.so_far.bytes ≤ length file → Stands old file objects
    → cut_at 10 (left_of old.reader file) ≡ None → IsAllRead file old.reader place
    → IsLast (record { reader = place; so_far = old.so_far; is_ended = old.is_ended }) file objects
is_last old place file objects within s uncut read =
    let whole : place.unread ≡ left_of old.reader file =
    sym (append-nil place.unread) ∙ ap (λ (l : List ℕ). place.unread ++ l) (sym read.ended) ∙ read.same in
    let rest : place.unread ≡ drop old.so_far.bytes file = whole ∙ s.left in
    record {
      within = within;
      rest = rest;
      uncut = subst (λ (l : List ℕ). cut_at 10 l ≡ None) (sym whole) uncut;
      passed = subst (λ (l : List ℕ). HasPassed file (lines_of l) objects old.so_far) (sym rest) s.passed;
    }

-- its only line
pub rest_line : (rest line : List ℕ) (after : List (List ℕ)) → cut_at 10 rest ≡ None → lines_of rest ≡ line ∷ after → line ≡ without_cr rest
rest_line rest line after uncut lines = trimmed rest line after (pieces_whole 10 rest uncut) lines

rest_passed : (reader : OplData) (file : List ℕ) (objects : List ChangeValue) → IsLast reader file objects
    → HasPassed file (without_cr reader.reader.unread ∷ []) objects reader.so_far
rest_passed reader file objects l =
    subst (λ (x : List (List ℕ)). HasPassed file x objects reader.so_far) (lines_uncut reader.reader.unread l.uncut) l.passed

-- an empty one is skipped
pub rest_empty : (reader : OplData) (file : List ℕ) (objects : List ChangeValue) → reader.reader.unread ≡ [] → IsLast reader file objects
    → SpellsData file objects
rest_empty reader file objects empty l =
    let p : HasPassed file ([] ∷ []) objects reader.so_far =
    subst (λ (b : List ℕ). HasPassed file (without_cr b ∷ []) objects reader.so_far) empty (rest_passed reader file objects l) in
    let whole : lines_of file ≡ p.before ++ [] ∷ [] = p.parts in
    let spelled : SpellsLines (p.before ++ [] ∷ []) objects =
    subst (λ (o : List ChangeValue). SpellsLines (p.before ++ [] ∷ []) o) (append-nil objects)
    (lines_append p.before ([] ∷ []) objects [] p.spelled (skipped [] [] [] refl none)) in
    record { lines = rw whole spelled; limits = p.right }

pub record RestRead (file : List ℕ) (new : SoFar) (objects : List ChangeValue) : Type 0 where
  pub within : new.bytes ≤ length file
  pub spelled : SpellsData file objects

rest_within : (reader : OplData) (file : List ℕ) (objects : List ChangeValue) → IsLast reader file objects
    → reader.so_far.bytes + length reader.reader.unread ≤ length file
rest_within reader file objects l =
    let same : length reader.reader.unread ≡ length (drop reader.so_far.bytes file) = ap length l.rest in
    within_file file reader.so_far.bytes (length reader.reader.unread) l.within (omega (arith, same))

pub rest_read : (reader : OplData) (new : SoFar) (file : List ℕ) (done xs ys : List ChangeValue) → 0 < length reader.reader.unread
    → IsLast reader file (done ++ xs) → Adds (without_cr reader.reader.unread) (length reader.reader.unread) reader.so_far new xs ys
    → RestRead file new (done ++ ys)
rest_read reader new file done xs ys some l adds =
    let rest : List ℕ = reader.reader.unread in
    let inside = rest_within reader file (done ++ xs) l in
    let bytes : new.bytes ≡ reader.so_far.bytes + length rest = adds.bytes in
    record {
      within = omega (arith, inside, bytes);
      spelled = all_passed file (done ++ ys) new
          (passes file (without_cr rest) [] reader.so_far new (length rest) done xs ys (rest_passed reader file (done ++ xs) l) some adds);
    }

-- ---- the end

-- a reader that ended has read all of the file
pub ended : (reader : OplData) (file : List ℕ) (done xs : List ChangeValue) → reader.is_ended ≡ true → xs ≡ [] → HasRead reader file (done ++ xs)
    → SpellsData file done
ended reader file done xs is nothing read =
    let all : SpellsData file (done ++ xs) = subst (λ (t : Bool). EndsOrStands t reader file (done ++ xs)) is read.reads in
    subst (λ (l : List ChangeValue). SpellsData file l) (ap (λ (l : List ChangeValue). done ++ l) nothing ∙ append-nil done) all

-- nothing was read at once yet
pub not_yet : (reader : OplData) (file : List ℕ) (done xs : List ChangeValue) → xs ≡ [] → HasRead reader file done → HasRead reader file (done ++ xs)
not_yet reader file done xs nothing read =
    subst (λ (l : List ChangeValue). HasRead reader file l) (sym (ap (λ (l : List ChangeValue). done ++ l) nothing ∙ append-nil done)) read

-- bytes that are passed are no longer left
pub fewer_left : (file : List ℕ) (old mid new : ℕ) → old < mid → mid ≤ new → new ≤ length file → length (drop new file) < length (drop old file)
fewer_left file old mid new more still within =
    let before : length (drop old file) ≡ length file - old = length-drop old file in
    let after : length (drop new file) ≡ length file - new = length-drop new file in
    omega (arith, more, still, within, before, after)
