-- Lines of a known file: what a reading of the block gives of the file, and that a long line is none of a save text.
use Rattle.std.proofs.Common.{◌≡◌, ℕ, ◌<◌, ◌≤◌, ◌+◌, List, [], ◌∷◌, ◌++◌, length, take, drop, refl, sym, ap, ◌∙◌, Bool, true, false, Some, None}
use Rattle.std.proofs.Common.{Option, append_assoc, arith, length-append}
use Rattle.std.specs.Prelude.{Err, Ok, decimal, nat_le, if◌then◌else◌}
use Rattle.std.specs.Str.{bytes_eq}
use Rattle.std.proofs.lemmas.Fmt.{length-decimal-le}
use Rattle.osm_blocks.specs.Places.{IsLine, IsLong, Place, left_of, max_line, past}
use Rattle.osm_reading.specs.Pieces.{Lacks, cut_at}
use Rattle.osm_reading.specs.Answers.{and_then}
use Rattle.osm_reading.proofs.PieceLemmas.{cut_takes}
use Rattle.osm_save.specs.Answers.{StopsPlainly}
use Rattle.osm_save.specs.declared.stop.Stop.{Stop}
use Rattle.osm_save.specs.declared.stop.Stop.TheVariants as stops
use Rattle.osm_save.specs.Reading.{after_word, fixed_at, number_at, numbered_at}
use Rattle.osm_save.proofs.LineLemmas.{TakesNumbered, fixed_takes, numbered_takes}
use Rattle.osm_merge.specs.Faults.{IsPlain}
use Rattle.osm_merge.specs.Reading.{FindsNext, LineStops}
use Rattle.osm_merge.specs.declared.fault.MergeFault.{MergeFault}
use Rattle.osm_merge.specs.declared.fault.MergeFault.TheVariants.{BadSave, Changed, LongLine, NoSave, ReadFault, TooLarge, WantOfMemory, WriteFault}

-- ---- long lines

first_feed : (l a line after : List ℕ) → Lacks 10 l → l ++ a ≡ line ++ 10 ∷ after → length l ≤ length line
first_feed [] a line after lacks e = omega arith
first_feed (x ∷ l) a [] after lacks e = absurd (lacks.0 (let same : x ≡ 10 = cc in same))
first_feed (x ∷ l) a (y ∷ line) after lacks e =
    let rest : l ++ a ≡ line ++ 10 ∷ after = cc in
    let h = first_feed l a line after lacks.1 rest in omega (arith, h)

-- what begins with a long line doesn't begin with a short one
pub not_long : (bytes line after : List ℕ) → IsLong bytes → bytes ≡ line ++ 10 ∷ after → length line ≤ max_line → ⊥
not_long bytes line after long e short =
    let most = first_feed long.line long.after line after long.lacks (sym long.parts ∙ e) in
    let over = long.long in
    omega (arith, most, over, short)

pub none_by : {A : Type 0} (r : Option A) → ((x : A) → r ≡ Some x → ⊥) → r ≡ None
none_by None never = refl
none_by (Some x) never = absurd (never x refl)

pub numbered_long : (word : List ℕ) (most : ℕ) (bytes : List ℕ) → length word ≤ 100 → IsLong bytes → numbered_at word most bytes ≡ None
numbered_long word most bytes few long = none_by (numbered_at word most bytes) (λ r e.
    let t : TakesNumbered word most bytes r.0 r.1 = numbered_takes word most bytes r e in
    let small : r.0 < 1000000000000000000 = t.small in
    let digits : length (decimal r.0) ≤ 18 = length-decimal-le 18 r.0 (omega arith) small (omega arith) in
    not_long bytes (word ++ decimal r.0) r.1 long t.text (omega (arith, few, digits, length-append word (decimal r.0))))

pub fixed_long : (text bytes : List ℕ) → length text ≤ 100 → IsLong bytes → fixed_at text bytes ≡ None
fixed_long text bytes few long = none_by (fixed_at text bytes) (λ r e.
    not_long bytes text r long (fixed_takes text bytes r e) (omega (arith, few)))

-- ---- a reading of the block, and of the file

-- what was read, with other bytes after it
abbrev pub with_rest : {A : Type 0} → Option (A × List ℕ) → List ℕ → Option (A × List ℕ)
with_rest None rest = None
with_rest (Some r) rest = Some (r.0, rest)

abbrev pub then_rest : Option (List ℕ) → List ℕ → Option (List ℕ)
then_rest None rest = None
then_rest (Some r) rest = Some rest

pub numbered_same : (word : List ℕ) (most : ℕ) (xs ys line a b : List ℕ) → cut_at 10 xs ≡ Some (line, a) → cut_at 10 ys ≡ Some (line, b)
    → numbered_at word most ys ≡ with_rest (numbered_at word most xs) b
unfolding numbered_at
numbered_same word most xs ys line a b p q = rw (p, q) (by_word (after_word word line))
  where
    by_test : (n : ℕ) (t : Bool) → (if t then Some (n, b) else None) ≡ with_rest (if t then Some (n, a) else None) b
    by_test n true = refl
    by_test n false = refl

    by_number : (o : Option ℕ) → and_then {A = ℕ} {B = ℕ × List ℕ} o (λ n. if nat_le n most then Some (n, b) else None)
        ≡ with_rest (and_then {A = ℕ} {B = ℕ × List ℕ} o (λ n. if nat_le n most then Some (n, a) else None)) b
    by_number None = refl
    by_number (Some n) = by_test n (nat_le n most)

    by_word : (o : Option (List ℕ)) → and_then {A = List ℕ} {B = ℕ × List ℕ} o
        (λ d. and_then {A = ℕ} {B = ℕ × List ℕ} (number_at d) (λ n. if nat_le n most then Some (n, b) else None))
        ≡ with_rest (and_then {A = List ℕ} {B = ℕ × List ℕ} o
        (λ d. and_then {A = ℕ} {B = ℕ × List ℕ} (number_at d) (λ n. if nat_le n most then Some (n, a) else None))) b
    by_word None = refl
    by_word (Some d) = by_number (number_at d)

pub fixed_same : (text xs ys line a b : List ℕ) → cut_at 10 xs ≡ Some (line, a) → cut_at 10 ys ≡ Some (line, b)
    → fixed_at text ys ≡ then_rest (fixed_at text xs) b
unfolding fixed_at
fixed_same text xs ys line a b p q = rw (p, q) (by_test (bytes_eq line text))
  where
    by_test : (t : Bool) → (if t then Some b else None) ≡ then_rest (if t then Some a else None) b
    by_test true = refl
    by_test false = refl

-- ---- faults

-- a reading begins with a line: without an LF, or with a line too long, nothing is read
pub refused_by : {A : Type 0} (file : List ℕ) (old new : Place) (fault : MergeFault) (reading : Option A) → FindsNext file old new (Err fault)
    → (cut_at 10 (left_of old file) ≡ None → reading ≡ None) → (IsLong (left_of old file) → reading ≡ None) → LineStops file fault reading
refused_by file old new (BadSave line) reading found none long = none found
refused_by file old new LongLine reading found none long = long found
refused_by file old new TooLarge reading found none long = found
refused_by file old new NoSave reading found none long = found
refused_by file old new Changed reading found none long = found
refused_by file old new ReadFault reading found none long = tt
refused_by file old new WriteFault reading found none long = tt
refused_by file old new WantOfMemory reading found none long = tt

pub numbered_none : (word : List ℕ) (most : ℕ) (bytes : List ℕ) → cut_at 10 bytes ≡ None → numbered_at word most bytes ≡ None
unfolding numbered_at
numbered_none word most bytes e = rw e refl

pub fixed_none : (text bytes : List ℕ) → cut_at 10 bytes ≡ None → fixed_at text bytes ≡ None
unfolding fixed_at
fixed_none text bytes e = rw e refl

-- what is refused is so whatever is read after it
pub refuses_all : {A B : Type 0} (file : List ℕ) (fault : MergeFault) (r : Option A) (s : Option B) → LineStops file fault r → (r ≡ None → s ≡ None)
    → LineStops file fault s
refuses_all file (BadSave line) r s none f = f none
refuses_all file LongLine r s none f = f none
refuses_all file TooLarge r s none f = none
refuses_all file NoSave r s none f = none
refuses_all file Changed r s none f = none
refuses_all file ReadFault r s none f = tt
refuses_all file WriteFault r s none f = tt
refuses_all file WantOfMemory r s none f = tt

-- the device and memory say nothing of what is read
pub plain_refuses : {A : Type 0} (file : List ℕ) (fault : MergeFault) (r : Option A) → IsPlain fault → LineStops file fault r
plain_refuses file (BadSave line) r plain = absurd plain
plain_refuses file LongLine r plain = absurd plain
plain_refuses file TooLarge r plain = absurd plain
plain_refuses file NoSave r plain = plain
plain_refuses file Changed r plain = plain
plain_refuses file ReadFault r plain = tt
plain_refuses file WriteFault r plain = tt
plain_refuses file WantOfMemory r plain = tt

-- a reading that takes no memory fails only if nothing can be read
pub fails_none : {A : Type 0} (stop : Stop) (r : Option A) → StopsPlainly stop r → r ≡ None
fails_none stops.WantOfMemory r bad = absurd bad
fails_none (stops.Wrong left) r none = none

-- a line that was found and isn't passed: what is left of the file is as before
pub line_still : (file : List ℕ) (old new : Place) (count : ℕ) → IsLine new count → FindsNext file old new (Ok count)
    → left_of new file ≡ left_of old file
line_still file old new count line found =
    let rest : List ℕ = drop (count + 1) new.unread in
    let more : List ℕ = drop new.from file in
    let read : new.unread ≡ take count new.unread ++ 10 ∷ rest = cut_takes 10 new.unread (take count new.unread) rest line.cut in
    let left : left_of old file ≡ take count new.unread ++ 10 ∷ (rest ++ more) =
    cut_takes 10 (left_of old file) (take count new.unread) (left_of (past (count + 1) new) file) found in
    ap (λ (l : List ℕ). l ++ more) read ∙ (append_assoc (take count new.unread) (10 ∷ rest) more ∙ sym left)
