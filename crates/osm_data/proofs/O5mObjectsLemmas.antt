-- Where a reader of a data file stands, and what it says of the file.
use Rattle.std.proofs.Common.{◌≡◌, ℕ, zero, suc, ◌+◌, ◌-◌, ◌<◌, ◌≤◌, Bool, true, false, List, [], ◌∷◌, ◌++◌, length, get_or, take, drop}
use Rattle.std.proofs.Common.{Option, Some, None, refl, sym, ap, subst, ◌∙◌, append_assoc, arith}
use Rattle.std.specs.Prelude.{◌≢◌, IsTrue, Ok}
use Rattle.std.specs.Str.{bytes_eq}
use Rattle.std.proofs.lemmas.Slice.Eq.{bytes_eq-Decides}
use Rattle.std.proofs.lemmas.List.{append-nil, length-append, length-drop, take-append-drop}
use Rattle.osm_model.specs.Change.{ChangeValue}
use Rattle.osm_model.specs.Data.{IsData}
use Rattle.osm_store.specs.Frames.{StoreState}
use Rattle.osm_blocks.specs.Calls.{SpendsDown}
use Rattle.osm_blocks.specs.Frames.{ReadsOften}
use Rattle.osm_blocks.specs.Places.{HasFile, IsLonger, Place, left_of, past}
use Rattle.osm_o5c.specs.File.{DataFaultPlace, SpellsData, data_beginning}
use Rattle.osm_o5c.specs.Datasets.{Position, Stops, new_reader, position, step}
use Rattle.osm_o5c.proofs.FrontLemmas.{IsReached}
use Rattle.osm_o5c.proofs.PlaceLemmas.{exit_bad, exit_more, exit_ok, unbegun_place}
use Rattle.osm_data.specs.Reading.{IsDeviceFault}
use Rattle.osm_data.specs.LongDatasets.{HasLong}
use Rattle.osm_data.specs.declared.extents.Extent.TheVariants.{Cut, Long, Trailing}
use Rattle.osm_data.specs.declared.o5m_held.Held.{Held}
use Rattle.osm_data.specs.declared.o5m_data.O5mData.{O5mData}
use Rattle.osm_data.specs.Steps.Extents.{extent_at}
use Rattle.osm_data.specs.Steps.O5mObjects.{HasRead, Keeps, ahead_of, calls_of, left_in}
use Rattle.osm_data.specs.Steps.O5mReading.{HasReadTo, begins, reader_in}
use Rattle.osm_data.proofs.ExtentLemmas.{cut_end, long, step_cut, trailing}
use Rattle.osm_data.proofs.O5mReadingLemmas.{reached}

-- ---- places

-- the place where so much is left
pub place_is : (p : Place) (file : List ℕ) (n : ℕ) → n + length p.unread ≡ p.from → p.from ≤ length file
    → length file - length (left_of p file) ≡ n
place_is p file n at within =
    omega (arith, at, within, length-append p.unread (drop p.from file), length-drop p.from file)

first_more : (bytes more : List ℕ) → 0 < length bytes → get_or (bytes ++ more) 0 0 ≡ get_or bytes 0 0
first_more [] more some = absurd (omega (arith, some))
first_more (b ∷ bytes) more some = refl

-- what is left of a file whose end was found
left_ended : (r : O5mData) (file : List ℕ) (done : List ChangeValue) → HasRead r file done → IsTrue r.is_ended → left_in r file ≡ r.reader.unread
left_ended r file done has ended =
    ap (λ (l : List ℕ). r.reader.unread ++ l) (has.ended ended) ∙ append-nil r.reader.unread

read_to_end : (r : O5mData) (file : List ℕ) (done : List ChangeValue) → HasRead r file done → IsTrue r.is_ended
    → IsReached data_beginning IsData file (position (reader_in r.held) done r.reader.unread)
read_to_end r file done has ended =
    subst (λ (l : List ℕ). IsReached data_beginning IsData file (position (reader_in r.held) done l)) (left_ended r file done has ended)
    (reached file (position (reader_in r.held) done (left_in r file)) has.read.reached)

-- the end byte is the last
pub ends_spelled : (r : O5mData) → extent_at r.reader.unread ≡ Cut → IsTrue r.is_ended → get_or r.reader.unread 0 0 ≡ 254
    → (file : List ℕ) (done : List ChangeValue) → HasRead r file done → SpellsData file done
ends_spelled r cut ended first file done has =
    exit_ok data_beginning IsData file (position (reader_in r.held) done r.reader.unread) (read_to_end r file done has ended)
    (cut_end r.reader.unread cut first) first

none_stops : (o : Option Position) → o ≡ None → Stops IsData o
none_stops o none = λ q e right. absurd (never o q none e)
  where
    never : (o : Option Position) (q : Position) → o ≡ None → o ≡ Some q → ⊥
    never o q a b = cc

-- the file ends before its end byte
pub ends_wrong : (r : O5mData) (n : ℕ) → extent_at r.reader.unread ≡ Cut → IsTrue r.is_ended → get_or r.reader.unread 0 0 ≢ 254
    → n + length r.reader.unread ≡ r.reader.from → (file : List ℕ) (done : List ChangeValue) → HasRead r file done → DataFaultPlace file n
ends_wrong r n cut ended other at file done has =
    let p : Position = position (reader_in r.held) done r.reader.unread in
    let bad = exit_bad data_beginning IsData file p (read_to_end r file done has ended)
    (none_stops (step p) (step_cut (reader_in r.held) done r.reader.unread cut)) other in
    let place : length file - length r.reader.unread ≡ n =
    ap (λ (l : List ℕ). length file - length l) (sym (left_ended r file done has ended)) ∙ place_is r.reader file n at has.within in
    subst (λ (m : ℕ). DataFaultPlace file m) place bad

-- bytes follow the end byte
pub trailing_wrong : (r : O5mData) (n : ℕ) → extent_at r.reader.unread ≡ Trailing → n + length r.reader.unread ≡ r.reader.from
    → (file : List ℕ) (done : List ChangeValue) → HasRead r file done → DataFaultPlace file (n + 1)
trailing_wrong r n e at file done has =
    let is = trailing r.reader.unread e in
    let p : Position = position (reader_in r.held) done (left_in r file) in
    let size : 1 < length (left_in r file) = omega (arith, is.long, length-append r.reader.unread (drop r.reader.from file)) in
    let first : get_or (left_in r file) 0 0 ≡ 254 =
    first_more r.reader.unread (drop r.reader.from file) (omega (arith, is.long)) ∙ is.first in
    subst (λ (m : ℕ). DataFaultPlace file (m + 1)) (place_is r.reader file n at has.within)
    (exit_more data_beginning IsData file p (reached file p has.read.reached) size first)

-- a long dataset begins
pub long_there : (r : O5mData) → extent_at r.reader.unread ≡ Long → (file : List ℕ) (done : List ChangeValue) → HasRead r file done → HasLong file
long_there r e file done has =
    let is = long r.reader.unread e in
    let s : IsReached data_beginning IsData file (position (reader_in r.held) done (left_in r file)) =
    reached file (position (reader_in r.held) done (left_in r file)) has.read.reached in
    record {
      prefix = s.prefix;
      context = s.context;
      objects = done;
      kind = is.kind;
      length_bytes = is.length_bytes;
      size = is.size;
      after = is.after ++ drop r.reader.from file;
      is_front = s.is_front;
      has_length = is.low;
      spells = is.spells;
      long = is.long;
      whole =
          s.whole ∙ ap (λ (l : List ℕ). s.prefix ++ (l ++ drop r.reader.from file)) is.parts
          ∙ ap (λ (l : List ℕ). s.prefix ++ (is.kind ∷ l)) (append_assoc is.length_bytes is.after (drop r.reader.from file));
    }

-- ---- filling

-- blocks were read, and the end wasn't found yet
pub record Fills (begun state : StoreState) (name : List ℕ) (old new : O5mData) : Type 0 where
  pub frame : ReadsOften {T = Unit {0}} IsDeviceFault begun state (Ok tt)
  pub stage : state.stage ≡ begun.stage
  pub held : new.held ≡ old.held
  pub ended : new.is_ended ≡ old.is_ended
  pub ahead : ahead_of new ≡ ahead_of old
  pub keeps : (file : List ℕ) → HasFile begun name file → Keeps file old new
  pub calls : (file : List ℕ) → HasFile begun name file → SpendsDown (calls_of old file) (calls_of new file) begun.left state.left

pub keeps_both : (file : List ℕ) (a b c : O5mData) → Keeps file a b → Keeps file b c → Keeps file a c
keeps_both file a b c k l = record { read = λ done h. l.read done (k.read done h); left = l.left ∙ k.left }

pub true_false : (b : Bool) → b ≡ false → IsTrue b → ⊥
true_false b f t = cc

-- one more block
pub keeps_more : (file : List ℕ) (old new : O5mData) → new.held ≡ old.held → new.is_ended ≡ false → left_in new file ≡ left_in old file
    → new.reader.from ≤ length file → Keeps file old new
keeps_more file old new held unended left within = record {
  read = λ done h. record {
    read = rw (held, left) h.read;
    within = within;
    ended = λ yes. absurd (true_false new.is_ended unended yes);
  };
  left = left;
}

pub ahead_more : (old new : Place) → IsLonger old new
    → length new.unread + (18446744073709551615 - new.from) ≡ length old.unread + (18446744073709551615 - old.from)
ahead_more old new g =
    let fits : new.from ≤ 18446744073709551615 = g.fits in
    let from : new.from ≡ old.from + length g.more = g.from in
    omega (arith, fits, from, ap length g.unread, length-append old.unread g.more)

-- ---- the beginning

taken_first : (n most : ℕ) (xs : List ℕ) → n ≤ most → take n (take most xs) ≡ take n xs
taken_first zero most xs h = refl
taken_first (suc n) zero xs h = absurd (omega (arith, h))
taken_first (suc n) (suc most) [] h = refl
taken_first (suc n) (suc most) (x ∷ xs) h = ap (λ (l : List ℕ). x ∷ l) (taken_first n most xs (omega (arith, h)))

-- the file doesn't have the beginning
pub unbegun : (most : ℕ) (file unread : List ℕ) → 7 ≤ most → unread ≡ take most file → bytes_eq (take 7 unread) data_beginning ≡ false
    → DataFaultPlace file 0
unbegun most file unread enough is other =
    unbegun_place data_beginning IsData file
    (ap (λ (l : List ℕ). bytes_eq l data_beginning) (sym (ap (take 7) is ∙ taken_first 7 most file enough)) ∙ other)

-- a reader at the first dataset
pub begun_read : (place : Place) (file : List ℕ) (held : Held) → bytes_eq (take 7 place.unread) data_beginning ≡ true → left_of place file ≡ file
    → reader_in held ≡ new_reader → held.last ≡ None → HasReadTo file [] held (left_of (past 7 place) file)
begun_read place file held so left same none =
    let is : take 7 place.unread ≡ data_beginning = (bytes_eq-Decides (take 7 place.unread) data_beginning).0 so in
    let whole : place.unread ≡ data_beginning ++ drop 7 place.unread =
    sym (take-append-drop 7 place.unread) ∙ ap (λ (l : List ℕ). l ++ drop 7 place.unread) is in
    let parts : file ≡ data_beginning ++ left_of (past 7 place) file = sym left
    ∙ ap (λ (l : List ℕ). l ++ drop place.from file) whole ∙ append_assoc data_beginning (drop 7 place.unread) (drop place.from file) in
    record { reached = rw same (begins (left_of (past 7 place) file) parts); last = none }

pub left_shorter : (place : Place) (file : List ℕ) (n : ℕ) → left_of place file ≡ file → length (left_of (past n place) file) ≤ length file
left_shorter place file n left = omega (
  arith,
  ap length left,
  length-append place.unread (drop place.from file),
  length-append (drop n place.unread) (drop place.from file),
  length-drop n place.unread,
)

pub first_within : (place : Place) (file : List ℕ) → place.from ≡ length place.unread → left_of place file ≡ file → place.from ≤ length file
first_within place file first left = omega (arith, first, ap length left, length-append place.unread (drop place.from file))
