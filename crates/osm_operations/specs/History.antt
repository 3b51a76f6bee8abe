-- What a history of operations and replies says about the folder and the save. It is read from the
-- history alone, and from no file. A history has its newest pair first.
use Rattle.std.specs.Prelude.{ℕ, zero, suc, ◌+◌, ◌-◌, length, List, [], ◌∷◌, ◌++◌, min, filter}
use Rattle.std.specs.Prelude.{Bool, true, false, ◌&&◌, ◌||◌, ◌==◌, if◌then◌else◌, reverse}
use Rattle.std.specs.Prelude.{Option, Some, None, unwrap_or}
use Rattle.std.specs.List.{zip}
use Rattle.osm_publisher.specs.Published.{PublishedValue, sequence_at, written_of}
use Rattle.osm_follow.specs.Reach.{numbers}
use Rattle.osm_runs.specs.Following.{size_in}
use Rattle.osm_state.specs.declared.paths.Suffix.{Suffix}
use Rattle.osm_state.specs.declared.paths.Suffix.TheVariants.{O5c, Opl, State}
use Rattle.osm_operations.specs.Reported.{applied_in}
use Rattle.osm_operations.specs.Spoiling.{number_before}
use Rattle.osm_operations.specs.declared.operation.Operation.{Operation}
use Rattle.osm_operations.specs.declared.operation.Operation.TheVariants.{Publish, PublishAs}
use Rattle.osm_operations.specs.declared.operation.Operation.TheVariants.{Lose, PutBack}
use Rattle.osm_operations.specs.declared.operation.Reply.{Reply}
use Rattle.osm_operations.specs.declared.operation.Reply.TheVariants.{Published, Followed}
use Rattle.osm_operations.specs.declared.operation.Reply.TheVariants.{FollowedPart, FollowedBefore}
use Rattle.osm_operations.specs.declared.operation.Reply.TheVariants.{Exported, Begun}
use Rattle.osm_operations.specs.declared.operation.Reply.TheVariants.{CutShort, CutOff, Lost}
use Rattle.osm_operations.specs.declared.operation.Reply.TheVariants.{IsBack}

-- an operation and its reply
abbrev pub Pair : Type 0
Pair = Operation × Reply

abbrev pub History : Type 0
History = List Pair

-- the history of a run
abbrev pub history_of : List Operation → List Reply → History
history_of operations replies = reverse (zip operations replies)

-- the sequence that the pair published, if that number is the next one. A publication by number is
-- the first of that number; once more it publishes nothing
abbrev pub published_by : Operation → Reply → ℕ → List PublishedValue
published_by (Publish changes time calls) (Published report) number =
    (record { number = number; changes = changes; time = time }) ∷ []
published_by (PublishAs changes time n calls) (Published report) number =
    if n == number then (record { number = n; changes = changes; time = time }) ∷ [] else []
published_by e r number = []

-- the sequences that were published: each the batch and the time of a publication that was done
abbrev pub published_of : History → List PublishedValue
published_of [] = []
published_of (p ∷ h) = published_of h ++ published_by p.0 p.1 (length (published_of h) + 1)

abbrev pub same_suffix : Suffix → Suffix → Bool
same_suffix O5c O5c = true
same_suffix Opl Opl = true
same_suffix State State = true
same_suffix s t = false

-- whether two files of sequences are the same
abbrev pub same_file : ℕ → Suffix → ℕ → Suffix → Bool
same_file n s k t = n == k && same_suffix s t

-- whether a publication by number, once it is done, wrote the files of that sequence: it is the
-- newest one
abbrev pub wrote : ℕ → ℕ → ℕ → Bool
wrote n newest k = n == k && n == newest

-- whether the file of a sequence is lost after the pair, given the newest number and whether it was
-- lost before. The newest sequence's files come back if they are written again
abbrev pub is_lost_by : Operation → Reply → ℕ → ℕ → Suffix → Bool → Bool
is_lost_by (Lose n s) Lost newest k t before = if same_file n s k t then true else before
is_lost_by (PutBack n s) IsBack newest k t before = if same_file n s k t then false else before
is_lost_by (PublishAs changes time n calls) (Published report) newest k t before =
    if wrote n newest k then false else before
is_lost_by (PublishAs changes time n calls) (CutOff fault s) newest k t before =
    if same_file n s k t then false else before
is_lost_by e r newest k t before = before

-- whether the file of a sequence is lost
abbrev pub is_file_lost : History → ℕ → Suffix → Bool
is_file_lost [] k t = false
is_file_lost (p ∷ h) k t =
    is_lost_by p.0 p.1 (length (published_of h)) k t (is_file_lost h k t)

-- whether a number is lost: its state is, or its changes are in both forms
abbrev pub is_number_lost : History → ℕ → Bool
is_number_lost h k = is_file_lost h k State || (is_file_lost h k O5c && is_file_lost h k Opl)

-- the text of a file of a sequence, as it is written
abbrev pub text_of : Suffix → PublishedValue → List ℕ
text_of O5c p = (written_of p).o5c
text_of Opl p = (written_of p).opl
text_of State p = (written_of p).state

-- what a file holds: nothing if it is lost, else the text
abbrev pub unless_lost : Bool → List ℕ → Option (List ℕ)
unless_lost true text = None
unless_lost false text = Some text

-- what the file of a sequence holds: its text as it is written, unless it is lost
abbrev pub file_of : History → ℕ → Suffix → Option (List ℕ)
file_of h k t = unless_lost (is_file_lost h k t) (text_of t (sequence_at (published_of h) k))

-- of that many numbers after n, how many come before the first that is lost
abbrev pub count_from : (ℕ → Bool) → ℕ → ℕ → ℕ
count_from is_lost n zero = 0
count_from is_lost n (suc most) =
    if is_lost (n + 1) then 0 else suc (count_from is_lost (n + 1) most)

-- how many numbers after n a follower can take: up to the last published one, or to a lost one
abbrev pub count_after : History → ℕ → ℕ
count_after h n = count_from (is_number_lost h) n (length (published_of h) - n)

-- the sum of the sizes of the numbers n + 1 to n + count
abbrev pub sum_from : (ℕ → ℕ) → ℕ → ℕ → ℕ
sum_from size n zero = 0
sum_from size n (suc count) = sum_from size n count + size (n + count + 1)

-- how many bytes the change file of a number has that a follower reads: the o5c file, or if that is
-- lost, the OPL file
abbrev pub change_bytes : History → ℕ → ℕ
change_bytes h k = size_in (file_of h k O5c) (file_of h k Opl)

-- how many bytes those of the numbers n + 1 to n + count have
abbrev pub bytes_after : History → ℕ → ℕ → ℕ
bytes_after h n count = sum_from (change_bytes h) n count

-- what a history says of the save: the number that the follower is at, the base after which its
-- edits are counted, whether a save is there, the number that was exported last, if any was, and if
-- a beginning was cut short after it had written its save, the number at which the journal ends
-- that it hadn't emptied
pub record Standing : Type 0 where
  pub number : ℕ
  pub base : ℕ
  pub is_saved : Bool
  pub exported : Option ℕ
  pub cut : Option ℕ

-- before any operation
abbrev pub standing_first : Standing
standing_first =
    record { number = 0; base = 0; is_saved = false; exported = None; cut = None }

-- the number at which a beginning begins: the one that was exported last; 0 if none was
abbrev pub begins_at : Standing → ℕ
begins_at s = unwrap_or s.exported 0

-- whether a save is there after a run of the follower that took so many numbers: one that takes
-- none writes nothing
abbrev pub saved_after : Bool → ℕ → Bool
saved_after before zero = before
saved_after before (suc count) = true

-- the same after a reply to an operation after that history. A run of the follower adds the
-- numbers that it can take, as many of them as it says, or those before a faulty one; a beginning
-- begins with what was exported last, cut short or not; an export exports the follower's number
abbrev pub standing_after : History → Reply → Standing → Standing
standing_after h (Followed report) s = record {
  number = s.number + count_after h s.number;
  base = s.base;
  is_saved = saved_after s.is_saved (count_after h s.number);
  exported = s.exported;
  cut = None;
}
standing_after h (FollowedPart report count) s = record {
  number = s.number + count;
  base = s.base;
  is_saved = saved_after s.is_saved count;
  exported = s.exported;
  cut = None;
}
standing_after h (FollowedBefore report fault) s = record {
  number = number_before fault;
  base = s.base;
  is_saved = true;
  exported = s.exported;
  cut = None;
}
standing_after h (Begun report) s = record {
  number = begins_at s;
  base = begins_at s;
  is_saved = true;
  exported = s.exported;
  cut = None;
}
standing_after h (CutShort n) s = record {
  number = begins_at s;
  base = begins_at s;
  is_saved = true;
  exported = s.exported;
  cut = Some n;
}
standing_after h (Exported report) s = record {
  number = s.number;
  base = s.base;
  is_saved = s.is_saved;
  exported = Some s.number;
  cut = s.cut;
}
standing_after h r s = s

abbrev pub standing_of : History → Standing
standing_of [] = standing_first
standing_of (p ∷ h) = standing_after h p.1 (standing_of h)

-- the number that the follower is at
abbrev pub number_of : History → ℕ
number_of h = (standing_of h).number

-- the number that it began at; 0 if it never began with what was exported
abbrev pub base_of : History → ℕ
base_of h = (standing_of h).base

-- whether something was saved
abbrev pub is_saved : History → Bool
is_saved h = (standing_of h).is_saved

-- the number at which a journal of another save ends that a beginning has left beside its save, if
-- it was cut short there
abbrev pub cut_of : History → Option ℕ
cut_of h = (standing_of h).cut

-- the number that was exported last
abbrev pub exported_of : History → Option ℕ
exported_of h = (standing_of h).exported

-- the number at which a beginning after the history begins
abbrev pub beginning_of : History → ℕ
beginning_of h = begins_at (standing_of h)

-- the numbers that were reported so far, after one more reply: those of the lines of a follower's
-- report are added, and a beginning begins anew, cut short or not
abbrev pub reported_after : Reply → List ℕ → List ℕ
reported_after (Followed report) so_far = so_far ++ applied_in report.text
reported_after (FollowedPart report count) so_far = so_far ++ applied_in report.text
reported_after (FollowedBefore report fault) so_far = so_far ++ applied_in report.text
reported_after (Begun report) so_far = []
reported_after (CutShort n) so_far = []
reported_after r so_far = so_far

-- the numbers that were reported since the last beginning, in the order of the reports
abbrev pub reported_of : History → List ℕ
reported_of [] = []
reported_of (p ∷ h) = reported_after p.1 (reported_of h)

-- the lost numbers after n, up to the smaller of n + 64 and the last published one, rising
abbrev pub lost_after : History → ℕ → List ℕ
lost_after h n =
    filter (is_number_lost h) (numbers n (min 64 (length (published_of h) - n)))
