-- A follower that goes on from its save over a folder. `known` says that it is known what the files
-- hold, and a word that ends in `In` takes the state of a store in place of `known` and the files;
-- `given` is the filter that the run was given, and `options` are the filter, the limit and the
-- layout of a run.
use Rattle.std.specs.Prelude.{◌≡◌, ◌≢◌, ℕ, zero, suc, ◌+◌, ◌-◌, ◌<◌, ◌≤◌, ◌⊎◌, ◌↔◌, List}
use Rattle.std.specs.Prelude.{[], length, map, filter, min, Bool, true, false, ◌||◌, ◌&&◌, Option}
use Rattle.std.specs.Prelude.{Some, None, is_none, IfSome, MatchOption, Vec}
use Rattle.osm_model.specs.Batch.{IsBatch}
use Rattle.osm_model.specs.Change.{ChangeValue}
use Rattle.osm_model.specs.Filter.{FilterValue}
use Rattle.osm_model.specs.Limits.{IsPositive, max_file}
use Rattle.osm_mirror.specs.Mirror.{Applies, IsMirrorOf, no_mirror}
use Rattle.osm_save.specs.Save.{SpellsSave}
use Rattle.osm_save.specs.declared.head.Head.{Head}
use Rattle.osm_save.specs.declared.save.Saved.{Saved}
use Rattle.osm_state.specs.State.{StateValue}
use Rattle.osm_state.specs.StateFault.{FaultOf}
use Rattle.osm_state.specs.declared.paths.Suffix.{Suffix}
use Rattle.osm_state.specs.declared.paths.Suffix.TheVariants.{O5c, Opl, State}
use Rattle.osm_publisher.specs.Published.{PublishedValue, changes_after, changes_up_to, sequence_at}
use Rattle.osm_publisher.specs.Published.{time_at}
use Rattle.osm_follow.specs.Reach.{numbers}
use Rattle.osm_store.specs.Files.{Files, IsOver}
use Rattle.osm_store.specs.Frames.{IsKnown, StoreState}
use Rattle.osm_runs.specs.Folder.{IsAbsentOr, IsBadState, IsFile, IsStateFile, IsThere, max_state}
use Rattle.osm_runs.specs.Forms.{IsFaulty}
use Rattle.osm_runs.specs.Names.{file_name_of}
use Rattle.osm_runs.specs.Reports.{ReportValue, report_of}
use Rattle.osm_runs.specs.declared.fault.FileName.TheVariants.{Top, Sequence}
use Rattle.osm_runs.specs.declared.fault.RunFault.{RunFault}
use Rattle.osm_runs.specs.declared.fault.RunFault.TheVariants.{WantOfMemory, ReadFault}
use Rattle.osm_runs.specs.declared.fault.RunFault.TheVariants.{TooLarge, Absent}
use Rattle.osm_runs.specs.declared.fault.RunFault.TheVariants.{BadState, Mismatch, BadChange}
use Rattle.osm_runs.specs.declared.fault.RunFault.TheVariants.{OlderNumber}
use Rattle.osm_runs.specs.declared.form.Form.TheVariants as forms
use Rattle.osm_runs.specs.declared.number.Numbered.{Numbered}
use Rattle.osm_runs.specs.declared.options.FollowOptions.{FollowOptions}
use Rattle.osm_runs.specs.declared.options.Layout.{Layout}
use Rattle.osm_runs.specs.declared.options.Layout.TheVariants.{Lines}
use Rattle.osm_runs.specs.declared.json_line.Standing.{Standing}

-- all that there is, told in lines; an older state is refused
abbrev pub plainly : FilterValue → FollowOptions
plainly given = record { filter = given; limit = None; layout = Lines; any_time = false }

-- the same with that limit
abbrev pub limited : ℕ → FollowOptions → FollowOptions
limited count options = record {
  filter = options.filter;
  limit = Some count;
  layout = options.layout;
  any_time = options.any_time;
}

-- the last number that a run from that number goes to: the top, or as many numbers further on as it
-- may take
abbrev pub last_number : Option ℕ → ℕ → ℕ → ℕ
last_number None number top = top
last_number (Some limit) number top = min top (number + limit)

-- where a follower stands that saved this, beside the folder's top state
abbrev pub standing_of : Saved → StateValue → Standing
standing_of v top = record {
  number = v.number;
  time = v.time;
  base = v.base;
  top = top.sequence;
  top_time = top.time;
}

-- the head of the start
abbrev pub no_head : Head
no_head = record { number = 0; base = 0; time = None }

-- where a follower stands whose save has that head, beside the top state
abbrev pub standing_from : Head → StateValue → Standing
standing_from head top = record {
  number = head.number;
  time = head.time;
  base = head.base;
  top = top.sequence;
  top_time = top.time;
}

-- where one stands beside what was published
abbrev pub standing_at : List PublishedValue → ℕ → ℕ → Standing
standing_at published base number = record {
  number = number;
  time = time_at published number;
  base = base;
  top = length published;
  top_time = (sequence_at published (length published)).time;
}

-- what a follower with that filter goes on from if it saved nothing
abbrev pub no_save : FilterValue → Saved
no_save given = record { number = 0; base = 0; time = None; filter = given; mirror = no_mirror }

-- what a save holds, under whatever filter; no save is the start under the given one
abbrev pub IsSaved : FilterValue → Option (List ℕ) → Saved → Type 0
IsSaved given None v = v ≡ no_save given
IsSaved given (Some bytes) v = SpellsSave bytes v

-- a number is lost if its state isn't there, or its changes in neither form
abbrev pub is_lost : Files → List ℕ → ℕ → Bool
is_lost files dir k =
    is_none (files (file_name_of dir k State))
    || (is_none (files (file_name_of dir k O5c)) && is_none (files (file_name_of dir k Opl)))

-- the changes of a sequence: the o5c file, or if there is none, the OPL file
abbrev pub AreChanges : Option (List ℕ) → Option (List ℕ) → PublishedValue → Type 0
AreChanges (Some bytes) opl p = IsFile O5c p bytes
AreChanges None opl p = IsThere opl (IsFile Opl p)

-- how many bytes the change file that is read has: the o5c file, or if there is none, the OPL file
abbrev pub size_in : Option (List ℕ) → Option (List ℕ) → ℕ
size_in (Some bytes) opl = length bytes
size_in None (Some bytes) = length bytes
size_in None None = 0

abbrev pub size_of : Files → List ℕ → ℕ → ℕ
size_of files dir k = size_in (files (file_name_of dir k O5c)) (files (file_name_of dir k Opl))

-- how many bytes those of the numbers n + 1 to n + count have
abbrev pub bytes_of : Files → List ℕ → ℕ → ℕ → ℕ
bytes_of files dir n zero = 0
bytes_of files dir n (suc count) = bytes_of files dir n count + size_of files dir (n + count + 1)

-- the files of the sequence's number are there: its state and its changes
pub record HasFiles (files : Files) (dir : List ℕ) (p : PublishedValue) : Type 0 where
  pub state : IsThere (files (file_name_of dir p.number State)) (IsFile State p)
  pub changes : AreChanges (files (file_name_of dir p.number O5c))
      (files (file_name_of dir p.number Opl)) p

-- the files of the sequence are there: its state, and its changes in one form at least; neither
-- form holds anything else
pub record AreFilesOf (files : Files) (dir : List ℕ) (p : PublishedValue) : Type 0 where
  pub state : IsThere (files (file_name_of dir p.number State)) (IsFile State p)
  pub o5c : IsAbsentOr (files (file_name_of dir p.number O5c)) (IsFile O5c p)
  pub opl : IsAbsentOr (files (file_name_of dir p.number Opl)) (IsFile Opl p)
  pub found : is_lost files dir p.number ≡ false

-- the files of a number are there and right
abbrev pub IsReadable : Files → List ℕ → ℕ → Type 0
IsReadable files dir k = (p : PublishedValue) × (p.number ≡ k) × HasFiles files dir p

-- a time isn't before that of the number before it, if that number has one
abbrev pub IsOnward : Option ℕ → ℕ → Type 0
IsOnward None time = Unit {0}
IsOnward (Some before) time = before ≤ time

-- it is
abbrev pub IsEarlier : Option ℕ → ℕ → Type 0
IsEarlier None time = ⊥
IsEarlier (Some before) time = time < before

-- the files of a number were read: they are those of a sequence with that time and these changes.
-- `before` is the time of the number before it, if that has one
pub record IsNumber (known : Type 0) (files : Files) (dir : List ℕ) (before : Option ℕ)
    (number time : ℕ) (changes : List ChangeValue) : Type 0 where
  pub limits : IsBatch changes
  pub positive : IsPositive time
  pub onward : IsOnward before time
  pub there : known → HasFiles files dir (record {
    number = number;
    changes = changes;
    time = time;
  })

-- what reading a number in a store gives: its time and its changes, or none if it is lost
abbrev pub FindsNumberIn : StoreState → List ℕ → Option ℕ → ℕ → Option Numbered → Type 0
FindsNumberIn store dir before number o =
    MatchOption o (IsKnown store → is_lost store.files dir number ≡ true)
    (λ a. IsNumber (IsKnown store) store.files dir before number a.time a.changes.items)

-- the next number's changes are applied under the filter, which stays; its time isn't before the
-- one of the number before
pub record Adds (files : Files) (dir : List ℕ) (old new : Saved) : Type 0 where
  pub next : PublishedValue
  pub number_is : next.number ≡ old.number + 1
  pub there : HasFiles files dir next
  pub applied : Applies old.filter old.mirror next.changes new.mirror
  pub number : new.number ≡ next.number
  pub base : new.base ≡ old.base
  pub same_filter : new.filter ≡ old.filter
  pub time : new.time ≡ Some next.time
  pub onward : IsOnward old.time next.time

-- those of that many numbers are applied, one after the other
abbrev pub AddsAll : Files → List ℕ → ℕ → Saved → Saved → Type 0
AddsAll files dir zero old new = new ≡ old
AddsAll files dir (suc count) old new =
    (between : Saved) × AddsAll files dir count old between × Adds files dir between new

-- the numbers n + 1 to n + count, each as a range of its own
abbrev pub ranges : ℕ → ℕ → List (ℕ × ℕ)
ranges n count = map (λ k. (k, k)) (numbers n count)

-- the lost numbers after n, up to the smaller of n + 64 and top, rising
abbrev pub lost_numbers : Files → List ℕ → ℕ → ℕ → List ℕ
lost_numbers files dir n top = filter (is_lost files dir) (numbers n (min 64 (top - n)))

-- a number is the top, or comes before a lost one
abbrev pub IsReached : Files → List ℕ → ℕ → ℕ → Type 0
IsReached files dir number top = (number ≡ top) ⊎ (is_lost files dir (number + 1) ≡ true)

-- how many bytes its change file has
abbrev pub SizesNumberIn : StoreState → List ℕ → ℕ → Option Numbered → Type 0
SizesNumberIn store dir number o =
    IfSome o (λ a. IsKnown store → a.size ≡ size_of store.files dir number)

-- they are the lost numbers after one that was reached
abbrev pub AreLostIn : {Z : Type 0} → StoreState → List ℕ → ℕ → ℕ → Vec ℕ Z → Type 0
AreLostIn store dir reached top missing =
    IsKnown store → IsReached store.files dir reached top
    → missing.items ≡ lost_numbers store.files dir reached top

-- what was reached from the start: the changes of `count` numbers after it are applied, up to the
-- top or to a lost number. Nothing is asked of the files beyond that one
pub record GoesOn (files : Files) (dir : List ℕ) (start : Saved) (top count : ℕ) (reached : Saved) :
    Type 0 where
  pub added : AddsAll files dir count start reached
  pub number : reached.number ≡ start.number + count
  pub until : reached.number ≤ top
  pub far : IsReached files dir reached.number top

-- the last number of a run from that start
abbrev pub end_of : FollowOptions → Saved → StateValue → ℕ
end_of options start top = last_number options.limit start.number top.sequence

-- a report of a follower, with the text of its fault, whatever is known of the files: a number is
-- missing exactly if the one that was reached is below the last one, which the top isn't
pub record IsFollowReport (layout : Layout) (fault : Option (List ℕ)) (report : ReportValue) :
    Type 0 where
  pub start : ℕ
  pub count : ℕ
  pub last : ℕ
  pub missing : List ℕ
  pub time : Option ℕ
  pub base : ℕ
  pub top : StateValue
  pub until : start + count ≤ last
  pub below : last ≤ top.sequence
  pub report_is : report ≡ report_of layout fault (record {
    standing = record {
      number = start + count;
      time = time;
      base = base;
      top = top.sequence;
      top_time = top.time;
    };
    applied = ranges start count;
    missing = missing;
  })
  pub gap : (missing ≡ []) ↔ (start + count ≡ last)

-- the file is there, and holds that top state
abbrev pub IsTopState : Option (List ℕ) → StateValue → Type 0
IsTopState told s = IsThere told (IsStateFile s.sequence s.time)

-- the top state that the file holds, or none if there is no such file
abbrev pub FindsTop : Option (List ℕ) → Option StateValue → Type 0
FindsTop told o = MatchOption o (told ≡ None) (IsTopState told)

-- why a text isn't the top state
abbrev pub TopTextStops : List ℕ → RunFault → Type 0
TopTextStops text (BadState file cause) = (file ≡ Top) × FaultOf text cause
TopTextStops text fault = ⊥

-- why the top state isn't read
abbrev pub TopStateStops : Type 0 → Option (List ℕ) → RunFault → Type 0
TopStateStops known told WantOfMemory = Unit {0}
TopStateStops known told (ReadFault file) = file ≡ Top
TopStateStops known told (Absent file) = (file ≡ Top) × (known → told ≡ None)
TopStateStops known told (TooLarge file) = (file ≡ Top) × (known → IsOver max_state told)
TopStateStops known told (BadState file cause) = (file ≡ Top) × (known → IsBadState told cause)
TopStateStops known told fault = ⊥

-- why one that may be absent isn't read
abbrev pub FindTopStops : Type 0 → Option (List ℕ) → RunFault → Type 0
FindTopStops known told (Absent file) = ⊥
FindTopStops known told fault = TopStateStops known told fault

-- the state of a number is right after a number of that time
abbrev pub HasState : Files → List ℕ → Option ℕ → ℕ → Type 0
HasState files dir before number =
    (time : ℕ) × IsThere (files (file_name_of dir number State)) (IsStateFile number time)
    × IsOnward before time

-- the same in a store
abbrev pub HasStateIn : StoreState → List ℕ → Option ℕ → ℕ → Type 0
HasStateIn store dir before number = IsKnown store → HasState store.files dir before number

-- when a file of a number is read: a change file only if the state is right, and the OPL file only
-- if there is no o5c file
abbrev pub IsBefore : Files → List ℕ → Option ℕ → ℕ → Suffix → Type 0
IsBefore files dir before number State = Unit {0}
IsBefore files dir before number O5c = HasState files dir before number
IsBefore files dir before number Opl =
    HasState files dir before number × (files (file_name_of dir number O5c) ≡ None)

-- the most bytes of a file
abbrev pub limit_of : Suffix → ℕ
limit_of State = max_state
limit_of O5c = max_file
limit_of Opl = max_file

-- the state names another number
abbrev pub NamesOther : Option (List ℕ) → ℕ → Type 0
NamesOther told number =
    (other time : ℕ) × (other ≢ number) × IsThere told (IsStateFile other time)

-- the state is the number's, but its time is before that of the number before it
abbrev pub HasEarlier : Option (List ℕ) → Option ℕ → ℕ → Type 0
HasEarlier told before number =
    (time : ℕ) × IsEarlier before time × IsThere told (IsStateFile number time)

-- why a number isn't taken after a number of that time: its files in their order, each only if it
-- is read
abbrev pub NumberStops :
    Type 0 → List ℕ → Files → Option ℕ → ℕ → RunFault → Type 0
NumberStops known dir files before number WantOfMemory = Unit {0}
NumberStops known dir files before number (ReadFault (Sequence k suffix)) =
    (k ≡ number) × (known → IsBefore files dir before number suffix)
NumberStops known dir files before number (TooLarge (Sequence k suffix)) =
    (k ≡ number) × (known → IsBefore files dir before number suffix
    × IsOver (limit_of suffix) (files (file_name_of dir number suffix)))
NumberStops known dir files before number (BadState (Sequence k State) cause) =
    (k ≡ number) × (known → IsBadState (files (file_name_of dir number State)) cause)
NumberStops known dir files before number (Mismatch k) =
    (k ≡ number) × (known → NamesOther (files (file_name_of dir number State)) number)
NumberStops known dir files before number (OlderNumber k) =
    (k ≡ number) × (known → HasEarlier (files (file_name_of dir number State)) before number)
NumberStops known dir files before number (BadChange (Sequence k O5c) place why) =
    (k ≡ number) × (known → IsBefore files dir before number O5c
    × IsThere (files (file_name_of dir number O5c)) (λ bytes. IsFaulty forms.O5c bytes place))
NumberStops known dir files before number (BadChange (Sequence k Opl) place why) =
    (k ≡ number) × (known → IsBefore files dir before number Opl
    × IsThere (files (file_name_of dir number Opl)) (λ bytes. IsFaulty forms.Opl bytes place))
NumberStops known dir files before number fault = ⊥

-- the same in a store
abbrev pub NumberStopsIn : StoreState → List ℕ → Option ℕ → ℕ → RunFault → Type 0
NumberStopsIn store dir before number =
    NumberStops (IsKnown store) dir store.files before number

-- when a file of a number is looked for: a change file only if the state is there, and the OPL file
-- only if there is no o5c file
abbrev pub IsLookedFor : Files → List ℕ → ℕ → Suffix → Type 0
IsLookedFor files dir number State = Unit {0}
IsLookedFor files dir number O5c = is_none (files (file_name_of dir number State)) ≡ false
IsLookedFor files dir number Opl =
    (is_none (files (file_name_of dir number State)) ≡ false)
    × (files (file_name_of dir number O5c) ≡ None)

-- a number beyond the first lost one
pub record IsBeyond (reached top number : ℕ) : Type 0 where
  pub beyond : reached + 1 < number
  pub within : number ≤ reached + 64
  pub until : number ≤ top

-- why the lost numbers beyond the first aren't named
abbrev pub MissingStops : Type 0 → List ℕ → Files → ℕ → ℕ → RunFault → Type 0
MissingStops known dir files reached top WantOfMemory = Unit {0}
MissingStops known dir files reached top (ReadFault (Sequence number suffix)) =
    IsBeyond reached top number × (known → IsLookedFor files dir number suffix)
MissingStops known dir files reached top fault = ⊥

-- the same in a store
abbrev pub MissingStopsIn : StoreState → List ℕ → ℕ → ℕ → RunFault → Type 0
MissingStopsIn store dir reached top = MissingStops (IsKnown store) dir store.files reached top

-- exactly what the filter keeps of the mirror of published sequences 1 to the number, its time, and
-- the counts of all edits of those after the base
pub record IsInStep (published : List PublishedValue) (given : FilterValue) (v : Saved) :
    Type 0 where
  pub within : v.number ≤ length published
  pub base : v.base ≤ v.number
  pub filter_is : v.filter ≡ given
  pub mirror : IsMirrorOf given (changes_up_to published v.number)
      (changes_after published v.base v.number) v.mirror
  pub time : v.time ≡ time_at published v.number

-- the save is that of the published sequences 1 to that number under the filter, begun at that
-- base; no save is that of 0, begun at 0
pub record IsSaveOf (published : List PublishedValue) (given : FilterValue) (base number : ℕ)
    (told : Option (List ℕ)) : Type 0 where
  pub value : Saved
  pub saved : IsSaved given told value
  pub base_is : value.base ≡ base
  pub number_is : value.number ≡ number
  pub in_step : IsInStep published given value
