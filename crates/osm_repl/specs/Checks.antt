-- What is looked at before a run takes its lock.
use Rattle.std.specs.Prelude.{◌≡◌, ℕ, ◌+◌, ◌<◌, ◌⊎◌, List, ◌∷◌, map, Option, None, Some}
use Rattle.std.specs.Prelude.{if◌then◌else◌}
use Rattle.std.specs.Borrow.{Bor}
use Rattle.osm_model.specs.Filter.{FilterValue, everything}
use Rattle.osm_model.specs.Time.{TimeText}
use Rattle.osm_reading.specs.Sequence.{SpellsSequence}
use Rattle.osm_runs.specs.DataForms.{HasNoDataForm}
use Rattle.osm_runs.specs.DataForms.{HasDataForm}
use Rattle.osm_runs.specs.Filters.{FilterStops, IsAsked}
use Rattle.osm_publishing.specs.Publication.{HasTime}
use Rattle.osm_runs.specs.declared.fault.RunFault.{RunFault}
use Rattle.osm_runs.specs.declared.fault.RunFault.TheVariants.{BadLimit, BadNow, BadSequence}
use Rattle.osm_runs.specs.declared.fault.RunFault.TheVariants.{UnknownForm}
use Rattle.osm_runs.specs.declared.options.Layout.{Layout}
use Rattle.osm_runs.specs.declared.options.Layout.TheVariants.{Json, Lines}
use Rattle.osm_words.specs.declared.orders.Asked.{Asked}
use Rattle.osm_words.specs.declared.orders.Extract.{Extract}
use Rattle.osm_words.specs.declared.orders.Options.{Options}
use Rattle.osm_words.specs.declared.orders.Order.{Order}
use Rattle.osm_words.specs.declared.orders.Order.TheVariants.{Publish, PublishAs, Begin, Follow}
use Rattle.osm_words.specs.declared.orders.Order.TheVariants.{Audit, Changes, Tally}

-- the text is that of no time
abbrev pub HasNoTime : List ℕ → Type 0
HasNoTime now = (time : ℕ) → TimeText now time → ⊥

-- the text is that of a number
abbrev pub HasNumber : List ℕ → Type 0
HasNumber sequence = (number : ℕ) × SpellsSequence sequence number

-- the text is that of no number
abbrev pub HasNoNumber : List ℕ → Type 0
HasNoNumber sequence = (number : ℕ) → SpellsSequence sequence number → ⊥

-- the filter has the kinds of those letters and exactly those keys
abbrev pub IsFilterFor : Extract → FilterValue → Type 0
IsFilterFor extract = IsAsked extract.kinds.now (map (λ key. key.now) extract.keys.items)

-- the filter is the one that the words of `begin`, `follow` and `changes` ask for, and that of all
-- objects for any other command
abbrev pub IsFilterOf : Order → Extract → FilterValue → Type 0
IsFilterOf (Begin base state save) extract given = IsFilterFor extract given
IsFilterOf (Follow dir save) extract given = IsFilterFor extract given
IsFilterOf (Changes dir output from to) extract given = IsFilterFor extract given
IsFilterOf order extract given = given ≡ everything

-- why those letters and keys make no filter
abbrev pub RefusesFilter : Extract → RunFault → Type 0
RefusesFilter extract = FilterStops extract.kinds.now (map (λ key. key.now) extract.keys.items)

-- the same, for a command that takes them
abbrev pub RefusesExtract : Order → Extract → RunFault → Type 0
RefusesExtract (Begin base state save) extract fault = RefusesFilter extract fault
RefusesExtract (Follow dir save) extract fault = RefusesFilter extract fault
RefusesExtract (Changes dir output from to) extract fault = RefusesFilter extract fault
RefusesExtract order extract fault = ⊥

-- the limit that a word asks for, if there is one: a number above 0
abbrev pub IsLimit : Option (Bor (List ℕ)) → Option ℕ → Type 0
IsLimit None limit = limit ≡ None
IsLimit (Some word) None = ⊥
IsLimit (Some word) (Some limit) = SpellsSequence word.now limit × (0 < limit)

-- a word that asks for no limit
abbrev pub RefusesLimit : Option (Bor (List ℕ)) → RunFault → Type 0
RefusesLimit None fault = ⊥
RefusesLimit (Some word) fault =
    (fault ≡ BadLimit) × ((limit : ℕ) → SpellsSequence word.now limit → limit ≡ 0)

-- a limit beside objects or ids, of which there may be none
abbrev pub RefusesChoice : Option ℕ → List (Bor (List ℕ)) → RunFault → Type 0
RefusesChoice (Some limit) (word ∷ words) fault = fault ≡ BadLimit
RefusesChoice limit sought fault = ⊥

-- there is no limit beside objects or ids
abbrev pub IsChoice : Option ℕ → List (Bor (List ℕ)) → Type 0
IsChoice (Some limit) (word ∷ words) = ⊥
IsChoice limit sought = Unit {0}

-- the number that a word says, if there is one
abbrev pub IsNumber : Option (Bor (List ℕ)) → Option ℕ → Type 0
IsNumber None number = number ≡ None
IsNumber (Some word) None = ⊥
IsNumber (Some word) (Some number) = SpellsSequence word.now number

-- there is no word, or it says a number
abbrev pub HasNumberOrNone : Option (Bor (List ℕ)) → Type 0
HasNumberOrNone word = (number : Option ℕ) × IsNumber word number

-- a word that says no number
abbrev pub RefusesNumber : Option (Bor (List ℕ)) → RunFault → Type 0
RefusesNumber None fault = ⊥
RefusesNumber (Some word) fault = (fault ≡ BadSequence) × HasNoNumber word.now

-- which word of a range says no number: the first number is looked at before the last one
abbrev pub RefusesRange : Option (Bor (List ℕ)) → Option (Bor (List ℕ)) → RunFault → Type 0
RefusesRange from to fault =
    RefusesNumber from fault ⊎ (HasNumberOrNone from × RefusesNumber to fault)

-- the layout that the options ask for
abbrev pub layout_for : Options → Layout
layout_for options = if options.json then Json else Lines

-- the words are right, as far as no file is read
abbrev pub AreGoodWords : Order → Type 0
AreGoodWords (Publish dir changes now) = HasTime now.now
AreGoodWords (PublishAs dir changes now sequence) = HasTime now.now × HasNumber sequence.now
AreGoodWords (Begin base state save) = HasDataForm base.now
AreGoodWords (Audit dir from to) = HasNumberOrNone from × HasNumberOrNone to
AreGoodWords (Changes dir output from to) = HasNumber from.now × HasNumber to.now
AreGoodWords (Tally dir from to by) = HasNumber from.now × HasNumber to.now
AreGoodWords order = Unit {0}

-- which word of a publication as a number is wrong: the time is looked at before the number
abbrev pub RefusesNumbered : List ℕ → List ℕ → RunFault → Type 0
RefusesNumbered now sequence fault =
    ((fault ≡ BadNow) × HasNoTime now)
    ⊎ ((fault ≡ BadSequence) × HasTime now × HasNoNumber sequence)

-- which end of a range is no number: the first number is looked at before the last one
abbrev pub RefusesEnds : List ℕ → List ℕ → RunFault → Type 0
RefusesEnds from to fault =
    (fault ≡ BadSequence) × (HasNoNumber from ⊎ (HasNumber from × HasNoNumber to))

-- which word is wrong, kinds and keys apart
abbrev pub RefusesOrder : Order → RunFault → Type 0
RefusesOrder (Publish dir changes now) fault = (fault ≡ BadNow) × HasNoTime now.now
RefusesOrder (PublishAs dir changes now sequence) fault =
    RefusesNumbered now.now sequence.now fault
RefusesOrder (Begin base state save) fault = (fault ≡ UnknownForm) × HasNoDataForm base.now
RefusesOrder (Audit dir from to) fault = RefusesRange from to fault
RefusesOrder (Changes dir output from to) fault = RefusesEnds from.now to.now fault
RefusesOrder (Tally dir from to by) fault = RefusesEnds from.now to.now fault
RefusesOrder order fault = ⊥

-- the limit is none, or it stands beside objects or ids, or another word is wrong
abbrev pub RefusesAfterFilter : Asked → RunFault → Type 0
RefusesAfterFilter asked fault =
    RefusesLimit asked.limit fault
    ⊎ ((limit : Option ℕ) × IsLimit asked.limit limit
    × (RefusesChoice limit asked.sought.items fault ⊎ (IsChoice limit asked.sought.items
    × RefusesOrder asked.order fault)))

-- the words make a filter, and the limit or another one is wrong: the limit is looked at first
pub record RefusesRest (asked : Asked) (fault : RunFault) : Type 0 where
  pub given : FilterValue
  pub makes : IsFilterOf asked.order asked.extract given
  pub refuses : RefusesAfterFilter asked fault

-- which word is wrong: kinds and keys are looked at before all others
abbrev pub RefusesWords : Asked → RunFault → Type 0
RefusesWords asked fault =
    RefusesExtract asked.order asked.extract fault ⊎ RefusesRest asked fault

-- the time is more than a day past that of the clock
pub record IsPast (now : List ℕ) (clock : ℕ) : Type 0 where
  pub time : ℕ
  pub time_is : TimeText now time
  pub past : clock + 86400 < time

-- the order publishes at such a time
abbrev pub IsAhead : Order → ℕ → Type 0
IsAhead (Publish dir changes now) clock = IsPast now.now clock
IsAhead (PublishAs dir changes now sequence) clock = IsPast now.now clock
IsAhead order clock = ⊥
