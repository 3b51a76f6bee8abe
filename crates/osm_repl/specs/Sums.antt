-- What the program does for the words `counts` and `fingerprint`, which read a save and its
-- journal. `old` and `new` are what is seen of the store; `printed` is what was printed before, and
-- `after` what is printed then; `noted` is the id that is noted as refused.
use Rattle.std.specs.Prelude.{◌≡◌, ℕ, ◌<◌, ◌^◌, ◌++◌, ◌∷◌, ◌⊎◌, Bool, true, false, List, [], map}
use Rattle.std.specs.Prelude.{codes, decimal, None, Option, Some, unwrap_or}
use Rattle.std.specs.Borrow.{Bor}
use Rattle.std.specs.Io.KnownBytes.{Appends}
use Rattle.std.specs.List.{AllByRecursion}
use Rattle.osm_store.specs.Frames.{IsKnown, StoreState}
use Rattle.osm_asking.specs.Asking.{FitTogether}
use Rattle.osm_asking.specs.Counts.{GivesCounts, IsReportOfCounts, name_of}
use Rattle.osm_asking.specs.Fingerprint.{HasFingerprint}
use Rattle.osm_asking.specs.Stopping.{SumStops}
use Rattle.osm_asking.specs.declared.choice.By.{By}
use Rattle.osm_asking.specs.declared.choice.By.TheVariants.{User}
use Rattle.osm_asking.specs.declared.choice.Choice.{Choice}
use Rattle.osm_asking.specs.declared.choice.Choice.TheVariants.{All, Ids, Top}
use Rattle.osm_asking.specs.declared.choice.Form.{Form}
use Rattle.osm_asking.specs.declared.choice.Form.TheVariants as forms
use Rattle.osm_kept.specs.Names.{journal_name_of}
use Rattle.osm_runs.specs.Reports.{ReportValue}
use Rattle.osm_runs.specs.Runs.{Blames}
use Rattle.osm_runs.specs.Writing.{WritingFault}
use Rattle.osm_runs.specs.declared.fault.RunFault.{RunFault}
use Rattle.osm_runs.specs.declared.fault.RunFault.TheVariants.{BadColumns, BadId, WantOfMemory}
use Rattle.osm_runs.specs.declared.options.FollowOptions.{FollowOptions}
use Rattle.osm_runs.specs.declared.options.Layout.{Layout}
use Rattle.osm_runs.specs.declared.options.Layout.TheVariants.{Json, Lines}
use Rattle.osm_words.specs.Echo.{echo_of}
use Rattle.osm_words.specs.declared.orders.Order.{Order}
use Rattle.osm_words.specs.declared.orders.Order.TheVariants.{Counts, Fingerprint}

-- the order is the word `counts` or `fingerprint`
abbrev pub IsSum : Order → Type 0
IsSum (Counts save by csv) = Unit {0}
IsSum (Fingerprint save) = Unit {0}
IsSum order = ⊥

-- ---- what the words name

-- the word names what edits are counted by: their users if there is no word
abbrev pub IsColumn : Option (Bor (List ℕ)) → By → Type 0
IsColumn None by = by ≡ User
IsColumn (Some word) by = word.now ≡ name_of by

-- the word names nothing to count by
abbrev pub RefusesColumn : Option (Bor (List ℕ)) → RunFault → Type 0
RefusesColumn word fault = (fault ≡ BadColumns) × ((by : By) → IsColumn word by → ⊥)

-- the word is the id of a user or of a changeset, a number of 32 bits without leading zeros
abbrev pub NamesId : List ℕ → Type 0
NamesId word = (id : ℕ) × (id < 2 ^ 32) × (word ≡ decimal id)

-- the words are those ids
pub record AreIds (words : List (Bor (List ℕ))) (ids : List ℕ) : Type 0 where
  pub same : map (λ word. word.now) words ≡ map decimal ids
  pub each : AllByRecursion (λ word. NamesId word.now) words

-- a word names nothing, all before it are good, and it is noted as it is shown
pub record IsFirstRefused (is_good names : List ℕ → Type 0) (words : List (Bor (List ℕ)))
    (noted : List ℕ) : Type 0 where
  pub before : List (Bor (List ℕ))
  pub word : Bor (List ℕ)
  pub after : List (Bor (List ℕ))
  pub parts : words ≡ before ++ word ∷ after
  pub good : AllByRecursion (λ each. is_good each.now) before
  pub bad : names word.now → ⊥
  pub noted_is : noted ≡ echo_of word.now

-- why the words give no ids
abbrev pub RefusesIds : List (Bor (List ℕ)) → List ℕ → RunFault → Type 0
RefusesIds words noted fault =
    ((fault ≡ BadId) × IsFirstRefused NamesId NamesId words noted)
    ⊎ ((fault ≡ WantOfMemory) × (noted ≡ []))

-- the largest counts if there is a limit, otherwise those of the ids, and all if there are no ids
abbrev pub IsChoiceFor : Option ℕ → List ℕ → Choice → Type 0
IsChoiceFor limit ids (Top most) = limit ≡ Some most
IsChoiceFor limit ids (Ids given) = (limit ≡ None) × (ids ≡ given.now) × (ids ≡ [] → ⊥)
IsChoiceFor limit ids All = (limit ≡ None) × (ids ≡ [])

-- the form that the words ask for: JSON goes before CSV
abbrev pub counts_form : Bool → Layout → Form
counts_form csv Json = forms.Json
counts_form true Lines = forms.Csv
counts_form false Lines = forms.Lines

-- ---- what is given

-- the report has the counts that the words ask for, of what a save and its journal keep, which fit
-- together
pub record GivesAsked (options : FollowOptions) (by : Option (Bor (List ℕ))) (csv : Bool)
    (words : List (Bor (List ℕ))) (told journal : Option (List ℕ)) (known : Type 0)
    (report : ReportValue) : Type 0 where
  pub column : By
  pub column_is : IsColumn by column
  pub ids : List ℕ
  pub ids_are : AreIds words ids
  pub choice : Choice
  pub choice_is : IsChoiceFor options.limit ids choice
  pub written : IsReportOfCounts column choice (counts_form csv options.layout) report
  pub fits : known → FitTogether told journal
  pub gives : known
      → GivesCounts column choice (counts_form csv options.layout) told journal report

-- the report of the order, of what its save and the journal keep
abbrev pub Sums : FollowOptions → Order → List (Bor (List ℕ)) → StoreState → ReportValue → Type 0
Sums options (Counts save by csv) words old report =
    GivesAsked options by csv words (old.files save.now) (old.files (journal_name_of save.now))
    (IsKnown old) report
Sums options (Fingerprint save) words old report = (report.status ≡ 0) × (IsKnown old
    → HasFingerprint (unwrap_or options.limit 0) (old.files save.now)
    (old.files (journal_name_of save.now)) report)
Sums options order words old report = ⊥

-- why there is none: a word names nothing to count by, or is no id, or the files are refused, in
-- this order
abbrev pub StopsSum : Order → List (Bor (List ℕ)) → StoreState → List ℕ → RunFault → Type 0
StopsSum (Counts save by csv) words old noted fault =
    (RefusesColumn by fault × (noted ≡ [])) ⊎ (((column : By) × IsColumn by column)
    × (RefusesIds words noted fault ⊎ (((ids : List ℕ) × AreIds words ids) × (noted ≡ [])
    × SumStops (IsKnown old) save.now old.files fault)))
StopsSum (Fingerprint save) words old noted fault =
    (noted ≡ []) × SumStops (IsKnown old) save.now old.files fault
StopsSum order words old noted fault = ⊥

-- the report was printed, and its status is the program's
pub record IsSummed (options : FollowOptions) (order : Order) (words : List (Bor (List ℕ)))
    (old : StoreState) (printed after : Option (List ℕ)) (status : ℕ) : Type 0 where
  pub report : ReportValue
  pub sums : Sums options order words old report
  pub all : Appends printed after report.text
  pub status_is : status ≡ report.status

-- nothing was printed
pub record IsSumStopped (order : Order) (words : List (Bor (List ℕ))) (old new : StoreState)
    (noted : List ℕ) (fault : RunFault) : Type 0 where
  pub stops : StopsSum order words old noted fault
  pub device : Blames old.failures new.failures fault

-- standard output didn't take all of the report
pub record IsSumCut (options : FollowOptions) (order : Order) (words : List (Bor (List ℕ)))
    (old : StoreState) (printed after : Option (List ℕ)) (fault : RunFault) : Type 0 where
  pub report : ReportValue
  pub sums : Sums options order words old report
  pub cut : WritingFault printed after report.text fault

-- why the order isn't done
abbrev pub IsNotSummed : FollowOptions → Order → List (Bor (List ℕ)) → StoreState → StoreState
    → Option (List ℕ) → Option (List ℕ) → List ℕ → RunFault → Type 0
IsNotSummed options order words old new printed after noted fault =
    (IsSumStopped order words old new noted fault × (after ≡ printed))
    ⊎ ((noted ≡ []) × IsSumCut options order words old printed after fault)
