-- How the word `get` goes from object to object.
use Rattle.std.specs.Prelude.{◌≡◌, ℕ, ◌++◌, ◌∷◌, Bool, true, false, List, [], IsTrue, Option, Some}
use Rattle.std.specs.Io.KnownBytes.{Appends}
use Rattle.std.specs.List.{AllByRecursion, flat_map}
use Rattle.osm_model.specs.Change.{ChangeValue}
use Rattle.osm_model.specs.declared.kind.Key.{Key}
use Rattle.osm_opl.specs.Written.{key_text}
use Rattle.osm_store.specs.Frames.{IsKnown, StoreState}
use Rattle.osm_kept.specs.Names.{journal_name_of}
use Rattle.osm_runs.specs.declared.fault.RunFault.{RunFault}
use Rattle.osm_asking.specs.Getting.{HasNoted, IsAsking, answer_text, form_of, notes_references}
use Rattle.osm_repl.specs.Getting.{Found, GetStops, IsFoundIn, Next, Search}
use Rattle.osm_repl.specs.Getting.{absent_line, asked_of, first_line, keys_of, there_of}
use Rattle.osm_repl.specs.Getting.Next.{Asks, Refuses}
use Rattle.osm_repl.specs.declared.asking.Question.{Question}

-- where the word is: what is seen of the store, the question, what is printed, and the notes on
-- objects that aren't there
pub record At : Type 0 where
  pub state : StoreState
  pub question : Question
  pub printed : Option (List ℕ)
  pub lines : List ℕ

abbrev pub at : StoreState → Question → Option (List ℕ) → List ℕ → At
at state question printed lines =
    record { state = state; question = question; printed = printed; lines = lines }

-- the question is that of the search, over a store whose files are as they were
pub record IsAsked (s : Search) (a : At) : Type 0 where
  pub save : a.question.save.now ≡ s.save
  pub files : a.state.files ≡ s.old.files
  pub known : a.state.is_known ≡ s.old.is_known
  pub asking : IsAsking (IsKnown s.old) (s.old.files s.save)
      (s.old.files (journal_name_of s.save)) a.question.asking
  pub sources : a.question.asking.sources ≡ s.sources
  pub form : form_of a.question.asking ≡ s.form

-- those are answers, which were printed, and it was noted which objects aren't there
pub record Tells (s : Search) (found : List Found) (a : At) (after : Option (List ℕ))
    (lines : List ℕ) : Type 0 where
  pub each : AllByRecursion (IsFoundIn s) found
  pub text : Appends a.printed after (flat_map (λ e. answer_text s.form e.1) found)
  pub lines_are : lines ≡ a.lines ++ flat_map absent_line found

-- the same, and what they refer to is noted if that is wanted
pub record Shows (s : Search) (found : List Found) (a b : At) : Type 0 where
  pub tells : Tells s found a b.printed b.lines
  pub asked : IsAsked s b
  pub refers : notes_references b.question.asking ≡ notes_references a.question.asking
  pub noted : (asked : List Key) (there : List ChangeValue)
      → IsTrue (notes_references a.question.asking) → HasNoted asked there a.question.asking
      → HasNoted (asked_of found asked) (there_of found there) b.question.asking

-- some answers were given, to such keys
pub record HasShown (s : Search) (are : List Key → Type 0) (a b : At) : Type 0 where
  pub found : List Found
  pub keys : are (keys_of found)
  pub shows : Shows s found a b

pub record Shown (are : List Key → Type 0) (a b : At) : Type 0 where
  pub each : (s : Search) → IsAsked s a → HasShown s are a b

-- the same, whatever is noted
pub record HasTold (s : Search) (are : List Key → Type 0) (a b : At) : Type 0 where
  pub found : List Found
  pub keys : are (keys_of found)
  pub tells : Tells s found a b.printed b.lines

pub record Told (are : List Key → Type 0) (a b : At) : Type 0 where
  pub each : (s : Search) → IsAsked s a → HasTold s are a b

-- those are the answers before what comes next, which isn't done
pub record Cuts (s : Search) (found : List Found) (next : Next) (a : At) (after : Option (List ℕ))
    (lines noted : List ℕ) (fault : RunFault) : Type 0 where
  pub between : Option (List ℕ)
  pub tells : Tells s found a between lines
  pub stops : GetStops s next between after noted fault

-- some answers were given before what comes next, of such keys and such a next one
pub record HasCut (s : Search) (comes : List Key → Next → Type 0) (a : At)
    (after : Option (List ℕ)) (lines noted : List ℕ) (fault : RunFault) : Type 0 where
  pub found : List Found
  pub next : Next
  pub keys : comes (keys_of found) next
  pub cuts : Cuts s found next a after lines noted fault

pub record Cut (comes : List Key → Next → Type 0) (a : At) (after : Option (List ℕ))
    (lines noted : List ℕ) (fault : RunFault) : Type 0 where
  pub each : (s : Search) → IsAsked s a → HasCut s comes a after lines noted fault

-- that object is asked for
abbrev pub IsOne : Key → List Key → Type 0
IsOne key keys = keys ≡ key ∷ []

-- that object comes next
abbrev pub IsNext : Key → List Key → Next → Type 0
IsNext key keys next = (keys ≡ []) × (next ≡ Asks key)

-- the line names the object that is asked for
abbrev pub IsNamed : List ℕ → List Key → Type 0
IsNamed line keys = (key : Key) × (keys ≡ key ∷ []) × (first_line line ≡ key_text key)

-- the line names the object that comes next, or is refused
abbrev pub NamesNext : List ℕ → Next → Type 0
NamesNext line (Asks key) = first_line line ≡ key_text key
NamesNext line (Refuses refused) = refused ≡ first_line line
NamesNext line next = ⊥

abbrev pub IsNextNamed : List ℕ → List Key → Next → Type 0
IsNextNamed line keys next = (keys ≡ []) × NamesNext line next

-- what is left of the input: nothing once it was read
abbrev pub input_left : Bool → Option (List ℕ) → Option (List ℕ)
input_left true input = Some []
input_left false input = input
