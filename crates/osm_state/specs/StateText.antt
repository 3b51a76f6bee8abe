-- State texts: the two keys of `state.txt` that are read and written (OSM wiki, Planet.osm/diffs).
use Rattle.std.specs.Prelude.{◌≡◌, ℕ, ◌==◌, List, [], ◌∷◌, ◌++◌, codes, decimal, Some}
use Rattle.std.specs.Prelude.{if◌then◌else◌}
use Rattle.osm_model.specs.Time.{TimeText}
use Rattle.osm_model.specs.CivilTime.{time_text}
use Rattle.osm_reading.specs.Sequence.{SpellsSequence}
use Rattle.osm_state.specs.State.{StateValue, IsState}
use Rattle.osm_state.specs.Properties.{value_of, unescaped}

-- the key of the sequence number
abbrev pub sequence_key : List ℕ
sequence_key = codes "sequenceNumber"

-- the key of the time
abbrev pub time_key : List ℕ
time_key = codes "timestamp"

-- without its escapes the value is the text of the number
pub record StandsForNumber (IsText : List ℕ → ℕ → Type 0) (value : List ℕ) (n : ℕ) : Type 0 where
  pub plain : List ℕ
  pub stands_for : unescaped value ≡ Some plain
  pub number : IsText plain n

-- the text gives the key a value for which this holds
pub record HasValue (text key : List ℕ) (IsTrueOf : List ℕ → Type 0) : Type 0 where
  pub value : List ℕ
  pub found : value_of text key ≡ Some value
  pub is_true : IsTrueOf value

-- the text names the sequence number
abbrev pub SequenceOf : List ℕ → ℕ → Type 0
SequenceOf text n = HasValue text sequence_key (λ value. StandsForNumber SpellsSequence value n)

-- the text names the time
abbrev pub TimeOf : List ℕ → ℕ → Type 0
TimeOf text t = HasValue text time_key (λ value. StandsForNumber TimeText value t)

-- the text names the sequence number and the time of the state
pub record StateOf (text : List ℕ) (s : StateValue) : Type 0 where
  pub sequence : SequenceOf text s.sequence
  pub time : TimeOf text s.time
  pub limits : IsState s

-- each colon with a backslash before it, as Java writes it
abbrev pub escaped_colons : List ℕ → List ℕ
escaped_colons [] = []
escaped_colons (b ∷ bs) = if b == 58 then 92 ∷ 58 ∷ escaped_colons bs else b ∷ escaped_colons bs

-- sequenceNumber=N LF timestamp=YYYY-MM-DDTHH\:MM\:SSZ LF
unfoldable pub state_text : StateValue → List ℕ
state_text s =
    codes "sequenceNumber=" ++ decimal s.sequence ++ codes "\ntimestamp="
    ++ escaped_colons (time_text s.time) ++ codes "\n"
