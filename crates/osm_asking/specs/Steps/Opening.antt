-- What the first bytes of a save begin with.
use Rattle.std.specs.Prelude.{◌≡◌, ℕ, ◌-◌, List, codes, length, Option, Some, None}
use Rattle.osm_reading.specs.Answers.{and_then}
use Rattle.osm_save.specs.Reading.{head_at, numbered_at}
use Rattle.osm_save.specs.Save.{most_objects}
use Rattle.osm_asking.specs.declared.fault.SearchFault.{SearchFault}
use Rattle.osm_asking.specs.declared.fault.SearchFault.TheVariants.{BadHead, WantOfMemory}
use Rattle.osm_asking.specs.declared.opening.Opened.{Opened}

-- what a save begins with, and the bytes after it
unfoldable pub opening_at : List ℕ → Option (Opened × List ℕ)
opening_at bytes =
    and_then (head_at bytes) (λ h.
    and_then (numbered_at (codes "objects ") (most_objects h.0 h.1.number) h.3) (λ o.
    Some (
      record {
        head = h.1;
        filter = h.2;
        objects = o.0;
        place = length bytes - length o.1;
      },
      o.1,
    )))

-- the bytes begin with that
pub record OpensAt (bytes : List ℕ) (opened : Opened) : Type 0 where
  pub rest : List ℕ
  pub read : opening_at bytes ≡ Some (opened, rest)

-- why bytes don't begin as a save does
abbrev pub OpeningStops : List ℕ → SearchFault → Type 0
OpeningStops bytes (BadHead line) = opening_at bytes ≡ None
OpeningStops bytes WantOfMemory = Unit {0}
OpeningStops bytes fault = ⊥
