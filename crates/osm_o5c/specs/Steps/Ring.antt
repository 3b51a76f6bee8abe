-- The ring of a string table, which is only made when the first string is entered.
use Rattle.std.specs.Prelude.{◌≡◌, List, [], Option, Some, None}
use Rattle.osm_o5c.specs.declared.strings.Entry.{Entry}
use Rattle.circular_buffer.specs.Buffer.{Buffer}

abbrev pub items_of : Option (Buffer Entry) → List Entry
items_of None = []
items_of (Some b) = b.items

abbrev pub IsRing : Option (Buffer Entry) → Type 0
IsRing None = Unit {0}
IsRing (Some b) = b.capacity ≡ 15000
