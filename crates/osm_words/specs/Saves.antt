-- The order with another path of its save: that of the file to which a symbolic link leads.
use Rattle.std.specs.Prelude.{ℕ, List}
use Rattle.std.specs.Borrow.{Bor}
use Rattle.osm_words.specs.declared.orders.Order.{Order}
use Rattle.osm_words.specs.declared.orders.Order.TheVariants.{Begin, Counts, Export, Fingerprint}
use Rattle.osm_words.specs.declared.orders.Order.TheVariants.{Follow, Get, Lag, Show}

-- nothing else changes; an order that has no save stays
abbrev pub with_save : Order → Bor (List ℕ) → Order
with_save (Begin base state save) path = Begin base state path
with_save (Follow dir save) path = Follow dir path
with_save (Lag dir save) path = Lag dir path
with_save (Show save) path = Show path
with_save (Export save output) path = Export path output
with_save (Get save referred) path = Get path referred
with_save (Counts save by csv) path = Counts path by csv
with_save (Fingerprint save) path = Fingerprint path
with_save order path = order
