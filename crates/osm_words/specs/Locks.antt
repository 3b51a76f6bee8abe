-- What a run keeps other runs out of.
use Rattle.std.specs.Prelude.{Option, Some, None, if◌then◌else◌}
use Rattle.osm_words.specs.declared.locks.Lock.{Lock}
use Rattle.osm_words.specs.declared.locks.Lock.TheVariants.{Folder, Save}
use Rattle.osm_words.specs.declared.orders.Options.{Options}
use Rattle.osm_words.specs.declared.orders.Order.{Order}
use Rattle.osm_words.specs.declared.orders.Order.TheVariants.{Publish, PublishAs, Begin, Follow}

-- a publication writes in its folder, a beginning and a follower write their save and its journal
abbrev pub lock_of_order : Order → Option Lock
lock_of_order (Publish dir changes now) = Some (Folder dir)
lock_of_order (PublishAs dir changes now sequence) = Some (Folder dir)
lock_of_order (Begin base state save) = Some (Save save)
lock_of_order (Follow dir save) = Some (Save save)
lock_of_order order = None

-- the lock of a run, unless the words say that it takes none
abbrev pub lock_of : Order → Options → Option Lock
lock_of order options = if options.no_lock then None else lock_of_order order
