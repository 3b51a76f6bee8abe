-- What the application of the next sequence answers, and what is left when held ones are applied.
use Rattle.std.specs.Prelude.{◌≡◌, ℕ, ◌+◌, ◌*◌, ◌<◌, ◌≤◌, ◌++◌, Result, Ok, Err, true}
use Rattle.osm_holding.specs.Holding.{HoldingValue}
use Rattle.osm_holding.specs.declared.holding.Held.{Held}
use Rattle.osm_mirror.specs.Mirror.{Applies, IsWithin, MirrorValue, NeedsMemory}
use Rattle.osm_model.specs.Filter.{FilterValue}
use Rattle.osm_model.specs.Limits.{max_changes}
use Rattle.osm_follow.specs.Delivery.{Takes, Breaks}
use Rattle.osm_follow.specs.Follower.{FollowerValue, changes_in, is_in, sequence_in, time_in}
use Rattle.osm_publisher.specs.Published.{PublishedValue}
use Rattle.osm_follow.specs.Reach.{Reaches, between}
use Rattle.osm_follow.specs.declared.delivery.Delivered.{Delivered}
use Rattle.osm_follow.specs.declared.delivery.Delivered.TheVariants.{Applied}
use Rattle.osm_follow.specs.declared.delivery.DeliverError.{DeliverError}
use Rattle.osm_follow.specs.declared.delivery.DeliverError.TheVariants.{Broke}

-- the sequence was applied, or the application stopped part-way
abbrev pub TakeAnswers :
    FollowerValue → PublishedValue → Result Delivered DeliverError → FollowerValue → Type 0
TakeAnswers f p (Ok (Applied low high)) g = (low ≡ p.number) × Takes f p high g
TakeAnswers f p (Err Broke) g = Breaks f p g
TakeAnswers f p answer g = ⊥

-- every count, and the number of users and of changesets, has grown by at most `more`
pub record WidensBy (more : ℕ) (m n : MirrorValue) : Type 0 where
  pub within : (most : ℕ) → IsWithin most m → IsWithin (most + more) n

-- the sequence after the number reached was applied, and after it what the area held without a gap,
-- each leaving what the filter keeps: the new number reached and `last` are the number and the time
-- of the last sequence applied
pub record Drains (f : FilterValue) (m : MirrorValue) (holding : HoldingValue) (first : Held)
    (n : MirrorValue) (left : HoldingValue) (last : ℕ) : Type 0 where
  pub count : ℕ
  pub reached : left.reached ≡ holding.reached + 1 + count
  pub reach : Reaches (is_in holding) (holding.reached + 1) left.reached
  pub applied :
      Applies f m (first.batch ++ between (changes_in holding) (holding.reached + 1) count) n
  pub widened : WidensBy (max_changes * (count + 1)) m n
  pub time : last ≡ time_in holding left.reached first.time
  pub rest : (j : ℕ) → left.reached < j → sequence_in left j ≡ sequence_in holding j

-- a change of the first sequence, or of the next `count`, all of them held, needs a new entry
pub record Stops (f : FilterValue) (m : MirrorValue) (holding : HoldingValue) (first : Held)
    : Type 0 where
  pub count : ℕ
  pub all : (j : ℕ) → holding.reached + 1 < j → j ≤ holding.reached + 1 + count →
      is_in holding j ≡ true
  pub needs :
      NeedsMemory f m (first.batch ++ between (changes_in holding) (holding.reached + 1) count)
