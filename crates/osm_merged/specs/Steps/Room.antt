-- Counts that have room for their sums.
use Rattle.std.specs.Prelude.{ℕ, ◌≤◌, List, Option, IfSome}
use Rattle.std.specs.List.{AllByRecursion}
use Rattle.osm_mirror.specs.Mirror.{Counted}
use Rattle.osm_merge.specs.Laying.{IsFew}

-- each increment is small, and so are the counts of a save text
pub record HaveRoom (ms : List Counted) (limit : ℕ) (c : Option Counted) : Type 0 where
  pub increments : AllByRecursion IsFew ms
  pub most : limit ≤ 999999999999999999
  pub held : IfSome c (λ d. d.1 ≤ 999999999999999999)
