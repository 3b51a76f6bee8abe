-- What the journal of a save lays over it.
use Rattle.std.specs.Prelude.{◌≡◌, ℕ, List, Option, Some, IfSome}
use Rattle.osm_merge.specs.Lists.{AreFew}
use Rattle.osm_net.specs.Lists.{net_in}
use Rattle.osm_save.specs.Head.{BeginsSave}
use Rattle.osm_save.specs.declared.head.Head.{Head}
use Rattle.osm_kept.specs.declared.laid.Laid.{Laid}

-- the head, if there is one, is what a known save begins with
abbrev pub FitsSave : Type 0 → Option (List ℕ) → Option Head → Type 0
FitsSave known told start =
    IfSome start (λ head. known → (file : List ℕ) → told ≡ Some file → BeginsSave file head)

-- what is laid over a save fits it, and its counts are small enough to be added
pub record IsLaidOn (known : Type 0) (told : Option (List ℕ)) (laid : Laid) : Type 0 where
  pub fits : FitsSave known told laid.start
  pub few : AreFew (net_in laid.lists)
