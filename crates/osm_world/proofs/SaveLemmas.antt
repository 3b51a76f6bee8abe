-- What was saved last can be begun again with.
use Rattle.std.proofs.Common.{◌≡◌, ℕ, List, ap, sym, ◌∙◌, Option, Some, None}
use Rattle.std.specs.Prelude.{Err, IfSome, Ok}
use Rattle.osm_model.specs.Filter.{FilterValue}
use Rattle.osm_follow.specs.Follower.{FollowerValue}
use Rattle.osm_follow.specs.Restart.{Restarts}
use Rattle.osm_follow.specs.declared.restart.RestartError.TheVariants.{BadSave, OtherFilter}
use Rattle.osm_save.specs.declared.save.Saved.{Saved}
use Rattle.osm_world.specs.Steps.Archive.{IsSaveUnder}
use Rattle.osm_world.proofs.StepLemmas.{OneSave}

-- it is never refused as a bad save
pub no_bad : (text : Option (List ℕ)) (f g : FollowerValue) (line : ℕ) → IfSome text (IsSaveUnder f.filter)
    → Restarts f text (Err (BadSave line)) g → ⊥
no_bad None f g line is t = t
no_bad (Some text) f g line is t = t.0 is.0 is.1

-- nor as that of another filter
pub no_other : OneSave → (text : Option (List ℕ)) (f g : FollowerValue) → IfSome text (IsSaveUnder f.filter)
    → Restarts f text (Err OtherFilter) g → ⊥
no_other one None f g is t = t
no_other one (Some text) f g is t =
    let same : t.0 ≡ is.0 = one text t.0 is.0 t.1 is.1 in t.2 (ap (λ (v : Saved). v.filter) same ∙ is.2)
