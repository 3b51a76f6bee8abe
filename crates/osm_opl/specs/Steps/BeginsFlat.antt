-- Bytes that begin with what is taken apart of a line. Only clauses of private functions cite these
-- definitions.
use Rattle.std.specs.Prelude.{◌≡◌, ℕ, List, ◌++◌}
use Rattle.osm_model.specs.Filter.{tags_of}
use Rattle.osm_model.specs.declared.change.What.{What}
use Rattle.osm_model.specs.declared.kind.Kind.{Kind}
use Rattle.osm_opl.specs.Flat.{AreFlat, AreFlatTags, IsFlatWhat}
use Rattle.osm_opl.specs.Steps.Begins.{BeginsWith, IsThere}
use Rattle.osm_opl.specs.Written.{what_text}
use Rattle.osm_opl.specs.declared.flat_parts.FlatWhat.{FlatWhat}

-- a mark comes first, then a list that is spelled so, without escapes and within the limits of the
-- list and of one item, and then the rest
pub record BeginsItems {X : Type 0} (mark : List ℕ) (text : X → List ℕ)
    (Limits : List X → Type 0) (One : X → Type 0) (spelled bytes rest : List ℕ) : Type 0 where
  pub items : List X
  pub limits : Limits items
  pub are : AreFlat text One spelled items
  pub parts : bytes ≡ (mark ++ spelled) ++ rest

-- what an object of that kind is comes first, with tags that are spelled so, and then the rest
pub record BeginsFlat (kind : Kind) (tags : List ℕ) (flat : FlatWhat) (bytes rest : List ℕ)
    : Type 0 where
  pub what : What
  pub there : BeginsWith (what_text kind) (IsThere kind) what bytes rest
  pub tagged : AreFlatTags tags (tags_of what)
  pub same : IsFlatWhat flat what
