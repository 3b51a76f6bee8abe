-- Laws of changes that are handed on.
use Rattle.std.specs.Prelude.{◌≡◌, ◌++◌, List, Option}
use Rattle.osm_model.specs.Change.{ChangeValue}
use Rattle.osm_model.specs.Content.{content_of, over}
use Rattle.osm_model.specs.Filter.{FilterValue, everything, kept, left_by}
use Rattle.osm_model.specs.declared.kind.Key.{Key}
use Rattle.osm_mirror.specs.Mirror.{Applies, IsMirrorOf, MirrorValue, object_at}
use Rattle.osm_range.specs.Handed.{ComeTo}

-- laid over any objects by who filters nothing, they leave what the changes leave under the filter
abbrev pub LeaveTheSame : Type 0
LeaveTheSame = (f : FilterValue) (changes handed : List ChangeValue)
    (before : Key → Option ChangeValue) (k : Key) → ComeTo f changes handed
    → over (left_by everything) before handed k ≡ over (left_by f) before changes k

-- applied to a mirror without a filter, they give the objects of the mirror to which the changes
-- are applied under the filter
abbrev pub ApplyTheSame : Type 0
ApplyTheSame = (f : FilterValue) (changes handed : List ChangeValue)
    (old mirror other : MirrorValue)
    → ComeTo f changes handed → Applies f old changes mirror → Applies everything old handed other
    → (k : Key) → object_at other.objects k ≡ object_at mirror.objects k

-- applied without a filter to the mirror of earlier changes under a filter, they give the objects
-- of the mirror of all changes under that filter
abbrev pub KeepMirrorsUp : Type 0
KeepMirrorsUp = (f : FilterValue) (earlier counted changes handed : List ChangeValue)
    (old new : MirrorValue) → IsMirrorOf f earlier counted old → ComeTo f changes handed
    → Applies everything old handed new
    → (k : Key) → object_at new.objects k ≡ kept f (content_of (earlier ++ changes)) k

-- there is one list of changes that changes come to
abbrev pub AreTheOnly : Type 0
AreTheOnly = (f : FilterValue) (changes a b : List ChangeValue)
    → ComeTo f changes a → ComeTo f changes b → a ≡ b
