-- The objects of a save after net changes are data.
use Rattle.std.proofs.Common.{List, [], ◌∷◌, ℕ}
use Rattle.std.specs.List.{AllByRecursion}
use Rattle.osm_model.specs.Change.{ChangeValue, IsChange}
use Rattle.osm_model.specs.Data.{IsData, IsLeft}
use Rattle.osm_mirror.specs.Mirror.{AreRising, IsObject}
use Rattle.osm_net.specs.Laid.{laid_over}
use Rattle.osm_net.specs.Net.{AreKeysRising, HasOwnKey, LeavesObject, NetEntry}
use Rattle.osm_net.proofs.LaidLemmas.{laid_objects, laid_rises}
use Rattle.osm_save.specs.Save.{SpellsSave}
use Rattle.osm_save.specs.declared.save.Saved.{Saved}

pub each_limits : (cs : List ChangeValue) → AllByRecursion IsObject cs → AllByRecursion IsChange cs
each_limits [] all = tt
each_limits (c ∷ cs) all = (all.0.limits, each_limits cs all.1)

pub each_left : (cs : List ChangeValue) → AllByRecursion IsObject cs → AllByRecursion IsLeft cs
each_left [] all = tt
each_left (c ∷ cs) all = (all.0.is_left, each_left cs all.1)

objects_data : (cs : List ChangeValue) → AllByRecursion IsObject cs → AreRising cs → IsData cs
objects_data cs all rising = record { limits = each_limits cs all; left = each_left cs all; rising = rising }

pub laid_data : (es : List NetEntry) (text : List ℕ) (v : Saved) → AreKeysRising es → AllByRecursion HasOwnKey es → AllByRecursion LeavesObject es
    → SpellsSave text v → IsData (laid_over es v.mirror.objects)
laid_data es text v rising own left spelled =
    objects_data (laid_over es v.mirror.objects) (laid_objects es v.mirror.objects own left spelled.savable.mirror.objects)
    (laid_rises es v.mirror.objects rising own spelled.savable.mirror.orderly.objects)
