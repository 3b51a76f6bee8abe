use Rattle.std.proofs.Common.{◌++◌, ◌∷◌, []}
use Rattle.osm_mirror.specs.Mirror.{AreRising}
use Rattle.osm_mirror.specs.Entries.{objects_of}
use Rattle.osm_mirror.proofs.EntryLemmas.{object_last}
use Rattle.osm_mirror.proofs.objects.Objects.push.Goals as goal

pub returns-clause-pushed : goal.returns-clause-pushed
returns-clause-pushed c =
    let rising : AreRising (objects_of c.self.inside.objects.entries ++ c.args.change ∷ []) = rw c.self.view_is c.requires.rising in
    rw (c.in_ok-enter.ensures.inserted, ← c.self.view_is) (object_last c.self.inside.objects.entries c.args.change c.self.invariant rising)
