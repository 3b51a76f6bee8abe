use Rattle.std.proofs.Common.{Some, refl, sym}
use Rattle.osm_save.specs.Reading.{IsKeyOf, object_of}
use Rattle.osm_merge.specs.Laying.{IsSpelled}
use Rattle.osm_merge.proofs.ObjectLemmas.{key_spelled}
use Rattle.osm_asking.proofs.SavedObjectsLemmas.{lines_go_on}
use Rattle.osm_asking.proofs.object_lines.LinesLineTaker.take.Goals as goal

pub returns : goal.returns
returns c =
    let read : IsKeyOf c.args.filter.now c.args.last c.args.line.now (Some c.in-Some.key) = rw c.in-Some.is at c.in_ok-key.ensures in
    let spelled : IsSpelled c.in-Some.key c.args.line.now = key_spelled c.args.filter.now c.args.last c.args.line.now c.in-Some.key read in (
      object_of c.args.line.now,
      read.read,
      sym spelled.named,
      c.if-not-is_below.ensures refl,
      λ objects.
          lines_go_on c.args.self.now.out.items c.add_line.new.out.items c.args.line.now (object_of c.args.line.now) objects spelled.text
          c.in_ok-add_line.ensures,
    )
