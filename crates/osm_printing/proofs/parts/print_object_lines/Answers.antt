use Rattle.std.proofs.Common.{ap}
use Rattle.osm_merged.specs.Ahead.{objects_ahead}
use Rattle.osm_save.specs.Shown.{object_line}
use Rattle.osm_printing.specs.Steps.Parts.{lines_in, object_lines}
use Rattle.osm_printing.proofs.PartLemmas.{part_ended, part_refused, part_then, part_unput}
use Rattle.osm_printing.proofs.parts.print_object_lines.Goals as goal

pub returns-in-Ok-false : goal.returns-in-Ok-false
returns-in-Ok-false g c =
    c.objects.invariant.makes (part_ended c.in-Ok-false.ensures.frame (rw c.in-Ok-false.field-0-test at c.in-Ok-false.ensures.taken))

pub returns-in-Err : goal.returns-in-Err
returns-in-Err g c = rw c.again_fault.ensures
    (c.objects.invariant.makes (part_refused (objects_ahead c.args.listing.now.opening.now.filter c.objects.objects) c.in-Err.ensures.frame
    c.in-Err.ensures.refused (λ bytes none. ap (lines_in object_line) none)))

pub objects-preserved : goal.objects-preserved
objects-preserved g c = record {
  makes = λ k. c.objects.invariant.makes (part_then _ c.in-Ok-true.ensures.frame (rw c.in-Ok-true.field-0-test at c.in-Ok-true.ensures.taken)
      (rw c.as_slice.ensures.value at c.in-Ok.ensures.put) k);
}

pub returns-in-Err-put_line : goal.returns-in-Err-put_line
returns-in-Err-put_line g c =
    c.objects.invariant.makes (part_unput (object_lines c.args.listing.now.opening.now.filter c.next_line.new.objects) c.in-Ok-true.ensures.frame
    (rw c.in-Ok-true.field-0-test at c.in-Ok-true.ensures.taken) (rw c.as_slice.ensures.value at c.in-Err-put_line.ensures.fails))
