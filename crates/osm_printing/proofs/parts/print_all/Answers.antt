use Rattle.osm_merge.specs.Mirrors.{end_at}
use Rattle.osm_printing.specs.Steps.Parts.{end_part}
use Rattle.osm_printing.proofs.PartLemmas.{end_is, end_none, first_cut, first_done, part_ended, part_refused}
use Rattle.osm_printing.proofs.parts.print_all.Goals as goal

pub returns-in-Err : goal.returns-in-Err
returns-in-Err g c = record { end = c.print_objects.new.source; part = first_cut _ c.in-Err.ensures }

pub returns-in-Err-print_counts : goal.returns-in-Err-print_counts
returns-in-Err-print_counts g c = record {
  end = c.print_counts.new.source;
  part = first_done c.in-Ok.ensures (first_cut end_part c.in-Err-print_counts.ensures);
}

pub returns-in-Ok-end : goal.returns-in-Ok-end
returns-in-Ok-end g c = record {
  end = c.print_counts.new.source;
  part = first_done c.in-Ok.ensures (first_done c.in-Ok-print_counts.ensures
      (part_ended c.in-Ok-end.ensures.frame (λ file has. end_is (c.in-Ok-end.ensures.read file has))));
}

pub returns-in-Err-end : goal.returns-in-Err-end
returns-in-Err-end g c = record {
  end = c.print_counts.new.source;
  part = rw c.again_fault.ensures (first_done c.in-Ok.ensures (first_done c.in-Ok-print_counts.ensures
      (part_refused end_at c.in-Err-end.ensures.frame c.in-Err-end.ensures.read end_none)));
}
