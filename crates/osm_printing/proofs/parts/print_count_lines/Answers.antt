use Rattle.std.proofs.Common.{ap}
use Rattle.osm_merged.specs.Ahead.{counts_ahead}
use Rattle.osm_reading.specs.NumberLines.{count_line}
use Rattle.osm_printing.specs.Steps.Parts.{count_lines, lines_in}
use Rattle.osm_printing.proofs.PartLemmas.{lines_first, part_ended, part_refused, part_then, part_unput}
use Rattle.osm_printing.proofs.parts.print_count_lines.Goals as goal

pub returns-in-Ok-None : goal.returns-in-Ok-None
returns-in-Ok-None g c =
    let given = rw c.in-Ok-None.field-0-is at c.in-Ok-None.ensures.given in
    c.counts.invariant.makes (part_ended c.in-Ok-None.ensures.frame (λ file has. ap (lines_in count_line) (given file has).0))

pub returns-in-Err : goal.returns-in-Err
returns-in-Err g c = rw c.again_fault.ensures
    (c.counts.invariant.makes (part_refused (counts_ahead c.counts.counts) c.in-Err.ensures.frame c.in-Err.ensures.given
    (λ bytes none. ap (lines_in count_line) none)))

pub counts-preserved : goal.counts-preserved
counts-preserved g c =
    let given = rw c.in-Ok-Some.field-0-is at c.in-Ok-Some.ensures.given in record {
      makes = λ k. c.counts.invariant.makes (part_then _ c.in-Ok-Some.ensures.frame
          (λ file has. lines_first count_line c.in-Ok-Some.count _ (given file has)) c.in-Ok.ensures.put k);
    }

pub returns-in-Err-put_count : goal.returns-in-Err-put_count
returns-in-Err-put_count g c =
    let given = rw c.in-Ok-Some.field-0-is at c.in-Ok-Some.ensures.given in
    c.counts.invariant.makes (part_unput (count_lines c.next.new.self) c.in-Ok-Some.ensures.frame
    (λ file has. lines_first count_line c.in-Ok-Some.count _ (given file has)) c.in-Err-put_count.ensures.fails)
