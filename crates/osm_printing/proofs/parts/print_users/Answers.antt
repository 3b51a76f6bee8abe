use Rattle.std.specs.Prelude.{codes}
use Rattle.osm_save.specs.Head.{most_counted}
use Rattle.osm_save.specs.Reading.{counts_at}
use Rattle.osm_printing.specs.Steps.Parts.{count_lines}
use Rattle.osm_printing.proofs.PartLemmas.{counts_none, counts_opened, part_refused, part_then, part_unput}
use Rattle.osm_printing.proofs.parts.print_users.Goals as goal

pub returns-in-Err : goal.returns-in-Err
returns-in-Err g c =
    let head = c.args.listing.now.opening.now.head in
    rw c.again_fault.ensures (part_refused (counts_at (codes "users ") (most_counted head)) c.in-Err.ensures.frame c.in-Err.ensures.refused
    (counts_none _ _ head _))

pub returns-in-Err-put_numbered : goal.returns-in-Err-put_numbered
returns-in-Err-put_numbered g c =
    let opened = rw c.as_slice-users.ensures.value at c.in-Ok.ensures.opened in
    part_unput (count_lines c.in-Ok.counts) c.in-Ok.ensures.frame
    (λ file has. counts_opened _ _ c.args.listing.now.opening.now.head _ _ _ _ (opened file has)) c.in-Err-put_numbered.ensures.fails

pub returns : goal.returns
returns g c =
    let opened = rw c.as_slice-users.ensures.value at c.in-Ok.ensures.opened in
    part_then _ c.in-Ok.ensures.frame (λ file has. counts_opened _ _ c.args.listing.now.opening.now.head _ _ _ _ (opened file has))
    c.in-Ok-put_numbered.ensures.put c.print_count_lines.ensures
