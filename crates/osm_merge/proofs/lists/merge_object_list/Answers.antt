use Rattle.std.proofs.Common.{arith}
use Rattle.std.specs.Prelude.{codes}
use Rattle.osm_net.specs.Laid.{laid_over}
use Rattle.osm_net.specs.Lists.{net_in}
use Rattle.osm_opl.specs.Written.{line_text}
use Rattle.osm_save.specs.Reading.{object_at, objects_at}
use Rattle.osm_save.specs.Save.{most_objects}
use Rattle.osm_merge.specs.Parts.{objects_part}
use Rattle.osm_merge.proofs.ListLemmas.{objects_none, objects_read}
use Rattle.osm_merge.proofs.PartLemmas.{list_done, list_fails, part_first}
use Rattle.osm_merge.proofs.lists.merge_object_list.Goals as goal

pub returns-in-Err : goal.returns-in-Err
returns-in-Err g c =
    let o = c.args.merge.now.opening.now in
    let m = rw c.objects_limit-most.ensures at c.in-Err.ensures.merges in
    part_first (objects_part c.args.merge.now.totals o (net_in c.args.merge.now.lists.now)) m (λ k. omega arith)
    (objects_none o.filter (most_objects o.version o.head.number))

pub returns-in-Ok-merge_objects : goal.returns-in-Ok-merge_objects
returns-in-Ok-merge_objects g c =
    let l = c.args.merge.now in
    let f = l.opening.now.filter in
    let most = most_objects l.opening.now.version l.opening.now.head.number in
    let m = rw c.objects_limit-most.ensures at c.in-Ok.ensures.merges in
    list_done laid_over line_text (λ o. o.key) (object_at f) l.lists.now.objects.items (codes "objects ") most l.totals.objects (objects_at f most)
    (objects_read f most) m c.in-Ok-merge_objects.ensures

pub returns-in-Err-merge_objects : goal.returns-in-Err-merge_objects
returns-in-Err-merge_objects g c =
    let l = c.args.merge.now in
    let f = l.opening.now.filter in
    let most = most_objects l.opening.now.version l.opening.now.head.number in
    let m = rw c.objects_limit-most.ensures at c.in-Ok.ensures.merges in
    list_fails laid_over line_text (λ o. o.key) (object_at f) l.lists.now.objects.items (codes "objects ") most l.totals.objects (objects_at f most)
    (objects_read f most) m c.in-Err-merge_objects.ensures
