use Rattle.std.proofs.Common.{refl, arith}
use Rattle.osm_net.specs.Lists.{net_in}
use Rattle.osm_save.specs.Head.{most_counted}
use Rattle.osm_merge.specs.Parts.{both_part}
use Rattle.osm_merge.proofs.ListLemmas.{both_after, both_none}
use Rattle.osm_merge.proofs.PartLemmas.{both_done, both_fails, part_fails, part_first}
use Rattle.osm_merge.proofs.lists.merge_both.Goals as goal

pub returns-in-Err : goal.returns-in-Err
returns-in-Err g c =
    let l = c.args.merge.now in
    part_first (both_part l.totals l.opening.now (net_in l.lists.now)) c.in-Err.ensures (λ k. omega arith) (both_none (most_counted l.opening.now.head))

pub returns-in-Err-merge_count_list : goal.returns-in-Err-merge_count_list
returns-in-Err-merge_count_list g c =
    let l = c.args.merge.now in
    let m = c.in-Ok.ensures in
    part_fails (both_part l.totals l.opening.now (net_in l.lists.now)) m refl (λ k. omega arith)
    (λ bytes rest e none. both_after (most_counted l.opening.now.head) bytes rest m.merges.value e none) c.in-Err-merge_count_list.ensures

pub returns-in-Ok-merge_end : goal.returns-in-Ok-merge_end
returns-in-Ok-merge_end g c =
    let l = c.args.merge.now in
    let m = rw c.as_slice.ensures.value at c.in-Ok.ensures in
    let n = rw c.as_slice-2.ensures.value at c.in-Ok-merge_count_list.ensures in
    both_done l.totals l.opening.now (net_in l.lists.now) m n c.in-Ok-merge_end.ensures

pub returns-in-Err-merge_end : goal.returns-in-Err-merge_end
returns-in-Err-merge_end g c =
    let l = c.args.merge.now in
    let m = rw c.as_slice.ensures.value at c.in-Ok.ensures in
    let n = rw c.as_slice-2.ensures.value at c.in-Ok-merge_count_list.ensures in
    both_fails l.totals l.opening.now (net_in l.lists.now) m n c.in-Err-merge_end.ensures
