use Rattle.std.proofs.Common.{arith}
use Rattle.osm_net.specs.Laid.{added}
use Rattle.osm_save.specs.Reading.{count_at, counts_at}
use Rattle.osm_save.specs.Save.{count_text}
use Rattle.osm_merge.specs.Parts.{counts_part}
use Rattle.osm_merge.proofs.ListLemmas.{counts_none, counts_read}
use Rattle.osm_merge.proofs.PartLemmas.{list_done, list_fails, part_first}
use Rattle.osm_merge.proofs.lists.merge_count_list.Goals as goal

pub returns-in-Err : goal.returns-in-Err
returns-in-Err g c =
    let h = c.args.list.now.header in
    part_first (counts_part h.word.now h.most h.total c.args.list.now.increments.now) c.in-Err.ensures.merges (λ k. omega arith)
    (counts_none h.word.now h.most)

pub returns-in-Ok-merge_counts : goal.returns-in-Ok-merge_counts
returns-in-Ok-merge_counts g c =
    let h = c.args.list.now.header in
    let word = h.word.now in
    list_done added count_text (λ e. e.0) (count_at h.most) c.args.list.now.increments.now word h.most h.total (counts_at word h.most)
    (counts_read word h.most) c.in-Ok.ensures.merges c.in-Ok-merge_counts.ensures

pub returns-in-Err-merge_counts : goal.returns-in-Err-merge_counts
returns-in-Err-merge_counts g c =
    let h = c.args.list.now.header in
    let word = h.word.now in
    list_fails added count_text (λ e. e.0) (count_at h.most) c.args.list.now.increments.now word h.most h.total (counts_at word h.most)
    (counts_read word h.most) c.in-Ok.ensures.merges c.in-Err-merge_counts.ensures
