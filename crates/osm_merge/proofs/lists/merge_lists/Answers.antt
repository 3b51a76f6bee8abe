use Rattle.std.proofs.Common.{ℕ, refl, ap, arith}
use Rattle.osm_net.specs.Lists.{net_in}
use Rattle.osm_merge.specs.Parts.{mirror_part}
use Rattle.osm_merge.proofs.CheckLemmas.{mirror_after, mirror_none, mirror_read}
use Rattle.osm_merge.proofs.PartLemmas.{part_done, part_fails, part_first}
use Rattle.osm_merge.proofs.lists.merge_lists.Goals as goal

pub returns-in-Err : goal.returns-in-Err
returns-in-Err g c =
    let l = c.args.merge.now in
    let o = l.opening.now in
    part_first (mirror_part l.totals o (net_in l.lists.now)) c.in-Err.ensures (λ k. omega arith) (mirror_none o.version o.head o.filter)

pub returns-in-Ok-merge_both : goal.returns-in-Ok-merge_both
returns-in-Ok-merge_both g c =
    let l = c.args.merge.now in
    let o = l.opening.now in
    let m = c.in-Ok.ensures in
    let n = c.in-Ok-merge_both.ensures in
    let users = ap (λ (x : ℕ × ℕ). x.0) n.merges.given_is in
    let changesets = ap (λ (x : ℕ × ℕ). x.1) n.merges.given_is in
    part_done (mirror_part l.totals o (net_in l.lists.now)) m refl (λ k. omega arith) n
    (record { objects = m.merges.value; users = n.merges.value.0; changesets = n.merges.value.1 }) (rw (m.merges.given_is, users, changesets) refl) refl
    (λ bytes rest last e f. mirror_read o.version o.head o.filter bytes rest m.merges.value n.merges.value e f) refl

pub returns-in-Err-merge_both : goal.returns-in-Err-merge_both
returns-in-Err-merge_both g c =
    let l = c.args.merge.now in
    let o = l.opening.now in
    let m = c.in-Ok.ensures in
    part_fails (mirror_part l.totals o (net_in l.lists.now)) m refl (λ k. omega arith)
    (λ bytes rest e none. mirror_after o.version o.head o.filter bytes rest m.merges.value e none) c.in-Err-merge_both.ensures
