use Rattle.std.proofs.Common.{arith}
use Rattle.std.specs.Prelude.{codes}
use Rattle.osm_save.specs.Left.{mirror_left}
use Rattle.osm_save.specs.Save.{saved_with}
use Rattle.osm_save.specs.declared.version.Version.TheVariants.{Three}
use Rattle.osm_save.proofs.LengthLemmas.{written_spells}
use Rattle.osm_save.proofs.TextLemmas.{counts_written, save_written}
use Rattle.osm_save.proofs.save.save_write_left.Goals as goal

pub returns-clause-text : goal.returns-clause-text
returns-clause-text c =
    let start = rw c.in_ok-text.ensures.empty at c.in_ok-write_head.ensures in
    let o = c.write_left.new.out.items in
    let u = c.write_counts.new.text.items in
    let s = c.write_counts-2.new.text.items in
    save_written Three (saved_with c.args.head c.args.filter.now
    (mirror_left c.args.entries.now c.args.users.now c.args.changesets.now)) c.write_head.new.out.items o u s c.write_end.new.out.items start
    c.in_ok-write_left.ensures (counts_written (codes "users ") o u c.args.users.now c.in_ok-write_counts.ensures.appended)
    (counts_written (codes "changesets ") u s c.args.changesets.now c.in_ok-write_counts-2.ensures.appended) c.in_ok-write_end.ensures

pub returns-clause-spelled : goal.returns-clause-spelled
returns-clause-spelled c = λ limits mirror within kept. written_spells c.args.head c.args.filter.now
    (mirror_left c.args.entries.now c.args.users.now c.args.changesets.now) c.write_end.new.out.items (returns-clause-text c) (omega arith)
    c.limits.ensures mirror limits within kept
