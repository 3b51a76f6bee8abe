use Rattle.std.proofs.Common.{rules, arith, ◌≡◌, ◌+◌, take, []}
use Rattle.osm_opl.specs.Written.{opl_text}
use Rattle.osm_opl.proofs.WrittenLemmas.{file_begun, file_more, file_prefix}
use Rattle.osm_opl.proofs.files.write_changes.Goals as goal

pub loop-change-init : goal.loop-change-init
loop-change-init c =
    let none : c.in-Ok.text.items ≡ [] = search rules in
    rw none (file_begun c.args.changes.now)

pub returns-then-len-gt-MAX_FILE-clause-refused : goal.returns-then-len-gt-MAX_FILE-clause-refused
returns-then-len-gt-MAX_FILE-clause-refused c =
    let next : c.add_change.new.text.items ≡ opl_text (take (c.loop-change.change-index + 1) c.args.changes.now) =
    file_more c.loop-change.text.items c.add_change.new.text.items c.args.changes.now
    c.loop-change.change-index c.change-item.result c.loop-change.invariant (omega arith) c.change-item.is
    c.in-Ok-add_change.ensures.ok in
    file_prefix c.add_change.new.text.items c.args.changes.now (c.loop-change.change-index + 1) next
    (search rules)

pub loop-change-preserved : goal.loop-change-preserved
loop-change-preserved c = record {
  same = file_more c.loop-change.text.items c.add_change.new.text.items c.args.changes.now
      c.loop-change.change-index c.change-item.result c.loop-change.invariant (omega arith) c.change-item.is
      c.in-Ok-add_change.ensures.ok;
  small = search rules;
}
