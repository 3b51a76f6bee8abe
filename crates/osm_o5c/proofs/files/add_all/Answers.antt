use Rattle.std.proofs.Common.{rules, arith}
use Rattle.osm_o5c.specs.Datasets.{position}
use Rattle.osm_o5c.proofs.FrontLemmas.{reached_more, step_shorter}
use Rattle.osm_o5c.proofs.PlaceLemmas.{begun_reached, exit_bad, exit_empty, exit_more, faulty, unbegun_place}
use Rattle.osm_o5c.proofs.PlaceLemmas.{wanted_at_object}
use Rattle.osm_o5c.proofs.files.add_all.Goals as goal

pub returns-in_default-clause-refused : goal.returns-in_default-clause-refused
returns-in_default-clause-refused g c =
    faulty c.args.start.now g.F.FileLimits.limits c.laws.ensures c.args.bytes.now 0 (omega arith)
    (unbegun_place c.args.start.now g.F.FileLimits.limits c.args.bytes.now (search rules))

pub datasets-init : goal.datasets-init
datasets-init g c = record {
  reached = begun_reached c.args.start.now g.F.FileLimits.limits c.args.bytes.now c.in-Some.rest.now c.args.reader.now
      c.args.changes.now.items (search rules) (search rules) (search rules) (search rules);
  right = rw c.requires.none c.laws.ensures.none;
}

pub datasets-smaller : goal.datasets-smaller
datasets-smaller g c = step_shorter c.args.start.now g.F.FileLimits.limits c.args.bytes.now
    (position c.datasets.reader c.datasets.changes.items c.datasets.rest.now)
    (position c.next.new.self c.next.new.changes.items c.in-Ok.after.now) c.datasets.invariant.reached c.in-Ok.ensures.ok

pub datasets-preserved : goal.datasets-preserved
datasets-preserved g c = record {
  reached = reached_more c.args.start.now g.F.FileLimits.limits c.args.bytes.now
      (position c.datasets.reader c.datasets.changes.items c.datasets.rest.now)
      (position c.next.new.self c.next.new.changes.items c.in-Ok.after.now) c.datasets.invariant.reached c.in-Ok.ensures.ok
      c.in-Ok.ensures.right;
  right = c.in-Ok.ensures.right;
}

pub returns-in-Err-WantOfMemory-clause-refused : goal.returns-in-Err-WantOfMemory-clause-refused
returns-in-Err-WantOfMemory-clause-refused g c =
    wanted_at_object c.args.start.now g.F.FileLimits.limits c.laws.ensures c.args.bytes.now
    (position c.datasets.reader c.datasets.changes.items c.datasets.rest.now) (omega arith)
    c.datasets.invariant.reached (rw c.in-Err-WantOfMemory.field-0-is at c.in-Err-WantOfMemory.ensures.refused)

pub returns-in-Err-Fault-clause-refused : goal.returns-in-Err-Fault-clause-refused
returns-in-Err-Fault-clause-refused g c =
    faulty c.args.start.now g.F.FileLimits.limits c.laws.ensures c.args.bytes.now _ (omega arith)
    (exit_bad c.args.start.now g.F.FileLimits.limits c.args.bytes.now
    (position c.datasets.reader c.datasets.changes.items c.datasets.rest.now) c.datasets.invariant.reached
    (rw c.in-Err-Fault.field-0-is at c.in-Err-Fault.ensures.refused) (search rules))

pub returns-then-is_empty-clause-refused : goal.returns-then-is_empty-clause-refused
returns-then-is_empty-clause-refused g c =
    faulty c.args.start.now g.F.FileLimits.limits c.laws.ensures c.args.bytes.now _ (omega arith)
    (exit_empty c.args.start.now g.F.FileLimits.limits c.args.bytes.now
    (position c.datasets.reader c.datasets.changes.items c.datasets.rest.now) c.datasets.invariant.reached (search rules))

pub returns-clause-refused : goal.returns-clause-refused
returns-clause-refused g c =
    faulty c.args.start.now g.F.FileLimits.limits c.laws.ensures c.args.bytes.now _ (omega arith)
    (exit_more c.args.start.now g.F.FileLimits.limits c.args.bytes.now
    (position c.datasets.reader c.datasets.changes.items c.datasets.rest.now) c.datasets.invariant.reached
    (search rules) (search rules))
