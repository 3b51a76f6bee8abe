use Rattle.std.proofs.Common.{[], ◌∷◌, refl}
use Rattle.osm_model.proofs.FileLimitLemmas.{data_limits}
use Rattle.osm_data.proofs.O5mPassingLemmas.{empty_part, empty_step, low_step, next_part, not_below, object_step, refused_step, wrong_step}
use Rattle.osm_data.proofs.o5m_passing.pass_built.Goals as goal

pub returns-in-Err-clause-refused : goal.returns-in-Err-clause-refused
returns-in-Err-clause-refused g c = refused_step c.args.reader.now c.args.last.now c.args.bytes.now c.in-Err.refusal c.in-Err.ensures

pub returns-in_default-clause-passed : goal.returns-in_default-clause-passed
returns-in_default-clause-passed g c = record {
  objects = [];
  read = empty_step c.args.reader.now c.dataset.new.self c.args.bytes.now c.in-Ok.read.1.now (rw c.in_default.is at c.in-Ok.ensures);
  part = empty_part c.args.last.now;
  key = refl;
  taken = c.laws.ensures.none c.args.sink.now;
}

pub check_next-requires : goal.check_next-requires
check_next-requires g c = data_limits.none

pub returns-in-Err-check_next-clause-refused : goal.returns-in-Err-check_next-clause-refused
returns-in-Err-check_next-clause-refused g c =
    wrong_step c.args.reader.now c.dataset.new.self c.args.last.now c.args.bytes.now c.in-Ok.read.1.now c.in-Some.object
    (rw c.in-Some.is at c.in-Ok.ensures) c.in-Err-check_next.ensures.other

pub returns-then-not-is_below-clause-refused : goal.returns-then-not-is_below-clause-refused
returns-then-not-is_below-clause-refused g c =
    low_step c.args.reader.now c.dataset.new.self c.args.last.now c.args.bytes.now c.in-Ok.read.1.now c.in-Some.object
    (rw c.in-Some.is at c.in-Ok.ensures)
    (not_below c.is_below.result c.args.last.now c.in-Some.object.key (rw c.key.ensures.key at c.is_below.ensures) c.if-not-is_below.true)

pub returns-clause-passed : goal.returns-clause-passed
returns-clause-passed g c = record {
  objects = c.in-Some.object ∷ [];
  read = object_step c.args.reader.now c.dataset.new.self c.args.bytes.now c.in-Ok.read.1.now c.in-Some.object
      (rw c.in-Some.is at c.in-Ok.ensures);
  part = next_part c.args.last.now c.in-Some.object c.in-Ok-check_next.ensures.next
      (rw c.key.ensures.key at (c.is_below.ensures.0 c.if-not-is_below.false));
  key = rw c.key-2.ensures.key refl;
  taken = c.in-Ok-take.ensures;
}
