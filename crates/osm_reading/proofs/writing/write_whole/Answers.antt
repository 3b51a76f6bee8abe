use Rattle.std.proofs.Common.{◌-◌, ◌≤◌, length, take, drop, arith, take-add}
use Rattle.std.proofs.lemmas.Grind.{common_steps}
use Rattle.std.proofs.lemmas.List.{take_rest}
use Rattle.std.proofs.KnownBytes.{Appends-trans}
use Rattle.osm_reading.proofs.writing.write_whole.Goals as goal

pub loop-at-preserved : goal.loop-at-preserved
loop-at-preserved g c =
    let bound : c.in-Ok.count ≤ length (take (length c.args.text.now - c.loop-at.at) (drop c.loop-at.at c.args.text.now)) = c.in-Ok.ensures.bound in
    record {
      appended = rw take-add (Appends-trans (g.W.Write.contents c.args.writer.now) (g.W.Write.contents c.loop-at.writer)
          (g.W.Write.contents c.write.new.self) (take c.loop-at.at c.args.text.now)
          (take c.in-Ok.count (drop c.loop-at.at c.args.text.now)) c.loop-at.invariant.appended
          (rw take_rest at c.in-Ok.ensures.bytes));
      within = grind (arith, common_steps);
    }
