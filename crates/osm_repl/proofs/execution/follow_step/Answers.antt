use Rattle.std.proofs.Common.{inl, subst}
use Rattle.osm_runs.specs.declared.options.Layout.{Layout}
use Rattle.osm_repl.specs.Execution.{TellsFault}
use Rattle.osm_repl.proofs.execution.follow_step.Goals as goal

-- of a run that isn't done, nothing is printed but the line of its fault
pub returns-clause-not_done : goal.returns-clause-not_done
returns-clause-not_done g c =
    rw c.tell_fault.ensures.stands (inl (record {
      stopped = record {
        stops = c.in-Err.ensures.stops;
        over = c.in-Err.ensures.refuses;
        leaves = c.in-Err.ensures.leaves;
        device = c.in-Err.ensures.device;
      };
      told = subst (λ (layout : Layout). TellsFault c.args.order layout c.in-Err.fault (g.W.Write.contents c.args.writer.now)
          (g.W.Write.contents c.tell_fault.new.writer)) c.layout_of-layout.ensures c.tell_fault.ensures.told;
    }))
