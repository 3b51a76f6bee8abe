use Rattle.std.proofs.Common.{◌+◌, Some, subst, arith}
use Rattle.std.specs.Prelude.{Ok}
use Rattle.osm_store.specs.Files.{Files, Puts}
use Rattle.osm_store.proofs.FileLemmas.{spends_both}
use Rattle.osm_store.proofs.FrameLemmas.{at_most_both}
use Rattle.osm_merge.proofs.FrameLemmas.{known_still, then_replaces}
use Rattle.osm_net.specs.Laid.{laid_over}
use Rattle.osm_runs.specs.DataForms.{data_text_of}
use Rattle.osm_runs.specs.Runs.{IsDeviceFault}
use Rattle.osm_exporting.specs.Steps.Laying.{staged_calls}
use Rattle.osm_exporting.proofs.laid.write_output.Goals as goal

pub returns-in-Ok-commit : goal.returns-in-Ok-commit
returns-in-Ok-commit g c =
    let a = g.S.Store.state c.args.store.now in
    let b = g.S.Store.state c.stage_output.new.store in
    let d = g.S.Store.state c.commit.new.store in
    let most = staged_calls (a.files c.args.save.now) c.args.laid.now in
    record {
      put = λ known.
          let staged = c.in-Ok.ensures.staged known in
          let text = data_text_of c.args.form (laid_over c.args.laid.now.lists.objects.items staged.held.saved.mirror.objects) in
          record {
            held = staged.held;
            put = subst (λ (f : Files). Puts f c.args.output.now (Some text) d.files) c.in-Ok.ensures.frame.files
                (c.in-Ok-commit.ensures.put (known_still a b tt c.in-Ok.ensures.frame known) c.args.output.now text staged.staged);
          };
      stops = tt;
      frame = then_replaces IsDeviceFault a b d tt (Ok tt) c.in-Ok.ensures.frame c.in-Ok-commit.ensures.frame;
      spends = spends_both 2 0 2 a.left b.left d.left (omega arith) c.in-Ok.ensures.spends c.in-Ok-commit.ensures.frame.left;
      calls = λ known. at_most_both IsDeviceFault most 1 (most + 1) a b d tt (Ok tt) (omega arith) c.in-Ok.ensures.frame.known (c.in-Ok.ensures.calls known)
          c.in-Ok-commit.ensures.calls;
    }
