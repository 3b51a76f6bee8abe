use Rattle.std.proofs.Common.{◌≡◌, ◌++◌, List, ℕ, Some, subst, sym, ◌∙◌}
use Rattle.std.proofs.lemmas.List.{append-nil}
use Rattle.osm_blocks.specs.Writing.{IsWritten, Waiting}
use Rattle.osm_blocks.proofs.block_writer.BlockWriter.flush.Goals as goal

pub returns-in-Ok-clause-flushed : goal.returns-in-Ok-clause-flushed
returns-in-Ok-clause-flushed g c = λ known name text w.
    let v = subst (λ (x : Waiting). IsWritten (g.S.Store.state c.args.store.now).stage x name text) (sym c.self.view_is) w in
    record {
      appended = v.appended ++ c.self.inside.buffer.items;
      staged = subst (λ (l : List ℕ). (g.S.Store.state c.append.new.store).stage ≡ Some (name, v.appended ++ l)) c.as_slice.ensures.value
          (c.in-Ok.ensures.appended known name v.appended v.staged);
      whole = rw c.clear.ensures.items (v.whole ∙ sym (append-nil (v.appended ++ c.self.inside.buffer.items)));
      writes = v.writes;
    }
