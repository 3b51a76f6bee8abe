use Rattle.std.proofs.Common.{◌∙◌, Some, subst}
use Rattle.std.specs.Prelude.{OnOk}
use Rattle.osm_store.specs.Files.{Puts}
use Rattle.osm_store.specs.Frames.{IsKnown}
use Rattle.osm_round.proofs.keeping.write_journal.Goals as goal

pub returns-clause-written : goal.returns-clause-written
returns-clause-written g c =
    let a = g.S.Store.state c.args.store.now in
    let b = g.S.Store.state c.write_file.new.store in
    subst (λ name. OnOk c.write_file.result (IsKnown a → Puts a.files name (Some c.args.text.now) b.files))
    (c.as_str.ensures.value ∙ c.in_ok-journal.ensures.name) c.write_file.ensures.written
