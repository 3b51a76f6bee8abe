use Rattle.std.proofs.Common.{◌≡◌, ◌∙◌}
use Rattle.osm_journal.specs.Journal.{journal_of}
use Rattle.osm_kept.specs.Kept.{start_of}
use Rattle.osm_beginning.proofs.KeepingLemmas.{begins_of, first_is_start, own_of}
use Rattle.osm_beginning.proofs.journal.is_own.Goals as goal

pub returns-in-Ok-begins_with-clause-tells : goal.returns-in-Ok-begins_with-clause-tells
returns-in-Ok-begins_with-clause-tells g c = λ known.
    let told = (g.S.Store.state c.args.store.now).files c.args.save.now in
    let j = journal_of c.args.journal.now in
    let tells = c.in-Ok-begins_with.ensures.tells known in
    let value = c.as_slice.ensures.value in
    let same : c.as_slice.result.now ≡ start_of j = value ∙ (c.in-Ok.ensures ∙ first_is_start j c.requires) in (
      (λ yes. own_of j told c.as_slice.result.now same (tells.0 yes)),
      (λ belongs. tells.1 (begins_of j told c.as_slice.result.now same belongs)),
    )
