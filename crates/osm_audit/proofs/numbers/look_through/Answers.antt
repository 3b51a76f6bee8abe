use Rattle.osm_audit.proofs.NumberLemmas.{all_found, looked_through}
use Rattle.osm_audit.proofs.numbers.look_through.Goals as goal

pub returns-clause-found : goal.returns-clause-found
returns-clause-found g c = λ sure top.
    all_found (g.S.Store.state c.args.store.now).files c.args.dir.now c.args.from c.args.to c.args.top c.in_ok-looked.looked.time
    c.cause_of_top.result c.end_range.new.findings.items c.note.new.findings.items
    (looked_through (g.S.Store.state c.args.store.now).files c.args.dir.now c.args.from c.args.to c.in_ok-looked.looked
    c.look_at_each.new.findings.items c.end_range.new.findings.items (c.in_ok-looked.ensures.found sure) c.in_ok-end_range.ensures) top
    c.cause_of_top.ensures c.in_ok-note.ensures
