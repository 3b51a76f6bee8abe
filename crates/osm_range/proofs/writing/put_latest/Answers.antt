use Rattle.osm_range.proofs.WritingLemmas.{puts_whole}
use Rattle.osm_runs.specs.Forms.{text_of}
use Rattle.osm_range.specs.Steps.Rising.{changes_in_rows}
use Rattle.osm_range.proofs.writing.put_latest.Goals as goal

pub returns-in-Ok-commit-clause-put : goal.returns-in-Ok-commit-clause-put
returns-in-Ok-commit-clause-put g c =
    let a = g.S.Store.state c.args.store.now in
    let b = g.S.Store.state c.begin.new.self in
    let d = g.S.Store.state c.put_form.new.store in
    let e = g.S.Store.state c.commit.new.self in
    let first = c.in-Ok.ensures.frame in
    let next = c.in-Ok-put_form.ensures.frame in
    puts_whole a b d e c.args.output.now (text_of c.args.form (changes_in_rows c.args.changes.now)) first.files first.makes.known next.files next.known
    c.in-Ok.ensures.begun c.in-Ok-put_form.ensures.put c.in-Ok-commit.ensures.put
