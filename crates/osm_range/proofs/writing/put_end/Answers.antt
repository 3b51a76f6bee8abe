use Rattle.std.proofs.Common.{[], refl, sym, ◌∙◌}
use Rattle.osm_range.proofs.WritingLemmas.{fills_all}
use Rattle.osm_range.proofs.writing.put_end.Goals as goal
use Rattle.osm_runs.proofs.FillLemmas.{fills_as}

pub returns-in-Ok-append-clause-put : goal.returns-in-Ok-append-clause-put
returns-in-Ok-append-clause-put g c =
    let a = g.S.Store.state c.args.store.now in
    let b = g.S.Store.state c.append.new.self in
    fills_as a b c.bytes.result.now [] (g.M.TextMaker.ahead c.args.maker.now []) [] (fills_all a b c.bytes.result.now c.in-Ok-append.ensures.appended)
    (c.in-Ok.ensures ∙ sym c.bytes.ensures) refl
