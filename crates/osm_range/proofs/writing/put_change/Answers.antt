use Rattle.std.proofs.Common.{ℕ, List, ◌∷◌, ◌++◌, ap, refl, sym, ◌∙◌}
use Rattle.osm_range.proofs.writing.put_change.Goals as goal
use Rattle.osm_runs.proofs.FillLemmas.{fills_as, fills_by}

pub returns-clause-put : goal.returns-clause-put
returns-clause-put g c = λ changes.
    let a = g.S.Store.state c.args.store.now in
    let b = g.S.Store.state c.append.new.self in
    let rest = g.M.TextMaker.ahead c.clear.new.self changes in
    fills_as a b (c.bytes-2.result.now ++ rest) rest (g.M.TextMaker.ahead c.args.maker.now (c.args.change.now ∷ changes)) rest
    (fills_by a b c.bytes-2.result.now rest c.in-Ok-append.ensures.appended)
    (c.in-Ok.ensures changes ∙ (c.clear.ensures changes ∙ ap (λ (t : List ℕ). t ++ rest) (sym c.bytes-2.ensures))) refl
