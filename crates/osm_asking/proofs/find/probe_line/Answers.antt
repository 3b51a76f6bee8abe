use Rattle.std.proofs.Common.{◌≡◌, List, ℕ, Some, None, subst}
use Rattle.osm_reading.specs.Pieces.{cut_at}
use Rattle.osm_asking.proofs.SearchLemmas.{block_side, sided_lies, sided_lies_stops}
use Rattle.osm_asking.proofs.find.probe_line.Goals as goal
use Rattle.osm_merge.proofs.LineLemmas.{fails_none}

pub returns-clause-probed : goal.returns-clause-probed
returns-clause-probed g c =
    let line = c.in-Ok-next_line.cut.0.now in
    let after = c.in-Ok-next_line.cut.1.now in
    let cut = subst (λ (l : List ℕ). cut_at 10 l ≡ Some (line, after)) c.as_slice.ensures.value c.in-Ok-next_line.ensures in
    sided_lies (g.S.Store.state c.args.store.now) c.args.name.now line c.args.place c.args.wanted c.sided.result c.sided.ensures.is
    (λ side lies. block_side c.args.wanted (g.S.Store.state c.args.store.now) c.args.name.now c.args.place c.in-Ok.block.items line after (Some side)
    c.in-Ok.ensures.read cut lies)

pub returns-clause-stops : goal.returns-clause-stops
returns-clause-stops g c =
    let line = c.in-Ok-next_line.cut.0.now in
    let after = c.in-Ok-next_line.cut.1.now in
    let cut = subst (λ (l : List ℕ). cut_at 10 l ≡ Some (line, after)) c.as_slice.ensures.value c.in-Ok-next_line.ensures in
    sided_lies_stops (g.S.Store.state c.args.store.now) c.args.name.now line c.args.place c.args.wanted c.sided.result c.sided.ensures.stops
    (λ lies. block_side c.args.wanted (g.S.Store.state c.args.store.now) c.args.name.now c.args.place c.in-Ok.block.items line after None
    c.in-Ok.ensures.read cut lies)

pub returns-in-Err-next_line-clause-probed : goal.returns-in-Err-next_line-clause-probed
returns-in-Err-next_line-clause-probed g c = λ file has.
    (let b = c.in-Ok.ensures.read file has in
    let none : cut_at 10 c.in-Ok.block.items ≡ None =
    subst (λ (l : List ℕ). cut_at 10 l ≡ None) c.as_slice.ensures.value
    (fails_none c.in-Err-next_line._stop (cut_at 10 c.as_slice.result.now) c.in-Err-next_line.ensures) in
    subst (λ (l : List ℕ). cut_at 10 l ≡ None) (b.whole none) none)
