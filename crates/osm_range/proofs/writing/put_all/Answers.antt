use Rattle.std.proofs.Common.{◌+◌, ap, drop, refl, rules, sym}
use Rattle.osm_blocks.proofs.OftenLemmas.{often_none, often_then}
use Rattle.osm_store.specs.Frames.{IsDevice}
use Rattle.osm_range.specs.Steps.Rising.{changes_in_rows}
use Rattle.osm_range.proofs.RisingLemmas.{rows_from}
use Rattle.osm_range.proofs.writing.put_all.Goals as goal
use Rattle.osm_runs.proofs.FillLemmas.{fills_as, fills_none, fills_then}

pub loop-row-init : goal.loop-row-init
loop-row-init g c =
    let a = g.S.Store.state c.args.store.now in
    record {
      frame = often_none IsDevice a tt;
      fills = fills_none a (g.M.TextMaker.ahead c.args.maker.now (changes_in_rows c.args.changes.now));
    }

pub loop-row-preserved : goal.loop-row-preserved
loop-row-preserved g c =
    let i = c.loop-row.invariant in
    let a = g.S.Store.state c.args.store.now in
    let b = g.S.Store.state c.loop-row.store in
    let d = g.S.Store.state c.put_change.new.store in
    let whole = g.M.TextMaker.ahead c.args.maker.now (changes_in_rows c.args.changes.now) in
    let ahead = g.M.TextMaker.ahead c.loop-row.maker (changes_in_rows (drop c.loop-row.row-index c.args.changes.now)) in
    let left = changes_in_rows (drop (c.loop-row.row-index + 1) c.args.changes.now) in
    let rest = g.M.TextMaker.ahead c.put_change.new.maker left in
    record {
      frame = often_then {V = Unit {0}} IsDevice a b d tt tt tt i.frame c.in-Ok.ensures.frame;
      fills = fills_then a b d tt whole ahead rest i.frame i.fills
          (fills_as b d _ rest ahead rest (c.in-Ok.ensures.put left)
          (ap (g.M.TextMaker.ahead c.loop-row.maker) (rows_from c.args.changes.now c.loop-row.row-index c.row-item.result (search rules) (sym c.row-item.is)))
          refl);
    }
