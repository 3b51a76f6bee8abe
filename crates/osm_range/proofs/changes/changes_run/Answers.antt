use Rattle.std.proofs.Common.{◌≡◌, subst, sym, ◌∙◌, Option, rules}
use Rattle.osm_store.specs.Frames.{IsKnown}
use Rattle.osm_range.specs.Steps.Rising.{RiseAs, changes_in_rows}
use Rattle.osm_range.specs.Steps.Telling.{TellingStops}
use Rattle.osm_range.specs.declared.report.Changed.{Changed}
use Rattle.osm_range.proofs.HandingLemmas.{handed_at, read_rising, read_under, telling_stops}
use Rattle.osm_range.proofs.changes.changes_run.Goals as goal

pub returns-in-Err-progress-clause-stops : goal.returns-in-Err-progress-clause-stops
returns-in-Err-progress-clause-stops g c =
    let a = g.S.Store.state c.args.store.now in
    let taker = c.read_range.new.taker in
    let same = c.in-Ok.ensures.same ∙ (c.new-collected.ensures.filter ∙ c.in_ok-filter.ensures.ok) in
    let taken = read_under (IsKnown a) c.args.options.filter.now a.files c.args.dir.now c.args.range taker c.in-Ok.reached same c.in-Ok.ensures.read in
    let rows = c.as_slice-changes.result.now in
    let is : rows ≡ c.in-Ok-rising.rising.items = search rules in
    let rise : RiseAs taker.latest rows = subst (RiseAs taker.latest) (sym is) c.in-Ok-rising.ensures in
    let has = read_rising (IsKnown a) c.args.options.filter.now a.files c.args.dir.now c.args.range taker.latest rows c.in-Ok.reached rise taken in
    telling_stops (IsKnown a) c.args.options.filter.now a.files c.args.dir.now c.args.output.now c.args.range c.in-Ok.reached (changes_in_rows rows)
    c.in-Err-progress.fault has
    (subst (λ (o : Option Changed). TellingStops o c.in-Ok.reached.ending c.in-Err-progress.fault) c.changed-changed.ensures
    c.in-Err-progress.ensures.stops)

pub returns-in-Ok-write-clause-handed : goal.returns-in-Ok-write-clause-handed
returns-in-Ok-write-clause-handed g c =
    let a = g.S.Store.state c.args.store.now in
    let b = g.S.Store.state c.read_range.new.store in
    let d = g.S.Store.state c.write.new.store in
    let taker = c.read_range.new.taker in
    let same = c.in-Ok.ensures.same ∙ (c.new-collected.ensures.filter ∙ c.in_ok-filter.ensures.ok) in
    let taken = read_under (IsKnown a) c.args.options.filter.now a.files c.args.dir.now c.args.range taker c.in-Ok.reached same c.in-Ok.ensures.read in
    let rows = c.as_slice-changes.result.now in
    let is : rows ≡ c.in-Ok-rising.rising.items = search rules in
    let rise : RiseAs taker.latest rows = subst (RiseAs taker.latest) (sym is) c.in-Ok-rising.ensures in
    let has = read_rising (IsKnown a) c.args.options.filter.now a.files c.args.dir.now c.args.range taker.latest rows c.in-Ok.reached rise taken in
    handed_at a b d c.args.options.filter.now c.args.options.layout c.args.dir.now c.args.output.now c.args.range c.in-Ok-progress.progress c.in-Some.form
    c.in-Ok.reached (changes_in_rows rows) c.changed-changed.result c.in-Some.ensures.found has rise.rising c.in-Ok.ensures.frame.files
    c.in-Ok.ensures.frame.known c.changed-changed.ensures c.in-Ok-write.ensures.none c.in-Ok-write.ensures.put c.in-Ok-progress.ensures.told
