use Rattle.std.specs.Prelude.{◌*◌}
use Rattle.osm_model.specs.Limits.{max_changes}
use Rattle.osm_merge.specs.Calls.{bytes_in}
use Rattle.osm_kept.specs.Names.{journal_name_of}
use Rattle.osm_store.specs.Frames.{IsKnown}
use Rattle.osm_exporting.specs.Keeping.{most_left}
use Rattle.osm_exporting.proofs.KeptLemmas.{done_calls, export_of_kept, exported_kept, fails_calls, known_then, laid_back, laid_stops}
use Rattle.osm_exporting.proofs.LeftLemmas.{after_few, left_few}
use Rattle.osm_exporting.proofs.kept.export_kept.Goals as goal

pub returns-in-Err-clause-stops : goal.returns-in-Err-clause-stops
returns-in-Err-clause-stops g c =
    c.in-Err.ensures.stops c.args.output.now (record { form = c.in-Some.form; end = c.in-Some.ensures.found })

pub returns-in-Ok-export_laid-clause-exported : goal.returns-in-Ok-export_laid-clause-exported
returns-in-Ok-export_laid-clause-exported g c = λ known.
    let a = g.S.Store.state c.args.store.now in
    let b = g.S.Store.state c.read_laid.new.store in
    let laid = c.in-Ok.laid in
    exported_kept c.args.save.now c.args.output.now c.in-Some.form laid a b (g.S.Store.state c.export_laid.new.store).files c.in-Some.ensures.found
    c.in-Ok.ensures.frame.files (c.in-Ok.ensures.kept known) (c.in-Ok.ensures.free known) c.in-Ok.ensures.plain.net
    (c.in-Ok-export_laid.ensures.put (known_then a b laid c.in-Ok.ensures.frame known))

pub returns-in-Ok-export_laid-clause-in_step : goal.returns-in-Ok-export_laid-clause-in_step
returns-in-Ok-export_laid-clause-in_step g c = λ known ps given base number saved.
    export_of_kept c.laws_of_kept.ensures.one_kept given ps base number c.args.save.now c.args.output.now (g.S.Store.state c.args.store.now).files
    (g.S.Store.state c.export_laid.new.store).files saved (returns-in-Ok-export_laid-clause-exported g c known)

pub returns-clause-stops : goal.returns-clause-stops
returns-clause-stops g c =
    let a = g.S.Store.state c.args.store.now in
    let b = g.S.Store.state c.read_laid.new.store in
    let frame = c.in-Ok.ensures.frame in
    laid_stops (IsKnown a) c.args.save.now c.args.output.now a.files c.in-Ok.laid (record { form = c.in-Some.form; end = c.in-Some.ensures.found })
    c.in-Ok.ensures.kept c.in-Ok.ensures.free c.in-Err-export_laid.fault
    (laid_back a b c.args.save.now c.in-Err-export_laid.fault frame.files frame.makes.known c.in-Err-export_laid.ensures.stops)

pub returns-in-Ok-export_laid-clause-calls : goal.returns-in-Ok-export_laid-clause-calls
returns-in-Ok-export_laid-clause-calls g c = λ known.
    let a = g.S.Store.state c.args.store.now in
    let journal = a.files (journal_name_of c.args.save.now) in
    done_calls c.args.save.now c.in-Ok.laid (most_left (bytes_in journal)) a (g.S.Store.state c.read_laid.new.store)
    (g.S.Store.state c.export_laid.new.store) c.in-Ok.laid (left_few (a.files c.args.save.now) journal c.in-Ok.laid (c.in-Ok.ensures.kept known))
    c.in-Ok.ensures.frame c.in-Ok.ensures.spends known c.convert_report.result c.in-Ok-export_laid.ensures.calls

pub returns-in-Ok-export_laid-clause-calls_after : goal.returns-in-Ok-export_laid-clause-calls_after
returns-in-Ok-export_laid-clause-calls_after g c = λ known numbers k.
    let a = g.S.Store.state c.args.store.now in
    let journal = a.files (journal_name_of c.args.save.now) in
    done_calls c.args.save.now c.in-Ok.laid (max_changes * numbers) a (g.S.Store.state c.read_laid.new.store)
    (g.S.Store.state c.export_laid.new.store) c.in-Ok.laid
    (after_few (a.files c.args.save.now) journal c.in-Ok.laid (c.in-Ok.ensures.kept known) numbers k)
    c.in-Ok.ensures.frame c.in-Ok.ensures.spends known c.convert_report.result c.in-Ok-export_laid.ensures.calls

pub returns-clause-calls : goal.returns-clause-calls
returns-clause-calls g c = λ known.
    let a = g.S.Store.state c.args.store.now in
    let journal = a.files (journal_name_of c.args.save.now) in
    fails_calls c.args.save.now c.in-Ok.laid (most_left (bytes_in journal)) a (g.S.Store.state c.read_laid.new.store)
    (g.S.Store.state c.export_laid.new.store) c.in-Ok.laid (left_few (a.files c.args.save.now) journal c.in-Ok.laid (c.in-Ok.ensures.kept known))
    c.in-Ok.ensures.frame c.in-Ok.ensures.spends known c.in-Err-export_laid.fault c.in-Err-export_laid.ensures.calls

pub returns-clause-calls_after : goal.returns-clause-calls_after
returns-clause-calls_after g c = λ known numbers k.
    let a = g.S.Store.state c.args.store.now in
    let journal = a.files (journal_name_of c.args.save.now) in
    fails_calls c.args.save.now c.in-Ok.laid (max_changes * numbers) a (g.S.Store.state c.read_laid.new.store)
    (g.S.Store.state c.export_laid.new.store) c.in-Ok.laid
    (after_few (a.files c.args.save.now) journal c.in-Ok.laid (c.in-Ok.ensures.kept known) numbers k)
    c.in-Ok.ensures.frame c.in-Ok.ensures.spends known c.in-Err-export_laid.fault c.in-Err-export_laid.ensures.calls
