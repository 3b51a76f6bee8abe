use Rattle.std.proofs.Common.{◌≡◌, None}
use Rattle.osm_exporting.specs.Steps.Copying.{ahead_in, all_in}
use Rattle.osm_exporting.proofs.LaidLemmas.{rest_done, rest_fails, rest_stops, written_of}
use Rattle.osm_runs.specs.DataForms.{data_text_of}
use Rattle.osm_exporting.proofs.ObjectLemmas.{all_nothing}
use Rattle.osm_exporting.proofs.PassLemmas.{pass_map}
use Rattle.osm_exporting.proofs.laid.write_objects.Goals as goal

pub returns-in-Err-clause-stops : goal.returns-in-Err-clause-stops
returns-in-Err-clause-stops g c =
    let a = g.S.Store.state c.args.store.now in
    let o = c.args.opening.now in
    pass_map a a c.args.save.now (λ file. ahead_in o.filter c.args.objects.now file ≡ None) (λ file. all_in o c.args.objects.now file ≡ None)
    c.in-Err.fault (λ file has. has) (λ file has none. all_nothing o c.args.objects.now file none) c.in-Err.ensures.stops

pub returns-in-Err-clause-calls : goal.returns-in-Err-clause-calls
returns-in-Err-clause-calls g c = λ file has. record { spent = tt; lacks = (c.in-Err.ensures.calls file has).lacks }

pub returns-in-Ok-pass_rest-clause-written : goal.returns-in-Ok-pass_rest-clause-written
returns-in-Ok-pass_rest-clause-written g c =
    written_of (g.S.Store.state c.args.store.now) (g.S.Store.state c.copy_form.new.store) c.args.save.now c.args.opening.now c.args.objects.now
    c.copy_form.new.objects (data_text_of c.args.form) c.in-Ok.ensures (g.S.Store.state c.pass_rest.new.store) c.in-Ok-pass_rest.ensures.passed
    c.in-Ok-pass_rest.ensures.stage

pub returns-in-Ok-pass_rest-clause-calls : goal.returns-in-Ok-pass_rest-clause-calls
returns-in-Ok-pass_rest-clause-calls g c = λ file has.
    rest_done (g.S.Store.state c.args.store.now) (g.S.Store.state c.copy_form.new.store) c.args.save.now c.args.opening.now c.args.objects.now
    c.copy_form.new.objects (data_text_of c.args.form) c.in-Ok.ensures (g.S.Store.state c.pass_rest.new.store) file has c.in-Ok-pass_rest.ensures.calls

pub returns-in-Err-pass_rest-clause-stops : goal.returns-in-Err-pass_rest-clause-stops
returns-in-Err-pass_rest-clause-stops g c =
    rest_stops (g.S.Store.state c.args.store.now) (g.S.Store.state c.copy_form.new.store) c.args.save.now c.args.opening.now c.args.objects.now
    c.copy_form.new.objects (data_text_of c.args.form) c.in-Ok.ensures c.in-Err-pass_rest.fault c.in-Err-pass_rest.ensures.stops

pub returns-in-Err-pass_rest-clause-calls : goal.returns-in-Err-pass_rest-clause-calls
returns-in-Err-pass_rest-clause-calls g c = λ file has.
    rest_fails (g.S.Store.state c.args.store.now) (g.S.Store.state c.copy_form.new.store) c.args.save.now c.args.opening.now c.args.objects.now
    c.copy_form.new.objects (data_text_of c.args.form) c.in-Ok.ensures (g.S.Store.state c.pass_rest.new.store) file has c.in-Err-pass_rest.fault
    c.in-Err-pass_rest.ensures.calls
