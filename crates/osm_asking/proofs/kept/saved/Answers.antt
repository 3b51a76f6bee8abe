use Rattle.osm_asking.specs.Refusal.{IsFailed}
use Rattle.osm_asking.proofs.FrameLemmas.{often_as, often_late}
use Rattle.osm_asking.proofs.TakenLemmas.{saved_is, taken_unblamed, unfound, untaken, whole_saved}
use Rattle.std.specs.Prelude.{Err, Ok}
use Rattle.osm_store.proofs.FrameLemmas.{at_most_done}
use Rattle.osm_asking.proofs.PlainLemmas.{calls_off}
use Rattle.osm_asking.proofs.kept.saved.Goals as goal

pub returns-in-Err-clause-stops : goal.returns-in-Err-clause-stops
returns-in-Err-clause-stops g c =
    unfound (g.S.Store.state c.args.store.now) c.args.save.now c.args.opened.now c.in-Err.fault c.in-Err.ensures.stops

pub returns-in-Ok-taken-clause-saved : goal.returns-in-Ok-taken-clause-saved
returns-in-Ok-taken-clause-saved g c =
    saved_is (g.S.Store.state c.args.store.now) c.args.save.now c.args.opened.now c.args.key c.in-Ok.spot c.in-Ok-taken.object c.in-Ok.ensures.found
    c.in-Ok-taken.ensures.taken

pub returns-in-Ok-taken-clause-whole : goal.returns-in-Ok-taken-clause-whole
returns-in-Ok-taken-clause-whole g c =
    whole_saved (g.S.Store.state c.args.store.now) c.args.save.now c.in-Ok.spot c.in-Ok-taken.object c.in-Ok.ensures.whole c.in-Ok-taken.ensures.whole

pub returns-in-Ok-taken-clause-frame : goal.returns-in-Ok-taken-clause-frame
returns-in-Ok-taken-clause-frame g c =
    often_as IsFailed IsFailed (g.S.Store.state c.args.store.now) (g.S.Store.state c.find_line.new.store) c.in-Ok.spot c.in-Ok-taken.object
    c.in-Ok.ensures.frame

pub returns-clause-stops : goal.returns-clause-stops
returns-clause-stops g c =
    untaken (g.S.Store.state c.args.store.now) c.args.save.now c.args.opened.now c.args.key c.in-Ok.spot c.in-Err-taken.fault c.in-Ok.ensures.found
    c.in-Err-taken.ensures.stops

pub returns-clause-frame : goal.returns-clause-frame
returns-clause-frame g c =
    often_late IsFailed IsFailed (g.S.Store.state c.args.store.now) (g.S.Store.state c.find_line.new.store) c.in-Ok.spot c.in-Err-taken.fault
    (taken_unblamed c.args.opened.now c.args.key c.in-Ok.spot c.in-Err-taken.fault c.in-Err-taken.ensures.stops) c.in-Ok.ensures.frame

pub returns-in-Err-clause-calls : goal.returns-in-Err-clause-calls
returns-in-Err-clause-calls g c = λ file v plain none.
    calls_off 57 (g.S.Store.state c.args.store.now) (g.S.Store.state c.find_line.new.store) c.in-Err.fault (c.in-Err.ensures.calls file v plain none)

pub returns-in-Ok-taken-clause-calls : goal.returns-in-Ok-taken-clause-calls
returns-in-Ok-taken-clause-calls g c = λ file v plain none.
    at_most_done IsFailed 57 (g.S.Store.state c.args.store.now) (g.S.Store.state c.find_line.new.store) c.in-Ok.spot (Ok c.in-Ok-taken.object) tt
    (c.in-Ok.ensures.calls file v plain none)

pub returns-clause-calls : goal.returns-clause-calls
returns-clause-calls g c = λ file v plain none.
    at_most_done IsFailed 57 (g.S.Store.state c.args.store.now) (g.S.Store.state c.find_line.new.store) c.in-Ok.spot (Err c.in-Err-taken.fault)
    (taken_unblamed c.args.opened.now c.args.key c.in-Ok.spot c.in-Err-taken.fault c.in-Err-taken.ensures.stops)
    (c.in-Ok.ensures.calls file v plain none)
