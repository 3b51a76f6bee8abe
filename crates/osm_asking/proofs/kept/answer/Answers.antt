use Rattle.osm_store.specs.Frames.{IsKnown}
use Rattle.osm_asking.proofs.EntryLemmas.{entry_is, entry_none}
use Rattle.osm_asking.proofs.SourceLemmas.{left_answer, saved_answer, saved_stops}
use Rattle.osm_store.proofs.FrameLemmas.{most_none}
use Rattle.osm_asking.proofs.PlainLemmas.{calls_as}
use Rattle.osm_asking.proofs.kept.answer.Goals as goal

pub returns-in-Ok-clause-answered : goal.returns-in-Ok-clause-answered
returns-in-Ok-clause-answered g c = λ journal opened.
    (let a = g.S.Store.state c.args.store.now in
    let sources = c.args.sources.now in
    left_answer (IsKnown a) (a.files c.args.save.now) journal sources c.args.key c.in-Some.left.now c.in-Ok.left opened
    (entry_is sources.entries.items c.as_slice.result.now c.args.key c.entry_at.result c.in-Some.left c.as_slice.ensures.value c.entry_at.ensures
    c.in-Some.is opened.rising) c.in-Ok.ensures.left)

pub returns-in-Ok-saved-clause-answered : goal.returns-in-Ok-saved-clause-answered
returns-in-Ok-saved-clause-answered g c = λ journal opened.
    (let a = g.S.Store.state c.args.store.now in
    let sources = c.args.sources.now in
    let answered = c.in-Ok-saved.ensures in
    saved_answer a c.args.save.now journal sources c.args.key c.in-Ok-saved.object opened
    (entry_none sources.entries.items c.as_slice.result.now c.args.key c.entry_at.result c.as_slice.ensures.value c.entry_at.ensures c.in-None.is
    opened.rising) answered.saved answered.own answered.whole)

pub returns-in-Err-saved-clause-stops : goal.returns-in-Err-saved-clause-stops
returns-in-Err-saved-clause-stops g c = λ journal opened.
    saved_stops (g.S.Store.state c.args.store.now) c.args.save.now journal c.args.sources.now c.in-Err-saved.fault opened c.in-Err-saved.ensures.stops

pub returns-in-Ok-clause-calls : goal.returns-in-Ok-clause-calls
returns-in-Ok-clause-calls g c = λ file v plain none. record { spent = most_none 57 (g.S.Store.state c.args.store.now).left; lacks = tt }

pub returns-in-Ok-saved-clause-calls : goal.returns-in-Ok-saved-clause-calls
returns-in-Ok-saved-clause-calls g c = λ file v plain none.
    calls_as 57 (g.S.Store.state c.args.store.now) (g.S.Store.state c.saved.new.store) c.in-Ok-saved.object c.in-Ok-saved.object
    (c.in-Ok-saved.ensures.calls file v plain none)

pub returns-in-Err-saved-clause-calls : goal.returns-in-Err-saved-clause-calls
returns-in-Err-saved-clause-calls g c = λ file v plain none.
    (let m = c.in-Err-saved.ensures.calls file v plain none in
    record { spent = tt; lacks = λ known blame. m.lacks known blame })
