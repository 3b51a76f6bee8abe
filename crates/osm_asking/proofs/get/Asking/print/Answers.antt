use Rattle.osm_asking.proofs.GetLemmas.{is_noted, put_unblamed, unanswered, unput}
use Rattle.std.specs.Prelude.{Err, Ok}
use Rattle.osm_store.proofs.FrameLemmas.{at_most_done}
use Rattle.osm_asking.specs.Asking.{IsAskFailed}
use Rattle.osm_asking.proofs.PlainLemmas.{calls_off, plain_text}
use Rattle.osm_asking.proofs.get.Asking.print.Goals as goal

pub returns-in-Err-clause-not_printed : goal.returns-in-Err-clause-not_printed
returns-in-Err-clause-not_printed g c = λ journal asking.
    unanswered (g.S.Store.state c.args.store.now) c.args.save.now journal c.args.key c.args.self.now (g.W.Write.contents c.args.writer.now) c.in-Err.fault
    (c.in-Err.ensures.stops journal asking.opened)

pub returns-in-Ok-put-clause-printed : goal.returns-in-Ok-put-clause-printed
returns-in-Ok-put-clause-printed g c = λ journal asking. record {
  answer = c.in-Ok.found;
  is = c.in-Ok.ensures.answered journal asking.opened;
  there = c.in-Ok-put.ensures.put.0;
  text = c.in-Ok-put.ensures.put.1;
  noted = is_noted c.args.key c.in-Ok.found c.args.self.now
      (record {
        sources = c.args.self.now.sources;
        form = c.args.self.now.form;
        end = c.answer.new.end;
        line = c.put.new.line;
        referred = c.note.new.referred;
        refers = c.args.self.now.refers;
      })
      c.in-Ok-note.ensures;
}

pub returns-clause-not_printed : goal.returns-clause-not_printed
returns-clause-not_printed g c = λ journal asking.
    unput (g.S.Store.state c.args.store.now) c.args.save.now journal c.args.key c.args.self.now c.in-Ok.found (g.W.Write.contents c.args.writer.now)
    (g.W.Write.contents c.put.new.writer) c.in-Err-put.fault (c.in-Ok.ensures.answered journal asking.opened) c.in-Err-put.ensures.stops

pub returns-in-Err-clause-calls : goal.returns-in-Err-clause-calls
returns-in-Err-clause-calls g c = λ journal file v asking plain ends.
    (let a = g.S.Store.state c.args.store.now in
    let opening = asking.opened.opening plain.has.known file v plain.has.there plain.spells in
    calls_off 57 a (g.S.Store.state c.answer.new.store) c.in-Err.fault
    (c.in-Err.ensures.calls file v (plain_text a c.args.save.now c.args.self.now.sources.opened.place file v plain opening.lines) ends))

pub returns-in-Err-note-clause-calls : goal.returns-in-Err-note-clause-calls
returns-in-Err-note-clause-calls g c = λ journal file v asking plain ends. record { spent = tt; lacks = λ known blame. absurd blame }

pub returns-in-Ok-put-clause-calls : goal.returns-in-Ok-put-clause-calls
returns-in-Ok-put-clause-calls g c = λ journal file v asking plain ends.
    (let a = g.S.Store.state c.args.store.now in
    let opening = asking.opened.opening plain.has.known file v plain.has.there plain.spells in
    at_most_done IsAskFailed 57 a (g.S.Store.state c.answer.new.store) c.in-Ok.found (Ok c.in-Ok-put.is_there) tt
    (c.in-Ok.ensures.calls file v (plain_text a c.args.save.now c.args.self.now.sources.opened.place file v plain opening.lines) ends))

pub returns-clause-calls : goal.returns-clause-calls
returns-clause-calls g c = λ journal file v asking plain ends.
    (let a = g.S.Store.state c.args.store.now in
    let opening = asking.opened.opening plain.has.known file v plain.has.there plain.spells in
    at_most_done IsAskFailed 57 a (g.S.Store.state c.answer.new.store) c.in-Ok.found (Err c.in-Err-put.fault)
    (put_unblamed c.args.self.now.form c.in-Ok.found (g.W.Write.contents c.args.writer.now) (g.W.Write.contents c.put.new.writer) c.in-Err-put.fault
    c.in-Err-put.ensures.stops)
    (c.in-Ok.ensures.calls file v (plain_text a c.args.save.now c.args.self.now.sources.opened.place file v plain opening.lines) ends))

pub returns-in-Err-clause-ended : goal.returns-in-Err-clause-ended
returns-in-Err-clause-ended g c = λ journal file v asking plain ends.
    (let opening = asking.opened.opening plain.has.known file v plain.has.there plain.spells in
    c.in-Err.ensures.ended file v (plain_text (g.S.Store.state c.args.store.now) c.args.save.now c.args.self.now.sources.opened.place file v plain
    opening.lines) ends)

pub returns-in-Err-note-clause-ended : goal.returns-in-Err-note-clause-ended
returns-in-Err-note-clause-ended g c = λ journal file v asking plain ends.
    (let opening = asking.opened.opening plain.has.known file v plain.has.there plain.spells in
    c.in-Ok.ensures.ended file v (plain_text (g.S.Store.state c.args.store.now) c.args.save.now c.args.self.now.sources.opened.place file v plain
    opening.lines) ends)

pub returns-in-Ok-put-clause-ended : goal.returns-in-Ok-put-clause-ended
returns-in-Ok-put-clause-ended g c = λ journal file v asking plain ends.
    (let opening = asking.opened.opening plain.has.known file v plain.has.there plain.spells in
    c.in-Ok.ensures.ended file v (plain_text (g.S.Store.state c.args.store.now) c.args.save.now c.args.self.now.sources.opened.place file v plain
    opening.lines) ends)

pub returns-clause-ended : goal.returns-clause-ended
returns-clause-ended g c = λ journal file v asking plain ends.
    (let opening = asking.opened.opening plain.has.known file v plain.has.there plain.spells in
    c.in-Ok.ensures.ended file v (plain_text (g.S.Store.state c.args.store.now) c.args.save.now c.args.self.now.sources.opened.place file v plain
    opening.lines) ends)
