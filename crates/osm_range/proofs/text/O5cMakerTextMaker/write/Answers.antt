use Rattle.osm_range.proofs.WritingLemmas.{o5c_goes_on}
use Rattle.osm_range.proofs.text.O5cMakerTextMaker.write.Goals as goal

pub returns : goal.returns
returns c = λ changes.
    o5c_goes_on c.args.self.now.writer c.forget_old.new.self c.write_change.new.self c.args.change.now changes
    c.forget_old.ensures.out c.forget_old.ensures.same c.in_ok-write_change.ensures.text
    c.in_ok-write_change.ensures.state_is c.in_ok-write_change.ensures.kind
