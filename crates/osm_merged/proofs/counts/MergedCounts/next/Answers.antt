use Rattle.osm_blocks.specs.Places.{left_of}
use Rattle.osm_merged.specs.Ahead.{counts_ahead}
use Rattle.osm_merged.proofs.AheadLemmas.{given_after, keeps_gives, keeps_now}
use Rattle.osm_merged.proofs.counts.MergedCounts.next.Goals as goal

pub returns-clause-given : goal.returns-clause-given
returns-clause-given g c = λ file has.
    given_after (left_of c.fill.new.source file) (counts_ahead c.args.self.now (left_of c.args.source.now file))
    (counts_ahead c.fill.new.self (left_of c.fill.new.source file)) (counts_ahead c.first.new.self (left_of c.fill.new.source file)) c.first.result
    (keeps_now (λ bytes. counts_ahead c.args.self.now bytes) (λ bytes. counts_ahead c.fill.new.self bytes) (left_of c.args.source.now file)
    (left_of c.fill.new.source file) (c.in_ok-fill.ensures.same file has))
    (c.first.ensures.given (left_of c.fill.new.source file))

pub returns-clause-exact : goal.returns-clause-exact
returns-clause-exact g c = λ file has.
    keeps_gives (λ bytes. counts_ahead c.args.self.now bytes) (λ bytes. counts_ahead c.fill.new.self bytes) (λ bytes. counts_ahead c.first.new.self bytes)
    (left_of c.args.source.now file) (left_of c.fill.new.source file) c.first.result (c.in_ok-fill.ensures.same file has) c.first.ensures.given
