use Rattle.std.proofs.Common.{rules, ◌≡◌, ◌-◌, ◌<◌, length, drop}
use Rattle.osm_o5c.proofs.ForgetLemmas.{same_without}
use Rattle.osm_o5c.proofs.writer.Writer.keep_recent.Goals as goal

pub returns-clause-same : goal.returns-clause-same
returns-clause-same c objects =
    let many : 15000 < length c.args.self.now.state.strings = search rules in
    let recent : c.in_ok-self.field-0 ≡ drop (length c.args.self.now.state.strings - 15000) c.args.self.now.state.strings = search rules in
    same_without c.args.self.now.kind c.args.self.now.state.counters c.args.self.now.state.strings c.in_ok-self.field-0
    objects many recent
