use Rattle.std.proofs.Common.{rules}
use Rattle.osm_script.specs.Replay.{ReplayFault}
use Rattle.osm_script.specs.Steps.Replaying.{AnswerStops}
use Rattle.osm_script.proofs.ReplayLemmas.{script_fault}
use Rattle.osm_script.proofs.replay.replay_run.Goals as goal

pub returns-in_err-text-clause-fault : goal.returns-in_err-text-clause-fault
returns-in_err-text-clause-fault g c =
    let refused : AnswerStops c.in_ok-script.script.items c.in_err-text.field-0.0 = search rules in
    let fault : ReplayFault (g.R.Read.remaining c.args.reader.now) (g.R.Read.remaining c.read_script.new.reader) c.in_err-text.field-0.0 =
    script_fault (g.R.Read.remaining c.args.reader.now) (g.R.Read.remaining c.read_script.new.reader)
    c.in_ok-script.script.items c.in_err-text.field-0.0 c.in_ok-script.ensures.script c.in_ok-script.ensures.end
    refused in
    search rules
