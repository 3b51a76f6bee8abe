use Rattle.osm_words.specs.CommandLine.{program_app}
use Rattle.osm_words.proofs.command_line.command.Goals as goal

pub returns : goal.returns
returns c =
    c.added.ensures _ _ _ (c.added-command-13.ensures _ _ _ (c.added-command-12.ensures _ _ _ (c.added-command-11.ensures _ _ _
    (c.added-command-10.ensures _ _ _ (c.added-command-9.ensures _ _ _ (c.added-command-8.ensures _ _ _ (c.added-command-7.ensures _ _ _
    (c.added-command-6.ensures _ _ _ (c.added-command-5.ensures _ _ _ (c.added-command-4.ensures _ _ _ (c.added-command-3.ensures _ _ _
    (c.added-command-2.ensures _ _ _ (c.added-command.ensures program_app _ _ c.program.ensures.app c.replay.ensures) c.publish.ensures) c.begin.ensures)
    c.follow.ensures) c.lag.ensures) c.show.ensures) c.export.ensures) c.convert.ensures) c.audit.ensures) c.changes.ensures) c.tally.ensures)
    c.get.ensures) c.counts.ensures) c.fingerprint.ensures
