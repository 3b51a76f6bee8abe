use Rattle.std.proofs.Common.{◌∙◌}
use Rattle.clap.proofs.WalkLemmas.{first_value-rows}
use Rattle.clap.specs.Words.{found_of}
use Rattle.osm_words.proofs.CommandLemmas.{may_have}
use Rattle.osm_words.proofs.command_line.optional.Goals as goal

pub returns : goal.returns
returns c = may_have c.get_str.result c.args.name.now _ (c.get_str.ensures ∙ first_value-rows (found_of c.args.given.now) c.args.name.now)
