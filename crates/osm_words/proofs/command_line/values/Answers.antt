use Rattle.std.proofs.Common.{◌∙◌}
use Rattle.std.proofs.lemmas.Result.{IfOk-weaker}
use Rattle.clap.proofs.WalkLemmas.{raw_values-rows}
use Rattle.clap.specs.Words.{found_of, rows_of}
use Rattle.osm_words.proofs.CommandLemmas.{has_no_values, has_values}
use Rattle.osm_words.proofs.command_line.values.Goals as goal

pub returns-in-Some : goal.returns-in-Some
returns-in-Some c = IfOk-weaker c.from_slice.result _ _
    (λ v h. has_values c.args.name.now c.get_raw.result c.in-Some.values v.items (rows_of (found_of c.args.given.now))
    (c.get_raw.ensures ∙ raw_values-rows (found_of c.args.given.now) c.args.name.now) c.in-Some.is h) c.from_slice.ensures.items

pub returns-in-None : goal.returns-in-None
returns-in-None c = has_no_values c.args.name.now c.get_raw.result c.new.result.items (rows_of (found_of c.args.given.now))
    (c.get_raw.ensures ∙ raw_values-rows (found_of c.args.given.now) c.args.name.now) c.in-None.is c.new.ensures.items
