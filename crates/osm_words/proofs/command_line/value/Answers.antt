use Rattle.std.proofs.Common.{◌∙◌, ap, sym, List, ℕ, option_map}
use Rattle.std.specs.Borrow.{Bor}
use Rattle.clap.proofs.WalkLemmas.{first_value-rows}
use Rattle.clap.specs.Words.{found_of}
use Rattle.osm_words.proofs.CommandLemmas.{no_value}
use Rattle.osm_words.proofs.command_line.value.Goals as goal

pub unreachable-requires : goal.unreachable-requires
unreachable-requires c = no_value c.get_str.result c.args.name.now _ c.in_default.is (c.get_str.ensures
    ∙ first_value-rows (found_of c.args.given.now) c.args.name.now) c.requires

pub returns : goal.returns
returns c =
    sym (first_value-rows (found_of c.args.given.now) c.args.name.now) ∙ (sym c.get_str.ensures ∙ ap (option_map (λ (s : Bor (List ℕ)). s.now)) c.in-Some.is)
