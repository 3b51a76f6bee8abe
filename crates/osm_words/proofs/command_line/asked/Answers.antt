use Rattle.std.proofs.Common.{◌≡◌, List, [], sym, subst, map, refl}
use Rattle.clap.specs.Faults.{fault_of}
use Rattle.clap.specs.Words.{HasMatchesOf, Text, subcommand_rows_of}
use Rattle.clap.specs.declared.parser.matches.ArgMatches.{ArgMatches}
use Rattle.osm_words.specs.CommandLine.{osmrepl_app}
use Rattle.osm_words.specs.Steps.Commands.{IsCommand}
use Rattle.osm_words.proofs.CommandLemmas.{names_command}
use Rattle.osm_words.proofs.command_line.asked.Goals as goal

-- words that `clap` takes name a command, and give it the values of its words
found_command : (words : List Text) (matches : ArgMatches) → HasMatchesOf osmrepl_app words matches → fault_of osmrepl_app words ≡ []
    → IsCommand (subcommand_rows_of matches)
found_command words matches has none = subst IsCommand (sym (has refl).1) (names_command words none)

pub order_of-requires : goal.order_of-requires
order_of-requires c =
    found_command (map (λ s. s.now) c.args.words.now) c.in_ok-matches.matches c.in_ok-matches.ensures.matches c.in_ok-matches.ensures.kinds

pub options_of-requires : goal.options_of-requires
options_of-requires c =
    found_command (map (λ s. s.now) c.args.words.now) c.in_ok-matches.matches c.in_ok-matches.ensures.matches c.in_ok-matches.ensures.kinds

pub extract_of-requires : goal.extract_of-requires
extract_of-requires c =
    found_command (map (λ s. s.now) c.args.words.now) c.in_ok-matches.matches c.in_ok-matches.ensures.matches c.in_ok-matches.ensures.kinds

pub limit_of-requires : goal.limit_of-requires
limit_of-requires c =
    found_command (map (λ s. s.now) c.args.words.now) c.in_ok-matches.matches c.in_ok-matches.ensures.matches c.in_ok-matches.ensures.kinds

pub sizes_of-requires : goal.sizes_of-requires
sizes_of-requires c =
    found_command (map (λ s. s.now) c.args.words.now) c.in_ok-matches.matches c.in_ok-matches.ensures.matches c.in_ok-matches.ensures.kinds

pub sought_of-requires : goal.sought_of-requires
sought_of-requires c =
    found_command (map (λ s. s.now) c.args.words.now) c.in_ok-matches.matches c.in_ok-matches.ensures.matches c.in_ok-matches.ensures.kinds
