use Rattle.std.proofs.Common.{◌≡◌, Bool, false, fold, take}
use Rattle.clap.specs.Words.{App, app_of, new_app, with_rule}
use Rattle.clap.specs.declared.builder.Command.TheViews.{out-Command as fields_of}
use Rattle.osm_words.specs.Steps.Commands.{rule_in}
use Rattle.osm_words.proofs.command_line.subcommand.Given as goal

-- the command has the words so far, none of them for its subcommands too
pub record HasWordsSoFar (app so_far : App) (globals : Bool) : Type 0 where
  pub app_is : app ≡ so_far
  pub local : globals ≡ false

abbrev pub invariant-loop-word : goal.invariant-loop-word
invariant-loop-word l = HasWordsSoFar (app_of l.command)
    (fold (λ app a. with_rule app (rule_in a)) (new_app l.fn.name) (take l.word-index l.arguments)) (fields_of l.command).has_globals
