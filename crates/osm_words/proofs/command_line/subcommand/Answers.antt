use Rattle.std.proofs.Common.{◌≡◌, ◌∙◌, ◌+◌, ◌<◌, ◌||◌, ap, sym, Bool, false, fold, get_or, length, List, rules, take, ℕ}
use Rattle.std.proofs.lemmas.List.{take_all}
use Rattle.std.proofs.lemmas.List.Folds.{fold-map}
use Rattle.std.proofs.lemmas.List.Sums.{fold_more}
use Rattle.clap.specs.Words.{App, Rule, new_app, with_rule}
use Rattle.osm_words.specs.Steps.Commands.{rule_in}
use Rattle.osm_words.specs.declared.command_line.Argument.{Argument}
use Rattle.osm_words.proofs.command_line.subcommand.Goals as goal

-- one more word
one_more : (words : List Argument) (i : ℕ) (d : Argument) (start old new : App) (rule : Rule) → i < length words
    → old ≡ fold (λ app a. with_rule app (rule_in a)) start (take i words) → rule ≡ rule_in (get_or words i d) → new ≡ with_rule old rule
    → new ≡ fold (λ app a. with_rule app (rule_in a)) start (take (i + 1) words)
one_more words i d start old new rule lt is named added =
    added ∙ (ap (λ (app : App). with_rule app rule) is ∙ (ap (λ (r : Rule). with_rule (fold (λ app a. with_rule app (rule_in a)) start (take i words)) r) named
    ∙ sym (fold_more (λ app a. with_rule app (rule_in a)) start words i d lt)))

still_local : (old new argument : Bool) → new ≡ (old || argument) → old ≡ false → argument ≡ false → new ≡ false
still_local old new argument is old_is argument_is = is ∙ (ap (λ (b : Bool). b || argument) old_is ∙ argument_is)

pub loop-word-init : goal.loop-word-init
loop-word-init c = record { app_is = search rules; local = search rules }

pub loop-word-preserved : goal.loop-word-preserved
loop-word-preserved c = record {
  app_is = one_more c.args.arguments.now c.loop-word.word-index _ (new_app c.args.name.now) _ _ _ c.loop-word-test.true c.loop-word.invariant.app_is
      c.argument_of.ensures.rule (c.in_ok-command.ensures.shape c.argument_of.ensures.local);
  local = still_local _ _ _ c.in_ok-command.ensures.globals c.loop-word.invariant.local c.argument_of.ensures.local;
}

pub returns : goal.returns
returns c =
    let words : List Argument = c.args.arguments.now in
    let whole : take c.loop-word.word-index words ≡ words = take_all c.loop-word.word-index words c.loop-word-test.false in
    record {
      app_is = c.loop-word.invariant.app_is ∙ (ap (fold (λ app a. with_rule app (rule_in a)) (new_app c.args.name.now)) whole
          ∙ sym (fold-map with_rule rule_in (new_app c.args.name.now) words));
      local = c.loop-word.invariant.local;
    }
