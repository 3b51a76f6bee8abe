use Rattle.std.proofs.Common.{◌≡◌, ap, ◌∙◌, map, refl, subst, true}
use Rattle.std.proofs.lemmas.Result.{IfErr-weaker, IfOk-weaker}
use Rattle.clap.specs.Words.{App, FailsBy, HasMatchesOf, fault_of, is_simple_and_free, takes}
use Rattle.osm_words.specs.CommandLine.{osmrepl_app}
use Rattle.osm_words.proofs.command_line.matches.Goals as goal

pub returns-clause-taken : goal.returns-clause-taken
returns-clause-taken c = IfErr-weaker c.try_get_matches_from.result _ _
    (λ e h t. h (ap (λ (a : App). takes a (map (λ s. s.now) c.args.words.now)) c.in_ok-command.ensures ∙ t))
    c.try_get_matches_from.ensures.passes

pub returns-clause-matches : goal.returns-clause-matches
returns-clause-matches c = IfOk-weaker c.try_get_matches_from.result _ _
    (λ m h. subst (λ (a : App). HasMatchesOf a (map (λ s. s.now) c.args.words.now) m) c.in_ok-command.ensures h)
    c.try_get_matches_from.ensures.matches

-- the command is simple, and none of its words has a rule on another
is_simple : is_simple_and_free osmrepl_app ≡ true
is_simple = refl

pub returns-clause-kinds : goal.returns-clause-kinds
returns-clause-kinds c =
    subst (λ (a : App). FailsBy (fault_of a (map (λ s. s.now) c.args.words.now)) c.try_get_matches_from.result) c.in_ok-command.ensures
    (c.try_get_matches_from.ensures.kinds (ap is_simple_and_free c.in_ok-command.ensures ∙ is_simple))
