-- The commands of the program, and the words that each has.
use Rattle.std.specs.Prelude.{◌≡◌, ◌⊎◌, ◌&&◌, Bool, not, List, [], ◌∷◌, Option, Some, None, codes}
use Rattle.std.specs.Prelude.{false, find, is_some, map}
use Rattle.std.specs.List.{filter}
use Rattle.std.specs.Option.{option_map_or}
use Rattle.std.specs.Str.{bytes_eq}
use Rattle.clap.specs.Words.{Row, Rule, Text, app_of, first_of}
use Rattle.clap.specs.declared.builder.Command.{Command}
use Rattle.clap.specs.declared.builder.Command.TheViews.{out-Command as fields_of}
use Rattle.osm_words.specs.CommandLine.{command_app, commands, each_rule, flag_rule, keys_rule}
use Rattle.osm_words.specs.CommandLine.{kinds_rule, needed_rule, option_rule, referred_rule}
use Rattle.osm_words.specs.CommandLine.{shown_rule, some_rule, time_rule, word_rule}
use Rattle.osm_words.specs.declared.command_line.Argument.{Argument}
use Rattle.osm_words.specs.declared.command_line.Argument.TheVariants as argument

-- the word has a value
pub record HasValue (rows : List Row) (name : Text) : Type 0 where
  pub value : Text
  pub is_first : first_of name rows ≡ Some value

-- the word has a value that isn't empty
pub record HasWord (rows : List Row) (name : Text) : Type 0 where
  pub value : Text
  pub is_first : first_of name rows ≡ Some value
  pub is_filled : value ≡ [] → ⊥

-- each of those words has a value that isn't empty
abbrev pub HasWords : List Row → List Text → Type 0
HasWords rows [] = Unit {0}
HasWords rows (name ∷ names) = HasWord rows name × HasWords rows names

-- each of those words has a value
abbrev pub HasValues : List Row → List Text → Type 0
HasValues rows [] = Unit {0}
HasValues rows (name ∷ names) = HasValue rows name × HasValues rows names

-- the names of the commands
abbrev pub command_names : List Text
command_names = map (λ (c : Text × List Rule). c.0) commands

-- one of those names
abbrev pub IsOneOf : Text → List Text → Type 0
IsOneOf name [] = ⊥
IsOneOf name (n ∷ ns) = (name ≡ n) ⊎ IsOneOf name ns

-- the rules of the command of that name
abbrev pub rules_of : Text → List Rule
rules_of name = option_map_or (λ (c : Text × List Rule). c.1)
    (find (λ (c : Text × List Rule). bytes_eq c.0 name) commands) []

-- the names of its rules that pass the test
abbrev pub names_of : (Rule → Bool) → Text → List Text
names_of is name = map (λ (a : Rule). a.id) (filter is (rules_of name))

-- the words of a command that may not be empty
abbrev pub words_of : Text → List Text
words_of = names_of (λ a. a.required && is_some a.parser)

-- those that may be empty
abbrev pub times_of : Text → List Text
times_of = names_of (λ a. a.required && not (is_some a.parser))

-- a command of that name, with the values of its words
abbrev pub IsCommandOf : Text → List Row → Type 0
IsCommandOf name rows = IsOneOf name command_names × HasWords rows (words_of name)
    × HasValues rows (times_of name)

-- one of the commands was found
abbrev pub IsCommand : Option (Text × List Row) → Type 0
IsCommand None = ⊥
IsCommand (Some p) = IsCommandOf p.0 p.1

-- the rule of a word or an option
abbrev pub rule_in : Argument → Rule
rule_in (argument.Word name says) = word_rule name.now
rule_in (argument.Each name says) = each_rule
rule_in (argument.Sought name says) = some_rule
rule_in argument.Keys = keys_rule
rule_in argument.Kinds = kinds_rule
rule_in argument.Time = time_rule
rule_in (argument.Optional long name says) = option_rule long.now name.now
rule_in (argument.Shown long name shown says) = shown_rule long.now name.now
rule_in (argument.Needed long name says) = needed_rule long.now name.now
rule_in argument.Sizes = option_rule (codes "sizes") (codes "SIZES")
rule_in argument.Referred = referred_rule
rule_in (argument.Flag name says) = flag_rule name.now

-- the command has that name and those rules, none of them for its subcommands too
pub record IsMade (name : Text) (rules : List Rule) (command : Command) : Type 0 where
  pub app_is : app_of command ≡ command_app (name, rules)
  pub local : (fields_of command).has_globals ≡ false
