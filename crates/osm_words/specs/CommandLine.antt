-- The command line: the words that are taken, and the order that they give.
use Rattle.std.specs.Prelude.{◌≡◌, Bool, List, [], ◌∷◌, Option, Some, None, codes, true, false}
use Rattle.std.specs.Prelude.{fold, map, option_map, unwrap_or}
use Rattle.std.specs.Option.{option_map_or}
use Rattle.std.specs.Borrow.{Bor}
use Rattle.std.specs.Str.{bytes_eq}
use Rattle.clap.specs.Words.{App, Row, Rule, Text, all_of, first_of, new_app, new_rule}
use Rattle.clap.specs.Words.{subcommand_of}
use Rattle.clap.specs.Words.{with_rule, with_subcommand}
use Rattle.clap.specs.declared.builder.value_parser.ValueParser.TheVariants.{NonEmptyString}
use Rattle.clap.specs.declared.builder.action.ArgAction.TheVariants.{Append, SetTrue}
use Rattle.osm_words.specs.declared.orders.Extract.{Extract}
use Rattle.osm_words.specs.declared.orders.Options.{Options}
use Rattle.osm_words.specs.declared.orders.Order.{Order}
use Rattle.osm_words.specs.declared.orders.Order.TheVariants.{Replay, Publish, Follow, Lag, Show}
use Rattle.osm_words.specs.declared.orders.Order.TheVariants.{Audit, Begin, Convert, Export}
use Rattle.osm_words.specs.declared.orders.Order.TheVariants.{Changes, Counts, Fingerprint, Get}
use Rattle.osm_words.specs.declared.orders.Order.TheVariants.{PublishAs, Tally}

-- a word that isn't empty
abbrev pub filled_rule : Text → Rule
filled_rule name = record (new_rule name) { parser = Some NonEmptyString }

-- a word that has to be there, and isn't empty
abbrev pub word_rule : Text → Rule
word_rule name = record (filled_rule name) { required = true }

-- `--now TIME`, which has to be there
abbrev pub time_rule : Rule
time_rule = record (new_rule (codes "TIME")) { long = Some (codes "now"); required = true }

-- `--LONG NAME`, which may be left out, but isn't empty
abbrev pub option_rule : Text → Text → Rule
option_rule long name = record (filled_rule name) { long = Some long }

-- the same, shown by another name
abbrev pub shown_rule : Text → Text → Rule
shown_rule long name = record (option_rule long name) { value_names = 1 }

-- `--LONG NAME`, which has to be there, and isn't empty
abbrev pub needed_rule : Text → Text → Rule
needed_rule long name = record (option_rule long name) { required = true }

-- objects or ids, any number of words that aren't empty
abbrev pub some_rule : Rule
some_rule = record (filled_rule (codes "SOUGHT")) { action = Some Append; value_names = 1 }

-- the same, at least one
abbrev pub each_rule : Rule
each_rule = record some_rule { required = true }

-- `-r`, which has no value
abbrev pub referred_rule : Rule
referred_rule = record (new_rule (codes "r")) { short = Some 114; action = Some SetTrue }

-- the letters of all kinds
abbrev pub all_kinds : Text
all_kinds = codes "nwr"

-- `--kinds KINDS`, which stands for all kinds if it is left out
abbrev pub kinds_rule : Rule
kinds_rule =
    record (new_rule (codes "KINDS")) { long = Some (codes "kinds"); defaults = all_kinds ∷ [] }

-- `KEY..`, any number of words that aren't empty
abbrev pub keys_rule : Rule
keys_rule = record (filled_rule (codes "KEY")) { action = Some Append }

-- `--NAME`, which has no value
abbrev pub flag_rule : Text → Rule
flag_rule name = record (new_rule name) { long = Some name; action = Some SetTrue }

-- the commands, each with its words and options
abbrev pub commands : List (Text × List Rule)
commands =
    (codes "replay", [])
    ∷ (
      codes "publish",
      word_rule (codes "DIR") ∷ word_rule (codes "CHANGES") ∷ time_rule
          ∷ option_rule (codes "sequence") (codes "N") ∷ flag_rule (codes "any-time")
          ∷ flag_rule (codes "no-lock") ∷ [],
    )
    ∷ (
      codes "begin",
      word_rule (codes "BASE") ∷ word_rule (codes "STATE") ∷ word_rule (codes "SAVE") ∷ keys_rule
          ∷ kinds_rule ∷ flag_rule (codes "any-time") ∷ flag_rule (codes "quiet")
          ∷ flag_rule (codes "no-lock") ∷ [],
    )
    ∷ (
      codes "follow",
      word_rule (codes "DIR") ∷ word_rule (codes "SAVE") ∷ keys_rule ∷ kinds_rule
          ∷ option_rule (codes "limit") (codes "LIMIT")
          ∷ option_rule (codes "sizes") (codes "SIZES") ∷ flag_rule (codes "json")
          ∷ flag_rule (codes "quiet") ∷ flag_rule (codes "no-lock") ∷ [],
    )
    ∷ (
      codes "lag",
      word_rule (codes "DIR") ∷ word_rule (codes "SAVE") ∷ flag_rule (codes "json") ∷ [],
    )
    ∷ (codes "show", word_rule (codes "SAVE") ∷ flag_rule (codes "quiet") ∷ [])
    ∷ (
      codes "export",
      word_rule (codes "SAVE") ∷ word_rule (codes "OUT") ∷ flag_rule (codes "quiet") ∷ [],
    )
    ∷ (codes "convert", word_rule (codes "IN") ∷ word_rule (codes "OUT") ∷ [])
    ∷ (
      codes "audit",
      word_rule (codes "DIR") ∷ option_rule (codes "from") (codes "N")
          ∷ option_rule (codes "to") (codes "M") ∷ flag_rule (codes "json")
          ∷ flag_rule (codes "quiet") ∷ [],
    )
    ∷ (
      codes "changes",
      word_rule (codes "DIR") ∷ word_rule (codes "OUT") ∷ keys_rule ∷ kinds_rule
          ∷ needed_rule (codes "from") (codes "N") ∷ needed_rule (codes "to") (codes "M")
          ∷ flag_rule (codes "json") ∷ flag_rule (codes "quiet") ∷ [],
    )
    ∷ (
      codes "tally",
      word_rule (codes "DIR") ∷ needed_rule (codes "from") (codes "N")
          ∷ needed_rule (codes "to") (codes "M") ∷ shown_rule (codes "by") (codes "BY")
          ∷ flag_rule (codes "json") ∷ flag_rule (codes "quiet") ∷ [],
    )
    ∷ (
      codes "get",
      word_rule (codes "SAVE") ∷ each_rule ∷ referred_rule ∷ flag_rule (codes "json") ∷ [],
    )
    ∷ (
      codes "counts",
      word_rule (codes "SAVE") ∷ some_rule ∷ shown_rule (codes "by") (codes "BY")
          ∷ shown_rule (codes "top") (codes "LIMIT") ∷ flag_rule (codes "csv")
          ∷ flag_rule (codes "json") ∷ [],
    )
    ∷ (
      codes "fingerprint",
      word_rule (codes "SAVE") ∷ shown_rule (codes "keys") (codes "LIMIT")
          ∷ flag_rule (codes "quiet") ∷ [],
    )
    ∷ []

-- a command with its words and options
abbrev pub command_app : Text × List Rule → App
command_app command = fold with_rule (new_app command.0) command.1

-- the program with one more command
abbrev pub with_command : App → Text × List Rule → App
with_command app command = with_subcommand app (command_app command).top

-- the program needs a command, and can print its version
abbrev pub program_app : App
program_app =
    let app = new_app (codes "osmrepl") in
    record app { top = record app.top { has_version = true; subcommand_required = true } }

-- the program with its commands
abbrev pub osmrepl_app : App
osmrepl_app = fold with_command program_app commands

-- those are the values of those words
abbrev pub AreValues : List Row → List (Text × Text) → Type 0
AreValues rows [] = Unit {0}
AreValues rows (v ∷ vs) = (first_of v.0 rows ≡ Some v.1) × AreValues rows vs

-- that command was found, and those are the values of its words
pub record IsFound (found : Option (Text × List Row)) (command : Text)
    (values : List (Text × Text)) : Type 0 where
  pub rows : List Row
  pub command_is : found ≡ Some (command, rows)
  pub values_are : AreValues rows values

-- that word isn't among those that were found
abbrev pub IsLeftOut : Option (Text × List Row) → Text → Type 0
IsLeftOut None name = ⊥
IsLeftOut (Some found) name = first_of name found.1 ≡ None

-- the word has that value, or it isn't among those that were found
abbrev pub IsOptional : Option (Text × List Row) → Text → Option (Bor Text) → Type 0
IsOptional None name word = ⊥
IsOptional (Some found) name word = option_map (λ w. w.now) word ≡ first_of name found.1

-- a flag was given: clap gives it the value `true` then
abbrev pub is_raised : Text → List Row → Bool
is_raised name rows =
    option_map_or (λ value. bytes_eq value (codes "true")) (first_of name rows) false

-- the flag is as it was given
abbrev pub IsFlag : Option (Text × List Row) → Text → Bool → Type 0
IsFlag None name given = ⊥
IsFlag (Some found) name given = given ≡ is_raised name found.1

-- the order is the one for the command that was found
abbrev pub IsOrderIn : Option (Text × List Row) → Order → Type 0
IsOrderIn found Replay = IsFound found (codes "replay") []
IsOrderIn found (Publish dir changes now) = IsFound found (codes "publish")
    ((codes "DIR", dir.now) ∷ (codes "CHANGES", changes.now) ∷ (codes "TIME", now.now) ∷ [])
    × IsLeftOut found (codes "N")
IsOrderIn found (PublishAs dir changes now sequence) = IsFound found (codes "publish")
    ((codes "DIR", dir.now) ∷ (codes "CHANGES", changes.now) ∷ (codes "TIME", now.now)
    ∷ (codes "N", sequence.now) ∷ [])
IsOrderIn found (Begin base state save) = IsFound found (codes "begin")
    ((codes "BASE", base.now) ∷ (codes "STATE", state.now) ∷ (codes "SAVE", save.now) ∷ [])
IsOrderIn found (Follow dir save) =
    IsFound found (codes "follow") ((codes "DIR", dir.now) ∷ (codes "SAVE", save.now) ∷ [])
IsOrderIn found (Lag dir save) =
    IsFound found (codes "lag") ((codes "DIR", dir.now) ∷ (codes "SAVE", save.now) ∷ [])
IsOrderIn found (Show save) = IsFound found (codes "show") ((codes "SAVE", save.now) ∷ [])
IsOrderIn found (Export save output) =
    IsFound found (codes "export") ((codes "SAVE", save.now) ∷ (codes "OUT", output.now) ∷ [])
IsOrderIn found (Convert input output) =
    IsFound found (codes "convert") ((codes "IN", input.now) ∷ (codes "OUT", output.now) ∷ [])
IsOrderIn found (Audit dir from to) = IsFound found (codes "audit") ((codes "DIR", dir.now) ∷ [])
    × IsOptional found (codes "N") from × IsOptional found (codes "M") to
IsOrderIn found (Changes dir output from to) = IsFound found (codes "changes")
    ((codes "DIR", dir.now) ∷ (codes "OUT", output.now) ∷ (codes "N", from.now)
    ∷ (codes "M", to.now) ∷ [])
IsOrderIn found (Tally dir from to by) = IsFound found (codes "tally")
    ((codes "DIR", dir.now) ∷ (codes "N", from.now) ∷ (codes "M", to.now) ∷ [])
    × IsOptional found (codes "BY") by
IsOrderIn found (Get save referred) =
    IsFound found (codes "get") ((codes "SAVE", save.now) ∷ []) × IsFlag found (codes "r") referred
IsOrderIn found (Counts save by csv) =
    IsFound found (codes "counts") ((codes "SAVE", save.now) ∷ [])
    × IsOptional found (codes "BY") by × IsFlag found (codes "csv") csv
IsOrderIn found (Fingerprint save) =
    IsFound found (codes "fingerprint") ((codes "SAVE", save.now) ∷ [])

-- the order is the one for the words, as clap reads them
abbrev pub IsOrderOf : List Text → Order → Type 0
IsOrderOf words = IsOrderIn (subcommand_of osmrepl_app words)

-- the options of the command that was found
abbrev pub options_in : Option (Text × List Row) → Options
options_in None = record { no_lock = false; any_time = false; json = false; quiet = false }
options_in (Some found) = record {
  no_lock = is_raised (codes "no-lock") found.1;
  any_time = is_raised (codes "any-time") found.1;
  json = is_raised (codes "json") found.1;
  quiet = is_raised (codes "quiet") found.1;
}

-- the options of the words, as clap reads them
abbrev pub options_of : List Text → Options
options_of words = options_in (subcommand_of osmrepl_app words)

-- the letters of the kinds: the value of `--kinds`, or all kinds
abbrev pub kinds_in : List Row → Text
kinds_in rows = unwrap_or (first_of (codes "KINDS") rows) all_kinds

-- all values of a word, in their order
abbrev pub values_in : Text → List Row → List Text
values_in name rows = unwrap_or (all_of name rows) []

-- all keys, in the order of the words
abbrev pub keys_in : List Row → List Text
keys_in = values_in (codes "KEY")

-- the kinds and keys are those of the command that was found; one that takes none has all kinds and
-- no keys
abbrev pub IsExtractIn : Option (Text × List Row) → Extract → Type 0
IsExtractIn None extract = ⊥
IsExtractIn (Some found) extract = (extract.kinds.now ≡ kinds_in found.1)
    × (map (λ key. key.now) extract.keys.items ≡ keys_in found.1)

-- the kinds and keys are those of the words, as clap reads them
abbrev pub IsExtractOf : List Text → Extract → Type 0
IsExtractOf words = IsExtractIn (subcommand_of osmrepl_app words)

-- the limit is that of the command that was found; one that takes none has none
abbrev pub IsLimitIn : Option (Text × List Row) → Option (Bor Text) → Type 0
IsLimitIn None limit = ⊥
IsLimitIn (Some found) limit =
    option_map (λ word. word.now) limit ≡ first_of (codes "LIMIT") found.1

-- the limit is that of the words, as clap reads them
abbrev pub IsLimitOf : List Text → Option (Bor Text) → Type 0
IsLimitOf words = IsLimitIn (subcommand_of osmrepl_app words)

-- the sizes are those of the command that was found; one that takes none has none
abbrev pub AreSizesIn : Option (Text × List Row) → Option (Bor Text) → Type 0
AreSizesIn found sizes = IsOptional found (codes "SIZES") sizes

-- the sizes are those of the words, as clap reads them
abbrev pub AreSizesOf : List Text → Option (Bor Text) → Type 0
AreSizesOf words = AreSizesIn (subcommand_of osmrepl_app words)

-- the objects or ids are those of the command that was found; one that takes none has none
abbrev pub AreSoughtIn : Option (Text × List Row) → List (Bor Text) → Type 0
AreSoughtIn None sought = ⊥
AreSoughtIn (Some found) sought = map (λ word. word.now) sought ≡ values_in (codes "SOUGHT") found.1

-- the objects or ids are those of the words, as clap reads them
abbrev pub AreSoughtOf : List Text → List (Bor Text) → Type 0
AreSoughtOf words = AreSoughtIn (subcommand_of osmrepl_app words)

-- no word of the order is empty, except a time; the number of a sequence or of a range, columns, a
-- limit, sizes, a key, an object and an id aren't either, by their rules
abbrev pub HasNoEmptyWord : Order → Type 0
HasNoEmptyWord Replay = Unit {0}
HasNoEmptyWord (Publish dir changes now) = (dir.now ≡ [] → ⊥) × (changes.now ≡ [] → ⊥)
HasNoEmptyWord (PublishAs dir changes now sequence) =
    (dir.now ≡ [] → ⊥) × (changes.now ≡ [] → ⊥)
HasNoEmptyWord (Begin base state save) =
    (base.now ≡ [] → ⊥) × (state.now ≡ [] → ⊥) × (save.now ≡ [] → ⊥)
HasNoEmptyWord (Follow dir save) = (dir.now ≡ [] → ⊥) × (save.now ≡ [] → ⊥)
HasNoEmptyWord (Lag dir save) = (dir.now ≡ [] → ⊥) × (save.now ≡ [] → ⊥)
HasNoEmptyWord (Show save) = save.now ≡ [] → ⊥
HasNoEmptyWord (Export save output) = (save.now ≡ [] → ⊥) × (output.now ≡ [] → ⊥)
HasNoEmptyWord (Convert input output) = (input.now ≡ [] → ⊥) × (output.now ≡ [] → ⊥)
HasNoEmptyWord (Audit dir from to) = dir.now ≡ [] → ⊥
HasNoEmptyWord (Changes dir output from to) = (dir.now ≡ [] → ⊥) × (output.now ≡ [] → ⊥)
HasNoEmptyWord (Tally dir from to by) = dir.now ≡ [] → ⊥
HasNoEmptyWord (Get save referred) = save.now ≡ [] → ⊥
HasNoEmptyWord (Counts save by csv) = save.now ≡ [] → ⊥
HasNoEmptyWord (Fingerprint save) = save.now ≡ [] → ⊥
