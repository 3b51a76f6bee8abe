-- Words that clap takes name one of the commands.
use Rattle.std.proofs.Common.{◌≡◌, ◌∙◌, ◌++◌, Bool, subst, true, false, not, List, [], ◌∷◌, Option, Some, None, refl}
use Rattle.std.proofs.Common.{ap, sym, is_some, codes, option_map, ◌⊎◌, inl, inr, ◌&&◌, ◌||◌}
use Rattle.std.specs.Prelude.{find, fold, cond, map, MatchOption, unwrap_or}
use Rattle.std.specs.Str.{bytes_eq}
use Rattle.std.proofs.lemmas.Slice.Eq.{bytes_eq-Decides}
use Rattle.clap.specs.Lexer.{long_of, short_of}
use Rattle.clap.specs.Kinds.{Kinds, or_else}
use Rattle.clap.specs.Faults.{fault_of, other_fault, turn_fault, walk_fault, word_fault, step_fault}
use Rattle.clap.specs.Simple.{App, Shape, argument_words, built, entered, names_of}
use Rattle.clap.specs.Walk.{Held, Names, Outcome, Row, Rule, Step, Text, Waiting, Walk, after_flag, after_step}
use Rattle.clap.specs.Walk.{arg_by_index, bundle, done, idle, long_met, arg_by_long, long_or_other, next, nothing_held}
use Rattle.clap.specs.Walk.{option, plain, plain_word, positional, refused, short_or_plain, subcommand, subcommand_met}
use Rattle.clap.specs.Walk.{subcommand_or_other, to_positional, trailing, value, waits, walk, walk_from, walked}
use Rattle.clap.specs.Walk.{walked_from, word_met}
use Rattle.clap.specs.Simple.{label_of, rows_at}
use Rattle.clap.specs.Walk.{answers_to, finished}
use Rattle.clap.specs.Faults.{check_fault, entered_fault, level_fault}
use Rattle.clap.specs.declared.error.kind.ErrorKind.TheVariants.{DisplayHelp, InvalidSubcommand}
use Rattle.clap.specs.Words.{subcommand_of}
use Rattle.clap.specs.Walk.{all_of, first_of, rows_after}
use Rattle.std.specs.Option.{option_map_or}
use Rattle.std.specs.Borrow.{Bor}
use Rattle.clap.specs.Facts.{parser_of_value, unwrap_or_range}
use Rattle.clap.specs.Kinds.{range_kinds, value_kinds}
use Rattle.clap.specs.Walk.{action_of, most_values}
use Rattle.clap.specs.declared.builder.action.ArgAction.{ArgAction}
use Rattle.clap.specs.declared.builder.action.ArgAction.TheVariants.{Append, Help, Set, SetTrue}
use Rattle.std.specs.List.{list_all, list_any}
use Rattle.std.proofs.lemmas.Bool.{and_parts, both_ways, or_cases}
use Rattle.osm_words.specs.CommandLine.{osmrepl_app, values_in}
use Rattle.osm_words.specs.Steps.Commands.{HasValue, HasValues, HasWord, HasWords, IsCommand, IsCommandOf, IsOneOf, command_names}
use Rattle.osm_words.specs.Steps.Commands.{times_of, words_of}
use Rattle.osm_words.proofs.WordLemmas.{Each, HasFirst, HasValueIn, IsFlag, IsGoodRule, IsGoodValue, MayBeEmpty, Passes, TakesValue, first_passes}
use Rattle.osm_words.proofs.WordLemmas.{found_of_each, level_passes, may_be_empty, second_passes, words_have_values}

-- a step that meets no subcommand
abbrev IsOwn : Step → Type 0
IsOwn (next w) = Unit {0}
IsOwn (trailing p) = Unit {0}
IsOwn (subcommand name) = ⊥
IsOwn value = Unit {0}

plain_own : (c : List Rule) (w : Waiting) (word : Text) (h : Held) → IsOwn (plain_word c w word h).1
plain_own c idle word h = tt
plain_own c (option id) word h = tt
plain_own c positional word h = tt

flag_own : (c : List Rule) (w : Waiting) (word : Text) (h : Held) (o : Outcome) → IsOwn (after_flag c w word h o).1
flag_own c w word h done = tt
flag_own c w word h (waits id) = tt
flag_own c w word h plain = plain_own c w word h
flag_own c w word h refused = plain_own c w word h

short_own : (c : List Rule) (w : Waiting) (word : Text) (o : Option Text) (h : Held) → IsOwn (short_or_plain c w word o h).1
short_own c w word None h = plain_own c w word h
short_own c w word (Some flags) h = flag_own c w word (bundle c flags h).0 (bundle c flags h).1

long_own : (c : List Rule) (w : Waiting) (word : Text) (o : Option (Text × Option Text)) (h : Held) → IsOwn (long_or_other c w word o h).1
long_own c w word None h = short_own c w word (short_of word) h
long_own c w word (Some p) h = flag_own c w word (long_met c (arg_by_long c p.0) p.1 h).0 (long_met c (arg_by_long c p.0) p.1 h).1

-- such a step stops no walk
own_goes_on : (c : List Rule) (word : Text) (w : Walk) (h : Held) (s : Step) → IsOwn s → w.stopped ≡ None → (after_step c word w h s).stopped ≡ None
own_goes_on c word w h (next v) own none = none
own_goes_on c word w h (trailing p) own none = none
own_goes_on c word w h (subcommand name) own none = absurd own
own_goes_on c word w h value own none = go (arg_by_index c w.position)
  where
    go : (o : Option Rule) → (to_positional c o word w h).stopped ≡ None
    go None = none
    go (Some a) = refl

-- a walk doesn't stop at `help`
abbrev IsNoHelp : Option (Text × List Text) → Type 0
IsNoHelp None = Unit {0}
IsNoHelp (Some p) = bytes_eq p.0 (codes "help") ≡ false

-- once it has stopped, it stays at that name
stays : (c : List Rule) (names : Names) (w : Walk) (p : Text × List Text) (words : List Text) → w.stopped ≡ Some p → bytes_eq p.0 (codes "help") ≡ false
    → IsNoHelp (fold (walked c names) w words).stopped
unfolding walked
stays c names w p [] at fine = rw at fine
stays c names w p (word ∷ rest) at fine =
    stays c names (walked c names w word) (p.0, p.1 ++ word ∷ []) rest (ap (λ (o : Option (Text × List Text)). (walked_from c names o w word).stopped) at) fine

-- after a word that passes, a walk goes on, or it has stopped at a name that isn't `help`
abbrev GoesOn : Option (Text × List Text) → Type 0
GoesOn stopped = (stopped ≡ None) ⊎ ((name : Text) × (stopped ≡ Some (name, [])) × (bytes_eq name (codes "help") ≡ false))

help_faulty : (s : Shape) (name word : Text) (h : Held) → s.disable_help_subcommand ≡ false
    → other_fault s (Some name) word h ≡ [] → bytes_eq name (codes "help") ≡ false
help_faulty s name word h on passes = go (bytes_eq name (codes "help")) s.disable_help_subcommand on passes
  where
    go : (b d : Bool) → d ≡ false → cond (b && not d) (DisplayHelp ∷ InvalidSubcommand ∷ []) [] ≡ [] → b ≡ false
    go true false on h = absurd cc
    go true true on h = absurd cc
    go false d on h = refl

goes_on : (s : Shape) (w : Walk) (word : Text) (t : Bool) (m : Option Text) → w.stopped ≡ None → s.disable_help_subcommand ≡ false
    → cond t [] (other_fault s m word w.held) ≡ []
    → GoesOn (after_step s.rules word w
    (cond t (w.held, value) (subcommand_or_other s.rules m w.waiting w.position word w.held)).0
    (cond t (w.held, value) (subcommand_or_other s.rules m w.waiting w.position word w.held)).1).stopped
goes_on s w word true m none on h = inl (own_goes_on s.rules word w w.held value tt none)
goes_on s w word false (Some name) none on h = inr (name, refl, help_faulty s name word w.held on h)
goes_on s w word false None none on h = inl (go (bytes_eq word (45 ∷ 45 ∷ [])))
  where
    other : Held × Step
    other = long_or_other s.rules w.waiting word (long_of word) w.held

    go : (b : Bool) → (after_step s.rules word w (cond b (w.held, trailing w.position) other).0 (cond b (w.held, trailing w.position) other).1).stopped ≡ None
    go true = none
    go false = own_goes_on s.rules word w other.0 other.1 (long_own s.rules w.waiting word (long_of word) w.held) none

turn_passes : (s : Shape) (names : Names) (w : Walk) (word : Text) → w.stopped ≡ None → turn_fault s names w word ≡ []
    → word_fault s names w.is_trailing w.waiting word w.held ≡ []
turn_passes s names w word none h = go w.stopped none h
  where
    others : Kinds
    others = step_fault s w.position (word_met s.rules names w.is_trailing w.waiting w.position word w.held).0
        (word_met s.rules names w.is_trailing w.waiting w.position word w.held).1

    go : (o : Option (Text × List Text)) → o ≡ None
        → cond (is_some o) [] (or_else (word_fault s names w.is_trailing w.waiting word w.held) others) ≡ []
        → word_fault s names w.is_trailing w.waiting word w.held ≡ []
    go None e h = first_passes _ others h
    go (Some p) e h = absurd cc

no_help : (s : Shape) (names : Names) (w : Walk) (words : List Text) → s.disable_help_subcommand ≡ false → w.stopped ≡ None → walk_fault s names w words ≡ []
    → IsNoHelp (fold (walked s.rules names) w words).stopped
unfolding walked walk_fault
no_help s names w [] on none h = rw none tt
no_help s names w (word ∷ rest) on none h =
    let turn : turn_fault s names w word ≡ [] = first_passes _ (walk_fault s names (walked s.rules names w word) rest) h in
    let after : walk_fault s names (walked s.rules names w word) rest ≡ [] = second_passes (turn_fault s names w word) _ h in
    let met : Held × Step = word_met s.rules names w.is_trailing w.waiting w.position word w.held in
    let is : walked s.rules names w word ≡ after_step s.rules word w met.0 met.1 =
    ap (λ (o : Option (Text × List Text)). walked_from s.rules names o w word) none in
    let on_so : GoesOn (after_step s.rules word w met.0 met.1).stopped =
    goes_on s w word w.is_trailing (subcommand_met names w.waiting word) none on (turn_passes s names w word none turn) in
    elim on_so [
      | inl e ↦ no_help s names (walked s.rules names w word) rest on (ap (λ (v : Walk). v.stopped) is ∙ e) after
      | inr e ↦ stays s.rules names (walked s.rules names w word) (e.0, []) rest (ap (λ (v : Walk). v.stopped) is ∙ e.1) e.2
    ]

-- what the last checks of the program's command pass, if a command was named
is_named : (rows : List Row) (has : Bool) → check_fault (built osmrepl_app).top rows has ≡ [] → has ≡ true
is_named rows true h = refl
is_named rows false h = absurd cc

-- ---- the words of the commands

abbrev refuses : Kinds → Bool
refuses [] = false
refuses (k ∷ ks) = true

not_empty : (ks : Kinds) → refuses ks ≡ true → ks ≡ [] → ⊥
not_empty [] h none = absurd cc
not_empty (k ∷ ks) h none = absurd cc

-- the first value is there, and only of a time or kinds it may be empty
abbrev has_first : Text → List Text → Bool
has_first id [] = false
has_first id ([] ∷ vs) = may_be_empty id
has_first id ((x ∷ xs) ∷ vs) = true

first_there : (id : Text) (vs : List Text) → has_first id vs ≡ true → HasFirst id vs
first_there id [] h = absurd cc
first_there id ([] ∷ vs) h = λ none. h
first_there id ((x ∷ xs) ∷ vs) h = λ none. absurd cc

-- an empty value is not_empty, unless it is a time or kinds
abbrev takes_filled : Rule → Bool
takes_filled a = refuses (value_kinds a.ignore_case (parser_of_value a.parser) []) || may_be_empty a.id

filled_there : (a : Rule) → takes_filled a ≡ true → value_kinds a.ignore_case (parser_of_value a.parser) [] ≡ [] → MayBeEmpty a.id
filled_there a h none = elim (or_cases (refuses (value_kinds a.ignore_case (parser_of_value a.parser) [])) (may_be_empty a.id) h) [
  | inl refuse ↦ absurd (not_empty _ refuse none)
  | inr may ↦ may
]

abbrev takes_value : Rule → Bool
takes_value a = refuses (range_kinds (unwrap_or_range a.range).start_inclusive (most_values a) 0) && takes_filled a

-- `IsGoodRule`, as a test
abbrev is_good_use : ArgAction → Rule → Bool
is_good_use Help a = true
is_good_use Set a = takes_value a
is_good_use Append a = takes_value a
is_good_use SetTrue a = has_first a.id a.missing && takes_filled a
is_good_use _ a = false

abbrev has_good_default : Text → List Text → Bool
has_good_default id [] = true
has_good_default id (v ∷ vs) = has_first id (v ∷ vs)

abbrev is_good_rule : Rule → Bool
is_good_rule a = is_good_use (action_of a) a && has_good_default a.id a.defaults

takes_value_there : (a : Rule) → (action_of a ≡ Set) ⊎ (action_of a ≡ Append) → takes_value a ≡ true → TakesValue a
takes_value_there a sets h =
    let parts : (refuses (range_kinds (unwrap_or_range a.range).start_inclusive (most_values a) 0) ≡ true) × (takes_filled a ≡ true) = and_parts _ _ h in
    record { sets = sets; some = not_empty _ parts.0; empty = filled_there a parts.1 }

good_use : (x : ArgAction) (a : Rule) → action_of a ≡ x → is_good_use x a ≡ true → (action_of a ≡ Help) ⊎ TakesValue a ⊎ IsFlag a
good_use Help a is h = inl is
good_use Set a is h = inr (inl (takes_value_there a (inl is) h))
good_use Append a is h = inr (inl (takes_value_there a (inr is) h))
good_use SetTrue a is h =
    let parts : (has_first a.id a.missing ≡ true) × (takes_filled a ≡ true) = and_parts _ _ h in
    inr (inr (record { is_flag = is; some = first_there a.id a.missing parts.0; empty = filled_there a parts.1 }))
good_use _ a is h = absurd cc

good_default : (id : Text) (d : List Text) → has_good_default id d ≡ true → (d ≡ []) ⊎ HasFirst id d
good_default id [] h = inl refl
good_default id (v ∷ vs) h = inr (first_there id (v ∷ vs) h)

good_rules : (c : List Rule) → list_all is_good_rule c ≡ true → Each IsGoodRule c
good_rules [] h = tt
good_rules (a ∷ rest) h =
    let parts : (is_good_rule a ≡ true) × (list_all is_good_rule rest ≡ true) = and_parts _ _ h in
    let of_rule : (is_good_use (action_of a) a ≡ true) × (has_good_default a.id a.defaults ≡ true) = and_parts _ _ parts.0 in
    (record { use_is = good_use (action_of a) a refl of_rule.0; default_is = good_default a.id a.defaults of_rule.1 }, good_rules rest parts.1)

-- a rule of that name has to be met
abbrev has_needed : List Rule → Text → Bool
has_needed c id = list_any (λ (a : Rule). a.required && bytes_eq a.id id) c

needed_value : (rows : List Row) (id : Text) (c : List Rule) → Each (HasValueIn rows) c → has_needed c id ≡ true → IsGoodValue id (first_of id rows)
needed_value rows id [] each h = absurd cc
needed_value rows id (a ∷ rest) each h = elim (or_cases (a.required && bytes_eq a.id id) (has_needed rest id) h) [
  | inl here ↦ let parts : (a.required ≡ true) × (bytes_eq a.id id ≡ true) = and_parts _ _ here in
      subst (λ (t : Text). IsGoodValue t (first_of t rows)) ((bytes_eq-Decides a.id id).0 parts.1) (each.0 parts.0)
  | inr later ↦ needed_value rows id rest each.1 later
]

abbrev has_filled : List Rule → Text → Bool
has_filled c id = not (may_be_empty id) && has_needed c id

has_word : (rows : List Row) (id : Text) (c : List Rule) → Each (HasValueIn rows) c → has_filled c id ≡ true → HasWord rows id
has_word rows id c each h = go (may_be_empty id) refl (and_parts _ _ h).0 (first_of id rows) refl (needed_value rows id c each (and_parts _ _ h).1)
  where
    go : (b : Bool) → may_be_empty id ≡ b → not b ≡ true → (o : Option Text) → first_of id rows ≡ o → IsGoodValue id o → HasWord rows id
    go true is h o e good = absurd cc
    go false is h None e good = absurd good
    go false is h (Some v) e good = record { value = v; is_first = e; is_filled = λ none. both_ways (may_be_empty id) is (good none) }

has_words : (rows : List Row) (c : List Rule) (names : List Text) → Each (HasValueIn rows) c → list_all (has_filled c) names ≡ true → HasWords rows names
has_words rows c [] each h = tt
has_words rows c (id ∷ names) each h = (has_word rows id c each (and_parts _ _ h).0, has_words rows c names each (and_parts _ _ h).1)

has_times : (rows : List Row) (c : List Rule) (names : List Text) → Each (HasValueIn rows) c → list_all (has_needed c) names ≡ true → HasValues rows names
has_times rows c [] each h = tt
has_times rows c (id ∷ names) each h =
    (go (first_of id rows) refl (needed_value rows id c each (and_parts _ _ h).0), has_times rows c names each (and_parts _ _ h).1)
  where
    go : (o : Option Text) → first_of id rows ≡ o → IsGoodValue id o → HasValue rows id
    go None e good = absurd good
    go (Some v) e good = record { value = v; is_first = e }

one_of : (name : Text) (names : List Text) → list_any (bytes_eq name) names ≡ true → IsOneOf name names
one_of name [] h = absurd cc
one_of name (n ∷ ns) h = elim (or_cases (bytes_eq name n) (list_any (bytes_eq name) ns) h) [
  | inl here ↦ inl ((bytes_eq-Decides name n).0 here)
  | inr later ↦ inr (one_of name ns later)
]

-- ---- the commands

-- clap's own `help`
abbrev is_help : Text → List Text → Bool
is_help name [] = bytes_eq name (codes "help")
is_help name (alias ∷ aliases) = false

no_help_met : (word name : Text) (aliases : List Text) → bytes_eq word (codes "help") ≡ false → is_help name aliases ≡ true
    → answers_to word (name, aliases) ≡ true → ⊥
no_help_met word name [] fine is h =
    let named : name ≡ word = (bytes_eq-Decides name word).0 (or_false (bytes_eq name word) h) in
    both_ways (bytes_eq word (codes "help")) fine (subst (λ (t : Text). bytes_eq t (codes "help") ≡ true) named is)
  where
    or_false : (b : Bool) → (b || false) ≡ true → b ≡ true
    or_false true h = refl
    or_false false h = absurd cc
no_help_met word name (alias ∷ aliases) fine is h = absurd cc

-- one of the program's commands, with rules for its words
abbrev has_command_words : Shape → Bool
has_command_words s = list_all is_good_rule s.rules && (list_any (bytes_eq s.name) command_names
    && (list_all (has_filled s.rules) (words_of s.name) && list_all (has_needed s.rules) (times_of s.name)))

abbrev is_known : Shape → Bool
is_known s = is_help s.name s.aliases || has_command_words s

all_known : list_all is_known (built osmrepl_app).subs ≡ true
all_known = refl

each_known : (subs : List Shape) → list_all is_known subs ≡ true → Each (λ s. is_known s ≡ true) subs
each_known [] h = tt
each_known (s ∷ subs) h = ((and_parts _ _ h).0, each_known subs (and_parts _ _ h).1)

is_command : (s : Shape) (rest : List Text) → has_command_words s ≡ true → level_fault s [] nothing_held rest false [] ≡ []
    → IsCommandOf s.name (rows_after s.rules [] rest)
is_command s rest h passes =
    let rules : (list_all is_good_rule s.rules ≡ true) × ((list_any (bytes_eq s.name) command_names
    && (list_all (has_filled s.rules) (words_of s.name) && list_all (has_needed s.rules) (times_of s.name))) ≡ true) = and_parts _ _ h in
    let names : (list_any (bytes_eq s.name) command_names ≡ true)
    × ((list_all (has_filled s.rules) (words_of s.name) && list_all (has_needed s.rules) (times_of s.name)) ≡ true) = and_parts _ _ rules.1 in
    let words : (list_all (has_filled s.rules) (words_of s.name) ≡ true) × (list_all (has_needed s.rules) (times_of s.name) ≡ true) = and_parts _ _ names.1 in
    let rows : List Row = rows_after s.rules [] rest in
    let values : Each (HasValueIn rows) s.rules = words_have_values s rest (good_rules s.rules rules.0) passes in
    (one_of s.name command_names names.0, has_words rows s.rules (words_of s.name) values words.0, has_times rows s.rules (times_of s.name) values words.1)

entered_command : (a : App) (o : Option (Text × List Text)) → list_all is_known a.subs ≡ true → IsNoHelp o → is_some (entered a o) ≡ true
    → entered_fault a o ≡ [] → IsCommand (entered a o)
entered_command a None known fine some passes = absurd cc
entered_command a (Some p) known fine some passes = go (find (λ (s : Shape). answers_to p.0 (label_of s)) a.subs) refl some passes
  where
    go : (o : Option Shape) → find (λ (s : Shape). answers_to p.0 (label_of s)) a.subs ≡ o → is_some (option_map (λ s. rows_at s p.1) o) ≡ true
        → option_map_or (λ s. level_fault s [] nothing_held p.1 false []) o [] ≡ [] → IsCommand (option_map (λ s. rows_at s p.1) o)
    go None is some passes = absurd cc
    go (Some s) is some passes =
        let found = found_of_each (λ (s : Shape). is_known s ≡ true) (λ (s : Shape). answers_to p.0 (label_of s)) a.subs s (each_known a.subs known) is in
        elim (or_cases (is_help s.name s.aliases) (has_command_words s) found.0) [
          | inl help ↦ absurd (no_help_met p.0 s.name s.aliases fine help found.1)
          | inr words ↦ is_command s p.1 words passes
        ]

-- words that clap doesn't refuse name one of the program's commands, and give it the values of its words
pub names_command : (words : List Text) → fault_of osmrepl_app words ≡ [] → IsCommand (subcommand_of osmrepl_app words)
names_command words h =
    let a : App = built osmrepl_app in
    let ws : List Text = argument_words osmrepl_app words in
    let end : Walk = walk a.top.rules (names_of a) nothing_held ws in
    let parts : Passes a.top (names_of a) nothing_held ws (is_some (entered a end.stopped)) (entered_fault a end.stopped) =
    level_passes a.top (names_of a) nothing_held ws (is_some (entered a end.stopped)) (entered_fault a end.stopped) h in
    entered_command a end.stopped all_known (no_help a.top (names_of a) (walk_from nothing_held) ws refl refl parts.walks)
    (is_named (finished a.top.rules end.held) (is_some (entered a end.stopped)) parts.checks) parts.enters

-- a word with a value was found
pub no_value : (found : Option (Bor Text)) (name : Text) (rows : List Row) → found ≡ None
    → option_map (λ (s : Bor Text). s.now) found ≡ first_of name rows → HasValue rows name → ⊥
no_value found name rows none is has =
    let bad : ◌≡◌ {A = Option Text} None (Some has.value) = sym (ap (option_map (λ (s : Bor Text). s.now)) none) ∙ (is ∙ has.is_first) in
    absurd cc

-- the values that were found
pub has_values : (name : Text) (found : Option (Bor (List (Bor Text)))) (values : Bor (List (Bor Text))) (items : List (Bor Text)) (rows : List Row)
    → option_map (λ s. map (λ v. v.now) s.now) found ≡ all_of name rows → found ≡ Some values → items ≡ values.now
    → map (λ (value : Bor Text). value.now) items ≡ values_in name rows
has_values name found values items rows is some same =
    let these : Some (map (λ (v : Bor Text). v.now) values.now) ≡ all_of name rows =
    sym (ap (option_map (λ (s : Bor (List (Bor Text))). map (λ (v : Bor Text). v.now) s.now)) some) ∙ is in
    ap (map (λ (value : Bor Text). value.now)) same ∙ ap (λ (o : Option (List Text)). unwrap_or o []) these

-- no values were found
pub has_no_values : (name : Text) (found : Option (Bor (List (Bor Text)))) (items : List (Bor Text)) (rows : List Row)
    → option_map (λ s. map (λ v. v.now) s.now) found ≡ all_of name rows → found ≡ None → items ≡ []
    → map (λ (value : Bor Text). value.now) items ≡ values_in name rows
has_no_values name found items rows is none empty =
    let no_row : None ≡ all_of name rows =
    sym (ap (option_map (λ (s : Bor (List (Bor Text))). map (λ (v : Bor Text). v.now) s.now)) none) ∙ is in
    ap (map (λ (value : Bor Text). value.now)) empty ∙ ap (λ (o : Option (List Text)). unwrap_or o []) no_row

-- a word with a value, or without one
pub may_have : (found : Option (Bor Text)) (name : Text) (rows : List Row)
    → option_map (λ (s : Bor Text). s.now) found ≡ first_of name rows → MatchOption found (first_of name rows ≡ None)
    (λ v. first_of name rows ≡ Some v.now)
may_have None name rows is = sym is
may_have (Some v) name rows is = sym is
