-- Rows of a command whose words pass: each has a first value, and only a time and kinds may be empty.
use Rattle.std.proofs.Common.{◌≡◌, ◌++◌, ◌&&◌, ◌||◌, ◌⊎◌, inl, inr, ℕ, zero, suc, Bool, true, false, not, List, []}
use Rattle.std.proofs.Common.{◌∷◌, Option, Some, None, refl, sym, subst, is_some, codes, length, drop}
use Rattle.std.specs.Prelude.{cond, encode_utf8, find, fold, option_and_then, slice_get}
use Rattle.std.specs.Option.{option_map_or}
use Rattle.std.specs.List.{list_any}
use Rattle.std.specs.Str.{bytes_eq, chars}
use Rattle.std.proofs.lemmas.Option.{same_Some}
use Rattle.std.proofs.lemmas.Slice.Eq.{bytes_eq-Decides}
use Rattle.clap.specs.Facts.{explicit_source, parser_of_value, unwrap_or_range}
use Rattle.clap.specs.Kinds.{Kinds, check_kinds, or_else, range_kinds, value_kinds}
use Rattle.clap.specs.Lexer.{long_of, short_of}
use Rattle.clap.specs.Simple.{Shape}
use Rattle.clap.specs.Takes.{is_given}
use Rattle.clap.specs.Walk.{Held, Names, Outcome, Row, Rule, Step, Text, Waiting, Walk, action_of, after_flag}
use Rattle.clap.specs.Walk.{after_step, arg_by_id, arg_by_index, arg_by_long, arg_by_short, at_row, attached_value}
use Rattle.clap.specs.Walk.{bundle, bundle_met, bundle_step, default_rows, done, finished, first_of, flag_met, has_row}
use Rattle.clap.specs.Walk.{idle, is_pending, long_met, long_or_other, more_values, most_values, next, nothing_held}
use Rattle.clap.specs.Walk.{option, option_met, option_word, plain, plain_word, positional, pushed, reacted, reading_by}
use Rattle.clap.specs.Walk.{refused, rows_after, settled, settled_rows, short_met, short_or_plain, subcommand}
use Rattle.clap.specs.Walk.{subcommand_met, subcommand_or_other, takes_several, takes_values, to_positional, trailing}
use Rattle.clap.specs.Walk.{used, used_as, used_by_id, value, values_or_missing, waits, walk, walk_from, walked}
use Rattle.clap.specs.Walk.{walked_from, with_default, with_values, without, word_met}
use Rattle.clap.specs.Faults.{action_fault, bundle_fault, bundle_step_fault, check_fault, defaults_fault}
use Rattle.clap.specs.Faults.{flag_word_fault, flags_fault, level_fault, long_fault, option_fault, other_fault}
use Rattle.clap.specs.Faults.{positional_fault, react_fault, repeat_fault, set_fault, settle_fault, short_fault}
use Rattle.clap.specs.Faults.{step_fault, stray_fault, turn_fault, use_fault, values_fault, walk_fault, word_fault}
use Rattle.clap.specs.declared.builder.action.ArgAction.{ArgAction}
use Rattle.clap.specs.declared.builder.action.ArgAction.TheVariants.{Append, Help, Set, SetTrue}
use Rattle.clap.specs.declared.error.kind.ErrorKind.TheVariants.{TooManyValues}
use Rattle.clap.specs.declared.parser.matches.ValueSource.{ValueSource}
use Rattle.clap.specs.declared.parser.matches.ValueSource.TheVariants.{CommandLine, DefaultValue}

-- if two steps pass, the first does
pub first_passes : (a b : Kinds) → or_else a b ≡ [] → a ≡ []
first_passes [] b h = refl
first_passes (k ∷ ks) b h = absurd cc

pub second_passes : (a b : Kinds) → or_else a b ≡ [] → b ≡ []
second_passes [] b h = h
second_passes (k ∷ ks) b h = absurd cc

-- a level that passes passes its walk, the use that is pending at its end, and its last checks
pub record Passes (s : Shape) (names : Names) (h : Held) (words : List Text) (has : Bool) (below : Kinds) : Type 0 where
  pub walks : walk_fault s names (walk_from h) words ≡ []
  pub enters : below ≡ []
  pub settles : settle_fault s.rules s.args_override_self (walk s.rules names h words).held ≡ []
  pub checks : check_fault s (finished s.rules (walk s.rules names h words).held) has ≡ []

pub level_passes : (s : Shape) (names : Names) (h : Held) (words : List Text) (has : Bool) (below : Kinds)
    → level_fault s names h words has below ≡ [] → Passes s names h words has below
level_passes s names h words has below e =
    let end : Held = (walk s.rules names h words).held in
    let walks : Kinds = walk_fault s names (walk_from h) words in
    let settles : Kinds = settle_fault s.rules s.args_override_self end in
    let defaults : Kinds = defaults_fault (settled s.rules end).rows s.rules in
    let checks : Kinds = check_fault s (finished s.rules end) has in
    let after_walk : or_else below (or_else settles (or_else defaults checks)) ≡ [] = second_passes walks _ e in
    let after_below : or_else settles (or_else defaults checks) ≡ [] = second_passes below _ after_walk in
    record {
      walks = first_passes walks (or_else below (or_else settles (or_else defaults checks))) e;
      enters = first_passes below (or_else settles (or_else defaults checks)) after_walk;
      settles = first_passes settles (or_else defaults checks) after_below;
      checks = second_passes defaults checks (second_passes settles (or_else defaults checks) after_below);
    }

-- each of a list
abbrev pub Each : {X : Type 0} → (X → Type 0) → List X → Type 0
Each P [] = Unit {0}
Each P (x ∷ xs) = P x × Each P xs

each_of_both : {X : Type 0} (P : X → Type 0) (xs ys : List X) → Each P xs → Each P ys → Each P (xs ++ ys)
each_of_both P [] ys h k = k
each_of_both P (x ∷ xs) ys h k = (h.0, each_of_both P xs ys h.1 k)

pub found_of_each : {X : Type 0} (P : X → Type 0) (p : X → Bool) (xs : List X) (x : X) → Each P xs → find p xs ≡ Some x → P x × (p x ≡ true)
found_of_each P p [] x each h = absurd cc
found_of_each P p (y ∷ ys) x each h = go (p y) refl (found_of_each P p ys x each.1) h
  where
    go : (b : Bool) → p y ≡ b → (find p ys ≡ Some x → P x × (p x ≡ true)) → cond b (Some y) (find p ys) ≡ Some x → P x × (p x ≡ true)
    go true e later h = subst (λ z. P z × (p z ≡ true)) (same_Some y x h) (each.0, e)
    go false e later h = later h

-- a time and kinds may be empty, as far as the words are looked at here
abbrev pub may_be_empty : Text → Bool
may_be_empty id = bytes_eq id (codes "TIME") || bytes_eq id (codes "KINDS")

abbrev pub MayBeEmpty : Text → Type 0
MayBeEmpty id = may_be_empty id ≡ true

-- the first value is there, and only of those it may be empty
abbrev pub HasFirst : Text → List Text → Type 0
HasFirst id [] = ⊥
HasFirst id (v ∷ vs) = v ≡ [] → MayBeEmpty id

has_first_more : (id : Text) (vs more : List Text) → HasFirst id vs → HasFirst id (vs ++ more)
has_first_more id [] more h = absurd h
has_first_more id (v ∷ vs) more h = h

abbrev IsGoodRow : Row → Type 0
IsGoodRow r = HasFirst r.id r.values

-- a use gives at least one value, which takes the place of an earlier one or comes after it, and an empty one only for a
-- time or kinds
pub record TakesValue (a : Rule) : Type 0 where
  pub sets : (action_of a ≡ Set) ⊎ (action_of a ≡ Append)
  pub some : range_kinds (unwrap_or_range a.range).start_inclusive (most_values a) 0 ≡ [] → ⊥
  pub empty : value_kinds a.ignore_case (parser_of_value a.parser) [] ≡ [] → MayBeEmpty a.id

-- a use of a flag gives the value that stands for one without a value, and no value of a word can be empty
pub record IsFlag (a : Rule) : Type 0 where
  pub is_flag : action_of a ≡ SetTrue
  pub some : HasFirst a.id a.missing
  pub empty : value_kinds a.ignore_case (parser_of_value a.parser) [] ≡ [] → MayBeEmpty a.id

-- a rule whose uses answer with help, or give a value, and so does its default if it has one
pub record IsGoodRule (a : Rule) : Type 0 where
  pub use_is : (action_of a ≡ Help) ⊎ TakesValue a ⊎ IsFlag a
  pub default_is : (a.defaults ≡ []) ⊎ HasFirst a.id a.defaults

-- ---- one use

at_row_good : (id : Text) (change : Row → List Row) (missing rows : List Row) → ((r : Row) → IsGoodRow r → Each IsGoodRow (change r)) → Each IsGoodRow missing
    → Each IsGoodRow rows → Each IsGoodRow (at_row id change missing rows)
at_row_good id change missing [] changed new old = new
at_row_good id change missing (r ∷ rs) changed new old = go (bytes_eq r.id id) (at_row_good id change missing rs changed new old.1)
  where
    go : (b : Bool) → Each IsGoodRow (at_row id change missing rs) → Each IsGoodRow (cond b (change r ++ rs) (r ∷ at_row id change missing rs))
    go true later = each_of_both IsGoodRow (change r) rs (changed r old.0) old.1
    go false later = (old.0, later)

-- the row of an argument, once it has these values
with_good : (a : Rule) (source : ValueSource) (values : List Text) (rows : List Row) → HasFirst a.id values → Each IsGoodRow rows
    → Each IsGoodRow (with_values a.id (reading_by a) source values rows)
with_good a source values rows good old =
    at_row_good a.id (more_values source values) _ rows (λ r h. (has_first_more r.id r.values values h, tt)) (good, tt) old

without_good : (id : Text) (rows : List Row) → Each IsGoodRow rows → Each IsGoodRow (without id rows)
without_good id rows old = at_row_good id (λ _. []) [] rows (λ r h. tt) tt old

-- a use whose values pass
values_good : (a : Rule) (v : Text) (vs : List Text) → (value_kinds a.ignore_case (parser_of_value a.parser) [] ≡ [] → MayBeEmpty a.id)
    → values_fault a (v ∷ vs) ≡ [] → HasFirst a.id (v ∷ vs)
values_good a v vs empty all none =
    let first : value_kinds a.ignore_case (parser_of_value a.parser) v ≡ [] = first_passes _ (values_fault a vs) all in
    empty (subst (λ (t : Text). value_kinds a.ignore_case (parser_of_value a.parser) t ≡ []) none first)

flag_used_good : (again : Bool) (a : Rule) (values : List Text) (rows : List Row) → IsFlag a → use_fault again a values rows ≡ [] → Each IsGoodRow rows
    → Each IsGoodRow (used_as SetTrue a.id (reading_by a) (values_or_missing a values) rows)
flag_used_good again a [] rows flag passes old = with_good a CommandLine a.missing (without a.id rows) flag.some (without_good a.id rows old)
flag_used_good again a (v ∷ vs) rows flag passes old =
    let acts : action_fault (action_of a) again a (v ∷ vs) rows ≡ [] =
    second_passes (range_kinds (unwrap_or_range a.range).start_inclusive (most_values a) (length (v ∷ vs))) _ passes in
    let sets : set_fault again a (v ∷ vs) rows ≡ [] = subst (λ (x : ArgAction). action_fault x again a (v ∷ vs) rows ≡ []) flag.is_flag acts in
    let all : values_fault a (v ∷ vs) ≡ [] = second_passes (repeat_fault again a.id rows) _ sets in
    with_good a CommandLine (v ∷ vs) (without a.id rows) (values_good a v vs flag.empty all) (without_good a.id rows old)

set_good : (again : Bool) (a : Rule) (values : List Text) (rows : List Row) → TakesValue a → action_of a ≡ Set → use_fault again a values rows ≡ []
    → Each IsGoodRow rows → Each IsGoodRow (used_as Set a.id (reading_by a) (values_or_missing a values) rows)
set_good again a [] rows takes is passes old =
    absurd (takes.some (first_passes (range_kinds (unwrap_or_range a.range).start_inclusive (most_values a) 0) _ passes))
set_good again a (v ∷ vs) rows takes is passes old =
    let acts : action_fault (action_of a) again a (v ∷ vs) rows ≡ [] =
    second_passes (range_kinds (unwrap_or_range a.range).start_inclusive (most_values a) (length (v ∷ vs))) _ passes in
    let sets : set_fault again a (v ∷ vs) rows ≡ [] = subst (λ (x : ArgAction). action_fault x again a (v ∷ vs) rows ≡ []) is acts in
    let all : values_fault a (v ∷ vs) ≡ [] = second_passes (repeat_fault again a.id rows) _ sets in
    with_good a CommandLine (v ∷ vs) (without a.id rows) (values_good a v vs takes.empty all) (without_good a.id rows old)

append_good : (again : Bool) (a : Rule) (values : List Text) (rows : List Row) → TakesValue a → action_of a ≡ Append → use_fault again a values rows ≡ []
    → Each IsGoodRow rows → Each IsGoodRow (used_as Append a.id (reading_by a) (values_or_missing a values) rows)
append_good again a [] rows takes is passes old =
    absurd (takes.some (first_passes (range_kinds (unwrap_or_range a.range).start_inclusive (most_values a) 0) _ passes))
append_good again a (v ∷ vs) rows takes is passes old =
    let acts : action_fault (action_of a) again a (v ∷ vs) rows ≡ [] =
    second_passes (range_kinds (unwrap_or_range a.range).start_inclusive (most_values a) (length (v ∷ vs))) _ passes in
    let all : values_fault a (v ∷ vs) ≡ [] = subst (λ (x : ArgAction). action_fault x again a (v ∷ vs) rows ≡ []) is acts in
    with_good a CommandLine (v ∷ vs) rows (values_good a v vs takes.empty all) old

used_good : (again : Bool) (a : Rule) (values : List Text) (rows : List Row) → IsGoodRule a → use_fault again a values rows ≡ [] → Each IsGoodRow rows
    → Each IsGoodRow (used a values rows)
used_good again a values rows good passes old = elim good.use_is [
  | inl help ↦ subst (λ (x : ArgAction). Each IsGoodRow (used_as x a.id (reading_by a) (values_or_missing a values) rows)) (sym help) old
  | inr (inl takes) ↦ elim takes.sets [
    | inl is ↦ subst (λ (x : ArgAction). Each IsGoodRow (used_as x a.id (reading_by a) (values_or_missing a values) rows)) (sym is)
        (set_good again a values rows takes is passes old)
    | inr is ↦ subst (λ (x : ArgAction). Each IsGoodRow (used_as x a.id (reading_by a) (values_or_missing a values) rows)) (sym is)
        (append_good again a values rows takes is passes old)
  ]
  | inr (inr flag) ↦ subst (λ (x : ArgAction). Each IsGoodRow (used_as x a.id (reading_by a) (values_or_missing a values) rows)) (sym flag.is_flag)
      (flag_used_good again a values rows flag passes old)
]

-- ---- the walk

module _ (c : List Rule) (again : Bool) (good : Each IsGoodRule c) where
  settled_good : (h : Held) → settle_fault c again h ≡ [] → Each IsGoodRow h.rows → Each IsGoodRow (settled c h).rows
  settled_good h passes old = go h.pending passes
    where
      by_id : (o : Option Rule) (id : Text) (values : List Text) → arg_by_id c id ≡ o → option_map_or (λ (a : Rule). use_fault again a values h.rows) o [] ≡ []
          → Each IsGoodRow (used_by_id o values h.rows)
      by_id None id values found f = old
      by_id (Some a) id values found f = used_good again a values h.rows (found_of_each IsGoodRule _ c a good found).0 f old

      go : (p : Option (Text × List Text))
          → option_map_or (λ (p : Text × List Text). option_map_or (λ (a : Rule). use_fault again a p.1 h.rows) (arg_by_id c p.0) []) p [] ≡ []
          → Each IsGoodRow (settled_rows c p h.rows)
      go None f = old
      go (Some p) f = by_id (arg_by_id c p.0) p.0 p.1 refl f

  reacted_good : (a : Rule) (values : List Text) (h : Held) → IsGoodRule a → react_fault c again a values h ≡ [] → Each IsGoodRow h.rows
      → Each IsGoodRow (reacted c a values h).rows
  reacted_good a values h fine passes old =
      let settles : settle_fault c again h ≡ [] = first_passes _ (use_fault again a values (settled c h).rows) passes in
      used_good again a values (settled c h).rows fine (second_passes (settle_fault c again h) _ passes) (settled_good h settles old)

  option_good : (a : Rule) (v : Option Text) (h : Held) → IsGoodRule a → option_fault c again a v h ≡ []
      → Each IsGoodRow h.rows → Each IsGoodRow (option_met c a v h).0.rows
  option_good a (Some v) h fine passes old = reacted_good a (v ∷ []) h fine passes old
  option_good a None h fine passes old = settled_good h passes old

  long_good : (o : Option Rule) (v : Option Text) (h : Held) → ((a : Rule) → o ≡ Some a → IsGoodRule a) → long_fault c again o v h ≡ [] → Each IsGoodRow h.rows
      → Each IsGoodRow (long_met c o v h).0.rows
  long_good None v h fine passes old = old
  long_good (Some a) v h fine passes old = go (takes_values a) v passes
    where
      go : (b : Bool) (v : Option Text) → cond b (option_fault c again a v h) (cond (is_some v) (TooManyValues ∷ []) (react_fault c again a [] h)) ≡ []
          → Each IsGoodRow (cond b (option_met c a v h) (flag_met c a v h)).0.rows
      go true v f = option_good a v h (fine a refl) f old
      go false (Some v) f = old
      go false None f = reacted_good a [] h (fine a refl) f old

  short_good : (o : Option Rule) (rest : Text) (h : Held) (onward : Held → Held × Outcome) (faults : Held → Kinds) → ((a : Rule) → o ≡ Some a → IsGoodRule a)
      → ((g : Held) → faults g ≡ [] → Each IsGoodRow g.rows → Each IsGoodRow (onward g).0.rows)
      → short_fault c again o rest h faults ≡ [] → Each IsGoodRow h.rows → Each IsGoodRow (short_met c o rest h onward).0.rows
  short_good None rest h onward faults fine later passes old = old
  short_good (Some a) rest h onward faults fine later passes old = go (takes_values a) passes
    where
      go : (b : Bool) → cond b (option_fault c again a (attached_value rest) h) (or_else (react_fault c again a [] h) (faults (reacted c a [] h))) ≡ []
          → Each IsGoodRow (cond b (option_met c a (attached_value rest) h) (onward (reacted c a [] h))).0.rows
      go true f = option_good a (attached_value rest) h (fine a refl) f old
      go false f =
          let reacts : react_fault c again a [] h ≡ [] = first_passes _ (faults (reacted c a [] h)) f in
          later (reacted c a [] h) (second_passes (react_fault c again a [] h) _ f) (reacted_good a [] h (fine a refl) reacts old)

  flag_good : (o : Option ℕ) (flags : Text) (skip : ℕ) (so_far : Outcome) (h : Held) (onward : Text → ℕ → Outcome → Held
      → Held × Outcome) (faults : Text → ℕ → Held → Kinds)
      → ((flags : Text) (skip : ℕ) (so_far : Outcome) (g : Held) → faults flags skip g ≡ [] → Each IsGoodRow g.rows
      → Each IsGoodRow (onward flags skip so_far g).0.rows)
      → bundle_step_fault c again o flags skip h faults ≡ [] → Each IsGoodRow h.rows → Each IsGoodRow (bundle_step c o flags skip so_far h onward).0.rows
  flag_good None flags skip so_far h onward faults later passes old = old
  flag_good (Some x) flags zero so_far h onward faults later passes old =
      let rest : Text = drop (length (encode_utf8 x)) flags in
      short_good (arg_by_short c x) rest h (onward rest 0 done) (faults rest 0)
      (λ a found. (found_of_each IsGoodRule _ c a good found).0) (later rest 0 done) passes old
  flag_good (Some x) flags (suc skip) so_far h onward faults later passes old = later (drop (length (encode_utf8 x)) flags) skip so_far h passes old

  bundle_good : (k : ℕ) (flags : Text) (skip : ℕ) (so_far : Outcome) (h : Held) → flags_fault c again k flags skip h ≡ [] → Each IsGoodRow h.rows
      → Each IsGoodRow (bundle_met c k flags skip so_far h).0.rows
  unfolding bundle_met flags_fault
  bundle_good zero flags skip so_far h passes old = old
  bundle_good (suc k) flags skip so_far h passes old =
      flag_good (slice_get (chars flags) 0) flags skip so_far h (bundle_met c k) (flags_fault c again k) (bundle_good k) passes old

  plain_good : (w : Waiting) (word : Text) (h : Held) → Each IsGoodRow h.rows → Each IsGoodRow (plain_word c w word h).0.rows
  plain_good idle word h old = old
  plain_good positional word h old = old
  plain_good (option id) word h old = go (arg_by_id c id)
    where
      go : (o : Option Rule) → Each IsGoodRow (option_word o id word h).0.rows
      go None = old
      go (Some a) = old

  after_good : (w : Waiting) (word : Text) (h : Held) (o : Outcome) → Each IsGoodRow h.rows → Each IsGoodRow (after_flag c w word h o).0.rows
  after_good w word h done old = old
  after_good w word h (waits id) old = old
  after_good w word h plain old = plain_good w word h old
  after_good w word h refused old = plain_good w word h old

  flag_word_good : (w : Waiting) (word : Text) (o : Option (Text × Option Text)) (h : Held) → flag_word_fault c again o word h ≡ [] → Each IsGoodRow h.rows
      → Each IsGoodRow (long_or_other c w word o h).0.rows
  flag_word_good w word None h passes old = go (short_of word) passes
    where
      go : (o : Option Text) → option_map_or (λ (flags : Text). bundle_fault c again flags h) o [] ≡ [] → Each IsGoodRow (short_or_plain c w word o h).0.rows
      go None f = plain_good w word h old
      go (Some flags) f =
          after_good w word (bundle c flags h).0 (bundle c flags h).1 (bundle_good (length flags) flags h.skip plain (record h { skip = 0 }) f old)
  flag_word_good w word (Some p) h passes old =
      let met : Held × Outcome = long_met c (arg_by_long c p.0) p.1 h in
      after_good w word met.0 met.1 (long_good (arg_by_long c p.0) p.1 h (λ a found. (found_of_each IsGoodRule _ c a good found).0) passes old)

module _ (s : Shape) (names : Names) (good : Each IsGoodRule s.rules) where
  met_good : (m : Option Text) (w : Walk) (word : Text) → other_fault s m word w.held ≡ [] → Each IsGoodRow w.held.rows
      → Each IsGoodRow (subcommand_or_other s.rules m w.waiting w.position word w.held).0.rows
  met_good (Some name) w word passes old = old
  met_good None w word passes old = go (bytes_eq word (45 ∷ 45 ∷ [])) passes
    where
      go : (b : Bool) → cond b [] (flag_word_fault s.rules s.args_override_self (long_of word) word w.held) ≡ []
          → Each IsGoodRow (cond b (w.held, trailing w.position) (long_or_other s.rules w.waiting word (long_of word) w.held)).0.rows
      go true f = old
      go false f = flag_word_good s.rules s.args_override_self good w.waiting word (long_of word) w.held f old

  word_good : (w : Walk) (word : Text) → word_fault s names w.is_trailing w.waiting word w.held ≡ [] → Each IsGoodRow w.held.rows
      → Each IsGoodRow (word_met s.rules names w.is_trailing w.waiting w.position word w.held).0.rows
  word_good w word passes old = go w.is_trailing passes
    where
      go : (b : Bool) → cond b [] (other_fault s (subcommand_met names w.waiting word) word w.held) ≡ []
          → Each IsGoodRow (cond b (w.held, value) (subcommand_or_other s.rules (subcommand_met names w.waiting word) w.waiting w.position word w.held)).0.rows
      go true f = old
      go false f = met_good (subcommand_met names w.waiting word) w word f old

  step_good : (w : Walk) (word : Text) (h : Held) (step : Step) → step_fault s w.position h step ≡ [] → Each IsGoodRow h.rows
      → Each IsGoodRow (after_step s.rules word w h step).held.rows
  step_good w word h (next v) passes old = old
  step_good w word h (trailing p) passes old = old
  step_good w word h (subcommand name) passes old = old
  step_good w word h value passes old = go (arg_by_index s.rules w.position) passes
    where
      settles : (a : Rule) (b : Bool) → cond b [] (settle_fault s.rules s.args_override_self h) ≡ []
          → Each IsGoodRow (pushed a.id word (cond b h (settled s.rules h))).rows
      settles a true f = old
      settles a false f = settled_good s.rules s.args_override_self good h f old

      go : (o : Option Rule) → option_map_or (λ (a : Rule). positional_fault s.rules s.args_override_self a h) o (stray_fault s) ≡ []
          → Each IsGoodRow (to_positional s.rules o word w h).held.rows
      go None f = old
      go (Some a) f = settles a (is_pending a h.pending && takes_several a) f

  turn_good : (w : Walk) (word : Text) → turn_fault s names w word ≡ [] → Each IsGoodRow w.held.rows
      → Each IsGoodRow (walked_from s.rules names w.stopped w word).held.rows
  turn_good w word passes old = go w.stopped passes
    where
      met : Held × Step
      met = word_met s.rules names w.is_trailing w.waiting w.position word w.held

      go : (o : Option (Text × List Text))
          → cond (is_some o) [] (or_else (word_fault s names w.is_trailing w.waiting word w.held) (step_fault s w.position met.0 met.1)) ≡ []
          → Each IsGoodRow (walked_from s.rules names o w word).held.rows
      go (Some p) f = old
      go None f =
          let words : word_fault s names w.is_trailing w.waiting word w.held ≡ [] = first_passes _ (step_fault s w.position met.0 met.1) f in
          step_good w word met.0 met.1 (second_passes (word_fault s names w.is_trailing w.waiting word w.held) _ f) (word_good w word words old)

  walk_good : (w : Walk) (words : List Text) → walk_fault s names w words ≡ [] → Each IsGoodRow w.held.rows
      → Each IsGoodRow (fold (walked s.rules names) w words).held.rows
  unfolding walked walk_fault
  walk_good w [] passes old = old
  walk_good w (word ∷ rest) passes old =
      let turn : turn_fault s names w word ≡ [] = first_passes _ (walk_fault s names (walked s.rules names w word) rest) passes in
      walk_good (walked s.rules names w word) rest (second_passes (turn_fault s names w word) _ passes) (turn_good w word turn old)

-- ---- after the walk

defaults_good : (rows : List Row) (c : List Rule) → Each IsGoodRule c → Each IsGoodRow rows → Each IsGoodRow (fold with_default rows c)
defaults_good rows [] good old = old
defaults_good rows (a ∷ rest) good old = defaults_good (with_default rows a) rest good.1 (go (has_row a.id rows))
  where
    given : (d : List Text) → (d ≡ []) ⊎ HasFirst a.id d → Each IsGoodRow (default_rows a.id (reading_by a) d rows)
    given [] is = old
    given (v ∷ vs) (inl none) = absurd cc
    given (v ∷ vs) (inr first) = with_good a DefaultValue (v ∷ vs) rows first old

    go : (b : Bool) → Each IsGoodRow (cond b rows (default_rows a.id (reading_by a) a.defaults rows))
    go true = old
    go false = given a.defaults good.0.default_is

-- a required argument was given
abbrev IsGiven : List Row → Rule → Type 0
IsGiven rows a = a.required ≡ true → is_given a.id rows ≡ true

each_given : (rows : List Row) (c : List Rule) → list_any (λ (a : Rule). a.required && not (is_given a.id rows)) c ≡ false → Each (IsGiven rows) c
each_given rows [] h = tt
each_given rows (a ∷ rest) h =
    let parts = neither (a.required && not (is_given a.id rows)) (list_any (λ (a : Rule). a.required && not (is_given a.id rows)) rest) h in
    (given a.required (is_given a.id rows) parts.0, each_given rows rest parts.1)
  where
    neither : (x y : Bool) → (x || y) ≡ false → (x ≡ false) × (y ≡ false)
    neither true y e = absurd cc
    neither false y e = (refl, e)

    given : (r g : Bool) → (r && not g) ≡ false → r ≡ true → g ≡ true
    given r true e h = refl
    given true false e h = absurd cc
    given false false e h = absurd cc

third_passes : (x y z : Bool) → check_kinds x y z ≡ [] → z ≡ false
third_passes true y z h = absurd cc
third_passes false true z h = absurd cc
third_passes false false true h = absurd cc
third_passes false false false h = refl

required_given : (s : Shape) (rows : List Row) → check_fault s rows false ≡ [] → Each (IsGiven rows) s.rules
required_given s rows h = each_given rows s.rules (go s.subcommand_negates_reqs (third_passes _ _ _ h))
  where
    missing : Bool
    missing = list_any (λ (a : Rule). a.required && not (is_given a.id rows)) s.rules

    go : (b : Bool) → (not (b && false) && missing) ≡ false → missing ≡ false
    go true e = e
    go false e = e

-- a value, which may be empty only for a time or kinds
abbrev pub IsGoodValue : Text → Option Text → Type 0
IsGoodValue id None = ⊥
IsGoodValue id (Some v) = v ≡ [] → MayBeEmpty id

given_value : (id : Text) (rows : List Row) → is_given id rows ≡ true → Each IsGoodRow rows → IsGoodValue id (first_of id rows)
given_value id rows given good = go (find (λ (r : Row). bytes_eq r.id id) rows) refl given
  where
    first : (name : Text) (values : List Text) → name ≡ id → HasFirst name values → IsGoodValue id (slice_get values 0)
    first name [] e h = absurd h
    first name (v ∷ vs) e h = λ none. subst MayBeEmpty e (h none)

    go : (o : Option Row) → find (λ (r : Row). bytes_eq r.id id) rows ≡ o → option_map_or (λ (r : Row). explicit_source r.source) o false ≡ true
        → IsGoodValue id (option_and_then (λ (r : Row). slice_get r.values 0) o)
    go None e h = absurd cc
    go (Some r) e h =
        let of_rows = found_of_each IsGoodRow (λ (r : Row). bytes_eq r.id id) rows r good e in
        first r.id r.values ((bytes_eq-Decides r.id id).0 of_rows.1) of_rows.0

-- each required argument of a command has a value, if its words pass
abbrev pub HasValueIn : List Row → Rule → Type 0
HasValueIn rows a = a.required ≡ true → IsGoodValue a.id (first_of a.id rows)

each_value : (rows : List Row) (c : List Rule) → Each IsGoodRow rows → Each (IsGiven rows) c → Each (HasValueIn rows) c
each_value rows [] good given = tt
each_value rows (a ∷ rest) good given = ((λ required. given_value a.id rows (given.0 required) good), each_value rows rest good given.1)

pub words_have_values : (s : Shape) (words : List Text) → Each IsGoodRule s.rules → level_fault s [] nothing_held words false [] ≡ []
    → Each (HasValueIn (rows_after s.rules [] words)) s.rules
words_have_values s words good passes =
    let p : Passes s [] nothing_held words false [] = level_passes s [] nothing_held words false [] passes in
    let end : Held = (walk s.rules [] nothing_held words).held in
    let over_words : Each IsGoodRow end.rows = walk_good s [] good (walk_from nothing_held) words p.walks tt in
    let settles : Each IsGoodRow (settled s.rules end).rows = settled_good s.rules s.args_override_self good end p.settles over_words in
    let rows : Each IsGoodRow (finished s.rules end) = defaults_good (settled s.rules end).rows s.rules good settles in
    each_value (finished s.rules end) s.rules rows (required_given s (finished s.rules end) p.checks)
