-- The word `follow`, part after part.
use Rattle.std.proofs.Common.{◌≡◌, ℕ, zero, suc, ◌<◌, List, Option, Some, None, arith, refl, sym, subst, ◌∙◌}
use Rattle.std.specs.Prelude.{Result, Ok, Err, IsTrue, OnOk, Bool}
use Rattle.osm_model.specs.Limits.{max_sequence}
use Rattle.osm_store.proofs.FileLemmas.{spends_both}
use Rattle.osm_store.specs.Files.{Spends}
use Rattle.osm_store.specs.Frames.{StoreState}
use Rattle.osm_runs.specs.declared.options.FollowOptions.{FollowOptions}
use Rattle.osm_round.specs.declared.kept.Sizes.{Sizes}
use Rattle.osm_repl.specs.Execution.{CarriesOut, ComesFrom, IsFollow, IsStep, Place, calls_of}
use Rattle.osm_repl.specs.Execution.{execution_of, options_after}
use Rattle.osm_repl.specs.declared.execution.Step.TheVariants.{PartDone}
use Rattle.osm_words.specs.declared.orders.Order.{Order}
use Rattle.osm_words.specs.declared.orders.Order.TheVariants.{Follow}

comes_at_once : (sizes : Sizes) (order : Order) (from : Place) → IsFollow order → ComesFrom sizes order zero from from
comes_at_once sizes (Follow dir save) from is = refl
comes_at_once sizes order from is = absurd is

-- ---- frames

spent_then : {T E : Type 0} (calls : ℕ) (a b c : Option ℕ) (r : Result T E) → Spends 0 a b → OnOk r (Spends calls b c) → OnOk r (Spends calls a c)
spent_then calls a b c (Ok x) first h = spends_both 0 calls calls a b c (omega arith) first h
spent_then calls a b c (Err e) first h = tt

spent_none : {T E : Type 0} (calls : ℕ) (left : Option ℕ) (r : Result T E) → OnOk r (calls ≡ 0) → OnOk r (Spends calls left left)
spent_none calls None (Ok x) is = refl
spent_none calls (Some m) (Ok x) is = (m, refl, omega (arith, is))
spent_none calls left (Err e) is = tt

none_spent : (left : Option ℕ) → Spends 0 left left
none_spent None = refl
none_spent (Some m) = (m, refl, omega arith)

-- calls before others
pub carries_then : {T E : Type 0} (order : Order) (a b c : StoreState) (r : Result T E) → CarriesOut {T = Unit {0}} {E = Unit {0}} order a b (Err tt)
    → CarriesOut order b c r → CarriesOut order a c r
carries_then order a b c r first last = record {
  untouched = λ sure name own. last.untouched (subst (λ (t : Bool). IsTrue t) (sym first.known) sure) name own ∙ first.untouched sure name own;
  known = last.known ∙ first.known;
  left = spent_then (calls_of order) a.left b.left c.left r first.left_after last.left;
  left_after = spends_both 0 0 0 a.left b.left c.left (omega arith) first.left_after last.left_after;
  kept = (let early = first.kept in let late = last.kept in omega (arith, early, late));
}

-- of calls that weren't all
pub carries_some : {T E : Type 0} (order : Order) (a b : StoreState) (r : Result T E) → CarriesOut order a b r
    → CarriesOut {T = Unit {0}} {E = Unit {0}} order a b (Err tt)
carries_some order a b r h = record {
  untouched = h.untouched;
  known = h.known;
  left = tt;
  left_after = h.left_after;
  kept = h.kept;
}

-- no call
pub carries_none : {T E : Type 0} (order : Order) (a : StoreState) (r : Result T E) → (OnOk r (calls_of order ≡ 0)) → CarriesOut order a a r
carries_none order a r none = record {
  untouched = λ sure name own. refl;
  known = refl;
  left = spent_none (calls_of order) a.left r none;
  left_after = none_spent a.left;
  kept = omega arith;
}

-- ---- parts

-- some parts were taken, one after the other
pub record Follows (order : Order) (options : FollowOptions) (sizes : Sizes) (old : StoreState) (printed : Option (List ℕ)) (here : Place) : Type 0
  where
    pub parts : ℕ
    pub comes : ComesFrom sizes order parts (record { options = options; store = old; printed = printed }) here
    pub frame : CarriesOut {T = Unit {0}} {E = Unit {0}} order old here.store (Err tt)

pub begins : (order : Order) (options : FollowOptions) (sizes : Sizes) (old : StoreState) (printed : Option (List ℕ)) → IsFollow order
    → Follows order options sizes old printed (record { options = options; store = old; printed = printed })
begins order options sizes old printed is = record {
  parts = zero;
  comes = comes_at_once sizes order (record { options = options; store = old; printed = printed }) is;
  frame = carries_none order old (Err tt) tt;
}

-- and one more
comes_more : (sizes : Sizes) (order : Order) (parts : ℕ) (start here : Place) (new : StoreState) (after : Option (List ℕ)) (count : ℕ) → IsFollow order
    → ComesFrom sizes order parts start here → IsStep (execution_of here.options sizes order here.store new) here.printed after (PartDone count)
    → new.is_known ≡ here.store.is_known
    → ComesFrom sizes order (suc parts) start (record { options = options_after here.options count; store = new; printed = after })
comes_more sizes (Follow dir save) parts start here new after count is comes (report, applied, part, all) known = (
  here,
  comes,
  record {
    report = report;
    applied = applied;
    count = count;
    part = part;
    all = all;
    options_are = refl;
    known = known;
  },
)
comes_more sizes order parts start here new after count is comes step known = absurd is

pub goes_on : (order : Order) (options : FollowOptions) (sizes : Sizes) (old : StoreState) (printed : Option (List ℕ)) (here : Place)
    (new : StoreState) (after : Option (List ℕ)) (count : ℕ) → IsFollow order → Follows order options sizes old printed here
    → IsStep (execution_of here.options sizes order here.store new) here.printed after (PartDone count)
    → CarriesOut {T = Unit {0}} {E = Unit {0}} order here.store new (Err tt)
    → Follows order options sizes old printed (record { options = options_after here.options count; store = new; printed = after })
goes_on order options sizes old printed here new after count is f step frame = record {
  parts = suc f.parts;
  comes = comes_more sizes order f.parts _ here new after count is f.comes step frame.known;
  frame = carries_then order old here.store new (Err tt) f.frame frame;
}

-- ---- a part makes what is left smaller

abbrev pub measure : Option ℕ → ℕ
measure None = suc max_sequence
measure (Some limit) = limit
