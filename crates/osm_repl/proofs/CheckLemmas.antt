-- A time has one text, so it is past a clock exactly if the one that was read is.
use Rattle.std.proofs.Common.{◌≡◌, ℕ, ◌+◌, ◌<◌, ◌≤◌, Bool, true, false, List, Option, Some, sym, ◌∙◌, arith}
use Rattle.std.specs.Prelude.{MatchBool}
use Rattle.std.proofs.lemmas.Option.{same_Some}
use Rattle.osm_model.specs.Time.{TimeText}
use Rattle.osm_repl.specs.Checks.{IsPast}

pub past_by : (b : Bool) (now : List ℕ) (clock time : ℕ) (r : Option ℕ) → r ≡ Some time → TimeText now time
    → ((t : ℕ) → TimeText now t → r ≡ Some t) → MatchBool b (clock + 86400 < time) (time ≤ clock + 86400)
    → MatchBool b (IsPast now clock) (IsPast now clock → ⊥)
past_by true now clock time r read is only h = record { time = time; time_is = is; past = h }
past_by false now clock time r read is only h = λ p.
    let same : time ≡ p.time = same_Some time p.time (sym read ∙ only p.time p.time_is) in
    omega (arith, same, h, p.past)
