use Rattle.std.proofs.Common.{rules, ◌≡◌, ◌+◌, ◌-◌, ◌<◌, ◌≤◌, length, None, Some, refl, sym, arith, inl, inr}
use Rattle.std.proofs.lemmas.Bool.{cases_lt}
use Rattle.osm_o5c.specs.Steps.Index.{string_at, IsLatest}
use Rattle.osm_o5c.specs.Steps.Latest.{latest_of}
use Rattle.osm_o5c.specs.Written.{reference_of}
use Rattle.osm_o5c.proofs.IndexLemmas.{reference_past, reference_found, reference_none, reference_kept, least_is, IsAhead}
use Rattle.osm_o5c.proofs.string_index.StringIndex.find.Goals as goal

pub returns-then-number-gt-MAX_ENTRIES-clause-reference : goal.returns-then-number-gt-MAX_ENTRIES-clause-reference
returns-then-number-gt-MAX_ENTRIES-clause-reference c =
    let far : 15000 < length c.args.self.now - (c.loop-at.at - 1) = search rules in
    sym (reference_past c.args.self.now c.args.text.now c.get-kept.result c.loop-at.at c.loop-at.invariant (search rules) far)

pub returns-then-is_at-clause-reference : goal.returns-then-is_at-clause-reference
returns-then-is_at-clause-reference c =
    let same : string_at c.args.self.now (c.loop-at.at - 1) ≡ c.args.text.now = search rules in
    let is : c.len.result - (c.loop-at.at - 1) ≡ length c.args.self.now - (c.loop-at.at - 1) = search rules in
    sym (reference_found c.args.self.now c.args.text.now c.get-kept.result c.loop-at.at
    (c.len.result - (c.loop-at.at - 1)) c.loop-at.invariant (search rules) same is (search rules))

pub returns-then-is_at-clause-least : goal.returns-then-is_at-clause-least
returns-then-is_at-clause-least c =
    let same : string_at c.args.self.now (c.loop-at.at - 1) ≡ c.args.text.now = search rules in
    let is : c.len.result - (c.loop-at.at - 1) ≡ length c.args.self.now - (c.loop-at.at - 1) = search rules in
    least_is c.args.self.now c.args.text.now (Some (c.len.result - (c.loop-at.at - 1)))
    (sym (reference_found c.args.self.now c.args.text.now c.get-kept.result c.loop-at.at
    (c.len.result - (c.loop-at.at - 1)) c.loop-at.invariant (search rules) same is (search rules)))

-- no chain led to the string, and the map has no number that names it
pub returns-then-not-is_recent-clause-reference : goal.returns-then-not-is_recent-clause-reference
returns-then-not-is_recent-clause-reference c =
    let kept : c.get-kept.result ≡ latest_of c.self.inside.latest c.args.text.now = search rules in
    let within : c.get-kept.result ≤ length c.args.self.now = rw (← c.self.view_is, kept) (c.self.invariant.latest.within c.args.text.now) in
    let far : 0 < c.get-kept.result → 15000 < length c.args.self.now - (c.get-kept.result - 1) = λ some.
    elim (cases_lt (length c.args.self.now) (c.get-kept.result + 15000)) [
      | inl near ↦
          let low : c.get-kept.result ≤ c.len-2.result = (let count : c.len-2.result ≡ length c.args.self.now = search rules in omega arith) in
          let high : c.len-2.result < c.get-kept.result + 15000 = (let count : c.len-2.result ≡ length c.args.self.now = search rules in omega arith) in
          absurd (search rules)
      | inr past ↦ omega arith
    ] in
    sym (reference_none c.args.self.now c.args.text.now c.get-kept.result c.loop-at.at c.loop-at.invariant (search rules) far)

pub returns-then-not-is_recent-clause-least : goal.returns-then-not-is_recent-clause-least
returns-then-not-is_recent-clause-least c =
    let kept : c.get-kept.result ≡ latest_of c.self.inside.latest c.args.text.now = search rules in
    let within : c.get-kept.result ≤ length c.args.self.now = rw (← c.self.view_is, kept) (c.self.invariant.latest.within c.args.text.now) in
    let far : 0 < c.get-kept.result → 15000 < length c.args.self.now - (c.get-kept.result - 1) = λ some.
    elim (cases_lt (length c.args.self.now) (c.get-kept.result + 15000)) [
      | inl near ↦
          let low : c.get-kept.result ≤ c.len-2.result = (let count : c.len-2.result ≡ length c.args.self.now = search rules in omega arith) in
          let high : c.len-2.result < c.get-kept.result + 15000 = (let count : c.len-2.result ≡ length c.args.self.now = search rules in omega arith) in
          absurd (search rules)
      | inr past ↦ omega arith
    ] in
    least_is c.args.self.now c.args.text.now None
    (sym (reference_none c.args.self.now c.args.text.now c.get-kept.result c.loop-at.at c.loop-at.invariant
    (search rules) far))

-- the map has the number
pub returns-clause-reference : goal.returns-clause-reference
returns-clause-reference c =
    let kept : c.get-kept.result ≡ latest_of c.self.inside.latest c.args.text.now = search rules in
    let some : 0 < c.get-kept.result = search rules in
    let near : c.len-3.result < c.get-kept.result + 15000 = search rules in
    let count : c.len-3.result ≡ length c.args.self.now = search rules in
    let is : c.len-3.result - (c.get-kept.result - 1) ≡ length c.args.self.now
    - (latest_of c.self.inside.latest c.args.text.now - 1) = rw (← kept, count) refl in
    let latest : IsLatest c.args.self.now (latest_of c.self.inside.latest) = rw (← c.self.view_is) c.self.invariant.latest in
    let ahead : IsAhead c.args.self.now c.args.text.now (latest_of c.self.inside.latest c.args.text.now) c.loop-at.at = rw (← kept) c.loop-at.invariant in
    let past : c.loop-at.at ≤ latest_of c.self.inside.latest c.args.text.now = rw (← kept) (search rules) in
    let there : 0 < latest_of c.self.inside.latest c.args.text.now = rw (← kept) some in
    let reference : reference_of c.args.self.now c.args.text.now ≡ Some (c.len-3.result - (c.get-kept.result - 1)) =
    reference_kept c.args.self.now (latest_of c.self.inside.latest) c.args.text.now c.loop-at.at
    (c.len-3.result - (c.get-kept.result - 1)) latest ahead past there is (omega arith) in
    sym reference

pub returns-clause-least : goal.returns-clause-least
returns-clause-least c =
    let kept : c.get-kept.result ≡ latest_of c.self.inside.latest c.args.text.now = search rules in
    let some : 0 < c.get-kept.result = search rules in
    let near : c.len-3.result < c.get-kept.result + 15000 = search rules in
    let count : c.len-3.result ≡ length c.args.self.now = search rules in
    let is : c.len-3.result - (c.get-kept.result - 1) ≡ length c.args.self.now
    - (latest_of c.self.inside.latest c.args.text.now - 1) = rw (← kept, count) refl in
    let latest : IsLatest c.args.self.now (latest_of c.self.inside.latest) = rw (← c.self.view_is) c.self.invariant.latest in
    let ahead : IsAhead c.args.self.now c.args.text.now (latest_of c.self.inside.latest c.args.text.now) c.loop-at.at = rw (← kept) c.loop-at.invariant in
    let past : c.loop-at.at ≤ latest_of c.self.inside.latest c.args.text.now = rw (← kept) (search rules) in
    let there : 0 < latest_of c.self.inside.latest c.args.text.now = rw (← kept) some in
    let reference : reference_of c.args.self.now c.args.text.now ≡ Some (c.len-3.result - (c.get-kept.result - 1)) =
    reference_kept c.args.self.now (latest_of c.self.inside.latest) c.args.text.now c.loop-at.at
    (c.len-3.result - (c.get-kept.result - 1)) latest ahead past there is (omega arith) in
    least_is c.args.self.now c.args.text.now (Some (c.len-3.result - (c.get-kept.result - 1))) (sym reference)
