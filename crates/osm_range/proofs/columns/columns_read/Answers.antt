use Rattle.std.proofs.Common.{◌≡◌, List, ℕ, [], refl, sym, ap, ◌∙◌, append-nil, Some, true, false, length}
use Rattle.std.specs.Prelude.{◌==◌}
use Rattle.osm_range.specs.Columns.{AreDifferent, further_text}
use Rattle.osm_range.proofs.ColumnLemmas.{after_second, after_third, different_as, empty_of, first_is, no_comma, none_at, same_further, text_is}
use Rattle.osm_range.proofs.columns.columns_read.Goals.{then-not-is_empty-via-then-not-is_empty, then-not-is_empty-via-else-not-is_empty+then-not-are_different}
use Rattle.osm_range.proofs.columns.columns_read.Goals as goal

pub returns-in_err-second-clause-only : goal.returns-in_err-second-clause-only
returns-in_err-second-clause-only c = λ none columns named.
    let choice = named.0 in
    let is = named.1 in
    let first = first_is columns c.in_ok-first.first c.args.word.now c.in_ok-first.rest.now choice is c.in_ok-first.ensures.found in
    c.in_err-second.ensures.only refl columns.second _ (after_second columns choice) first.1

pub returns-in_err-third-clause-only : goal.returns-in_err-third-clause-only
returns-in_err-third-clause-only c = λ none columns named.
    let choice = named.0 in
    let is = named.1 in
    let first = first_is columns c.in_ok-first.first c.args.word.now c.in_ok-first.rest.now choice is c.in_ok-first.ensures.found in
    let second = same_further c.in_ok-second.second columns.second _ _ _
    c.in_ok-second.ensures.found first.1 c.in_ok-second.ensures.none (after_second columns choice) in
    c.in_err-third.ensures.only refl columns.third _ (after_third columns choice) second.1

pub returns-in_err-fourth-clause-only : goal.returns-in_err-fourth-clause-only
returns-in_err-fourth-clause-only c = λ none columns named.
    let choice = named.0 in
    let is = named.1 in
    let first = first_is columns c.in_ok-first.first c.args.word.now c.in_ok-first.rest.now choice is c.in_ok-first.ensures.found in
    let second = same_further c.in_ok-second.second columns.second _ _ _
    c.in_ok-second.ensures.found first.1 c.in_ok-second.ensures.none (after_second columns choice) in
    let third = same_further c.in_ok-third.third columns.third _ _ _
    c.in_ok-third.ensures.found second.1 c.in_ok-third.ensures.none (after_third columns choice) in
    c.in_err-fourth.ensures.only refl columns.fourth [] (λ none. no_comma) (third.1 ∙ sym (append-nil (further_text columns.fourth)))

pub returns-then-not-is_empty-clause-only : goal.returns-then-not-is_empty-clause-only
returns-then-not-is_empty-clause-only c = λ none columns named.
    let choice = named.0 in
    let is = named.1 in
    let first = first_is columns c.in_ok-first.first c.args.word.now c.in_ok-first.rest.now choice is c.in_ok-first.ensures.found in
    let second = same_further c.in_ok-second.second columns.second _ _ _
    c.in_ok-second.ensures.found first.1 c.in_ok-second.ensures.none (after_second columns choice) in
    let third = same_further c.in_ok-third.third columns.third _ _ _
    c.in_ok-third.ensures.found second.1 c.in_ok-third.ensures.none (after_third columns choice) in
    let fourth = same_further c.in_ok-fourth.fourth columns.fourth _ _ []
    c.in_ok-fourth.ensures.found (third.1 ∙ sym (append-nil (further_text columns.fourth))) c.in_ok-fourth.ensures.none (λ none. no_comma) in
    let empty : c.is_empty.result ≡ true = c.is_empty.ensures ∙ ap (λ (r : List ℕ). length r == 0) fourth.1 in
    let different : AreDifferent (record {
      first = Some c.in_ok-first.first;
      second = c.in_ok-second.second;
      third = c.in_ok-third.third;
      fourth = c.in_ok-fourth.fourth;
    }) =
    different_as columns c.in_ok-first.first c.in_ok-second.second c.in_ok-third.third c.in_ok-fourth.fourth
    first.0 second.0 third.0 fourth.0 choice.different in
    elim c.then-not-is_empty.branch [
      | then-not-is_empty-via-then-not-is_empty w ↦ (let bad : true ≡ false = sym empty ∙ w.if-not-is_empty.true in absurd (cc))
      | then-not-is_empty-via-else-not-is_empty+then-not-are_different w ↦
          (let bad : true ≡ false = sym (w.are_different.ensures.1 different) ∙ w.if-not-are_different.true in absurd (cc))
    ]

pub returns-clause-found : goal.returns-clause-found
returns-clause-found c = (
  record {
    some = refl;
    third = λ none. none_at c.in_ok-third.third _ _ c.in_ok-third.ensures.found (c.in_ok-second.ensures.none none);
    fourth = λ none. none_at c.in_ok-fourth.fourth _ _ c.in_ok-fourth.ensures.found (c.in_ok-third.ensures.none none);
    different = c.if-not-are_different.ensures.0 refl;
  },
  text_is c.in_ok-first.first c.in_ok-second.second c.in_ok-third.third c.in_ok-fourth.fourth _ _ _ _ _
      c.in_ok-first.ensures.found c.in_ok-second.ensures.found c.in_ok-third.ensures.found c.in_ok-fourth.ensures.found
      (empty_of c.in_ok-fourth.rest.now (sym c.is_empty.ensures ∙ c.if-not-is_empty.false)),
)
