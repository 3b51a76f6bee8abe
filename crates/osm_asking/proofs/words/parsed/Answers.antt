use Rattle.std.proofs.Common.{◌≡◌, List, ℕ, true, subst, sym, ◌∙◌}
use Rattle.std.specs.Prelude.{IfSome}
use Rattle.std.specs.Fmt.{signed_decimal}
use Rattle.std.specs.Str.{IsUtf8}
use Rattle.osm_asking.specs.Steps.Words.{is_plain}
use Rattle.osm_asking.proofs.WordLemmas.{signed_utf8}
use Rattle.osm_asking.proofs.words.parsed.Goals as goal

pub number_in-requires : goal.number_in-requires
number_in-requires c = subst (λ (l : List ℕ). is_plain l ≡ true) (sym c.in-Ok.ensures.cases.0) c.requires

pub returns-in-Ok-clause-spelled : goal.returns-in-Ok-clause-spelled
returns-in-Ok-clause-spelled c =
    subst (λ (l : List ℕ). IfSome c.number_in.result (λ id. l ≡ signed_decimal id)) c.in-Ok.ensures.cases.0 c.number_in.ensures.spelled

pub returns-in-Ok-clause-only : goal.returns-in-Ok-clause-only
returns-in-Ok-clause-only c = λ id fits is. c.number_in.ensures.only id fits (c.in-Ok.ensures.cases.0 ∙ is)

pub returns-in-Err-clause-only : goal.returns-in-Err-clause-only
returns-in-Err-clause-only c = λ id fits is. absurd (c.in-Err.ensures.cases.0 (subst IsUtf8 (sym is) (signed_utf8 id fits)))
