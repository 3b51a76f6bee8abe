use Rattle.std.proofs.Common.{List, ℕ, Some, Option, sym, ap, ◌∙◌}
use Rattle.osm_model.specs.declared.kind.Key.{Key}
use Rattle.osm_reading.specs.Answers.{and_then}
use Rattle.osm_opl.proofs.LineLaws.{first_key}
use Rattle.osm_opl.proofs.lines.line_key.Goals as goal

pub returns-in-Ok : goal.returns-in-Ok
returns-in-Ok c = λ change s.
    ap (λ (o : Option (Key × List (List ℕ))). and_then {A = Key × List (List ℕ)} {B = Key} o (λ k. Some k.0))
    (sym c.in-Ok.ensures.value ∙ first_key c.args.line.now change s)

pub returns-in-Err : goal.returns-in-Err
returns-in-Err c = λ change s. let none = sym c.in-Err.ensures.value ∙ first_key c.args.line.now change s in absurd cc
