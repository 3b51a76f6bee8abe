use Rattle.std.proofs.Common.{◌≡◌, ◌/◌, ◌%◌, ◌<◌, ◌++◌, arith, rules, refl, ◌∙◌}
use Rattle.std.specs.Prelude.{string_bytes, codes}
use Rattle.osm_state.specs.Path.{path_text, suffix_text}
use Rattle.osm_state.proofs.PathLemmas.{padded_three, filled_to_three}
use Rattle.osm_state.proofs.paths.path.Goals as goal

pub returns : goal.returns
unfolding path_text
returns c =
    let h : string_bytes c.in_ok-format.field-0 ≡ filled_to_three (c.args.number / 1000000)
    ++ (codes "/" ++ (filled_to_three (c.args.number / 1000 % 1000)
    ++ (codes "/" ++ (filled_to_three (c.args.number % 1000) ++ suffix_text c.args.suffix)))) =
    search (
      rules,
      c.in_ok-format.ensures.ok,
      c.laid_out.ensures,
      c.laid_out-2.ensures,
      c.laid_out-3.ensures,
      c.text-end.ensures,
    ) in
    let a : c.args.number / 1000000 < 1000 = omega arith in
    let b : c.args.number / 1000 % 1000 < 1000 = omega arith in
    let d : c.args.number % 1000 < 1000 = omega arith in
    h ∙ rw (padded_three (c.args.number / 1000000) a, padded_three (c.args.number / 1000 % 1000) b, padded_three (c.args.number % 1000) d) refl
