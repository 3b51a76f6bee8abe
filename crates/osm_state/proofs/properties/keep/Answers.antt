use Rattle.std.proofs.Common.{◌≡◌, [], ◌∷◌, length, arith, sym, ◌∙◌}
use Rattle.std.proofs.lemmas.Bool.Decides.{nat_tests}
use Rattle.std.proofs.lemmas.List.{take_all, take-append-le}
use Rattle.osm_state.proofs.properties.keep.Goals as goal

-- a full prefix has the first 21 bytes already
pub returns-else-not-is_full : goal.returns-else-not-is_full
returns-else-not-is_full c =
    let full : length c.args.prefix.now.items ≡ 21 = grind (arith, nat_tests) in
    sym (take-append-le 21 c.args.prefix.now.items (c.args.byte ∷ []) (omega arith) ∙ take_all 21 c.args.prefix.now.items (omega arith))
