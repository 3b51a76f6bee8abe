use Rattle.std.proofs.Common.{◌≡◌, ap, rules, ◌∙◌}
use Rattle.hex.specs.Hex.{encode_lower}
use Rattle.osm_opl.specs.Written.{opl_text}
use Rattle.osm_asking.proofs.SumLemmas.{sum_written}
use Rattle.osm_asking.proofs.sum.Sum.write.Goals as goal

pub returns : goal.returns
returns c = λ objects s.
    let digits : c.as_bytes.result.now ≡ encode_lower c.finalize-digest.result = search rules in
    sum_written c.args.self objects c.args.name.now c.args.text.now.items c.write_line.new.text.items c.as_bytes.result.now c.in_ok-write_line.ensures
    (λ holds. digits ∙ ap encode_lower (c.finalize-digest.ensures (opl_text objects) holds)) s
