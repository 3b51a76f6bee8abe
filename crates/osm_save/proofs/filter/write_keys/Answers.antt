use Rattle.std.proofs.Common.{◌≡◌, ◌+◌, ◌++◌, ◌∷◌, [], ap, ◌∙◌, sym, map, take, arith}
use Rattle.std.proofs.lemmas.List.{take_more}
use Rattle.osm_opl.specs.Written.{escaped_text}
use Rattle.osm_save.specs.Lines.{ended}
use Rattle.osm_save.proofs.TextLemmas.{ended_more}
use Rattle.osm_save.proofs.filter.write_keys.Goals as goal

pub loop-key-preserved : goal.loop-key-preserved
loop-key-preserved c =
    let old = c.write_numbered.new.out.items in
    let before = take c.loop-key.key-index c.args.keys.now in
    let key = c.key-item.result in
    let next : c.write_key.new.out.items ≡ (old ++ ended (map escaped_text before)) ++ ended (escaped_text key ∷ []) =
    c.in_ok-write_key.ensures ∙ ap (λ l. l ++ ended (escaped_text key ∷ [])) c.loop-key.invariant in
    let more : take (c.loop-key.key-index + 1) c.args.keys.now ≡ before ++ key ∷ [] =
    take_more c.args.keys.now c.loop-key.key-index key (omega arith) ∙ ap (λ k. before ++ k ∷ []) (sym c.key-item.is) in
    rw more (ended_more escaped_text old c.write_key.new.out.items before key next)
