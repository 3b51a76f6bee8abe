use Rattle.std.proofs.Common.{◌≡◌, ◌++◌, ◌∷◌, [], ap, ◌∙◌, map}
use Rattle.std.proofs.lemmas.List.{map-append}
use Rattle.osm_save.specs.Lines.{ended}
use Rattle.osm_save.specs.Save.{count_text}
use Rattle.osm_save.proofs.TextLemmas.{ended_more}
use Rattle.osm_save.proofs.counts.write_counts.Goals as goal

pub loop-number-preserved : goal.loop-number-preserved
loop-number-preserved c =
    let next : c.write_count.new.out.items ≡ (c.write_numbered.new.out.items
    ++ ended (map count_text (map (λ e. (e.0.now, e.1.now)) c.loop-number.yielded)))
    ++ ended (count_text (c.in-Some.number.now, c.in-Some.count.now) ∷ []) = c.in_ok-write_count.ensures
    ∙ ap (λ l. l ++ ended (count_text (c.in-Some.number.now, c.in-Some.count.now) ∷ [])) c.loop-number.invariant in
    rw (map-append) (ended_more count_text c.write_numbered.new.out.items c.write_count.new.out.items
    (map (λ e. (e.0.now, e.1.now)) c.loop-number.yielded) (c.in-Some.number.now, c.in-Some.count.now) next)
