use Rattle.std.proofs.Common.{◌≡◌, ◌++◌, ◌∷◌, [], ap, ◌∙◌, map}
use Rattle.std.proofs.lemmas.List.{map-append}
use Rattle.osm_opl.specs.Written.{line_text}
use Rattle.osm_save.specs.Lines.{ended}
use Rattle.osm_save.proofs.TextLemmas.{ended_more}
use Rattle.osm_save.proofs.objects.write_objects.Goals as goal

pub loop-change-preserved : goal.loop-change-preserved
loop-change-preserved c =
    let next : c.write_object.new.out.items ≡ (c.write_numbered.new.out.items
    ++ ended (map line_text (map (λ d. d.now) c.loop-change.yielded)))
    ++ ended (line_text c.in-Some.change.now ∷ []) = c.in_ok-write_object.ensures
    ∙ ap (λ l. l ++ ended (line_text c.in-Some.change.now ∷ [])) c.loop-change.invariant in
    rw (map-append) (ended_more line_text c.write_numbered.new.out.items c.write_object.new.out.items
    (map (λ d. d.now) c.loop-change.yielded) c.in-Some.change.now next)
