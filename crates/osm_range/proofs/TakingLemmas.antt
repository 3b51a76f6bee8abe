-- What a taker of numbers has after one sequence more.
use Rattle.std.proofs.Common.{◌≡◌, List, [], ◌∷◌, ◌++◌, ap, ◌∙◌, append-nil}
use Rattle.std.proofs.lemmas.Grind.{flat_map-append}
use Rattle.osm_publisher.specs.Published.{PublishedValue}
use Rattle.osm_range.specs.Ranges.{changes_in}

pub changes_in-more : (before : List PublishedValue) (p : PublishedValue) → changes_in (before ++ p ∷ []) ≡ changes_in before ++ p.changes
changes_in-more before p =
    flat_map-append (λ (q : PublishedValue). q.changes) before (p ∷ []) ∙ ap (λ cs. changes_in before ++ cs) (append-nil p.changes)
