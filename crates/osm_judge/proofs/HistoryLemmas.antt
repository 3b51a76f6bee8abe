-- What one more close publishes.
use Rattle.std.proofs.Common.{◌≡◌, List, [], ◌∷◌, ◌++◌, refl}
use Rattle.osm_publisher.specs.Published.{PublishedValue, last_time}

pub last_time_more : (ps : List PublishedValue) (p : PublishedValue) → last_time (ps ++ p ∷ []) ≡ p.time
last_time_more [] p = refl
last_time_more (q ∷ []) p = refl
last_time_more (q ∷ r ∷ ps) p = last_time_more (r ∷ ps) p
