-- What the newest state of a folder of published sequences can't be.
use Rattle.std.proofs.Common.{◌≡◌, ℕ, List, length, Option, Some, None, inl, inr, arith, ap}
use Rattle.std.proofs.lemmas.Option.{same_Some}
use Rattle.osm_publisher.specs.Published.{PublishedValue}
use Rattle.osm_state.specs.StateLaws.{NoFaultBesideState}
use Rattle.osm_state.specs.declared.state_text.StateError.{StateError}
use Rattle.osm_store.specs.Files.{IsOver}
use Rattle.osm_runs.specs.Folder.{IsBadState, IsTop, max_state}

pub good_top : NoFaultBesideState → (p : List PublishedValue) (told : Option (List ℕ)) (cause : StateError) → IsTop p told → IsBadState told cause → ⊥
good_top law p None cause t b = (let e = b.there in cc)
good_top law p (Some bytes) cause (inl a) b = (let e = a.1 in cc)
good_top law p (Some bytes) cause (inr a) b =
    law bytes _ cause a.1.names (rw (same_Some bytes b.bytes b.there) b.fault)

pub small_top : (p : List PublishedValue) (told : Option (List ℕ)) → IsTop p told → IsOver max_state told → ⊥
small_top p None t o = (let e = o.there in cc)
small_top p (Some bytes) (inl a) o = (let e = a.1 in cc)
small_top p (Some bytes) (inr a) o =
    let long = ap length (same_Some bytes o.bytes o.there) in
    let over = o.over in
    let small = a.1.small in
    omega (arith, long, over, small)

pub none_published : (ps : List PublishedValue) (told : Option (List ℕ)) → IsTop ps told → told ≡ None → length ps ≡ 0
none_published ps None (inl a) e = a.0
none_published ps None (inr a) e = absurd a.1
none_published ps (Some bytes) t e = (let bad : Some bytes ≡ None = e in cc)
