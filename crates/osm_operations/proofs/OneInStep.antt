-- What is in step with published sequences is determined by its number and its base.
use Rattle.std.proofs.Common.{◌≡◌, ℕ, List, ap, sym, ◌∙◌, Option}
use Rattle.osm_model.specs.Filter.{FilterValue}
use Rattle.osm_mirror.specs.Mirror.{MirrorValue}
use Rattle.osm_save.specs.declared.save.Saved.{Saved}
use Rattle.osm_publisher.specs.Published.{PublishedValue, changes_after, changes_up_to, time_at}
use Rattle.osm_runs.specs.Following.{IsInStep}
use Rattle.osm_mirror.proofs.SameLemmas.{one_mirror}

made_saved : ℕ → ℕ → Option ℕ → FilterValue → MirrorValue → Saved
made_saved number base time kept_by mirror = record { number = number; base = base; time = time; filter = kept_by; mirror = mirror }

pub one_in_step : (p : List PublishedValue) (given : FilterValue) (v w : Saved) → IsInStep p given v → IsInStep p given w → v.number ≡ w.number
    → v.base ≡ w.base → v ≡ w
unfolding made_saved
one_in_step p given v w s t number based =
    let time : v.time ≡ w.time = s.time ∙ (ap (time_at p) number ∙ sym t.time) in
    let mirror : v.mirror ≡ w.mirror = one_mirror given (changes_up_to p w.number) (changes_after p w.base w.number) v.mirror w.mirror
    (rw (number, based) at s.mirror) t.mirror in
    let kept : v.filter ≡ w.filter = s.filter_is ∙ sym t.filter_is in
    ap (λ (x : ℕ). made_saved x v.base v.time v.filter v.mirror) number
    ∙ (ap (λ (x : ℕ). made_saved w.number x v.time v.filter v.mirror) based
    ∙ (ap (λ (x : Option ℕ). made_saved w.number w.base x v.filter v.mirror) time
    ∙ (ap (λ (x : FilterValue). made_saved w.number w.base w.time x v.mirror) kept
    ∙ ap (λ (x : MirrorValue). made_saved w.number w.base w.time w.filter x) mirror)))
