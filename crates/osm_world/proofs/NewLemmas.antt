-- A run of no events, and the texts of an archive.
use Rattle.std.proofs.Common.{◌≡◌, ℕ, ◌+◌, ◌-◌, List, [], ◌∷◌, ◌++◌, length, refl, ap, ◌∙◌, false, arith, Option, Some, None, length-append}
use Rattle.std.specs.Prelude.{get_or}
use Rattle.std.proofs.lemmas.List.{get_or-append-add}
use Rattle.osm_model.specs.Filter.{FilterValue}
use Rattle.osm_follow.specs.Follower.{new_follower_of}
use Rattle.osm_publisher.specs.Published.{IsSequence, PublishedValue, sequence_at, texts_at, unpublished, written_of}
use Rattle.osm_follow.proofs.PublishedLemmas.{texts_at-written}
use Rattle.osm_world.specs.Correct.{IsInStep, IsLastSave, IsRun}
use Rattle.osm_world.specs.History as hist
use Rattle.osm_world.specs.New.{IsNew}
use Rattle.osm_world.specs.World.{WorldValue}
use Rattle.osm_world.proofs.AlikeLemmas.{state_alike}
use Rattle.osm_world.proofs.StepLemmas.{new_in_step}

nothing_saved : (filter : FilterValue) (saved : Option (List ℕ)) → IsLastSave filter [] None 0 saved → saved ≡ None
nothing_saved filter None is = refl
nothing_saved filter (Some bytes) is = absurd is

pub new_of_none : (filter : FilterValue) (w : WorldValue) → IsRun filter [] [] w → IsNew filter w
new_of_none filter w run =
    let s : IsInStep filter [] w = run.in_step in
    record {
      publisher = s.publisher;
      archive = s.archive;
      saved = nothing_saved filter w.saved s.saved;
      broken = s.broken;
      follower = state_alike filter [] 0 0 (λ j. false) (λ j. false) w.follower (new_follower_of filter) (λ j. refl) (s.state refl)
          (let start = new_in_step filter in start.state refl);
    }

-- what is archived for a sequence is what was written for it
pub archived : (filter : FilterValue) (h : hist.History) (w : WorldValue) (before after : List PublishedValue) (p : PublishedValue)
    → IsInStep filter h w → hist.published_of h ≡ before ++ p ∷ after → texts_at w.archive (length before + 1) ≡ written_of
    (record p { number = length before + 1 })
archived filter h w before after p s is =
    let k : ℕ = length before + 1 in
    let many : length (hist.published_of h) ≡ length before + length (p ∷ after) = ap length is ∙ length-append before (p ∷ after) in
    let index : k - 1 ≡ length before + 0 = omega arith in
    let here : sequence_at (hist.published_of h) k ≡ p = ap (λ (ps : List PublishedValue). sequence_at ps k) is
    ∙ (ap (λ (i : ℕ). get_or (before ++ p ∷ after) i unpublished) index
    ∙ get_or-append-add before (p ∷ after) 0 unpublished) in
    let sequence : IsSequence k p = rw here at (s.sequences k (omega arith) (omega arith)) in
    let texts : texts_at w.archive k ≡ written_of (sequence_at (hist.published_of h) k) =
    rw s.archive (texts_at-written (hist.published_of h) k (omega arith) (omega arith)) in
    texts ∙ (ap written_of here ∙ ap (λ (n : ℕ). written_of (record p { number = n })) sequence.number_is)
