-- What changes that are handed on leave.
use Rattle.std.proofs.Common.{◌≡◌, refl, sym, ap, ◌∙◌, Bool, true, false, Option, Some, None}
use Rattle.std.specs.Option.{option_map}
use Rattle.osm_model.specs.Change.{ChangeValue}
use Rattle.osm_model.specs.Content.{content_of, last_of, over_at}
use Rattle.osm_model.specs.Filter.{FilterValue, everything, keeps, kept_object, left_by}
use Rattle.osm_model.proofs.ContentLemmas.{content_of-append}
use Rattle.osm_model.proofs.FilterLemmas.{everything_is_left, extracts_are_kept_up, left_by-dropped, left_by-kept, object_after-kept}
use Rattle.osm_mirror.specs.Mirror.{object_at}
use Rattle.osm_mirror.proofs.SameLemmas.{same_objects}
use Rattle.osm_range.specs.Handed.{under}
use Rattle.osm_range.specs.ChangesLaws.{ApplyTheSame, AreTheOnly, KeepMirrorsUp, LeaveTheSame}
use Rattle.osm_range.proofs.LatestLemmas.{last_of-rising, under-dropped, under-kept}

-- a change under a filter leaves, without a filter, what the change leaves under it
left_under : (f : FilterValue) (c : ChangeValue) → left_by everything (under f c) ≡ left_by f c
left_under f c = by_test (keeps f c) refl
  where
    by_test : (b : Bool) → keeps f c ≡ b → left_by everything (under f c) ≡ left_by f c
    by_test true e =
        ap (left_by everything) (under-kept f c e)
        ∙ (everything_is_left c ∙ (object_after-kept f c e ∙ sym (left_by-kept f c e)))
    by_test false e = ap (left_by everything) (under-dropped f c e) ∙ sym (left_by-dropped f c e)

last_left : (f : FilterValue) (before o : Option ChangeValue)
    → over_at (left_by everything) before (option_map (under f) o) ≡ over_at (left_by f) before o
last_left f before None = refl
last_left f before (Some c) = left_under f c

pub leave_the_same : LeaveTheSame
leave_the_same f changes handed before k come =
    ap (λ (o : Option ChangeValue). over_at (left_by everything) (before k) o) (come.each k)
    ∙ last_left f (before k) (last_of changes k)

pub apply_the_same : ApplyTheSame
apply_the_same f changes handed old mirror other come applied laid = λ k.
    laid.objects k ∙ (leave_the_same f changes handed (object_at old.objects) k come ∙ sym (applied.objects k))

pub keep_mirrors_up : KeepMirrorsUp
keep_mirrors_up f earlier counted changes handed old new is come laid = λ k.
    laid.objects k
    ∙ (leave_the_same f changes handed (object_at old.objects) k come
    ∙ (ap (λ (o : Option ChangeValue). over_at (left_by f) o (last_of changes k)) (is.objects k)
    ∙ (extracts_are_kept_up f (content_of earlier) changes k
    ∙ ap (λ (o : Option ChangeValue). kept_object f o) (sym (content_of-append earlier changes k)))))

pub are_the_only : AreTheOnly
are_the_only f changes a b first second = same_objects a b first.rising second.rising (λ k.
    sym (last_of-rising a k first.rising) ∙ (first.each k ∙ (sym (second.each k) ∙ last_of-rising b k second.rising)))
