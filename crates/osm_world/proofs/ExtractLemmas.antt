-- With a filter a history shows what the filter keeps of what it shows without one.
use Rattle.std.proofs.Common.{◌≡◌, refl, ap, sym, ◌∙◌}
use Rattle.osm_follow.proofs.BeginLemmas.{everything_left}
use Rattle.osm_model.specs.Filter.{FilterValue, everything, kept_object}
use Rattle.osm_mirror.specs.Mirror.{IsMirrorOf}
use Rattle.osm_publisher.specs.Published.{changes_after, changes_up_to, time_at}
use Rattle.osm_follow.specs.View.{IsView, ViewValue}
use Rattle.osm_world.specs.Alike.{IsExtract}
use Rattle.osm_world.specs.History as hist
use Rattle.osm_world.specs.Legal.{Allowed}
use Rattle.osm_world.specs.declared.event.Event.TheVariants.{Show}
use Rattle.osm_world.specs.declared.event.Reply.TheVariants.{Shown}
use Rattle.osm_mirror.proofs.SameLemmas.{same_counts}
use Rattle.osm_world.proofs.AlikeLemmas.{one_number, one_rising}

pub extract_shown : (f : FilterValue) (h : hist.History) (v w : ViewValue) → Allowed everything h Show (Shown v)
    → Allowed f h Show (Shown w) → IsExtract f v w
extract_shown f h v w a b =
    let s : IsView everything (hist.published_of h) (hist.base_of h) (hist.start_of h) (hist.accepted_of h) v = a.1 in
    let t : IsView f (hist.published_of h) (hist.base_of h) (hist.start_of h) (hist.accepted_of h) w = b.1 in
    let number : w.number ≡ v.number =
    one_number (hist.accepted_of h) (hist.accepted_of h) (hist.start_of h) w.number v.number (λ j. refl) t.reach s.reach in
    let whole : IsMirrorOf everything (changes_up_to (hist.published_of h) v.number)
    (changes_after (hist.published_of h) (hist.base_of h) v.number) v.mirror = s.mirror in
    let part : IsMirrorOf f (changes_up_to (hist.published_of h) v.number)
    (changes_after (hist.published_of h) (hist.base_of h) v.number) w.mirror = rw number at t.mirror in
    record {
      number = number;
      base = t.base_is ∙ sym s.base_is;
      time = t.time ∙ (ap (time_at (hist.published_of h)) number ∙ sym s.time);
      objects = λ k. part.objects k ∙ ap (kept_object f) (sym (whole.objects k ∙ everything_left (changes_up_to (hist.published_of h) v.number) k));
      users = same_counts w.mirror.users v.mirror.users part.orderly.users whole.orderly.users
          (λ n. part.users n ∙ sym (whole.users n));
      changesets = same_counts w.mirror.changesets v.mirror.changesets part.orderly.changesets whole.orderly.changesets
          (λ n. part.changesets n ∙ sym (whole.changesets n));
      held = one_rising w.held v.held t.rising s.rising (λ j. (
        λ has. (let both = (t.held j).0 has in (s.held j).1 (rw number at both.0, both.1)),
        λ has. (let both = (s.held j).0 has in (t.held j).1 (rw number both.0, both.1)),
      ));
    }
