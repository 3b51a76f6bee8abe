-- What is left where there were no objects.
use Rattle.std.proofs.Common.{◌≡◌, List, [], ◌∷◌, ◌++◌, Option, Some, None, refl, sym, ap, ◌∙◌}
use Rattle.osm_mirror.specs.Mirror.{IsMirror, no_mirror}
use Rattle.osm_model.specs.Change.{ChangeValue}
use Rattle.osm_net.specs.Laid.{added, laid_on, laid_over, put_before}
use Rattle.osm_net.specs.Net.{NetEntry, NetValue}
use Rattle.osm_net.proofs.AddedLemmas.{added-no_count}
use Rattle.osm_net.proofs.LaidLemmas.{laid_over-no_entry, laid_over-no_object}
use Rattle.osm_save.specs.Left.{left_in, left_of, mirror_left}
use Rattle.osm_round.proofs.PutLemmas.{orderly_nothing}

put_is : (z : Option ChangeValue) (cs : List ChangeValue) → left_of z ++ cs ≡ put_before z cs
put_is None cs = refl
put_is (Some c) cs = refl

left_is : (es : List NetEntry) → left_in es ≡ laid_over es []
left_is [] = sym (laid_over-no_entry [])
left_is (e ∷ es) = ap (λ (l : List ChangeValue). left_of e.1 ++ l) (left_is es)
    ∙ (put_is e.1 (laid_over es []) ∙ sym (laid_over-no_object e es))

pub mirror_is : (n : NetValue) → mirror_left n.objects n.users n.changesets ≡ laid_on n no_mirror
mirror_is n =
    let users : added n.users [] ≡ n.users = added-no_count n.users in
    let changesets : added n.changesets [] ≡ n.changesets = added-no_count n.changesets in
    rw (users, changesets) (ap (λ (l : List ChangeValue). record { objects = l; users = n.users; changesets = n.changesets }) (left_is n.objects))

pub none_is : IsMirror no_mirror
none_is = record {
  orderly = orderly_nothing;
  objects = tt;
  users = tt;
  changesets = tt;
}
