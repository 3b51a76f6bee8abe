use Rattle.std.proofs.Common.{◌≡◌, ◌∙◌, ap, subst}
use Rattle.std.specs.Prelude.{IfOk}
use Rattle.osm_model.specs.Filter.{AreKept}
use Rattle.osm_mirror.specs.Mirror.{IsMirror, IsWithin, MirrorValue, no_mirror}
use Rattle.osm_net.specs.Laid.{laid_on}
use Rattle.osm_net.specs.Lists.{net_in}
use Rattle.osm_net.specs.Net.{IsNet, NetValue}
use Rattle.osm_save.specs.Head.{most_counted}
use Rattle.osm_save.specs.Left.{mirror_left}
use Rattle.osm_save.specs.Save.{SpellsSave, saved_with}
use Rattle.osm_round.specs.News.{came_to}
use Rattle.osm_round.proofs.LeftLemmas.{mirror_is, none_is}
use Rattle.osm_round.proofs.put.text_of.Goals as goal

pub returns : goal.returns
returns c = λ savable.
    let head = c.args.taken.head in
    let f = c.args.filter.now in
    let n = (came_to f c.args.taken).net in
    let lists = c.in_ok-lists.lists in
    let same = c.in_ok-lists.ensures.lists ∙ c.in_ok-net.ensures.net in
    let is : mirror_left lists.objects.items lists.users.items lists.changesets.items ≡ laid_on n no_mirror =
    mirror_is (net_in lists) ∙ ap (λ (m : NetValue). laid_on m no_mirror) same in
    let spelled =
    rw (c.as_slice-objects.ensures.value, c.as_slice-users.ensures.value, c.as_slice-changesets.ensures.value) at c.save_write_left.ensures.spelled in
    subst (λ (m : MirrorValue). IsMirror m → IsWithin (most_counted head) m → AreKept f m.objects
    → IfOk c.save_write_left.result (λ text. SpellsSave text.items (saved_with head f m))) is (spelled savable.head)
    (c.laws_of_nets.ensures.mirror n no_mirror (subst IsNet same c.in_ok-lists.ensures.net) none_is) savable.within savable.kept
