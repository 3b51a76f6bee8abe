-- How large the counts of net changes are.
use Rattle.std.proofs.Common.{ℕ, ◌≤◌, List, length, arith}
use Rattle.osm_model.specs.Change.{ChangeValue}
use Rattle.osm_model.specs.Filter.{FilterValue}
use Rattle.osm_net.specs.Net.{IsNetOf, NetValue}
use Rattle.osm_net.proofs.NetLemmas.{counts_are_few}
use Rattle.osm_save.proofs.MirrorLemmas.{each_few}
use Rattle.osm_merge.specs.Lists.{AreFew}

-- those of so few changes have room beside the counts of a save
pub few_net : (f : FilterValue) (changes : List ChangeValue) (n : NetValue) → IsNetOf f changes n → length changes ≤ 9223372036854775807 → AreFew n
few_net f changes n net few =
    let most = counts_are_few f changes n net in
    record {
      users = each_few 9223372036854775807 n.users net.orderly.users.rising (λ uid. (let here = most.users uid in omega (arith, here, few)));
      changesets = each_few 9223372036854775807 n.changesets net.orderly.changesets.rising (λ id. (let here = most.changesets id in omega (arith, here, few)));
    }
