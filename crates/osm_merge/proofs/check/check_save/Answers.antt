use Rattle.std.proofs.Common.{sym, subst}
use Rattle.osm_net.specs.Net.{NetValue}
use Rattle.osm_merge.specs.Checking.{IsCheckedWith}
use Rattle.osm_merge.specs.Lists.{AreFew}
use Rattle.osm_merge.proofs.CheckLemmas.{checked_plain}
use Rattle.osm_merge.proofs.check.check_save.Goals as goal

pub check_merged-requires : goal.check_merged-requires
check_merged-requires g c = subst AreFew (sym c.new-none.ensures) (record { users = tt; changesets = tt })

pub returns-in-Ok-clause-checked : goal.returns-in-Ok-clause-checked
returns-in-Ok-clause-checked g c = λ known.
    let told = (g.S.Store.state c.args.store.now).files c.args.name.now in
    checked_plain told c.in-Ok.checked (subst (λ (n : NetValue). IsCheckedWith told n c.in-Ok.checked) c.new-none.ensures (c.in-Ok.ensures.checked known))
