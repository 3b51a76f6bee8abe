use Rattle.std.proofs.Common.{◌≡◌, List, ℕ, rules, subst, sym}
use Rattle.osm_kept.specs.Names.{journal_name_of}
use Rattle.osm_kept.specs.Refusal.{OpensNoOther}
use Rattle.osm_publishing.specs.KeptLag.{KeptLagOut}
use Rattle.osm_publishing.proofs.KeptLagLemmas.{kept_out}
use Rattle.osm_publishing.proofs.lag.read_kept.Goals as goal

pub returns-clause-out : goal.returns-clause-out
returns-clause-out g c = λ known free.
    let a = g.S.Store.state c.args.store.now in
    let name : c.as_str.result.now ≡ journal_name_of c.args.save.now = search rules in
    subst (KeptLagOut a.left) (sym c.kept_fault.ensures) (kept_out c.in-Err.fault a.left (c.in-Err.ensures.lacks known
    (subst (λ (l : List ℕ). OpensNoOther (a.files c.args.save.now) (a.files l)) (sym name) free)))
