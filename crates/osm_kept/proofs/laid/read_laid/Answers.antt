use Rattle.std.proofs.Common.{◌≡◌, List, ℕ, rules, subst}
use Rattle.osm_kept.specs.Names.{journal_name_of}
use Rattle.osm_kept.specs.Reaching.{FindsEnds}
use Rattle.osm_kept.specs.Refusal.{EndsStop, HasNoOther}
use Rattle.osm_kept.proofs.LaidLemmas.{ends_stop, found_ends, net_stop}
use Rattle.osm_kept.proofs.laid.read_laid.Goals as goal

pub returns-in-Ok-laid_of-clause-laid : goal.returns-in-Ok-laid_of-clause-laid
returns-in-Ok-laid_of-clause-laid g c = λ known.
    let files = (g.S.Store.state c.args.store.now).files in
    let told = files c.args.save.now in
    let name : c.deref.result.now ≡ journal_name_of c.args.save.now = search rules in
    let finds = subst (λ (l : List ℕ). FindsEnds told (files l) c.in-Ok.ends) name (c.in-Ok.ensures.found known) in
    c.in-Ok-laid_of.ensures.laid told (files (journal_name_of c.args.save.now))
    (found_ends told (files (journal_name_of c.args.save.now)) c.in-Ok.ends c.in-Some.reach c.in-Some.is finds)

pub returns-in-Err-clause-refused : goal.returns-in-Err-clause-refused
returns-in-Err-clause-refused g c = λ known.
    let files = (g.S.Store.state c.args.store.now).files in
    let told = files c.args.save.now in
    let name : c.deref.result.now ≡ journal_name_of c.args.save.now = search rules in
    ends_stop told (files (journal_name_of c.args.save.now)) c.in-Err.fault
    (subst (λ (l : List ℕ). EndsStop told (files l) c.in-Err.fault) name (c.in-Err.ensures.refused known))

pub returns-clause-refused : goal.returns-clause-refused
returns-clause-refused g c = λ known.
    let files = (g.S.Store.state c.args.store.now).files in
    let told = files c.args.save.now in
    let name : c.deref.result.now ≡ journal_name_of c.args.save.now = search rules in
    let finds = subst (λ (l : List ℕ). FindsEnds told (files l) c.in-Ok.ends) name (c.in-Ok.ensures.found known) in
    net_stop told (files (journal_name_of c.args.save.now)) c.in-Err-laid_of.fault
    (c.in-Err-laid_of.ensures.refused told (files (journal_name_of c.args.save.now))
    (found_ends told (files (journal_name_of c.args.save.now)) c.in-Ok.ends c.in-Some.reach c.in-Some.is finds))

pub returns-in-Ok-laid_of-clause-free : goal.returns-in-Ok-laid_of-clause-free
returns-in-Ok-laid_of-clause-free g c = λ known.
    let files = (g.S.Store.state c.args.store.now).files in
    let name : c.deref.result.now ≡ journal_name_of c.args.save.now = search rules in
    subst (λ (l : List ℕ). HasNoOther (files c.args.save.now) (files l)) name (c.in-Ok.ensures.free known)
