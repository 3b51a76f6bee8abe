use Rattle.std.proofs.Common.{◌≡◌, length, get_or, arith, rules, sym, ◌∙◌}
use Rattle.osm_state.proofs.PathLemmas.{folders_of, eleven}
use Rattle.osm_state.proofs.paths.number_of.Goals as goal

pub returns-clause-found : goal.returns-clause-found
returns-clause-found c =
    let m = c.in_ok-millions.millions in
    let t = c.in_ok-thousands.thousands in
    let o = c.in_ok-ones.ones in
    let p = c.in_ok-millions.ensures.found in
    let q = c.in_ok-thousands.ensures.found in
    let r = c.in_ok-ones.ensures.found in
    let long : length c.args.folders.now ≡ 11 = search rules in
    let first : get_or c.args.folders.now 3 0 ≡ 47 = search rules in
    let second : get_or c.args.folders.now 7 0 ≡ 47 = search rules in
    let parts = eleven c.args.folders.now c.in_ok-millions.millions c.in_ok-thousands.thousands c.in_ok-ones.ones long first second p.1 q.1 r.1 in
    (omega (arith, p.0, q.0, r.0), parts ∙ sym (folders_of c.in_ok-millions.millions c.in_ok-thousands.thousands c.in_ok-ones.ones p.0 q.0 r.0))
