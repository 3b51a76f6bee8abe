use Rattle.std.proofs.Common.{rules, FitsSigned, w64}
use Rattle.std.proofs.lemmas.Int.{to_z-of_z}
use Rattle.osm_opl.proofs.FlatLemmas.{first_ref_is, no_ref}
use Rattle.osm_opl.proofs.flat_lists.first_ref.Goals as goal

pub returns-in-Ok-clause-first : goal.returns-in-Ok-clause-first
returns-in-Ok-clause-first c = λ id more h.
    let fits : FitsSigned w64 c.in-Ok.id = search rules in
    simp to_z-of_z (first_ref_is c.args.refs.now id c.in-Ok.id more c.in-Ok.rest c.in-Ok.ensures.value h)

pub returns-in-Err-clause-first : goal.returns-in-Err-clause-first
returns-in-Err-clause-first c = λ id more h. no_ref c.args.refs.now id more c.in-Err.ensures.value h
