use Rattle.std.proofs.Common.{◌≡◌}
use Rattle.osm_opl.specs.Flat.{meta_of}
use Rattle.osm_opl.proofs.BeginFieldLemmas.{head_with}
use Rattle.osm_opl.proofs.after.take_head.Goals as goal

pub returns : goal.returns
returns c =
    let same : c.in-Ok.meta ≡ meta_of c.in-Some.numbers c.in-Some-2.user = c.in-Ok.ensures.value in
    let user = rw c.in-Some-2.is at c.in_ok-user.ensures in
    rw same (head_with c.in-Some.numbers c.in-Some-2.user c.args.bytes.now c.in-Some.rest.now c.in-Some-2.rest.now
    c.in-Some.ensures user)
