use Rattle.std.proofs.Common.{◌∷◌, [], List, length, ap, ◌∙◌, refl, arith}
use Rattle.osm_mirror.specs.Mirror.{Counted}
use Rattle.osm_net.specs.Laid.{added}
use Rattle.osm_net.proofs.AddedLemmas.{added-no_count}
use Rattle.osm_save.specs.Save.{count_text}
use Rattle.osm_merge.proofs.LayLemmas.{some_last, some_more}
use Rattle.osm_merge.proofs.CountLemmas.{plus_nothing}
use Rattle.osm_merge.proofs.counts.lay_rest.Goals as goal

pub loop-number-preserved : goal.loop-number-preserved
loop-number-preserved c =
    let long = ap {A = List Counted} length c.in-Some.ensures in
    some_more added count_text c.args.increments.now c.loop-number.rest.now c.in-Some.after.now c.loop-number.many 1
    c.args.out.now.items c.loop-number.out.items c.write_count.new.out.items ((c.in-Some.number, c.in-Some.more) ∷ []) c.loop-number.invariant
    (ap (λ (l : List Counted). added l []) c.in-Some.ensures ∙ plus_nothing (c.in-Some.number, c.in-Some.more) c.in-Some.after.now)
    c.in_ok-write_count.ensures refl (omega (arith, long))

pub returns : goal.returns
returns c =
    some_last added count_text c.args.increments.now c.loop-number.rest.now c.loop-number.many c.args.out.now.items c.loop-number.out.items
    c.loop-number.invariant
    (ap (λ (l : List Counted). added l []) c.in_default.ensures ∙ added-no_count [])
