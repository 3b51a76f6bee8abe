use Rattle.std.proofs.Common.{◌≡◌, [], List, length, ap, ◌∙◌, arith}
use Rattle.osm_net.specs.Laid.{laid_over}
use Rattle.osm_net.specs.Net.{NetEntry}
use Rattle.osm_net.proofs.LaidLemmas.{laid_over-no_entry}
use Rattle.osm_model.specs.Change.{ChangeValue}
use Rattle.osm_merge.proofs.CountingLemmas.{some_more}
use Rattle.osm_merge.proofs.ObjectLemmas.{put_before-few}
use Rattle.osm_merge.proofs.counting.count_rest.Goals as goal

pub loop-key-preserved : goal.loop-key-preserved
loop-key-preserved c =
    some_more c.args.entries.now c.loop-key.rest.now c.in-Some.after.now (c.in-Some._key, c.in-Some.left.now) c.loop-key.many c.count_left-many.result
    c.loop-key.invariant c.in-Some.ensures c.count_left-many.ensures (omega (arith, put_before-few c.in-Some.left.now, c.count_left-many.ensures))

pub returns-clause-counted : goal.returns-clause-counted
returns-clause-counted c =
    let none : length (laid_over c.loop-key.rest.now []) ≡ 0 =
    ap (λ (l : List ChangeValue). length l) (ap (λ (l : List NetEntry). laid_over l []) c.in_default.ensures ∙ laid_over-no_entry []) in
    let all = c.loop-key.invariant.counted in
    omega (arith, none, all)
