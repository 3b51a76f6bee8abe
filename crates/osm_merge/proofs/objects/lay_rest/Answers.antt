use Rattle.std.proofs.Common.{[], List, length, ap, ◌∙◌, arith}
use Rattle.osm_net.specs.Laid.{laid_over, put_before}
use Rattle.osm_net.specs.Net.{NetEntry}
use Rattle.osm_net.proofs.LaidLemmas.{laid_over-no_entry}
use Rattle.osm_opl.specs.Written.{line_text}
use Rattle.osm_merge.proofs.LayLemmas.{some_last, some_more}
use Rattle.osm_merge.proofs.ObjectLemmas.{over_nothing, put_before-few}
use Rattle.osm_merge.proofs.objects.lay_rest.Goals as goal

pub loop-key-preserved : goal.loop-key-preserved
loop-key-preserved c =
    let long = ap {A = List NetEntry} length c.in-Some.ensures in
    some_more laid_over line_text c.args.entries.now c.loop-key.rest.now c.in-Some.after.now c.loop-key.many c.in_ok-many.field-0
    c.args.out.now.items c.loop-key.out.items c.put_left.new.out.items (put_before c.in-Some.left.now []) c.loop-key.invariant
    (ap (λ (l : List NetEntry). laid_over l []) c.in-Some.ensures ∙ over_nothing (c.in-Some._key, c.in-Some.left.now) c.in-Some.after.now)
    c.in_ok-many.ensures.out c.in_ok-many.ensures.many
    (omega (arith, long, put_before-few c.in-Some.left.now, c.in_ok-many.ensures.many))

pub returns : goal.returns
returns c =
    some_last laid_over line_text c.args.entries.now c.loop-key.rest.now c.loop-key.many c.args.out.now.items c.loop-key.out.items c.loop-key.invariant
    (ap (λ (l : List NetEntry). laid_over l []) c.in_default.ensures ∙ laid_over-no_entry [])
