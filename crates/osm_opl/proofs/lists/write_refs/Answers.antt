use Rattle.std.proofs.Common.{◌≡◌, ◌<◌, ◌++◌, [], ap, arith, length, rules, true, ◌∙◌, List, ℤ}
use Rattle.std.proofs.lemmas.Bool.Decides.{nat_tests}
use Rattle.std.specs.Io.{StartsWith}
use Rattle.osm_opl.specs.Room.{LacksRoom}
use Rattle.osm_opl.specs.Steps.Writing.{items_left}
use Rattle.osm_opl.specs.Written.{items_text, more_items, ref_text}
use Rattle.osm_opl.proofs.RoomLemmas.{lacks_part}
use Rattle.osm_opl.proofs.WrittenLemmas.{left_split, no_item, no_items, on_err, starts_more, writes_all, writes_more, writes_nothing, writes_start}
use Rattle.osm_opl.proofs.lists.write_refs.Goals as goal

pub loop-rest-init : goal.loop-rest-init
loop-rest-init c = (writes_nothing c.args.out.now.items (items_text ref_text c.args.refs.now), omega arith)

pub returns-in_err-write_few_refs-clause-err : goal.returns-in_err-write_few_refs-clause-err
returns-in_err-write_few_refs-clause-err c =
    on_err c.from_residual.result (StartsWith c.write_few_refs.new.out.items c.args.out.now.items)
    (starts_more c.args.out.now.items c.loop-rest.out.items c.write_few_refs.new.out.items
    (writes_start c.args.out.now.items c.loop-rest.out.items (items_left ref_text c.loop-rest.is_first c.loop-rest.rest.now)
    (items_text ref_text c.args.refs.now) c.loop-rest.invariant.0) c.in_err-write_few_refs.ensures.err)

pub returns-in_err-write_few_refs-clause-refused : goal.returns-in_err-write_few_refs-clause-refused
returns-in_err-write_few_refs-clause-refused c =
    let few = c.split_at.result.0.now in
    let after = c.split_at.result.1.now in
    let some : 0 < length few = grind (arith, nat_tests, rules) in
    let split : items_left ref_text c.loop-rest.is_first c.loop-rest.rest.now
    ≡ items_left ref_text c.loop-rest.is_first few ++ more_items ref_text after =
    ap (λ (l : List ℤ). items_left ref_text c.loop-rest.is_first l) c.split_at.ensures.by_index.0
    ∙ left_split ref_text c.loop-rest.is_first few after some in
    on_err c.from_residual.result (LacksRoom c.args.out.now (items_text ref_text c.args.refs.now))
    (lacks_part c.args.out.now c.loop-rest.out (items_left ref_text c.loop-rest.is_first c.loop-rest.rest.now)
    (items_text ref_text c.args.refs.now) (items_left ref_text c.loop-rest.is_first few) (more_items ref_text after)
    c.loop-rest.invariant.0 split c.loop-rest.invariant.1 c.in_err-write_few_refs.ensures.refused)

pub loop-rest-preserved : goal.loop-rest-preserved
loop-rest-preserved c =
    let few = c.split_at.result.0.now in
    let after = c.split_at.result.1.now in
    let some : 0 < length few = grind (arith, nat_tests, rules) in
    let split : items_left ref_text c.loop-rest.is_first c.loop-rest.rest.now
    ≡ items_left ref_text c.loop-rest.is_first few ++ more_items ref_text after =
    ap (λ (l : List ℤ). items_left ref_text c.loop-rest.is_first l) c.split_at.ensures.by_index.0
    ∙ left_split ref_text c.loop-rest.is_first few after some in (
      writes_more c.args.out.now.items c.loop-rest.out.items (items_left ref_text c.loop-rest.is_first c.loop-rest.rest.now)
          (items_text ref_text c.args.refs.now) (items_left ref_text c.loop-rest.is_first few) (more_items ref_text after)
          c.write_few_refs.new.out.items c.loop-rest.invariant.0 split c.in_ok-write_few_refs.ensures.ok,
      search (arith, rules),
    )

pub returns-clause-ok : goal.returns-clause-ok
returns-clause-ok c =
    let empty : c.is_empty.result ≡ true = grind (arith, nat_tests) in
    let none : c.loop-rest.rest.now ≡ [] = no_item c.loop-rest.rest.now c.is_empty.result c.is_empty.ensures empty in
    writes_all c.args.out.now.items c.loop-rest.out.items (items_text ref_text c.args.refs.now)
    (rw (none, no_items ref_text c.loop-rest.is_first) at c.loop-rest.invariant.0)
