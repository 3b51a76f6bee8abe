use Rattle.std.proofs.Common.{◌≡◌, arith, refl, rules}
use Rattle.std.specs.Io.{StartsWith}
use Rattle.osm_opl.specs.Steps.Writing.{pair_text}
use Rattle.osm_opl.specs.Written.{items_text, tag_text}
use Rattle.osm_opl.specs.Room.{LacksRoom}
use Rattle.osm_opl.proofs.RoomLemmas.{lacks_item}
use Rattle.osm_opl.proofs.WrittenLemmas.{items_more, items_start, on_err, starts_more}
use Rattle.osm_opl.proofs.lists.write_tags.Goals as goal

pub returns-in_err-write_tag-clause-err : goal.returns-in_err-write_tag-clause-err
returns-in_err-write_tag-clause-err c =
    on_err c.from_residual.result (StartsWith c.write_tag.new.out.items c.args.out.now.items)
    (starts_more c.args.out.now.items c.loop-tag.out.items c.write_tag.new.out.items
    (items_start tag_text c.args.out.now.items c.loop-tag.out.items c.args.tags.now c.loop-tag.is_first
    c.loop-tag.tag-index c.loop-tag.invariant.0) c.in_err-write_tag.ensures.err)

pub loop-tag-preserved : goal.loop-tag-preserved
loop-tag-preserved c =
    let text : pair_text c.as_str.result.now c.as_str-in-loop-tag.result.now ≡ tag_text c.tag-item.result =
    rw (c.as_str.ensures.text, c.as_str-in-loop-tag.ensures.text) refl in (
      items_more tag_text c.args.out.now.items c.loop-tag.out.items c.write_tag.new.out.items c.args.tags.now
          c.loop-tag.is_first c.loop-tag.tag-index c.tag-item.result c.loop-tag.invariant.0
          (omega arith) c.tag-item.is (rw text at c.in_ok-write_tag.ensures.ok),
      search (arith, rules),
    )

pub returns-in_err-write_tag-clause-refused : goal.returns-in_err-write_tag-clause-refused
returns-in_err-write_tag-clause-refused c =
    let text : pair_text c.as_str.result.now c.as_str-in-loop-tag.result.now ≡ tag_text c.tag-item.result =
    rw (c.as_str.ensures.text, c.as_str-in-loop-tag.ensures.text) refl in
    on_err c.from_residual.result (LacksRoom c.args.out.now (items_text tag_text c.args.tags.now))
    (lacks_item tag_text c.args.out.now c.loop-tag.out c.args.tags.now c.loop-tag.is_first
    c.loop-tag.tag-index c.tag-item.result c.loop-tag.invariant.0 (omega arith) c.tag-item.is
    c.loop-tag.invariant.1 (rw text at c.in_err-write_tag.ensures.refused))
