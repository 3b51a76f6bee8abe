use Rattle.std.proofs.Common.{◌≡◌, ◌≤◌, ℕ, List, drop, get_or, length, arith}
use Rattle.osm_data.specs.declared.o5m_carried.Sizes.{Sizes}
use Rattle.osm_data.specs.Steps.Strings.{size_in}
use Rattle.osm_data.proofs.StringsLemmas.{entries-length, next_entry, next_fits, next_texts, next_total, no_entry}
use Rattle.osm_data.proofs.o5m_carried.Carried.table.Goals as goal

pub enter_next-requires : goal.enter_next-requires
enter_next-requires c = record {
  within = next_fits c.as_slice-sizes-items.result.now c.loop-sizes.sizes-index _ c.loop-sizes.rest.now c.loop-sizes-test.true
      c.loop-sizes.invariant.whole;
  texts = (next_texts c.as_slice-sizes-items.result.now c.loop-sizes.sizes-index _ c.loop-sizes.rest.now c.loop-sizes-test.true
      c.loop-sizes.invariant.texts).0;
}

pub loop-sizes-preserved : goal.loop-sizes-preserved
loop-sizes-preserved c =
    let ss : List Sizes = c.as_slice-sizes-items.result.now in
    let i : ℕ = c.loop-sizes.sizes-index in
    let inv = c.loop-sizes.invariant in
    let few : length c.args.self.now ≤ 15000 = rw (← c.self.view_is)
    (omega (arith, c.self.invariant.few, entries-length c.self.inside.sizes.items c.self.inside.bytes.items)) in
    let after : c.in-Ok.after.now ≡ drop (size_in (get_or ss i _)) c.loop-sizes.rest.now = c.in-Ok.ensures.rest in
    record {
      same = rw after (next_entry ss i _ c.loop-sizes.rest.now c.loop-sizes.table c.enter_next.new.table c.args.self.now
          c.loop-sizes-test.true inv.same few c.in-Ok.ensures.table);
      whole = rw after (next_total ss i _ c.loop-sizes.rest.now c.loop-sizes-test.true inv.whole);
      texts = rw after (next_texts ss i _ c.loop-sizes.rest.now c.loop-sizes-test.true inv.texts).1;
    }

pub returns : goal.returns
returns c = no_entry c.as_slice-sizes-items.result.now c.loop-sizes.sizes-index c.loop-sizes.rest.now c.loop-sizes.table c.args.self.now
    c.loop-sizes-test.false c.loop-sizes.invariant.same
