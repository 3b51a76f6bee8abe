use Rattle.std.proofs.Common.{◌≡◌, ◌+◌, ◌++◌, ◌∙◌, refl, [], take, sym, ap, arith, length-append, ◌∷◌, Some, rules}
use Rattle.std.specs.Prelude.{slice_get, option_copied}
use Rattle.osm_o5c.specs.declared.strings.Entry.{Entry}
use Rattle.osm_data.specs.declared.o5m_carried.Sizes.{Sizes}
use Rattle.osm_data.specs.Steps.Strings.{AreSizesOf, bytes_of}
use Rattle.osm_data.proofs.StringsLemmas.{copied_some, entries_then, latest_oldest, nothing_carried, some_there, take_then}
use Rattle.osm_data.proofs.StringsLemmas.{texts_then, total_then}
use Rattle.osm_data.proofs.o5m_carried.Carried.of.Goals as goal

pub loop-index-init : goal.loop-index-init
loop-index-init c = rw (c.new-bytes.ensures.items, c.in-Ok.ensures.items) nothing_carried

-- every entry from the oldest on is there
pub unwrap-entry-requires : goal.unwrap-entry-requires
unwrap-entry-requires c =
    let there = some_there c.args.table.now c.loop-index.index (rw c.len-count.ensures.value at c.loop-index-test.true) in
    copied_some c.get.result there.0 (c.get.ensures
    ∙ latest_oldest c.args.table.now c.len-count.result c.loop-index.index c.len-count.ensures.value c.loop-index-test.true ∙ there.1)

pub loop-index-preserved : goal.loop-index-preserved
loop-index-preserved c =
    let found : option_copied c.get.result ≡ slice_get c.args.table.now c.loop-index.index = c.get.ensures
    ∙ latest_oldest c.args.table.now c.len-count.result c.loop-index.index c.len-count.ensures.value c.loop-index-test.true in
    let entry : Entry = c.unwrap-entry.result.now in
    let got : slice_get c.args.table.now c.loop-index.index ≡ Some entry = sym found ∙ ap option_copied c.unwrap-entry.ensures in
    let sizes_now : Sizes = c.sizes_of.result in
    let same : AreSizesOf sizes_now entry = c.sizes_of.ensures.sizes in
    let bytes : c.append.new.bytes.items ≡ c.loop-index.bytes.items ++ bytes_of entry = search rules in
    let sizes : c.push.new.self.items ≡ c.loop-index.sizes.items ++ sizes_now ∷ [] = search rules in
    let inv = c.loop-index.invariant in
    let next : take (c.loop-index.index + 1) c.args.table.now ≡ take c.loop-index.index c.args.table.now ++ entry ∷ [] =
    take_then c.args.table.now c.loop-index.index entry got in
    record {
      same = rw (bytes, sizes, entries_then c.loop-index.sizes.items c.loop-index.bytes.items sizes_now entry same inv.whole, next, inv.same) refl;
      whole = rw (bytes, sizes) (total_then c.loop-index.sizes.items c.loop-index.bytes.items sizes_now entry same inv.whole);
      count = rw sizes (omega (arith, inv.count, length-append c.loop-index.sizes.items (sizes_now ∷ [])));
      texts = rw (bytes, sizes) (texts_then c.loop-index.sizes.items c.loop-index.bytes.items sizes_now entry same c.sizes_of.ensures.texts
          inv.whole inv.texts);
    }
