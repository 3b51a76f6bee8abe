use Rattle.std.proofs.Common.{◌≡◌, sym, ◌∙◌, arith}
use Rattle.osm_data.specs.declared.extents.Extent.TheVariants.{Trailing}
use Rattle.osm_data.specs.Steps.Extents.{extent_at}
use Rattle.osm_data.proofs.ExtentLemmas.{trailing}
use Rattle.osm_data.proofs.O5mObjectsLemmas.{long_there, trailing_wrong}
use Rattle.osm_data.proofs.o5m_data.O5mData.go_on.Goals as goal

pub overflow_add-result : goal.overflow_add-result
overflow_add-result g c =
    let is : extent_at c.args.self.now.reader.unread ≡ Trailing = sym c.requires.extent ∙ c.in-Trailing.is in
    omega (arith, c.place.ensures.place, c.place.ensures.fits, (trailing c.args.self.now.reader.unread is).long)

pub returns-in-Long-clause-stops : goal.returns-in-Long-clause-stops
returns-in-Long-clause-stops g c = long_there c.args.self.now (sym c.requires.extent ∙ c.in-Long.is)

pub returns-in-Trailing-clause-stops : goal.returns-in-Trailing-clause-stops
returns-in-Trailing-clause-stops g c =
    trailing_wrong c.args.self.now c.place.result (sym c.requires.extent ∙ c.in-Trailing.is) c.place.ensures.place
