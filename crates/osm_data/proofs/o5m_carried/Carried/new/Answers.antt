use Rattle.std.proofs.Common.{◌≡◌, [], refl, arith}
use Rattle.osm_data.specs.Steps.Strings.{AllAreTexts, AreCarried, entries_in, total_of}
use Rattle.osm_data.proofs.o5m_carried.Carried.new.Goals as goal

none_carried : AreCarried [] []
unfolding total_of AllAreTexts
none_carried = record { whole = refl; few = omega arith; texts = tt }

no_entries : entries_in [] [] ≡ []
unfolding entries_in
no_entries = refl

pub invariant_of-result : goal.invariant_of-result
invariant_of-result c = rw (c.new.ensures.items, c.new-2.ensures.items) none_carried

pub returns : goal.returns
returns c = rw (c.new.ensures.items, c.new-2.ensures.items) no_entries
