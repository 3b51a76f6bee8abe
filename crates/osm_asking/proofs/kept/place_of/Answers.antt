use Rattle.std.proofs.Common.{length}
use Rattle.std.proofs.lemmas.Fn.{always_returns_same}
use Rattle.osm_model.specs.KeyOrder.{key_cmp}
use Rattle.osm_net.specs.Net.{NetEntry}
use Rattle.osm_asking.proofs.EntryLemmas.{place_there, place_within}
use Rattle.osm_asking.proofs.kept.place_of.Goals as goal

pub returns-clause-within : goal.returns-clause-within
returns-clause-within c = place_within (length c.args.entries.now) c.binary_search_by.result c.ok.result c.ok.ensures.value c.binary_search_by.ensures.bound

pub returns-clause-there : goal.returns-clause-there
returns-clause-there c =
    place_there c.args.entries.now c.args.key c.binary_search_by.result c.ok.result c.ok.ensures.value c.binary_search_by.ensures.bound
    (c.binary_search_by.ensures.position (λ (e : NetEntry). key_cmp e.0 c.args.key)
    (always_returns_same _ _ _ (λ a r f' k. (k.met.1, λ j. record { 0 = k.met.0 j }))))
