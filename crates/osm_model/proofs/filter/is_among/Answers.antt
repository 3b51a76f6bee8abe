use Rattle.std.proofs.lemmas.Fn.{always_returns_same}
use Rattle.osm_model.specs.Text.{bytes_cmp}
use Rattle.osm_model.proofs.FilterLemmas.{found_among}
use Rattle.osm_model.proofs.filter.is_among.Goals as goal

pub returns : goal.returns
returns c =
    rw c.is_ok.ensures.value
    (found_among c.args.keys.now c.args.text.now c.binary_search_by.result c.requires c.binary_search_by.ensures.bound
    (c.binary_search_by.ensures.position (λ key. bytes_cmp key c.args.text.now)
    (always_returns_same _ _ _ (λ a r f' k. (k.met.1, λ j. record { 0 = k.met.0 j })))))
