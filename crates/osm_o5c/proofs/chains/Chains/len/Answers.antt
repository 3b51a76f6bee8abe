use Rattle.std.proofs.Common.{rules, ◌≡◌, length, ◌∙◌, sym}
use Rattle.osm_o5c.proofs.IndexLemmas.{strings_length}
use Rattle.osm_o5c.proofs.chains.Chains.len.Goals as goal

pub returns-clause-count : goal.returns-clause-count
returns-clause-count c =
    let size : c.len.result ≡ length c.self.inside.slots.items = search rules in
    rw (← c.self.view_is) (size ∙ sym (strings_length c.self.inside.bytes.items c.self.inside.slots.items))
