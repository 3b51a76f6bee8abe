use Rattle.std.proofs.Common.{rules, ◌≡◌, ◌∙◌, ap, ℕ, List}
use Rattle.std.specs.Prelude.{if◌then◌else◌}
use Rattle.std.specs.Str.{bytes_eq}
use Rattle.osm_o5c.specs.Steps.Latest.{latest_of}
use Rattle.osm_o5c.proofs.LatestLemmas.{latest_of-insert}
use Rattle.osm_o5c.proofs.latest.Latest.put.Goals as goal

pub returns-clause-put : goal.returns-clause-put
returns-clause-put c = λ t.
    let key : c.extend_from_slice.new.self.items ≡ c.args.text.now = search rules in
    latest_of-insert c.args.self.now.numbers.entries _ c.extend_from_slice.new.self c.args.number c.in-Ok.ensures.entries t
    ∙ ap (λ (k : List ℕ). if bytes_eq k t then c.args.number else latest_of c.args.self.now t) key
