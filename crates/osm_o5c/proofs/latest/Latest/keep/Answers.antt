use Rattle.std.proofs.Common.{rules, ◌≡◌, ◌∙◌, ap, ℕ, List}
use Rattle.std.specs.Prelude.{if◌then◌else◌, unwrap_or}
use Rattle.std.specs.Str.{bytes_eq}
use Rattle.osm_o5c.specs.Steps.Latest.{latest_of, place_in}
use Rattle.osm_o5c.proofs.LatestLemmas.{latest_of-insert, number_kept}
use Rattle.osm_o5c.proofs.latest.Latest.keep.Goals as goal

pub returns-clause-number : goal.returns-clause-number
returns-clause-number c =
    let key : c.extend_from_slice.new.self.items ≡ c.args.text.now = search rules in
    let kept : c.or_insert-kept.result.now ≡ unwrap_or (place_in c.args.self.now.numbers.entries c.extend_from_slice.new.self.items) c.args.number =
    search rules in
    number_kept (place_in c.args.self.now.numbers.entries c.args.text.now) c.args.last c.args.number c.or_insert-kept.result.now _
    (kept ∙ ap (λ (k : List ℕ). unwrap_or (place_in c.args.self.now.numbers.entries k) c.args.number) key) (search rules)

pub returns-clause-kept : goal.returns-clause-kept
returns-clause-kept c = λ t.
    let key : c.extend_from_slice.new.self.items ≡ c.args.text.now = search rules in
    latest_of-insert c.args.self.now.numbers.entries _ c.extend_from_slice.new.self c.newest_of-newest.result (search rules) t
    ∙ ap (λ (k : List ℕ). if bytes_eq k t then c.newest_of-newest.result else latest_of c.args.self.now t) key
