use Rattle.std.proofs.Common.{rules, ◌≡◌, ◌∙◌, ◌-◌, ◌≤◌, sym, refl, ap}
use Rattle.std.specs.Prelude.{nat_lt}
use Rattle.std.proofs.lemmas.Map.Entries.{filter_from_retain_pairs}
use Rattle.osm_o5c.proofs.LatestLemmas.{forgotten}
use Rattle.osm_o5c.proofs.latest.Latest.forget_old.Goals as goal

-- the closure keeps its bound from call to call, and answers whether a number is past it
pub returns : goal.returns
returns c =
    let last = c.saturating_sub-last.result in
    let kept = filter_from_retain_pairs _ (λ f. f.0.now ≡ last) (λ e. nat_lt last e.1)
    (λ g k v b w g' i t.
    let said = t.called.met.0.said-raw.1.1.1.1 in (
      said.0 ∙ ap (λ n. nat_lt g.0.now n) t.shows.1 ∙ ap (λ n. nat_lt n v) i,
      sym t.leaves ∙ said.1 ∙ t.shows.1,
      ap (λ x. x.now) t.called.met.1 ∙ i,
    ))
    _ c.args.self.now.numbers.entries c.retain.new.self.entries refl c.retain.ensures.filtered in
    let due : 15000 ≤ c.args.count = search rules in
    let past : last ≡ c.args.count - 15000 = search rules in
    forgotten c.args.self.now.numbers.entries c.retain.new.self.entries c.args.count last due past c.retain.ensures.was_ordered kept
