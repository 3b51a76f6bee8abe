use Rattle.std.proofs.Common.{◌≡◌, rules, subst}
use Rattle.osm_model.specs.Filter.{AreKept, FilterValue}
use Rattle.osm_follow.proofs.follower.Follower.read.Goals as goal

pub go_on-requires-clause-kept : goal.go_on-requires-clause-kept
go_on-requires-clause-kept c =
    let same : c.in_ok-number.field-0.filter ≡ c.args.self.now.filter = search rules in
    subst (λ (f : FilterValue). AreKept f c.in_ok-number.field-0.mirror.objects) same c.in_ok-number.ensures.spelled.savable.kept

pub returns-then-not-are_same : goal.returns-then-not-are_same
returns-then-not-are_same c =
    (c.in_ok-number.field-0, c.in_ok-number.ensures.spelled, search rules, record { broken = search rules; same_filter = search rules })

pub returns : goal.returns
returns c =
    let same : c.in_ok-number.field-0.filter ≡ c.args.self.now.filter = search rules in
    (c.in_ok-number.field-0, c.in_ok-number.ensures.spelled, same, search (rules, same))
