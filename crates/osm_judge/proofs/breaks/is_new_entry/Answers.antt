use Rattle.std.proofs.Common.{◌≡◌, inl, inr, rules}
use Rattle.osm_model.specs.Content.{edits_by_user, edits_by_changeset}
use Rattle.osm_judge.proofs.breaks.is_new_entry.Goals as goal

-- a count that is 0 is one of the three cases
pub returns-then-plain_edits_by_user-eq0 : goal.returns-then-plain_edits_by_user-eq0
returns-then-plain_edits_by_user-eq0 c =
    let first : edits_by_user c.args.counted.now c.args.change.now.meta.uid ≡ 0 = search rules in λ t. inl first

pub returns-then-plain_edits_by_changeset-eq0 : goal.returns-then-plain_edits_by_changeset-eq0
returns-then-plain_edits_by_changeset-eq0 c =
    let first : edits_by_changeset c.args.counted.now c.args.change.now.meta.changeset ≡ 0 = search rules in λ t. inr (inl first)
