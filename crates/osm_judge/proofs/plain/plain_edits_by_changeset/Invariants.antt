use Rattle.std.proofs.Common.{◌≡◌, take}
use Rattle.osm_model.specs.Content.{edits_by_changeset}
use Rattle.osm_judge.proofs.plain.plain_edits_by_changeset.Given as goal

abbrev pub invariant-loop-change : goal.invariant-loop-change
invariant-loop-change l = l.count ≡ edits_by_changeset (take l.change-index l.changes) l.id
