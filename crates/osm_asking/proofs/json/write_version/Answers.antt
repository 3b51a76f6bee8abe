use Rattle.std.proofs.Common.{◌≡◌, ◌++◌, ℕ, ap, subst, ◌∙◌}
use Rattle.std.specs.Prelude.{OnOk, codes}
use Rattle.osm_asking.specs.Json.{number_json, version_json}
use Rattle.osm_asking.proofs.JsonLemmas.{appended_two}
use Rattle.osm_asking.proofs.json.write_version.Goals as goal

pub returns : goal.returns
unfolding version_json
returns c =
    appended_two c.write_after-2.result c.args.out.now.items (number_json (codes ",\"version\":") c.args.meta.now.version)
    (number_json (codes ",\"changeset\":") c.args.meta.now.changeset) c.write_after.new.out.items c.write_after-2.new.out.items
    (c.in_ok-write_after.ensures ∙ ap (λ (n : ℕ). c.args.out.now.items ++ number_json (codes ",\"version\":") n) c.version.ensures.version)
    (subst (λ (n : ℕ). OnOk c.write_after-2.result
    (c.write_after-2.new.out.items ≡ c.write_after.new.out.items ++ number_json (codes ",\"changeset\":") n)) c.changeset.ensures
    c.write_after-2.ensures)
