use Rattle.std.proofs.Common.{◌≡◌, rules, string_bytes, sym, ◌∙◌}
use Rattle.osm_kept.specs.Names.{journal_name_of}
use Rattle.osm_kept.proofs.LawLemmas.{journal_has_own_name}
use Rattle.osm_kept.proofs.names.journal_name.Goals as goal

pub returns-clause-other : goal.returns-clause-other
returns-clause-other c =
    let name : string_bytes c.in_ok-format.field-0 ≡ journal_name_of c.args.save.now = search rules in
    λ same. journal_has_own_name c.args.save.now (sym name ∙ same)
