use Rattle.std.proofs.Common.{sym, ◌∙◌}
use Rattle.std.proofs.lemmas.Bool.Decides.{Decides-eqb}
use Rattle.std.proofs.lemmas.Slice.Eq.{ends_is}
use Rattle.osm_runs.proofs.form.form_of.Goals as goal

pub returns-then-ends_with-clause-found : goal.returns-then-ends_with-clause-found
returns-then-ends_with-clause-found c = record {
  start = _;
  name_is = sym c.as_bytes-bytes.ensures.value ∙ (ends_is Decides-eqb c.as_bytes-bytes.result.now _ _ c.ends_with.ensures.value).0 c.if-ends_with.true;
}

pub returns-then-ends_with-2-clause-found : goal.returns-then-ends_with-2-clause-found
returns-then-ends_with-2-clause-found c = record {
  start = _;
  name_is = sym c.as_bytes-bytes.ensures.value ∙ (ends_is Decides-eqb c.as_bytes-bytes.result.now _ _ c.ends_with-2.ensures.value).0 c.if-ends_with-2.true;
}
