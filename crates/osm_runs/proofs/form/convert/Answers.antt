use Rattle.std.proofs.Common.{subst}
use Rattle.osm_runs.specs.Forms.{spells_of}
use Rattle.osm_runs.proofs.form.convert.Goals as goal

pub returns-in-Ok-write_form-clause-converted : goal.returns-in-Ok-write_form-clause-converted
returns-in-Ok-write_form-clause-converted c = record {
  batch = c.in-Ok.batch;
  spelled = subst (λ xs. spells_of c.args.from xs c.in-Ok.batch) c.as_slice.ensures.value c.in-Ok.ensures.spelled;
  written = c.in-Ok-write_form.ensures.text;
  small = c.in-Ok-write_form.ensures.small;
}
