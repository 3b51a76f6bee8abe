use Rattle.std.proofs.Common.{refl, rules}
use Rattle.std.specs.Prelude.{codes}
use Rattle.osm_save.specs.Head.{HasKeys}
use Rattle.osm_save.proofs.ItemLemmas.{wants_from}
use Rattle.osm_save.proofs.LineLemmas.{fixed_takes}
use Rattle.osm_journal.specs.Reading.{opening_at}
use Rattle.osm_journal.specs.Refusal.{BeginsJournal}
use Rattle.osm_journal.proofs.opening.read_opening.Goals as goal

-- memory is refused to the filter alone, whose lines come after the first
pub returns-in_err-version-clause-wants : goal.returns-in_err-version-clause-wants
returns-in_err-version-clause-wants c =
    wants_from (HasKeys c.in_ok-rest.rest.now) (BeginsJournal c.args.bytes.now) c.in_err-version.field-0.0
    c.from_residual-in_err-version.result c.in_err-version.ensures.wants
    (λ keys. record {
      rest = c.in_ok-rest.rest.now;
      parts = fixed_takes (codes "osmrepl-journal 1") c.args.bytes.now c.in_ok-rest.rest.now c.in_ok-rest.ensures;
    }) (search rules)

pub returns-clause-value : goal.returns-clause-value
unfolding opening_at
returns-clause-value c = rw (c.in_ok-rest.ensures, c.in_ok-version.ensures.value, c.in_ok-objects.ensures, c.in_ok-many.ensures.value) refl
