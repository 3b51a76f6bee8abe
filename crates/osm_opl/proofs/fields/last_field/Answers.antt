use Rattle.std.proofs.Common.{arith}
use Rattle.osm_opl.specs.Reading.{last_field_at}
use Rattle.osm_opl.proofs.FieldLaws.{not_alone}
use Rattle.osm_opl.proofs.fields.last_field.Goals as goal

-- a field that something follows isn't the last
pub returns-in-Some : goal.returns-in-Some
unfolding last_field_at
returns-in-Some c = grind (arith, not_alone)
