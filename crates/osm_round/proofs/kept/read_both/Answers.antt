use Rattle.std.proofs.Common.{◌∙◌, refl}
use Rattle.osm_kept.specs.declared.fault.KeptFault.TheVariants as kept
use Rattle.osm_round.proofs.kept.read_both.Goals as goal

pub returns-in-Err-clause-stops : goal.returns-in-Err-clause-stops
returns-in-Err-clause-stops g c = (kept.WantOfMemory, refl, tt, λ yes. tt)

pub returns-in-Ok-read_ends-clause-ends : goal.returns-in-Ok-read_ends-clause-ends
returns-in-Ok-read_ends-clause-ends g c =
    let name = c.as_str.ensures.value ∙ c.in-Ok.ensures.name in
    record {
      reach = c.in-Ok-read_ends.ensures.reach;
      found = rw name at c.in-Ok-read_ends.ensures.found;
      free = rw name at c.in-Ok-read_ends.ensures.free;
    }
