use Rattle.std.proofs.Common.{refl}
use Rattle.osm_range.proofs.reading.take_number.Goals as goal

pub take-requires : goal.take-requires
take-requires g c =
    let read = rw c.in-Some.is at c.in_ok-numbered.ensures.read in
    record { holding = c.requires.holding; limit = c.requires.most; positive = read.positive; batch = read.limits }

pub returns-clause-taken : goal.returns-clause-taken
returns-clause-taken g c =
    let read = rw c.in-Some.is at c.in_ok-numbered.ensures.read in (
      record { number = c.args.number; changes = c.in-Some.numbered.changes.items; time = c.in-Some.numbered.time },
      refl,
      read,
      refl,
      c.in_ok-take.ensures.taken,
    )
