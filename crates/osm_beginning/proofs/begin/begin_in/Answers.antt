use Rattle.osm_beginning.proofs.begin.begin_in.Goals as goal

pub returns-in-Opl-clause-stops : goal.returns-in-Opl-clause-stops
returns-in-Opl-clause-stops g c = rw c.in-Opl.is c.begin_from.ensures.stops

pub returns-in-O5m-clause-stops : goal.returns-in-O5m-clause-stops
returns-in-O5m-clause-stops g c = rw c.in-O5m.is c.begin_from-in-O5m.ensures.stops
