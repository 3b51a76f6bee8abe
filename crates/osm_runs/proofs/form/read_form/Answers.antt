use Rattle.osm_runs.proofs.form.read_form.Goals as goal

pub returns-in-Opl-clause-spelled : goal.returns-in-Opl-clause-spelled
returns-in-Opl-clause-spelled c = rw c.in-Opl.is c.read.ensures.spelled

pub returns-in-Opl-clause-refused : goal.returns-in-Opl-clause-refused
returns-in-Opl-clause-refused c = rw c.in-Opl.is c.read.ensures.refused

pub returns-in-O5c-clause-spelled : goal.returns-in-O5c-clause-spelled
returns-in-O5c-clause-spelled c = rw c.in-O5c.is c.read-in-O5c.ensures.spelled

pub returns-in-O5c-clause-refused : goal.returns-in-O5c-clause-refused
returns-in-O5c-clause-refused c = rw c.in-O5c.is c.read-in-O5c.ensures.refused
