use Rattle.osm_runs.specs.Names.{file_name_of}
use Rattle.osm_state.specs.declared.paths.Suffix.TheVariants.{O5c, Opl}
use Rattle.osm_audit.proofs.changes.check_changes.Goals as goal

pub returns-clause-said : goal.returns-clause-said
returns-clause-said g c = λ sure.
    c.say.ensures ((g.S.Store.state c.args.store.now).files (file_name_of c.args.dir.now c.args.number O5c))
    ((g.S.Store.state c.args.store.now).files (file_name_of c.args.dir.now c.args.number Opl)) (c.in_ok-o5c.ensures.held sure)
    ((rw (c.in_ok-o5c.ensures.frame.makes.known, c.in_ok-o5c.ensures.frame.files) at c.in_ok-opl.ensures.held) sure)
