use Rattle.std.proofs.Common.{◌≡◌, ◌∙◌}
use Rattle.osm_store.specs.Frames.{IsKnown}
use Rattle.osm_runs.specs.Names.{top_name_of}
use Rattle.osm_audit.proofs.TopLemmas.{top_told}
use Rattle.osm_audit.proofs.audit.read_top.Goals as goal

pub returns-clause-top : goal.returns-clause-top
returns-clause-top g c =
    let name : c.as_str.result.now ≡ top_name_of c.args.dir.now = c.as_str.ensures.value ∙ c.in_ok-name.ensures in
    rw (← name) (top_told (IsKnown (g.S.Store.state c.args.store.now)) ((g.S.Store.state c.args.store.now).files c.as_str.result.now)
    c.in_ok-read.read c.top_in.result c.in_ok-read.ensures.read c.in_ok-read.ensures.within c.top_in.ensures.top c.top_in.ensures.stops)
