use Rattle.std.proofs.Common.{◌≡◌, rules}
use Rattle.osm_model.proofs.time.time_read.Goals as goal

pub returns-clause-complete : goal.returns-clause-complete
returns-clause-complete c = λ t h.
    let e : c.in_ok-text.text.now ≡ c.args.bytes.now = search rules in
    c.read_form.ensures.complete t (rw e h)
