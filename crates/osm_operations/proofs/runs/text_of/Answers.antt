use Rattle.std.proofs.lemmas.Str.{IsUtf8-from_ascii}
use Rattle.osm_operations.proofs.runs.text_of.Goals as goal

pub unreachable-requires : goal.unreachable-requires
unreachable-requires c =
    let cases = c.in-Err.ensures.cases in
    cases.0 (IsUtf8-from_ascii c.args.time.now c.requires)
