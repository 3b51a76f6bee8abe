use Rattle.std.proofs.Common.{◌≡◌, ◌+◌, ℕ, List, take, drop, refl, subst}
use Rattle.osm_reading.specs.Lines.{lines_after}
use Rattle.osm_reading.proofs.PieceLemmas.{cut_lacks}
use Rattle.osm_data.specs.Steps.OplObjects.{AddStops, Adds}
use Rattle.osm_data.specs.Steps.OplPassing.{line_of}
use Rattle.osm_data.proofs.OplLineLemmas.{trimmed_line}
use Rattle.osm_data.proofs.opl_data.OplData.add_line.Goals as goal

pub returns-in-Err-clause-stops : goal.returns-in-Err-clause-stops
returns-in-Err-clause-stops c =
    let unread : List ℕ = c.args.self.now.reader.unread in
    let lacks = cut_lacks 10 unread (take c.args.count unread) (drop (c.args.count + 1) unread) c.requires.cut in
    let same : c.split_line.result.0.now ≡ line_of c.args.count c.args.self.now =
    trimmed_line (take c.args.count unread) c.split_line.result.0.now (lines_after c.split_line.result.1) lacks
    (rw c.line.ensures at c.split_line.ensures.lines) in
    subst (λ (l : List ℕ). AddStops l (c.args.count + 1) c.args.self.now.so_far c.in-Err.fault) same c.in-Err.ensures.stops

pub returns-clause-added : goal.returns-clause-added
returns-clause-added c =
    let unread : List ℕ = c.args.self.now.reader.unread in
    let lacks = cut_lacks 10 unread (take c.args.count unread) (drop (c.args.count + 1) unread) c.requires.cut in
    let same : c.split_line.result.0.now ≡ line_of c.args.count c.args.self.now =
    trimmed_line (take c.args.count unread) c.split_line.result.0.now (lines_after c.split_line.result.1) lacks
    (rw c.line.ensures at c.split_line.ensures.lines) in
    record {
      adds = subst (λ (l : List ℕ). Adds l (c.args.count + 1) c.args.self.now.so_far c.add.new.self c.args.objects.now.items c.add.new.objects.items)
          same c.in-Ok.ensures.added;
      passed = c.pass.ensures;
      open_still = refl;
    }
