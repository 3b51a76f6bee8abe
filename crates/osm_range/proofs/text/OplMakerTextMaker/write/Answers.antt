use Rattle.std.proofs.Common.{ℕ, List, [], ◌∷◌, ◌++◌, ap, ◌∙◌}
use Rattle.osm_range.proofs.WritingLemmas.{opl_goes_on}
use Rattle.osm_range.proofs.text.OplMakerTextMaker.write.Goals as goal

pub returns : goal.returns
returns c = λ changes.
    opl_goes_on c.args.self.now.out.items c.push.new.self.items c.args.change.now changes
    (c.in_ok-push.ensures.items ∙ ap (λ (t : List ℕ). t ++ 10 ∷ []) c.in_ok-write_line.ensures.ok)
