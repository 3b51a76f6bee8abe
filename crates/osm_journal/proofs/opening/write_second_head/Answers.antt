use Rattle.std.proofs.Common.{[], ◌∷◌, ◌++◌, List, ℕ}
use Rattle.std.specs.Prelude.{codes, decimal}
use Rattle.osm_save.specs.Head.{maybe_time_text}
use Rattle.osm_save.proofs.TextLemmas.{lines_more}
use Rattle.osm_journal.proofs.opening.write_second_head.Goals as goal

pub returns : goal.returns
returns c =
    let old : List ℕ = c.args.out.now.items in
    let first : List ℕ = codes "osmrepl-save 2" in
    let base : List ℕ = codes "base " ++ decimal c.args.head.base in
    let sequence : List ℕ = codes "sequence " ++ decimal c.args.head.number in
    let time : List ℕ = codes "time " ++ maybe_time_text c.args.head.time in
    let one = lines_more old c.extend_from_slice.new.self.items c.write_numbered.new.out.items (first ∷ []) (base ∷ [])
    c.in_ok-extend_from_slice.ensures.items c.in_ok-write_numbered.ensures in
    lines_more old c.write_numbered.new.out.items c.write_place.new.out.items (first ∷ base ∷ []) (sequence ∷ time ∷ []) one
    c.in_ok-write_place.ensures
