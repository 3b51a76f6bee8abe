use Rattle.std.proofs.Common.{[], ◌∷◌, ◌++◌, List, ℕ}
use Rattle.std.specs.Prelude.{codes, decimal}
use Rattle.osm_save.specs.Filters.{filter_lines}
use Rattle.osm_save.specs.Head.{first_lines, maybe_time_text}
use Rattle.osm_save.specs.declared.version.Version.TheVariants.{Three}
use Rattle.osm_save.proofs.TextLemmas.{lines_more}
use Rattle.osm_save.proofs.head.write_head.Goals as goal

pub returns : goal.returns
returns c =
    let old : List ℕ = c.args.out.now.items in
    let first : List ℕ = codes "osmrepl-save 3" in
    let base : List ℕ = codes "base " ++ decimal c.args.head.base in
    let start : List (List ℕ) = first_lines Three c.args.head.base in
    let told : List (List ℕ) = filter_lines c.args.filter.now in
    let sequence : List ℕ = codes "sequence " ++ decimal c.args.head.number in
    let time : List ℕ = codes "time " ++ maybe_time_text c.args.head.time in
    let one = lines_more old c.extend_from_slice.new.self.items c.write_numbered.new.out.items (first ∷ []) (base ∷ [])
    c.in_ok-extend_from_slice.ensures.items c.in_ok-write_numbered.ensures in
    let two = lines_more old c.write_numbered.new.out.items c.write_filter.new.out.items start told one c.in_ok-write_filter.ensures in
    let last = lines_more c.write_filter.new.out.items c.write_numbered-2.new.out.items c.write_time_line.new.out.items
    (sequence ∷ []) (time ∷ []) c.in_ok-write_numbered-2.ensures c.in_ok-write_time_line.ensures in
    lines_more old c.write_filter.new.out.items c.write_time_line.new.out.items (start ++ told) (sequence ∷ time ∷ []) two last
