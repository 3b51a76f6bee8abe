use Rattle.std.proofs.Common.{◌≡◌, suc, ◌-◌, ◌<◌, None, Some, refl, rules, arith, length}
use Rattle.std.proofs.lemmas.Bool.Decides.{nat_tests}
use Rattle.osm_blocks.specs.Places.{left_of}
use Rattle.osm_mirror.specs.Mirror.{Counted}
use Rattle.osm_net.specs.Laid.{added}
use Rattle.osm_save.specs.Reading.{count_at}
use Rattle.osm_merge.specs.Laying.{next_at}
use Rattle.osm_merge.proofs.CallLemmas.{next_shorter}
use Rattle.osm_merge.proofs.LineLemmas.{refuses_all}
use Rattle.osm_merged.specs.Ahead.{counts_ahead}
use Rattle.osm_merged.proofs.AheadLemmas.{none_read, one_read}
use Rattle.osm_merged.proofs.FirstLemmas.{place}
use Rattle.osm_merged.proofs.counts.MergedCounts.fill.Goals as goal

pub returns-in-Ok-clause-same : goal.returns-in-Ok-clause-same
returns-in-Ok-clause-same g c = λ file has.
    let i = c.self.inside in
    let bytes = left_of c.args.source.now file in
    let none : i.held ≡ None = search rules in
    let above : 0 < i.lines = grind (arith, nat_tests) in
    let some : i.lines ≡ suc (i.lines - 1) = omega (arith, above) in
    rw (← c.self.view_is)
    (one_read added (λ (e : Counted). e.0) (count_at i.most) (place i.most i.lines i.last bytes i.increments.now i.held).ahead
    (place i.most (i.lines - 1) (Some c.in-Ok.count.0) bytes i.increments.now (Some c.in-Ok.count)).ahead
    bytes (left_of c.next_count.new.source file) c.in-Ok.count none some refl refl refl (c.in-Ok.ensures.read file has))

pub returns-in-Ok-clause-shorter : goal.returns-in-Ok-clause-shorter
returns-in-Ok-clause-shorter g c = λ file has.
    let i = c.self.inside in
    let none : i.held ≡ None = search rules in
    let less : length (left_of c.next_count.new.source file) < length (left_of c.args.source.now file) =
    next_shorter (count_at i.most) i.last (left_of c.args.source.now file) (left_of c.next_count.new.source file) c.in-Ok.count
    (c.in-Ok.ensures.read file has) in
    rw (← c.self.view_is, none) (omega (arith, less))

pub returns-in-Err-clause-refused : goal.returns-in-Err-clause-refused
returns-in-Err-clause-refused g c = λ file has.
    let i = c.self.inside in
    let bytes = left_of c.args.source.now file in
    let above : 0 < i.lines = grind (arith, nat_tests) in
    let some : i.lines ≡ suc (i.lines - 1) = omega (arith, above) in
    rw (← c.self.view_is)
    (refuses_all file c.in-Err.fault (next_at (count_at i.most) i.last bytes) (counts_ahead (place i.most i.lines i.last bytes i.increments.now i.held) bytes)
    (c.in-Err.ensures.read file has)
    (none_read added (λ (e : Counted). e.0) (count_at i.most) (place i.most i.lines i.last bytes i.increments.now i.held).ahead (i.lines - 1) bytes some))
