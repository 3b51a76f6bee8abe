use Rattle.std.proofs.Common.{None, ◌∙◌, arith}
use Rattle.osm_blocks.specs.Calls.{reads_ahead}
use Rattle.osm_blocks.specs.Places.{left_of}
use Rattle.osm_mirror.specs.Mirror.{Counted}
use Rattle.osm_save.specs.Reading.{count_at, counts_at, items_at, numbered_at}
use Rattle.osm_merge.proofs.CallLemmas.{advances_fails, advances_then}
use Rattle.osm_merge.proofs.FrameLemmas.{has_still}
use Rattle.osm_merge.proofs.LineLemmas.{refuses_all}
use Rattle.osm_merge.proofs.ListLemmas.{counts_none, counts_read}
use Rattle.osm_merge.proofs.PassLemmas.{passes_as}
use Rattle.osm_merge.proofs.passing.pass_list.Goals as goal

pub returns-in-Err-clause-refused : goal.returns-in-Err-clause-refused
returns-in-Err-clause-refused g c = λ file has.
    refuses_all file c.in-Err.fault (numbered_at c.args.word.now c.args.most (left_of c.args.source.now file))
    (counts_at c.args.word.now c.args.most (left_of c.args.source.now file)) (c.in-Err.ensures.read file has c.requires.word)
    (counts_none c.args.word.now c.args.most (left_of c.args.source.now file))

pub returns-in-Ok-pass_counts-clause-passed : goal.returns-in-Ok-pass_counts-clause-passed
returns-in-Ok-pass_counts-clause-passed g c = λ file has.
    let has_b = has_still (g.S.Store.state c.args.store.now) (g.S.Store.state c.numbered.new.store) c.in-Ok.many c.args.name.now file c.in-Ok.ensures.frame
    has in
    passes_as (left_of c.pass_counts.new.source file)
    (counts_read c.args.word.now c.args.most (left_of c.args.source.now file) (left_of c.numbered.new.self file) c.in-Ok.many
    (c.in-Ok.ensures.read file has c.requires.word)) (c.in-Ok-pass_counts.ensures.passed file has_b)

pub returns-in-Err-pass_counts-clause-refused : goal.returns-in-Err-pass_counts-clause-refused
returns-in-Err-pass_counts-clause-refused g c = λ file has.
    let has_b = has_still (g.S.Store.state c.args.store.now) (g.S.Store.state c.numbered.new.store) c.in-Ok.many c.args.name.now file c.in-Ok.ensures.frame
    has in
    refuses_all file c.in-Err-pass_counts.fault
    (items_at (λ (e : Counted). e.0) (count_at c.args.most) c.in-Ok.many None (left_of c.numbered.new.self file))
    (counts_at c.args.word.now c.args.most (left_of c.args.source.now file)) (c.in-Err-pass_counts.ensures.refused file has_b)
    (λ none.
    counts_read c.args.word.now c.args.most (left_of c.args.source.now file) (left_of c.numbered.new.self file) c.in-Ok.many
    (c.in-Ok.ensures.read file has c.requires.word) ∙ none)

pub returns-in-Ok-pass_counts-clause-calls : goal.returns-in-Ok-pass_counts-clause-calls
returns-in-Ok-pass_counts-clause-calls g c = λ file has.
    let a = g.S.Store.state c.args.store.now in
    let b = g.S.Store.state c.numbered.new.store in
    let has_b = has_still a b c.in-Ok.many c.args.name.now file c.in-Ok.ensures.frame has in
    advances_then (reads_ahead c.args.source.now file) (λ x. reads_ahead c.pass_counts.new.source file) a b (g.S.Store.state c.pass_counts.new.store)
    c.in-Ok.many tt tt (c.in-Ok.ensures.calls file has) (c.in-Ok-pass_counts.ensures.calls file has_b) (omega arith)

pub returns-in-Err-pass_counts-clause-calls : goal.returns-in-Err-pass_counts-clause-calls
returns-in-Err-pass_counts-clause-calls g c = λ file has.
    let a = g.S.Store.state c.args.store.now in
    let b = g.S.Store.state c.numbered.new.store in
    let has_b = has_still a b c.in-Ok.many c.args.name.now file c.in-Ok.ensures.frame has in
    advances_fails (reads_ahead c.args.source.now file) (λ x. reads_ahead c.pass_counts.new.source file) a b (g.S.Store.state c.pass_counts.new.store)
    c.in-Ok.many c.in-Err-pass_counts.fault (c.in-Ok.ensures.calls file has) (c.in-Err-pass_counts.ensures.calls file has_b) (omega arith)
