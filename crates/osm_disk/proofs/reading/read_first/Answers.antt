use Rattle.std.proofs.Common.{rules, arith}
use Rattle.osm_disk.proofs.ReadLemmas.{chunk_read, first_read, nothing_read}
use Rattle.osm_disk.proofs.reading.read_first.Goals as goal

-- src/reading.rt:71:5
pub loop-init : goal.loop-init
loop-init g c = nothing_read c.args.most (g.R.Read.remaining c.args.reader) c.new-bytes.result.items c.new-bytes.ensures.items

-- src/reading.rt:72:20
pub overflow_sub-left : goal.overflow_sub-left
overflow_sub-left g c = omega (arith, c.loop.invariant.within, c.len.ensures, c.loop.bytes.ok)

-- src/reading.rt:74:13
pub returns-then-not-branch-clause-read : goal.returns-then-not-branch-clause-read
returns-then-not-branch-clause-read g c =
    first_read c.args.most c.len.result c.in_ok-add_chunk.field-0 (g.R.Read.remaining c.args.reader)
    (g.R.Read.remaining c.loop.reader) (g.R.Read.remaining c.add_chunk.new.reader) c.loop.bytes.items
    c.add_chunk.new.bytes.items (search rules) c.if-not-branch.true c.loop.invariant c.in_ok-add_chunk.ensures.adds

-- src/reading.rt:74:13
pub returns-then-not-branch-clause-within : goal.returns-then-not-branch-clause-within
returns-then-not-branch-clause-within g c =
    (chunk_read c.args.most c.len.result c.in_ok-add_chunk.field-0 (g.R.Read.remaining c.args.reader)
    (g.R.Read.remaining c.loop.reader) (g.R.Read.remaining c.add_chunk.new.reader) c.loop.bytes.items
    c.add_chunk.new.bytes.items (search rules) c.loop.invariant c.in_ok-add_chunk.ensures.adds).within

-- src/reading.rt:71:5
pub loop-preserved : goal.loop-preserved
loop-preserved g c =
    chunk_read c.args.most c.len.result c.in_ok-add_chunk.field-0 (g.R.Read.remaining c.args.reader)
    (g.R.Read.remaining c.loop.reader) (g.R.Read.remaining c.add_chunk.new.reader) c.loop.bytes.items
    c.add_chunk.new.bytes.items (search rules) c.loop.invariant c.in_ok-add_chunk.ensures.adds
