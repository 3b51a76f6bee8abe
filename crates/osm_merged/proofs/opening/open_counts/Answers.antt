use Rattle.std.proofs.Common.{refl}
use Rattle.osm_blocks.specs.Places.{left_of}
use Rattle.osm_save.specs.Reading.{counts_at, numbered_at}
use Rattle.osm_merge.proofs.LineLemmas.{refuses_all}
use Rattle.osm_merge.proofs.ListLemmas.{counts_none, counts_read}
use Rattle.osm_merged.proofs.opening.open_counts.Goals as goal

pub returns-in-Ok-clause-opened : goal.returns-in-Ok-clause-opened
returns-in-Ok-clause-opened g c = λ file has.
    rw (
      c.new.ensures,
      counts_read c.args.word.now c.args.most (left_of c.args.source.now file) (left_of c.numbered.new.self file) c.in-Ok.many
          (c.in-Ok.ensures.read file has c.requires.word),
    ) refl

pub returns-in-Err-clause-refused : goal.returns-in-Err-clause-refused
returns-in-Err-clause-refused g c = λ file has.
    refuses_all file c.in-Err.fault (numbered_at c.args.word.now c.args.most (left_of c.args.source.now file))
    (counts_at c.args.word.now c.args.most (left_of c.args.source.now file)) (c.in-Err.ensures.read file has c.requires.word)
    (counts_none c.args.word.now c.args.most (left_of c.args.source.now file))
