use Rattle.std.proofs.Common.{rules}
use Rattle.osm_range.proofs.RowLemmas.{rows_of_table}
use Rattle.osm_range.proofs.table.Table.limits.Goals as goal

pub returns : goal.returns
returns c = λ changes counts. rows_of_table changes c.args.self.now counts (search rules) (search rules)
