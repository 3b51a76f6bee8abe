use Rattle.std.proofs.Common.{◌≡◌, ◌++◌, ap, ◌∙◌}
use Rattle.osm_kept.proofs.NextLemmas.{first_written}
use Rattle.osm_kept.proofs.next.first_text.Goals as goal

pub returns : goal.returns
returns c =
    let all : c.add_batches.new.out.items ≡ c.args.batches.now =
    c.in_ok-add_batches.ensures ∙ ap (λ l. l ++ c.args.batches.now) c.new.ensures.items in
    first_written c.args.most c.args.start.now c.in_ok-filter.filter c.add_batches.new.out.items c.args.batches.now c.write_within.result
    c.in_ok-filter.ensures.ok all c.write_within.ensures
