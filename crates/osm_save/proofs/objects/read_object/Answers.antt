use Rattle.std.proofs.Common.{◌∙◌, sym}
use Rattle.osm_save.proofs.ObjectLemmas.{chosen_again, none_again}
use Rattle.osm_save.proofs.objects.read_object.Goals as goal

pub returns-then-not-is_chosen-clause-read : goal.returns-then-not-is_chosen-clause-read
returns-then-not-is_chosen-clause-read c =
    let is = rw c.in-Some.is at c.in_ok-object.ensures in
    none_again c.args.filter.now c.args.last c.args.line.now c.in-Some.object c.limits.ensures is.0 (sym c.if-not-is_chosen.ensures)

pub returns-clause-read : goal.returns-clause-read
returns-clause-read c =
    let is = rw c.in-Some.is at c.in_ok-object.ensures in
    chosen_again c.args.filter.now c.args.last c.args.line.now c.in-Some.object c.limits.ensures is.0 (sym c.if-not-is_chosen.ensures)

pub returns-clause-written : goal.returns-clause-written
returns-clause-written c = let is = rw c.in-Some.is at c.in_ok-object.ensures in is.1 ∙ is.0
