use Rattle.std.proofs.Common.{◌≡◌, arith}
use Rattle.std.proofs.lemmas.Bool.Decides.{nat_tests}
use Rattle.osm_round.specs.News.{came_to}
use Rattle.osm_round.proofs.BothLemmas.{puts_made, puts_nothing}
use Rattle.osm_round.proofs.NewsLemmas.{room_for_held}
use Rattle.osm_round.proofs.PutLemmas.{savable_alone}
use Rattle.osm_round.proofs.keeping.begin.Goals as goal
use Rattle.osm_runs.proofs.ResultLemmas.{on_ok_map}

pub returns-then-taken-eq0-clause-puts : goal.returns-then-taken-eq0-clause-puts
returns-then-taken-eq0-clause-puts g c = λ yes.
    let none : c.args.taken.head.number ≡ 0 = grind (arith, nat_tests) in
    let number = c.requires.taken.1.number in
    let law = c.laws_of_kept.ensures in
    puts_nothing law.named c.args.filter.now c.args.save.now (g.S.Store.state c.args.store.now).files law.no_bytes (came_to c.args.filter.now c.args.taken)
    (c.requires.none yes) (c.requires.taken.1.none (omega (arith, number, none)))

pub returns-clause-puts : goal.returns-clause-puts
returns-clause-puts g c =
    let a = g.S.Store.state c.args.store.now in
    let law = c.laws_of_kept.ensures in
    let taken = came_to c.args.filter.now c.args.taken in
    on_ok_map c.make.result c.make.ensures.made (λ made yes.
    puts_made law.named c.args.filter.now c.args.save.now a.files law.saved (g.S.Store.state c.make.new.store).files taken (c.requires.none yes)
    (made yes (savable_alone c.args.filter.now c.requires.taken.0 taken c.requires.taken.1 c.requires.number)) law.one_kept law.no_bytes)

pub make-requires : goal.make-requires
make-requires g c = room_for_held c.args.taken.head.number c.args.taken.news c.requires.few c.requires.number
