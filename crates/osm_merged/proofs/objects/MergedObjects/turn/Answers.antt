use Rattle.std.proofs.Common.{◌≡◌, rules}
use Rattle.std.specs.declared.cmp.Ordering.TheVariants.{Less, Equal, Greater}
use Rattle.osm_merged.specs.Steps.Turns.{rank_of}
use Rattle.osm_merged.proofs.TurnLemmas.{turned_above, turned_at, turned_below, turned_last}
use Rattle.osm_merged.proofs.objects.MergedObjects.turn.Goals as goal

pub returns-in_default-clause-turned : goal.returns-in_default-clause-turned
returns-in_default-clause-turned c = λ f bytes.
    turned_last f bytes c.args.self.now c.give_held.new.self c.give_held.result c.requires (search rules) c.give_held.ensures.given

pub returns-in-Greater-clause-turned : goal.returns-in-Greater-clause-turned
returns-in-Greater-clause-turned c = λ f bytes.
    let greater : rank_of c.in-Some.key c.args.self.now.held ≡ Greater = search rules in
    turned_above f bytes c.args.self.now c.give_held-in-Greater.new.self c.give_held-in-Greater.result (c.in-Some.key, c.in-Some.left.now) c.in-Some.after.now
    (search rules) greater c.give_held-in-Greater.ensures.given

pub returns-in-Ok-clause-turned : goal.returns-in-Ok-clause-turned
returns-in-Ok-clause-turned c = λ f bytes.
    let equal : rank_of c.in-Some.key c.args.self.now.held ≡ Equal = search rules in
    turned_at f bytes c.args.self.now c.take_entry.new.self c.in-Ok.turn (c.in-Some.key, c.in-Some.left.now) c.in-Some.after.now
    (search rules) equal c.in-Ok.ensures.given (search rules)

pub returns-in-Ok-take_entry-clause-turned : goal.returns-in-Ok-take_entry-clause-turned
returns-in-Ok-take_entry-clause-turned c = λ f bytes.
    let less : rank_of c.in-Some.key c.args.self.now.held ≡ Less = search rules in
    turned_below f bytes c.args.self.now c.take_entry-in-Less.new.self c.in-Ok-take_entry.turn (c.in-Some.key, c.in-Some.left.now) c.in-Some.after.now
    c.requires (search rules) less c.in-Ok-take_entry.ensures.given (search rules)
