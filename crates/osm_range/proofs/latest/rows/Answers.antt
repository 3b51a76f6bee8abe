use Rattle.std.proofs.Common.{◌≡◌, List, [], sym, subst, ◌∙◌, map, rules, Bor}
use Rattle.osm_model.specs.Change.{ChangeValue}
use Rattle.osm_model.specs.declared.kind.Key.{Key}
use Rattle.osm_mirror.specs.Entries.{HaveOwnKeys}
use Rattle.osm_range.specs.Steps.Rising.{entry_of}
use Rattle.osm_range.proofs.RisingLemmas.{own-more, rows-all, rows-more}
use Rattle.osm_range.proofs.latest.rows.Goals as goal

pub loop-change-init : goal.loop-change-init
loop-change-init c =
    let none : c.in_ok-rows.rows.items ≡ [] = search rules in
    record {
      changes = rw none (c.into_iter-change-iterator.ensures.into_iter_gives ∙ c.values-change-items.ensures.rest);
      own = rw none tt;
    }

pub loop-change-preserved : goal.loop-change-preserved
loop-change-preserved c = record {
  changes = rows-more c.loop-change.rows.items c.push.new.self.items c.key.result c.in-Some.change c.loop-change.change-iterator
      c.next.new.self _ c.in_ok-push.ensures.items c.in-Some.ensures.steps c.loop-change.invariant.changes;
  own = subst (λ (rs : List (Key × Bor ChangeValue)). HaveOwnKeys (map entry_of rs)) (sym c.in_ok-push.ensures.items)
      (own-more c.loop-change.rows.items c.key.result c.in-Some.change c.key.ensures.key c.loop-change.invariant.own);
}

pub returns : goal.returns
returns c = record {
  changes = rows-all c.loop-change.rows.items c.loop-change.change-iterator _ (search rules) c.loop-change.invariant.changes;
  own = c.loop-change.invariant.own;
  apart = c.values-change-items.ensures.unique;
}
