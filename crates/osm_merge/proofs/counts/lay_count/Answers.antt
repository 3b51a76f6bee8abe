use Rattle.std.proofs.Common.{◌≡◌, ◌+◌, ◌∷◌, [], List, length, sym, ap, ◌∙◌, refl, arith, rules}
use Rattle.std.specs.Ordering.{nat_cmp}
use Rattle.std.specs.declared.cmp.Ordering.TheVariants.{Less, Equal, Greater}
use Rattle.osm_mirror.specs.Mirror.{Counted}
use Rattle.osm_net.specs.Laid.{added}
use Rattle.osm_save.specs.Save.{count_text}
use Rattle.osm_merge.proofs.LayLemmas.{below_begun, below_last, below_more}
use Rattle.osm_merge.proofs.CountLemmas.{few_after, plus_above, plus_at, plus_below, plus_none}
use Rattle.osm_merge.proofs.counts.lay_count.Goals as goal

pub loop-number-init : goal.loop-number-init
loop-number-init c = record {
  below = below_begun added count_text c.args.increments.now c.args.count c.args.out.now.items;
  few = c.requires.few;
}

pub loop-number-preserved : goal.loop-number-preserved
loop-number-preserved c =
    let less : nat_cmp c.in-Some.number c.args.count.0 ≡ Less = search rules in
    let long = ap {A = List Counted} length c.in-Some.ensures in
    record {
      below = below_more added count_text c.args.increments.now c.loop-number.rest.now c.in-Some.after.now c.args.count c.loop-number.many 1
          c.args.out.now.items c.loop-number.out.items c.write_count.new.out.items ((c.in-Some.number, c.in-Some.more) ∷ []) c.loop-number.invariant.below
          (λ xs. ap (λ (l : List Counted). added l (c.args.count ∷ xs)) c.in-Some.ensures
          ∙ plus_below (c.in-Some.number, c.in-Some.more) c.in-Some.after.now c.args.count less xs)
          c.in_ok-write_count-in-Less.ensures refl (omega (arith, long));
      few = (few_after c.loop-number.rest.now c.in-Some.after.now (c.in-Some.number, c.in-Some.more) c.in-Some.ensures c.loop-number.invariant.few).1;
    }

pub returns-in-Equal-clause-lays : goal.returns-in-Equal-clause-lays
returns-in-Equal-clause-lays c =
    let equal : nat_cmp c.in-Some.number c.args.count.0 ≡ Equal = search rules in
    let long = ap {A = List Counted} length c.in-Some.ensures in
    below_last added count_text c.args.increments.now c.loop-number.rest.now c.in-Some.after.now c.args.count c.loop-number.many 1
    c.args.out.now.items c.loop-number.out.items c.write_count-in-Equal.new.out.items
    ((c.args.count.0, c.in-Some.more + c.args.count.1) ∷ []) c.loop-number.invariant.below
    (λ xs. ap (λ (l : List Counted). added l (c.args.count ∷ xs)) c.in-Some.ensures
    ∙ plus_at (c.in-Some.number, c.in-Some.more) c.in-Some.after.now c.args.count equal xs)
    c.in_ok-write_count-in-Equal.ensures refl (omega (arith, long))

pub returns-in-Greater-clause-lays : goal.returns-in-Greater-clause-lays
returns-in-Greater-clause-lays c =
    let greater : nat_cmp c.in-Some.number c.args.count.0 ≡ Greater = search rules in
    below_last added count_text c.args.increments.now c.loop-number.rest.now c.loop-number.rest.now c.args.count c.loop-number.many 1
    c.args.out.now.items c.loop-number.out.items c.write_count-in-Greater.new.out.items (c.args.count ∷ []) c.loop-number.invariant.below
    (λ xs. ap (λ (l : List Counted). added l (c.args.count ∷ xs)) c.in-Some.ensures
    ∙ plus_above (c.in-Some.number, c.in-Some.more) c.in-Some.after.now c.args.count greater xs
    ∙ ap (λ (l : List Counted). c.args.count ∷ added l xs) (sym c.in-Some.ensures))
    c.in_ok-write_count-in-Greater.ensures refl (omega arith)

pub returns-clause-lays : goal.returns-clause-lays
returns-clause-lays c =
    below_last added count_text c.args.increments.now c.loop-number.rest.now c.loop-number.rest.now c.args.count c.loop-number.many 1
    c.args.out.now.items c.loop-number.out.items c.write_count-2.new.out.items (c.args.count ∷ []) c.loop-number.invariant.below
    (λ xs. ap (λ (l : List Counted). added l (c.args.count ∷ xs)) c.in_default.ensures
    ∙ plus_none c.args.count xs
    ∙ ap (λ (l : List Counted). c.args.count ∷ added l xs) (sym c.in_default.ensures))
    c.in_ok-write_count.ensures refl (omega arith)
