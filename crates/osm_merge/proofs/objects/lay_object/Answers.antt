use Rattle.std.proofs.Common.{◌≡◌, ◌∷◌, [], List, length, sym, ap, ◌∙◌, refl, arith, rules}
use Rattle.std.specs.declared.cmp.Ordering.TheVariants.{Less, Equal, Greater}
use Rattle.osm_model.specs.KeyOrder.{key_cmp}
use Rattle.osm_net.specs.Laid.{laid_over, put_before}
use Rattle.osm_net.specs.Net.{NetEntry}
use Rattle.osm_opl.specs.Written.{line_text}
use Rattle.osm_save.specs.Reading.{object_of}
use Rattle.osm_merge.proofs.LayLemmas.{below_last, below_more}
use Rattle.osm_merge.proofs.ObjectLemmas.{over_above, over_at, over_below, over_none, put_before-few}
use Rattle.osm_merge.proofs.objects.lay_object.Goals as goal

pub loop-key-preserved : goal.loop-key-preserved
loop-key-preserved c =
    let less : key_cmp c.in-Some.key (object_of c.args.line.now).key ≡ Less = rw (← c.requires.named) (search rules) in
    let long = ap {A = List NetEntry} length c.in-Some.ensures in
    below_more laid_over line_text c.args.entries.now c.loop-key.rest.now c.in-Some.after.now (object_of c.args.line.now) c.loop-key.many
    c.in_ok-many-in-Less.field-0 c.args.out.now.items c.loop-key.out.items c.put_left.new.out.items (put_before c.in-Some.left.now [])
    c.loop-key.invariant
    (λ xs. ap (λ (l : List NetEntry). laid_over l (object_of c.args.line.now ∷ xs)) c.in-Some.ensures
    ∙ over_below (c.in-Some.key, c.in-Some.left.now) c.in-Some.after.now (object_of c.args.line.now) less xs)
    c.in_ok-many-in-Less.ensures.out c.in_ok-many-in-Less.ensures.many
    (omega (arith, long, put_before-few c.in-Some.left.now, c.in_ok-many-in-Less.ensures.many))

pub returns-in-Equal : goal.returns-in-Equal
returns-in-Equal c =
    let equal : key_cmp c.in-Some.key (object_of c.args.line.now).key ≡ Equal = rw (← c.requires.named) (search rules) in
    let long = ap {A = List NetEntry} length c.in-Some.ensures in
    below_last laid_over line_text c.args.entries.now c.loop-key.rest.now c.in-Some.after.now (object_of c.args.line.now) c.loop-key.many
    c.in_ok-many-in-Equal.field-0 c.args.out.now.items c.loop-key.out.items c.put_left-in-Equal.new.out.items (put_before c.in-Some.left.now [])
    c.loop-key.invariant
    (λ xs. ap (λ (l : List NetEntry). laid_over l (object_of c.args.line.now ∷ xs)) c.in-Some.ensures
    ∙ over_at (c.in-Some.key, c.in-Some.left.now) c.in-Some.after.now (object_of c.args.line.now) equal xs)
    c.in_ok-many-in-Equal.ensures.out c.in_ok-many-in-Equal.ensures.many
    (omega (arith, long, put_before-few c.in-Some.left.now, c.in_ok-many-in-Equal.ensures.many))

pub returns-in-Greater : goal.returns-in-Greater
returns-in-Greater c =
    let greater : key_cmp c.in-Some.key (object_of c.args.line.now).key ≡ Greater = rw (← c.requires.named) (search rules) in
    below_last laid_over line_text c.args.entries.now c.loop-key.rest.now c.loop-key.rest.now (object_of c.args.line.now) c.loop-key.many 1
    c.args.out.now.items c.loop-key.out.items c.put_line.new.out.items (object_of c.args.line.now ∷ []) c.loop-key.invariant
    (λ xs. ap (λ (l : List NetEntry). laid_over l (object_of c.args.line.now ∷ xs)) c.in-Some.ensures
    ∙ over_above (c.in-Some.key, c.in-Some.left.now) c.in-Some.after.now (object_of c.args.line.now) greater xs
    ∙ ap (λ (l : List NetEntry). (object_of c.args.line.now) ∷ laid_over l xs) (sym c.in-Some.ensures))
    (rw (← c.requires.text) c.in_ok-put_line-in-Greater.ensures) refl (omega arith)

pub returns : goal.returns
returns c =
    below_last laid_over line_text c.args.entries.now c.loop-key.rest.now c.loop-key.rest.now (object_of c.args.line.now) c.loop-key.many 1
    c.args.out.now.items c.loop-key.out.items c.put_line-2.new.out.items (object_of c.args.line.now ∷ []) c.loop-key.invariant
    (λ xs. ap (λ (l : List NetEntry). laid_over l (object_of c.args.line.now ∷ xs)) c.in_default.ensures
    ∙ over_none (object_of c.args.line.now) xs
    ∙ ap (λ (l : List NetEntry). (object_of c.args.line.now) ∷ laid_over l xs) (sym c.in_default.ensures))
    (rw (← c.requires.text) c.in_ok-put_line.ensures) refl (omega arith)
