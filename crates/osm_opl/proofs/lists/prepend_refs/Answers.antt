use Rattle.std.proofs.Common.{◌≡◌, ◌≤◌, ◌+◌, ◌-◌, ◌*◌, ◌∷◌, ◌++◌, FitsSigned, arith, drop, get_or, length, pos, refl, rules, to_z-of_z, true, w64}
use Rattle.std.proofs.lemmas.List.{get_or_default}
use Rattle.std.specs.Fmt.{signed_decimal}
use Rattle.osm_opl.proofs.WrittenLemmas.{refs_begun, refs_first, refs_more}
use Rattle.osm_opl.proofs.lists.prepend_refs.Goals as goal

pub loop-left-init : goal.loop-left-init
loop-left-init c = refs_begun c.args.room.now c.args.refs.now c.told-room

pub offset_bounds-refs-left : goal.offset_bounds-refs-left
offset_bounds-refs-left c = let h : c.loop-left.left ≤ length c.args.refs.now = c.loop-left.invariant.among in omega arith

pub bounds-refs-left : goal.bounds-refs-left
bounds-refs-left c = let h : c.loop-left.left ≤ length c.args.refs.now = c.loop-left.invariant.among in omega arith

pub prepend_id-digits-requires : goal.prepend_id-digits-requires
prepend_id-digits-requires c =
    let most : 192 ≤ c.loop-left.start + 22 * (length c.args.refs.now - c.loop-left.left) = c.loop-left.invariant.most in
    let least : c.loop-left.start + (length c.args.refs.now - c.loop-left.left) ≤ 192 = c.loop-left.invariant.least in
    (omega arith, omega arith)

pub prepend-start-requires : goal.prepend-start-requires
prepend-start-requires c =
    let most : 192 ≤ c.loop-left.start + 22 * (length c.args.refs.now - c.loop-left.left) = c.loop-left.invariant.most in
    let least : c.loop-left.start + (length c.args.refs.now - c.loop-left.left) ≤ 192 = c.loop-left.invariant.least in
    (omega arith, omega arith)

pub loop-left-preserved : goal.loop-left-preserved
loop-left-preserved c =
    let id = get_or c.args.refs.now (c.loop-left.left - 1) (pos 0) in
    let among : c.loop-left.left ≤ length c.args.refs.now = c.loop-left.invariant.among in
    let fits : FitsSigned w64 id = search rules in
    let digits : drop c.prepend_id-digits.result c.prepend_id-digits.new.room ≡ signed_decimal id ++ drop c.loop-left.start c.loop-left.room =
    simp to_z-of_z at c.prepend_id-digits.ensures.written in
    let put : drop c.prepend-start.result c.prepend-start.new.room
    ≡ 44 ∷ 110 ∷ (signed_decimal id ++ drop c.loop-left.start c.loop-left.room) =
    rw (c.prepend-start.ensures.written, digits) refl in
    refs_more c.loop-left.room c.prepend-start.new.room c.loop-left.start c.prepend-start.result c.loop-left.left
    c.args.refs.now id c.loop-left.invariant (omega arith) (omega arith) (omega arith)
    (get_or_default c.args.refs.now (c.loop-left.left - 1) (pos 0) id (omega arith)) put

pub returns-then-is_first-clause-written : goal.returns-then-is_first-clause-written
returns-then-is_first-clause-written c =
    let first : c.args.is_first ≡ true = search rules in
    let none : c.loop-left.left ≡ 0 = omega arith in
    rw first
    (refs_first c.loop-left.room c.loop-left.start c.args.refs.now (rw none at c.loop-left.invariant) c.requires.0)
