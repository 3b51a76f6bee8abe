use Rattle.std.proofs.Common.{◌≡◌, ◌∷◌, ◌+◌, ℤ, drop, rules, sym, subst, ◌∙◌, ap, w64, SFits, slice_get, Some, None}
use Rattle.std.proofs.lemmas.Int.{to_z-of_z}
use Rattle.osm_net.specs.Steps.Index.{AreRows}
use Rattle.osm_net.proofs.IndexLemmas.{Compares, after_both, drop_more, drop_none, listed_left, mapped_left, row_both, row_listed, row_mapped}
use Rattle.osm_net.proofs.IndexLemmas.{row_of_map, rows_of}
use Rattle.osm_net.proofs.index.Rows.next.Goals as goal

pub invariant_of-self : goal.invariant_of-self
invariant_of-self c =
    mapped_left c.self.inside.next c.next_mapped.result c.next_mapped.new.next c.self.inside.others c.next_mapped.new.others _ c.self.invariant
    (record { row = c.next_mapped.ensures.row; rest = c.next_mapped.ensures.rest; last = c.next_mapped.ensures.last })

pub returns-in_default : goal.returns-in_default
returns-in_default c =
    let none : slice_get c.self.inside.rising.items c.self.inside.position ≡ None =
    rw (← c.as_slice.ensures.value) (sym c.id_at.ensures ∙ c.in_default.is) in
    rw (← c.self.view_is) (row_mapped c.self.inside.next c.next_mapped.result c.next_mapped.new.next c.self.inside.others c.next_mapped.new.others
    c.self.inside.position (drop c.self.inside.position c.self.inside.rising.items) c.self.invariant
    (record { row = c.next_mapped.ensures.row; rest = c.next_mapped.ensures.rest; last = c.next_mapped.ensures.last })
    (drop_none c.self.inside.rising.items c.self.inside.position none))

pub invariant_of-self-in-Less : goal.invariant_of-self-in-Less
invariant_of-self-in-Less c =
    let found : slice_get c.self.inside.rising.items c.self.inside.position ≡ Some c.in-Some.id =
    rw (← c.as_slice.ensures.value) (sym c.id_at.ensures ∙ c.in-Some.is) in
    let cut : drop c.self.inside.position c.self.inside.rising.items ≡ c.in-Some.id ∷ drop (c.self.inside.position + 1) c.self.inside.rising.items =
    drop_more c.self.inside.rising.items c.self.inside.position c.in-Some.id found in
    listed_left c.self.inside.next c.self.inside.others c.in-Some.id (drop (c.self.inside.position + 1) c.self.inside.rising.items)
    (subst (AreRows c.self.inside.next c.self.inside.others) cut c.self.invariant)

pub returns-in-Less : goal.returns-in-Less
returns-in-Less c =
    let found : slice_get c.self.inside.rising.items c.self.inside.position ≡ Some c.in-Some.id =
    rw (← c.as_slice.ensures.value) (sym c.id_at.ensures ∙ c.in-Some.is) in
    let cut : drop c.self.inside.position c.self.inside.rising.items ≡ c.in-Some.id ∷ drop (c.self.inside.position + 1) c.self.inside.rising.items =
    drop_more c.self.inside.rising.items c.self.inside.position c.in-Some.id found in
    let fits : SFits w64 c.in-Some.id = search rules in
    let fit : _ ≡ c.in-Some.id = to_z-of_z w64 c.in-Some.id fits in
    let compares : Compares c.in-Some.id c.self.inside.next c.compare.result =
    subst (λ (id : ℤ). Compares id c.self.inside.next c.compare.result) fit c.compare.ensures in
    let rows : rows_of c.self.inside.next c.self.inside.others c.self.inside.position (drop c.self.inside.position c.self.inside.rising.items)
    ≡ (c.in-Some.id, c.self.inside.position)
    ∷ rows_of c.self.inside.next c.self.inside.others (c.self.inside.position + 1) (drop (c.self.inside.position + 1) c.self.inside.rising.items) =
    ap (rows_of c.self.inside.next c.self.inside.others c.self.inside.position) cut
    ∙ row_listed c.self.inside.next c.self.inside.others c.self.inside.position c.in-Some.id (drop (c.self.inside.position + 1) c.self.inside.rising.items)
    c.compare.result (subst (AreRows c.self.inside.next c.self.inside.others) cut c.self.invariant) compares c.in-Less.is in
    rw (fit, ← c.self.view_is) rows

pub invariant_of-self-in-Equal : goal.invariant_of-self-in-Equal
invariant_of-self-in-Equal c =
    let found : slice_get c.self.inside.rising.items c.self.inside.position ≡ Some c.in-Some.id =
    rw (← c.as_slice.ensures.value) (sym c.id_at.ensures ∙ c.in-Some.is) in
    let cut : drop c.self.inside.position c.self.inside.rising.items ≡ c.in-Some.id ∷ drop (c.self.inside.position + 1) c.self.inside.rising.items =
    drop_more c.self.inside.rising.items c.self.inside.position c.in-Some.id found in
    after_both c.self.inside.next c.next_mapped-in-Equal.result c.next_mapped-in-Equal.new.next c.self.inside.others c.next_mapped-in-Equal.new.others
    c.in-Some.id (drop (c.self.inside.position + 1) c.self.inside.rising.items)
    (subst (AreRows c.self.inside.next c.self.inside.others) cut c.self.invariant)
    (record { row = c.next_mapped-in-Equal.ensures.row; rest = c.next_mapped-in-Equal.ensures.rest; last = c.next_mapped-in-Equal.ensures.last })

pub returns-in-Equal : goal.returns-in-Equal
returns-in-Equal c =
    let found : slice_get c.self.inside.rising.items c.self.inside.position ≡ Some c.in-Some.id =
    rw (← c.as_slice.ensures.value) (sym c.id_at.ensures ∙ c.in-Some.is) in
    let cut : drop c.self.inside.position c.self.inside.rising.items ≡ c.in-Some.id ∷ drop (c.self.inside.position + 1) c.self.inside.rising.items =
    drop_more c.self.inside.rising.items c.self.inside.position c.in-Some.id found in
    let fits : SFits w64 c.in-Some.id = search rules in
    let fit : _ ≡ c.in-Some.id = to_z-of_z w64 c.in-Some.id fits in
    let compares : Compares c.in-Some.id c.self.inside.next c.compare.result =
    subst (λ (id : ℤ). Compares id c.self.inside.next c.compare.result) fit c.compare.ensures in
    rw (← c.self.view_is, cut) (row_both c.self.inside.next c.next_mapped-in-Equal.result c.next_mapped-in-Equal.new.next c.self.inside.others
    c.next_mapped-in-Equal.new.others c.self.inside.position c.in-Some.id (drop (c.self.inside.position + 1) c.self.inside.rising.items) c.compare.result
    (subst (AreRows c.self.inside.next c.self.inside.others) cut c.self.invariant)
    (record { row = c.next_mapped-in-Equal.ensures.row; rest = c.next_mapped-in-Equal.ensures.rest; last = c.next_mapped-in-Equal.ensures.last })
    compares c.in-Equal.is)

pub invariant_of-self-in-Greater : goal.invariant_of-self-in-Greater
invariant_of-self-in-Greater c =
    mapped_left c.self.inside.next c.next_mapped-in-Greater.result c.next_mapped-in-Greater.new.next c.self.inside.others
    c.next_mapped-in-Greater.new.others _ c.self.invariant
    (record { row = c.next_mapped-in-Greater.ensures.row; rest = c.next_mapped-in-Greater.ensures.rest; last = c.next_mapped-in-Greater.ensures.last })

pub returns-in-Greater : goal.returns-in-Greater
returns-in-Greater c =
    let found : slice_get c.self.inside.rising.items c.self.inside.position ≡ Some c.in-Some.id =
    rw (← c.as_slice.ensures.value) (sym c.id_at.ensures ∙ c.in-Some.is) in
    let cut : drop c.self.inside.position c.self.inside.rising.items ≡ c.in-Some.id ∷ drop (c.self.inside.position + 1) c.self.inside.rising.items =
    drop_more c.self.inside.rising.items c.self.inside.position c.in-Some.id found in
    let fits : SFits w64 c.in-Some.id = search rules in
    let fit : _ ≡ c.in-Some.id = to_z-of_z w64 c.in-Some.id fits in
    let compares : Compares c.in-Some.id c.self.inside.next c.compare.result =
    subst (λ (id : ℤ). Compares id c.self.inside.next c.compare.result) fit c.compare.ensures in
    rw (← c.self.view_is, cut) (row_of_map c.self.inside.next c.next_mapped-in-Greater.result c.next_mapped-in-Greater.new.next c.self.inside.others
    c.next_mapped-in-Greater.new.others c.self.inside.position c.in-Some.id (drop (c.self.inside.position + 1) c.self.inside.rising.items) c.compare.result
    (subst (AreRows c.self.inside.next c.self.inside.others) cut c.self.invariant)
    (record { row = c.next_mapped-in-Greater.ensures.row; rest = c.next_mapped-in-Greater.ensures.rest; last = c.next_mapped-in-Greater.ensures.last })
    compares c.in-Greater.is)
