use Rattle.std.proofs.Common.{◌∙◌, length, refl, sym}
use Rattle.std.proofs.lemmas.Slice.Eq.{bytes_eq-Decides}
use Rattle.osm_beginning.proofs.KeepingLemmas as keeping
use Rattle.osm_beginning.proofs.journal.begins_with.Goals as goal

pub returns-in-Ok-Some-clause-tells : goal.returns-in-Ok-Some-clause-tells
returns-in-Ok-Some-clause-tells g c = λ known.
    let told = (g.S.Store.state c.args.store.now).files c.args.save.now in
    let lines = c.args.lines.now in
    let bytes = c.in-Ok-Some.bytes.items in
    let read = (rw c.in-Ok-Some.field-0-is at c.in-Ok-Some.ensures.read) known in
    let same = bytes_eq-Decides c.as_slice.result.now lines in (
      (λ yes. keeping.begins_with told (length lines) bytes lines refl read (sym c.as_slice.ensures.value ∙ same.0 (sym c.eq.ensures ∙ yes))),
      (λ begins. c.eq.ensures ∙ same.1 (c.as_slice.ensures.value ∙ keeping.begins_same told (length lines) bytes lines refl read begins)),
    )
