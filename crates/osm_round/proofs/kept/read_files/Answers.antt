use Rattle.std.proofs.Common.{◌≡◌, ◌∙◌, inl, inr, refl, sym, true, false}
use Rattle.osm_round.proofs.kept.read_files.Goals as goal

pub returns-in-Err-clause-stops : goal.returns-in-Err-clause-stops
returns-in-Err-clause-stops g c = inl c.in-Err.ensures.stops

pub returns-in-Err-is_large-clause-stops : goal.returns-in-Err-is_large-clause-stops
returns-in-Err-is_large-clause-stops g c = inr c.in-Err-is_large.ensures.stops

pub returns-then-large-clause-most : goal.returns-then-large-clause-most
returns-then-large-clause-most g c = λ yes.
    let large = rw (c.in-Ok.ensures.frame.makes.known, c.in-Ok.ensures.frame.files) at c.in-Ok-is_large.ensures.large in
    (refl, (large yes).0 c.if-large.true)

pub returns-else-large-clause-most : goal.returns-else-large-clause-most
returns-else-large-clause-most g c = λ yes over.
    let large = rw (c.in-Ok.ensures.frame.makes.known, c.in-Ok.ensures.frame.files) at c.in-Ok-is_large.ensures.large in
    let is : c.in-Ok-is_large.large ≡ true = (large yes).1 over in
    (let bad : true ≡ false = sym is ∙ c.if-large.false in cc)
