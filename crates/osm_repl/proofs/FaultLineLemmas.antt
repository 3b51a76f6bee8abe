-- What is written of the line of a fault.
use Rattle.std.proofs.Common.{◌≡◌, ℕ, List, [], ◌∷◌, Option, ap, length, refl, subst, sym}
use Rattle.std.specs.Prelude.{Result, Ok, Err, IfErr, OnOk, take}
use Rattle.std.specs.Io.KnownBytes.{Appends}
use Rattle.osm_runs.specs.JsonLine.{json_line}
use Rattle.osm_audit.specs.Reports.{fault_data as audit_fault_data}
use Rattle.osm_runs.specs.declared.fault.RunFault.{RunFault}
use Rattle.osm_repl.specs.Auditing.{IsAuditFaultLine}
use Rattle.osm_repl.specs.Execution.{IsFaultLine, fault_line_of}
use Rattle.osm_words.specs.declared.orders.Order.{Order}
use Rattle.osm_runs.specs.Writing.{WritingFault}
use Rattle.osm_printing.proofs.CopyLemmas.{written_part}

take_all : (xs : List ℕ) → take (length xs) xs ≡ xs
take_all [] = refl
take_all (x ∷ xs) = ap (λ ys. x ∷ ys) (take_all xs)

-- a text, or a prefix of it if it wasn't taken whole
a_part : {T : Type 0} (old new : Option (List ℕ)) (text : List ℕ) (r : Result T RunFault)
    → OnOk r (Appends old new text) → IfErr r (WritingFault old new text) → (count : ℕ) × Appends old new (take count text)
a_part old new text (Ok done) all some = (length text, subst (λ t. Appends old new t) (sym (take_all text)) all)
a_part old new text (Err fault) all some = written_part old new text fault some

pub fault_line : {T : Type 0} (order : Order) (old new : Option (List ℕ)) (text said : List ℕ) (r : Result T RunFault)
    → text ≡ fault_line_of order said → OnOk r (Appends old new text) → IfErr r (WritingFault old new text) → IsFaultLine order old new
fault_line order old new text said r is all some =
    let part : (count : ℕ) × Appends old new (take count text) = a_part old new text r all some in
    record { said = said; count = part.0; line = subst (λ t. Appends old new (take part.0 t)) is part.1 }

pub audit_fault_line : {T : Type 0} (old new : Option (List ℕ)) (text said : List ℕ) (r : Result T RunFault) → text ≡ json_line (audit_fault_data said)
    → OnOk r (Appends old new text) → IfErr r (WritingFault old new text) → IsAuditFaultLine old new
audit_fault_line old new text said r is all some =
    let part : (count : ℕ) × Appends old new (take count text) = a_part old new text r all some in
    record { said = said; count = part.0; line = subst (λ t. Appends old new (take part.0 t)) is part.1 }
