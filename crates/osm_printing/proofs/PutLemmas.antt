-- Bytes that are given to a printer.
use Rattle.std.proofs.Common.{◌≡◌, ℕ, List, [], ◌++◌, take, Option, sym, ap, subst, ◌∙◌, append_assoc}
use Rattle.std.specs.Io.KnownBytes.{Appends}
use Rattle.std.proofs.KnownBytes.{Appends-nil, Appends-trans}
use Rattle.std.proofs.lemmas.List.{append-nil}
use Rattle.osm_runs.specs.Writing.{WritingFault}
use Rattle.osm_runs.specs.declared.fault.RunFault.{RunFault}
use Rattle.osm_runs.specs.declared.fault.RunFault.TheVariants.{WriteFault}
use Rattle.osm_printing.specs.Steps.Copying.{IsPart}
use Rattle.osm_printing.specs.Steps.Parts.{IsPut, IsPutInPart, PutFails, WritingStops}
use Rattle.osm_printing.proofs.CopyLemmas.{part_after, part_nil, part_take, written_part}

pub put_none : (p : Option (List ℕ)) (waited : List ℕ) → IsPut p p waited waited []
put_none p waited = record { written = []; all = Appends-nil p; parts = append-nil waited }

-- nothing was printed
pub cut_none : (p : Option (List ℕ)) (waited bytes : List ℕ) → IsPutInPart p p waited bytes
cut_none p waited bytes = record { part = []; some = Appends-nil p; first = part_nil (waited ++ bytes) }

pub flush_fails : (p q : Option (List ℕ)) (text waited : List ℕ) (fault : RunFault) → text ≡ waited → WritingFault p q text fault
    → PutFails p q waited [] fault
flush_fails p q text waited fault is h = record { stops = stops fault h; some = part }
  where
    stops : (fault : RunFault) → WritingFault p q text fault → WritingStops fault
    stops (WriteFault file) h = h.0
    stops fault h = absurd h

    part : IsPutInPart p q waited []
    part =
        let cut : (n : ℕ) × Appends p q (take n text) = written_part p q text fault h in
        record {
          part = take cut.0 text;
          some = cut.1;
          first = subst (IsPart (take cut.0 text)) (is ∙ sym (append-nil waited)) (part_take cut.0 text);
        }

-- ---- one after the other

pub put_both : (p q r : Option (List ℕ)) (w v u xs ys : List ℕ) → IsPut p q w v xs → IsPut q r v u ys → IsPut p r w u (xs ++ ys)
put_both p q r w v u xs ys h k = record {
  written = h.written ++ k.written;
  all = Appends-trans p q r h.written k.written h.all k.all;
  parts = sym (append_assoc w xs ys) ∙ (ap (λ (l : List ℕ). l ++ ys) h.parts
      ∙ (append_assoc h.written v ys ∙ (ap (λ (l : List ℕ). h.written ++ l) k.parts ∙ sym (append_assoc h.written k.written u))));
}

pub cut_after : (p q r : Option (List ℕ)) (w v xs ys : List ℕ) → IsPut p q w v xs → IsPutInPart q r v ys → IsPutInPart p r w (xs ++ ys)
cut_after p q r w v xs ys h k = record {
  part = h.written ++ k.part;
  some = Appends-trans p q r h.written k.part h.all k.some;
  first = subst (IsPart (h.written ++ k.part))
      (sym (sym (append_assoc w xs ys) ∙ (ap (λ (l : List ℕ). l ++ ys) h.parts ∙ append_assoc h.written v ys)))
      (part_after k.part h.written (v ++ ys) k.first);
}
