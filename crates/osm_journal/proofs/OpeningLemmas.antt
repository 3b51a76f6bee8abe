-- What a journal says before its batches, read alone: what is read is there, and what is there is read.
use Rattle.std.proofs.Common.{◌≡◌, ℕ, ◌+◌, ◌-◌, ◌≤◌, List, [], ◌∷◌, ◌++◌, length, take, refl, ap, sym, ◌∙◌}
use Rattle.std.proofs.Common.{Some, None, Option, subst, arith, length-append}
use Rattle.std.specs.Prelude.{codes, decimal}
use Rattle.std.proofs.lemmas.Fmt.{length-decimal-le}
use Rattle.std.proofs.lemmas.Option.{same_Some}
use Rattle.osm_model.specs.CivilTime.{time_text}
use Rattle.osm_save.specs.Head.{head_lines, max_head}
use Rattle.osm_save.specs.Lines.{ended}
use Rattle.osm_save.proofs.HeadLemmas.{head_short, take_past, line_length, time_twenty}
use Rattle.osm_save.proofs.TextLemmas.{before, before-append, ended-append, ended_before}
use Rattle.osm_save.proofs.SaveLemmas.{small_objects}
use Rattle.osm_journal.specs.Journal.{JournalValue, SpellsJournal, batches_text, last_number, opening_lines}
use Rattle.osm_journal.specs.Openings.{IsOpening, OpensJournal, SaysOf, max_opening, said_lines}
use Rattle.osm_journal.specs.Reading.{opening_at}
use Rattle.osm_journal.specs.declared.opening.Opening.{Opening}
use Rattle.osm_journal.proofs.BatchLemmas.{number_reached, time_reached, within_limits}
use Rattle.osm_journal.proofs.JournalLemmas.{TakesOpening, last_lines, opening_again, opening_takes, reach_lines}

-- the lines, one by one
said_parts : (o : Opening) (rest : List ℕ)
    → codes "osmrepl-journal 1" ++ 10 ∷ before (head_lines o.version o.head o.filter) (before (last_lines o) rest) ≡ ended (said_lines o) ++ rest
said_parts o rest =
    let head : List (List ℕ) = head_lines o.version o.head o.filter in
    let objects : List ℕ = codes "objects " ++ decimal o.objects in
    let after : List (List ℕ) = reach_lines o.head.number o.many o.last in
    let parts : before ((head ++ objects ∷ []) ++ after) rest ≡ before head (before (objects ∷ after) rest) =
    before-append (head ++ objects ∷ []) after rest ∙ before-append head (objects ∷ []) (before after rest) in
    ap (λ (l : List ℕ). codes "osmrepl-journal 1" ++ 10 ∷ l) (sym parts) ∙ sym (ended_before (said_lines o) rest)

pub opens_takes : (bytes : List ℕ) (o : Opening) (rest : List ℕ) → opening_at bytes ≡ Some (o, rest) → OpensJournal bytes o
opens_takes bytes o rest e =
    let front : TakesOpening bytes o rest = opening_takes bytes (o, rest) e in
    record {
      is = record {
        head = front.head;
        filter = front.is_filter;
        tells = front.tells;
        objects = front.objects;
        some = front.some;
        limit = front.few;
        last = front.last;
      };
      rest = rest;
      begins = front.text ∙ said_parts o rest;
    }

pub opens_found : (bytes : List ℕ) (o : Opening) → (p : OpensJournal bytes o) → opening_at bytes ≡ Some (o, p.rest)
opens_found bytes o p =
    let is = p.is in
    ap opening_at (p.begins ∙ sym (said_parts o p.rest)) ∙ opening_again o p.rest is.head is.filter is.tells is.objects is.some is.limit is.last

none_some : (r : Opening × List ℕ) → ◌≡◌ {A = Option (Opening × List ℕ)} None (Some r) → ⊥
none_some r bad = cc

pub no_opens : (bytes : List ℕ) → opening_at bytes ≡ None → (o : Opening) → OpensJournal bytes o → ⊥
no_opens bytes none o p = none_some (o, p.rest) (sym none ∙ opens_found bytes o p)

-- bytes begin with those of one journal at most
pub one_opening : (bytes : List ℕ) (a b : Opening) → OpensJournal bytes a → OpensJournal bytes b → a ≡ b
one_opening bytes a b p q =
    ap (λ (r : Opening × List ℕ). r.0) (same_Some (a, p.rest) (b, q.rest) (sym (opens_found bytes a p) ∙ opens_found bytes b q))

-- ---- how long they are

said_last : (o : Opening) → IsOpening o → length (ended (reach_lines o.head.number o.many o.last)) ≤ 63
said_last o is =
    let few = is.limit in
    let time = time_twenty o.last in
    let number = length-decimal-le 9 (o.head.number + o.many) (omega arith) (omega (arith, few)) in
    let many = length-decimal-le 9 o.many (omega arith) (omega (arith, few)) in
    let first = length-append (codes "sequence ") (decimal (o.head.number + o.many)) in
    let second = length-append (codes "time ") (time_text o.last) in
    let third = length-append (codes "batches ") (decimal o.many) in
    let a = line_length (codes "sequence " ++ decimal (o.head.number + o.many))
    ((codes "time " ++ time_text o.last) ∷ (codes "batches " ++ decimal o.many) ∷ []) in
    let b = line_length (codes "time " ++ time_text o.last) ((codes "batches " ++ decimal o.many) ∷ []) in
    let c = line_length (codes "batches " ++ decimal o.many) [] in
    omega (arith, time, number, many, first, second, third, a, b, c)

said_objects : (o : Opening) → IsOpening o → length (ended ((codes "objects " ++ decimal o.objects) ∷ [])) ≤ 27
said_objects o is =
    let few = is.objects in
    let bound = small_objects o.version o.head.number is.head.number in
    let digits = length-decimal-le 18 o.objects (omega arith) (omega (arith, few, bound)) in
    let word = length-append (codes "objects ") (decimal o.objects) in
    let line = line_length (codes "objects " ++ decimal o.objects) [] in
    omega (arith, digits, word, line)

said_short : (o : Opening) → IsOpening o → length (ended (said_lines o)) ≤ max_opening
said_short o is =
    let head : List (List ℕ) = head_lines o.version o.head o.filter in
    let objects : List ℕ = codes "objects " ++ decimal o.objects in
    let after : List (List ℕ) = reach_lines o.head.number o.many o.last in
    let short : length (ended head) ≤ max_head = head_short o.version o.head o.filter is.head is.filter in
    let line = said_objects o is in
    let last = said_last o is in
    let first = line_length (codes "osmrepl-journal 1") ((head ++ objects ∷ []) ++ after) in
    let both = ap length (ended-append (head ++ objects ∷ []) after) in
    let sum = length-append (ended (head ++ objects ∷ [])) (ended after) in
    let more = ap length (ended-append head (objects ∷ [])) in
    let parts = length-append (ended head) (ended (objects ∷ [])) in
    omega (arith, short, line, last, first, both, sum, more, parts)

-- ---- the first bytes of a journal

same_said : (j : JournalValue) (o : Opening) → SaysOf o j → last_number j.head.number j.batches ≡ j.head.number + length j.batches
    → opening_lines j ≡ said_lines o
same_said j o says number = rw (says.version, says.head, says.filter, says.objects, says.many, says.last, number) refl

said_first : (o : Opening) (rest : List ℕ) (most : ℕ) → IsOpening o → max_opening ≤ most → OpensJournal (take most (ended (said_lines o) ++ rest)) o
said_first o rest most is enough =
    let short = said_short o is in
    record {
      is = is;
      rest = take (most - length (ended (said_lines o))) rest;
      begins = take_past (ended (said_lines o)) rest most (omega (arith, short, enough));
    }

pub journal_opens : (bytes : List ℕ) (j : JournalValue) (most : ℕ) → SpellsJournal bytes j → max_opening ≤ most
    → (o : Opening) × SaysOf o j × OpensJournal (take most bytes) o
journal_opens bytes j most s enough =
    let is = s.journal in
    let t = time_reached j.head.time j.batches is.some is.batches in
    let o : Opening = record {
      version = j.version;
      head = j.head;
      filter = j.kept_by;
      objects = j.objects;
      many = length j.batches;
      last = t.0;
    } in
    let says : SaysOf o j = record { version = refl; head = refl; filter = refl; objects = refl; many = refl; last = t.1 } in
    let right : IsOpening o = record {
      head = is.head;
      filter = is.filter;
      tells = is.tells;
      objects = is.objects;
      some = is.some;
      limit = within_limits j.batches j.head.number is.some is.batches is.follow;
      last = t.2;
    } in
    let lines = same_said j o says (number_reached j.batches j.head.number is.follow) in
    let rest : List ℕ = batches_text j.batches ++ codes "end\n" in
    let text : bytes ≡ ended (said_lines o) ++ rest = s.text ∙ ap (λ (l : List (List ℕ)). ended l ++ rest) lines in
    (o, says, subst (λ (l : List ℕ). OpensJournal (take most l) o) (sym text) (said_first o rest most right enough))
