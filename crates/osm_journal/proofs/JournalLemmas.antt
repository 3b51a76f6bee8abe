-- Journals: what is read is spelled, and what is spelled is read.
use Rattle.std.proofs.Common.{◌≡◌, ℕ, ◌+◌, ◌-◌, ◌<◌, ◌≤◌, List, [], ◌∷◌, ◌++◌, length, refl, ap, sym, ◌∙◌}
use Rattle.std.proofs.Common.{true, Some, None, Option, subst, arith}
use Rattle.std.specs.Prelude.{◌==◌, nat_lt, if◌then◌else◌, codes, decimal, IfOk, IfErr, Result, Ok, Err}
use Rattle.std.proofs.lemmas.Bool.Decides.{nat_tests}
use Rattle.std.proofs.lemmas.List.{append_assoc}
use Rattle.std.specs.Io.{StartsWith}
use Rattle.std.proofs.Math.Seq.{take-append_seam}
use Rattle.osm_opl.specs.Written.{line_text}
use Rattle.osm_save.specs.declared.save.Saved.{Saved}
use Rattle.osm_save.specs.Head.{head_of}
use Rattle.osm_save.specs.Lines.{list_lines}
use Rattle.osm_save.specs.Save.{count_text, save_text}
use Rattle.osm_save.proofs.TextLemmas.{mirror_text, save_text_is}
use Rattle.osm_journal.specs.Journal.{save_start}
use Rattle.std.proofs.Common.{map, take}
use Rattle.std.proofs.lemmas.Option.{same_Some}
use Rattle.osm_model.specs.CivilTime.{time_text}
use Rattle.osm_model.specs.Filter.{FilterValue, IsFilter}
use Rattle.osm_model.specs.Limits.{IsPositive, max_sequence}
use Rattle.osm_opl.specs.Reading.{time_at}
use Rattle.osm_reading.specs.Answers.{and_then}
use Rattle.osm_reading.specs.Pieces.{Lacks, cut_at}
use Rattle.osm_reading.proofs.PieceLemmas.{cut_again, cut_takes, lacks_append}
use Rattle.osm_reading.proofs.StepLemmas.{guard_some, some_then}
use Rattle.osm_save.specs.Filters.{TellsFilter}
use Rattle.osm_save.specs.Head.{IsHeadIn, head_lines, maybe_time_text}
use Rattle.osm_save.specs.Lines.{ended}
use Rattle.osm_save.specs.Reading.{after_word, fixed_at, head_at, numbered_at}
use Rattle.osm_save.specs.Save.{most_objects}
use Rattle.osm_save.specs.declared.head.Head.{Head}
use Rattle.osm_save.specs.declared.version.Version.{Version}
use Rattle.osm_save.proofs.HeadLemmas.{TakesHead, head_again, head_takes}
use Rattle.osm_save.proofs.LineLemmas.{TakesNumbered, fixed_again, fixed_takes, lacks_by, numbered_again, numbered_takes, time_lacks, word_takes}
use Rattle.osm_save.proofs.TextLemmas.{before, before-append, ended_before, lines_more}
use Rattle.osm_save.proofs.SaveLemmas.{nothing_left, small_objects}
use Rattle.osm_journal.specs.Answers.{Gives}
use Rattle.osm_journal.specs.Journal.{BatchValue, IsJournal, JournalValue, SpellsJournal, batches_text, journal_of}
use Rattle.osm_journal.specs.Journal.{journal_text, last_number, last_time, opening_lines}
use Rattle.osm_journal.specs.Reading.{batches_at, end_at, journal_at, journal_with, many_at, opening_at, reach_at, rest_at, sequence_at, time_line_at}
use Rattle.osm_journal.specs.Refusal.{JournalStops}
use Rattle.osm_journal.specs.declared.journal.Journal.{Journal}
use Rattle.osm_journal.specs.declared.journal.JournalError.{JournalError}
use Rattle.osm_journal.specs.declared.journal.JournalError.TheVariants.{BadLine, WantOfMemory}
use Rattle.osm_journal.specs.declared.opening.Opening.{Opening}
use Rattle.osm_journal.proofs.BatchLemmas.{TakesBatches, TakesText, batches_again, batches_take, number_reached, text_again, text_takes}
use Rattle.osm_journal.proofs.BatchLemmas.{time_reached, within_limits}

-- ---- how far the batches reach

record TakesSequence (number : ℕ) (bytes : List ℕ) (n : ℕ) (rest : List ℕ) : Type 0 where
  line : TakesNumbered (codes "sequence ") max_sequence bytes n rest
  above : number < n

sequence_takes : (number : ℕ) (bytes : List ℕ) (r : ℕ × List ℕ) → sequence_at number bytes ≡ Some r → TakesSequence number bytes r.0 r.1
unfolding sequence_at
sequence_takes number bytes r e =
    let n = some_then (numbered_at (codes "sequence ") max_sequence bytes) (λ (n : ℕ × List ℕ). if nat_lt number n.0 then Some n else None) r e in
    let g = guard_some (nat_lt number n.0.0) (Some n.0) r n.2 in
    let test : nat_lt number n.0.0 ≡ true = g.0 in
    subst (λ (x : ℕ × List ℕ). TakesSequence number bytes x.0 x.1) (same_Some n.0 r g.1)
    (record { line = numbered_takes (codes "sequence ") max_sequence bytes n.0 n.1; above = grind (arith, nat_tests) })

sequence_again : (number n : ℕ) (rest : List ℕ) → number < n → n ≤ max_sequence
    → sequence_at number ((codes "sequence " ++ decimal n) ++ 10 ∷ rest) ≡ Some (n, rest)
unfolding sequence_at
sequence_again number n rest above few =
    let small : n ≤ max_sequence = few in
    let read : numbered_at (codes "sequence ") max_sequence ((codes "sequence " ++ decimal n) ++ 10 ∷ rest) ≡ Some (n, rest) =
    numbered_again (codes "sequence ") max_sequence n rest (lacks_by 10 (codes "sequence ") refl) few (omega (arith, small)) in
    let test : nat_lt number n ≡ true = grind (arith, nat_tests) in
    rw (read, test) refl

record TakesTime (bytes : List ℕ) (t : ℕ) (rest : List ℕ) : Type 0 where
  text : bytes ≡ (codes "time " ++ time_text t) ++ 10 ∷ rest
  limits : IsPositive t

time_joined : (bytes line after text : List ℕ) (t : ℕ) → bytes ≡ line ++ 10 ∷ after → line ≡ codes "time " ++ text → text ≡ time_text t
    → bytes ≡ (codes "time " ++ time_text t) ++ 10 ∷ after
time_joined bytes line after text t p q r = rw (p, q, r) refl

time_line_takes : (bytes : List ℕ) (r : ℕ × List ℕ) → time_line_at bytes ≡ Some r → TakesTime bytes r.0 r.1
unfolding time_line_at
time_line_takes bytes r e =
    let l = some_then (cut_at 10 bytes) (λ (l : List ℕ × List ℕ). and_then {A = List ℕ} {B = ℕ × List ℕ}
    (after_word (codes "time ") l.0) (λ (text : List ℕ). and_then {A = ℕ} {B = ℕ × List ℕ} (time_at text)
    (λ (time : ℕ). Some (time, l.1)))) r e in
    let w = some_then (after_word (codes "time ") l.0.0) (λ (text : List ℕ). and_then {A = ℕ} {B = ℕ × List ℕ} (time_at text)
    (λ (time : ℕ). Some (time, l.0.1))) r l.2 in
    let t = some_then (time_at w.0) (λ (time : ℕ). Some (time, l.0.1)) r w.2 in
    let text : TakesText w.0 t.0 = text_takes w.0 t.0 t.1 in
    subst (λ (x : ℕ × List ℕ). TakesTime bytes x.0 x.1) (same_Some (t.0, l.0.1) r t.2) (record {
      text = time_joined bytes l.0.0 l.0.1 w.0 t.0 (cut_takes 10 bytes l.0.0 l.0.1 l.1) (word_takes (codes "time ") l.0.0 w.0 w.1) text.text;
      limits = text.limits;
    })

time_line_again : (t : ℕ) (rest : List ℕ) → IsPositive t → time_line_at ((codes "time " ++ time_text t) ++ 10 ∷ rest) ≡ Some (t, rest)
unfolding time_line_at
time_line_again t rest limits =
    let lacks : Lacks 10 (codes "time " ++ time_text t) =
    lacks_append 10 (codes "time ") (time_text t) (lacks_by 10 (codes "time ") refl) (time_lacks t limits.high) in
    let cut : cut_at 10 ((codes "time " ++ time_text t) ++ 10 ∷ rest) ≡ Some (codes "time " ++ time_text t, rest) =
    cut_again 10 (codes "time " ++ time_text t) rest lacks in
    let read = text_again t limits in
    rw (cut, read) refl

many_takes : (many : ℕ) (bytes rest : List ℕ) → many_at many bytes ≡ Some rest → bytes ≡ (codes "batches " ++ decimal many) ++ 10 ∷ rest
unfolding many_at
many_takes many bytes rest e =
    let n = some_then (numbered_at (codes "batches ") max_sequence bytes) (λ (n : ℕ × List ℕ). if n.0 == many then Some n.1 else None) rest e in
    let g = guard_some (n.0.0 == many) (Some n.0.1) rest n.2 in
    let line = numbered_takes (codes "batches ") max_sequence bytes n.0 n.1 in
    let test : (n.0.0 == many) ≡ true = g.0 in
    let same : n.0.0 ≡ many = grind (arith, nat_tests) in
    line.text ∙ (ap (λ (k : ℕ). (codes "batches " ++ decimal k) ++ 10 ∷ n.0.1) same
    ∙ ap (λ (l : List ℕ). (codes "batches " ++ decimal many) ++ 10 ∷ l) (same_Some n.0.1 rest g.1))

many_again : (many : ℕ) (rest : List ℕ) → many ≤ max_sequence → many_at many ((codes "batches " ++ decimal many) ++ 10 ∷ rest) ≡ Some rest
unfolding many_at
many_again many rest few =
    let small : many ≤ max_sequence = few in
    let read : numbered_at (codes "batches ") max_sequence ((codes "batches " ++ decimal many) ++ 10 ∷ rest) ≡ Some (many, rest) =
    numbered_again (codes "batches ") max_sequence many rest (lacks_by 10 (codes "batches ") refl) few (omega (arith, small)) in
    let test : (many == many) ≡ true = grind (arith, nat_tests) in
    rw (read, test) refl

-- the lines that say how far the batches after a number reach
abbrev pub reach_lines : ℕ → ℕ → ℕ → List (List ℕ)
reach_lines number many last =
    (codes "sequence " ++ decimal (number + many)) ∷ (codes "time " ++ time_text last) ∷ (codes "batches " ++ decimal many) ∷ []

record TakesReach (number : ℕ) (bytes : List ℕ) (many last : ℕ) (rest : List ℕ) : Type 0 where
  text : bytes ≡ before (reach_lines number many last) rest
  some : 0 < many
  few : number + many ≤ max_sequence
  limits : IsPositive last

reach_joined : (bytes second third rest : List ℕ) (n number many last : ℕ) → bytes ≡ (codes "sequence " ++ decimal n) ++ 10 ∷ second
    → second ≡ (codes "time " ++ time_text last) ++ 10 ∷ third → third ≡ (codes "batches " ++ decimal many) ++ 10 ∷ rest
    → n ≡ number + many → bytes ≡ before (reach_lines number many last) rest
reach_joined bytes second third rest n number many last p q r e = rw (p, q, r, e) refl

reach_takes : (number : ℕ) (bytes : List ℕ) (r : ℕ × ℕ × List ℕ) → reach_at number bytes ≡ Some r → TakesReach number bytes r.0 r.1 r.2
unfolding reach_at
reach_takes number bytes r e =
    let n = some_then (sequence_at number bytes) (λ (n : ℕ × List ℕ). and_then {A = ℕ × List ℕ} {B = ℕ × ℕ × List ℕ} (time_line_at n.1)
    (λ (t : ℕ × List ℕ). and_then {A = List ℕ} {B = ℕ × ℕ × List ℕ} (many_at (n.0 - number) t.1)
    (λ (rest : List ℕ). Some (n.0 - number, t.0, rest)))) r e in
    let t = some_then (time_line_at n.0.1) (λ (t : ℕ × List ℕ). and_then {A = List ℕ} {B = ℕ × ℕ × List ℕ} (many_at (n.0.0 - number) t.1)
    (λ (rest : List ℕ). Some (n.0.0 - number, t.0, rest))) r n.2 in
    let m = some_then (many_at (n.0.0 - number) t.0.1) (λ (rest : List ℕ). Some (n.0.0 - number, t.0.0, rest)) r t.2 in
    let sequence : TakesSequence number bytes n.0.0 n.0.1 = sequence_takes number bytes n.0 n.1 in
    let time : TakesTime n.0.1 t.0.0 t.0.1 = time_line_takes n.0.1 t.0 t.1 in
    let above : number < n.0.0 = sequence.above in
    let few : n.0.0 ≤ max_sequence = sequence.line.few in
    subst (λ (x : ℕ × ℕ × List ℕ). TakesReach number bytes x.0 x.1 x.2) (same_Some (n.0.0 - number, t.0.0, m.0) r m.2) (record {
      text = reach_joined bytes n.0.1 t.0.1 m.0 n.0.0 number (n.0.0 - number) t.0.0 sequence.line.text time.text
          (many_takes (n.0.0 - number) t.0.1 m.0 m.1) (omega (arith, above));
      some = omega (arith, above);
      few = omega (arith, above, few);
      limits = time.limits;
    })

reach_again : (number many last : ℕ) (rest : List ℕ) → 0 < many → number + many ≤ max_sequence → IsPositive last
    → reach_at number (before (reach_lines number many last) rest) ≡ Some (many, last, rest)
unfolding reach_at
reach_again number many last rest some few limits =
    let third : List ℕ = (codes "batches " ++ decimal many) ++ 10 ∷ rest in
    let second : List ℕ = (codes "time " ++ time_text last) ++ 10 ∷ third in
    let small : number + many ≤ max_sequence = few in
    let more : 0 < many = some in
    let sequence = sequence_again number (number + many) second (omega (arith, more)) few in
    let time = time_line_again last third limits in
    let left : number + many - number ≡ many = omega arith in
    let line = many_again many rest (omega (arith, small)) in
    rw (sequence, time, left, line) refl

-- ---- what a journal says before its batches

-- the lines after the head of the save
abbrev pub last_lines : Opening → List (List ℕ)
last_lines o = (codes "objects " ++ decimal o.objects) ∷ reach_lines o.head.number o.many o.last

pub record TakesOpening (bytes : List ℕ) (o : Opening) (rest : List ℕ) : Type 0 where
  pub text : bytes ≡ codes "osmrepl-journal 1" ++ 10 ∷ before (head_lines o.version o.head o.filter) (before (last_lines o) rest)
  pub head : IsHeadIn o.version o.head
  pub is_filter : IsFilter o.filter
  pub tells : TellsFilter o.version o.filter
  pub objects : o.objects ≤ most_objects o.version o.head.number
  pub some : 0 < o.many
  pub few : o.head.number + o.many ≤ max_sequence
  pub last : IsPositive o.last

abbrev Front : Type 0
Front = Version × Head × FilterValue × List ℕ

opening_joined : (bytes start second third rest : List ℕ) (o : Opening) → bytes ≡ codes "osmrepl-journal 1" ++ 10 ∷ start
    → start ≡ before (head_lines o.version o.head o.filter) second → second ≡ (codes "objects " ++ decimal o.objects) ++ 10 ∷ third
    → third ≡ before (reach_lines o.head.number o.many o.last) rest
    → bytes ≡ codes "osmrepl-journal 1" ++ 10 ∷ before (head_lines o.version o.head o.filter) (before (last_lines o) rest)
opening_joined bytes start second third rest o p q r s = p ∙ ap (λ (l : List ℕ). codes "osmrepl-journal 1" ++ 10 ∷ l)
    (q ∙ ap (before (head_lines o.version o.head o.filter)) (r ∙ ap (λ (l : List ℕ). (codes "objects " ++ decimal o.objects) ++ 10 ∷ l) s))

pub opening_takes : (bytes : List ℕ) (r : Opening × List ℕ) → opening_at bytes ≡ Some r → TakesOpening bytes r.0 r.1
unfolding opening_at
opening_takes bytes r e =
    let s = some_then (fixed_at (codes "osmrepl-journal 1") bytes) (λ (start : List ℕ). and_then {A = Front} {B = Opening × List ℕ}
    (head_at start) (λ (h : Front). and_then {A = ℕ × List ℕ} {B = Opening × List ℕ}
    (numbered_at (codes "objects ") (most_objects h.0 h.1.number) h.3)
    (λ (o : ℕ × List ℕ). and_then {A = ℕ × ℕ × List ℕ} {B = Opening × List ℕ} (reach_at h.1.number o.1)
    (λ (m : ℕ × ℕ × List ℕ). Some (opening h o.0 m.0 m.1, m.2))))) r e in
    let h = some_then (head_at s.0) (λ (h : Front). and_then {A = ℕ × List ℕ} {B = Opening × List ℕ}
    (numbered_at (codes "objects ") (most_objects h.0 h.1.number) h.3)
    (λ (o : ℕ × List ℕ). and_then {A = ℕ × ℕ × List ℕ} {B = Opening × List ℕ} (reach_at h.1.number o.1)
    (λ (m : ℕ × ℕ × List ℕ). Some (opening h o.0 m.0 m.1, m.2)))) r s.2 in
    let o = some_then (numbered_at (codes "objects ") (most_objects h.0.0 h.0.1.number) h.0.3)
    (λ (o : ℕ × List ℕ). and_then {A = ℕ × ℕ × List ℕ} {B = Opening × List ℕ} (reach_at h.0.1.number o.1)
    (λ (m : ℕ × ℕ × List ℕ). Some (opening h.0 o.0 m.0 m.1, m.2))) r h.2 in
    let m = some_then (reach_at h.0.1.number o.0.1) (λ (m : ℕ × ℕ × List ℕ). Some (opening h.0 o.0.0 m.0 m.1, m.2)) r o.2 in
    let head : TakesHead s.0 h.0.0 h.0.1 h.0.2 h.0.3 = head_takes s.0 h.0 h.1 in
    let objects : TakesNumbered (codes "objects ") (most_objects h.0.0 h.0.1.number) h.0.3 o.0.0 o.0.1 =
    numbered_takes (codes "objects ") (most_objects h.0.0 h.0.1.number) h.0.3 o.0 o.1 in
    let reach : TakesReach h.0.1.number o.0.1 m.0.0 m.0.1 m.0.2 = reach_takes h.0.1.number o.0.1 m.0 m.1 in
    subst (λ (x : Opening × List ℕ). TakesOpening bytes x.0 x.1) (same_Some (opening h.0 o.0.0 m.0.0 m.0.1, m.0.2) r m.2) (record {
      text = opening_joined bytes s.0 h.0.3 o.0.1 m.0.2 (opening h.0 o.0.0 m.0.0 m.0.1) (fixed_takes (codes "osmrepl-journal 1") bytes s.0 s.1)
          head.text objects.text reach.text;
      head = head.limits;
      is_filter = head.is_filter;
      tells = head.tells;
      objects = objects.few;
      some = reach.some;
      few = reach.few;
      last = reach.limits;
    })
  where
    opening : Front → ℕ → ℕ → ℕ → Opening
    opening h objects many last = record {
      version = h.0;
      head = h.1;
      filter = h.2;
      objects = objects;
      many = many;
      last = last;
    }

pub opening_again : (o : Opening) (rest : List ℕ) → IsHeadIn o.version o.head → IsFilter o.filter → TellsFilter o.version o.filter
    → o.objects ≤ most_objects o.version o.head.number → 0 < o.many → o.head.number + o.many ≤ max_sequence → IsPositive o.last
    → opening_at (codes "osmrepl-journal 1" ++ 10 ∷ before (head_lines o.version o.head o.filter) (before (last_lines o) rest)) ≡ Some (o, rest)
unfolding opening_at
opening_again o rest is right tells objects some few limits =
    let third : List ℕ = before (reach_lines o.head.number o.many o.last) rest in
    let second : List ℕ = (codes "objects " ++ decimal o.objects) ++ 10 ∷ third in
    let start : List ℕ = before (head_lines o.version o.head o.filter) second in
    let first = fixed_again (codes "osmrepl-journal 1") start (lacks_by 10 (codes "osmrepl-journal 1") refl) in
    let head = head_again o.version o.head o.filter second is right tells in
    let low : o.head.number ≤ max_sequence = is.number in
    let most : o.objects ≤ most_objects o.version o.head.number = objects in
    let bound : most_objects o.version o.head.number < 1000000000000000000 = small_objects o.version o.head.number low in
    let line = numbered_again (codes "objects ") (most_objects o.version o.head.number) o.objects third (lacks_by 10 (codes "objects ") refl)
    objects (omega (arith, most, bound)) in
    let reach = reach_again o.head.number o.many o.last rest some few limits in
    rw (first, head, line, reach) refl

-- ---- the whole

-- the lines before the batches, one by one
opening_parts : (j : JournalValue) (many last : ℕ) (rest : List ℕ) → length j.batches ≡ many → last_number j.head.number j.batches ≡ j.head.number + many
    → last_time j.head.time j.batches ≡ Some last
    → codes "osmrepl-journal 1" ++ 10 ∷ before (head_lines j.version j.head j.kept_by)
    (before ((codes "objects " ++ decimal j.objects) ∷ reach_lines j.head.number many last) rest) ≡ ended (opening_lines j) ++ rest
opening_parts j many last rest count number time =
    let head : List (List ℕ) = head_lines j.version j.head j.kept_by in
    let objects : List ℕ = codes "objects " ++ decimal j.objects in
    let after : List (List ℕ) = (codes "sequence " ++ decimal (last_number j.head.number j.batches))
    ∷ (codes "time " ++ maybe_time_text (last_time j.head.time j.batches)) ∷ (codes "batches " ++ decimal (length j.batches)) ∷ [] in
    let same : reach_lines j.head.number many last ≡ after = rw (count, number, time) refl in
    let parts : before ((head ++ objects ∷ []) ++ after) rest ≡ before head (before (objects ∷ after) rest) =
    before-append (head ++ objects ∷ []) after rest ∙ before-append head (objects ∷ []) (before after rest) in
    ap (λ (l : List (List ℕ)). codes "osmrepl-journal 1" ++ 10 ∷ before head (before (objects ∷ l) rest)) same
    ∙ (ap (λ (l : List ℕ). codes "osmrepl-journal 1" ++ 10 ∷ l) (sym parts) ∙ sym (ended_before (opening_lines j) rest))

end_takes : (bytes : List ℕ) → end_at bytes ≡ Some tt → bytes ≡ codes "end\n"
unfolding end_at
end_takes bytes e =
    let r = some_then (fixed_at (codes "end") bytes) (λ (rest : List ℕ). if length rest == 0 then Some tt else None) tt e in
    let g = guard_some (length r.0 == 0) (Some tt) tt r.2 in
    fixed_takes (codes "end") bytes r.0 r.1 ∙ ap (λ (l : List ℕ). codes "end" ++ 10 ∷ l) (nothing_left r.0 g.0)

end_again : end_at (codes "end\n") ≡ Some tt
unfolding end_at
end_again =
    let read : fixed_at (codes "end") (codes "end" ++ 10 ∷ []) ≡ Some [] = fixed_again (codes "end") [] (lacks_by 10 (codes "end") refl) in
    rw read refl

pub journal_takes : (bytes : List ℕ) (j : JournalValue) → journal_at bytes ≡ Some j → SpellsJournal bytes j
unfolding journal_at rest_at
journal_takes bytes j e =
    let o = some_then (opening_at bytes) (λ (o : Opening × List ℕ). and_then {A = List BatchValue × List ℕ} {B = JournalValue}
    (batches_at o.0.many o.0.head.number o.0.last o.1) (λ (b : List BatchValue × List ℕ). and_then {A = Unit {0}} {B = JournalValue}
    (end_at b.1) (λ (done : Unit {0}). Some (journal_with o.0 b.0)))) j e in
    let b = some_then (batches_at o.0.0.many o.0.0.head.number o.0.0.last o.0.1)
    (λ (b : List BatchValue × List ℕ). and_then {A = Unit {0}} {B = JournalValue} (end_at b.1)
    (λ (done : Unit {0}). Some (journal_with o.0.0 b.0))) j o.2 in
    let d = some_then (end_at b.0.1) (λ (done : Unit {0}). Some (journal_with o.0.0 b.0.0)) j b.2 in
    let front : TakesOpening bytes o.0.0 o.0.1 = opening_takes bytes o.0 o.1 in
    let batches : TakesBatches o.0.0.many o.0.0.head.number o.0.0.last o.0.1 b.0.0 b.0.1 =
    batches_take o.0.0.many o.0.0.head.number o.0.0.last o.0.1 b.0 front.few b.1 in
    subst (λ (x : JournalValue). SpellsJournal bytes x) (same_Some (journal_with o.0.0 b.0.0) j d.2)
    (spelled bytes o.0.1 b.0.1 o.0.0 b.0.0 front batches (end_takes b.0.1 d.1))
  where
    spelled : (bytes rest last : List ℕ) (o : Opening) (bs : List BatchValue) → TakesOpening bytes o rest
        → TakesBatches o.many o.head.number o.last rest bs last → last ≡ codes "end\n" → SpellsJournal bytes (journal_with o bs)
    spelled bytes rest last o bs front batches end = record {
      journal = record {
        head = front.head;
        filter = front.is_filter;
        tells = front.tells;
        objects = front.objects;
        some = rw batches.count front.some;
        batches = batches.each;
        follow = batches.follow;
      };
      text = front.text ∙ (opening_parts (journal_with o bs) o.many o.last rest batches.count
          (number_reached bs o.head.number batches.follow ∙ ap (λ (k : ℕ). o.head.number + k) batches.count)
          (batches.reached front.some o.head.time)
          ∙ ap (λ (l : List ℕ). ended (opening_lines (journal_with o bs)) ++ l)
          (batches.text ∙ ap (λ (l : List ℕ). batches_text bs ++ l) end));
    }

pub journal_again : (j : JournalValue) → IsJournal j → journal_at (journal_text j) ≡ Some j
unfolding journal_at rest_at
journal_again j is =
    let t = time_reached j.head.time j.batches is.some is.batches in
    let o : Opening = record {
      version = j.version;
      head = j.head;
      filter = j.kept_by;
      objects = j.objects;
      many = length j.batches;
      last = t.0;
    } in
    let rest : List ℕ = batches_text j.batches ++ codes "end\n" in
    let text = opening_parts j (length j.batches) t.0 rest refl (number_reached j.batches j.head.number is.follow) t.1 in
    let front = opening_again o rest is.head is.filter is.tells is.objects is.some
    (within_limits j.batches j.head.number is.some is.batches is.follow) t.2 in
    let batches = batches_again j.batches j.head.number t.0 j.head.time (codes "end\n") is.batches is.follow t.1 in
    rw (← text, front, batches, end_again) refl

pub journal_found : (bytes : List ℕ) (j : JournalValue) → SpellsJournal bytes j → journal_at bytes ≡ Some j
journal_found bytes j s = ap journal_at s.text ∙ journal_again j s.journal

-- bytes spell at most one journal
pub one_journal : (bytes : List ℕ) (a b : JournalValue) → SpellsJournal bytes a → SpellsJournal bytes b → a ≡ b
one_journal bytes a b p q = same_Some a b (sym (journal_found bytes a p) ∙ journal_found bytes b q)

pub no_journal : (bytes : List ℕ) → journal_at bytes ≡ None → (j : JournalValue) → SpellsJournal bytes j → ⊥
no_journal bytes none j s = let bad : None ≡ Some j = sym none ∙ journal_found bytes j s in cc

-- ---- what the answers of the parts say of the whole

pub no_opening : (bytes : List ℕ) → opening_at bytes ≡ None → (j : JournalValue) → SpellsJournal bytes j → ⊥
unfolding journal_at
no_opening bytes none = no_journal bytes (rw none refl)

rest_of : (bytes : List ℕ) (o : Opening) (rest : List ℕ) → opening_at bytes ≡ Some (o, rest) → journal_at bytes ≡ rest_at o rest
unfolding journal_at
rest_of bytes o rest e = rw e refl

pub journal_spelled : (bytes : List ℕ) (o : Opening) (rest : List ℕ) (r : Result Journal JournalError) → opening_at bytes ≡ Some (o, rest)
    → Gives journal_of r (rest_at o rest) → IfOk r (λ j. SpellsJournal bytes (journal_of j))
journal_spelled bytes o rest (Ok j) e gives = journal_takes bytes (journal_of j) (rest_of bytes o rest e ∙ gives)
journal_spelled bytes o rest (Err error) e gives = tt

pub journal_stops : (bytes : List ℕ) (o : Opening) (rest : List ℕ) (r : Result Journal JournalError) → opening_at bytes ≡ Some (o, rest)
    → Gives journal_of r (rest_at o rest) → IfErr r (JournalStops bytes)
journal_stops bytes o rest (Ok j) e gives = tt
journal_stops bytes o rest (Err WantOfMemory) e gives =
    let front : TakesOpening bytes o rest = opening_takes bytes (o, rest) e in
    record { rest = before (head_lines o.version o.head o.filter) (before (last_lines o) rest); parts = front.text }
journal_stops bytes o rest (Err (BadLine line)) e gives = no_journal bytes (rest_of bytes o rest e ∙ gives)

-- ---- the save

-- what a save text begins with
pub save_starts : (version : Version) (v : Saved)
    → StartsWith (save_text version v) (ended (save_start version (head_of v) v.filter (length v.mirror.objects)))
save_starts version v =
    let head : List (List ℕ) = head_lines version (head_of v) v.filter in
    let line : List ℕ = codes "objects " ++ decimal (length v.mirror.objects) in
    let objects : List (List ℕ) = map line_text v.mirror.objects in
    let after : List ℕ = ended (list_lines (codes "users ") count_text v.mirror.users)
    ++ (ended (list_lines (codes "changesets ") count_text v.mirror.changesets) ++ (codes "end" ++ 10 ∷ [])) in
    let parts : before head (mirror_text v.mirror) ≡ ended (head ++ line ∷ []) ++ (ended objects ++ after) =
    ap (before head) (append_assoc line (10 ∷ ended objects) after)
    ∙ sym (ended_before (head ++ line ∷ []) (ended objects ++ after) ∙ before-append head (line ∷ []) (ended objects ++ after)) in
    ap (take (length (ended (head ++ line ∷ [])))) (save_text_is version v ∙ parts)
    ∙ take-append_seam (ended (head ++ line ∷ [])) (ended objects ++ after)

-- ---- what is written

same_lines : (first : List ℕ) (head : List (List ℕ)) (o s t b : List ℕ)
    → ended ((((first ∷ []) ++ head) ++ (o ∷ [])) ++ (s ∷ t ∷ []) ++ (b ∷ [])) ≡ ended (first ∷ ((head ++ o ∷ []) ++ (s ∷ t ∷ b ∷ [])))
same_lines first head o s t b =
    ap (λ (l : List (List ℕ)). ended (first ∷ l)) (append_assoc (head ++ o ∷ []) (s ∷ t ∷ []) (b ∷ []))

-- what is written, part after part, is the text
pub journal_written : (j : JournalValue) (first head objects place many batches end : List ℕ) (number count : ℕ) (time : Option ℕ)
    → number ≡ last_number j.head.number j.batches → time ≡ last_time j.head.time j.batches → count ≡ length j.batches
    → first ≡ codes "osmrepl-journal 1\n" → head ≡ first ++ ended (head_lines j.version j.head j.kept_by)
    → objects ≡ head ++ ended ((codes "objects " ++ decimal j.objects) ∷ [])
    → place ≡ objects ++ ended ((codes "sequence " ++ decimal number) ∷ (codes "time " ++ maybe_time_text time) ∷ [])
    → many ≡ place ++ ended ((codes "batches " ++ decimal count) ∷ []) → batches ≡ many ++ batches_text j.batches
    → end ≡ batches ++ codes "end\n" → end ≡ journal_text j
journal_written j first head objects place many batches end number count time is_number is_time is_count p q r s t u v =
    let lines : List (List ℕ) = head_lines j.version j.head j.kept_by in
    let o : List ℕ = codes "objects " ++ decimal j.objects in
    let n : List ℕ = codes "sequence " ++ decimal number in
    let m : List ℕ = codes "time " ++ maybe_time_text time in
    let k : List ℕ = codes "batches " ++ decimal count in
    let one : head ≡ ended ((codes "osmrepl-journal 1" ∷ []) ++ lines) = lines_more [] first head (codes "osmrepl-journal 1" ∷ []) lines p q in
    let two : objects ≡ ended ((codes "osmrepl-journal 1" ∷ []) ++ lines ++ (o ∷ [])) =
    lines_more [] head objects ((codes "osmrepl-journal 1" ∷ []) ++ lines) (o ∷ []) one r in
    let three : place ≡ ended ((codes "osmrepl-journal 1" ∷ []) ++ lines ++ (o ∷ []) ++ (n ∷ m ∷ [])) =
    lines_more [] objects place ((codes "osmrepl-journal 1" ∷ []) ++ lines ++ (o ∷ [])) (n ∷ m ∷ []) two s in
    let four : many ≡ ended ((codes "osmrepl-journal 1" ∷ []) ++ lines ++ (o ∷ []) ++ (n ∷ m ∷ []) ++ (k ∷ [])) =
    lines_more [] place many ((codes "osmrepl-journal 1" ∷ []) ++ lines ++ (o ∷ []) ++ (n ∷ m ∷ [])) (k ∷ []) three t in
    let same : ended (codes "osmrepl-journal 1" ∷ ((lines ++ o ∷ []) ++ (n ∷ m ∷ k ∷ []))) ≡ ended (opening_lines j) = rw (is_number, is_time, is_count) refl in
    let all : many ≡ ended (opening_lines j) = four ∙ (same_lines (codes "osmrepl-journal 1") lines o n m k ∙ same) in
    v ∙ (ap (λ (l : List ℕ). l ++ codes "end\n") (u ∙ ap (λ (l : List ℕ). l ++ batches_text j.batches) all)
    ∙ append_assoc (ended (opening_lines j)) (batches_text j.batches) (codes "end\n"))
