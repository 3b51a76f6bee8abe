-- Batches: what is read is written that way, and what is written that way is read.
use Rattle.std.proofs.Common.{◌≡◌, ℕ, zero, suc, ◌+◌, ◌-◌, ◌<◌, ◌≤◌, ◌/◌, ◌^◌, List, [], ◌∷◌, ◌++◌, length, take, drop, refl, ap, sym, ◌∙◌}
use Rattle.std.proofs.Common.{true, false, ◌&&◌, ◌||◌, Some, None, Option, map, subst, arith}
use Rattle.std.specs.Prelude.{◌≢◌, ◌==◌, nat_le, nat_lt, if◌then◌else◌, codes, decimal}
use Rattle.std.specs.List.{AllByRecursion, slice_get}
use Rattle.std.proofs.Math.Seq.{drop-append_seam, take-append_seam}
use Rattle.std.proofs.lemmas.Bool.Decides.{nat_tests}
use Rattle.std.proofs.lemmas.List.{append_assoc, length-append, length-take-le, take-append-drop}
use Rattle.std.proofs.lemmas.Option.{same_Some}
use Rattle.osm_model.specs.CivilTime.{time_text}
use Rattle.osm_model.specs.Limits.{IsPositive, max_file, max_sequence}
use Rattle.osm_model.specs.Time.{Moment, Shows, TimeText, last_digit, moment_text, two_digits}
use Rattle.osm_model.proofs.CivilTimeLemmas.{time_text_shows}
use Rattle.osm_model.proofs.TimeLemmas.{one_text}
use Rattle.osm_opl.specs.Reading.{time_at}
use Rattle.osm_opl.proofs.DateLemmas.{time_again, time_takes}
use Rattle.osm_reading.specs.Answers.{and_then}
use Rattle.osm_reading.specs.Pieces.{Lacks, cut_at}
use Rattle.osm_reading.proofs.PieceLemmas.{cut_again, cut_takes, lacks_append}
use Rattle.osm_reading.proofs.StepLemmas.{both_held, chosen, guard_some, some_then}
use Rattle.osm_save.specs.Answers.{StopsPlainly}
use Rattle.osm_save.specs.Reading.{after_word, number_at}
use Rattle.osm_save.specs.declared.stop.Stop.{Stop}
use Rattle.osm_save.specs.declared.stop.Stop.TheVariants.{WantOfMemory, Wrong}
use Rattle.osm_save.proofs.LineLemmas.{lacks_by, time_lacks, word_takes}
use Rattle.osm_save.proofs.NumberLemmas.{TakesNumber, decimal_lacks, number_again, number_takes}
use Rattle.osm_journal.specs.Journal.{BatchValue, Follow, IsBatch, batch_line, batch_of, batches_text, last_number, last_time}
use Rattle.osm_journal.specs.declared.batch.Batch.{Batch}
use Rattle.osm_journal.specs.Reading.{batch_at, batches_at, content_at, is_due, words_at}
use Rattle.osm_journal.specs.declared.batch.Words.{Words}

-- ---- times

pub record TakesText (bytes : List ℕ) (t : ℕ) : Type 0 where
  pub text : bytes ≡ time_text t
  pub limits : IsPositive t

pub text_takes : (bytes : List ℕ) (t : ℕ) → time_at bytes ≡ Some t → TakesText bytes t
text_takes bytes t e =
    let h : TimeText bytes t = time_takes bytes t e in
    record { text = one_text bytes (time_text t) t h.shows (time_text_shows t h.limits.high); limits = h.limits }

pub text_again : (t : ℕ) → IsPositive t → time_at (time_text t) ≡ Some t
text_again t limits = time_again (time_text t) t (record { shows = time_text_shows t limits.high; limits = limits })

digit_isnt : (n : ℕ) → last_digit n ≢ 32
digit_isnt n = λ e. omega (arith, e)

marked : (mark n : ℕ) (rest : List ℕ) → mark ≢ 32 → Lacks 32 rest → Lacks 32 (mark ∷ (two_digits n ++ rest))
marked mark n rest other lacks = (other, (digit_isnt (n / 10), (digit_isnt n, lacks)))

moment_lacks : (m : Moment) → Lacks 32 (moment_text m)
moment_lacks m =
    let end : List ℕ = 90 ∷ [] in
    let second : List ℕ = 58 ∷ (two_digits m.second ++ end) in
    let minute : List ℕ = 58 ∷ (two_digits m.minute ++ second) in
    let hour : List ℕ = 84 ∷ (two_digits m.hour ++ minute) in
    let day : List ℕ = 45 ∷ (two_digits m.day ++ hour) in
    let in_hour : Lacks 32 hour = marked 84 m.hour minute (λ e. omega (arith, e)) (marked 58 m.minute second (λ e. omega (arith, e))
    (marked 58 m.second end (λ e. omega (arith, e)) ((λ e. omega (arith, e)), tt))) in
    let in_month : Lacks 32 (45 ∷ (two_digits m.month ++ day)) = marked 45 m.month day (λ e. omega (arith, e))
    (marked 45 m.day hour (λ e. omega (arith, e)) in_hour) in
    (digit_isnt (m.year / 1000), (digit_isnt (m.year / 100), (digit_isnt (m.year / 10), (digit_isnt m.year, in_month))))

no_blank : (t : ℕ) → t < 2 ^ 32 → Lacks 32 (time_text t)
no_blank t fits =
    let shown : Shows (time_text t) t = time_text_shows t fits in
    let e = shown.text in
    rw e (moment_lacks shown.moment)

-- ---- the line of a batch

-- what the line with these words says
abbrev pub words_text : Words → List ℕ
words_text w = codes "batch " ++ (decimal w.number ++ 32 ∷ (time_text w.time ++ 32 ∷ decimal w.size))

pub record TakesWords (line : List ℕ) (w : Words) : Type 0 where
  pub text : line ≡ words_text w
  pub limits : IsPositive w.time

words_joined : (line words number after time size : List ℕ) (w : Words) → line ≡ codes "batch " ++ words → words ≡ number ++ 32 ∷ after
    → after ≡ time ++ 32 ∷ size → number ≡ decimal w.number → time ≡ time_text w.time → size ≡ decimal w.size
    → line ≡ words_text w
words_joined line words number after time size w p q r n t s = rw (p, q, r, n, t, s) refl

pub words_take : (line : List ℕ) (w : Words) → words_at line ≡ Some w → TakesWords line w
unfolding words_at
words_take line w e =
    let p = some_then (after_word (codes "batch ") line) (λ (words : List ℕ). and_then {A = List ℕ × List ℕ} {B = Words}
    (cut_at 32 words) (λ (a : List ℕ × List ℕ). and_then {A = ℕ} {B = Words} (number_at a.0) (λ (number : ℕ). and_then {A =
    List ℕ × List ℕ} {B = Words} (cut_at 32 a.1) (λ (b : List ℕ × List ℕ). and_then {A = ℕ} {B = Words} (time_at b.0)
    (λ (time : ℕ). and_then {A = ℕ} {B = Words} (number_at b.1)
    (λ (size : ℕ). Some (record { number = number; time = time; size = size }))))))) w e in
    let a = some_then (cut_at 32 p.0) (λ (a : List ℕ × List ℕ). and_then {A = ℕ} {B = Words} (number_at a.0)
    (λ (number : ℕ). and_then {A = List ℕ × List ℕ} {B = Words} (cut_at 32 a.1)
    (λ (b : List ℕ × List ℕ). and_then {A = ℕ} {B = Words} (time_at b.0)
    (λ (time : ℕ). and_then {A = ℕ} {B = Words} (number_at b.1)
    (λ (size : ℕ). Some (record { number = number; time = time; size = size })))))) w p.2 in
    let n = some_then (number_at a.0.0) (λ (number : ℕ). and_then {A = List ℕ × List ℕ} {B = Words} (cut_at 32 a.0.1)
    (λ (b : List ℕ × List ℕ). and_then {A = ℕ} {B = Words} (time_at b.0)
    (λ (time : ℕ). and_then {A = ℕ} {B = Words} (number_at b.1)
    (λ (size : ℕ). Some (record { number = number; time = time; size = size }))))) w a.2 in
    let b = some_then (cut_at 32 a.0.1) (λ (b : List ℕ × List ℕ). and_then {A = ℕ} {B = Words} (time_at b.0)
    (λ (time : ℕ). and_then {A = ℕ} {B = Words} (number_at b.1)
    (λ (size : ℕ). Some (record { number = n.0; time = time; size = size })))) w n.2 in
    let t = some_then (time_at b.0.0) (λ (time : ℕ). and_then {A = ℕ} {B = Words} (number_at b.0.1)
    (λ (size : ℕ). Some (record { number = n.0; time = time; size = size }))) w b.2 in
    let s = some_then (number_at b.0.1) (λ (size : ℕ). Some (record { number = n.0; time = t.0; size = size })) w t.2 in
    let time : TakesText b.0.0 t.0 = text_takes b.0.0 t.0 t.1 in
    let number : TakesNumber a.0.0 n.0 = number_takes a.0.0 n.0 n.1 in
    let size : TakesNumber b.0.1 s.0 = number_takes b.0.1 s.0 s.1 in
    subst (λ (x : Words). TakesWords line x) (same_Some (record { number = n.0; time = t.0; size = s.0 }) w s.2) (record {
      text = words_joined line p.0 a.0.0 a.0.1 b.0.0 b.0.1 (record { number = n.0; time = t.0; size = s.0 })
          (word_takes (codes "batch ") line p.0 p.1) (cut_takes 32 p.0 a.0.0 a.0.1 a.1) (cut_takes 32 a.0.1 b.0.0 b.0.1 b.1)
          number.text time.text size.text;
      limits = time.limits;
    })

pub words_again : (w : Words) → w.number < 1000000000000000000 → IsPositive w.time → w.size < 1000000000000000000
    → words_at (words_text w) ≡ Some w
unfolding words_at
words_again w small limits short =
    let after : List ℕ = time_text w.time ++ 32 ∷ decimal w.size in
    let first = cut_again 32 (decimal w.number) after (decimal_lacks 32 w.number (omega arith) small) in
    let number = number_again w.number small in
    let second = cut_again 32 (time_text w.time) (decimal w.size) (no_blank w.time limits.high) in
    let time = text_again w.time limits in
    let size = number_again w.size short in
    rw (first, number, second, time, size) refl

no_feed : (w : Words) → w.number < 1000000000000000000 → IsPositive w.time → w.size < 1000000000000000000
    → Lacks 10 (words_text w)
no_feed w small limits short =
    let in_time : Lacks 10 (time_text w.time ++ 32 ∷ decimal w.size) = lacks_append 10 (time_text w.time) (32 ∷ decimal w.size)
    (time_lacks w.time limits.high) ((λ e. omega (arith, e)), decimal_lacks 10 w.size (omega arith) short) in
    lacks_append 10 (codes "batch ") (decimal w.number ++ 32 ∷ (time_text w.time ++ 32 ∷ decimal w.size))
    (lacks_by 10 (codes "batch ") refl) (lacks_append 10 (decimal w.number) (32 ∷ (time_text w.time ++ 32 ∷ decimal w.size))
    (decimal_lacks 10 w.number (omega arith) small) ((λ e. omega (arith, e)), in_time))

-- ---- the bytes of a batch

pub record TakesContent (size : ℕ) (bytes content rest : List ℕ) : Type 0 where
  pub text : bytes ≡ content ++ 10 ∷ rest
  pub long : length content ≡ size

pub content_takes : (size : ℕ) (bytes : List ℕ) (r : List ℕ × List ℕ) → content_at size bytes ≡ Some r → TakesContent size bytes r.0 r.1
unfolding content_at
content_takes size bytes r e =
    chosen (nat_lt (length bytes) size) _ _ (Some r) e (TakesContent size bytes r.0 r.1) (λ test f. absurd cc) (λ test f.
    (let t : nat_lt (length bytes) size ≡ false = test in
    let enough : size ≤ length bytes = grind (arith, nat_tests) in
    let a = some_then (after_word (codes "\n") (drop size bytes)) (λ (rest : List ℕ). Some (take size bytes, rest)) r f in
    let back : drop size bytes ≡ 10 ∷ a.0 = word_takes (codes "\n") (drop size bytes) a.0 a.1 in
    subst (λ (x : List ℕ × List ℕ). TakesContent size bytes x.0 x.1) (same_Some (take size bytes, a.0) r a.2) (record {
      text = sym (take-append-drop size bytes) ∙ ap (λ (l : List ℕ). take size bytes ++ l) back;
      long = length-take-le size bytes enough;
    })))

pub content_again : (content rest : List ℕ) → content_at (length content) (content ++ 10 ∷ rest) ≡ Some (content, rest)
unfolding content_at
content_again content rest =
    let sum : length (content ++ 10 ∷ rest) ≡ length content + length (10 ∷ rest) = length-append content (10 ∷ rest) in
    let test : nat_lt (length (content ++ 10 ∷ rest)) (length content) ≡ false = grind (arith, nat_tests) in
    let start : take (length content) (content ++ 10 ∷ rest) ≡ content = take-append_seam content (10 ∷ rest) in
    let back : drop (length content) (content ++ 10 ∷ rest) ≡ 10 ∷ rest = drop-append_seam content (10 ∷ rest) in
    rw (test, start, back) refl

-- ---- a batch

pub record TakesBatch (number left last : ℕ) (bytes : List ℕ) (b : BatchValue) (rest : List ℕ) : Type 0 where
  pub text : bytes ≡ batch_line b ++ 10 ∷ (b.bytes ++ 10 ∷ rest)
  pub is_number : b.number ≡ number
  pub limits : IsPositive b.time
  pub short : length b.bytes ≤ max_file
  pub due : (nat_lt 0 left || b.time == last) ≡ true

batch_joined : (number : ℕ) (bytes line after content rest : List ℕ) (w : Words) → bytes ≡ line ++ 10 ∷ after → line ≡ words_text w
    → after ≡ content ++ 10 ∷ rest → w.number ≡ number → length content ≡ w.size
    → bytes ≡ batch_line (record { number = number; time = w.time; bytes = content }) ++ 10 ∷ (content ++ 10 ∷ rest)
batch_joined number bytes line after content rest w p l c n s = rw (p, l, c, ← n, s) refl

pub batch_takes : (number left last : ℕ) (bytes : List ℕ) (r : BatchValue × List ℕ) → batch_at number left last bytes ≡ Some r
    → TakesBatch number left last bytes r.0 r.1
unfolding batch_at
batch_takes number left last bytes r e =
    let l = some_then (cut_at 10 bytes) (λ (l : List ℕ × List ℕ). and_then {A = Words} {B = BatchValue × List ℕ} (words_at l.0)
    (λ (w : Words). if is_due number left last w
    then and_then {A = List ℕ × List ℕ} {B = BatchValue × List ℕ} (content_at w.size l.1)
    (λ (c : List ℕ × List ℕ). Some (record { number = number; time = w.time; bytes = c.0 }, c.1)) else None)) r e in
    let w = some_then (words_at l.0.0) (λ (w : Words). if is_due number left last w
    then and_then {A = List ℕ × List ℕ} {B = BatchValue × List ℕ} (content_at w.size l.0.1)
    (λ (c : List ℕ × List ℕ). Some (record { number = number; time = w.time; bytes = c.0 }, c.1)) else None) r l.2 in
    let g = guard_some (is_due number left last w.0) (and_then {A = List ℕ × List ℕ} {B = BatchValue × List ℕ}
    (content_at w.0.size l.0.1)
    (λ (c : List ℕ × List ℕ). Some (record { number = number; time = w.0.time; bytes = c.0 }, c.1))) r w.2 in
    let c = some_then (content_at w.0.size l.0.1)
    (λ (c : List ℕ × List ℕ). Some (record { number = number; time = w.0.time; bytes = c.0 }, c.1)) r g.1 in
    let words : TakesWords l.0.0 w.0 = words_take l.0.0 w.0 w.1 in
    let content : TakesContent w.0.size l.0.1 c.0.0 c.0.1 = content_takes w.0.size l.0.1 c.0 c.1 in
    let both = both_held (w.0.number == number && nat_le w.0.size max_file) (nat_lt 0 left || w.0.time == last) g.0 in
    let tests = both_held (w.0.number == number) (nat_le w.0.size max_file) both.0 in
    let test : (w.0.number == number) ≡ true = tests.0 in
    let same : w.0.number ≡ number = grind (arith, nat_tests) in
    let fits : nat_le w.0.size max_file ≡ true = tests.1 in
    let short : w.0.size ≤ max_file = grind (arith, nat_tests) in
    subst (λ (x : BatchValue × List ℕ). TakesBatch number left last bytes x.0 x.1)
    (same_Some (record { number = number; time = w.0.time; bytes = c.0.0 }, c.0.1) r c.2) (record {
      text = batch_joined number bytes l.0.0 l.0.1 c.0.0 c.0.1 w.0 (cut_takes 10 bytes l.0.0 l.0.1 l.1) words.text content.text same content.long;
      is_number = refl;
      limits = words.limits;
      short = rw content.long short;
      due = both.1;
    })

pub batch_again : (b : BatchValue) (left last : ℕ) (rest : List ℕ) → IsBatch b → (nat_lt 0 left || b.time == last) ≡ true
    → batch_at b.number left last (batch_line b ++ 10 ∷ (b.bytes ++ 10 ∷ rest)) ≡ Some (b, rest)
unfolding batch_at
batch_again b left last rest is due =
    let w : Words = record { number = b.number; time = b.time; size = length b.bytes } in
    let low : b.number ≤ max_sequence = is.number in
    let short : length b.bytes ≤ max_file = is.short in
    let small : b.number < 1000000000000000000 = omega (arith, low) in
    let few : length b.bytes < 1000000000000000000 = omega (arith, short) in
    let cut : cut_at 10 (batch_line b ++ 10 ∷ (b.bytes ++ 10 ∷ rest)) ≡ Some (batch_line b, b.bytes ++ 10 ∷ rest) =
    cut_again 10 (batch_line b) (b.bytes ++ 10 ∷ rest) (no_feed w small is.time few) in
    let words : words_at (batch_line b) ≡ Some w = words_again w small is.time few in
    let same : (b.number == b.number) ≡ true = grind (arith, nat_tests) in
    let fits : nat_le (length b.bytes) max_file ≡ true = grind (arith, nat_tests) in
    let content = content_again b.bytes rest in
    rw (cut, words, same, fits, due, content) refl

-- ---- batches

pub record TakesBatches (left number last : ℕ) (bytes : List ℕ) (bs : List BatchValue) (rest : List ℕ) : Type 0 where
  pub text : bytes ≡ batches_text bs ++ rest
  pub each : AllByRecursion IsBatch bs
  pub follow : Follow number bs
  pub count : length bs ≡ left
  pub reached : 0 < left → (t : Option ℕ) → last_time t bs ≡ Some last

parts_joined : (a b c rest : List ℕ) → (a ++ 10 ∷ (b ++ 10 ∷ c)) ++ rest ≡ a ++ 10 ∷ (b ++ 10 ∷ (c ++ rest))
parts_joined a b c rest = append_assoc a (10 ∷ (b ++ 10 ∷ c)) rest ∙ ap (λ (l : List ℕ). a ++ 10 ∷ l) (append_assoc b (10 ∷ c) rest)

-- the time that is reached is that of the last of some batches
reached_by : (k : ℕ) (b : BatchValue) (bs : List BatchValue) (last : ℕ) → length bs ≡ k → (nat_lt 0 k || b.time == last) ≡ true
    → (0 < k → (t : Option ℕ) → last_time t bs ≡ Some last) → last_time (Some b.time) bs ≡ Some last
reached_by zero b [] last e due more =
    let test : (b.time == last) ≡ true = due in
    let same : b.time ≡ last = grind (arith, nat_tests) in
    ap (λ (t : ℕ). Some t) same
reached_by zero b (c ∷ cs) last e due more = absurd (omega (arith, e))
reached_by (suc k) b bs last e due more = more (omega arith) (Some b.time)

pub batches_take : (left number last : ℕ) (bytes : List ℕ) (r : List BatchValue × List ℕ) → number + left ≤ max_sequence
    → batches_at left number last bytes ≡ Some r → TakesBatches left number last bytes r.0 r.1
batches_take zero number last bytes r few e =
    subst (λ (x : List BatchValue × List ℕ). TakesBatches zero number last bytes x.0 x.1) (same_Some ([], bytes) r e) (record {
      text = refl;
      each = tt;
      follow = tt;
      count = refl;
      reached = λ lt. absurd (omega (arith, lt));
    })
batches_take (suc k) number last bytes r few e =
    let b = some_then (batch_at (number + 1) k last bytes) (λ (b : BatchValue × List ℕ). and_then {A = List BatchValue × List ℕ} {B =
    List BatchValue × List ℕ} (batches_at k (number + 1) last b.1)
    (λ (m : List BatchValue × List ℕ). Some (b.0 ∷ m.0, m.1))) r e in
    let m = some_then (batches_at k (number + 1) last b.0.1) (λ (m : List BatchValue × List ℕ). Some (b.0.0 ∷ m.0, m.1)) r b.2 in
    let small : number + suc k ≤ max_sequence = few in
    let first : TakesBatch (number + 1) k last bytes b.0.0 b.0.1 = batch_takes (number + 1) k last bytes b.0 b.1 in
    let others : TakesBatches k (number + 1) last b.0.1 m.0.0 m.0.1 =
    batches_take k (number + 1) last b.0.1 m.0 (omega (arith, small)) m.1 in
    let is_number : b.0.0.number ≡ number + 1 = first.is_number in
    subst (λ (x : List BatchValue × List ℕ). TakesBatches (suc k) number last bytes x.0 x.1) (same_Some (b.0.0 ∷ m.0.0, m.0.1) r m.2) (record {
      text = first.text ∙ (ap (λ (l : List ℕ). batch_line b.0.0 ++ 10 ∷ (b.0.0.bytes ++ 10 ∷ l)) others.text
          ∙ sym (parts_joined (batch_line b.0.0) b.0.0.bytes (batches_text m.0.0) m.0.1));
      each = (record { number = omega (arith, is_number, small); time = first.limits; short = first.short }, others.each);
      follow = (is_number, subst (λ (n : ℕ). Follow n m.0.0) (sym is_number) others.follow);
      count = ap (λ (n : ℕ). suc n) others.count;
      reached = λ lt t. reached_by k b.0.0 m.0.0 last others.count first.due others.reached;
    })

due_of : (b : BatchValue) (bs : List BatchValue) (last : ℕ) → last_time (Some b.time) bs ≡ Some last
    → (nat_lt 0 (length bs) || b.time == last) ≡ true
due_of b [] last e = let same : b.time ≡ last = same_Some b.time last e in grind (arith, nat_tests)
due_of b (c ∷ cs) last e = let some : 0 < length (c ∷ cs) = omega arith in grind (arith, nat_tests)

pub batches_again : (bs : List BatchValue) (number last : ℕ) (t : Option ℕ) (rest : List ℕ) → AllByRecursion IsBatch bs → Follow number bs
    → last_time t bs ≡ Some last → batches_at (length bs) number last (batches_text bs ++ rest) ≡ Some (bs, rest)
batches_again [] number last t rest each follow e = refl
batches_again (b ∷ bs) number last t rest each follow e =
    let first = batch_again b (length bs) last (batches_text bs ++ rest) each.0 (due_of b bs last e) in
    let others = batches_again bs b.number last (Some b.time) rest each.1 follow.1 e in
    rw (parts_joined (batch_line b) b.bytes (batches_text bs) rest, ← follow.0, first, others) refl

-- ---- batches that are read one by one

-- earlier batches, and then those that are read
abbrev pub after_earlier : List BatchValue → Option (List BatchValue × List ℕ) → Option (List BatchValue × List ℕ)
after_earlier earlier reading = and_then reading (λ r. Some (earlier ++ r.0, r.1))

-- the batches read so far, and then those of the rest, are all
pub record Batches (many number last : ℕ) (bytes : List ℕ) (i : ℕ) (bs : List BatchValue) (rest : List ℕ) : Type 0 where
  pub same : batches_at many number last bytes ≡ after_earlier bs (batches_at (many - i) (number + i) last rest)

pub batches_more : (many number last : ℕ) (bytes : List ℕ) (i : ℕ) (bs : List BatchValue) (rest after : List ℕ) (b : BatchValue) → i < many
    → Batches many number last bytes i bs rest → batch_at (number + i + 1) (many - i - 1) last rest ≡ Some (b, after)
    → Batches many number last bytes (i + 1) (bs ++ b ∷ []) after
batches_more many number last bytes i bs rest after b lt h is =
    let left : many - i ≡ suc (many - i - 1) = omega arith in
    let fewer : many - (i + 1) ≡ many - i - 1 = omega arith in
    let place : number + (i + 1) ≡ number + i + 1 = omega arith in
    record { same = h.same ∙ rw (left, is, fewer, place) (joined (batches_at (many - i - 1) (number + i + 1) last after)) }
  where
    joined : (r : Option (List BatchValue × List ℕ)) → after_earlier bs (and_then r (λ p. Some (b ∷ p.0, p.1))) ≡ after_earlier (bs ++ b ∷ []) r
    joined None = refl
    joined (Some r) = ap (λ (l : List BatchValue). Some (l, r.1)) (sym (append_assoc bs (b ∷ []) r.0))

pub batches_wrong : (many number last : ℕ) (bytes : List ℕ) (i : ℕ) (bs : List BatchValue) (rest : List ℕ) → i < many
    → Batches many number last bytes i bs rest → batch_at (number + i + 1) (many - i - 1) last rest ≡ None
    → batches_at many number last bytes ≡ None
batches_wrong many number last bytes i bs rest lt h is =
    let left : many - i ≡ suc (many - i - 1) = omega arith in
    h.same ∙ rw (left, is) refl

-- what is refused plainly can't be read
pub plainly_none : {A : Type 0} (s : Stop) (r : Option A) → StopsPlainly s r → r ≡ None
plainly_none WantOfMemory r bad = absurd bad
plainly_none (Wrong left) r e = e

-- ---- batches that are written one by one

texts_joined : (bs cs : List BatchValue) → batches_text (bs ++ cs) ≡ batches_text bs ++ batches_text cs
texts_joined [] cs = refl
texts_joined (b ∷ bs) cs =
    ap (λ (l : List ℕ). batch_line b ++ 10 ∷ (b.bytes ++ 10 ∷ l)) (texts_joined bs cs)
    ∙ sym (parts_joined (batch_line b) b.bytes (batches_text bs) (batches_text cs))

pub text_more : (old now next : List ℕ) (bs : List BatchValue) (b : BatchValue) → now ≡ old ++ batches_text bs
    → next ≡ now ++ batches_text (b ∷ []) → next ≡ old ++ batches_text (bs ++ b ∷ [])
text_more old now next bs b p q = q ∙ (rw p (append_assoc old (batches_text bs) (batches_text (b ∷ [])))
    ∙ ap (λ (l : List ℕ). old ++ l) (sym (texts_joined bs (b ∷ []))))

-- ---- the last batch

pub number_reached : (bs : List BatchValue) (number : ℕ) → Follow number bs → last_number number bs ≡ number + length bs
number_reached [] number follow = omega arith
number_reached (b ∷ bs) number follow =
    let more : last_number b.number bs ≡ b.number + length bs = number_reached bs b.number follow.1 in
    let next : b.number ≡ number + 1 = follow.0 in
    omega (arith, more, next)

-- some batches reach the time of the last
pub time_reached : (t : Option ℕ) (bs : List BatchValue) → 0 < length bs → AllByRecursion IsBatch bs
    → (last : ℕ) × (last_time t bs ≡ Some last) × IsPositive last
time_reached t [] some each = absurd (omega (arith, some))
time_reached t (b ∷ []) some each = (b.time, refl, each.0.time)
time_reached t (b ∷ c ∷ cs) some each = time_reached (Some b.time) (c ∷ cs) (omega arith) each.1

pub within_limits : (bs : List BatchValue) (number : ℕ) → 0 < length bs → AllByRecursion IsBatch bs → Follow number bs
    → number + length bs ≤ max_sequence
within_limits [] number some each follow = absurd (omega (arith, some))
within_limits (b ∷ []) number some each follow =
    let next : b.number ≡ number + 1 = follow.0 in
    let low : b.number ≤ max_sequence = each.0.number in
    omega (arith, next, low)
within_limits (b ∷ c ∷ cs) number some each follow =
    let next : b.number ≡ number + 1 = follow.0 in
    let more : b.number + length (c ∷ cs) ≤ max_sequence = within_limits (c ∷ cs) b.number (omega arith) each.1 follow.1 in
    omega (arith, next, more)

pub last_is : (bs : List Batch) (b : Batch) (number : ℕ) (time : Option ℕ) → Some b ≡ slice_get bs (length bs - 1)
    → (b.number ≡ last_number number (map batch_of bs)) × (Some b.time ≡ last_time time (map batch_of bs))
last_is [] b number time e = absurd cc
last_is (c ∷ []) b number time e = let same : b ≡ c = same_Some b c e in (ap (λ (x : Batch). x.number) same, ap (λ (x : Batch). Some x.time) same)
last_is (c ∷ d ∷ bs) b number time e =
    let place : length (c ∷ d ∷ bs) - 1 ≡ suc (length (d ∷ bs) - 1) = omega arith in
    last_is (d ∷ bs) b c.number (Some c.time) (rw place at e)
