-- Lines of a save text: what is read is written that way, and what is written that way is read.
use Rattle.std.proofs.Common.{◌≡◌, ℕ, ◌<◌, ◌≤◌, ◌/◌, ◌^◌, List, ◌∷◌, ◌++◌, length, take, drop, refl, ap, sym, ◌∙◌, true}
use Rattle.std.proofs.Common.{Bool, [], ◌&&◌, not, false, Some, None, Option, subst, arith}
use Rattle.std.specs.Prelude.{◌≢◌, ◌==◌, nat_le, if◌then◌else◌, codes, decimal}
use Rattle.std.specs.Str.{bytes_eq}
use Rattle.std.proofs.lemmas.Bool.Decides.{nat_tests}
use Rattle.std.proofs.lemmas.List.{take-append-drop}
use Rattle.std.proofs.Math.Seq.{take-append_seam}
use Rattle.std.proofs.Math.Seq.{drop-append_seam}
use Rattle.std.proofs.lemmas.Option.{same_Some}
use Rattle.std.proofs.lemmas.Slice.Eq.{bytes_eq-Decides}
use Rattle.osm_model.specs.CivilTime.{time_text}
use Rattle.osm_model.specs.Limits.{IsPositive}
use Rattle.osm_model.specs.Time.{Moment, Shows, TimeText, last_digit, moment_text}
use Rattle.osm_model.proofs.CivilTimeLemmas.{time_text_shows}
use Rattle.osm_model.proofs.TimeLemmas.{one_text}
use Rattle.osm_opl.specs.Reading.{time_at}
use Rattle.osm_opl.proofs.DateLemmas.{time_again, time_takes}
use Rattle.osm_reading.specs.Pieces.{Lacks, cut_at}
use Rattle.osm_reading.specs.Answers.{and_then}
use Rattle.osm_reading.proofs.PieceLemmas.{cut_again, cut_takes, lacks_append}
use Rattle.osm_reading.proofs.StepLemmas.{both_held, chosen, guard_some, some_then}
use Rattle.std.proofs.lemmas.Bool.{eq-eqb}
use Rattle.osm_save.specs.Head.{IsTimeOf, maybe_time_text}
use Rattle.osm_save.specs.Reading.{after_word, fixed_at, number_at, numbered_at, time_line_at}
use Rattle.osm_save.proofs.NumberLemmas.{decimal_lacks, number_again, number_takes}

-- ---- a test for a byte that a text lacks

abbrev pub is_without : ℕ → List ℕ → Bool
is_without s [] = true
is_without s (b ∷ bs) = not (b == s) && is_without s bs

pub lacks_by : (s : ℕ) (bs : List ℕ) → is_without s bs ≡ true → Lacks s bs
lacks_by s [] e = tt
lacks_by s (b ∷ bs) e =
    let p = both_held (not (b == s)) (is_without s bs) e in (
      (λ same. (let equal : (b == s) ≡ true = eq-eqb b s same in let bad : false ≡ true = rw equal at p.0 in cc)),
      lacks_by s bs p.1,
    )

-- ---- a line that is always the same

pub fixed_takes : (text bytes rest : List ℕ) → fixed_at text bytes ≡ Some rest → bytes ≡ text ++ 10 ∷ rest
unfolding fixed_at
fixed_takes text bytes rest e =
    let l = some_then (cut_at 10 bytes) (λ (l : List ℕ × List ℕ). if bytes_eq l.0 text then Some l.1 else None) rest e in
    let g = guard_some (bytes_eq l.0.0 text) (Some l.0.1) rest l.2 in
    let same : l.0.0 ≡ text = (bytes_eq-Decides l.0.0 text).0 g.0 in
    let after : l.0.1 ≡ rest = same_Some l.0.1 rest g.1 in
    cut_takes 10 bytes l.0.0 l.0.1 l.1 ∙ (ap (λ (t : List ℕ). t ++ 10 ∷ l.0.1) same ∙ ap (λ (t : List ℕ). text ++ 10 ∷ t) after)

pub fixed_again : (text rest : List ℕ) → Lacks 10 text → fixed_at text (text ++ 10 ∷ rest) ≡ Some rest
unfolding fixed_at
fixed_again text rest lacks =
    let cut : cut_at 10 (text ++ 10 ∷ rest) ≡ Some (text, rest) = cut_again 10 text rest lacks in
    let same : bytes_eq text text ≡ true = (bytes_eq-Decides text text).1 refl in
    rw (cut, same) refl

-- ---- a word and a number

pub word_takes : (word bytes rest : List ℕ) → after_word word bytes ≡ Some rest → bytes ≡ word ++ rest
word_takes word bytes rest e =
    let g = guard_some (bytes_eq (take (length word) bytes) word) (Some (drop (length word) bytes)) rest e in
    let same : take (length word) bytes ≡ word = (bytes_eq-Decides (take (length word) bytes) word).0 g.0 in
    let after : drop (length word) bytes ≡ rest = same_Some (drop (length word) bytes) rest g.1 in
    sym (take-append-drop (length word) bytes) ∙ (ap (λ (t : List ℕ). t ++ drop (length word) bytes) same ∙ ap (λ (t : List ℕ). word ++ t) after)

word_again : (word rest : List ℕ) → after_word word (word ++ rest) ≡ Some rest
word_again word rest =
    let start : take (length word) (word ++ rest) ≡ word = take-append_seam word rest in
    let back : drop (length word) (word ++ rest) ≡ rest = drop-append_seam word rest in
    let same : bytes_eq word word ≡ true = (bytes_eq-Decides word word).1 refl in
    rw (start, back, same) refl

pub record TakesNumbered (word : List ℕ) (most : ℕ) (bytes : List ℕ) (n : ℕ) (rest : List ℕ) : Type 0 where
  pub text : bytes ≡ (word ++ decimal n) ++ 10 ∷ rest
  pub few : n ≤ most
  pub small : n < 1000000000000000000

pub same_line : (word line digits text after : List ℕ) → line ≡ word ++ digits → digits ≡ text → line ++ 10 ∷ after ≡ (word ++ text) ++ 10 ∷ after
same_line word line digits text after p q = rw (p, q) refl

pub numbered_takes : (word : List ℕ) (most : ℕ) (bytes : List ℕ) (r : ℕ × List ℕ) → numbered_at word most bytes ≡ Some r → TakesNumbered word most bytes r.0 r.1
unfolding numbered_at
numbered_takes word most bytes r e =
    let l = some_then (cut_at 10 bytes) (λ (l : List ℕ × List ℕ). and_then {A = List ℕ} {B = ℕ × List ℕ}
    (after_word word l.0) (λ (digits : List ℕ). and_then {A = ℕ} {B = ℕ × List ℕ} (number_at digits)
    (λ (n : ℕ). if nat_le n most then Some (n, l.1) else None))) r e in
    let d = some_then (after_word word l.0.0) (λ (digits : List ℕ). and_then {A = ℕ} {B = ℕ × List ℕ} (number_at digits)
    (λ (n : ℕ). if nat_le n most then Some (n, l.0.1) else None)) r l.2 in
    let n = some_then (number_at d.0) (λ (n : ℕ). if nat_le n most then Some (n, l.0.1) else None) r d.2 in
    let g = guard_some (nat_le n.0 most) (Some (n.0, l.0.1)) r n.2 in
    let taken = number_takes d.0 n.0 n.1 in
    let test : nat_le n.0 most ≡ true = g.0 in
    subst (λ (x : ℕ × List ℕ). TakesNumbered word most bytes x.0 x.1) (same_Some (n.0, l.0.1) r g.1) (record {
      text = cut_takes 10 bytes l.0.0 l.0.1 l.1 ∙ same_line word l.0.0 d.0 (decimal n.0) l.0.1 (word_takes word l.0.0 d.0 d.1) taken.text;
      few = grind (arith, nat_tests);
      small = taken.small;
    })

pub numbered_again : (word : List ℕ) (most n : ℕ) (rest : List ℕ) → Lacks 10 word → n ≤ most → n < 1000000000000000000
    → numbered_at word most ((word ++ decimal n) ++ 10 ∷ rest) ≡ Some (n, rest)
unfolding numbered_at
numbered_again word most n rest lacks few small =
    let lacks_line : Lacks 10 (word ++ decimal n) = lacks_append 10 word (decimal n) lacks (decimal_lacks 10 n (omega arith) small) in
    let cut : cut_at 10 ((word ++ decimal n) ++ 10 ∷ rest) ≡ Some (word ++ decimal n, rest) = cut_again 10 (word ++ decimal n) rest lacks_line in
    let digits : after_word word (word ++ decimal n) ≡ Some (decimal n) = word_again word (decimal n) in
    let number : number_at (decimal n) ≡ Some n = number_again n small in
    let test : nat_le n most ≡ true = grind (arith, nat_tests) in
    rw (cut, digits, number, test) refl

-- ---- the time

digit_isnt : (n : ℕ) → last_digit n ≢ 10
digit_isnt n = λ e. omega (arith, e)

moment_lacks : (m : Moment) → Lacks 10 (moment_text m)
moment_lacks m = (
  digit_isnt (m.year / 1000),
  (
    digit_isnt (m.year / 100),
    (
      digit_isnt (m.year / 10),
      (
        digit_isnt (m.year),
        (
          (λ e. omega (arith, e)),
          (
            digit_isnt (m.month / 10),
            (
              digit_isnt (m.month),
              (
                (λ e. omega (arith, e)),
                (
                  digit_isnt (m.day / 10),
                  (
                    digit_isnt (m.day),
                    (
                      (λ e. omega (arith, e)),
                      (
                        digit_isnt (m.hour / 10),
                        (
                          digit_isnt (m.hour),
                          (
                            (λ e. omega (arith, e)),
                            (
                              digit_isnt (m.minute / 10),
                              (
                                digit_isnt (m.minute),
                                (
                                  (λ e. omega (arith, e)),
                                  (digit_isnt (m.second / 10), (digit_isnt (m.second), ((λ e. omega (arith, e)), tt))),
                                ),
                              ),
                            ),
                          ),
                        ),
                      ),
                    ),
                  ),
                ),
              ),
            ),
          ),
        ),
      ),
    ),
  ),
)

pub time_lacks : (t : ℕ) → t < 2 ^ 32 → Lacks 10 (time_text t)
time_lacks t fits =
    let shown : Shows (time_text t) t = time_text_shows t fits in
    let e = shown.text in
    rw e (moment_lacks shown.moment)

pub record TakesTime (number : ℕ) (bytes : List ℕ) (time : Option ℕ) (rest : List ℕ) : Type 0 where
  pub is_text : bytes ≡ (codes "time " ++ maybe_time_text time) ++ 10 ∷ rest
  pub is_time : IsTimeOf number time

one_time_text : (bytes : List ℕ) (t : ℕ) → TimeText bytes t → bytes ≡ time_text t
one_time_text bytes t h = one_text bytes (time_text t) t h.shows (time_text_shows t h.limits.high)

no_time_takes : (number : ℕ) (bytes : List ℕ) (r : Option ℕ × List ℕ) → number ≡ 0
    → and_then {A = List ℕ} {B = Option ℕ × List ℕ} (fixed_at (codes "time none") bytes)
    (λ (rest : List ℕ). Some (None, rest)) ≡ Some r → TakesTime number bytes r.0 r.1
no_time_takes number bytes r zero e =
    let f = some_then (fixed_at (codes "time none") bytes) (λ (rest : List ℕ). Some (None, rest)) r e in
    subst (λ (x : Option ℕ × List ℕ). TakesTime number bytes x.0 x.1) (same_Some (None, f.0) r f.2) (record {
      is_text = fixed_takes (codes "time none") bytes f.0 f.1;
      is_time = zero;
    })

some_time_takes : (number : ℕ) (bytes : List ℕ) (r : Option ℕ × List ℕ) → 0 < number
    → and_then {A = List ℕ × List ℕ} {B = Option ℕ × List ℕ} (cut_at 10 bytes)
    (λ (l : List ℕ × List ℕ). and_then {A = List ℕ} {B = Option ℕ × List ℕ} (after_word (codes "time ") l.0)
    (λ (text : List ℕ). and_then {A = ℕ} {B = Option ℕ × List ℕ} (time_at text)
    (λ (time : ℕ). Some (Some time, l.1)))) ≡ Some r → TakesTime number bytes r.0 r.1
some_time_takes number bytes r above e =
    let l = some_then (cut_at 10 bytes) (λ (l : List ℕ × List ℕ). and_then {A = List ℕ} {B = Option ℕ × List ℕ}
    (after_word (codes "time ") l.0) (λ (text : List ℕ). and_then {A = ℕ} {B = Option ℕ × List ℕ} (time_at text)
    (λ (time : ℕ). Some (Some time, l.1)))) r e in
    let w = some_then (after_word (codes "time ") l.0.0) (λ (text : List ℕ). and_then {A = ℕ} {B = Option ℕ × List ℕ}
    (time_at text) (λ (time : ℕ). Some (Some time, l.0.1))) r l.2 in
    let t = some_then (time_at w.0) (λ (time : ℕ). Some (Some time, l.0.1)) r w.2 in
    let text : TimeText w.0 t.0 = time_takes w.0 t.0 t.1 in
    subst (λ (x : Option ℕ × List ℕ). TakesTime number bytes x.0 x.1) (same_Some (Some t.0, l.0.1) r t.2) (record {
      is_text = cut_takes 10 bytes l.0.0 l.0.1 l.1 ∙ same_line (codes "time ") l.0.0 w.0 (time_text t.0) l.0.1
          (word_takes (codes "time ") l.0.0 w.0 w.1) (one_time_text w.0 t.0 text);
      is_time = (above, text.limits);
    })

pub time_line_takes : (number : ℕ) (bytes : List ℕ) (r : Option ℕ × List ℕ) → time_line_at number bytes ≡ Some r → TakesTime number bytes r.0 r.1
unfolding time_line_at
time_line_takes number bytes r e =
    chosen (number == 0) _ _ (Some r) e (TakesTime number bytes r.0 r.1)
    (λ test f. no_time_takes number bytes r (let t : (number == 0) ≡ true = test in grind (arith, nat_tests)) f)
    (λ test f. some_time_takes number bytes r (let t : (number == 0) ≡ false = test in let other : number ≢ 0 = grind (arith, nat_tests) in omega arith) f)

none_lacks : Lacks 10 (codes "time none")
none_lacks = lacks_by 10 (codes "time none") refl

time_word_lacks : Lacks 10 (codes "time ")
time_word_lacks = lacks_by 10 (codes "time ") refl

pub time_line_again : (number : ℕ) (time : Option ℕ) (rest : List ℕ) → IsTimeOf number time
    → time_line_at number ((codes "time " ++ maybe_time_text time) ++ 10 ∷ rest) ≡ Some (time, rest)
unfolding time_line_at
time_line_again number None rest is =
    let test : (number == 0) ≡ true = (let zero : number ≡ 0 = is in grind (arith, nat_tests)) in
    let read : fixed_at (codes "time none") (codes "time none" ++ 10 ∷ rest) ≡ Some rest = fixed_again (codes "time none") rest none_lacks in
    rw (test, read) refl
time_line_again number (Some time) rest is =
    let above : 0 < number = is.0 in
    let limits : IsPositive time = is.1 in
    let test : (number == 0) ≡ false = (let other : number ≢ 0 = (λ e. omega (arith, e, above)) in grind (arith, nat_tests)) in
    let lacks : Lacks 10 (codes "time " ++ time_text time) = lacks_append 10 (codes "time ") (time_text time) time_word_lacks (time_lacks time limits.high) in
    let cut : cut_at 10 ((codes "time " ++ time_text time) ++ 10 ∷ rest) ≡ Some (
      codes "time " ++ time_text time,
      rest,
    ) = cut_again 10 (codes "time " ++ time_text time) rest lacks in
    let read : time_at (time_text time) ≡ Some time = time_again (time_text time) time (record { shows = time_text_shows time limits.high; limits = limits }) in
    rw (test, cut, read) refl
