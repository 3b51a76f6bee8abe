-- What the reports of followers say is applied.
use Rattle.std.proofs.Common.{◌≡◌, ℕ, zero, suc, ◌+◌, ◌-◌, ◌^◌, ◌<◌, ◌≤◌, List, [], ◌∷◌, ◌++◌, length, drop, Bool, true}
use Rattle.std.proofs.Common.{false, arith, refl, sym, ap, ◌∙◌, append_assoc, append-nil, inl, inr, Some}
use Rattle.std.specs.Prelude.{codes, decimal, map, ◌==◌}
use Rattle.std.specs.Char.{digit_value, is_ascii_digit}
use Rattle.std.specs.List.{AllByRecursion, flat_map}
use Rattle.std.specs.Str.Parse.{AllDigits, digits_value}
use Rattle.std.proofs.lemmas.Bool.Decides.{nat_tests}
use Rattle.std.proofs.lemmas.Fmt.{decimal_is_IsNumeral}
use Rattle.std.proofs.lemmas.Str.Parse.{digit_from_value}
use Rattle.std.specs.Prelude.{filter, min}
use Rattle.std.proofs.lemmas.Bool.{cases_Bool}
use Rattle.osm_model.specs.Limits.{max_sequence}
use Rattle.osm_follow.specs.Reach.{numbers}
use Rattle.osm_runs.specs.Following.{ranges}
use Rattle.osm_runs.specs.Reports.{ReportValue, follow_report_of, follow_text}
use Rattle.osm_reading.specs.NumberLines.{applied_line, numbered_line}
use Rattle.osm_operations.specs.Allowed.{following_report}
use Rattle.osm_operations.specs.History as hist
use Rattle.osm_operations.proofs.FollowLemmas.{min_below}
use Rattle.osm_operations.specs.Reported.{applied_in, from_to, front_digits, lines_after, numbers_of_range, numbers_on}

is_digit : (b : ℕ) → digit_value b < 10 → is_ascii_digit b ≡ true
is_digit b low = let r = digit_from_value b low in let h : 48 ≤ b = r.0 in let g : b ≤ 57 = r.1 in grind (arith, nat_tests)

not_end : (b : ℕ) → digit_value b < 10 → (b == 10) ≡ false
not_end b low = let r = digit_from_value b low in let h : 48 ≤ b = r.0 in grind (arith, nat_tests)

-- bytes that end no line
abbrev EndsNone : List ℕ → Type 0
EndsNone xs = AllByRecursion (λ b. (b == 10) ≡ false) xs

digits_end_none : (ds : List ℕ) → AllDigits 10 ds → EndsNone ds
digits_end_none [] all = tt
digits_end_none (b ∷ ds) all = (not_end b all.0, digits_end_none ds all.1)

join_none : (xs ys : List ℕ) → EndsNone xs → EndsNone ys → EndsNone (xs ++ ys)
join_none [] ys a b = b
join_none (x ∷ xs) ys a b = (a.0, join_none xs ys a.1 b)

past : (xs line text : List ℕ) → EndsNone xs → lines_after line (xs ++ text) ≡ lines_after (line ++ xs) text
past [] line text none = rw (append-nil line) refl
past (b ∷ xs) line text none = rw none.0 (past xs (line ++ b ∷ []) text none.1 ∙ ap (λ l. lines_after l text) (append_assoc line (b ∷ []) xs))

one_line : (xs text : List ℕ) → EndsNone xs → lines_after [] ((xs ++ 10 ∷ []) ++ text) ≡ xs ∷ lines_after [] text
one_line xs text none = ap (lines_after []) (append_assoc xs (10 ∷ []) text) ∙ past xs [] (10 ∷ text) none

-- one line of a report, and the numbers that it says
line_says : (xs text ks : List ℕ) → EndsNone xs → numbers_on xs ≡ ks → applied_in ((xs ++ 10 ∷ []) ++ text) ≡ ks ++ applied_in text
line_says xs text ks none says =
    ap (λ lines. flat_map numbers_on lines) (one_line xs text none) ∙ ap (λ js. js ++ applied_in text) says

-- the digits of a number, before two dots
front_all : (ds text : List ℕ) → AllDigits 10 ds → front_digits (ds ++ 46 ∷ text) ≡ ds
front_all [] text all = refl
front_all (b ∷ ds) text all = rw (is_digit b all.0) (ap (λ xs. b ∷ xs) (front_all ds text all.1))

drop_front : (xs ys : List ℕ) → drop (length xs) (xs ++ ys) ≡ ys
drop_front [] ys = refl
drop_front (x ∷ xs) ys = drop_front xs ys

from_self : (k : ℕ) → from_to k k ≡ k ∷ []
from_self k =
    let one : k + 1 - k ≡ 1 = omega arith in
    let at : k + 1 - 1 ≡ k = omega arith in
    rw (one, at) refl

-- a range, after its word
range_says : (k : ℕ) (digits : List ℕ) → AllDigits 10 digits → digits_value 10 digits ≡ k → numbers_of_range (Some ((digits ++ codes "..") ++ digits)) ≡ k ∷ []
range_says k digits all value =
    ap (λ xs. numbers_of_range (Some xs)) (append_assoc digits (codes "..") digits)
    ∙ rw (front_all digits (46 ∷ digits) all, drop_front digits (46 ∷ 46 ∷ digits), value) (from_self k)

on_line : (k : ℕ) (digits : List ℕ) → AllDigits 10 digits → digits_value 10 digits ≡ k
    → numbers_on (((codes "applied " ++ digits) ++ codes "..") ++ digits) ≡ k ∷ []
on_line k digits all value = range_says k digits all value

-- a line more that says a number
applied_more : (k : ℕ) (text : List ℕ) → k < 2 ^ 64 → applied_in (applied_line (k, k) ++ text) ≡ k ∷ applied_in text
applied_more k text small =
    let is = decimal_is_IsNumeral k small in
    let digits = digits_end_none (decimal k) is.0.1 in
    line_says (((codes "applied " ++ decimal k) ++ codes "..") ++ decimal k) text (k ∷ [])
    (join_none ((codes "applied " ++ decimal k) ++ codes "..") (decimal k)
    (join_none (codes "applied " ++ decimal k) (codes "..")
    (join_none (codes "applied ") (decimal k) (refl, (refl, (refl, (refl, (refl, (refl, (refl, (refl, tt)))))))) digits) (refl, (refl, tt))) digits)
    (on_line k (decimal k) is.0.1 is.1)

-- a line that begins with another word says none
other_more : (name : List ℕ) (k : ℕ) (text : List ℕ) → k < 2 ^ 64 → EndsNone name
    → ((digits : List ℕ) → numbers_on (name ++ digits) ≡ []) → applied_in (numbered_line name k ++ text) ≡
    applied_in text
other_more name k text small none says =
    let is = decimal_is_IsNumeral k small in
    line_says (name ++ decimal k) text [] (join_none name (decimal k) none (digits_end_none (decimal k) is.0.1)) (says (decimal k))

-- numbers that are below 2 ^ 64
abbrev pub AreSmall : List ℕ → Type 0
AreSmall ks = AllByRecursion (λ k. k < 2 ^ 64) ks

missing_none : (missing text : List ℕ) → AreSmall missing → applied_in (flat_map (numbered_line (codes "missing ")) missing ++ text) ≡ applied_in text
missing_none [] text small = refl
missing_none (k ∷ ks) text small =
    ap applied_in (append_assoc (numbered_line (codes "missing ") k) (flat_map (numbered_line (codes "missing ")) ks) text)
    ∙ (other_more (codes "missing ") k (flat_map (numbered_line (codes "missing ")) ks ++ text) small.0
    (refl, (refl, (refl, (refl, (refl, (refl, (refl, (refl, tt)))))))) (λ digits. refl)
    ∙ missing_none ks text small.1)

applied_all : (ks text : List ℕ) → AreSmall ks → applied_in (flat_map applied_line (map (λ k. (k, k)) ks) ++ text) ≡ ks ++ applied_in text
applied_all [] text small = refl
applied_all (k ∷ ks) text small =
    ap applied_in (append_assoc (applied_line (k, k)) (flat_map applied_line (map (λ j. (j, j)) ks)) text)
    ∙ (applied_more k (flat_map applied_line (map (λ j. (j, j)) ks) ++ text) small.0
    ∙ ap (λ xs. k ∷ xs) (applied_all ks text small.1))

-- a follower's report says the numbers that it applied
report_says : (ks missing : List ℕ) (number : ℕ) → AreSmall ks → AreSmall missing → number < 2 ^ 64
    → applied_in (follow_text (map (λ k. (k, k)) ks) missing number) ≡ ks
unfolding follow_text
report_says ks missing number small gone most =
    ap applied_in (append_assoc (flat_map applied_line (map (λ k. (k, k)) ks))
    (flat_map (numbered_line (codes "missing ")) missing) (numbered_line (codes "number ") number))
    ∙ (applied_all ks (flat_map (numbered_line (codes "missing ")) missing ++ numbered_line (codes "number ") number) small
    ∙ (ap (λ xs. ks ++ xs) (missing_none missing (numbered_line (codes "number ") number) gone
    ∙ (sym (ap applied_in (append-nil (numbered_line (codes "number ") number)))
    ∙ other_more (codes "number ") number [] most (refl, (refl, (refl, (refl, (refl, (refl, (refl, tt))))))) (λ digits. refl)))
    ∙ append-nil ks))

small_more : (xs : List ℕ) (k : ℕ) → AreSmall xs → k < 2 ^ 64 → AreSmall (xs ++ k ∷ [])
small_more [] k small last = (last, tt)
small_more (x ∷ xs) k small last = (small.0, small_more xs k small.1 last)

numbers_small : (n count : ℕ) → n + count < 2 ^ 64 → AreSmall (numbers n count)
numbers_small n zero most = tt
numbers_small n (suc count) most = small_more (numbers n count) (n + suc count) (numbers_small n count (omega (arith, most))) most

small_filter : (keeps : ℕ → Bool) (ks : List ℕ) → AreSmall ks → AreSmall (filter keeps ks)
small_filter keeps [] small = tt
small_filter keeps (k ∷ ks) small = elim (cases_Bool (keeps k)) [
  | inl kept ↦ rw kept (small.0, small_filter keeps ks small.1)
  | inr out ↦ rw out (small_filter keeps ks small.1)
]

-- numbers, and those after them
numbers_join : (b d c : ℕ) → numbers b d ++ numbers (b + d) c ≡ numbers b (d + c)
numbers_join b d zero = let e : d + 0 ≡ d = omega arith in rw (e, append-nil) refl
numbers_join b d (suc c) =
    let e : d + suc c ≡ suc (d + c) = omega arith in
    let z : b + suc (d + c) ≡ b + d + suc c = omega arith in
    sym (append_assoc (numbers b d) (numbers (b + d) c) ((b + d + suc c) ∷ []))
    ∙ (ap (λ (xs : List ℕ). xs ++ (b + d + suc c) ∷ []) (numbers_join b d c)
    ∙ (ap (λ k. numbers b (d + c) ++ k ∷ []) (sym z) ∙ ap (numbers b) (sym e)))

numbers_after : (b n c : ℕ) → b ≤ n → numbers b (n - b) ++ numbers n c ≡ numbers b (n + c - b)
numbers_after b n c below =
    let at : n ≡ b + (n - b) = omega (arith, below) in
    let sum : n - b + c ≡ n + c - b = omega (arith, below) in
    ap (λ k. numbers b (n - b) ++ numbers k c) at ∙ (numbers_join b (n - b) c ∙ ap (numbers b) sum)

-- one more run of the follower
pub reports_more : (h : hist.History) (report : ReportValue) → hist.number_of h
    + hist.count_after h (hist.number_of h) ≤ length (hist.published_of h) → length (hist.published_of h) ≤ max_sequence
    → hist.base_of h ≤ hist.number_of h → report ≡ following_report h
    → hist.reported_of h ≡ numbers (hist.base_of h) (hist.number_of h - hist.base_of h) → hist.reported_of h
    ++ applied_in report.text ≡ numbers (hist.base_of h) (hist.number_of h + hist.count_after h (hist.number_of h) - hist.base_of h)
reports_more h report within most below is so_far =
    rw (
      is,
      so_far,
      report_says (numbers n count) (hist.lost_after h (n + count)) (n + count) (numbers_small n count (omega (arith, within, most)))
          (small_filter (hist.is_number_lost h) (numbers (n + count) (min 64 (total - (n + count))))
          (numbers_small (n + count) (min 64 (total - (n + count))) (let low = min_below 64 (total - (n + count)) in omega (arith, within, most, low))))
          (omega (arith, within, most)),
    ) (numbers_after (hist.base_of h) n count below)
  where
    n : ℕ
    n = hist.number_of h

    count : ℕ
    count = hist.count_after h n

    total : ℕ
    total = length (hist.published_of h)

-- one that comes to the number before a spoiled file
pub reports_before : (h : hist.History) (report : ReportValue) (count last : ℕ) → last ≡ hist.number_of h + count → last ≤ max_sequence
    → hist.base_of h ≤ hist.number_of h → report ≡ follow_report_of (ranges (hist.number_of h) count) [] last
    → hist.reported_of h ≡ numbers (hist.base_of h) (hist.number_of h - hist.base_of h)
    → hist.reported_of h ++ applied_in report.text ≡ numbers (hist.base_of h) (last - hist.base_of h)
reports_before h report count last last_is most below is so_far =
    rw (
      is,
      so_far,
      report_says (numbers (hist.number_of h) count) [] last (numbers_small (hist.number_of h) count (omega (arith, last_is, most))) tt
          (omega (arith, most)),
    )
    (numbers_after (hist.base_of h) (hist.number_of h) count below ∙ ap (λ j. numbers (hist.base_of h) (j - hist.base_of h)) (sym last_is))
