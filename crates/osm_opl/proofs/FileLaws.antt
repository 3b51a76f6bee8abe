-- What the lines of a file spell, and where they go wrong.
use Rattle.std.proofs.Common.{◌≡◌, ℕ, suc, ◌+◌, ◌<◌, ◌≤◌, Bool, true, false, List, [], ◌∷◌, ◌++◌, length, Option, Some}
use Rattle.std.proofs.Common.{None, refl, sym, ap, subst, ◌∙◌, append_assoc, arith, inl, inr, ◌⊎◌}
use Rattle.std.proofs.lemmas.Bool.{cases_lt}
use Rattle.std.proofs.lemmas.List.{append-nil, length-append}
use Rattle.osm_model.specs.Change.{ChangeValue}
use Rattle.osm_model.specs.ChangeForm.{ReadStops, SpellsNothing}
use Rattle.osm_model.specs.Batch.{IsBatch}
use Rattle.osm_model.specs.Limits.{max_file}
use Rattle.osm_model.specs.declared.form.FormError.{FormError}
use Rattle.osm_model.specs.declared.form.FormError.TheVariants.{WantOfMemory, TooLarge, Fault}
use Rattle.osm_model.specs.Files.{AreLimits}
use Rattle.osm_model.proofs.FileLimitLemmas.{AreSettled}
use Rattle.osm_opl.specs.Steps.Adding.{AddsLine, NextLineStops}
use Rattle.osm_opl.specs.Steps.Adding as answers
use Rattle.osm_opl.specs.File.{FaultIn, SpellsFile, SpellsLines, SpellsOpl, none, skipped, change}
use Rattle.osm_opl.specs.Line.{SpellsLine}
use Rattle.osm_reading.specs.Lines.{is_skipped, lines_of}
use Rattle.osm_opl.specs.Reading.{line_at}
use Rattle.osm_opl.proofs.LineLaws.{line_again, line_takes, one_change}

both_ways : (x : Bool) → x ≡ true → x ≡ false → ⊥
both_ways true a b = cc
both_ways false a b = cc

-- ---- one list of lines spells one list of changes

pub lines_one : (lines : List (List ℕ)) (a b : List ChangeValue) → SpellsLines lines a → SpellsLines lines b → a ≡ b
lines_one _ _ _ none none = refl
lines_one _ _ _ (skipped line lines a s p) (skipped _ _ b t q) = lines_one lines a b p q
lines_one _ _ _ (skipped line lines a s p) (change _ _ d b t h q) = absurd (both_ways (is_skipped line) s t)
lines_one _ _ _ (change line lines c a s h p) (skipped _ _ b t q) = absurd (both_ways (is_skipped line) t s)
lines_one _ _ _ (change line lines c a s h p) (change _ _ d b t g q) =
    let first : c ≡ d = one_change line c d h g in
    let rest : a ≡ b = lines_one lines a b p q in
    rw (first, rest) refl

pub one_list : (Limits : List ChangeValue → Type 0) (bytes : List ℕ) (a b : List ChangeValue)
    → SpellsFile Limits bytes a → SpellsFile Limits bytes b → a ≡ b
one_list Limits bytes a b p q = lines_one (lines_of bytes) a b p.lines q.lines

pub one_batch : (bytes : List ℕ) (a b : List ChangeValue) → SpellsOpl bytes a → SpellsOpl bytes b → a ≡ b
one_batch = one_list IsBatch

-- ---- lines after lines

pub lines_append : (xs ys : List (List ℕ)) (a b : List ChangeValue) → SpellsLines xs a → SpellsLines ys b → SpellsLines (xs ++ ys) (a ++ b)
lines_append _ ys _ b none q = q
lines_append _ ys _ b (skipped line lines a s p) q = skipped line (lines ++ ys) (a ++ b) s (lines_append lines ys a b p q)
lines_append _ ys _ b (change line lines c a s h p) q = change line (lines ++ ys) c (a ++ b) s h (lines_append lines ys a b p q)

-- lines spell what the first of them spell, and then what the others spell
pub record SplitLines (xs ys : List (List ℕ)) (changes : List ChangeValue) : Type 0 where
  pub first : List ChangeValue
  pub second : List ChangeValue
  pub whole : changes ≡ first ++ second
  pub prefix : SpellsLines xs first
  pub back : SpellsLines ys second

pub lines_split : (xs ys : List (List ℕ)) (changes : List ChangeValue) → SpellsLines (xs ++ ys) changes → SplitLines xs ys changes
lines_split [] ys changes h = record { first = []; second = changes; whole = refl; prefix = none; back = h }
lines_split (x ∷ xs) ys _ (skipped _ _ changes s p) =
    let r = lines_split xs ys changes p in
    record { first = r.first; second = r.second; whole = r.whole; prefix = skipped x xs r.first s r.prefix; back = r.back }
lines_split (x ∷ xs) ys _ (change _ _ c changes s h p) =
    let r = lines_split xs ys changes p in
    record {
      first = c ∷ r.first;
      second = r.second;
      whole = ap (λ (l : List ChangeValue). c ∷ l) r.whole;
      prefix =
          change x xs c r.first s h r.prefix;
      back = r.back;
    }

-- the first line of those that aren't skipped spells the first change
pub record FirstLine (line : List ℕ) (lines : List (List ℕ)) (changes : List ChangeValue) : Type 0 where
  pub change : ChangeValue
  pub rest : List ChangeValue
  pub whole : changes ≡ change ∷ rest
  pub spells : SpellsLine line change

pub first_line : (line : List ℕ) (lines : List (List ℕ)) (changes : List ChangeValue) → is_skipped line ≡ false
    → SpellsLines (line ∷ lines) changes → FirstLine line lines changes
first_line line lines _ n (skipped _ _ changes s p) = absurd (both_ways (is_skipped line) s n)
first_line line lines _ n (change _ _ c changes s h p) = record { change = c; rest = changes; whole = refl; spells = h }

-- ---- faults

-- the line is a fault after lines that spell these changes
abbrev pub IsStop : (List ChangeValue → Type 0) → List ℕ → List ChangeValue → Type 0
IsStop Limits line changes = (c : ChangeValue) → SpellsLine line c → Limits (changes ++ c ∷ []) → ⊥

-- among lines that spell changes within the limits there is no fault
no_fault_inside : (Limits : List ChangeValue → Type 0) → AreLimits Limits → (before after : List (List ℕ)) (line : List ℕ)
    (changes whole : List ChangeValue) → SpellsLines before changes → is_skipped line ≡ false → IsStop Limits line changes
    → SpellsLines (before ++ line ∷ after) whole → Limits whole → ⊥
no_fault_inside Limits are before after line changes whole spelled counts fault lines right =
    let split = lines_split before (line ∷ after) whole lines in
    let next = first_line line after split.second counts split.back in
    let same : split.first ≡ changes = lines_one before split.first changes split.prefix spelled in
    let parts : whole ≡ (changes ++ next.change ∷ []) ++ next.rest =
    split.whole ∙ ap (λ (l : List ChangeValue). l ++ split.second) same
    ∙ ap (λ (l : List ChangeValue). changes ++ l) next.whole ∙ sym (append_assoc changes (next.change ∷ []) next.rest) in
    fault next.change next.spells (are.first (changes ++ next.change ∷ []) next.rest (subst (λ l. Limits l) parts right))

-- bytes that spell changes within the limits have no fault
pub apart : (Limits : List ChangeValue → Type 0) → AreLimits Limits → (bytes : List ℕ) (changes : List ChangeValue) (place : ℕ)
    → SpellsFile Limits bytes changes → FaultIn Limits bytes place → ⊥
apart Limits are bytes changes place s f =
    let lines : SpellsLines (f.before ++ f.line ∷ f.after) changes = rw f.parts at s.lines in
    no_fault_inside Limits are f.before f.after f.line f.changes changes f.spelled f.counts f.fault lines s.limits

head_same : {A : Type 0} (x y : A) (xs ys : List A) → x ∷ xs ≡ y ∷ ys → (x ≡ y) × (xs ≡ ys)
head_same x y xs ys e = (cc, cc)

-- of two first parts of one list the longer goes on as the list does after the shorter
cut_inside : {A : Type 0} (xs ys us vs : List A) (x y : A) → xs ++ x ∷ us ≡ ys ++ y ∷ vs → length xs < length ys
    → (more : List A) × (ys ≡ xs ++ x ∷ more)
cut_inside [] [] us vs x y e lt = absurd (omega (arith, lt))
cut_inside [] (z ∷ ys) us vs x y e lt =
    let h = head_same x z us (ys ++ y ∷ vs) e in
    (ys, rw h.0 refl)
cut_inside (w ∷ xs) [] us vs x y e lt = absurd (omega (arith, lt))
cut_inside {A = A} (w ∷ xs) (z ∷ ys) us vs x y e lt =
    let h = head_same w z (xs ++ x ∷ us) (ys ++ y ∷ vs) e in
    let r = cut_inside xs ys us vs x y h.1 (omega (arith, lt)) in
    (r.0, ap (λ (l : List A). z ∷ l) r.1 ∙ ap (λ (v : A). v ∷ (xs ++ x ∷ r.0)) (sym h.0))

-- a line before a fault is no fault
not_before : (Limits : List ChangeValue → Type 0) → AreLimits Limits → (bytes : List ℕ) (a b : ℕ) (f : FaultIn Limits bytes a)
    (g : FaultIn Limits bytes b) → length f.before < length g.before → ⊥
not_before Limits are bytes a b f g lt =
    let cut = cut_inside f.before g.before f.after g.after f.line g.line (sym f.parts ∙ g.parts) lt in
    let lines : SpellsLines (f.before ++ f.line ∷ cut.0) g.changes = rw cut.1 at g.spelled in
    no_fault_inside Limits are f.before cut.0 f.line f.changes g.changes f.spelled f.counts f.fault lines g.right

-- a fault has one place
pub one_place : (Limits : List ChangeValue → Type 0) → AreLimits Limits → (bytes : List ℕ) (a b : ℕ) → FaultIn Limits bytes a
    → FaultIn Limits bytes b → a ≡ b
one_place Limits are bytes a b f g =
    let x : a ≡ length f.before + 1 = f.number in
    let y : b ≡ length g.before + 1 = g.number in
    elim (cases_lt (length f.before) (length g.before)) [
      | inl lt ↦ absurd (not_before Limits are bytes a b f g lt)
      | inr ge ↦
          elim (cases_lt (length g.before) (length f.before)) [
            | inl lt ↦ absurd (not_before Limits are bytes b a g f lt)
            | inr le ↦ omega (arith, x, y, ge, le)
          ]
    ]

-- ---- how far the reading of a file has come

pub record LinesRead (Limits : List ChangeValue → Type 0) (bytes : List ℕ) (left : List (List ℕ)) (changes : List ChangeValue)
    (place : ℕ) : Type 0 where
  pub before : List (List ℕ)
  pub parts : lines_of bytes ≡ before ++ left
  pub number : place ≡ length before
  pub spelled : SpellsLines before changes
  pub right : Limits changes

pub lines_begun : (Limits : List ChangeValue → Type 0) → AreLimits Limits → (bytes : List ℕ)
    → LinesRead Limits bytes (lines_of bytes) [] 0
lines_begun Limits are bytes = record { before = []; parts = refl; number = refl; spelled = none; right = are.none }

added : (before : List (List ℕ)) (line : List ℕ) (changes new : List ChangeValue) → SpellsLines before changes
    → AddsLine line changes new → SpellsLines (before ++ line ∷ []) new
added before line changes _ p (answers.skipped _ _ s) = rw (← append-nil changes) (lines_append before (line ∷ []) changes [] p (skipped line [] [] s none))
added before line changes _ p (answers.change _ _ c s h) = lines_append before (line ∷ []) changes (c ∷ []) p (change line [] c [] s h none)

pub line_added : (Limits : List ChangeValue → Type 0) (bytes : List ℕ) (left more : List (List ℕ)) (line : List ℕ)
    (changes new : List ChangeValue) (place : ℕ) → LinesRead Limits bytes left changes place → left ≡ line ∷ more
    → AddsLine line changes new → Limits new → LinesRead Limits bytes more new (place + 1)
line_added Limits bytes left more line changes new place h e add right =
    let n : place ≡ length h.before = h.number in
    let l : length (h.before ++ line ∷ []) ≡ length h.before + 1 = length-append h.before (line ∷ []) in
    record {
      before = h.before ++ line ∷ [];
      parts = h.parts ∙ ap (λ (x : List (List ℕ)). h.before ++ x) e ∙ sym (append_assoc h.before (line ∷ []) more);
      number = omega arith;
      spelled = added h.before line changes new h.spelled add;
      right = right;
    }

pub lines_done : (Limits : List ChangeValue → Type 0) (bytes : List ℕ) (left : List (List ℕ)) (changes : List ChangeValue)
    (place : ℕ) → LinesRead Limits bytes left changes place → left ≡ [] → SpellsFile Limits bytes changes
lines_done Limits bytes left changes place h e =
    let whole : lines_of bytes ≡ h.before = h.parts ∙ ap (λ (x : List (List ℕ)). h.before ++ x) e ∙ append-nil h.before in
    record { lines = rw whole h.spelled; limits = h.right }

stop_fault : (Limits : List ChangeValue → Type 0) (bytes : List ℕ) (more : List (List ℕ)) (line : List ℕ)
    (changes : List ChangeValue) (place : ℕ) → LinesRead Limits bytes (line ∷ more) changes place → is_skipped line ≡ false
    → IsStop Limits line changes → FaultIn Limits bytes (place + 1)
stop_fault Limits bytes more line changes place h counts fault = record {
  before = h.before;
  line = line;
  after = more;
  changes = changes;
  parts = h.parts;
  number = ap (λ (n : ℕ). n + 1) h.number;
  spelled = h.spelled;
  right = h.right;
  counts = counts;
  fault = fault;
}

not_empty : (Limits : List ChangeValue → Type 0) (bytes : List ℕ) (more : List (List ℕ)) (line : List ℕ)
    (changes : List ChangeValue) (place : ℕ) → LinesRead Limits bytes (line ∷ more) changes place → is_skipped line ≡ false
    → SpellsFile Limits bytes [] → ⊥
not_empty Limits bytes more line changes place h counts s =
    let g : SpellsLines (h.before ++ line ∷ more) [] = rw h.parts at s.lines in
    let split = lines_split h.before (line ∷ more) [] g in
    let first = first_line line more split.second counts split.back in
    let n : 0 ≡ length split.first + length split.second = ap length split.whole ∙ length-append split.first split.second in
    let m : length split.second ≡ suc (length first.rest) = ap length first.whole in
    omega (arith, n, m)

-- reading that stops at a line is refused as the form says
pub line_stops : (Limits : List ChangeValue → Type 0) → AreLimits Limits → (bytes : List ℕ) (left more : List (List ℕ))
    (line : List ℕ) (changes : List ChangeValue) (place : ℕ) (error : FormError) → length bytes ≤ max_file
    → LinesRead Limits bytes left changes place → left ≡ line ∷ more → NextLineStops Limits line (place + 1) changes error
    → ReadStops (SpellsFile Limits) (FaultIn Limits) bytes error
line_stops Limits are bytes left more line changes place WantOfMemory small read e stop =
    (small, not_empty Limits bytes more line changes place (rw e at read) stop)
line_stops Limits are bytes left more line changes place TooLarge small read e stop = absurd stop
line_stops Limits are bytes left more line changes place (Fault p why) small read e stop =
    let f : FaultIn Limits bytes (place + 1) = stop_fault Limits bytes more line changes place (rw e at read) stop.1 stop.2 in
    let is : p ≡ place + 1 = stop.0 in
    (small, λ batch s. apart Limits are bytes batch (place + 1) s f, rw is f)

-- ---- either changes within the limits or a fault

-- the bytes spell changes within the limits, or have a fault
abbrev pub IsJudged : (List ChangeValue → Type 0) → List ℕ → Type 0
IsJudged Limits bytes =
    ((changes : List ChangeValue) × SpellsFile Limits bytes changes) ⊎ ((place : ℕ) × FaultIn Limits bytes place)

pub found : (Limits : List ChangeValue → Type 0) → AreSettled Limits → (bytes : List ℕ) (left : List (List ℕ))
    (changes : List ChangeValue) (place : ℕ) → LinesRead Limits bytes left changes place → IsJudged Limits bytes
found Limits settled bytes [] changes place h = inl (changes, lines_done Limits bytes [] changes place h refl)
found Limits settled bytes (line ∷ more) changes place h =
    by_skip (λ new r. found Limits settled bytes more new (place + 1) r) (is_skipped line) refl
  where
    by_change : ((new : List ChangeValue) → LinesRead Limits bytes more new (place + 1) → IsJudged Limits bytes)
        → is_skipped line ≡ false → (c : ChangeValue) → line_at line ≡ Some c
        → Limits (changes ++ c ∷ []) ⊎ (Limits (changes ++ c ∷ []) → ⊥) → IsJudged Limits bytes
    by_change go s c e (inl next) =
        go (changes ++ c ∷ []) (line_added Limits bytes (line ∷ more) more line changes (changes ++ c ∷ []) place h refl
        (answers.change line changes c s (line_takes line c e)) next)
    by_change go s c e (inr other) = inr (
      place + 1,
      stop_fault Limits bytes more line changes place h s (λ d spelled next.
          other (subst (λ x. Limits (changes ++ x ∷ [])) (one_change line d c spelled (line_takes line c e)) next)),
    )

    by_line : ((new : List ChangeValue) → LinesRead Limits bytes more new (place + 1) → IsJudged Limits bytes)
        → is_skipped line ≡ false → (r : Option ChangeValue) → line_at line ≡ r → IsJudged Limits bytes
    by_line go s None e = inr (
      place + 1,
      stop_fault Limits bytes more line changes place h s (λ c spelled next.
          let f = line_again line c spelled in let z : None ≡ Some c = sym e ∙ f in absurd cc),
    )
    by_line go s (Some c) e = by_change go s c e (settled changes c h.right (line_takes line c e).limits)

    by_skip : ((new : List ChangeValue) → LinesRead Limits bytes more new (place + 1) → IsJudged Limits bytes) → (s : Bool)
        → is_skipped line ≡ s → IsJudged Limits bytes
    by_skip go true e =
        go changes (line_added Limits bytes (line ∷ more) more line changes changes place h refl
        (answers.skipped line changes e) h.right)
    by_skip go false e = by_line go e (line_at line) refl

pub has_place : (Limits : List ChangeValue → Type 0) → AreLimits Limits → AreSettled Limits → (bytes : List ℕ)
    → SpellsNothing (SpellsFile Limits) bytes → (place : ℕ) × FaultIn Limits bytes place
has_place Limits are settled bytes nothing =
    elim (found Limits settled bytes (lines_of bytes) [] 0 (lines_begun Limits are bytes)) [
      | inl b ↦ absurd (nothing b.0 b.1)
      | inr f ↦ f
    ]
