-- How many calls of a store a search makes.
use Rattle.std.proofs.Common.{◌≡◌, ◌≢◌, ◌⊎◌, inl, inr, ℕ, zero, suc, ◌+◌, ◌-◌, ◌*◌, ◌/◌, ◌<◌, ◌≤◌, List, [], ◌∷◌, ◌++◌, length, take, drop, refl, sym, ap}
use Rattle.std.proofs.Common.{◌∙◌, subst, Option, Some, None, arith}
use Rattle.std.specs.Prelude.{Bool, true, false, Err, IfErr, IfOk, IsTrue, Ok, Result}
use Rattle.std.proofs.lemmas.Bool.{cases_lt}
use Rattle.std.proofs.lemmas.List.{append-nil, drop-append-le, length-append, length-drop, take-append-drop}
use Rattle.std.proofs.lemmas.Option.{same_Some}
use Rattle.std.specs.declared.cmp.Ordering.{Ordering}
use Rattle.std.specs.declared.cmp.Ordering.TheVariants.{Equal, Greater, Less}
use Rattle.osm_blocks.specs.Frames.{ReadsOften}
use Rattle.osm_blocks.specs.Places.{HasFile}
use Rattle.osm_blocks.proofs.OftenLemmas.{often_none, often_then}
use Rattle.osm_reading.specs.Pieces.{Lacks, cut_at}
use Rattle.osm_reading.proofs.PieceLemmas.{cut_again, cut_lacks, cut_takes}
use Rattle.osm_save.specs.declared.save.Saved.{Saved}
use Rattle.osm_store.specs.Frames.{MakesAtMost, StoreState}
use Rattle.osm_store.proofs.FrameLemmas.{at_most_both, at_most_more, most_none}
use Rattle.osm_asking.specs.Finding.{StandsAt}
use Rattle.osm_asking.specs.Reads.{HasShortLines, IsPlainText, NoneBegins}
use Rattle.osm_asking.specs.Refusal.{IsFailed}
use Rattle.osm_asking.specs.Steps.Reading.{IsBlockAt, IsBlockIn, ReadsFew}
use Rattle.osm_asking.specs.Steps.Scanning.{GoesFar, IsFurther, Reaches}
use Rattle.osm_asking.specs.Steps.Searching.{Goes, IsHigh, IsLow, IsMoved, IsNear, IsProbe, IsStep}
use Rattle.osm_asking.specs.declared.fault.SearchFault.{SearchFault}
use Rattle.osm_asking.specs.declared.find.Ends.{Ends}
use Rattle.osm_asking.specs.declared.find.Scanned.{Scanned}
use Rattle.osm_asking.specs.declared.find.Scanned.TheVariants.{Found, Further}
use Rattle.osm_asking.specs.declared.side.Wanted.{Wanted}
use Rattle.osm_asking.proofs.HighLemmas.{end_next, high_next, high_none}
use Rattle.osm_asking.proofs.ScanLemmas.{Scans, past, scans_further}
use Rattle.osm_asking.proofs.SearchLemmas.{Narrows, has_after, line_goes_on, low_begun, low_next}
use Rattle.osm_asking.proofs.LineLemmas.{all_right, cut_more}
use Rattle.osm_asking.proofs.ShortLemmas.{cut_size, short_first, short_part}
use Rattle.osm_asking.proofs.StandLemmas.{no_uncut}

-- ---- the same calls, with another answer

pub calls_ok : {T U : Type 0} (k : ℕ) (a b : StoreState) (x : T) (y : U) → MakesAtMost {E = SearchFault} IsFailed k a b (Ok x)
    → MakesAtMost {E = SearchFault} IsFailed k a b (Ok y)
calls_ok k a b x y m = record { spent = m.spent; lacks = tt }

pub calls_err : {T U : Type 0} (k : ℕ) (a b : StoreState) (fault : SearchFault) → MakesAtMost {T = T} IsFailed k a b (Err fault)
    → MakesAtMost {T = U} IsFailed k a b (Err fault)
calls_err k a b fault m = record { spent = tt; lacks = m.lacks }

pub calls_none : {T : Type 0} (k : ℕ) (a : StoreState) (x : T) → MakesAtMost {E = SearchFault} IsFailed k a a (Ok x)
calls_none k a x = record { spent = most_none k a.left; lacks = tt }

-- ---- one block

-- the first block of a file with short lines is enough
pub short_enough : (file : List ℕ) (from : ℕ) (block : List ℕ) → HasShortLines 16352 file → block ≡ take 16384 (drop from file) → cut_at 10 block ≡ None
    → 16384 ≤ length block → ⊥
short_enough file from block short is none full =
    let left : List ℕ = drop from file in
    short_part 16352 file from block (drop 16384 left) short (omega arith)
    (sym (take-append-drop 16384 left) ∙ ap (λ (l : List ℕ). l ++ drop 16384 left) (sym is)) (omega (arith, full)) none

-- what is said of an answer that isn't given of a file with short lines
pub unread_short : {T : Type 0} (P : T → List ℕ → Type 0) (a : StoreState) (name : List ℕ) (r : Result T SearchFault)
    → ((file : List ℕ) → HasFile a name file → HasShortLines 16352 file → ⊥)
    → IfOk r (λ x. (file : List ℕ) → HasFile a name file → HasShortLines 16352 file → P x file)
unread_short P a name (Ok x) never = λ file has short. absurd (never file has short)
unread_short P a name (Err fault) never = tt

-- after its first line there are so many bytes, unless it is the last one
pub more_left : (file : List ℕ) (from : ℕ) (block skipped after : List ℕ) → HasShortLines 16352 file → (b : IsBlockAt file from block)
    → cut_at 10 block ≡ Some (skipped, after) → 16384 ≤ length block → 32 ≤ length after
more_left file from block skipped after short b cut full =
    let less = short_first 16352 file from skipped (after ++ b.rest) short (omega arith)
    (ap (cut_at 10) b.parts ∙ cut_more block b.rest skipped after cut) in
    let size = cut_size block skipped after cut in
    omega (arith, size, less, full)

-- a line that is whole isn't passed in part
first_whole : (count : ℕ) (block line more : List ℕ) → cut_at 10 block ≡ Some (line, more) → cut_at 10 (drop count block) ≡ None → length line < count
first_whole count block line more cut none = by_order (cases_lt (length line) count)
  where
    by_order : (length line < count) ⊎ (count ≤ length line) → length line < count
    by_order (inl less) = less
    by_order (inr long) =
        let text : drop count block ≡ drop count line ++ 10 ∷ more =
        ap (drop count) (cut_takes 10 block line more cut) ∙ drop-append-le count line (10 ∷ more) long in
        let lacks : Lacks 10 (drop count line) =
        all_right (λ (b : ℕ). b ≢ 10) (take count line) (drop count line)
        (subst (Lacks 10) (sym (take-append-drop count line)) (cut_lacks 10 block line more cut)) in
        let there : cut_at 10 (drop count block) ≡ Some (drop count line, more) = ap (cut_at 10) text ∙ cut_again 10 (drop count line) more lacks in
        let bad : ◌≡◌ {A = Option (List ℕ × List ℕ)} None (Some (drop count line, more)) = sym none ∙ there in
        absurd cc

-- the lines that were passed
module _ (file : List ℕ) (place count : ℕ) (block : List ℕ) (short : HasShortLines 16352 file) (b : IsBlockAt file place block)
    (within : count ≤ length block) (none : cut_at 10 (drop count block) ≡ None) where
  passed_first : (line after : List ℕ) → cut_at 10 (drop place file) ≡ Some (line, after) → length line < count
  passed_first line after cut = by_cut (cut_at 10 block) refl (cases_lt (length block) 16384)
    where
      by_cut : (o : Option (List ℕ × List ℕ)) → cut_at 10 block ≡ o → (length block < 16384) ⊎ (16384 ≤ length block) → length line < count
      by_cut None uncut (inl last) =
          let whole : drop place file ≡ block = b.parts ∙ (ap (λ (l : List ℕ). block ++ l) (b.last last) ∙ append-nil block) in
          let bad : ◌≡◌ {A = Option (List ℕ × List ℕ)} None (Some (line, after)) = sym uncut ∙ (sym (ap (cut_at 10) whole) ∙ cut) in
          absurd cc
      by_cut None uncut (inr full) = absurd (short_part 16352 file place block b.rest short (omega arith) b.parts (omega (arith, full)) uncut)
      by_cut (Some (first, more)) is size =
          let same : (first, more ++ b.rest) ≡ (line, after) =
          same_Some {A = List ℕ × List ℕ} (first, more ++ b.rest) (line, after)
          (sym (ap (cut_at 10) b.parts ∙ cut_more block b.rest first more is) ∙ cut) in
          subst (λ (l : List ℕ). length l < count) (ap (λ (p : List ℕ × List ℕ). p.0) same) (first_whole count block first more is none)

  passed_beyond : (line after : List ℕ) → cut_at 10 (drop (place + count) file) ≡ Some (line, after) → 16384 ≤ count + length line
  passed_beyond line after cut = by_size (cases_lt (length block) 16384)
    where
      part : drop (place + count) file ≡ drop count block ++ b.rest
      part = past file place count block b within

      by_size : (length block < 16384) ⊎ (16384 ≤ length block) → 16384 ≤ count + length line
      by_size (inl last) =
          let whole : drop (place + count) file ≡ drop count block =
          part ∙ (ap (λ (l : List ℕ). drop count block ++ l) (b.last last) ∙ append-nil (drop count block)) in
          let bad : ◌≡◌ {A = Option (List ℕ × List ℕ)} None (Some (line, after)) = sym none ∙ (sym (ap (cut_at 10) whole) ∙ cut) in
          absurd cc
      by_size (inr full) =
          let goes = line_goes_on (drop count block) b.rest line after none (sym (ap (cut_at 10) part) ∙ cut) in
          let size = ap length goes.1 ∙ length-append (drop count block) goes.0 in
          let left = length-drop count block in
          omega (arith, size, left, full, within)

goes_far : (wanted : Wanted) (file : List ℕ) (place : ℕ) (block : List ℕ) (s : Scanned) → HasShortLines 16352 file
    → (b : IsBlockAt file place block) → IsFurther wanted place block s → GoesFar file place s
goes_far wanted file place block (Found spot) short b is = tt
goes_far wanted file place block (Further next) short b (count, at, passes, none) = record {
  first = λ line after cut. (let less = passed_first file place count block short b passes.within none line after cut in omega (arith, at, less));
  beyond = λ line after cut.
      (let reached = passed_beyond file place count block short b passes.within none line after (ap (λ (n : ℕ). cut_at 10 (drop n file)) (sym at) ∙ cut) in
      omega (arith, at, reached));
}

pub all_far : (a : StoreState) (name : List ℕ) (place : ℕ) (wanted : Wanted) (block : List ℕ) (r : Result Scanned SearchFault)
    → IsBlockIn a name place block → IfOk r (IsFurther wanted place block)
    → IfOk r (λ s. (file : List ℕ) → HasFile a name file → HasShortLines 16352 file → GoesFar file place s)
all_far a name place wanted block (Ok s) is further = λ file has short. goes_far wanted file place block s short (is file has) further
all_far a name place wanted block (Err fault) is further = tt

-- ---- block after block

-- two blocks after the other pass more bytes than a block has
pub record IsEven (low place i halves : ℕ) : Type 0 where
  pub even : i ≡ 2 * halves
  pub far : low + 16385 * halves ≤ place

pub record IsOdd (file : List ℕ) (low place i halves : ℕ) : Type 0 where
  pub odd : i ≡ 2 * halves + 1
  pub before : ℕ
  pub far : low + 16385 * halves ≤ before
  pub above : before ≤ place
  pub beyond : (line after : List ℕ) → cut_at 10 (drop place file) ≡ Some (line, after) → before + 16384 ≤ place + length line

pub record FarOn (a b : StoreState) (file : List ℕ) (low place i : ℕ) : Type 0 where
  pub halves : ℕ
  pub way : IsEven low place i halves ⊎ IsOdd file low place i halves
  pub calls : MakesAtMost {T = Unit {0}} IsFailed i a b (Ok tt)

pub record Scanning (a b : StoreState) (name : List ℕ) (low : ℕ) (wanted : Wanted) (place i : ℕ) : Type 0 where
  pub scans : Scans a b name low wanted place i
  pub quick : (file : List ℕ) (v : Saved) → HasFile a name file → HasShortLines 16352 file → StandsAt wanted v (drop low file)
      → FarOn a b file low place i

module _ (wanted : Wanted) (v : Saved) (file : List ℕ) (low place next i halves : ℕ) (stands : StandsAt wanted v (drop place file))
    (reaches : Reaches file place next) where
  odd_next : (o : IsOdd file low place i halves) → (out : Option (List ℕ × List ℕ)) → cut_at 10 (drop place file) ≡ out
      → low + 16385 * (halves + 1) ≤ next
  odd_next o None cut = absurd (no_uncut wanted v (drop place file) stands cut)
  odd_next o (Some (line, after)) cut =
      let first = reaches.first line after cut in
      let beyond = o.beyond line after cut in
      let far = o.far in
      omega (arith, first, beyond, far)

  far_next : (above : place ≤ next) → IsEven low place i halves ⊎ IsOdd file low place i halves
      → (more : ℕ) × (IsEven low next (i + 1) more ⊎ IsOdd file low next (i + 1) more)
  far_next above (inl e) =
      let even = e.even in
      (halves, inr (record { odd = omega (arith, even); before = place; far = e.far; above = above; beyond = reaches.beyond }))
  far_next above (inr o) =
      let odd = o.odd in
      (halves + 1, inl (record { even = omega (arith, odd); far = odd_next o (cut_at 10 (drop place file)) refl }))

module _ (a b : StoreState) (name : List ℕ) (low : ℕ) (wanted : Wanted) (place i : ℕ) (h : Scanning a b name low wanted place i) where
  pub scanning_more : (d : StoreState) (next : ℕ) (s : Scanned) → s ≡ Further next → ReadsOften IsFailed b d (Ok s) → Goes b name place wanted next
      → ReadsFew 1 b d name (Ok s)
      → ((file : List ℕ) → HasFile b name file → HasShortLines 16352 file → GoesFar file place s)
      → Scanning a d name low wanted next (i + 1)
  scanning_more d next s is frame goes few far = record {
    scans = record {
      frame = often_then IsFailed a b d tt s tt h.scans.frame frame;
      reached = (let reached = h.scans.reached in let above = goes.above in omega (arith, reached, above));
      stands = scans_further a b name low wanted place i next h.scans goes;
    };
    quick = λ file v has short t.
        (let q = h.quick file v has short t in
        let there : HasFile b name file = has_after a b tt name file h.scans.frame has in
        let above = goes.above in
        let more = far_next wanted v file low place next i q.halves (h.scans.stands file v has t) (subst (GoesFar file place) is (far file there short))
        (omega (arith, above)) q.way in
        record {
          halves = more.0;
          way = more.1;
          calls = calls_ok (i + 1) a d s tt
              (at_most_both IsFailed i 1 (i + 1) a b d tt (Ok s) (omega arith) h.scans.frame.known q.calls (few file there short));
        });
  }

-- ---- the steps of a search

-- so many bytes are between the ends at most before so many steps
abbrev pub doubled : ℕ → ℕ
doubled zero = 16384
doubled (suc n) = 2 * doubled n

doubled_more : (n m : ℕ) → n ≤ m → doubled n ≤ doubled m
doubled_more zero zero le = omega arith
doubled_more zero (suc m) le = (let more = doubled_more zero m (omega arith) in omega (arith, more))
doubled_more (suc n) zero le = absurd (omega (arith, le))
doubled_more (suc n) (suc m) le = (let more = doubled_more n m (omega (arith, le)) in omega (arith, more))

doubled_26 : doubled 26 ≡ 1099511627776
doubled_26 = refl

doubled_27 : doubled 27 ≡ 2199023255552
doubled_27 = refl

doubled_50 : doubled 50 ≡ 18446744073709551616
doubled_50 = refl

-- no end is known yet
pub record Grows (low high distance i : ℕ) : Type 0 where
  pub unknown : high ≡ 18446744073709551615
  pub distance_is : distance ≡ doubled i
  pub above : doubled i ≤ low + 16384
  pub early : i ≤ 26

-- an end is known
pub record Halves (low high i : ℕ) : Type 0 where
  pub is_known : high < 18446744073709551615
  pub steps : ℕ
  pub sum : steps + i ≡ 53
  pub between : high ≤ low + doubled steps

abbrev Way : ℕ → ℕ → ℕ → ℕ → Type 0
Way low high distance i = Grows low high distance i ⊎ Halves low high i

way_begun : (start end : ℕ) → end < 18446744073709551616 → Way start end 16384 0
way_begun start end fits = by_order (cases_lt end 18446744073709551615)
  where
    by_order : (end < 18446744073709551615) ⊎ (18446744073709551615 ≤ end) → Way start end 16384 0
    by_order (inl below) =
        let more = doubled_more 50 53 (omega arith) in
        inr (record { is_known = below; steps = 53; sum = omega arith; between = omega (arith, below, more, doubled_50) })
    by_order (inr most) =
        inl (record { unknown = omega (arith, fits, most); distance_is = refl; above = omega arith; early = omega arith })

-- at most 53 steps are made, and one fewer was if there is more between than a block
way_late : (low high distance i : ℕ) → Way low high distance i → i ≤ 53
way_late low high distance i (inl g) = (let early = g.early in omega (arith, early))
way_late low high distance i (inr h) = (let sum = h.sum in omega (arith, sum))

way_early : (low high distance i : ℕ) → Way low high distance i → 16384 < high - low → i + 1 ≤ 53
way_early low high distance i (inl g) wide = (let early = g.early in omega (arith, early))
way_early low high distance i (inr h) wide = by_steps h.steps h.sum h.between
  where
    by_steps : (k : ℕ) → k + i ≡ 53 → high ≤ low + doubled k → i + 1 ≤ 53
    by_steps zero sum between = absurd (omega (arith, wide, between))
    by_steps (suc k) sum between = omega (arith, sum)

module _ (a : StoreState) (name : List ℕ) (wanted : Wanted) (start : ℕ) (file : List ℕ) (v : Saved) (plain : IsPlainText a name start file v)
    (ends new : Ends) (distance next i middle : ℕ) (low : ends.low ≤ 1099511627776) where
  within : (place : ℕ) (side : Ordering) → IsProbe a name middle wanted (Some (place, side)) → place < 1099511627776
  within place side is =
      let below = (is.is file plain.has).lies.within in
      let few = plain.few in
      omega (arith, below, few)

  low_within : (o : Option (ℕ × Ordering)) → IsProbe a name middle wanted o → IsMoved ends middle o new → new.low ≤ 1099511627776
  low_within None is moved = subst (λ (e : Ends). e.low ≤ 1099511627776) (sym moved) low
  low_within (Some (place, Greater)) is moved = subst (λ (e : Ends). e.low ≤ 1099511627776) (sym moved) low
  low_within (Some (place, Equal)) is moved =
      subst (λ (e : Ends). e.low ≤ 1099511627776) (sym moved) (let below = within place Equal is in omega (arith, below))
  low_within (Some (place, Less)) is moved =
      subst (λ (e : Ends). e.low ≤ 1099511627776) (sym moved) (let below = within place Less is in omega (arith, below))

  grown_next : (g : Grows ends.low ends.high distance i) → (ends.low + distance ≤ 18446744073709551615 → middle ≡ ends.low + distance)
      → (distance * 2 ≤ 18446744073709551615 → next ≡ distance * 2)
      → (o : Option (ℕ × Ordering)) → IsProbe a name middle wanted o → IsMoved ends middle o new → Way new.low new.high next (i + 1)
  grown_next g mid doubles o is moved = by_probe o is moved
    where
      few : doubled i ≤ 1099511627776
      few = (let more = doubled_more i 26 g.early in omega (arith, more, doubled_26))

      here : middle ≡ ends.low + doubled i
      here = (let far = g.distance_is in let at = mid (omega (arith, far, few, low)) in omega (arith, at, far))

      known_at : (l h : ℕ) → h < 18446744073709551615 → h ≤ l + doubled i → Way l h next (i + 1)
      known_at l h below between =
          let early = g.early in
          let more = doubled_more i (52 - i) (omega (arith, early)) in
          inr (record { is_known = below; steps = 52 - i; sum = omega (arith, early); between = omega (arith, between, more) })

      by_probe : (o : Option (ℕ × Ordering)) → IsProbe a name middle wanted o → IsMoved ends middle o new → Way new.low new.high next (i + 1)
      by_probe None is moved =
          subst (λ (e : Ends). Way e.low e.high next (i + 1)) (sym moved)
          (known_at ends.low middle (omega (arith, here, few, low)) (omega (arith, here)))
      by_probe (Some (place, Greater)) is moved =
          subst (λ (e : Ends). Way e.low e.high next (i + 1)) (sym moved)
          (known_at ends.low middle (omega (arith, here, few, low)) (omega (arith, here)))
      by_probe (Some (place, Equal)) is moved =
          let below = within place Equal is in
          subst (λ (e : Ends). Way e.low e.high next (i + 1)) (sym moved) (known_at place place (omega (arith, below)) (omega arith))
      by_probe (Some (place, Less)) is moved =
          let below = within place Less is in
          let after = is.above in
          let above = g.above in
          let far = g.distance_is in
          let twice = doubles (omega (arith, far, few)) in
          let once : doubled (i + 1) ≡ 2 * doubled i = ap doubled (let e : i + 1 ≡ suc i = omega arith in e) in
          let wide : doubled (i + 1) ≤ place + 16384 = omega (arith, once, after, here, above) in
          subst (λ (e : Ends). Way e.low e.high next (i + 1)) (sym moved)
          (inl (record {
            unknown = g.unknown;
            distance_is = omega (arith, twice, far, once);
            above = wide;
            early = not_late wide below (cases_lt (i + 1) 27);
          }))
        where
          not_late : doubled (i + 1) ≤ place + 16384 → place < 1099511627776 → (i + 1 < 27) ⊎ (27 ≤ i + 1) → i + 1 ≤ 26
          not_late wide below (inl early) = omega (arith, early)
          not_late wide below (inr late) =
              let more = doubled_more 27 (i + 1) late in
              absurd (omega (arith, more, doubled_27, wide, below))

  halved_next : (h : Halves ends.low ends.high i) → 16384 < ends.high - ends.low → middle ≡ ends.low + (ends.high - ends.low) / 2
      → (o : Option (ℕ × Ordering)) → IsProbe a name middle wanted o → IsMoved ends middle o new → Way new.low new.high next (i + 1)
  halved_next h wide mid o is moved = by_steps h.steps h.sum h.between o is moved
    where
      known : ends.high < 18446744073709551615
      known = h.is_known

      by_steps : (k : ℕ) → k + i ≡ 53 → ends.high ≤ ends.low + doubled k → (o : Option (ℕ × Ordering)) → IsProbe a name middle wanted o
          → IsMoved ends middle o new → Way new.low new.high next (i + 1)
      by_steps zero sum between o is moved = absurd (omega (arith, wide, between))
      by_steps (suc k) sum between None is moved =
          subst (λ (e : Ends). Way e.low e.high next (i + 1)) (sym moved)
          (inr (record { is_known = omega (arith, mid, known, wide); steps = k; sum = omega (arith, sum); between = omega (arith, mid, between, wide) }))
      by_steps (suc k) sum between (Some (place, Greater)) is moved =
          subst (λ (e : Ends). Way e.low e.high next (i + 1)) (sym moved)
          (inr (record { is_known = omega (arith, mid, known, wide); steps = k; sum = omega (arith, sum); between = omega (arith, mid, between, wide) }))
      by_steps (suc k) sum between (Some (place, Equal)) is moved =
          let below = within place Equal is in
          subst (λ (e : Ends). Way e.low e.high next (i + 1)) (sym moved)
          (inr (record { is_known = omega (arith, below); steps = k; sum = omega (arith, sum); between = omega arith }))
      by_steps (suc k) sum between (Some (place, Less)) is moved =
          let after = is.above in
          subst (λ (e : Ends). Way e.low e.high next (i + 1)) (sym moved)
          (inr (record { is_known = known; steps = k; sum = omega (arith, sum); between = omega (arith, mid, between, wide, after) }))

-- ---- all steps

pub record Quick (a b : StoreState) (wanted : Wanted) (file : List ℕ) (v : Saved) (ends : Ends) (distance i : ℕ) : Type 0 where
  pub calls : MakesAtMost {T = Unit {0}} IsFailed i a b (Ok tt)
  pub high : IsHigh wanted v file ends.high
  pub none : NoneBegins file ends.end
  pub way : Way ends.low ends.high distance i
  pub low : ends.low ≤ 1099511627776

pub record Narrowing (a b : StoreState) (name : List ℕ) (start : ℕ) (wanted : Wanted) (end : ℕ) (ends : Ends) (distance i : ℕ) : Type 0 where
  pub narrows : Narrows a b name start wanted ends.low
  pub quick : (file : List ℕ) (v : Saved) → IsPlainText a name start file v → NoneBegins file end → Quick a b wanted file v ends distance i

pub narrowing_begun : (a : StoreState) (name : List ℕ) (start : ℕ) (wanted : Wanted) (end : ℕ) → end < 18446744073709551616
    → Narrowing a a name start wanted end (record { low = start; high = end; end = end }) 16384 0
narrowing_begun a name start wanted end fits = record {
  narrows = record { frame = often_none IsFailed a tt; is_low = low_begun a name start wanted };
  quick = λ file v plain none. record {
    calls = calls_none 0 a tt;
    high = high_none wanted v file end plain.short none;
    none = none;
    way = way_begun start end fits;
    low = (let within = plain.lines.within in let few = plain.few in omega (arith, within, few));
  };
}

plain_after : {T : Type 0} (a b : StoreState) (x : T) (name : List ℕ) (start : ℕ) (file : List ℕ) (v : Saved) → ReadsOften IsFailed a b (Ok x)
    → IsPlainText a name start file v → IsPlainText b name start file v
plain_after a b x name start file v frame plain =
    record { has = has_after a b x name file frame plain.has; lines = plain.lines; few = plain.few; short = plain.short }

module _ (a b : StoreState) (name : List ℕ) (start : ℕ) (wanted : Wanted) (end : ℕ) (ends : Ends) (distance i : ℕ)
    (h : Narrowing a b name start wanted end ends distance i) where
  pub narrowing_more : (d : StoreState) (new : Ends) (next middle : ℕ) → 16384 < ends.high - ends.low → ends.low ≤ middle
      → (ends.high ≡ 18446744073709551615 → ends.low + distance ≤ 18446744073709551615 → middle ≡ ends.low + distance)
      → (ends.high ≢ 18446744073709551615 → middle ≡ ends.low + (ends.high - ends.low) / 2)
      → (distance * 2 ≤ 18446744073709551615 → next ≡ distance * 2)
      → ReadsOften IsFailed b d (Ok new) → ReadsFew 1 b d name (Ok new) → IsStep b name wanted ends middle new
      → ((s : ℕ) → IsLow b name s wanted ends.low → IsLow b name s wanted new.low)
      → Narrowing a d name start wanted end new next (i + 1)
  narrowing_more d new next middle wide ahead grown halved doubles frame few step low = record {
    narrows = record {
      frame = often_then IsFailed a b d tt new tt h.narrows.frame frame;
      is_low = low_next a b name start wanted ends.low new.low h.narrows low;
    };
    quick = λ file v plain none.
        (let q = h.quick file v plain none in
        let there = plain_after a b tt name start file v h.narrows.frame plain in
        let above = h.narrows.is_low.above in
        record {
          calls = calls_ok (i + 1) a d new tt
              (at_most_both IsFailed i 1 (i + 1) a b d tt (Ok new) (omega arith) h.narrows.frame.known q.calls (few file there.has there.short));
          high = high_next b name wanted start file v ends new middle there (omega (arith, above, ahead)) q.high step;
          none = end_next b name wanted start file v ends new middle there q.none step;
          way = by_way file v there q.low q.way;
          low = low_within b name wanted start file v there ends new distance next i middle q.low step.probed step.is step.moved;
        });
  }
    where
      by_way : (file : List ℕ) (v : Saved) → IsPlainText b name start file v → ends.low ≤ 1099511627776 → Way ends.low ends.high distance i
          → Way new.low new.high next (i + 1)
      by_way file v there few (inl g) =
          grown_next b name wanted start file v there ends new distance next i middle few g (grown g.unknown) doubles step.probed step.is step.moved
      by_way file v there few (inr k) =
          halved_next b name wanted start file v there ends new distance next i middle few k wide
          (halved (λ e. (let known = k.is_known in omega (arith, known, e)))) step.probed step.is step.moved

  pub narrowing_stops : {T U : Type 0} (d : StoreState) (fault : SearchFault) (file : List ℕ) (v : Saved) → 16384 < ends.high - ends.low
      → ReadsFew {T = T} 1 b d name (Err fault) → IsPlainText a name start file v → NoneBegins file end
      → MakesAtMost {T = U} IsFailed 53 a d (Err fault)
  narrowing_stops d fault file v wide few plain none =
      let q = h.quick file v plain none in
      calls_err 53 a d fault (at_most_both IsFailed i 1 53 a b d tt (Err fault) (way_early ends.low ends.high distance i q.way wide)
      h.narrows.frame.known q.calls (few file (has_after a b tt name file h.narrows.frame plain.has) plain.short))

  pub narrowing_done : (file : List ℕ) (v : Saved) → IsPlainText a name start file v → NoneBegins file end → MakesAtMost IsFailed 53 a b (Ok ends)
  narrowing_done file v plain none =
      let q = h.quick file v plain none in
      calls_ok 53 a b tt ends (at_most_more IsFailed i 53 a b (Ok tt) (way_late ends.low ends.high distance i q.way) q.calls)

  pub narrowing_near : (file : List ℕ) (v : Saved) → IsPlainText a name start file v → NoneBegins file end → ends.high - ends.low ≤ 16384
      → IsNear wanted v file ends.low
  narrowing_near file v plain none few = λ p s. (let fine = (h.quick file v plain none).high p s in omega (arith, fine, few))

  pub narrowing_late : (file : List ℕ) (v : Saved) → IsPlainText a name start file v → NoneBegins file end → 120 ≤ i → ⊥
  narrowing_late file v plain none late =
      let few = way_late ends.low ends.high distance i (h.quick file v plain none).way in
      omega (arith, few, late)
