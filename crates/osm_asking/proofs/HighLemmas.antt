-- Places after which nothing before what is wanted begins.
use Rattle.std.proofs.Common.{◌≡◌, ◌≢◌, ◌⊎◌, inl, inr, ℕ, ◌+◌, ◌-◌, ◌<◌, ◌≤◌, List, [], ◌∷◌, ◌++◌, length, map, drop, refl, sym, ap, ◌∙◌, subst}
use Rattle.std.proofs.Common.{Option, Some, None, arith}
use Rattle.std.proofs.lemmas.Bool.{cases_lt}
use Rattle.std.proofs.lemmas.List.{length-append, length-drop}
use Rattle.std.specs.List.{AllByRecursion}
use Rattle.std.specs.declared.cmp.Ordering.{Ordering}
use Rattle.std.specs.declared.cmp.Ordering.TheVariants.{Equal, Greater, Less}
use Rattle.osm_model.specs.Change.{ChangeValue}
use Rattle.osm_mirror.specs.Mirror.{IsObject, MirrorValue}
use Rattle.osm_opl.specs.Written.{line_text}
use Rattle.osm_reading.specs.Pieces.{cut_at}
use Rattle.osm_save.specs.Lines.{ended}
use Rattle.osm_save.specs.declared.save.Saved.{Saved}
use Rattle.osm_store.specs.Frames.{StoreState}
use Rattle.osm_asking.specs.Finding.{AreBefore, StandsAt}
use Rattle.osm_asking.specs.Lines.{HasLines, lines_after, lines_from}
use Rattle.osm_asking.specs.Reads.{HasShortLines, IsPlainText, NoneBegins}
use Rattle.osm_asking.specs.Steps.Passing.{HasSide, IsProbed}
use Rattle.osm_asking.specs.Steps.Searching.{IsHigh, IsMoved, IsProbe, IsStep, Probes}
use Rattle.osm_asking.specs.declared.find.Ends.{Ends}
use Rattle.osm_asking.specs.declared.side.Wanted.{Wanted}
use Rattle.osm_asking.proofs.LineLemmas.{IsAmong, IsPast, IsSplit, among_or_past, own_first}
use Rattle.osm_asking.proofs.ShortLemmas.{next_there, short_first, uncut_drop}
use Rattle.osm_asking.proofs.StandLemmas.{dropped, no_uncut, split_cut, split_there, stands_within}

-- ---- lines that are passed

lines_longer : (m : MirrorValue) (front left : List ChangeValue) → length (lines_from left m) ≤ length (lines_from (front ++ left) m)
lines_longer m [] left = omega arith
lines_longer m (c ∷ front) left =
    let more = lines_longer m front left in
    let size = length-append (line_text c) (10 ∷ lines_from (front ++ left) m) in
    omega (arith, more, size)

ended_longer : (front left : List (List ℕ)) → length (ended left) ≤ length (ended (front ++ left))
ended_longer [] left = omega arith
ended_longer (line ∷ front) left =
    let more = ended_longer front left in
    let size = length-append line (10 ∷ ended (front ++ left)) in
    omega (arith, more, size)

-- a line that lies before others that come before what is wanted comes before it
before_others : (wanted : Wanted) (m : MirrorValue) (front left before later : List ChangeValue) (bytes : List ℕ) (side : Option Ordering)
    → AllByRecursion IsObject (front ++ left) → front ++ left ≡ before ++ later → AreBefore wanted before → bytes ≡ lines_from left m
    → HasSide wanted bytes side → (side ≡ Some Less → ⊥) → length (lines_from later m) < length bytes → ⊥
before_others wanted m front left [] later bytes side all same passed text h other shorter =
    let more = lines_longer m front left in
    let size : length (lines_from (front ++ left) m) ≡ length (lines_from later m) = ap (λ (cs : List ChangeValue). length (lines_from cs m)) same in
    let own = ap length text in
    omega (arith, more, size, own, shorter)
before_others wanted m [] left (b ∷ before) later bytes side all same passed text h other shorter =
    let objects : AllByRecursion IsObject (b ∷ (before ++ later)) = subst (AllByRecursion IsObject) same all in
    let own = own_first wanted m b (before ++ later) bytes side objects.0 (text ∙ ap (λ (cs : List ChangeValue). lines_from cs m) same) h in
    other (own.side_is ∙ ap (λ (o : Ordering). Some o) passed.0)
before_others wanted m (f ∷ front) left (b ∷ before) later bytes side all same passed text h other shorter =
    before_others wanted m front left before later bytes side all.1 (tail_same same) passed.1 text h other shorter
  where
    tail_same : f ∷ (front ++ left) ≡ b ∷ (before ++ later) → front ++ left ≡ before ++ later
    tail_same x = cc

-- all that stands begins there or before, if that line doesn't come before what is wanted
pub stops_there : (wanted : Wanted) (file : List ℕ) (start : ℕ) (v : Saved) (from place : ℕ) (side : Option Ordering) → HasLines file start v
    → start ≤ from → IsProbed wanted file from place side → (side ≡ Some Less → ⊥) → (p : ℕ) → StandsAt wanted v (drop p file) → p ≤ place
stops_there wanted file start v from place side has above probed other p s =
    let split = split_there file start v from place probed.skipped has above probed.parts in
    by_order (probed.lies.has (split_cut v has.spells.version has.spells.savable file place split probed.lies.within)) split
    (among_or_past v.mirror.objects (lines_after v.mirror) split.earlier split.later split.parts) (cases_lt place p)
  where
    shorter : place < p → length (lines_from s.later v.mirror) < length (drop place file)
    shorter less =
        let here = length-drop place file in
        let there = length-drop p file in
        let same = ap length s.lines in
        by_within here there same (cases_lt p (length file))
      where
        by_within : length (drop place file) ≡ length file - place → length (drop p file) ≡ length file - p
            → length (drop p file) ≡ length (lines_from s.later v.mirror)
            → (p < length file) ⊎ (length file ≤ p) → length (lines_from s.later v.mirror) < length (drop place file)
        by_within here there same (inl within) = omega (arith, here, there, same, within, less)
        by_within here there same (inr past) = absurd (stands_within wanted v file p s past)

    by_order : HasSide wanted (drop place file) side → (split : IsSplit (map line_text v.mirror.objects ++ lines_after v.mirror) (drop place file))
        → IsAmong v.mirror.objects (lines_after v.mirror) split.later ⊎ IsPast (lines_after v.mirror) split.later
        → (place < p) ⊎ (p ≤ place) → p ≤ place
    by_order h split which (inr fine) = fine
    by_order h split (inl a) (inl less) =
        absurd (before_others wanted v.mirror a.before a.left s.before s.later (drop place file) side
        (subst (AllByRecursion IsObject) a.parts s.savable.mirror.objects) (sym a.parts ∙ s.parts) s.passed
        (split.text ∙ ap ended a.lines) h other (shorter less))
    by_order h split (inr past) (inl less) =
        let fewer = shorter less in
        let text = ap length split.text in
        let others = ended_longer past.earlier split.later in
        let parts : length (ended (past.earlier ++ split.later)) ≡ length (ended (lines_after v.mirror)) =
        ap (λ (l : List (List ℕ)). length (ended l)) (sym past.parts) in
        let all = ended_longer (map line_text s.later) (lines_after v.mirror) in
        absurd (omega (arith, fewer, text, others, parts, all))

-- ---- no line begins after a place

none_stands : (wanted : Wanted) (v : Saved) (file : List ℕ) (from p : ℕ) → cut_at 10 (drop from file) ≡ None → StandsAt wanted v (drop p file) → p ≤ from
none_stands wanted v file from p none s = by_order (cases_lt from p)
  where
    by_order : (from < p) ⊎ (p ≤ from) → p ≤ from
    by_order (inr fine) = fine
    by_order (inl less) =
        absurd (no_uncut wanted v (drop p file) s
        (sym (ap (cut_at 10) (dropped file from p (omega (arith, less)))) ∙ uncut_drop (p - from) (drop from file) none))

pub high_none : (wanted : Wanted) (v : Saved) (file : List ℕ) (from : ℕ) → HasShortLines 16352 file → NoneBegins file from → IsHigh wanted v file from
high_none wanted v file from short none = λ p s. by_cut p s (cut_at 10 (drop from file)) refl
  where
    by_cut : (p : ℕ) → StandsAt wanted v (drop p file) → (o : Option (List ℕ × List ℕ)) → cut_at 10 (drop from file) ≡ o → p ≤ from + 16352
    by_cut p s None cut = (let fine = none_stands wanted v file from p cut s in omega (arith, fine))
    by_cut p s (Some (line, after)) cut =
        let less = short_first 16352 file from line after short (omega arith) cut in
        let there = next_there file from line after cut in
        let fine = none_stands wanted v file (from + (length line + 1)) p (sym (ap (cut_at 10) there) ∙ none line after cut) s in
        omega (arith, less, fine)

-- ---- the ends after a step

pub high_next : (a : StoreState) (name : List ℕ) (wanted : Wanted) (start : ℕ) (file : List ℕ) (v : Saved) (ends new : Ends) (middle : ℕ)
    → IsPlainText a name start file v → start ≤ middle → IsHigh wanted v file ends.high → IsStep a name wanted ends middle new
    → IsHigh wanted v file new.high
high_next a name wanted start file v ends new middle plain above high step = by_probe step.probed step.is step.moved
  where
    after_probe : (place : ℕ) (side : Ordering) → Probes a name middle wanted place (Some side) → side ≢ Less
        → (p : ℕ) → StandsAt wanted v (drop p file) → p ≤ place
    after_probe place side probed other p s =
        stops_there wanted file start v middle place (Some side) plain.lines above (probed.is file plain.has)
        (λ e. other (same_side e)) p s
      where
        same_side : ◌≡◌ {A = Option Ordering} (Some side) (Some Less) → side ≡ Less
        same_side e = cc

    by_probe : (o : Option (ℕ × Ordering)) → IsProbe a name middle wanted o → IsMoved ends middle o new → IsHigh wanted v file new.high
    by_probe None is moved =
        let few = plain.few in
        subst (λ (e : Ends). IsHigh wanted v file e.high) (sym moved)
        (high_none wanted v file middle plain.short (is file plain.has (omega (arith, few))))
    by_probe (Some (place, Greater)) is moved =
        subst (λ (e : Ends). IsHigh wanted v file e.high) (sym moved)
        (λ p s. (let fine = after_probe place Greater is (λ e. absurd (let bad = e in cc)) p s in
        let near = is.near file plain.has plain.short in
        omega (arith, fine, near)))
    by_probe (Some (place, Equal)) is moved =
        subst (λ (e : Ends). IsHigh wanted v file e.high) (sym moved)
        (λ p s. (let fine = after_probe place Equal is (λ e. absurd (let bad = e in cc)) p s in omega (arith, fine)))
    by_probe (Some (place, Less)) is moved = subst (λ (e : Ends). IsHigh wanted v file e.high) (sym moved) high

pub end_next : (a : StoreState) (name : List ℕ) (wanted : Wanted) (start : ℕ) (file : List ℕ) (v : Saved) (ends new : Ends) (middle : ℕ)
    → IsPlainText a name start file v → NoneBegins file ends.end → IsStep a name wanted ends middle new → NoneBegins file new.end
end_next a name wanted start file v ends new middle plain none step = by_probe step.probed step.is step.moved
  where
    by_probe : (o : Option (ℕ × Ordering)) → IsProbe a name middle wanted o → IsMoved ends middle o new → NoneBegins file new.end
    by_probe None is moved =
        let few = plain.few in
        subst (λ (e : Ends). NoneBegins file e.end) (sym moved) (is file plain.has (omega (arith, few)))
    by_probe (Some (place, Greater)) is moved = subst (λ (e : Ends). NoneBegins file e.end) (sym moved) none
    by_probe (Some (place, Equal)) is moved = subst (λ (e : Ends). NoneBegins file e.end) (sym moved) none
    by_probe (Some (place, Less)) is moved = subst (λ (e : Ends). NoneBegins file e.end) (sym moved) none
