-- Standing at a line of a save text, before which all comes before what is wanted.
use Rattle.std.proofs.Common.{
  ◌≡◌,
  ◌≢◌,
  ◌⊎◌,
  inl,
  inr,
  ℕ,
  ◌+◌,
  ◌-◌,
  ◌<◌,
  ◌≤◌,
  List,
  [],
  ◌∷◌,
  ◌++◌,
  length,
  map,
  take,
  drop,
  refl,
  sym,
  ap,
  ◌∙◌,
  subst,
  Bool,
  true,
  false,
  Option,
  Some,
  None,
  arith,
  append_assoc,
}
use Rattle.std.proofs.lemmas.List.{take-append-drop, drop-drop, length-drop}
use Rattle.std.specs.List.{AllByRecursion}
use Rattle.std.specs.List.Sorted.{IsStrictlySortedBy}
use Rattle.std.specs.Ordering.{is_eq}
use Rattle.std.specs.declared.cmp.Ordering.{Ordering}
use Rattle.std.specs.declared.cmp.Ordering.TheVariants.{Equal, Greater, Less}
use Rattle.std.proofs.lemmas.Option.{same_Some}
use Rattle.osm_model.specs.Change.{ChangeValue}
use Rattle.osm_model.specs.KeyOrder.{key_cmp, same_key}
use Rattle.osm_model.specs.declared.kind.Key.{Key}
use Rattle.osm_model.proofs.ContentLemmas.{one_key}
use Rattle.osm_model.proofs.DataLemmas.{keys_total}
use Rattle.osm_mirror.specs.Mirror.{AreRising, IsObject, object_at}
use Rattle.osm_opl.specs.Written.{line_text}
use Rattle.osm_reading.specs.Pieces.{Lacks, cut_at}
use Rattle.osm_reading.proofs.PieceLemmas.{cut_again, uncut_again}
use Rattle.std.specs.Prelude.{codes, decimal}
use Rattle.osm_save.specs.Lines.{ended, list_lines}
use Rattle.osm_save.specs.Save.{IsSavable, count_text}
use Rattle.osm_save.specs.declared.save.Saved.{Saved}
use Rattle.osm_save.specs.declared.version.Version.{Version}
use Rattle.osm_asking.specs.Finding.{AreBefore, IsFirst, StandsAt, side_at}
use Rattle.osm_asking.specs.Lines.{HasLines, lines_after, lines_from}
use Rattle.osm_asking.specs.Steps.Passing.{HasSide, IsProbed}
use Rattle.osm_asking.specs.declared.side.Wanted.{Wanted}
use Rattle.osm_asking.specs.declared.side.Wanted.TheVariants.{Counts, Object}
use Rattle.osm_asking.proofs.LineLemmas.{IsAmong, IsOwn, IsPast, IsSplit, all_lack, all_right, among_or_past, lines_after_are, lines_split}
use Rattle.osm_asking.proofs.LineLemmas.{none_first, object_lacks, own_first, past_greater}
use Rattle.osm_asking.proofs.EntryLemmas.{turned}
use Rattle.osm_kept.proofs.BatchLemmas.{all_append}

objects_later : (version : Version) (v : Saved) (before later : List ChangeValue) → IsSavable version v → v.mirror.objects ≡ before ++ later
    → AllByRecursion IsObject later
objects_later version v before later is parts = all_right IsObject before later (subst (AllByRecursion IsObject) parts is.mirror.objects)

-- ---- one line further

passed_by : (wanted : Wanted) (v : Saved) (version : Version) (is : IsSavable version v) (before later : List ChangeValue) (bytes : List ℕ)
    → v.mirror.objects ≡ before ++ later → AreBefore wanted before → bytes ≡ lines_from later v.mirror
    → (h : HasSide wanted bytes (Some Less)) → StandsAt wanted v h.after
passed_by wanted v version is before [] bytes parts passed text h =
    absurd (let bad : ◌≡◌ {A = Option Ordering} (Some Less) (Some Greater) = none_first wanted v.mirror bytes (Some Less) text h in cc)
passed_by wanted v version is before (c ∷ cs) bytes parts passed text h =
    let objects : AllByRecursion IsObject (c ∷ cs) = objects_later version v before (c ∷ cs) is parts in
    let own : IsOwn wanted v.mirror c cs h.line h.after (Some Less) = own_first wanted v.mirror c cs bytes (Some Less) objects.0 text h in
    record {
      version = version;
      savable = is;
      before = before ++ c ∷ [];
      later = cs;
      parts = parts ∙ sym (append_assoc before (c ∷ []) cs);
      passed = all_append (λ (d : ChangeValue). side_at wanted d.key ≡ Less) before (c ∷ []) passed
          (sym (same_Some Less (side_at wanted c.key) own.side_is), tt);
      lines = own.after_is;
    }

pub line_passed : (wanted : Wanted) (v : Saved) (bytes : List ℕ) → StandsAt wanted v bytes → (h : HasSide wanted bytes (Some Less))
    → StandsAt wanted v h.after
line_passed wanted v bytes s h = passed_by wanted v s.version s.savable s.before s.later bytes s.parts s.passed s.lines h

-- ---- a line with no key, or no line

keyless : (wanted : Wanted) (v : Saved) (version : Version) (is : IsSavable version v) (before later : List ChangeValue) (bytes : List ℕ)
    → v.mirror.objects ≡ before ++ later → bytes ≡ lines_from later v.mirror → HasSide wanted bytes None → ⊥
keyless wanted v version is before [] bytes parts text h =
    absurd (let bad : ◌≡◌ {A = Option Ordering} None (Some Greater) = none_first wanted v.mirror bytes None text h in cc)
keyless wanted v version is before (c ∷ cs) bytes parts text h =
    let objects : AllByRecursion IsObject (c ∷ cs) = objects_later version v before (c ∷ cs) is parts in
    let own : IsOwn wanted v.mirror c cs h.line h.after None = own_first wanted v.mirror c cs bytes None objects.0 text h in
    let bad : ◌≡◌ {A = Option Ordering} None (Some (side_at wanted c.key)) = own.side_is in
    cc

pub no_keyless : (wanted : Wanted) (v : Saved) (bytes : List ℕ) → StandsAt wanted v bytes → HasSide wanted bytes None → ⊥
no_keyless wanted v bytes s h = keyless wanted v s.version s.savable s.before s.later bytes s.parts s.lines h

uncut : (v : Saved) (version : Version) (is : IsSavable version v) (before later : List ChangeValue) (bytes : List ℕ)
    → v.mirror.objects ≡ before ++ later → bytes ≡ lines_from later v.mirror → cut_at 10 bytes ≡ None → ⊥
uncut v version is before [] bytes parts text none =
    let all = lines_after_are version v is in
    let first : List ℕ = codes "users " ++ decimal (length v.mirror.users) in
    let others : List (List ℕ) = (map count_text v.mirror.users ++ list_lines (codes "changesets ") count_text v.mirror.changesets) ++ codes "end" ∷ [] in
    let cut : cut_at 10 bytes ≡ Some (first, ended others) = ap (cut_at 10) text ∙ cut_again 10 first (ended others) all.0.lacks in
    let bad : ◌≡◌ {A = Option (List ℕ × List ℕ)} None (Some (first, ended others)) = sym none ∙ cut in
    cc
uncut v version is before (c ∷ cs) bytes parts text none =
    let objects : AllByRecursion IsObject (c ∷ cs) = objects_later version v before (c ∷ cs) is parts in
    let cut : cut_at 10 bytes ≡ Some (line_text c, lines_from cs v.mirror) =
    ap (cut_at 10) text ∙ cut_again 10 (line_text c) (lines_from cs v.mirror) (object_lacks c objects.0) in
    let bad : ◌≡◌ {A = Option (List ℕ × List ℕ)} None (Some (line_text c, lines_from cs v.mirror)) = sym none ∙ cut in
    cc

pub no_uncut : (wanted : Wanted) (v : Saved) (bytes : List ℕ) → StandsAt wanted v bytes → cut_at 10 bytes ≡ None → ⊥
no_uncut wanted v bytes s none = uncut v s.version s.savable s.before s.later bytes s.parts s.lines none

no_empty : (bytes : List ℕ) → length bytes ≡ 0 → cut_at 10 bytes ≡ None
no_empty [] e = uncut_again 10 [] tt
no_empty (b ∷ bs) e = absurd (omega (arith, e))

-- there are more bytes
pub stands_within : (wanted : Wanted) (v : Saved) (file : List ℕ) (place : ℕ) → StandsAt wanted v (drop place file) → length file ≤ place → ⊥
stands_within wanted v file place s past =
    let none = length-drop place file in
    no_uncut wanted v (drop place file) s (no_empty (drop place file) (omega (arith, none, past)))

-- ---- a place that was jumped to

side_before : (wanted : Wanted) (a b : Key) → key_cmp a b ≡ Less → side_at wanted b ≢ Greater → side_at wanted a ≡ Less
side_before Counts a b less other = refl
side_before (Object k) a b less other = by_order (key_cmp b k) refl
  where
    by_order : (o : Ordering) → key_cmp b k ≡ o → key_cmp a k ≡ Less
    by_order Less e = keys_total.trans a b k less e
    by_order Equal e = subst (λ (q : Key). key_cmp a q ≡ Less) (one_key b k e) less
    by_order Greater e = absurd (other e)

below_all : (k : Key) (before : List ChangeValue) (c : ChangeValue) (cs : List ChangeValue)
    → AllByRecursion (λ y. key_cmp k y ≡ Less) (map (λ (d : ChangeValue). d.key) (before ++ c ∷ cs)) → key_cmp k c.key ≡ Less
below_all k [] c cs all = all.0
below_all k (d ∷ before) c cs all = below_all k before c cs all.1

all_before : (wanted : Wanted) (before : List ChangeValue) (c : ChangeValue) (cs : List ChangeValue)
    → IsStrictlySortedBy key_cmp (map (λ (d : ChangeValue). d.key) (before ++ c ∷ cs)) → side_at wanted c.key ≢ Greater → AreBefore wanted before
unfolding IsStrictlySortedBy
all_before wanted [] c cs sorted other = tt
all_before wanted (d ∷ before) c cs sorted other =
    (side_before wanted d.key c.key (below_all d.key before c cs sorted.0) other, all_before wanted before c cs sorted.1 other)

stands_among : (wanted : Wanted) (v : Saved) (version : Version) (is : IsSavable version v) (before later : List ChangeValue) (bytes : List ℕ)
    (side : Option Ordering) → v.mirror.objects ≡ before ++ later → bytes ≡ lines_from later v.mirror → HasSide wanted bytes side
    → (side ≡ Some Greater → ⊥) → StandsAt wanted v bytes
stands_among wanted v version is before [] bytes side parts text h other = absurd (other (none_first wanted v.mirror bytes side text h))
stands_among wanted v version is before (c ∷ cs) bytes side parts text h other =
    let objects : AllByRecursion IsObject (c ∷ cs) = objects_later version v before (c ∷ cs) is parts in
    let own : IsOwn wanted v.mirror c cs h.line h.after side = own_first wanted v.mirror c cs bytes side objects.0 text h in
    let rising : AreRising (before ++ c ∷ cs) = subst AreRising parts is.mirror.orderly.objects in
    record {
      version = version;
      savable = is;
      before = before;
      later = c ∷ cs;
      parts = parts;
      passed = all_before wanted before c cs rising (λ e. other (own.side_is ∙ ap (λ (o : Ordering). Some o) e));
      lines = text;
    }

pub dropped : (file : List ℕ) (start from : ℕ) → start ≤ from → drop (from - start) (drop start file) ≡ drop from file
dropped file start from above =
    let sum : start + (from - start) ≡ from = omega (arith, above) in
    drop-drop (from - start) start file ∙ ap (λ (n : ℕ). drop n file) sum

-- the lines from a place on, before which there is an LF
pub split_there : (file : List ℕ) (start : ℕ) (v : Saved) (from place : ℕ) (skipped : List ℕ) → HasLines file start v → start ≤ from
    → drop from file ≡ skipped ++ 10 ∷ drop place file → IsSplit (map line_text v.mirror.objects ++ lines_after v.mirror) (drop place file)
split_there file start v from place skipped has above parts =
    let lines : List (List ℕ) = map line_text v.mirror.objects ++ lines_after v.mirror in
    let skip : ℕ = from - start in
    let front : List ℕ = take skip (drop start file) in
    let rest : List ℕ = drop place file in
    let left : drop skip (drop start file) ≡ skipped ++ 10 ∷ rest = dropped file start from above ∙ parts in
    let text : ended lines ≡ (front ++ skipped) ++ 10 ∷ rest =
    sym has.lines ∙ (sym (take-append-drop skip (drop start file))
    ∙ (ap (λ (l : List ℕ). front ++ l) left ∙ sym (append_assoc front skipped (10 ∷ rest)))) in
    lines_split lines (front ++ skipped) rest (all_lack has.spells.version v has.spells.savable) text

-- such a place has a line unless nothing is left
pub split_cut : (v : Saved) (version : Version) (is : IsSavable version v) (file : List ℕ) (place : ℕ)
    → IsSplit (map line_text v.mirror.objects ++ lines_after v.mirror) (drop place file) → place < length file → cut_at 10 (drop place file) ≢ None
split_cut v version is file place s within =
    by_later s.later (all_right (Lacks 10) s.earlier s.later (subst (AllByRecursion (Lacks 10)) s.parts (all_lack version v is))) s.text
  where
    by_later : (later : List (List ℕ)) → AllByRecursion (Lacks 10) later → drop place file ≡ ended later → cut_at 10 (drop place file) ≢ None
    by_later [] lacks text = λ none.
        (let size = ap length text in
        let left = length-drop place file in
        omega (arith, size, left, within))
    by_later (line ∷ more) lacks text = λ none.
        (let cut : cut_at 10 (drop place file) ≡ Some (line, ended more) = ap (cut_at 10) text ∙ cut_again 10 line (ended more) lacks.0 in
        let bad : ◌≡◌ {A = Option (List ℕ × List ℕ)} None (Some (line, ended more)) = sym none ∙ cut in
        cc)

-- a line that doesn't lie after what is wanted
pub jumps : (wanted : Wanted) (file : List ℕ) (start : ℕ) (v : Saved) (from place : ℕ) (side : Option Ordering) → HasLines file start v
    → start ≤ from → IsProbed wanted file from place side → (side ≡ Some Greater → ⊥) → StandsAt wanted v (drop place file)
jumps wanted file start v from place side has above probed other =
    let s = split_there file start v from place probed.skipped has above probed.parts in
    let h = probed.lies.has (split_cut v has.spells.version has.spells.savable file place s probed.lies.within) in
    by_case h has.spells.savable s (among_or_past v.mirror.objects (lines_after v.mirror) s.earlier s.later s.parts)
  where
    by_case : HasSide wanted (drop place file) side → IsSavable has.spells.version v
        → (s : IsSplit (map line_text v.mirror.objects ++ lines_after v.mirror) (drop place file))
        → IsAmong v.mirror.objects (lines_after v.mirror) s.later ⊎ IsPast (lines_after v.mirror) s.later → StandsAt wanted v (drop place file)
    by_case h is s (inl a) =
        stands_among wanted v has.spells.version is a.before a.left (drop place file) side a.parts (s.text ∙ ap ended a.lines) h other
    by_case h is s (inr p) =
        absurd (other (past_greater wanted s.later (drop place file) side
        (all_right _ p.earlier s.later (subst (AllByRecursion _) p.parts (lines_after_are has.spells.version v is))) s.text h))

-- ---- the line that was found

first_by : (wanted : Wanted) (v : Saved) (version : Version) (is : IsSavable version v) (before later : List ChangeValue) (bytes : List ℕ)
    (side : Ordering) (line : List ℕ) (is_there : Bool) → v.mirror.objects ≡ before ++ later → bytes ≡ lines_from later v.mirror
    → (h : HasSide wanted bytes (Some side)) → side ≢ Less → (side ≡ Equal → line ≡ h.line) → is_there ≡ is_eq side → IsFirst wanted later line is_there
first_by wanted v version is before [] bytes side line is_there parts text h other own flag =
    let after : side ≡ Greater = same_Some side Greater (none_first wanted v.mirror bytes (Some side) text h) in
    subst (λ (b : Bool). IsFirst wanted [] line b) (sym (flag ∙ ap is_eq after)) tt
first_by wanted v version is before (c ∷ cs) bytes side line is_there parts text h other own flag =
    let objects : AllByRecursion IsObject (c ∷ cs) = objects_later version v before (c ∷ cs) is parts in
    let o : IsOwn wanted v.mirror c cs h.line h.after (Some side) = own_first wanted v.mirror c cs bytes (Some side) objects.0 text h in
    by_side side refl (same_Some side (side_at wanted c.key) o.side_is) (λ e. own e ∙ o.line_is)
  where
    by_side : (s : Ordering) → side ≡ s → side ≡ side_at wanted c.key → (side ≡ Equal → line ≡ line_text c) → IsFirst wanted (c ∷ cs) line is_there
    by_side Less e at is_line = absurd (other e)
    by_side Equal e at is_line =
        subst (λ (b : Bool). IsFirst wanted (c ∷ cs) line b) (sym (flag ∙ ap is_eq e)) (sym at ∙ e, is_line e)
    by_side Greater e at is_line = subst (λ (b : Bool). IsFirst wanted (c ∷ cs) line b) (sym (flag ∙ ap is_eq e)) (sym at ∙ e)

pub first_is : (wanted : Wanted) (v : Saved) (bytes : List ℕ) (side : Ordering) (line : List ℕ) (is_there : Bool) → (s : StandsAt wanted v bytes)
    → (h : HasSide wanted bytes (Some side)) → side ≢ Less → (side ≡ Equal → line ≡ h.line) → is_there ≡ is_eq side
    → IsFirst wanted s.later line is_there
first_is wanted v bytes side line is_there s h other own flag =
    first_by wanted v s.version s.savable s.before s.later bytes side line is_there s.parts s.lines h other own flag

-- ---- the object that was looked for

skips : (k : Key) (before later : List ChangeValue) → AreBefore (Object k) before → object_at (before ++ later) k ≡ object_at later k
skips k [] later passed = refl
skips k (c ∷ before) later passed =
    let other : same_key k c.key ≡ false = ap is_eq (turned c.key k Less passed.0) in
    rw other (skips k before later passed.1)

none_above : (k : Key) (cs : List ChangeValue) → AllByRecursion (λ y. key_cmp k y ≡ Less) (map (λ (d : ChangeValue). d.key) cs) → object_at cs k ≡ None
none_above k [] all = refl
none_above k (c ∷ cs) all =
    let other : same_key k c.key ≡ false = ap is_eq all.0 in
    rw other (none_above k cs all.1)

all_above : (k q : Key) (ks : List Key) → key_cmp k q ≡ Less → AllByRecursion (λ y. key_cmp q y ≡ Less) ks → AllByRecursion (λ y. key_cmp k y ≡ Less) ks
all_above k q [] less all = tt
all_above k q (p ∷ ks) less all = (keys_total.trans k q p less all.0, all_above k q ks less all.1)

sorted_later : (before later : List ChangeValue) → IsStrictlySortedBy key_cmp (map (λ (d : ChangeValue). d.key) (before ++ later))
    → IsStrictlySortedBy key_cmp (map (λ (d : ChangeValue). d.key) later)
unfolding IsStrictlySortedBy
sorted_later [] later sorted = sorted
sorted_later (c ∷ before) later sorted = sorted_later before later sorted.1

found_in : (k : Key) (later : List ChangeValue) (line : List ℕ) → IsFirst (Object k) later line true
    → (c : ChangeValue) × (object_at later k ≡ Some c) × (line ≡ line_text c)
found_in k [] line first = absurd first
found_in k (c ∷ cs) line first =
    let same : same_key k c.key ≡ true = ap is_eq (turned c.key k Equal first.0) in
    (c, rw same refl, first.1)

absent_in : (k : Key) (later : List ChangeValue) (line : List ℕ) → IsStrictlySortedBy key_cmp (map (λ (d : ChangeValue). d.key) later)
    → IsFirst (Object k) later line false → object_at later k ≡ None
unfolding IsStrictlySortedBy
absent_in k [] line sorted first = refl
absent_in k (c ∷ cs) line sorted first =
    let less : key_cmp k c.key ≡ Less = turned c.key k Greater first in
    none_above k (c ∷ cs) (less, all_above k c.key (map (λ (d : ChangeValue). d.key) cs) less sorted.0)

-- its line is that of the object with that key
pub found_object : (k : Key) (v : Saved) (bytes line : List ℕ) → (s : StandsAt (Object k) v bytes) → IsFirst (Object k) s.later line true
    → (c : ChangeValue) × (object_at v.mirror.objects k ≡ Some c) × (line ≡ line_text c)
found_object k v bytes line s first =
    let f = found_in k s.later line first in
    (f.0, ap (λ (cs : List ChangeValue). object_at cs k) s.parts ∙ (skips k s.before s.later s.passed ∙ f.1), f.2)

-- or there is none with that key
pub absent_object : (k : Key) (v : Saved) (bytes line : List ℕ) → (s : StandsAt (Object k) v bytes) → IsFirst (Object k) s.later line false
    → object_at v.mirror.objects k ≡ None
absent_object k v bytes line s first =
    let rising : AreRising (s.before ++ s.later) = subst AreRising s.parts s.savable.mirror.orderly.objects in
    ap (λ (cs : List ChangeValue). object_at cs k) s.parts ∙ (skips k s.before s.later s.passed
    ∙ absent_in k s.later line (sorted_later s.before s.later rising) first)
