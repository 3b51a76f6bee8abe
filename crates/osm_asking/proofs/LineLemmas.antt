-- The lines of a save text.
use Rattle.std.proofs.Common.{
  ◌≡◌,
  ◌⊎◌,
  inl,
  inr,
  ℕ,
  ◌<◌,
  ◌≤◌,
  ◌^◌,
  List,
  [],
  ◌∷◌,
  ◌++◌,
  length,
  map,
  get_or,
  refl,
  sym,
  ap,
  ◌∙◌,
  subst,
  Option,
  Some,
  None,
  arith,
  append_assoc,
  lit≤,
}
use Rattle.std.specs.Prelude.{codes, decimal}
use Rattle.std.specs.List.{AllByRecursion}
use Rattle.std.specs.Char.{digit_value}
use Rattle.std.proofs.lemmas.Fmt.{decimal_is_IsNumeral}
use Rattle.std.proofs.lemmas.Option.{same_Some}
use Rattle.std.specs.declared.cmp.Ordering.{Ordering}
use Rattle.std.specs.declared.cmp.Ordering.TheVariants.{Greater}
use Rattle.osm_model.specs.Change.{ChangeValue}
use Rattle.osm_mirror.specs.Mirror.{Counted, IsObject, MirrorValue}
use Rattle.osm_opl.specs.Written.{line_text}
use Rattle.osm_opl.proofs.LineLaws.{line_lacks}
use Rattle.osm_opl.proofs.ListLaws.{line_feed}
use Rattle.osm_opl.proofs.NumberLaws.{digits_lack}
use Rattle.osm_opl.proofs.RoundTrip.{line_spells}
use Rattle.osm_reading.specs.Pieces.{Lacks, cut_at}
use Rattle.osm_reading.proofs.PieceLemmas.{cut_again, cut_lacks, cut_takes, lacks_append, uncut_again}
use Rattle.osm_save.specs.Lines.{ended, list_lines}
use Rattle.osm_save.specs.Head.{head_of, most_counted}
use Rattle.osm_save.specs.Save.{IsSavable, count_text}
use Rattle.osm_save.specs.declared.save.Saved.{Saved}
use Rattle.osm_save.specs.declared.version.Version.{Version}
use Rattle.osm_save.proofs.LineLemmas.{lacks_by}
use Rattle.osm_save.proofs.MirrorLemmas.{IsCountWithin, each_within}
use Rattle.osm_save.proofs.NumberLemmas.{decimal_lacks}
use Rattle.osm_asking.specs.Finding.{side_at}
use Rattle.osm_asking.specs.Lines.{lines_after, lines_from}
use Rattle.osm_asking.specs.Steps.Passing.{HasSide, IsOther}
use Rattle.osm_asking.specs.declared.side.Wanted.{Wanted}
use Rattle.osm_kept.proofs.BatchLemmas.{all_append}

-- ---- cutting lines

-- what follows the bytes leaves their first line
pub cut_more : (bytes tail line after : List ℕ) → cut_at 10 bytes ≡ Some (line, after) → cut_at 10 (bytes ++ tail) ≡ Some (line, after ++ tail)
cut_more bytes tail line after e =
    ap (cut_at 10) (ap (λ (l : List ℕ). l ++ tail) (cut_takes 10 bytes line after e) ∙ append_assoc line (10 ∷ after) tail)
    ∙ cut_again 10 line (after ++ tail) (cut_lacks 10 bytes line after e)

pub side_more : (wanted : Wanted) (bytes tail : List ℕ) (side : Option Ordering) → HasSide wanted bytes side → HasSide wanted (bytes ++ tail) side
side_more wanted bytes tail side h =
    record { line = h.line; after = h.after ++ tail; cut = cut_more bytes tail h.line h.after h.cut; is = h.is }

same_first : (a b : List ℕ × List ℕ) → a ≡ b → a.0 ≡ b.0
same_first a b e = ap (λ (p : List ℕ × List ℕ). p.0) e

same_second : (a b : List ℕ × List ℕ) → a ≡ b → a.1 ≡ b.1
same_second a b e = ap (λ (p : List ℕ × List ℕ). p.1) e

-- ---- the first line of some

pub object_lacks : (c : ChangeValue) → IsObject c → Lacks 10 (line_text c)
object_lacks c is = line_lacks 10 line_feed (line_text c) c (λ e. omega (arith, e)) (line_spells c is.limits)

pub record IsOwn (wanted : Wanted) (m : MirrorValue) (c : ChangeValue) (cs : List ChangeValue) (line after : List ℕ) (side : Option Ordering) : Type 0 where
  pub line_is : line ≡ line_text c
  pub after_is : after ≡ lines_from cs m
  pub side_is : side ≡ Some (side_at wanted c.key)

-- that of the first object
pub own_first : (wanted : Wanted) (m : MirrorValue) (c : ChangeValue) (cs : List ChangeValue) (bytes : List ℕ) (side : Option Ordering)
    → IsObject c → bytes ≡ lines_from (c ∷ cs) m → (h : HasSide wanted bytes side) → IsOwn wanted m c cs h.line h.after side
own_first wanted m c cs bytes side is e h =
    let cut : cut_at 10 bytes ≡ Some (line_text c, lines_from cs m) =
    ap (cut_at 10) e ∙ cut_again 10 (line_text c) (lines_from cs m) (object_lacks c is) in
    let same : (h.line, h.after) ≡ (line_text c, lines_from cs m) =
    same_Some (h.line, h.after) (line_text c, lines_from cs m) (sym h.cut ∙ cut) in
    let line : h.line ≡ line_text c = same_first (h.line, h.after) (line_text c, lines_from cs m) same in
    record {
      line_is = line;
      after_is = same_second (h.line, h.after) (line_text c, lines_from cs m) same;
      side_is = h.is.own c is line;
    }

other_line : (line after rest : List ℕ) → 117 ∷ rest ≡ line ++ 10 ∷ after → IsOther line
other_line [] after rest e = tt
other_line (b ∷ bs) after rest e =
    let b_is : 117 ≡ b = ap (λ (l : List ℕ). get_or l 0 0) e in
    ((λ x. omega (arith, b_is, x)), (λ x. omega (arith, b_is, x)), (λ x. omega (arith, b_is, x)))

-- the line after the objects begins with `u`
pub none_first : (wanted : Wanted) (m : MirrorValue) (bytes : List ℕ) (side : Option Ordering) → bytes ≡ lines_from [] m → HasSide wanted bytes side
    → side ≡ Some Greater
none_first wanted m bytes side e h = h.is.other (other_line h.line h.after _ (sym e ∙ cut_takes 10 bytes h.line h.after h.cut))

-- ---- a line that begins after an LF

-- an LF after a line that has none is its end, or comes later
split_first : (line rest before after : List ℕ) → Lacks 10 line → line ++ 10 ∷ rest ≡ before ++ 10 ∷ after
    → (after ≡ rest) ⊎ ((more : List ℕ) × (rest ≡ more ++ 10 ∷ after))
split_first [] rest [] after lacks e = inl (sym (tail_same e))
  where
    tail_same : 10 ∷ rest ≡ 10 ∷ after → rest ≡ after
    tail_same x = cc
split_first [] rest (b ∷ before) after lacks e = inr (before, tail_same e)
  where
    tail_same : 10 ∷ rest ≡ b ∷ (before ++ 10 ∷ after) → rest ≡ before ++ 10 ∷ after
    tail_same x = cc
split_first (b ∷ line) rest [] after lacks e = absurd (lacks.0 (ap (λ (l : List ℕ). get_or l 0 0) e))
split_first (b ∷ line) rest (d ∷ before) after lacks e = split_first line rest before after lacks.1 (tail_same e)
  where
    tail_same : b ∷ (line ++ 10 ∷ rest) ≡ d ∷ (before ++ 10 ∷ after) → line ++ 10 ∷ rest ≡ before ++ 10 ∷ after
    tail_same x = cc

pub record IsSplit (lines : List (List ℕ)) (rest : List ℕ) : Type 0 where
  pub earlier : List (List ℕ)
  pub later : List (List ℕ)
  pub parts : lines ≡ earlier ++ later
  pub text : rest ≡ ended later

-- after an LF a line begins, or nothing is left
pub lines_split : (lines : List (List ℕ)) (before rest : List ℕ) → AllByRecursion (Lacks 10) lines → ended lines ≡ before ++ 10 ∷ rest
    → IsSplit lines rest
lines_split [] [] rest lacks e = absurd (let bad : length (ended []) ≡ length (10 ∷ rest) = ap length e in omega (arith, bad))
lines_split [] (b ∷ before) rest lacks e =
    absurd (let bad : length (ended []) ≡ length (b ∷ (before ++ 10 ∷ rest)) = ap length e in omega (arith, bad))
lines_split (line ∷ lines) before rest lacks e =
    by_case (split_first line (ended lines) before rest lacks.0 e) (λ more is. lines_split lines more rest lacks.1 is)
  where
    further : IsSplit lines rest → IsSplit (line ∷ lines) rest
    further s = record { earlier = line ∷ s.earlier; later = s.later; parts = ap (λ (l : List (List ℕ)). line ∷ l) s.parts; text = s.text }

    by_case : (rest ≡ ended lines) ⊎ ((more : List ℕ) × (ended lines ≡ more ++ 10 ∷ rest))
        → ((more : List ℕ) → ended lines ≡ more ++ 10 ∷ rest → IsSplit lines rest) → IsSplit (line ∷ lines) rest
    by_case (inl same) later = record { earlier = line ∷ []; later = lines; parts = refl; text = same }
    by_case (inr more) later = further (later more.0 more.1)

-- ---- which lines those are

pub record IsAmong (objects : List ChangeValue) (others later : List (List ℕ)) : Type 0 where
  pub before : List ChangeValue
  pub left : List ChangeValue
  pub parts : objects ≡ before ++ left
  pub lines : later ≡ map line_text left ++ others

pub record IsPast (others later : List (List ℕ)) : Type 0 where
  pub earlier : List (List ℕ)
  pub parts : others ≡ earlier ++ later

-- they begin among those of the objects, or after them
pub among_or_past : (objects : List ChangeValue) (others earlier later : List (List ℕ)) → map line_text objects ++ others ≡ earlier ++ later
    → IsAmong objects others later ⊎ IsPast others later
among_or_past objects others [] later e = inl (record { before = []; left = objects; parts = refl; lines = sym e })
among_or_past [] others (line ∷ earlier) later e = inr (record { earlier = line ∷ earlier; parts = e })
among_or_past (c ∷ cs) others (line ∷ earlier) later e = by_case (among_or_past cs others earlier later (tail_same e))
  where
    tail_same : line_text c ∷ (map line_text cs ++ others) ≡ line ∷ (earlier ++ later) → map line_text cs ++ others ≡ earlier ++ later
    tail_same x = cc

    by_case : IsAmong cs others later ⊎ IsPast others later → IsAmong (c ∷ cs) others later ⊎ IsPast others later
    by_case (inl a) = inl (record { before = c ∷ a.before; left = a.left; parts = ap (λ (l : List ChangeValue). c ∷ l) a.parts; lines = a.lines })
    by_case (inr p) = inr p

-- ---- the lines after the objects

-- such a line begins with no letter of a kind, and has no LF
pub record IsCountLine (line : List ℕ) : Type 0 where
  pub other : IsOther line
  pub lacks : Lacks 10 line

no_letter : (s : ℕ) → (s ≡ 110) ⊎ (s ≡ 119) ⊎ (s ≡ 114) → 10 ≤ digit_value s
no_letter s (inl e) = rw e (lit≤ tt)
no_letter s (inr (inl e)) = rw e (lit≤ tt)
no_letter s (inr (inr e)) = rw e (lit≤ tt)

decimal_no_letter : (s n : ℕ) → (s ≡ 110) ⊎ (s ≡ 119) ⊎ (s ≡ 114) → n < 1000000000000000000 → Lacks s (decimal n)
decimal_no_letter s n letter small =
    let numeral = decimal_is_IsNumeral n (omega arith) in
    digits_lack 10 s (decimal n) (no_letter s letter) numeral.0.1

other_before : (text rest : List ℕ) → Lacks 110 text → Lacks 119 text → Lacks 114 text → IsOther (text ++ 32 ∷ rest)
other_before [] rest n w r = ((λ e. omega (arith, e)), (λ e. omega (arith, e)), (λ e. omega (arith, e)))
other_before (b ∷ text) rest n w r = (n.0, w.0, r.0)

count_line : (most : ℕ) (e : Counted) → most < 1000000000000000000 → IsCountWithin most e → IsCountLine (count_text e)
count_line most e small good =
    let fits : e.0 < 2 ^ 32 = good.number.high in
    let few : e.1 ≤ most = good.few in
    let low : e.0 < 1000000000000000000 = omega (arith, fits) in
    let count : e.1 < 1000000000000000000 = omega (arith, few, small) in
    record {
      other = other_before (decimal e.0) (decimal e.1) (decimal_no_letter 110 e.0 (inl refl) low) (decimal_no_letter 119 e.0 (inr (inl refl)) low)
          (decimal_no_letter 114 e.0 (inr (inr refl)) low);
      lacks = lacks_append 10 (decimal e.0) (32 ∷ decimal e.1) (decimal_lacks 10 e.0 (omega arith) low)
          ((λ x. omega (arith, x)), decimal_lacks 10 e.1 (omega arith) count);
    }

count_lines : (most : ℕ) (es : List Counted) → most < 1000000000000000000 → AllByRecursion (IsCountWithin most) es
    → AllByRecursion IsCountLine (map count_text es)
count_lines most [] small good = tt
count_lines most (e ∷ es) small good = (count_line most e small good.0, count_lines most es small good.1)

pub all_right : {X : Type 0} (P : X → Type 0) (xs ys : List X) → AllByRecursion P (xs ++ ys) → AllByRecursion P ys
all_right P [] ys a = a
all_right P (x ∷ xs) ys a = all_right P xs ys a.1

users_line : (n : ℕ) → n < 1000000000000000000 → IsCountLine (codes "users " ++ decimal n)
users_line n small = record {
  other = ((λ e. omega (arith, e)), (λ e. omega (arith, e)), (λ e. omega (arith, e)));
  lacks = lacks_append 10 (codes "users ") (decimal n) (lacks_by 10 (codes "users ") refl) (decimal_lacks 10 n (omega arith) small);
}

changesets_line : (n : ℕ) → n < 1000000000000000000 → IsCountLine (codes "changesets " ++ decimal n)
changesets_line n small = record {
  other = ((λ e. omega (arith, e)), (λ e. omega (arith, e)), (λ e. omega (arith, e)));
  lacks = lacks_append 10 (codes "changesets ") (decimal n) (lacks_by 10 (codes "changesets ") refl) (decimal_lacks 10 n (omega arith) small);
}

end_line : IsCountLine (codes "end")
end_line = record {
  other = ((λ e. omega (arith, e)), (λ e. omega (arith, e)), (λ e. omega (arith, e)));
  lacks = lacks_by 10 (codes "end") refl;
}

pub small_counted : (version : Version) (v : Saved) → IsSavable version v → most_counted (head_of v) < 1000000000000000000
small_counted version v is = let few = is.head.number in omega (arith, few)

pub lines_after_are : (version : Version) (v : Saved) → IsSavable version v → AllByRecursion IsCountLine (lines_after v.mirror)
lines_after_are version v is =
    let small = small_counted version v is in
    let most : ℕ = most_counted (head_of v) in
    let many = is.within.users in
    let more = is.within.changesets in
    let users = is.mirror.orderly.users in
    let changesets = is.mirror.orderly.changesets in
    let users_are = count_lines most v.mirror.users small
    (each_within most v.mirror.users users.rising is.mirror.users users.above is.within.user_counts) in
    let changesets_are = count_lines most v.mirror.changesets small
    (each_within most v.mirror.changesets changesets.rising is.mirror.changesets changesets.above is.within.changeset_counts) in
    let some : AllByRecursion IsCountLine (list_lines (codes "users ") count_text v.mirror.users) =
    (users_line (length v.mirror.users) (omega (arith, many, small)), users_are) in
    let others : AllByRecursion IsCountLine (list_lines (codes "changesets ") count_text v.mirror.changesets) =
    (changesets_line (length v.mirror.changesets) (omega (arith, more, small)), changesets_are) in
    let last : AllByRecursion IsCountLine (codes "end" ∷ []) = (end_line, tt) in
    all_append IsCountLine (list_lines (codes "users ") count_text v.mirror.users ++ list_lines (codes "changesets ") count_text v.mirror.changesets)
    (codes "end" ∷ [])
    (all_append IsCountLine (list_lines (codes "users ") count_text v.mirror.users)
    (list_lines (codes "changesets ") count_text v.mirror.changesets) some others)
    last

lacking : (lines : List (List ℕ)) → AllByRecursion IsCountLine lines → AllByRecursion (Lacks 10) lines
lacking [] all = tt
lacking (line ∷ lines) all = (all.0.lacks, lacking lines all.1)

objects_lacking : (cs : List ChangeValue) → AllByRecursion IsObject cs → AllByRecursion (Lacks 10) (map line_text cs)
objects_lacking [] all = tt
objects_lacking (c ∷ cs) all = (object_lacks c all.0, objects_lacking cs all.1)

-- no line has an LF
pub all_lack : (version : Version) (v : Saved) → IsSavable version v
    → AllByRecursion (Lacks 10) (map line_text v.mirror.objects ++ lines_after v.mirror)
all_lack version v is = all_append (Lacks 10) (map line_text v.mirror.objects) (lines_after v.mirror)
    (objects_lacking v.mirror.objects is.mirror.objects) (lacking (lines_after v.mirror) (lines_after_are version v is))

-- a line after the objects lies after what is wanted
pub past_greater : (wanted : Wanted) (later : List (List ℕ)) (bytes : List ℕ) (side : Option Ordering) → AllByRecursion IsCountLine later
    → bytes ≡ ended later → HasSide wanted bytes side → side ≡ Some Greater
past_greater wanted [] bytes side all e h = absurd (let bad : ◌≡◌ {A = Option (List ℕ × List ℕ)} None (Some (h.line, h.after)) = sym
    (uncut_again 10 [] tt) ∙ (sym (ap (cut_at 10) e) ∙ h.cut) in cc)
past_greater wanted (line ∷ lines) bytes side all e h =
    let cut : cut_at 10 bytes ≡ Some (line, ended lines) = ap (cut_at 10) e ∙ cut_again 10 line (ended lines) all.0.lacks in
    let same : (h.line, h.after) ≡ (line, ended lines) = same_Some (h.line, h.after) (line, ended lines) (sym h.cut ∙ cut) in
    h.is.other (subst IsOther (sym (same_first (h.line, h.after) (line, ended lines) same)) all.0.other)
