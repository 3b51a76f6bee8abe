-- Consecutive lines.
use Rattle.std.proofs.Common.{◌≡◌, ℕ, List, [], ◌∷◌, ◌++◌, length, map, refl, ap, sym, ◌∙◌}
use Rattle.std.proofs.lemmas.List.{append_assoc, map-append}
use Rattle.std.specs.Prelude.{codes, decimal}
use Rattle.std.specs.List.{flat_map}
use Rattle.osm_opl.specs.Written.{line_text}
use Rattle.osm_mirror.specs.Mirror.{Counted, MirrorValue}
use Rattle.osm_reading.specs.NumberLines.{count_line}
use Rattle.osm_save.specs.Head.{head_lines, head_of}
use Rattle.osm_save.specs.Lines.{ended, list_lines}
use Rattle.osm_save.specs.Save.{count_text, save_lines, save_text}
use Rattle.osm_save.specs.Shown.{counts_text}
use Rattle.osm_save.specs.declared.save.Saved.{Saved}
use Rattle.osm_save.specs.declared.version.Version.{Version}

pub ended-append : (a b : List (List ℕ)) → ended (a ++ b) ≡ ended a ++ ended b
ended-append [] b = refl
ended-append (l ∷ a) b = rw (ended-append a b) (sym (append_assoc l (10 ∷ ended a) (ended b)))

-- one more line
pub ended_more : {X : Type 0} (text : X → List ℕ) (old next : List ℕ) (xs : List X) (x : X)
    → next ≡ (old ++ ended (map text xs)) ++ ended (text x ∷ []) → next ≡ old ++ ended (map text (xs ++ x ∷ []))
ended_more text old next xs x e = e ∙ (append_assoc old (ended (map text xs)) (ended (text x ∷ []))
    ∙ ap (λ (l : List ℕ). old ++ l) (sym (ended-append (map text xs) (text x ∷ []))
    ∙ ap ended (sym (map-append text xs (x ∷ [])))))

-- more lines
pub lines_more : (old now next : List ℕ) (lines more : List (List ℕ)) → now ≡ old ++ ended lines → next ≡ now ++ ended more
    → next ≡ old ++ ended (lines ++ more)
lines_more old now next lines more p q = q ∙ (rw p (append_assoc old (ended lines) (ended more)
    ∙ ap (λ (l : List ℕ). old ++ l) (sym (ended-append lines more))))

count_lines_are : (cs : List Counted) → flat_map count_line cs ≡ ended (map count_text cs)
count_lines_are [] = refl
count_lines_are (c ∷ cs) = append_assoc (count_text c) (10 ∷ []) (flat_map count_line cs) ∙ ap (λ (l : List ℕ). count_text c ++ 10 ∷ l) (count_lines_are cs)

-- a list of counts is the same in a show text
pub counts_written : (word old new : List ℕ) (cs : List Counted) → new ≡ old ++ counts_text word cs → new ≡ old ++ ended (list_lines word count_text cs)
unfolding counts_text
counts_written word old new cs is = is ∙ ap (λ (l : List ℕ). old ++ l) (append_assoc (word ++ decimal (length cs)) (10 ∷ []) (flat_map count_line cs)
    ∙ ap (λ (l : List ℕ). (word ++ decimal (length cs)) ++ 10 ∷ l) (count_lines_are cs))

-- lines before other bytes
abbrev pub before : List (List ℕ) → List ℕ → List ℕ
before [] rest = rest
before (line ∷ lines) rest = line ++ 10 ∷ before lines rest

pub ended_before : (lines : List (List ℕ)) (rest : List ℕ) → ended lines ++ rest ≡ before lines rest
ended_before [] rest = refl
ended_before (line ∷ lines) rest =
    append_assoc line (10 ∷ ended lines) rest ∙ ap (λ (l : List ℕ). line ++ 10 ∷ l) (ended_before lines rest)

pub before-append : (a b : List (List ℕ)) (rest : List ℕ) → before (a ++ b) rest ≡ before a (before b rest)
before-append [] b rest = refl
before-append (line ∷ a) b rest = ap (λ (l : List ℕ). line ++ 10 ∷ l) (before-append a b rest)

-- the lists of a mirror, and `end`
abbrev pub mirror_text : MirrorValue → List ℕ
mirror_text m = ended (list_lines (codes "objects ") line_text m.objects)
    ++ (ended (list_lines (codes "users ") count_text m.users)
    ++ (ended (list_lines (codes "changesets ") count_text m.changesets) ++ (codes "end" ++ 10 ∷ [])))

joined_before : (a b : List (List ℕ)) (rest : List ℕ) → ended (a ++ b) ++ rest ≡ ended a ++ (ended b ++ rest)
joined_before a b rest = rw (ended-append a b) (append_assoc (ended a) (ended b) rest)

lists_joined : (h a b c d : List (List ℕ)) → ended (h ++ a ++ b ++ c ++ d) ≡ ended h
    ++ (ended a ++ (ended b ++ (ended c ++ ended d)))
lists_joined h a b c d =
    ended-append (h ++ a ++ b ++ c) d
    ∙ (joined_before (h ++ a ++ b) c (ended d)
    ∙ (joined_before (h ++ a) b (ended c ++ ended d) ∙ joined_before h a (ended b ++ (ended c ++ ended d))))

-- a save text, its head and then its lists
pub save_text_is : (version : Version) (v : Saved) → save_text version v ≡ before (head_lines version (head_of v) v.filter) (mirror_text v.mirror)
unfolding save_text save_lines
save_text_is version v =
    lists_joined (head_lines version (head_of v) v.filter) (list_lines (codes "objects ") line_text v.mirror.objects)
    (list_lines (codes "users ") count_text v.mirror.users)
    (list_lines (codes "changesets ") count_text v.mirror.changesets) (codes "end" ∷ [])
    ∙ ended_before (head_lines version (head_of v) v.filter) (mirror_text v.mirror)

-- what is written, part after part, is the save text
pub save_written : (version : Version) (v : Saved) (s o u c e : List ℕ) → s ≡ ended (head_lines version (head_of v) v.filter)
    → o ≡ s ++ ended (list_lines (codes "objects ") line_text v.mirror.objects)
    → u ≡ o ++ ended (list_lines (codes "users ") count_text v.mirror.users)
    → c ≡ u ++ ended (list_lines (codes "changesets ") count_text v.mirror.changesets) → e ≡ c ++ codes "end\n"
    → e ≡ save_text version v
unfolding save_text save_lines
save_written version v s o u c e p q r t w =
    let start : List (List ℕ) = head_lines version (head_of v) v.filter in
    let objects : List (List ℕ) = list_lines (codes "objects ") line_text v.mirror.objects in
    let users : List (List ℕ) = list_lines (codes "users ") count_text v.mirror.users in
    let changesets : List (List ℕ) = list_lines (codes "changesets ") count_text v.mirror.changesets in
    let one : o ≡ ended (start ++ objects) = lines_more [] s o start objects p q in
    let two : u ≡ ended (start ++ objects ++ users) = lines_more [] o u (start ++ objects) users one r in
    let three : c ≡ ended (start ++ objects ++ users ++ changesets) = lines_more [] u c (start ++ objects ++ users) changesets two t in
    lines_more [] c e (start ++ objects ++ users ++ changesets) (codes "end" ∷ []) three w
