-- The lists of a save text, as a show text has them.
use Rattle.std.proofs.Common.{◌≡◌, ℕ, zero, suc, ◌≤◌, List, [], ◌∷◌, ◌++◌, length, map, take, drop, Option, Some, None, refl, sym, ap, ◌∙◌, arith, lit≤}
use Rattle.std.proofs.Common.{append_assoc}
use Rattle.std.specs.Prelude.{codes, decimal}
use Rattle.std.specs.List.{flat_map}
use Rattle.std.proofs.lemmas.List.{take-append-drop}
use Rattle.std.proofs.lemmas.Option.{same_Some}
use Rattle.osm_blocks.specs.Places.{HasFile, max_block}
use Rattle.osm_mirror.specs.Mirror.{Counted, MirrorValue}
use Rattle.osm_model.specs.Change.{ChangeValue}
use Rattle.osm_model.specs.Filter.{FilterValue}
use Rattle.osm_opl.specs.Written.{line_text}
use Rattle.osm_save.specs.Head.{head_of}
use Rattle.osm_save.specs.Lines.{ended, list_lines}
use Rattle.osm_save.specs.Reading.{head_at}
use Rattle.osm_save.specs.Save.{SpellsSave, count_text}
use Rattle.osm_save.specs.declared.head.Head.{Head}
use Rattle.osm_save.specs.declared.save.Saved.{Saved}
use Rattle.osm_save.specs.declared.version.Version.{Version}
use Rattle.osm_save.proofs.HeadLemmas.{head_again}
use Rattle.osm_save.proofs.TextLemmas.{mirror_text, save_text_is}
use Rattle.osm_merge.proofs.OpeningLemmas.{head_absent, head_more}
use Rattle.osm_reading.specs.NumberLines.{count_line, numbered_line}
use Rattle.osm_save.specs.Shown.{counts_text, object_line, objects_text}
use Rattle.osm_store.specs.Frames.{StoreState}
use Rattle.osm_runs.specs.declared.fault.RunFault.{RunFault}
use Rattle.osm_runs.specs.declared.fault.RunFault.TheVariants.{Changed, WantOfMemory}
use Rattle.osm_printing.specs.Steps.Copying.{HeadStops, IsStart, StartStops, StartsAt, end_line, lists_of}
use Rattle.osm_printing.specs.declared.start.Start.{Start}

-- ---- lists

lines_are : {X : Type 0} (text line : X → List ℕ) → ((x : X) → line x ≡ text x ++ 10 ∷ []) → (xs : List X) → ended (map text xs) ≡ flat_map line xs
lines_are text line is [] = refl
lines_are text line is (x ∷ xs) =
    rw (is x, append_assoc (text x) (10 ∷ []) (flat_map line xs)) (ap (λ (l : List ℕ). text x ++ 10 ∷ l) (lines_are text line is xs))

list_is : {X : Type 0} (word : List ℕ) (text line : X → List ℕ) → ((x : X) → line x ≡ text x ++ 10 ∷ []) → (xs : List X)
    → ended (list_lines word text xs) ≡ numbered_line word (length xs) ++ flat_map line xs
list_is word text line is xs =
    ap (λ (l : List ℕ). (word ++ decimal (length xs)) ++ 10 ∷ l) (lines_are text line is xs)
    ∙ sym (append_assoc (word ++ decimal (length xs)) (10 ∷ []) (flat_map line xs))

object_is : (c : ChangeValue) → object_line c ≡ line_text c ++ 10 ∷ []
object_is c = refl

count_is : (e : Counted) → count_line e ≡ count_text e ++ 10 ∷ []
count_is e = refl

objects_are : (os : List ChangeValue) → ended (list_lines (codes "objects ") line_text os) ≡ objects_text os
unfolding objects_text
objects_are os = list_is (codes "objects ") line_text object_line object_is os

counts_are : (word : List ℕ) (cs : List Counted) → ended (list_lines word count_text cs) ≡ counts_text word cs
unfolding counts_text
counts_are word cs = list_is word count_text count_line count_is cs

lists_join : (o u c e : List ℕ) → o ++ (u ++ (c ++ e)) ≡ (o ++ u ++ c) ++ e
lists_join o u c e = sym (append_assoc (o ++ u) c e ∙ append_assoc o u (c ++ e))

same_lists : (o p u v c d e : List ℕ) → o ≡ p → u ≡ v → c ≡ d → o ++ (u ++ (c ++ e)) ≡ p ++ (v ++ (d ++ e))
same_lists o p u v c d e x y z = rw (x, y, z) refl

lists_are : (m : MirrorValue) → mirror_text m ≡ lists_of m ++ end_line
lists_are m =
    same_lists (ended (list_lines (codes "objects ") line_text m.objects)) (objects_text m.objects)
    (ended (list_lines (codes "users ") count_text m.users)) (counts_text (codes "users ") m.users)
    (ended (list_lines (codes "changesets ") count_text m.changesets)) (counts_text (codes "changesets ") m.changesets) end_line
    (objects_are m.objects) (counts_are (codes "users ") m.users) (counts_are (codes "changesets ") m.changesets)
    ∙ lists_join (objects_text m.objects) (counts_text (codes "users ") m.users) (counts_text (codes "changesets ") m.changesets) end_line

-- ---- where they are

-- the head of a save text, and what follows it
head_is : (file : List ℕ) (v : Saved) → (s : SpellsSave file v) → head_at file ≡ Some (s.version, head_of v, v.filter, mirror_text v.mirror)
head_is file v s =
    ap head_at (s.text ∙ save_text_is s.version v)
    ∙ head_again s.version (head_of v) v.filter (mirror_text v.mirror) s.savable.head s.savable.filter s.savable.tells

pub dropped : (n : ℕ) (xs ys : List ℕ) → n ≤ length xs → drop n xs ++ ys ≡ drop n (xs ++ ys)
dropped zero xs ys few = refl
dropped (suc n) [] ys few = absurd (omega arith)
dropped (suc n) (x ∷ xs) ys few = dropped n xs ys (omega arith)

-- a head that is read from the first block is that of the whole
pub start_is : (file block : List ℕ) (v : Saved) (start : Start) → take max_block file ≡ block → SpellsSave file v → StartsAt block start → IsStart file v start
start_is file block v start taken s starts =
    let whole : block ++ drop max_block file ≡ file = rw (← taken) (take-append-drop max_block file) in
    let more = head_more block (drop max_block file) (starts.version, start.head, starts.filter, drop start.after block) starts.head in
    let same = same_Some (starts.version, start.head, starts.filter, drop start.after block ++ drop max_block file)
    (s.version, head_of v, v.filter, mirror_text v.mirror) (sym more ∙ (ap head_at whole ∙ head_is file v s)) in
    record {
      head = ap (λ (r : Version × Head × FilterValue × List ℕ). r.1) same;
      lists = ap (drop start.after) (sym whole) ∙ (sym (dropped start.after block (drop max_block file) starts.within)
          ∙ (ap (λ (r : Version × Head × FilterValue × List ℕ). r.3) same ∙ lists_are v.mirror));
    }

-- a first block without a head is none of a save text
pub no_start : (file block : List ℕ) (v : Saved) → take max_block file ≡ block → head_at block ≡ None → SpellsSave file v → ⊥
no_start file block v taken none s =
    let gone : head_at file ≡ None = head_absent max_block file (lit≤ tt) (rw taken none) in
    let bad : ◌≡◌ {A = Option (Version × Head × FilterValue × List ℕ)} None (Some
    (s.version, head_of v, v.filter, mirror_text v.mirror)) = sym gone ∙ head_is file v s in
    cc

pub head_stops : (state : StoreState) (name block : List ℕ) (fault : RunFault) → ((file : List ℕ) → HasFile state name file
    → take max_block (drop 0 file) ≡ block)
    → HeadStops block fault → StartStops state name fault
head_stops state name block WantOfMemory read h = tt
head_stops state name block (Changed file) read h = (h.0, λ bytes saved has spells. no_start bytes block saved (read bytes has) h.1 spells)
head_stops state name block fault read h = absurd h
