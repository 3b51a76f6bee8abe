-- The head of a known file, read from its first block.
use Rattle.std.proofs.Common.{◌≡◌, ℕ, ◌+◌, ◌-◌, ◌≤◌, List, ◌++◌, length, take, drop, refl, ap, sym}
use Rattle.std.proofs.Common.{◌∙◌, Some, None, Option, arith, lit≤, length-append, append_assoc}
use Rattle.std.proofs.Math.Seq.{drop-append_seam}
use Rattle.osm_blocks.specs.Places.{Opens, Place, max_block}
use Rattle.osm_model.specs.Filter.{FilterValue}
use Rattle.osm_save.specs.Head.{head_lines, max_head}
use Rattle.osm_save.specs.Lines.{ended}
use Rattle.osm_save.specs.Reading.{head_at}
use Rattle.osm_save.specs.declared.head.Head.{Head}
use Rattle.osm_save.specs.declared.version.Version.{Version}
use Rattle.osm_save.proofs.HeadLemmas.{TakesHead, begins_first, head_again, head_begins, head_takes, no_head}
use Rattle.osm_save.proofs.TextLemmas.{ended_before}
use Rattle.osm_merge.proofs.LineLemmas.{none_by}
use Rattle.osm_merge.specs.Opening.{IsOpened, OpeningStops, ReadingStops, ReadsOpening}
use Rattle.osm_merge.specs.declared.fault.MergeFault.{MergeFault}
use Rattle.osm_merge.specs.declared.fault.MergeFault.TheVariants.{BadSave, Changed, LongLine, NoSave, ReadFault, TooLarge, WantOfMemory, WriteFault}
use Rattle.osm_merge.specs.declared.opening.Opening.{Opening}

abbrev Parts : Type 0
Parts = Version × Head × FilterValue × List ℕ

lines_of : Parts → List ℕ
lines_of r = ended (head_lines r.0 r.1 r.2)

parts_of : (bytes : List ℕ) (r : Parts) → head_at bytes ≡ Some r → bytes ≡ lines_of r ++ r.3
unfolding lines_of
parts_of bytes r e =
    let t : TakesHead bytes r.0 r.1 r.2 r.3 = head_takes bytes r e in
    t.text ∙ sym (ended_before (head_lines r.0 r.1 r.2) r.3)

-- what is after a head is no longer than the whole
pub head_longer : (bytes : List ℕ) (r : Parts) → head_at bytes ≡ Some r → length r.3 ≤ length bytes
head_longer bytes r e =
    let parts = parts_of bytes r e in
    let both : length bytes ≡ length (lines_of r) + length r.3 = ap length parts ∙ length-append (lines_of r) r.3 in
    omega (arith, both)

-- and it is the end of the whole
pub head_rest : (bytes : List ℕ) (r : Parts) → head_at bytes ≡ Some r → r.3 ≡ drop (length bytes - length r.3) bytes
head_rest bytes r e =
    let parts = parts_of bytes r e in
    let both : length bytes ≡ length (lines_of r) + length r.3 = ap length parts ∙ length-append (lines_of r) r.3 in
    let count : length bytes - length r.3 ≡ length (lines_of r) = omega (arith, both) in
    rw count (sym (ap (drop (length (lines_of r))) parts ∙ drop-append_seam (lines_of r) r.3))

-- more bytes after it change nothing
pub head_more : (bytes more : List ℕ) (r : Parts) → head_at bytes ≡ Some r → head_at (bytes ++ more) ≡ Some (r.0, r.1, r.2, r.3 ++ more)
head_more bytes more r e =
    let t : TakesHead bytes r.0 r.1 r.2 r.3 = head_takes bytes r e in
    let parts = parts_of bytes r e in
    let joined : bytes ++ more ≡ ended (head_lines r.0 r.1 r.2) ++ (r.3 ++ more) =
    ap (λ (l : List ℕ). l ++ more) (t.text ∙ sym (ended_before (head_lines r.0 r.1 r.2) r.3))
    ∙ append_assoc (ended (head_lines r.0 r.1 r.2)) r.3 more in
    ap head_at (joined ∙ ended_before (head_lines r.0 r.1 r.2) (r.3 ++ more)) ∙ head_again r.0 r.1 r.2 (r.3 ++ more) t.limits t.is_filter t.tells

-- a first block without a head is one of a file without
pub head_absent : (most : ℕ) (file : List ℕ) → max_head ≤ most → head_at (take most file) ≡ None → head_at file ≡ None
head_absent most file long none = none_by (head_at file) (λ r e.
    no_head (take most file) none r.1 (begins_first most file r.1 long (head_begins file r e)))

pub rest_is : (bytes : List ℕ) (r : Parts) → head_at bytes ≡ Some r → head_at bytes ≡ Some (r.0, r.1, r.2, drop (length bytes - length r.3) bytes)
rest_is bytes r e = e ∙ ap (λ (l : List ℕ). Some (r.0, r.1, r.2, l)) (head_rest bytes r e)

-- what is left of the file after the head
pub is_opened : (told : Option (List ℕ)) (old new : Place) (o : Opening) → Opens (Some old) told → ReadsOpening old new o → IsOpened told new o
is_opened told old new o opens reads = record {
  file = opens.0;
  there = opens.1;
  head = ap head_at (sym opens.3) ∙ (head_more old.unread (drop old.from opens.0) (o.version, o.head, o.filter, drop reads.count old.unread) reads.head
      ∙ rw reads.passed refl);
}

pub opening_stops : (told : Option (List ℕ)) (old : Place) (fault : MergeFault) → Opens (Some old) told → ReadingStops old.unread fault
    → OpeningStops told fault
opening_stops told old (BadSave line) opens none = record {
  file = opens.0;
  there = opens.1;
  head = head_absent max_block opens.0 (lit≤ tt) (rw opens.2 at none);
}
opening_stops told old WantOfMemory opens none = tt
opening_stops told old ReadFault opens none = tt
opening_stops told old WriteFault opens none = tt
opening_stops told old NoSave opens none = absurd none
opening_stops told old Changed opens none = absurd none
opening_stops told old LongLine opens none = absurd none
opening_stops told old TooLarge opens none = absurd none
