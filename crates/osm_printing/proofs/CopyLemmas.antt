-- Lists that are copied piece by piece.
use Rattle.std.proofs.Common.{◌≡◌, ℕ, zero, suc, ◌+◌, ◌<◌, ◌≤◌, List, [], ◌∷◌, ◌++◌, length, take, drop, Option, refl, sym, ap, subst, ◌∙◌, arith}
use Rattle.std.proofs.Common.{lit<, append_assoc, length-append}
use Rattle.std.specs.Prelude.{◌≢◌, IfErr, Ok, OnOk, Err, Result, min}
use Rattle.std.specs.Io.KnownBytes.{Appends}
use Rattle.std.proofs.KnownBytes.{Appends-trans}
use Rattle.std.proofs.lemmas.List.{append-nil, drop-drop, length-take, take-append-drop}
use Rattle.osm_store.specs.Frames.{StoreState}
use Rattle.osm_blocks.specs.Frames.{ReadsOften}
use Rattle.osm_blocks.specs.Places.{HasFile, max_block}
use Rattle.osm_blocks.proofs.OftenLemmas.{often_then}
use Rattle.osm_blocks.proofs.PlaceLemmas.{huge_file}
use Rattle.osm_runs.specs.declared.fault.FileName.TheVariants.{Save}
use Rattle.osm_runs.specs.declared.fault.RunFault.{RunFault}
use Rattle.osm_runs.specs.declared.fault.RunFault.TheVariants.{Changed, ReadFault, TooLarge, WantOfMemory, WriteFault}
use Rattle.osm_merge.proofs.FrameLemmas.{has_still}
use Rattle.osm_printing.specs.Printing.{IsReadFault}
use Rattle.osm_runs.specs.Writing.{WritingFault}
use Rattle.osm_printing.specs.Steps.Copying.{BlockStops, HasLists, IsCopied, IsCopiedInPart, IsPart, PlaceStops, end_line}
use Rattle.osm_printing.proofs.SaveLemmas.{dropped}

-- what is left after some of the lists
pub record HasRest (state : StoreState) (name : List ℕ) (from : ℕ) (copied lists : List ℕ) : Type 0 where
  pub left : List ℕ
  pub parts : lists ≡ copied ++ left
  pub there : HasLists state name from left

-- where copying stands
pub record Copies (begun state : StoreState) (name : List ℕ) (place from : ℕ) (printed after : Option (List ℕ)) : Type 0 where
  pub frame : ReadsOften {T = Unit {0}} IsReadFault begun state (Ok tt)
  pub copied : List ℕ
  pub all : Appends printed after copied
  pub rest : (lists : List ℕ) → HasLists begun name place lists → HasRest begun name from copied lists

-- ---- a piece

short : (n : ℕ) (xs : List ℕ) → length (take n xs) ≤ length xs
short zero xs = omega arith
short (suc n) [] = omega arith
short (suc n) (x ∷ xs) = let h = short n xs in omega (arith, h)

few : (n : ℕ) (xs : List ℕ) → length (take n xs) ≤ n
few zero xs = omega arith
few (suc n) [] = omega arith
few (suc n) (x ∷ xs) = let h = few n xs in omega (arith, h)

front : (count most : ℕ) (left tail : List ℕ) → count ≤ most → count ≤ length left → take count (take most (left ++ tail)) ≡ take count left
front zero most left tail a b = refl
front (suc count) zero left tail a b = absurd (omega arith)
front (suc count) (suc most) [] tail a b = absurd (omega arith)
front (suc count) (suc most) (x ∷ left) tail a b = ap (λ (l : List ℕ). x ∷ l) (front count most left tail (omega arith) (omega arith))

whole : (most : ℕ) (tail : List ℕ) → length tail ≤ most → take most tail ≡ tail
whole zero [] h = refl
whole zero (x ∷ xs) h = absurd (omega arith)
whole (suc most) [] h = refl
whole (suc most) (x ∷ xs) h = ap (λ (l : List ℕ). x ∷ l) (whole most xs (omega arith))

-- of a block, what may be the last line isn't passed
piece_of : (most from count : ℕ) (file block left tail : List ℕ) → drop from file ≡ left ++ tail → take most (drop from file) ≡ block
    → length block ≡ count + length tail → (left ≡ take count block ++ drop count left) × (drop (from + count) file ≡ drop count left ++ tail)
piece_of most from count file block left tail parts taken long =
    let is : take most (left ++ tail) ≡ block = ap (take most) (sym parts) ∙ taken in
    let size : length (take most (left ++ tail)) ≡ count + length tail = ap length is ∙ long in
    let both : length (left ++ tail) ≡ length left + length tail = length-append left tail in
    let below = short most (left ++ tail) in
    let within = few most (left ++ tail) in
    let enough : count ≤ length left = omega (arith, size, both, below) in
    let first : take count block ≡ take count left = ap (take count) (sym is) ∙ front count most left tail (omega (arith, size, within)) enough in (
      sym (ap (λ (l : List ℕ). l ++ drop count left) first ∙ take-append-drop count left),
      sym (drop-drop count from file) ∙ (ap (drop count) parts ∙ sym (dropped count left tail enough)),
    )

-- a short block is the last line
last_of : (most : ℕ) (left tail : List ℕ) → length tail < most → length (take most (left ++ tail)) ≤ length tail
    → (left ≡ []) × (take most (left ++ tail) ≡ tail)
last_of most [] tail more h = (refl, whole most tail (omega (arith, more)))
last_of most (x ∷ left) tail more h =
    let long : length (take most (x ∷ left ++ tail)) ≡ min most (length (x ∷ left ++ tail)) = length-take most (x ∷ left ++ tail) in
    let both : length (left ++ tail) ≡ length left + length tail = length-append left tail in
    absurd (by_min most (length (left ++ tail)) (length tail) more (omega (arith, both)) (rw long at h))
  where
    by_min : (most n k : ℕ) → k < most → k ≤ n → min most (suc n) ≤ k → ⊥
    by_min most n k a b c = omega (arith, a, b, c)

pub ended_at : (state : StoreState) (name : List ℕ) (from : ℕ) (block left : List ℕ) → (h : HasLists state name from left)
    → take max_block (drop from h.file) ≡ block → length block ≤ 4 → (left ≡ []) × (block ≡ end_line)
ended_at state name from block left h taken few =
    let is : take max_block (left ++ end_line) ≡ block = ap (take max_block) (sym h.parts) ∙ taken in
    let both = last_of max_block left end_line (lit< tt) (rw (← is) at few) in
    (both.0, sym is ∙ both.1)

pub rest_after : (state : StoreState) (name : List ℕ) (from count next : ℕ) (block copied lists : List ℕ) → (r : HasRest state name from copied lists)
    → take max_block (drop from r.there.file) ≡ block → length block ≡ count + 4 → next ≡ from + count
    → HasRest state name next (copied ++ take count block) lists
rest_after state name from count next block copied lists r taken long is =
    let both = piece_of max_block from count r.there.file block r.left end_line r.there.parts taken long in
    record {
      left = drop count r.left;
      parts = r.parts ∙ (ap (λ (l : List ℕ). copied ++ l) both.0 ∙ sym (append_assoc copied (take count block) (drop count r.left)));
      there = record { file = r.there.file; has = r.there.has; parts = rw is both.1 };
    }

-- ---- parts

pub part_nil : (whole : List ℕ) → IsPart [] whole
part_nil whole = record { rest = whole; parts = refl }

pub part_all : (xs : List ℕ) → IsPart xs xs
part_all xs = record { rest = []; parts = sym (append-nil xs) }

pub part_front : (xs ys : List ℕ) → IsPart xs (xs ++ ys)
part_front xs ys = record { rest = ys; parts = refl }

pub part_take : (n : ℕ) (xs : List ℕ) → IsPart (take n xs) xs
part_take n xs = record { rest = drop n xs; parts = sym (take-append-drop n xs) }

-- a part of the first is one of both
pub part_before : (part xs ys : List ℕ) → IsPart part xs → IsPart part (xs ++ ys)
part_before part xs ys p = record { rest = p.rest ++ ys; parts = ap (λ (l : List ℕ). l ++ ys) p.parts ∙ append_assoc part p.rest ys }

-- the first, and a part of the second
pub part_after : (part xs ys : List ℕ) → IsPart part ys → IsPart (xs ++ part) (xs ++ ys)
part_after part xs ys p = record { rest = p.rest; parts = ap (λ (l : List ℕ). xs ++ l) p.parts ∙ sym (append_assoc xs part p.rest) }

pub part_trans : (a b c : List ℕ) → IsPart a b → IsPart b c → IsPart a c
part_trans a b c p q = record { rest = p.rest ++ q.rest; parts = q.parts ∙ (ap (λ (l : List ℕ). l ++ q.rest) p.parts ∙ append_assoc a p.rest q.rest) }

pub part_of_rest : (state : StoreState) (name : List ℕ) (from : ℕ) (copied lists : List ℕ) → HasRest state name from copied lists → IsPart copied lists
part_of_rest state name from copied lists r = record { rest = r.left; parts = r.parts }

-- ---- faults

pub block_stops : (begun state : StoreState) (name : List ℕ) (place : ℕ) (fault : RunFault) → ReadsOften {T = Unit {0}} IsReadFault begun state (Ok tt)
    → BlockStops state name fault → PlaceStops begun name place fault
block_stops begun state name place WantOfMemory frame h = tt
block_stops begun state name place (ReadFault file) frame h = h
block_stops begun state name place (Changed file) frame h = (h.0, λ lists own. h.1 own.file (has_still begun state tt name own.file frame own.has))
block_stops begun state name place fault frame h = absurd h

-- writing failed, and a part was written
pub write_stops : (state : StoreState) (name : List ℕ) (place : ℕ) (old new : Option (List ℕ)) (text : List ℕ) (fault : RunFault)
    → WritingFault old new text fault
    → PlaceStops state name place fault
write_stops state name place old new text (WriteFault file) h = h.0
write_stops state name place old new text fault h = absurd h

pub written_part : (old new : Option (List ℕ)) (text : List ℕ) (fault : RunFault) → WritingFault old new text fault → (n : ℕ) × Appends old new (take n text)
written_part old new text (WriteFault file) h = h.1
written_part old new text fault h = absurd h

-- ---- copying

abbrev pub ReadsBlock : StoreState → List ℕ → ℕ → List ℕ → Type 0
ReadsBlock state name from block = (file : List ℕ) → HasFile state name file → take max_block (drop from file) ≡ block

taken_at : (begun state : StoreState) (name : List ℕ) (from : ℕ) (block left : List ℕ) → ReadsOften {T = Unit {0}} IsReadFault begun state (Ok tt)
    → ReadsBlock state name from block
    → (h : HasLists begun name from left) → take max_block (drop from h.file) ≡ block
taken_at begun state name from block left frame read h = read h.file (has_still begun state tt name h.file frame h.has)

pub block_fails : (begun state : StoreState) (name : List ℕ) (place from : ℕ) (printed after : Option (List ℕ)) (fault : RunFault)
    → Copies begun state name place from printed after → BlockStops state name fault → IsCopiedInPart begun name place printed after fault
block_fails begun state name place from printed after fault c h = record {
  stops = block_stops begun state name place fault c.frame h;
  copied = c.copied;
  some = c.all;
  are = λ lists own. part_of_rest begun name from c.copied lists (c.rest lists own);
}

pub ends_well : {T : Type 0} (begun state : StoreState) (name : List ℕ) (place from : ℕ) (printed after : Option (List ℕ)) (block bytes : List ℕ)
    (r : Result T RunFault)
    → Copies begun state name place from printed after → ReadsBlock state name from block → length block ≤ 4 → OnOk r (bytes ≡ end_line)
    → OnOk r (IsCopied begun name place printed after)
ends_well begun state name place from printed after block bytes (Ok x) c read few is = record {
  copied = c.copied;
  all = c.all;
  are = λ lists own.
      let rest : HasRest begun name from c.copied lists = c.rest lists own in
      let none = ended_at begun name from block rest.left rest.there (taken_at begun state name from block rest.left c.frame read rest.there) few in
      sym (rest.parts ∙ (ap (λ (l : List ℕ). c.copied ++ l) none.0 ∙ append-nil c.copied));
}
ends_well begun state name place from printed after block bytes (Err fault) c read few is = tt

pub ends_badly : {T : Type 0} (begun state : StoreState) (name : List ℕ) (place from : ℕ) (printed after : Option (List ℕ)) (block bytes : List ℕ)
    (r : Result T RunFault)
    → Copies begun state name place from printed after → ReadsBlock state name from block → length block ≤ 4 → bytes ≡ block
    → IfErr r (λ fault. (fault ≡ Changed Save) × (bytes ≢ end_line)) → IfErr r (IsCopiedInPart begun name place printed after)
ends_badly begun state name place from printed after block bytes (Ok x) c read few same is = tt
ends_badly begun state name place from printed after block bytes (Err fault) c read few same is = record {
  stops = subst (PlaceStops begun name place) (sym is.0) (
    refl,
    λ lists own.
        let rest : HasRest begun name from c.copied lists = c.rest lists own in
        let none = ended_at begun name from block rest.left rest.there (taken_at begun state name from block rest.left c.frame read rest.there) few in
        is.1 (same ∙ none.1),
  );
  copied = c.copied;
  some = c.all;
  are = λ lists own. part_of_rest begun name from c.copied lists (c.rest lists own);
}

pub piece_fails : (begun state : StoreState) (name : List ℕ) (place from count : ℕ) (printed mid after : Option (List ℕ)) (block piece : List ℕ)
    (fault : RunFault)
    → Copies begun state name place from printed mid → ReadsBlock state name from block → length block ≡ count + 4 → piece ≡ take count block
    → WritingFault mid after piece fault → IsCopiedInPart begun name place printed after fault
piece_fails begun state name place from count printed mid after block piece fault c read long is h =
    let part : (n : ℕ) × Appends mid after (take n piece) = written_part mid after piece fault h in
    record {
      stops = write_stops begun name place mid after piece fault h;
      copied = c.copied ++ take part.0 piece;
      some = Appends-trans printed mid after c.copied (take part.0 piece) c.all part.1;
      are = λ lists own.
          let rest : HasRest begun name from c.copied lists = c.rest lists own in
          let next = rest_after begun name from count (from + count) block c.copied lists rest
          (taken_at begun state name from block rest.left c.frame read rest.there) long refl in
          part_trans (c.copied ++ take part.0 piece) (c.copied ++ take count block) lists
          (part_after (take part.0 piece) c.copied (take count block) (rw (← is) (part_take part.0 piece)))
          (part_of_rest begun name (from + count) (c.copied ++ take count block) lists next);
    }

pub place_fails : (begun state : StoreState) (name : List ℕ) (place from count : ℕ) (printed mid after : Option (List ℕ)) (block piece : List ℕ)
    → Copies begun state name place from printed mid → ReadsBlock state name from block → length block ≡ count + 4 → piece ≡ take count block
    → Appends mid after piece → 18446744073709551615 < from + count → IsCopiedInPart begun name place printed after (TooLarge Save)
place_fails begun state name place from count printed mid after block piece c read long is all high = record {
  stops = (
    refl,
    λ file has.
        huge_file max_block file block from (read file (has_still begun state tt name file c.frame has)) (omega (arith, long)) (omega (arith, long, high)),
  );
  copied = c.copied ++ piece;
  some = Appends-trans printed mid after c.copied piece c.all all;
  are = λ lists own.
      let rest : HasRest begun name from c.copied lists = c.rest lists own in
      let next = rest_after begun name from count (from + count) block c.copied lists rest
      (taken_at begun state name from block rest.left c.frame read rest.there) long refl in
      rw is (part_of_rest begun name (from + count) (c.copied ++ take count block) lists next);
}

pub copies_more : {T : Type 0} (begun state new : StoreState) (name : List ℕ) (place from count next : ℕ) (printed mid after : Option (List ℕ))
    (block piece : List ℕ) (x : T)
    → Copies begun state name place from printed mid → ReadsOften IsReadFault state new (Ok x) → ReadsBlock state name from block → length block ≡ count + 4
    → piece ≡ take count block → Appends mid after piece → next ≡ from + count → Copies begun new name place next printed after
copies_more begun state new name place from count next printed mid after block piece x c frame read long is all at = record {
  frame = often_then IsReadFault begun state new tt x tt c.frame frame;
  copied = c.copied ++ piece;
  all = Appends-trans printed mid after c.copied piece c.all all;
  rest = λ lists own.
      let rest : HasRest begun name from c.copied lists = c.rest lists own in
      let more = rest_after begun name from count next block c.copied lists rest
      (taken_at begun state name from block rest.left c.frame read rest.there) long at in
      rw is more;
}
