-- Calls of a store that come one after the other, by how many are ahead.
use Rattle.std.proofs.Common.{◌≡◌, ℕ, ◌+◌, ◌≤◌, List, length, take, drop, Option, refl, sym, ap, subst, ◌∙◌, arith}
use Rattle.std.specs.Prelude.{Bool, true, false, ◌==◌}
use Rattle.osm_model.specs.Change.{ChangeValue}
use Rattle.osm_blocks.specs.Calls.{SpendsDown, blocks_after_first, blocks_in, reads_ahead}
use Rattle.osm_blocks.specs.Places.{Place, left_of, max_block}
use Rattle.osm_blocks.proofs.CallLemmas.{opened_ahead}
use Rattle.osm_data.specs.Reading.{read_calls}
use Rattle.osm_data.specs.OplReading.{calls_after, calls_before_end}
use Rattle.osm_data.specs.Steps.OplPassing.{Begins, PassesLine}
use Rattle.osm_data.specs.declared.opl_data.OplData.{OplData}

-- so many calls are ahead then
pub begun_ahead : (place : Place) (reader : OplData) (file : List ℕ) → place.unread ≡ take max_block file → left_of place file ≡ file → Begins place reader
    → calls_after reader file + 1 ≤ read_calls (length file)
begun_ahead place reader file unread left is =
    subst (λ (t : Bool). calls_before_end t reader file + 1 ≤ read_calls (length file)) (sym is.ended) (by_test (length place.unread == 0) refl)
  where
    by_test : (t : Bool) → (length place.unread == 0) ≡ t → calls_before_end t reader file + 1 ≤ read_calls (length file)
    by_test true e = omega arith
    by_test false e =
        let ahead : blocks_in (length (drop place.from file)) ≡ blocks_after_first (length file) = opened_ahead place file unread left in
        let same : blocks_in (length (drop reader.reader.from file)) ≡ blocks_in (length (drop place.from file)) =
        ap (λ (p : Place). blocks_in (length (drop p.from file))) is.same in
        omega (arith, ahead, same)

-- ---- a line

pub line_calls : (old mid new : OplData) (file : List ℕ) (count : ℕ) (xs ys : List ChangeValue) (a b : Option ℕ) → old.is_ended ≡ false
    → mid.is_ended ≡ false → PassesLine count mid new xs ys → SpendsDown (reads_ahead old.reader file) (reads_ahead mid.reader file) a b
    → SpendsDown (calls_after old file) (calls_after new file) a b
line_calls old mid new file count xs ys a b is_open still p spent =
    let before : calls_after old file ≡ reads_ahead old.reader file = ap (λ (t : Bool). calls_before_end t old file) is_open in
    let after : calls_after new file ≡ reads_ahead new.reader file = ap (λ (t : Bool). calls_before_end t new file) (p.open_still ∙ still) in
    let same : reads_ahead new.reader file ≡ reads_ahead mid.reader file = ap (λ (r : Place). reads_ahead r file) p.passed in
    rw (before, after, same) spent

-- the end was found
pub rest_calls : (old new : OplData) (file : List ℕ) (a b : Option ℕ) → old.is_ended ≡ false → new.is_ended ≡ true
    → SpendsDown (reads_ahead old.reader file) 0 a b → SpendsDown (calls_after old file) (calls_after new file) a b
rest_calls old new file a b is_open ended spent =
    let before : calls_after old file ≡ reads_ahead old.reader file = ap (λ (t : Bool). calls_before_end t old file) is_open in
    let after : calls_after new file ≡ 0 = ap (λ (t : Bool). calls_before_end t new file) ended in
    rw (before, after) spent
