-- Counts that are passed line by line.
use Rattle.std.proofs.Common.{◌≡◌, ℕ, ◌+◌, ◌<◌, ◌≤◌, List, [], ◌∷◌, ◌++◌, Option, Some, None, refl, ◌∙◌, arith}
use Rattle.std.specs.Prelude.{Err, Ok}
use Rattle.osm_blocks.specs.Calls.{Advances, SpendsDown, reads_ahead}
use Rattle.osm_blocks.specs.Frames.{ReadsOften}
use Rattle.osm_blocks.specs.Places.{HasFile, Place, left_of}
use Rattle.osm_blocks.proofs.CallLemmas.{down_none}
use Rattle.osm_blocks.proofs.OftenLemmas.{often_none, often_then}
use Rattle.osm_mirror.specs.Mirror.{Counted}
use Rattle.osm_save.specs.Reading.{count_at, items_at}
use Rattle.osm_save.proofs.ItemLemmas.{Items, items_begun, items_done, items_more}
use Rattle.osm_store.specs.Frames.{StoreState}
use Rattle.osm_merge.specs.Faults.{IsDeviceFault}
use Rattle.osm_merge.specs.Laying.{next_at}
use Rattle.osm_merge.specs.Passing.{PassesTo}
use Rattle.osm_merge.specs.Reading.{LineStops}
use Rattle.osm_merge.specs.declared.fault.MergeFault.{MergeFault}
use Rattle.osm_merge.proofs.CallLemmas.{advances_fails, advances_then}
use Rattle.osm_merge.proofs.FrameLemmas.{has_still}
use Rattle.osm_merge.proofs.ItemLemmas.{items_stop, next_parts}
use Rattle.osm_merge.proofs.LineLemmas.{refuses_all}

abbrev counts_from : ℕ → ℕ → List ℕ → Option (List Counted × List ℕ)
counts_from most many bytes = items_at (λ (e : Counted). e.0) (count_at most) many None bytes

-- where `i` of the counts were passed
pub record Passing (a b : StoreState) (name : List ℕ) (most many i : ℕ) (last : Option ℕ) (begun now : Place) : Type 0 where
  pub values : List Counted
  pub read : (file : List ℕ) → HasFile a name file
      → Items (λ (e : Counted). e.0) (count_at most) many (left_of begun file) i values last (left_of now file)
  pub stage : b.stage ≡ a.stage
  pub frame : ReadsOften {T = Unit {0}} IsDeviceFault a b (Ok tt)
  pub spent : (file : List ℕ) → HasFile a name file → SpendsDown (reads_ahead begun file) (reads_ahead now file) a.left b.left

pub passing_begun : (a : StoreState) (name : List ℕ) (most many : ℕ) (begun : Place) → Passing a a name most many 0 None begun begun
passing_begun a name most many begun = record {
  values = [];
  read = λ file has. items_begun (λ (e : Counted). e.0) (count_at most) many (left_of begun file);
  stage = refl;
  frame = often_none IsDeviceFault a tt;
  spent = λ file has. down_none (reads_ahead begun file) a.left;
}

module _ (a b : StoreState) (name : List ℕ) (most many i : ℕ) (last : Option ℕ) (begun now : Place)
    (h : Passing a b name most many i last begun now) where
  has_now : (file : List ℕ) → HasFile a name file → HasFile b name file
  has_now file has = has_still a b tt name file h.frame has

  so_far : (file : List ℕ) → HasFile a name file → Advances {T = Unit {0}} IsDeviceFault (reads_ahead begun file) (λ _. reads_ahead now file) a b (Ok tt)
  so_far file has = record { spent = h.spent file has; lacks = tt }

  -- where a line is refused, the list is
  pub passing_stops : (fault : MergeFault) → i < many
      → ((file : List ℕ) → HasFile b name file → LineStops file fault (next_at (count_at most) last (left_of now file)))
      → (file : List ℕ) → HasFile a name file → LineStops file fault (counts_from most many (left_of begun file))
  passing_stops fault lt refused file has =
      refuses_all file fault (next_at (count_at most) last (left_of now file)) (counts_from most many (left_of begun file)) (refused file (has_now file has))
      (items_stop (λ (e : Counted). e.0) (count_at most) many (left_of begun file) i h.values last (left_of now file) lt (h.read file has))

  pub passing_unread : {T U : Type 0} (new : Place) (after : U → ℕ) (c : StoreState) (fault : MergeFault) (file : List ℕ) → HasFile a name file
      → ((file : List ℕ) → HasFile b name file → Advances {T = T} IsDeviceFault (reads_ahead now file) (λ _. reads_ahead new file) b c (Err fault))
      → Advances IsDeviceFault (reads_ahead begun file) after a c (Err fault)
  passing_unread new after c fault file has read =
      advances_fails (reads_ahead begun file) after a b c tt fault (so_far file has) (read file (has_now file has)) (omega arith)

  -- the next count was passed
  pub passing_more : (c : StoreState) (x : Counted) (new : Place) → i < many
      → ((file : List ℕ) → HasFile b name file → next_at (count_at most) last (left_of now file) ≡ Some (x, left_of new file))
      → c.stage ≡ b.stage → ReadsOften IsDeviceFault b c (Ok x)
      → ((file : List ℕ) → HasFile b name file → Advances {T = Counted} IsDeviceFault (reads_ahead now file) (λ _. reads_ahead new file) b c (Ok x))
      → Passing a c name most many (i + 1) (Some x.0) begun new
  passing_more c x new lt read same frame calls = record {
    values = h.values ++ x ∷ [];
    read = λ file has. (let p = next_parts (count_at most) last (left_of now file) (left_of new file) x (read file (has_now file has)) in
        items_more (λ (e : Counted). e.0) (count_at most) many (left_of begun file) i h.values last (left_of now file) p.0 (left_of new file) x lt
        (h.read file has) p.1 p.2);
    stage = same ∙ h.stage;
    frame = often_then {T = Unit {0}} {V = Unit {0}} IsDeviceFault a b c tt x tt h.frame frame;
    spent = λ file has.
        (advances_then {V = Unit {0}} (reads_ahead begun file) (λ _. reads_ahead new file) a b c tt x tt (so_far file has) (calls file (has_now file has))
        (omega arith)).spent;
  }

  pub passing_done : many ≤ i → (file : List ℕ) → HasFile a name file → PassesTo (counts_from most many (left_of begun file)) (left_of now file)
  passing_done le file has = record {
    value = h.values;
    read = items_done (λ (e : Counted). e.0) (count_at most) many (left_of begun file) i h.values last (left_of now file) le (h.read file has);
  }

-- ---- lists, and what follows them

pub passes_as : {A : Type 0} {r s : Option (A × List ℕ)} (rest : List ℕ) → r ≡ s → PassesTo s rest → PassesTo r rest
passes_as rest same p = record { value = p.value; read = same ∙ p.read }
