-- Lines that are read one after the other until a value is given.
use Rattle.std.proofs.Common.{◌≡◌, ℕ, ◌≤◌, List, [], Option, refl, ◌∙◌, arith}
use Rattle.std.specs.Prelude.{Err, Ok}
use Rattle.osm_blocks.specs.Calls.{Advances, SpendsDown, reads_ahead}
use Rattle.osm_blocks.specs.Frames.{ReadsOften}
use Rattle.osm_blocks.specs.Places.{HasFile, Place, left_of}
use Rattle.osm_blocks.proofs.OftenLemmas.{often_then}
use Rattle.osm_model.specs.Change.{ChangeValue}
use Rattle.osm_model.specs.Filter.{FilterValue}
use Rattle.osm_store.specs.Frames.{StoreState}
use Rattle.osm_merge.specs.Faults.{IsDeviceFault}
use Rattle.osm_merge.specs.declared.fault.MergeFault.{MergeFault}
use Rattle.osm_merge.proofs.CallLemmas.{advances_fails, advances_then}
use Rattle.osm_merge.proofs.FrameLemmas.{has_still}
use Rattle.osm_merged.specs.Ahead.{GivesBy, IsGiven, most_ahead, most_in, objects_ahead}
use Rattle.osm_merged.specs.Steps.Turns.{Fills, KeepsAhead, Shrinks, Turns}
use Rattle.osm_merged.specs.declared.objects.Turn.TheVariants.{Gone}
use Rattle.osm_merged.proofs.AheadLemmas.{given_after, keeps_both, keeps_gives, keeps_now}
use Rattle.osm_merged.proofs.TurnLemmas.{Objects}

abbrev Keeps : FilterValue → Objects → Objects → List ℕ → List ℕ → Type 0
Keeps f old new bytes rest = KeepsAhead (λ bs. objects_ahead f old bs) (λ bs. objects_ahead f new bs) bytes rest

-- how far the reading of the next object has come: what is ahead is still the same
pub record Turning (a b : StoreState) (name : List ℕ) (f : FilterValue) (old now : Objects) (begun at : Place) : Type 0 where
  pub same : (file : List ℕ) → HasFile a name file → Keeps f old now (left_of begun file) (left_of at file)
  pub fewer : most_ahead now ≤ most_ahead old
  pub shorter : (file : List ℕ) → HasFile a name file → most_in now (left_of at file) ≤ most_in old (left_of begun file)
  pub stage : b.stage ≡ a.stage
  pub frame : ReadsOften {T = Unit {0}} IsDeviceFault a b (Ok tt)
  pub spent : (file : List ℕ) → HasFile a name file → SpendsDown (reads_ahead begun file) (reads_ahead at file) a.left b.left

module _ (a b : StoreState) (name : List ℕ) (f : FilterValue) (old now : Objects) (begun at : Place) (h : Turning a b name f old now begun at) where
  has_now : (file : List ℕ) → HasFile a name file → HasFile b name file
  has_now file has = has_still a b tt name file h.frame has

  so_far : (file : List ℕ) → HasFile a name file → Advances {T = Unit {0}} IsDeviceFault (reads_ahead begun file) (λ _. reads_ahead at file) a b (Ok tt)
  so_far file has = record { spent = h.spent file has; lacks = tt }

  pub turning_unread : {T U : Type 0} (new : Place) (after : U → ℕ) (c : StoreState) (fault : MergeFault) (file : List ℕ) → HasFile a name file
      → ((file : List ℕ) → HasFile b name file → Advances {T = T} IsDeviceFault (reads_ahead at file) (λ _. reads_ahead new file) b c (Err fault))
      → Advances {T = U} IsDeviceFault (reads_ahead begun file) after a c (Err fault)
  turning_unread new after c fault file has read =
      advances_fails (reads_ahead begun file) after a b c tt fault (so_far file has) (read file (has_now file has)) (omega arith)

  -- the next line was read, if one had to be
  module _ (c : StoreState) (filled : Objects) (new : Place) (fills : Fills now filled)
      (same : (file : List ℕ) → HasFile b name file → Keeps f now filled (left_of at file) (left_of new file))
      (shorter : (file : List ℕ) → HasFile b name file → most_in filled (left_of new file) ≤ most_in now (left_of at file))
      (stage : c.stage ≡ b.stage) (frame : ReadsOften {T = Unit {0}} IsDeviceFault b c (Ok tt))
      (calls : (file : List ℕ) → HasFile b name file
      → Advances {T = Unit {0}} IsDeviceFault (reads_ahead at file) (λ _. reads_ahead new file) b c (Ok tt))
    where
      pub turning_filled : Turning a c name f old filled begun new
      turning_filled = record {
        same = λ file has. keeps_both (λ bs. objects_ahead f old bs) (λ bs. objects_ahead f now bs) (λ bs. objects_ahead f filled bs)
            (left_of begun file) (left_of at file) (left_of new file) (h.same file has) (same file (has_now file has));
        fewer = (let is = fills.most in let so = h.fewer in omega (arith, is, so));
        shorter = λ file has. (let is = shorter file (has_now file has) in let so = h.shorter file has in omega (arith, is, so));
        stage = stage ∙ h.stage;
        frame = often_then {T = Unit {0}} {V = Unit {0}} IsDeviceFault a b c tt tt tt h.frame frame;
        spent = λ file has.
            (advances_then {V = Unit {0}} (reads_ahead begun file) (λ _. reads_ahead new file) a b c tt tt tt (so_far file has) (calls file (has_now file has))
            (omega arith)).spent;
      }

-- nothing was called after that
module _ (a b : StoreState) (name : List ℕ) (f : FilterValue) (old now : Objects) (begun at : Place) (h : Turning a b name f old now begun at)
    (new : Objects) where
  -- the first object was given, or none
  pub turned_by : (given : Option ChangeValue) → ((bytes : List ℕ) → IsGiven bytes (objects_ahead f now bytes) (objects_ahead f new bytes) given)
      → (file : List ℕ) → HasFile a name file
      → GivesBy (λ bs. objects_ahead f old bs) (λ bs. objects_ahead f new bs) (left_of begun file) (left_of at file) given
  turned_by given first file has =
      keeps_gives (λ bs. objects_ahead f old bs) (λ bs. objects_ahead f now bs) (λ bs. objects_ahead f new bs) (left_of begun file) (left_of at file) given
      (h.same file has) first

  pub turned_gives : (given : Option ChangeValue) → ((bytes : List ℕ) → IsGiven bytes (objects_ahead f now bytes) (objects_ahead f new bytes) given)
      → (file : List ℕ) → HasFile a name file
      → IsGiven (left_of at file) (objects_ahead f old (left_of begun file)) (objects_ahead f new (left_of at file)) given
  turned_gives given first file has =
      given_after (left_of at file) (objects_ahead f old (left_of begun file)) (objects_ahead f now (left_of at file)) (objects_ahead f new (left_of at file))
      given (keeps_now (λ bs. objects_ahead f old bs) (λ bs. objects_ahead f now bs) (left_of begun file) (left_of at file) (h.same file has))
      (first (left_of at file))

  pub turned_more : ((f : FilterValue) (bytes : List ℕ) → Turns (objects_ahead f now bytes) (objects_ahead f new bytes) bytes Gone)
      → Shrinks now new Gone → Turning a b name f old new begun at
  turned_more turns shrinks = record {
    same = λ file has. keeps_both (λ bs. objects_ahead f old bs) (λ bs. objects_ahead f now bs) (λ bs. objects_ahead f new bs)
        (left_of begun file) (left_of at file) (left_of at file) (h.same file has)
        (record { passed = []; parts = refl; same = λ tail. turns f tail });
    fewer = (let lines = shrinks.0 in let less = shrinks.1 in let so = h.fewer in omega (arith, lines, less, so));
    shorter = λ file has. (let less = shrinks.1 in let so = h.shorter file has in omega (arith, less, so));
    stage = h.stage;
    frame = h.frame;
    spent = h.spent;
  }
