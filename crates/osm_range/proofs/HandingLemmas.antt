-- What was read, written and told, together.
use Rattle.std.proofs.Common.{◌≡◌, ℕ, suc, ◌+◌, ◌<◌, ◌≤◌, List, [], ◌∷◌, length, refl, sym, subst, ◌∙◌, Bool, true, false, Option, Some, None, arith}
use Rattle.std.proofs.Common.{inl, inr}
use Rattle.std.specs.Borrow.{Bor}
use Rattle.std.specs.Prelude.{IsSome, IsTrue, if◌then◌else◌, min, nat_lt}
use Rattle.std.proofs.lemmas.Grind.{common_steps}
use Rattle.osm_model.specs.Change.{ChangeValue}
use Rattle.osm_model.specs.Filter.{FilterValue}
use Rattle.osm_model.specs.declared.kind.Key.{Key}
use Rattle.osm_mirror.specs.Mirror.{AreRising}
use Rattle.osm_publisher.specs.Published.{PublishedValue}
use Rattle.osm_store.specs.Files.{Files, Puts}
use Rattle.osm_store.specs.Frames.{IsKnown, StoreState}
use Rattle.osm_runs.specs.Forms.{HasEnd, text_of}
use Rattle.osm_runs.specs.declared.fault.RunFault.{RunFault}
use Rattle.osm_runs.specs.declared.fault.RunFault.TheVariants as faults
use Rattle.osm_runs.specs.declared.form.Form.{Form}
use Rattle.osm_runs.specs.declared.options.Layout.{Layout}
use Rattle.osm_runs.specs.declared.progress.Progress.{Progress}
use Rattle.osm_runs.specs.Following.{NumberStops}
use Rattle.osm_runs.specs.Progress.{IsOfContent}
use Rattle.osm_range.specs.Ranges.{EndsAt, HasRead, time_after, changes_in}
use Rattle.osm_range.specs.declared.range.Ending.TheVariants as endings
use Rattle.osm_range.specs.declared.range.Range.{Range}
use Rattle.osm_range.specs.declared.range.Reached.{Reached}
use Rattle.osm_range.specs.Handed.{ComeTo, HoldsUnder}
use Rattle.osm_range.specs.Handing.{HandingStops, IsFaultyAtOnce, IsHandedOn, IsTold, Writes, changed_of}
use Rattle.osm_range.specs.Steps.Rising.{RiseAs, changes_in_rows}
use Rattle.osm_range.specs.Steps.Telling.{TellingStops, changed_at}
use Rattle.osm_range.specs.declared.collected.Collected.{Collected}
use Rattle.osm_range.specs.declared.report.Changed.{Changed}
use Rattle.osm_range.proofs.LatestLemmas.{last_of-rising}

-- what is held of sequences is what their changes come to
pub come_to : (f : FilterValue) (ps : List PublishedValue) (latest : List ChangeValue) → AreRising latest → HoldsUnder f ps latest
    → ComeTo f (changes_in ps) latest
come_to f ps latest rising held = record { rising = rising; each = λ k. last_of-rising latest k rising ∙ held k }

-- what was read, under the filter that the taker was given
pub read_under : (known : Type 0) (f : FilterValue) (files : Files) (dir : List ℕ) (range : Range) (taker : Collected) (reached : Reached)
    → taker.filter ≡ f
    → HasRead (λ (t : Collected) (ps : List PublishedValue). HoldsUnder t.filter ps t.latest) known files dir range taker reached
    → HasRead (λ (cs : List ChangeValue) (ps : List PublishedValue). HoldsUnder f ps cs) known files dir range taker.latest reached
read_under known f files dir range taker reached same has = record {
  sequences = has.sequences;
  held = subst (λ (g : FilterValue). HoldsUnder g has.sequences taker.latest) same has.held;
  read = has.read;
}

-- the same of rows that have the changes of the taker by rising keys
pub read_rising : (known : Type 0) (f : FilterValue) (files : Files) (dir : List ℕ) (range : Range) (latest : List ChangeValue)
    (rows : List (Key × Bor ChangeValue)) (reached : Reached) → RiseAs latest rows
    → HasRead (λ (cs : List ChangeValue) (ps : List PublishedValue). HoldsUnder f ps cs) known files dir range latest reached
    → HasRead (λ (cs : List ChangeValue) (ps : List PublishedValue). HoldsUnder f ps cs) known files dir range (changes_in_rows rows) reached
read_rising known f files dir range latest rows reached rise has = record {
  sequences = has.sequences;
  held = λ k. rise.each k ∙ has.held k;
  read = has.read;
}

-- ---- whether a number was read

none_before : (range : Range) (number : ℕ) (latest : List ChangeValue) → number < range.from → changed_at range number latest ≡ None
none_before range number latest below =
    let test : nat_lt number range.from ≡ true = grind (arith, common_steps) in
    rw test refl

some_within : (range : Range) (number : ℕ) (latest : List ChangeValue) → range.from ≤ number
    → changed_at range number latest ≡ Some (changed_of range number latest)
some_within range number latest above =
    let test : nat_lt number range.from ≡ false = grind (arith, common_steps) in
    rw test refl

pub writes_is : (known : Type 0) (f : FilterValue) (form : Form) (range : Range) (output : List ℕ) (ps : List PublishedValue) (number : ℕ) (old new : Files)
    (latest : List ChangeValue) → number + 1 ≡ range.from + length ps → AreRising latest → HoldsUnder f ps latest
    → (changed_at range number latest ≡ None → new ≡ old)
    → (IsSome (changed_at range number latest) → known → Puts old output (Some (text_of form latest)) new)
    → Writes known f form range output ps number old new (changed_at range number latest)
writes_is known f form range output [] number old new latest at rising held none put =
    let below : number < range.from = (let e : range.from + 0 ≡ range.from = omega arith in omega (arith, at, e)) in
    let is = none_before range number latest below in
    (is, none is)
writes_is known f form range output (p ∷ ps) number old new latest at rising held none put =
    let above : range.from ≤ number = (let e : range.from + suc (length ps) ≡ range.from + length ps + 1 = omega arith in omega (arith, at, e)) in
    let is = some_within range number latest above in
    (latest, come_to f (p ∷ ps) latest rising held, is, put (subst (λ (o : Option Changed). IsSome o) (sym is) refl))

pub handed_on : (known : Type 0) (f : FilterValue) (layout : Layout) (dir output : List ℕ) (range : Range) (old new : Files) (progress : Progress)
    (form : Form) (reached : Reached) (latest : List ChangeValue) → HasEnd output form
    → HasRead (λ (cs : List ChangeValue) (ps : List PublishedValue). HoldsUnder f ps cs) known old dir range latest reached → AreRising latest
    → (changed_at range reached.number latest ≡ None → new ≡ old)
    → (IsSome (changed_at range reached.number latest) → known → Puts old output (Some (text_of form latest)) new)
    → IsTold layout (changed_at range reached.number latest) reached.ending progress
    → IsHandedOn known f layout dir output range old new progress
handed_on known f layout dir output range old new progress form reached latest end has rising none put told = record {
  form = form;
  end = end;
  sequences = has.sequences;
  reached = reached;
  read = has.read;
  changed = changed_at range reached.number latest;
  writes = writes_is known f form range output has.sequences reached.number old new latest has.read.number rising has.held none put;
  told = told;
}

-- the same, where what was read and what is said are known by equations
pub handed_at : (a b d : StoreState) (f : FilterValue) (layout : Layout) (dir output : List ℕ) (range : Range) (progress : Progress)
    (form : Form) (reached : Reached) (latest : List ChangeValue) (changed : Option Changed) → HasEnd output form
    → HasRead (λ (cs : List ChangeValue) (ps : List PublishedValue). HoldsUnder f ps cs) (IsKnown a) a.files dir range latest reached → AreRising latest
    → b.files ≡ a.files → b.is_known ≡ a.is_known → changed ≡ changed_at range reached.number latest
    → (changed ≡ None → d.files ≡ b.files)
    → (IsSome changed → IsKnown b → Puts b.files output (Some (text_of form latest)) d.files)
    → IsTold layout changed reached.ending progress
    → IsHandedOn (IsKnown a) f layout dir output range a.files d.files progress
handed_at a b d f layout dir output range progress form reached latest changed end has rising files same is none put told =
    handed_on (IsKnown a) f layout dir output range a.files d.files progress form reached latest end has rising (λ no. none (is ∙ no) ∙ files)
    (λ some known. subst (λ (x : Files). Puts x output (Some (text_of form latest)) d.files) files
    (put (subst (λ (o : Option Changed). IsSome o) (sym is) some) (subst (λ (t : Bool). IsTrue t) (sym same) known)))
    (subst (λ (o : Option Changed). IsTold layout o reached.ending progress) is told)

-- ---- why no changes are handed on

pub memory_stops : (known : Type 0) (files : Files) (dir output : List ℕ) (range : Range) → HandingStops known files dir output range faults.WantOfMemory
memory_stops known files dir output range = inl (inl tt)

-- nothing was read, and nothing is told
none_only : (range : Range) (number : ℕ) (latest : List ChangeValue) → changed_at range number latest ≡ None → number < range.from
none_only range number latest none = by_test (nat_lt number range.from) refl none
  where
    by_test : (b : Bool) → nat_lt number range.from ≡ b → (if b then None else Some (changed_of range number latest)) ≡ None → number < range.from
    by_test true e none = grind (arith, common_steps)
    by_test false e none = absurd (let bad : None ≡ Some (changed_of range number latest) = sym none in cc)

no_time : (number from : ℕ) (ps : List PublishedValue) → number + 1 ≡ from + length ps → number < from → time_after None ps ≡ None
no_time number from [] at below = refl
no_time number from (p ∷ ps) at below =
    absurd (let e : from + suc (length ps) ≡ from + length ps + 1 = omega arith in omega (arith, at, below, e))

content_stops : (known : Type 0) (files : Files) (dir output : List ℕ) (range : Range) (fault : RunFault) → IsOfContent fault range.from
    → IsFaultyAtOnce known files dir range fault → HandingStops known files dir output range fault
content_stops known files dir output range faults.UnknownForm is stops = absurd is
content_stops known files dir output range (faults.WriteFault file) is stops = absurd is
content_stops known files dir output range fault is stops = inr stops

pub telling_stops : (known : Type 0) (f : FilterValue) (files : Files) (dir output : List ℕ) (range : Range) (reached : Reached)
    (latest : List ChangeValue) (fault : RunFault) → HasRead (λ (cs : List ChangeValue) (ps : List PublishedValue). HoldsUnder f ps cs) known files dir range
    latest reached → TellingStops (changed_at range reached.number latest) reached.ending fault → HandingStops known files dir output range fault
telling_stops known f files dir output range reached latest fault has (inl memory) =
    subst (HandingStops known files dir output range) (sym memory) (memory_stops known files dir output range)
telling_stops known f files dir output range reached latest fault has (inr told) =
    let number = has.read.number in
    let below : reached.number < range.from = none_only range reached.number latest told.0 in
    let first : reached.number + 1 ≡ range.from = omega (arith, number, below) in
    let time : reached.time ≡ None = has.read.time ∙ no_time reached.number range.from has.sequences number below in
    let ends : EndsAt known files dir (min range.to reached.top) reached.number reached.time (endings.Faulty fault) =
    subst (EndsAt known files dir (min range.to reached.top) reached.number reached.time) told.1 has.read.ends in
    let content : IsOfContent fault range.from = subst (IsOfContent fault) first ends.1 in
    content_stops known files dir output range fault content (record {
      range_is = has.read.range_is;
      top = reached.top;
      begins = has.read.begins;
      top_is = has.read.top;
      content = content;
      stops = subst (λ (t : Option ℕ). NumberStops known dir files t range.from fault) time
          (subst (λ (n : ℕ). NumberStops known dir files reached.time n fault) first ends.2);
    })
