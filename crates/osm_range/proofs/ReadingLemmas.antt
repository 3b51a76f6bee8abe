-- Sequences that are read one after the other.
use Rattle.std.proofs.Common.{◌≡◌, ℕ, suc, ◌+◌, ◌<◌, ◌≤◌, List, [], ◌∷◌, ◌++◌, length, refl, sym, ap, subst, ◌∙◌, Option, Some, None, arith}
use Rattle.std.proofs.Common.{inl, inr, true, length-append}
use Rattle.std.specs.Prelude.{◌⊎◌, Result, Ok, Err, IfErr, IfOk, OnOk}
use Rattle.std.specs.List.{AllByRecursion}
use Rattle.std.proofs.lemmas.Bool.{cases_lt}
use Rattle.osm_model.specs.Limits.{max_sequence}
use Rattle.osm_publisher.specs.Published.{PublishedValue}
use Rattle.osm_store.specs.Files.{Files}
use Rattle.osm_runs.specs.Following.{IsNumber, IsReadable, NumberStops}
use Rattle.osm_runs.specs.Progress.{IsOfContent}
use Rattle.osm_runs.specs.declared.fault.RunFault.{RunFault}
use Rattle.osm_runs.proofs.TakingLemmas.{content_of}
use Rattle.osm_range.specs.Ranges.{AreRead, StopsInside, time_after}
use Rattle.osm_range.specs.Steps.Reading.{HasTaken, StopsAtPlace, TakesNumber}
use Rattle.osm_range.specs.Taking.{HasBatch, IsHolding}
use Rattle.osm_range.specs.declared.reading.Place.{Place}

-- one more sequence
pub read_more : (known : Type 0) (files : Files) (dir : List ℕ) (before : Option ℕ) (number k : ℕ) (ps : List PublishedValue) (p : PublishedValue)
    → AreRead known files dir before number ps → k ≡ number + length ps → p.number ≡ k
    → IsNumber known files dir (time_after before ps) k p.time p.changes → AreRead known files dir before number (ps ++ p ∷ [])
read_more known files dir before number k [] p are at is new =
    let same : k ≡ number = (let e : number + 0 ≡ number = omega arith in at ∙ e) in
    (is ∙ same, subst (λ (n : ℕ). IsNumber known files dir before n p.time p.changes) same new, tt)
read_more known files dir before number k (q ∷ ps) p are at is new =
    let next : k ≡ number + 1 + length ps = (let e : number + suc (length ps) ≡ number + 1 + length ps = omega arith in at ∙ e) in
    (are.0, are.1, read_more known files dir (Some q.time) (number + 1) k ps p are.2 next is new)

pub time_more : (before : Option ℕ) (ps : List PublishedValue) (p : PublishedValue) → time_after before (ps ++ p ∷ []) ≡ Some p.time
time_more before [] p = refl
time_more before (q ∷ ps) p = time_more (Some q.time) ps p

-- their changes are within the limits
pub read_batches : (known : Type 0) (files : Files) (dir : List ℕ) (before : Option ℕ) (number : ℕ) (ps : List PublishedValue)
    → AreRead known files dir before number ps → AllByRecursion HasBatch ps
read_batches known files dir before number [] are = tt
read_batches known files dir before number (p ∷ ps) are = (are.1.limits, read_batches known files dir (Some p.time) (number + 1) ps are.2)

-- each of them has its files
pub read_has : (known : Type 0) (files : Files) (dir : List ℕ) (before : Option ℕ) (number : ℕ) (ps : List PublishedValue)
    → AreRead known files dir before number ps → known → (k : ℕ) → number ≤ k → k < number + length ps → IsReadable files dir k
read_has known files dir before number [] are sure k above under =
    absurd (let e : number + 0 ≡ number = omega arith in omega (arith, above, under, e))
read_has known files dir before number (p ∷ ps) are sure k above under =
    by_order (cases_lt number k) (λ past. read_has known files dir (Some p.time) (number + 1) ps are.2 sure k (omega (arith, past))
    (let e : number + suc (length ps) ≡ number + 1 + length ps = omega arith in omega (arith, under, e)))
  where
    by_order : (number < k) ⊎ (k ≤ number) → (number < k → IsReadable files dir k) → IsReadable files dir k
    by_order (inl past) rest = rest past
    by_order (inr at) rest =
        let same : number ≡ k = omega (arith, above, at) in
        ((let q : PublishedValue = record { number = number; changes = p.changes; time = p.time } in q), same, are.1.there sure)

-- ---- what a taker has taken

pub taken_none : {T : Type 0} (holds : T → List PublishedValue → Type 0) (known : Type 0) (files : Files) (dir : List ℕ) (taker : T) (place : Place)
    → holds taker [] → place.time ≡ None → HasTaken holds known files dir (place.number + 1) taker place
taken_none holds known files dir taker place none time = record {
  sequences = [];
  held = none;
  are = tt;
  number = (let e : place.number + 1 ≡ place.number + 1 + 0 = omega arith in e);
  time = time;
}

pub taken_more : {T : Type 0} (holds : T → List PublishedValue → Type 0) (known : Type 0) (files : Files) (dir : List ℕ) (from number : ℕ) (old new : T)
    (place to : Place) → HasTaken holds known files dir from old place → number ≡ place.number + 1
    → TakesNumber holds known files dir number old new place to true → HasTaken holds known files dir from new to
taken_more holds known files dir from number old new place to has at (p, is, num, to_is, more) =
    let counted : number ≡ from + length has.sequences = at ∙ has.number in
    record {
      sequences = has.sequences ++ p ∷ [];
      held = more has.sequences has.held;
      are = read_more known files dir None from number has.sequences p has.are counted is
          (subst (λ (t : Option ℕ). IsNumber known files dir t number p.time p.changes) has.time num);
      number = (
          let one : length (has.sequences ++ p ∷ []) ≡ length has.sequences + 1 = length-append has.sequences (p ∷ []) in
          let there : to.number ≡ number = ap (λ (q : Place). q.number) to_is in
          let e : to.number + 1 ≡ from + length (has.sequences ++ p ∷ []) = omega (arith, one, there, counted) in
          e
          );
      time = ap (λ (q : Place). q.time) to_is ∙ sym (time_more None has.sequences p);
    }

-- a taker that may be given one more number
pub taken_holding : {T : Type 0} (holds : T → List PublishedValue → Type 0) (known : Type 0) (files : Files) (dir : List ℕ) (from last : ℕ) (taker : T)
    (place : Place) → HasTaken holds known files dir from taker place → 0 < from → place.number < last → last ≤ max_sequence → IsHolding holds taker
taken_holding holds known files dir from last taker place has above below most =
    let number = has.number in
    record {
      before = has.sequences;
      held = has.held;
      few = (let few : length has.sequences < last = omega (arith, number, above, below) in omega (arith, few, most));
      each = read_batches known files dir None from has.sequences has.are;
    }

-- ---- where taking ends

-- where a reading ends before a faulty file, the taker and the place are what they were
pub same_at_end : {T : Type 0} (P : T → Place → Type 0) (old new : T) (place to : Place) (fault : RunFault) (r : Result (Option RunFault) RunFault)
    → IfOk r (λ end. (end ≡ Some fault) × ((k : ℕ) × IsOfContent fault k))
    → ((k : ℕ) → IsOfContent fault k → (new ≡ old) × (to ≡ place)) → P old place → OnOk r (P new to)
same_at_end P old new place to fault (Ok end) is same holds =
    let still = same is.1.0 is.1.1 in
    subst (λ t. P t to) (sym still.0) (subst (P old) (sym still.1) holds)
same_at_end P old new place to fault (Err e) is same holds = tt

pub faulty_end : (known : Type 0) (files : Files) (dir : List ℕ) (last : ℕ) (place to : Place) (fault : RunFault) (r : Result (Option RunFault) RunFault)
    → IfOk r (λ end. (end ≡ Some fault) × ((k : ℕ) × IsOfContent fault k)) → ((k : ℕ) → IsOfContent fault k → to ≡ place)
    → place.number < last → NumberStops known dir files place.time (place.number + 1) fault → IfOk r (StopsAtPlace known files dir last to)
faulty_end known files dir last place to fault (Ok end) is same below stops =
    subst (λ (q : Place). StopsAtPlace known files dir last q end) (sym (same is.1.0 is.1.1))
    (subst (StopsAtPlace known files dir last place) (sym is.0)
    (below, content_of known dir files place.time (place.number + 1) is.1.0 fault stops is.1.1, stops))
faulty_end known files dir last place to fault (Err e) is same below stops = tt

-- another fault refuses the reading
pub refused_end : {T : Type 0} (holds : T → List PublishedValue → Type 0) (known : Type 0) (files : Files) (dir : List ℕ) (from last : ℕ) (taker : T)
    (place : Place) (fault : RunFault) (r : Result (Option RunFault) RunFault)
    → IfErr r (λ x. (x ≡ fault) × ((k : ℕ) → IsOfContent fault k → ⊥)) → HasTaken holds known files dir from taker place
    → place.number < last → NumberStops known dir files place.time (place.number + 1) fault → IfErr r (StopsInside known files dir from last)
refused_end holds known files dir from last taker place fault (Ok end) is has below stops = tt
refused_end holds known files dir from last taker place fault (Err x) is has below stops =
    let number = has.number in
    record {
      number = place.number + 1;
      above = omega (arith, number);
      until = omega (arith, below);
      each = λ sure k above under. read_has known files dir None from has.sequences has.are sure k above
          (let e : k < from + length has.sequences = omega (arith, number, under) in e);
      plain = subst (λ (y : RunFault). (k : ℕ) → IsOfContent y k → ⊥) (sym is.0) is.1;
      before = place.time;
      stops = subst (NumberStops known dir files place.time (place.number + 1)) (sym is.0) stops;
    }
