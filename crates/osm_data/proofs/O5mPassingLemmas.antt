-- One dataset that is read, and its object that is taken.
use Rattle.std.proofs.Common.{◌≡◌, ℕ, List, [], ◌∷◌, Option, Some, None, refl, sym, subst, ◌∙◌}
use Rattle.std.specs.Prelude.{Bool, false, IsTrue, ◌↔◌}
use Rattle.std.proofs.lemmas.Option.{same_Some}
use Rattle.std.specs.List.Sorted.{IsStrictlySortedBy}
use Rattle.osm_model.specs.Change.{ChangeValue, IsChange}
use Rattle.osm_model.specs.Data.{IsData, IsLeft}
use Rattle.osm_model.specs.KeyOrder.{key_cmp}
use Rattle.osm_model.specs.declared.kind.Key.{Key}
use Rattle.osm_reading.specs.Answers as answers
use Rattle.osm_reading.specs.declared.refusal.Refusal.{Refusal}
use Rattle.osm_reading.specs.declared.refusal.Refusal.TheVariants.{Fault, WantOfMemory}
use Rattle.osm_o5c.specs.Datasets.{Position, Stops, dataset_at, position, step}
use Rattle.osm_o5c.specs.declared.reader.Reader.{Reader}
use Rattle.osm_data.specs.Steps.Keys.{IsBelow}
use Rattle.osm_data.specs.Steps.O5mReading.{Follows, IsPart, PartStops}

-- a dataset that holds an object is a step to it
pub object_step : (r s : Reader) (bytes rest : List ℕ) (c : ChangeValue) → dataset_at r bytes ≡ Some (Some c, s, rest)
    → step (position r [] bytes) ≡ Some (position s (c ∷ []) rest)
unfolding step
object_step r s bytes rest c e = rw e refl

one_rises : (k : Key) → IsStrictlySortedBy key_cmp (k ∷ [])
unfolding IsStrictlySortedBy
one_rises k = (tt, tt)

follows_below : (last : Option Key) (c : ChangeValue) → IsBelow last c.key → Follows last (c ∷ [])
follows_below None c below = tt
follows_below (Some k) c below = below

-- one object is a part
pub one_part : (last : Option Key) (c : ChangeValue) → IsChange c → IsLeft c → IsBelow last c.key → IsPart last (c ∷ [])
one_part last c limits left below = record {
  right = record { limits = (limits, tt); left = (left, tt); rising = one_rises c.key };
  follows = follows_below last c below;
}

-- a dataset without an object is a step to no object
pub empty_step : (r s : Reader) (bytes rest : List ℕ) → dataset_at r bytes ≡ Some (None, s, rest)
    → step (position r [] bytes) ≡ Some (position s [] rest)
unfolding step
empty_step r s bytes rest e = rw e refl

none_rise : (keys : List Key) → keys ≡ [] → IsStrictlySortedBy key_cmp keys
unfolding IsStrictlySortedBy
none_rise [] e = tt
none_rise (k ∷ keys) e = absurd cc

none_follow : (last : Option Key) → Follows last []
none_follow None = tt
none_follow (Some k) = tt

-- no objects are a part
pub empty_part : (last : Option Key) → IsPart last []
empty_part last = record { right = record { limits = tt; left = tt; rising = none_rise [] refl }; follows = none_follow last }

-- an object that is data by itself is a part
pub next_part : (last : Option Key) (c : ChangeValue) → IsData (c ∷ []) → IsBelow last c.key → IsPart last (c ∷ [])
next_part last c right below = record { right = right; follows = follows_below last c below }

-- an object that isn't data by itself is no part
pub wrong_step : (r s : Reader) (last : Option Key) (bytes rest : List ℕ) (c : ChangeValue) → dataset_at r bytes ≡ Some (Some c, s, rest)
    → (IsData (c ∷ []) → ⊥) → Stops (IsPart last) (step (position r [] bytes))
wrong_step r s last bytes rest c e wrong = λ q found part.
    let same : position s (c ∷ []) rest ≡ q = same_Some (position s (c ∷ []) rest) q (sym (object_step r s bytes rest c e) ∙ found) in
    wrong (subst (λ (p : Position). IsData p.changes) (sym same) part.right)

-- what was tested and isn't so
pub not_below : (b : Bool) (last : Option Key) (k : Key) → (IsTrue b ↔ IsBelow last k) → b ≡ false → IsBelow last k → ⊥
not_below b last k both isnt below = never b (both.1 below) isnt
  where
    never : (d : Bool) → IsTrue d → d ≡ false → ⊥
    never d is isnt = cc

-- if none can be read, nothing is a part
pub refused_step : (r : Reader) (last : Option Key) (bytes : List ℕ) (refusal : Refusal) → answers.Stops refusal (dataset_at r bytes)
    → PartStops last (position r [] bytes) refusal
unfolding step
refused_step r last bytes WantOfMemory none = tt
refused_step r last bytes (Fault why) none = λ q found part. never (step (position r [] bytes)) q (rw none refl) found
  where
    never : (o : Option Position) (q : Position) → o ≡ None → o ≡ Some q → ⊥
    never o q a b = cc

-- an object that isn't above the last one is no part
pub low_step : (r s : Reader) (last : Option Key) (bytes rest : List ℕ) (c : ChangeValue) → dataset_at r bytes ≡ Some (Some c, s, rest)
    → (IsBelow last c.key → ⊥) → Stops (IsPart last) (step (position r [] bytes))
low_step r s last bytes rest c e low = λ q found part.
    let same : position s (c ∷ []) rest ≡ q = same_Some (position s (c ∷ []) rest) q (sym (object_step r s bytes rest c e) ∙ found) in
    low (below_first last c (subst (λ (p : Position). Follows last p.changes) (sym same) part.follows))
  where
    below_first : (k : Option Key) (o : ChangeValue) → Follows k (o ∷ []) → IsBelow k o.key
    below_first None o follows = tt
    below_first (Some k) o follows = follows
