-- The written text of changes within the limits spells them.
use Rattle.std.proofs.Common.{◌≡◌, ℕ, Bool, true, false, cond, List, [], ◌∷◌, ◌++◌, length, Option, Some}
use Rattle.std.proofs.Common.{None, refl, sym, ap, subst, ◌∙◌, append_assoc, arith}
use Rattle.std.specs.Prelude.{pos}
use Rattle.std.specs.List.{AllByRecursion}
use Rattle.std.proofs.lemmas.Int.{ints}
use Rattle.std.proofs.lemmas.List.{append-nil}
use Rattle.osm_model.specs.Batch.{IsBatch}
use Rattle.osm_model.specs.Change.{ChangeValue, IsChange}
use Rattle.osm_model.specs.Data.{IsData}
use Rattle.osm_model.specs.Limits.{IsId}
use Rattle.osm_model.specs.declared.kind.Kind.{Kind}
use Rattle.osm_o5c.specs.Context.{Context, fresh}
use Rattle.osm_o5c.specs.Written.{no_counters, new_state, number_text, dataset_text, object_text, after_object}
use Rattle.osm_o5c.specs.Written.{is_other, reset_text, state_before, change_text, after_change, objects_text, file_text}
use Rattle.osm_o5c.specs.Written.{o5c_text, o5m_text}
use Rattle.osm_o5c.specs.Shortest.{last_kind, ends_in_reset, IsShortestFront, IsShortest}
use Rattle.osm_o5c.specs.NumberReading.{wrapped_of}
use Rattle.osm_o5c.specs.File.{beginning, data_beginning, object, reset, Front, begin, next, SpellsFile, SpellsO5c, SpellsData}
use Rattle.osm_model.specs.Files.{AreLimits}
use Rattle.osm_o5c.specs.declared.writer.State.{State}
use Rattle.osm_o5c.proofs.FieldLemmas.{counters_of}
use Rattle.osm_model.proofs.FileLimitLemmas.{batch_limits, data_limits}
use Rattle.osm_o5c.proofs.FrontLemmas.{front_right}
use Rattle.osm_o5c.proofs.WrittenNumbers.{number_spells, fewest_bytes}
use Rattle.osm_o5c.proofs.KnownLemmas.{IsKnown}
use Rattle.osm_o5c.proofs.WrittenLists.{Bounds, IsState}
use Rattle.osm_o5c.proofs.WrittenObjects.{ObjectWritten, object_written, object_short}

fresh_counters : counters_of fresh ≡ no_counters
unfolding wrapped_of
fresh_counters = refl

zero_id : IsId (pos 0)
zero_id = record { low = omega (arith, ints); high = omega (arith, ints) }

no_bounds : Bounds no_counters
no_bounds = record {
  id = zero_id;
  time_low = omega (arith, ints);
  time_high = omega (arith, ints);
  changeset_low =
      omega (arith, ints);
  changeset_high = omega (arith, ints);
  way_node = zero_id;
  node_member = zero_id;
  way_member =
      zero_id;
  relation_member = zero_id;
}

new_known : IsKnown [] []
new_known = record { are = refl; clean = tt }

-- the position of a writer: after a shortest valid prefix, in this state, directly after a reset or not
record At (start : List ℕ) (Limits : List ChangeValue → Type 0) (prefix : List ℕ) (xs : List ChangeValue) (s : State)
    (after_reset : Bool) : Type 0 where
  context : Context
  is_front : Front start Limits prefix context xs
  state_is : IsState context s
  bounds : Bounds s.counters
  shortest : IsShortestFront is_front
  ends : ends_in_reset is_front ≡ after_reset

at_same : (start : List ℕ) (Limits : List ChangeValue → Type 0) (prefix other : List ℕ) (xs : List ChangeValue) (s : State)
    (b : Bool) → prefix ≡ other → At start Limits prefix xs s b → At start Limits other xs s b
at_same start Limits prefix other xs s b e a = subst (λ (p : List ℕ). At start Limits p xs s b) e a

-- a reset, if there is one
reset_written : (start : List ℕ) (Limits : List ChangeValue → Type 0) → AreLimits Limits → (b : Bool) (prefix : List ℕ)
    (xs : List ChangeValue) (s : State) → At start Limits prefix xs s false
    → At start Limits (prefix ++ cond b (255 ∷ []) []) xs (cond b new_state s) b
reset_written start Limits are true prefix xs s a = record {
  context = fresh;
  is_front = next prefix a.context xs (255 ∷ []) None fresh a.is_front (reset a.context)
      (front_right start Limits are prefix a.context xs a.is_front);
  state_is = record { counters_are = fresh_counters; known = new_known };
  bounds = no_bounds;
  shortest = (a.shortest, a.ends);
  ends = refl;
}
reset_written start Limits are false prefix xs s a = at_same start Limits prefix (prefix ++ []) xs s false (sym (append-nil prefix)) a

dataset_written : (start : List ℕ) (Limits : List ChangeValue → Type 0) (prefix : List ℕ) (xs : List ChangeValue) (s : State)
    (b : Bool) (c : ChangeValue) → At start Limits prefix xs s b → b ≡ is_other (last_kind xs) c.key.kind → IsChange c
    → Limits (xs ++ c ∷ []) → At start Limits (prefix ++ dataset_text s c) (xs ++ c ∷ []) (after_object s c) false
dataset_written start Limits prefix xs s b c a kind l right =
    let w : ObjectWritten a.context s c = object_written a.context s c a.state_is a.bounds l in
    let n = number_spells (length (object_text s c)) (object_short s c l) in
    record {
      context = w.after;
      is_front = next prefix a.context xs (dataset_text s c) (Some c) w.after a.is_front
          (object a.context (number_text (length (object_text s c))) (object_text s c) c w.after n w.spells) right;
      state_is = w.state_is;
      bounds = w.bounds;
      shortest = (a.shortest, ((λ other o. fewest_bytes other (length (object_text s c)) o), w.shortest, a.ends ∙ kind));
      ends = refl;
    }

change_written : (start : List ℕ) (Limits : List ChangeValue → Type 0) → AreLimits Limits → (before : Option Kind)
    (prefix : List ℕ) (xs : List ChangeValue) (s : State) (c : ChangeValue) → At start Limits prefix xs s false
    → last_kind xs ≡ before → IsChange c → Limits (xs ++ c ∷ [])
    → At start Limits (prefix ++ change_text before s c) (xs ++ c ∷ []) (after_change before s c) false
change_written start Limits are before prefix xs s c a last l right =
    let first : At start Limits (prefix ++ reset_text before c.key.kind) xs (state_before before s c.key.kind)
    (is_other before c.key.kind) = reset_written start Limits are (is_other before c.key.kind) prefix xs s a in
    at_same start Limits
    ((prefix ++ reset_text before c.key.kind) ++ dataset_text (state_before before s c.key.kind) c)
    (prefix ++ change_text before s c) (xs ++ c ∷ []) (after_change before s c) false
    (append_assoc prefix (reset_text before c.key.kind) (dataset_text (state_before before s c.key.kind) c))
    (dataset_written start Limits (prefix ++ reset_text before c.key.kind) xs (state_before before s c.key.kind)
    (is_other before c.key.kind) c first (ap (λ (k : Option Kind). is_other k c.key.kind) (sym last)) l right)

record Behind (start : List ℕ) (Limits : List ChangeValue → Type 0) (prefix : List ℕ) (xs : List ChangeValue) : Type 0 where
  context : Context
  is_front : Front start Limits prefix context xs
  shortest : IsShortestFront is_front
  ends : ends_in_reset is_front ≡ false

behind_same : (start : List ℕ) (Limits : List ChangeValue → Type 0) (prefix other : List ℕ) (xs ys : List ChangeValue)
    → prefix ≡ other → xs ≡ ys → Behind start Limits prefix xs → Behind start Limits other ys
behind_same start Limits prefix other xs ys e k b = rw (← e, ← k) b

last_kind-push : (xs : List ChangeValue) (c : ChangeValue) → last_kind (xs ++ c ∷ []) ≡ Some c.key.kind
last_kind-push [] c = refl
last_kind-push (x ∷ []) c = refl
last_kind-push (x ∷ y ∷ xs) c = last_kind-push (y ∷ xs) c

objects_written : (start : List ℕ) (Limits : List ChangeValue → Type 0) → AreLimits Limits → (before : Option Kind)
    (prefix : List ℕ) (xs : List ChangeValue) (s : State) (cs : List ChangeValue) → At start Limits prefix xs s false
    → last_kind xs ≡ before → AllByRecursion IsChange cs → Limits (xs ++ cs)
    → Behind start Limits (prefix ++ objects_text before s cs) (xs ++ cs)
objects_written start Limits are before prefix xs s [] a last each right =
    behind_same start Limits prefix (prefix ++ []) xs (xs ++ [])
    (sym (append-nil prefix)) (sym (append-nil xs)) (record {
      context = a.context;
      is_front = a.is_front;
      shortest =
          a.shortest;
      ends = a.ends;
    })
objects_written start Limits are before prefix xs s (c ∷ cs) a last each right =
    let whole : Limits ((xs ++ c ∷ []) ++ cs) = subst (λ l. Limits l) (sym (append_assoc xs (c ∷ []) cs)) right in
    let one : At start Limits (prefix ++ change_text before s c) (xs ++ c ∷ []) (after_change before s c) false =
    change_written start Limits are before prefix xs s c a last each.0 (are.first (xs ++ c ∷ []) cs whole) in
    behind_same start Limits
    ((prefix ++ change_text before s c) ++ objects_text (Some c.key.kind) (after_change before s c) cs)
    (prefix ++ (change_text before s c ++ objects_text (Some c.key.kind) (after_change before s c) cs))
    ((xs ++ c ∷ []) ++ cs) (xs ++ c ∷ cs)
    (append_assoc prefix (change_text before s c) (objects_text (Some c.key.kind) (after_change before s c) cs)) (append_assoc xs (c ∷ []) cs)
    (objects_written start Limits are (Some c.key.kind) (prefix ++ change_text before s c) (xs ++ c ∷ [])
    (after_change before s c) cs one (last_kind-push xs c) each.1 whole)

written : (start : List ℕ) (Limits : List ChangeValue → Type 0) → AreLimits Limits → (changes : List ChangeValue)
    → AllByRecursion IsChange changes → Limits changes
    → Behind start Limits (start ++ objects_text None new_state changes) changes
written start Limits are changes each right =
    objects_written start Limits are None start [] new_state changes (record {
      context = fresh;
      is_front = begin;
      state_is =
          record { counters_are = fresh_counters; known = new_known };
      bounds = no_bounds;
      shortest = tt;
      ends = refl;
    })
    refl each right

file_spells : (start : List ℕ) (Limits : List ChangeValue → Type 0) → AreLimits Limits → (changes : List ChangeValue)
    → AllByRecursion IsChange changes → Limits changes → SpellsFile start Limits (file_text start changes) changes
file_spells start Limits are changes each right =
    let b = written start Limits are changes each right in
    record {
      prefix = start ++ objects_text None new_state changes;
      context = b.context;
      is_front = b.is_front;
      whole = refl;
    }

file_shortest : (start : List ℕ) (Limits : List ChangeValue → Type 0) (are : AreLimits Limits) (changes : List ChangeValue)
    (each : AllByRecursion IsChange changes) (right : Limits changes)
    → IsShortest (file_spells start Limits are changes each right)
unfolding file_spells
file_shortest start Limits are changes each right =
    let b = written start Limits are changes each right in
    (b.shortest, b.ends)

pub text_spells : (batch : List ChangeValue) → IsBatch batch → SpellsO5c (o5c_text batch) batch
text_spells batch l = file_spells beginning IsBatch batch_limits batch l.each l

pub text_shortest : (batch : List ChangeValue) (l : IsBatch batch) → IsShortest (text_spells batch l)
unfolding text_spells
text_shortest batch l = file_shortest beginning IsBatch batch_limits batch l.each l

pub data_spells : (objects : List ChangeValue) → IsData objects → SpellsData (o5m_text objects) objects
data_spells objects l = file_spells data_beginning IsData data_limits objects l.limits l

pub data_shortest : (objects : List ChangeValue) (l : IsData objects) → IsShortest (data_spells objects l)
unfolding data_spells
data_shortest objects l = file_shortest data_beginning IsData data_limits objects l.limits l
