-- One more held sequence, and what is left when held ones are applied.
use Rattle.std.proofs.Common.{◌≡◌, ℕ, ◌+◌, ◌-◌, ◌*◌, ◌<◌, ◌≤◌, List, [], ◌∷◌, ◌++◌, refl, ap, sym, ◌∙◌, true, false}
use Rattle.std.proofs.Common.{arith, None, Some, Option, append-nil, append_assoc, inl, inr}
use Rattle.std.specs.Map.{lookup}
use Rattle.std.specs.Option.{option_map, option_map_or}
use Rattle.std.specs.Prelude.{◌==◌, IfSome, is_some, IsTrue}
use Rattle.std.proofs.lemmas.Bool.{cases_lt, ne_eqb}
use Rattle.osm_holding.specs.Holding as area
use Rattle.osm_holding.specs.Holding.{ChangesAt, HoldingValue, IsHolding}
use Rattle.osm_holding.specs.declared.holding.Held.{Held}
use Rattle.osm_mirror.proofs.MemoryLemmas.{NeedsMemory-after, NeedsMemory-before}
use Rattle.osm_mirror.proofs.MirrorLaws.{stays_kept}
use Rattle.osm_mirror.proofs.MirrorLemmas.{Applies-append}
use Rattle.osm_mirror.specs.Mirror.{Applies, IsWithin, MirrorValue, NeedsMemory}
use Rattle.osm_model.specs.Change.{ChangeValue}
use Rattle.osm_model.specs.Filter.{FilterValue}
use Rattle.osm_model.specs.Limits.{IsPositive, max_changes}
use Rattle.osm_follow.specs.Delivery.{Breaks, Takes}
use Rattle.osm_follow.specs.Follower.{FollowerValue, IsWhole, changes_in, is_in, most_edits, sequence_in, time_in}
use Rattle.osm_publisher.specs.Published.{PublishedValue}
use Rattle.osm_follow.specs.Reach.{Reaches, between}
use Rattle.osm_follow.specs.Steps.Taking.{Drains, Stops, WidensBy}
use Rattle.osm_follow.proofs.ReachLemmas.{all_more, between-append, between-suc, reaches_some}

-- a held sequence, with its number
abbrev pub numbered : ℕ → Held → PublishedValue
numbered number h = record { number = number; changes = h.batch; time = h.time }

pub is_none : (o : Option PublishedValue) → is_some o ≡ false → o ≡ None
is_none None is = refl
is_none (Some p) is = let bad : true ≡ false = is in cc

-- what was applied so far
pub record IsDrained (by : FilterValue) (m : MirrorValue) (holding : HoldingValue) (first : Held) (n : MirrorValue)
    (left : HoldingValue) (last : ℕ) : Type 0 where
  pub count : ℕ
  pub reached : left.reached ≡ holding.reached + 1 + count
  pub all : (j : ℕ) → holding.reached + 1 < j → j ≤ left.reached → is_in holding j ≡ true
  pub applied : Applies by m (first.batch ++ between (changes_in holding) (holding.reached + 1) count) n
  pub within : IsWithin (max_changes * left.reached) n
  pub widened : WidensBy (max_changes * (count + 1)) m n
  pub time : last ≡ time_in holding left.reached first.time
  pub rest : (j : ℕ) → left.reached < j → sequence_in left j ≡ sequence_in holding j

-- growing twice
widened_more : (a b c : ℕ) (m n o : MirrorValue) → WidensBy a m n → WidensBy b n o → c ≡ a + b → WidensBy c m o
widened_more a b c m n o first second sum = record {
  within = λ most w. (let all : most + c ≡ most + a + b = omega (arith, sum) in rw all (second.within (most + a) (first.within most w)));
}

-- the next sequence was held from the start
next_held : (by : FilterValue) (m n : MirrorValue) (holding left : HoldingValue) (first held : Held) (last : ℕ)
    → IsDrained by m holding first n left last → area.held_at left (left.reached + 1) ≡ Some held
    → sequence_in holding (left.reached + 1) ≡ Some (numbered (left.reached + 1) held)
next_held by m n holding left first held last i value =
    sym (i.rest (left.reached + 1) (omega arith)) ∙ ap (option_map (numbered (left.reached + 1))) value

changes_more : (holding : HoldingValue) (count : ℕ) (k : ℕ) (first held : Held) → k ≡ holding.reached + 1 + count + 1
    → sequence_in holding k ≡ Some (numbered k held) → first.batch ++ between (changes_in holding) (holding.reached + 1)
    (count + 1) ≡ (first.batch ++ between (changes_in holding) (holding.reached + 1) count) ++ held.batch
changes_more holding count k first held is there =
    let here : changes_in holding k ≡ held.batch = ap (λ (o : Option PublishedValue). option_map_or (λ (p : PublishedValue). p.changes) o []) there in
    ap (λ (cs : List ChangeValue). first.batch ++ cs) (between-suc (changes_in holding) (holding.reached + 1) count k is
    ∙ ap (λ (cs : List ChangeValue). between (changes_in holding) (holding.reached + 1) count ++ cs) here)
    ∙ sym (append_assoc first.batch (between (changes_in holding) (holding.reached + 1) count) held.batch)

-- one more held sequence was applied
pub drained_more : (by : FilterValue) (m n o : MirrorValue) (holding left mid next : HoldingValue) (first held : Held) (last : ℕ)
    → IsDrained by m holding first n left last → area.held_at left (left.reached + 1) ≡ Some held
    → ChangesAt left mid (left.reached + 1) None → Applies by n held.batch o → next ≡ record mid { reached = mid.reached + 1 }
    → IsWithin (max_changes * next.reached) o → WidensBy max_changes n o
    → IsDrained by m holding first o next held.time
drained_more by m n o holding left mid next first held last i value taken applied moved within widened =
    let k : ℕ = left.reached + 1 in
    let there : sequence_in holding k ≡ Some (numbered k held) = next_held by m n holding left first held last i value in
    let reached : next.reached ≡ k = ap (λ (h : HoldingValue). h.reached) moved ∙ ap (λ (b : ℕ). b + 1) taken.reached in
    let at : left.reached ≡ holding.reached + 1 + i.count = i.reached in
    record {
      count = i.count + 1;
      reached = omega arith;
      all = λ j above below. all_more (is_in holding) (holding.reached + 1) left.reached i.all (ap is_some there) j above (omega arith);
      applied = rw (changes_more holding i.count k first held (omega arith) there)
          (Applies-append by m n o (first.batch ++ between (changes_in holding) (holding.reached + 1) i.count) held.batch
          i.applied applied);
      within = within;
      widened = widened_more (max_changes * (i.count + 1)) max_changes (max_changes * (i.count + 1 + 1)) m n o i.widened widened (omega arith);
      time = rw (reached, there) refl;
      rest = λ j above. ap (λ (h : HoldingValue). sequence_in h j) moved
          ∙ (ap (option_map (numbered j)) (taken.others j (λ e. omega arith)) ∙ i.rest j (omega arith));
    }

-- the application stopped at the first sequence, or at a held one
pub stopped_first : (by : FilterValue) (m : MirrorValue) (holding : HoldingValue) (first : Held)
    → NeedsMemory by m first.batch → Stops by m holding first
stopped_first by m holding first needs = record {
  count = 0;
  all = λ j above below. absurd (omega arith);
  needs = rw (append-nil first.batch) needs;
}

pub stopped_later : (by : FilterValue) (m n : MirrorValue) (holding left : HoldingValue) (first held : Held) (last : ℕ)
    → IsDrained by m holding first n left last → area.held_at left (left.reached + 1) ≡ Some held → NeedsMemory by n held.batch
    → Stops by m holding first
stopped_later by m n holding left first held last i value needs =
    let k : ℕ = left.reached + 1 in
    let at : left.reached ≡ holding.reached + 1 + i.count = i.reached in
    let there : sequence_in holding k ≡ Some (numbered k held) = next_held by m n holding left first held last i value in
    record {
      count = i.count + 1;
      all = λ j above below. all_more (is_in holding) (holding.reached + 1) left.reached i.all (ap is_some there) j above (omega arith);
      needs = rw (changes_more holding i.count k first held (omega arith) there)
          (NeedsMemory-after by m n (first.batch ++ between (changes_in holding) (holding.reached + 1) i.count) held.batch
          i.applied needs);
    }

-- some number is above all that are held
highest : (entries : List (ℕ × Held)) → (most : ℕ) × ((j : ℕ) → most < j → lookup (λ key. j == key) entries ≡ None)
highest [] = (0, λ j above. refl)
highest (e ∷ entries) = let rest = highest entries in (
  rest.0 + e.0,
  λ j above. let other : (j == e.0) ≡ false = ne_eqb j e.0 (λ is. omega arith) in
      rw other (rest.1 j (omega arith)),
)

-- what stops within some of the held sequences stops within all that are reached without a gap
pub breaks : (f g : FollowerValue) (p : PublishedValue) (time : ℕ) → p.number ≡ f.holding.reached + 1
    → Stops f.filter f.mirror f.holding (record { batch = p.changes; time = time }) → g ≡ record f {
      mirror = g.mirror;
      holding =
          g.holding;
      is_broken = true;
    } → Breaks f p g
breaks f g p time number stops rest =
    let most = highest f.holding.entries in
    let none : (j : ℕ) → p.number + most.0 < j → is_in f.holding j ≡ false =
    λ j above. ap (λ (o : Option Held). is_some (option_map (numbered j) o)) (most.1 j (omega arith)) in
    let reached : (m : ℕ) × Reaches (is_in f.holding) p.number m = reaches_some (is_in f.holding) p.number most.0 none in
    let far : p.number + stops.count ≤ reached.0 = elim (cases_lt reached.0 (p.number + stops.count)) [
      | inr within ↦ within
      | inl past ↦ absurd (let from = reached.1.from in
          let is : is_in f.holding (reached.0 + 1) ≡ true = stops.all (reached.0 + 1) (omega arith) (omega arith) in
          let bad : true ≡ false = sym is ∙ reached.1.next in cc)
    ] in
    let more : ℕ = reached.0 - (p.number + stops.count) in
    let needs : NeedsMemory f.filter f.mirror (p.changes ++ between (changes_in f.holding) p.number stops.count) = rw number stops.needs in
    record {
      high = reached.0;
      count = stops.count + more;
      high_is = omega arith;
      reach = reached.1;
      needs = rw (
        ← between-append (changes_in f.holding) p.number stops.count more,
        ← append_assoc p.changes
            (between (changes_in f.holding) p.number stops.count)
            (between (changes_in f.holding) (p.number + stops.count) more),
      )
          (NeedsMemory-before f.filter f.mirror (p.changes ++ between (changes_in f.holding) p.number stops.count)
          (between (changes_in f.holding) (p.number + stops.count) more) needs);
      rest = rest;
    }

-- nothing is held up to the number reached
none_below : (holding : HoldingValue) (j : ℕ) → IsHolding holding → j ≤ holding.reached → sequence_in holding j ≡ None
none_below holding j is below = by_slot (area.held_at holding j) refl
  where
    by_slot : (o : Option Held) → area.held_at holding j ≡ o → option_map (numbered j) o ≡ None
    by_slot None e = refl
    by_slot (Some h) e = absurd (let there : IsTrue (is_some (area.held_at holding j)) = ap is_some e in
        let window = is.within j there in let above = window.above in omega arith)

pub takes : (f g : FollowerValue) (p : PublishedValue) (time last : ℕ) → p.number ≡ f.holding.reached + 1
    → Drains f.filter f.mirror f.holding (record { batch = p.changes; time = p.time }) g.mirror g.holding last
    → IsHolding g.holding → g.number ≡ g.holding.reached → g.base ≡ f.base → g.filter ≡ f.filter → g.time ≡ Some last
    → g.is_broken ≡ false → Takes f p g.holding.reached g
takes f g p time last number d is at base same timed whole = record {
  count = d.count;
  high_is = (let reached = d.reached in omega arith);
  reach = rw number d.reach;
  applied = rw number d.applied;
  number = at;
  base = base;
  same_filter = same;
  time = timed ∙ ap (λ (t : ℕ). Some t) d.time;
  whole = whole;
  gone = λ j below. none_below g.holding j is below;
  rest = d.rest;
}

-- the time of a held sequence, or else the given one, is within the limits
timed_one : (o : Option PublishedValue) (other : ℕ) → IfSome o (λ p. IsPositive p.time) → IsPositive other → IsPositive (option_map_or (λ p. p.time) o other)
timed_one None other one positive = positive
timed_one (Some p) other one positive = one

-- a follower is whole after the application
pub still_whole : (f g : FollowerValue) (first : Held) (last : ℕ) → IsWhole f → IsPositive first.time
    → Drains f.filter f.mirror f.holding first g.mirror g.holding last → IsHolding g.holding → g.number ≡ g.holding.reached
    → g.base ≡ f.base → g.filter ≡ f.filter → g.time ≡ Some last → IsWhole g
still_whole f g first last w positive d is at base same timed =
    let reached = d.reached in
    let from : f.holding.reached ≡ f.number = w.reached in
    let below : f.base ≤ f.number = w.base in
    let most : most_edits g ≡ most_edits f + max_changes * (d.count + 1) = omega arith in
    record {
      base = omega arith;
      counts = rw most (d.widened.within (most_edits f) w.counts);
      kept = rw same (stays_kept f.filter f.mirror g.mirror _ w.kept d.applied);
      timed = rw timed (λ none. absurd (let bad : Some last ≡ None = none in cc), λ zero_is. absurd (omega arith));
      time = rw (timed, d.time) (timed_one (sequence_in f.holding g.holding.reached) first.time (w.times g.holding.reached) positive);
      reached = sym at;
      next = rw at (d.rest (g.holding.reached + 1) (omega arith) ∙ is_none (sequence_in f.holding (g.holding.reached + 1)) d.reach.next);
      times = λ j. elim (cases_lt g.holding.reached j) [
        | inl past ↦ rw (d.rest j past) (w.times j)
        | inr below ↦ rw (none_below g.holding j is below) tt
      ];
    }
