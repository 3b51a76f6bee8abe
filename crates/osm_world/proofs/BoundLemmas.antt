-- The bounds on the numbers of a legal history.
use Rattle.std.proofs.Common.{◌≡◌, ℕ, ◌+◌, ◌<◌, ◌≤◌, List, [], ◌∷◌, ◌++◌, length, refl, sym, ◌∙◌, Bool, true, false, arith, inl, inr, length-append}
use Rattle.std.specs.Prelude.{◌==◌, ◌||◌, Contains}
use Rattle.std.proofs.lemmas.Bool.{cases_lt, eqb-true, or_cases, or_right}
use Rattle.osm_model.specs.Filter.{FilterValue}
use Rattle.osm_world.specs.History as hist
use Rattle.osm_world.specs.Legal.{IsLegal, IsWanted, Allowed}
use Rattle.osm_publisher.specs.Published.{PublishedValue}
use Rattle.osm_follow.specs.Reach.{Reaches}
use Rattle.osm_follow.specs.View.{ViewValue}
use Rattle.osm_world.specs.declared.event.Event.{Event}
use Rattle.osm_world.specs.declared.event.Event.TheVariants.{Begin, Edit, Close, Deliver, Show, Save, Restart}
use Rattle.osm_world.specs.declared.event.Reply.{Reply}
use Rattle.osm_world.specs.declared.event.Reply.TheVariants.{Edited, BatchFull, WantOfMemory, Closed, SequenceFull}
use Rattle.osm_world.specs.declared.event.Reply.TheVariants.{TimeBack, TooLarge, NotPublished, Broken, Old, Again}
use Rattle.osm_world.specs.declared.event.Reply.TheVariants.{TooEarly, Held, Applied, Broke, Shown, Saved, Restarted, Begun}
use Rattle.osm_world.proofs.ReachLemmas.{reaches_more}
use Rattle.osm_world.proofs.ReportLemmas.{legal_before}

-- if count sequences were published: the number saved last, the start and the accepted numbers were
-- published, and the accepted ones are among the 64 after the number
record IsBounded (count saved start : ℕ) (acc : ℕ → Bool) : Type 0 where
  saved_in : saved ≤ count
  start_in : start ≤ count
  accepted_in : (j : ℕ) → acc j ≡ true → j ≤ count
  window : (n j : ℕ) → Reaches acc start n → acc j ≡ true → j ≤ n + 64

abbrev Bounded : hist.History → Type 0
Bounded h = IsBounded (length (hist.published_of h)) (hist.saved_of h) (hist.start_of h) (hist.accepted_of h)

number_in : (count saved start n : ℕ) (acc : ℕ → Bool) → IsBounded count saved start acc → Reaches acc start n → n ≤ count
number_in count saved start n acc b reach = elim (cases_lt start n) [
  | inl above ↦ b.accepted_in n (reach.all n above (omega arith))
  | inr none ↦ (let first = b.start_in in omega arith)
]

-- one more sequence was published
more_published : (published : List PublishedValue) (p : PublishedValue) (saved start : ℕ) (acc : ℕ → Bool)
    → IsBounded (length published) saved start acc → IsBounded (length (published ++ p ∷ [])) saved start acc
more_published published p saved start acc b =
    let many : length (published ++ p ∷ []) ≡ length published + length (p ∷ []) = length-append published (p ∷ []) in
    record {
      saved_in = (let old = b.saved_in in omega arith);
      start_in = (let old = b.start_in in omega arith);
      accepted_in = λ j has. (let old = b.accepted_in j has in omega arith);
      window = b.window;
    }

-- a wanted sequence was accepted
one_accepted : (h : hist.History) (k m : ℕ) → IsWanted h k m → Bounded h → IsBounded (length (hist.published_of h))
    (hist.saved_of h) (hist.start_of h) (λ j. (k == j) || hist.accepted_of h j)
one_accepted h k m wanted b = record {
  saved_in = b.saved_in;
  start_in = b.start_in;
  accepted_in = λ j has. elim (or_cases (k == j) (hist.accepted_of h j) has) [
    | inl is ↦ (let same : k ≡ j = eqb-true k j is in let there = wanted.is_open.there in omega arith)
    | inr was ↦ b.accepted_in j was
  ];
  window = λ n j reach has. (
      let more : m ≤ n = reaches_more (hist.accepted_of h) (λ i. (k == i) || hist.accepted_of h i) (hist.start_of h) m n
      wanted.is_open.number reach (λ i t. or_right (k == i) (hist.accepted_of h i) t) in
      elim (or_cases (k == j) (hist.accepted_of h j) has) [
        | inl is ↦ (let same : k ≡ j = eqb-true k j is in let within = wanted.within in omega arith)
        | inr was ↦ (let old : j ≤ m + 64 = b.window m j wanted.is_open.number was in omega arith)
      ]);
}

none_accepted : (count saved start : ℕ) → saved ≤ count → start ≤ count → IsBounded count saved start (λ j. false)
none_accepted count saved start s t = record {
  saved_in = s;
  start_in = t;
  accepted_in = λ j has. absurd (let bad : false ≡ true = has in cc);
  window = λ n j reach has. absurd (let bad : false ≡ true = has in cc);
}

bounded : (filter : FilterValue) (h : hist.History) → IsLegal filter h → Bounded h
bounded filter [] legal = none_accepted 0 0 0 (omega arith) (omega arith)
bounded filter (p ∷ h) legal = by_pair p.0 p.1 (legal.each [] h p.0 p.1 refl) (bounded filter h (legal_before filter h p.0 p.1 legal))
  where
    by_pair : (e : Event) (r : Reply) → Allowed filter h e r → Bounded h → Bounded ((e, r) ∷ h)
    by_pair (Edit c) Edited a before = before
    by_pair (Edit c) BatchFull a before = before
    by_pair (Edit c) WantOfMemory a before = before
    by_pair (Edit c) r a before = absurd a
    by_pair (Close t) (Closed m) a before =
        more_published (hist.published_of h) (record {
          number = length (hist.published_of h) + 1;
          changes =
              hist.pending_of h;
          time = t;
        }) (hist.saved_of h) (hist.start_of h) (hist.accepted_of h) before
    by_pair (Close t) SequenceFull a before = before
    by_pair (Close t) TimeBack a before = before
    by_pair (Close t) TooLarge a before = before
    by_pair (Close t) WantOfMemory a before = before
    by_pair (Close t) r a before = absurd a
    by_pair (Deliver k form) NotPublished a before = before
    by_pair (Deliver k form) WantOfMemory a before = before
    by_pair (Deliver k form) Broken a before = before
    by_pair (Deliver k form) Old a before = before
    by_pair (Deliver k form) Again a before = before
    by_pair (Deliver k form) TooEarly a before = before
    by_pair (Deliver k form) Held a before = one_accepted h k a.0 a.1 before
    by_pair (Deliver k form) (Applied low high) a before = one_accepted h k a.0 a.1 before
    by_pair (Deliver k form) Broke a before = before
    by_pair (Deliver k form) r a before = absurd a
    by_pair Show Broken a before = before
    by_pair Show (Shown v) a before = before
    by_pair Show WantOfMemory a before = before
    by_pair Show r a before = absurd a
    by_pair Save Broken a before = before
    by_pair Save (Saved m) a before = record {
      saved_in = number_in (length (hist.published_of h)) (hist.saved_of h) (hist.start_of h) m (hist.accepted_of h) before a.1;
      start_in = before.start_in;
      accepted_in = before.accepted_in;
      window = before.window;
    }
    by_pair Save WantOfMemory a before = before
    by_pair Save r a before = absurd a
    by_pair Restart (Restarted m) a before = none_accepted (length (hist.published_of h)) (hist.saved_of h) (hist.saved_of h) before.saved_in before.saved_in
    by_pair Restart WantOfMemory a before = before
    by_pair Restart r a before = absurd a
    by_pair (Begin k) NotPublished a before = before
    by_pair (Begin k) (Begun m) a before = none_accepted (length (hist.published_of h)) (hist.saved_of h) k before.saved_in a.1
    by_pair (Begin k) WantOfMemory a before = before
    by_pair (Begin k) r a before = absurd a

pub shown_number : (filter : FilterValue) (h : hist.History) (v : ViewValue) → IsLegal filter h → Allowed filter h Show (Shown v)
    → v.number ≤ length (hist.published_of h)
shown_number filter h v legal a = number_in (length (hist.published_of h)) (hist.saved_of h) (hist.start_of h) v.number
    (hist.accepted_of h) (bounded filter h legal) a.1.reach

pub shown_held : (filter : FilterValue) (h : hist.History) (v : ViewValue) (j : ℕ) → IsLegal filter h → Allowed filter h Show (Shown v) → Contains v.held j
    → (v.number + 1 < j) × (j ≤ v.number + 64) × (j ≤ length (hist.published_of h))
shown_held filter h v j legal a has =
    let b : Bounded h = bounded filter h legal in
    let both = (a.1.held j).0 has in
    let past : v.number < j = both.0 in
    let was : hist.accepted_of h j ≡ true = both.1 in (
      elim (cases_lt (v.number + 1) j) [
        | inl later ↦ later
        | inr near ↦ absurd (
            let next : j ≡ v.number + 1 = omega arith in
            let yes : hist.accepted_of h (v.number + 1) ≡ true = rw next at was in
            let none : hist.accepted_of h (v.number + 1) ≡ false = a.1.reach.next in
            let bad : true ≡ false = sym yes ∙ none in cc)
      ],
      b.window v.number j a.1.reach was,
      b.accepted_in j was,
    )
