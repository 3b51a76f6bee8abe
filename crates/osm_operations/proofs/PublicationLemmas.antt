-- Which runs of a history published a number, and which answered it.
use Rattle.std.proofs.Common.{◌≡◌, ℕ, ◌+◌, ◌<◌, ◌≤◌, List, [], ◌∷◌, ◌++◌, length, inl, inr}
use Rattle.std.proofs.Common.{arith, refl, sym, ap, subst, ◌∙◌, append_assoc, append-nil, length-append}
use Rattle.std.specs.Prelude.{◌⊎◌, ◌==◌, if◌then◌else◌}
use Rattle.std.proofs.lemmas.Bool.{cases_Bool, cases_lt, eq-eqb, eqb-true, ne_eqb}
use Rattle.osm_model.specs.Filter.{FilterValue}
use Rattle.osm_follow.proofs.PublishedLemmas.{sequence_within}
use Rattle.osm_publisher.specs.Published.{PublishedValue, sequence_at}
use Rattle.osm_operations.specs.Allowed.{Allowed, AreAllowed, NumberedDone}
use Rattle.osm_operations.specs.History as hist
use Rattle.osm_operations.specs.Publications.{Answers, AreOfNumber, IsAnswered, IsOfNumber, IsPublishedOnce, Says}
use Rattle.osm_operations.specs.declared.operation.Operation.{Operation}
use Rattle.osm_operations.specs.declared.operation.Operation.TheVariants.{Publish, PublishAs}
use Rattle.osm_operations.specs.declared.operation.Reply.{Reply}
use Rattle.osm_operations.specs.declared.operation.Reply.TheVariants.{Published}
use Rattle.osm_operations.proofs.NumberedLemmas.{value_of}
use Rattle.osm_runs.specs.Reports.{ReportValue}
use Rattle.osm_model.specs.Change.{ChangeValue}
use Rattle.osm_publishing.proofs.FolderLemmas.{sequence_last}

-- ---- what a later history adds

pub more_of : (later before : hist.History) → (more : List PublishedValue) × (hist.published_of (later ++ before) ≡ hist.published_of before ++ more)
more_of [] before = ([], sym (append-nil (hist.published_of before)))
more_of (q ∷ later) before =
    let rest = more_of later before in
    let new = hist.published_by q.0 q.1 (length (hist.published_of (later ++ before)) + 1) in
    (rest.0 ++ new, ap (λ xs. xs ++ new) rest.1 ∙ append_assoc (hist.published_of before) rest.0 new)

answered_later : (later before : hist.History) (p : PublishedValue) → IsAnswered before p → IsAnswered (later ++ before) p
answered_later later before p is =
    let more = more_of later before in
    record {
      above = is.above;
      within = (let long = ap length more.1 in let within = is.within in grind (arith, length-append));
      same = ap (λ xs. sequence_at xs p.number) more.1 ∙ (sequence_within (hist.published_of before) more.0 p.number is.above is.within ∙ is.same);
    }

-- ---- one pair

new_answered : (before : hist.History) (e : Operation) (r : Reply) (p : PublishedValue)
    → p.number ≡ length (hist.published_of before) + 1 → hist.published_of ((e, r) ∷ before) ≡ hist.published_of before
    ++ p ∷ [] → IsAnswered ((e, r) ∷ before) p
new_answered before e r p next adds = record {
  above = omega (arith, next);
  within = (let long = ap length adds in grind (arith, length-append));
  same = ap (λ xs. sequence_at xs p.number) adds ∙ sequence_last (hist.published_of before) p p.number next;
}

same_answered : (before : hist.History) (e : Operation) (r : Reply) (p q : PublishedValue) → p ≡ q
    → IsAnswered ((e, r) ∷ before) q → IsAnswered ((e, r) ∷ before) p
same_answered before e r p q same is = subst (IsAnswered ((e, r) ∷ before)) (sym same) is

number_answered : (before : hist.History) (e : Operation) (r : Reply) (batch : List ChangeValue) (time n : ℕ)
    → hist.published_by e r (length (hist.published_of before) + 1) ≡ (if n == length (hist.published_of before)
    + 1 then value_of n batch time ∷ [] else [])
    → ((n ≡ length (hist.published_of before) + 1) ⊎ ((0 < n) × (n ≤ length (hist.published_of before))
    × (sequence_at (hist.published_of before) n ≡ value_of n batch time)))
    → IsAnswered ((e, r) ∷ before) (value_of n batch time)
number_answered before e r batch time n by (inl next) =
    new_answered before e r (value_of n batch time) next
    (ap (λ xs. hist.published_of before ++ xs) (by ∙ ap (λ b. if b then value_of n batch time ∷ [] else [])
    (eq-eqb n (length (hist.published_of before) + 1) next)))
number_answered before e r batch time n by (inr old) =
    answered_later ((e, r) ∷ []) before (value_of n batch time) (record { above = old.0; within = old.1; same = old.2 })

done_of : (h : hist.History) (batch : List ChangeValue) (time n : ℕ) (report : ReportValue)
    → NumberedDone h batch time n report → (n ≡ length (hist.published_of h) + 1)
    ⊎ ((0 < n) × (n ≤ length (hist.published_of h)) × (sequence_at (hist.published_of h) n ≡ value_of n batch time))
done_of h batch time n report (is, inl next) = inl next
done_of h batch time n report (is, inr old) = inr (old.0, old.1, old.2)

pub says_answered : (given : FilterValue) (extract : List ℕ) (before : hist.History) (e : Operation) (r : Reply) (p : PublishedValue)
    → Allowed given extract before e r
    → Says e r (length (hist.published_of before)) p → IsAnswered ((e, r) ∷ before) p
says_answered given extract before (Publish batch time calls) (Published report) p allowed says =
    same_answered before (Publish batch time calls) (Published report) p (value_of (length (hist.published_of before) + 1) batch time) says
    (new_answered before (Publish batch time calls) (Published report) (value_of (length (hist.published_of before) + 1) batch time) refl refl)
says_answered given extract before (PublishAs batch time n calls) (Published report) p allowed says =
    same_answered before (PublishAs batch time n calls) (Published report) p (value_of n batch time) says
    (number_answered before (PublishAs batch time n calls) (Published report) batch time n refl (done_of before batch time n report allowed.0))
says_answered given extract before e r p allowed says = absurd says

-- ---- all pairs

allowed_at : (given : FilterValue) (extract : List ℕ) (later : hist.History) (q : hist.Pair) (before : hist.History)
    → AreAllowed given extract (later ++ q ∷ before)
    → Allowed given extract before q.0 q.1
allowed_at given extract [] q before all = all.0
allowed_at given extract (x ∷ later) q before all = allowed_at given extract later q before all.1

pub answered : (given : FilterValue) (extract : List ℕ) (h later : hist.History) (q : hist.Pair) (before : hist.History) (p : PublishedValue)
    → AreAllowed given extract h
    → Answers h later q before p → IsAnswered h p
answered given extract h later q before p all a =
    subst (λ x. IsAnswered x p) (sym a.cut.cut)
    (answered_later later (q ∷ before) p
    (says_answered given extract before q.0 q.1 p (allowed_at given extract later q before (subst (AreAllowed given extract) a.cut.cut all)) a.says))

-- ---- publications of one number

none_by : (e : Operation) (r : Reply) (n count : ℕ) → IsOfNumber n e → n ≤ count → hist.published_by e r (count + 1) ≡ []
none_by (PublishAs batch time k calls) (Published report) n count is within =
    ap (λ b. if b then value_of k batch time ∷ [] else []) (ne_eqb k (count + 1) (λ e. omega (arith, e, is, within)))
none_by (PublishAs batch time k calls) r n count is within = refl
none_by e r n count is within = absurd is

nothing_more : (later before : hist.History) (n : ℕ) → AreOfNumber n later → n ≤ length (hist.published_of before)
    → hist.published_of (later ++ before) ≡ hist.published_of before
nothing_more [] before n are within = refl
nothing_more (q ∷ later) before n are within =
    let so_far = nothing_more later before n are.1 within in
    ap (λ xs. hist.published_of (later ++ before) ++ xs)
    (none_by q.0 q.1 n (length (hist.published_of (later ++ before))) are.0 (subst (λ xs. n ≤ length xs) (sym so_far) within))
    ∙ (append-nil (hist.published_of (later ++ before)) ∙ so_far)

pub repeats : (given : FilterValue) (extract : List ℕ) (later : hist.History) (q : hist.Pair) (before : hist.History) (p : PublishedValue)
    → AreAllowed given extract (q ∷ before) → Answers (q ∷ before) [] q before p → AreOfNumber p.number later
    → hist.published_of (later ++ q ∷ before) ≡ hist.published_of (q ∷ before)
repeats given extract later q before p all a are =
    let is = answered given extract (q ∷ before) [] q before p all a in
    nothing_more later (q ∷ before) p.number are is.within

-- ---- the run that published a number

-- what a pair publishes, if anything
Publishes : Operation → Reply → ℕ → Type 0
Publishes e r count =
    (hist.published_by e r (count + 1) ≡ [])
    ⊎ ((p : PublishedValue) × (hist.published_by e r (count + 1) ≡ p ∷ []) × (p.number ≡ count + 1) × Says e r count p)

by_number : (e : Operation) (r : Reply) (batch : List ChangeValue) (time n count : ℕ)
    → hist.published_by e r (count + 1) ≡ (if n == count + 1 then value_of n batch time ∷ [] else [])
    → Says e r count (value_of n batch time) → Publishes e r count
unfolding Publishes
by_number e r batch time n count by says = elim (cases_Bool (n == count + 1)) [
  | inl same ↦ inr (value_of n batch time, by ∙ ap (λ b. if b then value_of n batch time ∷ [] else []) same, eqb-true n (count + 1) same, says)
  | inr other ↦ inl (by ∙ ap (λ b. if b then value_of n batch time ∷ [] else []) other)
]

publishes : (e : Operation) (r : Reply) (count : ℕ) → Publishes e r count
unfolding Publishes
publishes (Publish batch time calls) (Published report) count = inr (value_of (count + 1) batch time, refl, refl, refl)
publishes (PublishAs batch time n calls) (Published report) count = by_number (PublishAs batch time n calls)
    (Published report) batch time n count refl refl
publishes e r count = inl refl

head_of : hist.Pair → hist.History → hist.Pair
head_of q [] = q
head_of q (x ∷ h) = x

tail_of : hist.History → hist.History
tail_of [] = []
tail_of (x ∷ h) = h

same_head : (q x : hist.Pair) (h k : hist.History) → q ∷ h ≡ x ∷ k → q ≡ x
unfolding head_of
same_head q x h k e = ap (head_of q) e

same_tail : (q x : hist.Pair) (h k : hist.History) → q ∷ h ≡ x ∷ k → h ≡ k
unfolding tail_of
same_tail q x h k e = ap tail_of e

-- a pair that publishes makes the list longer
longer : (rest : hist.History) (x : hist.Pair) → (hist.published_of (x ∷ rest) ≡ hist.published_of rest → ⊥)
    → length (hist.published_of rest) + 1 ≤ length (hist.published_of (x ∷ rest))
unfolding Publishes
longer rest x adds = elim (publishes x.0 x.1 (length (hist.published_of rest))) [
  | inl none ↦ absurd (adds (ap (λ xs. hist.published_of rest ++ xs) none ∙ append-nil (hist.published_of rest)))
  | inr some ↦ (let long = ap (λ xs. length (hist.published_of rest ++ xs)) some.1 in grind (arith, length-append))
]

pub published_once : (given : FilterValue) (extract : List ℕ) (h : hist.History) (n : ℕ)
    → AreAllowed given extract h → 0 < n → n ≤ length (hist.published_of h) → IsPublishedOnce h n
unfolding Publishes
published_once given extract [] n all above within = absurd (omega (arith, above, within))
published_once given extract (q ∷ h) n all above within = elim (cases_lt (length (hist.published_of h)) n) [
  | inr until ↦ earlier (published_once given extract h n all.1 above until) until
  | inl past ↦ here (publishes q.0 q.1 (length (hist.published_of h))) past
]
  where
    earlier : IsPublishedOnce h n → n ≤ length (hist.published_of h) → IsPublishedOnce (q ∷ h) n
    earlier is until = record {
      later = q ∷ is.later;
      pair = is.pair;
      before = is.before;
      first = record {
        answers = record {
          cut = record { cut = ap (λ xs. q ∷ xs) is.first.answers.cut.cut };
          says = subst (Says is.pair.0 is.pair.1 (length (hist.published_of is.before))) (sym same) is.first.answers.says;
        };
        number = subst (λ (p : PublishedValue). p.number ≡ n) (sym same) is.first.number;
        adds = is.first.adds ∙ ap (λ p. hist.published_of is.before ++ p ∷ []) (sym same);
        none = is.first.none;
      };
      only = λ after other rest cut at adds. only after other rest cut.cut at adds;
    }
      where
        same : sequence_at (hist.published_of (q ∷ h)) n ≡ sequence_at (hist.published_of h) n
        same = sequence_within (hist.published_of h) (hist.published_by q.0 q.1 (length (hist.published_of h) + 1)) n above until

        only : (after : hist.History) (other : hist.Pair) (rest : hist.History) → q ∷ h ≡ after ++ other ∷ rest
            → length (hist.published_of rest) + 1 ≡ n → (hist.published_of (other ∷ rest) ≡ hist.published_of rest → ⊥)
            → (after ≡ q ∷ is.later) × (other ≡ is.pair) × (rest ≡ is.before)
        only [] other rest cut at adds =
            absurd (let long = ap (λ xs. length (hist.published_of xs)) (same_tail q other h rest cut) in
            omega (arith, long, at, until))
        only (x ∷ after) other rest cut at adds =
            let found = is.only after other rest (record { cut = same_tail q x h (after ++ other ∷ rest) cut }) at adds in
            (ap (λ y. y ∷ after) (sym (same_head q x h (after ++ other ∷ rest) cut)) ∙ ap (λ xs. q ∷ xs) found.0, found.1, found.2)

    here : Publishes q.0 q.1 (length (hist.published_of h)) → length (hist.published_of h) < n → IsPublishedOnce (q ∷ h) n
    here (inl none) past = absurd (let long = ap (λ xs. length (hist.published_of h ++ xs)) none in
        let same = ap length (append-nil (hist.published_of h)) in omega (arith, long, same, within, past))
    here (inr (p, by, number, says)) past = record {
      later = [];
      pair = q;
      before = h;
      first = record {
        answers = record { cut = record { cut = refl }; says = subst (Says q.0 q.1 (length (hist.published_of h))) (sym last) says };
        number = ap (λ (x : PublishedValue). x.number) last ∙ (number ∙ sym next);
        adds = ap (λ xs. hist.published_of h ++ xs) by ∙ ap (λ x. hist.published_of h ++ x ∷ []) (sym last);
        none = λ after other rest x a. (let is = answered given extract h after other rest x all.1 a in let low = is.within in omega (arith, low, past));
      };
      only = λ after other rest cut at adds. only after other rest cut.cut at adds;
    }
      where
        next : n ≡ length (hist.published_of h) + 1
        next = let long = ap (λ xs. length (hist.published_of h ++ xs)) by in
            let one = length-append (hist.published_of h) (p ∷ []) in omega (arith, long, one, within, past)

        last : sequence_at (hist.published_of (q ∷ h)) n ≡ p
        last = ap (λ xs. sequence_at (hist.published_of h ++ xs) n) by ∙ sequence_last (hist.published_of h) p n next

        only : (after : hist.History) (other : hist.Pair) (rest : hist.History) → q ∷ h ≡ after ++ other ∷ rest
            → length (hist.published_of rest) + 1 ≡ n → (hist.published_of (other ∷ rest) ≡ hist.published_of rest → ⊥)
            → (after ≡ []) × (other ≡ q) × (rest ≡ h)
        only [] other rest cut at adds = (refl, sym (same_head q other h rest cut), sym (same_tail q other h rest cut))
        only (x ∷ after) other rest cut at adds =
            absurd (
            let in_h = same_tail q x h (after ++ other ∷ rest) cut in
            let more = more_of after (other ∷ rest) in
            let all_long = ap (λ xs. length (hist.published_of xs)) in_h in
            let parts = ap length more.1 in
            let join = length-append (hist.published_of (other ∷ rest)) more.0 in
            let long = longer rest other adds in
            omega (arith, all_long, parts, join, long, at, past))
