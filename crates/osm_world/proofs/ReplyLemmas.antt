-- The reply that is due after a history, unless memory is refused.
use Rattle.std.proofs.Common.{◌≡◌, ℕ, ◌+◌, ◌<◌, ◌≤◌, [], ◌∷◌, length, refl, ap, sym, ◌∙◌, Bool, true, false, arith, inl, inr}
use Rattle.std.specs.Prelude.{◌==◌, ◌||◌, if◌then◌else◌, nat_le, nat_lt}
use Rattle.std.proofs.lemmas.Bool.{eq-eqb, ne_eqb, or_from, or_left, or_right}
use Rattle.std.proofs.lemmas.Bool.Decides.{nat_tests}
use Rattle.osm_model.specs.Filter.{FilterValue}
use Rattle.osm_model.specs.Limits.{max_changes, max_file, max_sequence}
use Rattle.osm_o5c.specs.Written.{o5c_text}
use Rattle.osm_opl.specs.Written.{opl_text}
use Rattle.osm_follow.proofs.ReachLemmas.{reaches_some}
use Rattle.osm_publisher.specs.Published.{last_time}
use Rattle.osm_follow.specs.Reach.{Reaches}
use Rattle.osm_follow.specs.View.{ViewValue}
use Rattle.osm_world.proofs.AlikeLemmas.{one_view}
use Rattle.osm_world.proofs.ReachLemmas.{one_reach}
use Rattle.osm_world.specs.Due.{due_delivery, is_unpublished}
use Rattle.osm_world.specs.History as hist
use Rattle.osm_world.specs.Legal.{Allowed, AllowedClose, AllowedDeliver, AllowedEdit, AllowedRestart, AllowedSave}
use Rattle.osm_world.specs.Legal.{AllowedShow, AllowedBegin, IsNumber, is_want_of_memory}
use Rattle.osm_world.specs.declared.event.Event.{Event}
use Rattle.osm_world.specs.declared.event.Event.TheVariants.{Begin, Edit, Close, Deliver, Show, Save, Restart}
use Rattle.osm_world.specs.declared.event.Reply.{Reply}
use Rattle.osm_world.specs.declared.event.Reply.TheVariants.{Edited, BatchFull, WantOfMemory, Closed, SequenceFull}
use Rattle.osm_world.specs.declared.event.Reply.TheVariants.{TimeBack, TooLarge, NotPublished, Broken, Old, Again}
use Rattle.osm_world.specs.declared.event.Reply.TheVariants.{TooEarly, Held, Applied, Broke, Shown, Saved, Restarted, Begun}

due_edit : hist.History → Reply
due_edit h = if nat_lt (length (hist.pending_of h)) max_changes then Edited else BatchFull

edit_is_due : (h : hist.History) (r : Reply) → AllowedEdit h r → is_want_of_memory r ≡ false → r ≡ due_edit h
unfolding due_edit
edit_is_due h Edited a ok = (let t : nat_lt (length (hist.pending_of h)) max_changes ≡ true = grind (arith, nat_tests) in rw t refl)
edit_is_due h BatchFull a ok = (let t : nat_lt (length (hist.pending_of h)) max_changes ≡ false = grind (arith, nat_tests) in rw t refl)
edit_is_due h WantOfMemory a ok = cc
edit_is_due h r a ok = absurd a

is_large : hist.History → Bool
is_large h = nat_lt max_file (length (opl_text (hist.pending_of h))) || nat_lt max_file (length (o5c_text (hist.pending_of h)))

due_close : hist.History → ℕ → Reply
due_close h t =
    if nat_le max_sequence (length (hist.published_of h)) then SequenceFull
    else (if nat_lt t (last_time (hist.published_of h)) then TimeBack
    else (if is_large h then TooLarge
    else Closed (length (hist.published_of h) + 1)))

close_is_due : (h : hist.History) (t : ℕ) (r : Reply) → AllowedClose h t r → is_want_of_memory r ≡ false → r ≡ due_close h t
unfolding due_close is_large
close_is_due h t SequenceFull a ok = (let full : nat_le max_sequence (length (hist.published_of h)) ≡ true = grind (arith, nat_tests) in rw full refl)
close_is_due h t TimeBack a ok =
    let room = a.0 in
    let back = a.1 in
    let full : nat_le max_sequence (length (hist.published_of h)) ≡ false = grind (arith, nat_tests) in
    let early : nat_lt t (last_time (hist.published_of h)) ≡ true = grind (arith, nat_tests) in
    rw (full, early) refl
close_is_due h t TooLarge a ok =
    let room = a.0.room in
    let onward = a.0.onward in
    let full : nat_le max_sequence (length (hist.published_of h)) ≡ false = grind (arith, nat_tests) in
    let early : nat_lt t (last_time (hist.published_of h)) ≡ false = grind (arith, nat_tests) in
    let large : (nat_lt max_file (length (opl_text (hist.pending_of h))) || nat_lt max_file (length (o5c_text (hist.pending_of h)))) ≡ true = elim a.1 [
      | inl opl ↦ or_left (nat_lt max_file (length (opl_text (hist.pending_of h))))
          (nat_lt max_file (length (o5c_text (hist.pending_of h)))) (grind (arith, nat_tests))
      | inr o5c ↦ or_right (nat_lt max_file (length (opl_text (hist.pending_of h))))
          (nat_lt max_file (length (o5c_text (hist.pending_of h)))) (grind (arith, nat_tests))
    ] in
    rw (full, early, large) refl
close_is_due h t (Closed n) a ok =
    let room = a.0.room in
    let onward = a.0.onward in
    let opl = a.1.opl in
    let o5c = a.1.o5c in
    let full : nat_le max_sequence (length (hist.published_of h)) ≡ false = grind (arith, nat_tests) in
    let early : nat_lt t (last_time (hist.published_of h)) ≡ false = grind (arith, nat_tests) in
    let large : (nat_lt max_file (length (opl_text (hist.pending_of h))) || nat_lt max_file
    (length (o5c_text (hist.pending_of h)))) ≡ false =
    or_from (nat_lt max_file (length (opl_text (hist.pending_of h))))
    (nat_lt max_file (length (o5c_text (hist.pending_of h)))) (grind (arith, nat_tests))
    (grind (arith, nat_tests)) in
    rw (full, early, large, a.2) refl
close_is_due h t WantOfMemory a ok = cc
close_is_due h t r a ok = absurd a

published : (h : hist.History) (k : ℕ) → 0 < k → k ≤ length (hist.published_of h) → is_unpublished h k ≡ false
published h k above there = or_from (k == 0) (nat_lt (length (hist.published_of h)) k) (ne_eqb k 0 (λ e. omega arith)) (grind (arith, nat_tests))

pub delivery_is_due : (h : hist.History) (k n high : ℕ) (r : Reply) → IsNumber h n → Reaches (hist.accepted_of h) k high
    → AllowedDeliver h k r → is_want_of_memory r ≡ false → r ≡ due_delivery h k n high
delivery_is_due h k n high NotPublished number reach a ok =
    let out : is_unpublished h k ≡ true = elim a [
      | inl none ↦ or_left (k == 0) (nat_lt (length (hist.published_of h)) k) (eq-eqb k 0 none)
      | inr past ↦ or_right (k == 0) (nat_lt (length (hist.published_of h)) k) (grind (arith, nat_tests))
    ] in
    rw out refl
delivery_is_due h k n high Broken number reach a ok =
    let there : is_unpublished h k ≡ false = published h k a.0 a.1 in
    rw (there, a.2) refl
delivery_is_due h k n high Old number reach a ok =
    let there : is_unpublished h k ≡ false = published h k a.1.above a.1.there in
    let whole : hist.is_broken h ≡ false = a.1.whole in
    let same : a.0 ≡ n = one_reach (hist.accepted_of h) (hist.start_of h) a.0 n a.1.number number in
    let below = a.2 in
    let old : nat_le k n ≡ true = grind (arith, nat_tests) in
    rw (there, whole, old) refl
delivery_is_due h k n high Again number reach a ok =
    let there : is_unpublished h k ≡ false = published h k a.1.above a.1.there in
    let whole : hist.is_broken h ≡ false = a.1.whole in
    let same : a.0 ≡ n = one_reach (hist.accepted_of h) (hist.start_of h) a.0 n a.1.number number in
    let past = a.2 in
    let new : nat_le k n ≡ false = grind (arith, nat_tests) in
    rw (there, whole, new, a.3) refl
delivery_is_due h k n high TooEarly number reach a ok =
    let there : is_unpublished h k ≡ false = published h k a.1.above a.1.there in
    let whole : hist.is_broken h ≡ false = a.1.whole in
    let same : a.0 ≡ n = one_reach (hist.accepted_of h) (hist.start_of h) a.0 n a.1.number number in
    let far = a.2 in
    let new : nat_le k n ≡ false = grind (arith, nat_tests) in
    let early : nat_lt (n + 64) k ≡ true = grind (arith, nat_tests) in
    rw (there, whole, new, a.3, early) refl
delivery_is_due h k n high Held number reach a ok =
    let there : is_unpublished h k ≡ false = published h k a.1.is_open.above a.1.is_open.there in
    let whole : hist.is_broken h ≡ false = a.1.is_open.whole in
    let same : a.0 ≡ n = one_reach (hist.accepted_of h) (hist.start_of h) a.0 n a.1.is_open.number number in
    let fresh : hist.accepted_of h k ≡ false = a.1.fresh in
    let within = a.1.within in
    let later = a.2 in
    let new : nat_le k n ≡ false = grind (arith, nat_tests) in
    let early : nat_lt (n + 64) k ≡ false = grind (arith, nat_tests) in
    let held : nat_lt (n + 1) k ≡ true = grind (arith, nat_tests) in
    rw (there, whole, new, fresh, early, held) refl
delivery_is_due h k n high (Applied low top) number reach a ok =
    let there : is_unpublished h k ≡ false = published h k a.1.is_open.above a.1.is_open.there in
    let whole : hist.is_broken h ≡ false = a.1.is_open.whole in
    let same : a.0 ≡ n = one_reach (hist.accepted_of h) (hist.start_of h) a.0 n a.1.is_open.number number in
    let fresh : hist.accepted_of h k ≡ false = a.1.fresh in
    let next = a.2 in
    let new : nat_le k n ≡ false = grind (arith, nat_tests) in
    let early : nat_lt (n + 64) k ≡ false = grind (arith, nat_tests) in
    let held : nat_lt (n + 1) k ≡ false = grind (arith, nat_tests) in
    let top_is : top ≡ high = one_reach (hist.accepted_of h) k top high a.4 reach in
    rw (there, whole, new, fresh, early, held, a.3, top_is) refl
delivery_is_due h k n high WantOfMemory number reach a ok = cc
delivery_is_due h k n high Broke number reach a ok = cc
delivery_is_due h k n high r number reach a ok = absurd a

due_save : hist.History → ℕ → Reply
due_save h n = if hist.is_broken h then Broken else Saved n

save_is_due : (h : hist.History) (n : ℕ) (r : Reply) → IsNumber h n → AllowedSave h r → is_want_of_memory r ≡ false → r ≡ due_save h n
unfolding due_save
save_is_due h n Broken number a ok = rw a refl
save_is_due h n (Saved m) number a ok = rw (a.0, one_reach (hist.accepted_of h) (hist.start_of h) m n a.1 number) refl
save_is_due h n WantOfMemory number a ok = cc
save_is_due h n r number a ok = absurd a

restart_is_due : (h : hist.History) (r : Reply) → AllowedRestart h r → is_want_of_memory r ≡ false → r ≡ Restarted (hist.saved_of h)
restart_is_due h (Restarted n) a ok = ap (λ (m : ℕ). Restarted m) a
restart_is_due h WantOfMemory a ok = cc
restart_is_due h r a ok = absurd a

begin_is_due : (h : hist.History) (k : ℕ) (q r : Reply) → AllowedBegin h k q → AllowedBegin h k r
    → is_want_of_memory q ≡ false → is_want_of_memory r ≡ false → q ≡ r
begin_is_due h k NotPublished NotPublished a b p o = refl
begin_is_due h k NotPublished (Begun n) a b p o = absurd (elim a [
  | inl zero_is ↦ (let above = b.0 in omega arith)
  | inr past ↦ (let there = b.1 in omega arith)
])
begin_is_due h k NotPublished WantOfMemory a b p o = cc
begin_is_due h k NotPublished r a b p o = absurd b
begin_is_due h k (Begun m) NotPublished a b p o = absurd (elim b [
  | inl zero_is ↦ (let above = a.0 in omega arith)
  | inr past ↦ (let there = a.1 in omega arith)
])
begin_is_due h k (Begun m) (Begun n) a b p o = ap (λ (i : ℕ). Begun i) (a.2 ∙ sym b.2)
begin_is_due h k (Begun m) WantOfMemory a b p o = cc
begin_is_due h k (Begun m) r a b p o = absurd b
begin_is_due h k WantOfMemory r a b p o = cc
begin_is_due h k q r a b p o = absurd a

broken_apart : (b : Bool) → b ≡ true → b ≡ false → ⊥
broken_apart b is out = let bad : true ≡ false = sym is ∙ out in cc

one_show : (filter : FilterValue) (h : hist.History) (q r : Reply) → AllowedShow filter h q → AllowedShow filter h r
    → is_want_of_memory q ≡ false → is_want_of_memory r ≡ false → q ≡ r
one_show filter h Broken Broken a b p o = refl
one_show filter h Broken (Shown w) a b p o = absurd (broken_apart (hist.is_broken h) a b.0)
one_show filter h Broken WantOfMemory a b p o = cc
one_show filter h Broken r a b p o = absurd b
one_show filter h (Shown v) Broken a b p o = absurd (broken_apart (hist.is_broken h) b a.0)
one_show filter h (Shown v) (Shown w) a b p o =
    ap (λ (y : ViewValue). Shown y) (one_view filter (hist.published_of h) (hist.base_of h) (hist.start_of h) (hist.accepted_of h)
    (hist.accepted_of h) v w (λ j. refl) a.1 b.1)
one_show filter h (Shown v) WantOfMemory a b p o = cc
one_show filter h (Shown v) r a b p o = absurd b
one_show filter h WantOfMemory r a b p o = cc
one_show filter h q r a b p o = absurd a

-- no number above all that were delivered was accepted
delivered_to : Event → ℕ
delivered_to (Deliver k form) = k
delivered_to e = 0

top_of : hist.History → ℕ
top_of [] = 0
top_of (p ∷ h) = delivered_to p.0 + top_of h

accepts_within : (e : Event) (r : Reply) (j : ℕ) → delivered_to e < j → hist.accepts e r j ≡ false
unfolding delivered_to
accepts_within (Deliver k form) Held j above = ne_eqb k j (λ e. omega arith)
accepts_within (Deliver k form) (Applied low high) j above = ne_eqb k j (λ e. omega arith)
accepts_within (Deliver k form) r j above = refl
accepts_within e r j above = refl

accepted_within : (h : hist.History) (j : ℕ) → top_of h < j → hist.accepted_of h j ≡ false
unfolding top_of
accepted_within [] j above = refl
accepted_within (p ∷ h) j above =
    by_test (hist.starts p.0 p.1) (or_from (hist.accepts p.0 p.1 j) (hist.accepted_of h j)
    (accepts_within p.0 p.1 j (omega arith)) (accepted_within h j (omega arith)))
  where
    by_test : (b : Bool) {a : Bool} → a ≡ false → (if b then false else a) ≡ false
    by_test true e = refl
    by_test false e = e

reached_from : (h : hist.History) (n : ℕ) → (m : ℕ) × Reaches (hist.accepted_of h) n m
reached_from h n = reaches_some (hist.accepted_of h) n (top_of h) (λ j above. accepted_within h j (omega arith))

pub one_reply : (filter : FilterValue) (h : hist.History) (e : Event) (q r : Reply) → Allowed filter h e q → Allowed filter h e r
    → is_want_of_memory q ≡ false → is_want_of_memory r ≡ false → q ≡ r
one_reply filter h (Edit c) q r a b p o = edit_is_due h q a p ∙ sym (edit_is_due h r b o)
one_reply filter h (Close t) q r a b p o = close_is_due h t q a p ∙ sym (close_is_due h t r b o)
one_reply filter h (Deliver k form) q r a b p o =
    let number = reached_from h (hist.start_of h) in
    let reach = reached_from h k in
    delivery_is_due h k number.0 reach.0 q number.1 reach.1 a p ∙ sym (delivery_is_due h k number.0 reach.0 r number.1 reach.1 b o)
one_reply filter h Show q r a b p o = one_show filter h q r a b p o
one_reply filter h Save q r a b p o =
    let number = reached_from h (hist.start_of h) in
    save_is_due h number.0 q number.1 a p ∙ sym (save_is_due h number.0 r number.1 b o)
one_reply filter h Restart q r a b p o = restart_is_due h q a p ∙ sym (restart_is_due h r b o)
one_reply filter h (Begin k) q r a b p o = begin_is_due h k q r a b p o
