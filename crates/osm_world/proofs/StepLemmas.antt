-- A step keeps a world in step with its history.
use Rattle.std.proofs.Common.{◌≡◌, ℕ, ◌+◌, ◌-◌, ◌<◌, ◌≤◌, List, [], ◌∷◌, ◌++◌, length, refl, ap, sym, ◌∙◌, Bool, true}
use Rattle.std.proofs.Common.{false, arith, Some, None, Option, append-nil, length-append, subst, zero, suc, map, take, inl, inr}
use Rattle.std.proofs.lemmas.Bool.{cases_lt}
use Rattle.std.proofs.lemmas.List.{drop_all, length-take-le}
use Rattle.std.specs.List.{flat_map}
use Rattle.std.specs.List.Sorted.{IsStrictlySortedBy}
use Rattle.osm_state.proofs.StateLemmas.{one_state}
use Rattle.osm_state.specs.State.{StateValue}
use Rattle.std.specs.Prelude.{◌==◌, if◌then◌else◌, ◌||◌, Result, Ok, Err, is_some, unwrap_or}
use Rattle.std.specs.List.{zip}
use Rattle.std.proofs.lemmas.List.{reverse-append, map-append}
use Rattle.osm_model.specs.Batch.{IsBatch}
use Rattle.osm_model.specs.Change.{ChangeValue}
use Rattle.osm_model.specs.Filter.{AreKept, FilterValue}
use Rattle.osm_model.specs.Limits.{IsPositive}
use Rattle.osm_state.proofs.WrittenLemmas.{written_is_read}
use Rattle.osm_state.specs.StateText.{StateOf}
use Rattle.osm_mirror.specs.Mirror.{IsMirrorOf, MirrorValue}
use Rattle.osm_world.specs.Correct.{IsInStep, IsLastSave, IsReported}
use Rattle.osm_follow.specs.Delivery as table
use Rattle.osm_follow.specs.Begin.{begun_of, kept_objects}
use Rattle.osm_follow.specs.Follower.{FollowerValue, Follows, IsState, held_at, is_held, new_follower_of}
use Rattle.osm_save.specs.Save.{SpellsSave}
use Rattle.osm_save.specs.declared.save.Saved.{Saved as SavedValue}
use Rattle.osm_follow.specs.Restart.{IsLeftBroken, Restarts, follower_of, saved_of}
use Rattle.osm_follow.specs.declared.restart.RestartError.TheVariants as restarts
use Rattle.osm_world.specs.History as hist
use Rattle.osm_publisher.specs.Published.{PublishedValue, PublishedTexts, AreSequences, IsSequence, changes_after, changes_up_to}
use Rattle.osm_publisher.specs.Published.{sequence_at, texts_at, time_at, last_time, written_of}
use Rattle.osm_publisher.specs.Publisher.{PublisherValue, CanClose, closed, closing}
use Rattle.osm_follow.specs.Reach.{numbers}
use Rattle.osm_world.specs.Step.{BeginStep, BeginsFrom, IsFed, Step, DeliversTo, RestartStep, SaveStep, bytes_in, fault_in, spells_in}
use Rattle.osm_world.specs.World.{WorldValue, new_world_of}
use Rattle.osm_follow.specs.declared.delivery.Delivered.{Delivered}
use Rattle.osm_follow.specs.declared.delivery.Delivered.TheVariants as answers
use Rattle.osm_follow.specs.declared.delivery.DeliverError.{DeliverError}
use Rattle.osm_follow.specs.declared.delivery.DeliverError.TheVariants as errors
use Rattle.osm_world.specs.declared.event.Event.{Event}
use Rattle.osm_world.specs.declared.event.Event.TheVariants.{Begin, Edit, Close, Deliver, Show, Save, Restart}
use Rattle.osm_world.specs.declared.event.Form.{Form}
use Rattle.osm_world.specs.declared.event.Form.TheVariants.{Opl}
use Rattle.osm_world.specs.declared.event.Reply.{Reply}
use Rattle.osm_world.specs.declared.event.Reply.TheVariants.{Edited, BatchFull, WantOfMemory, Closed, SequenceFull}
use Rattle.osm_world.specs.declared.event.Reply.TheVariants.{TimeBack, TooLarge, NotPublished, Broken, Old, Again}
use Rattle.osm_world.specs.declared.event.Reply.TheVariants.{TooEarly, Held, Applied, Broke, Shown, Saved, Restarted, Begun}
use Rattle.osm_follow.proofs.BeginLemmas.{keeps_all}
use Rattle.osm_follow.proofs.DeliveryLemmas.{OneBatch, NoFaultBeside, FollowerStep, read_as, state_of}
use Rattle.osm_follow.proofs.FollowLemmas.{follows_grown, follows_taken, state_held, state_taken}
use Rattle.osm_follow.proofs.ReachLemmas.{between-append}
use Rattle.osm_mirror.proofs.MirrorLaws.{stays_kept}
use Rattle.osm_mirror.proofs.MirrorLemmas.{mirror_of-nil}
use Rattle.osm_follow.proofs.PublishedLemmas.{after_within, changes_within, sequence_within, sequences-snoc}
use Rattle.osm_follow.proofs.PublishedLemmas.{texts_at-written, time_next, time_within, last_time-snoc}

-- one more pair at the end
zip-snoc : (es : List Event) (rs : List Reply) (e : Event) (r : Reply) → length rs ≡ length es → zip (es ++ e ∷ []) (rs ++ r ∷ []) ≡ zip es rs ++ (e, r) ∷ []
zip-snoc [] [] e r h = refl
zip-snoc [] (q ∷ rs) e r h = absurd (omega arith)
zip-snoc (d ∷ es) [] e r h = absurd (omega arith)
zip-snoc (d ∷ es) (q ∷ rs) e r h = ap (λ x. (d, q) ∷ x) (zip-snoc es rs e r (omega arith))

pub history_of-snoc : (es : List Event) (rs : List Reply) (e : Event) (r : Reply) → length rs ≡ length es
    → hist.history_of (es ++ e ∷ []) (rs ++ r ∷ []) ≡ (e, r) ∷ hist.history_of es rs
history_of-snoc es rs e r h = rw (zip-snoc es rs e r h) (reverse-append (zip es rs) ((e, r) ∷ []))

-- what a pair leaves as it was
record IsQuiet (h : hist.History) (e : Event) (r : Reply) : Type 0 where
  edit : hist.edit_of e r ≡ []
  closed : hist.closes e r ≡ false
  saved : hist.last_saved ((e, r) ∷ h) ≡ hist.last_saved h
  start : hist.start_of ((e, r) ∷ h) ≡ hist.start_of h
  bases : hist.bases_of ((e, r) ∷ h) ≡ hist.bases_of h
  broken : hist.is_broken ((e, r) ∷ h) ≡ hist.is_broken h
  accepted : hist.accepted_of ((e, r) ∷ h) ≡ hist.accepted_of h
  reported : hist.reported_of ((e, r) ∷ h) ≡ hist.reported_of h ++ []

quiet_keeps : (filter : FilterValue) (h : hist.History) (e : Event) (r : Reply) (a b : WorldValue) → IsQuiet h e r
    → IsInStep filter h a → b ≡ a → IsInStep filter ((e, r) ∷ h) b
quiet_keeps filter h e r a b q s t = rw t (record {
  publisher = rw (q.closed, q.edit, append-nil) s.publisher;
  archive = rw q.closed s.archive;
  sequences = rw q.closed s.sequences;
  batch = rw (q.closed, q.edit, append-nil) s.batch;
  saved = subst (λ (x : ℕ). IsLastSave filter (hist.published_of ((e, r) ∷ h)) (hist.last_saved ((e, r) ∷ h)) x a.saved)
      (sym (ap (λ (x : ℕ × ℕ). x.1) q.bases)) (rw (q.closed, q.saved) s.saved);
  filter_is = s.filter_is;
  broken = rw q.broken s.broken;
  state = λ ok. subst (λ (x : ℕ). IsState filter (hist.published_of ((e, r) ∷ h)) x (hist.start_of ((e, r) ∷ h))
      (hist.accepted_of ((e, r) ∷ h)) a.follower) (sym (ap (λ (x : ℕ × ℕ). x.0) q.bases))
      (rw (q.closed, q.start, q.accepted) (s.state (sym q.broken ∙ ok)));
  reported = λ ok. rw (q.start, q.reported, append-nil) (s.reported (sym q.broken ∙ ok));
})

-- the same if the only part that may change is the follower, and it stays as it was
unmoved : (a b : WorldValue) → b ≡ record a { follower = b.follower } → b.follower ≡ a.follower → b ≡ a
unmoved a b t u = t ∙ ap (λ (f : FollowerValue). (let w : WorldValue = record a { follower = f } in w)) u

-- what is held at a number, once more sequences are published
held_more : (b : Bool) (p q : PublishedValue) → (b ≡ true → q ≡ p) → (if b then Some p else None) ≡ (if b then Some q else None)
held_more true p q e = ap (λ (x : PublishedValue). let o : Option PublishedValue = Some x in o) (sym (e refl))
held_more false p q e = refl

state_grown : (filter : FilterValue) (ps more : List PublishedValue) (base start : ℕ) (acc : ℕ → Bool) (f : FollowerValue) → IsState filter ps base start acc f
    → IsState filter (ps ++ more) base start acc f
state_grown filter ps more base start acc f s = record {
  filter_is = s.filter_is;
  base_is = s.base_is;
  reach = s.reach;
  follows = follows_grown ps more f s.follows;
  held = λ j past. s.held j past ∙ held_more (acc j) (sequence_at ps j) (sequence_at (ps ++ more) j)
      (λ t. sequence_within ps more j (omega arith)
      (s.follows.held j (sequence_at ps j) (s.held j past ∙ ap (λ b. if b then Some (sequence_at ps j) else None) t)).2);
}

edited_keeps : (filter : FilterValue) (h : hist.History) (c : ChangeValue) (a b : WorldValue) → IsInStep filter h a → IsBatch b.publisher.pending
    → b ≡ record a { publisher = record a.publisher { pending = a.publisher.pending ++ c ∷ [] } }
    → IsInStep filter ((Edit c, Edited) ∷ h) b
edited_keeps filter h c a b s batch t =
    let pending : a.publisher.pending ≡ hist.pending_of h = ap (λ (p : PublisherValue). p.pending) s.publisher in
    let grown : b.publisher.pending ≡ hist.pending_of h ++ c ∷ [] = ap (λ (w : WorldValue). w.publisher.pending) t ∙ ap (λ cs. cs ++ c ∷ []) pending in
    let batch_is : IsBatch (hist.pending_of h ++ c ∷ []) = rw grown at batch in
    rw t (record {
      publisher = ap (λ (p : PublisherValue). (let q : PublisherValue = record p { pending = p.pending ++ c ∷ [] } in q)) s.publisher;
      archive = s.archive;
      sequences = s.sequences;
      batch = batch_is;
      saved = s.saved;
      filter_is = s.filter_is;
      broken = s.broken;
      state = s.state;
      reported = λ ok. rw append-nil (s.reported ok);
    })

-- what was saved, once more sequences are published
save_grown : (filter : FilterValue) (ps more : List PublishedValue) (number : Option ℕ) (base : ℕ) (bytes : Option (List ℕ))
    → IsLastSave filter ps number base bytes → IsLastSave filter (ps ++ more) number base bytes
save_grown filter ps more None base None s = s
save_grown filter ps more None base (Some bytes) s = absurd s
save_grown filter ps more (Some n) base None s = absurd s
save_grown filter ps more (Some n) base (Some bytes) s = record {
  value = s.value;
  spells = s.spells;
  filter_is = s.filter_is;
  number_is = s.number_is;
  base_is = s.base_is;
  below = s.below;
  within = rw length-append (let w = s.within in omega arith);
  mirror = rw (changes_within ps more n s.within, after_within ps more base n s.within) s.mirror;
  time = s.time ∙ sym (time_within ps more n s.within);
}

empty_batch : IsBatch []
empty_batch = record { few = omega arith; each = tt }

closed_keeps : (filter : FilterValue) (h : hist.History) (t n : ℕ) (a b : WorldValue) → IsInStep filter h a → CanClose a.publisher t → IsPositive t
    → b ≡ record a { publisher = closed a.publisher t; archive = a.archive ++ written_of (closing a.publisher t) ∷ [] }
    → IsInStep filter ((Close t, Closed n) ∷ h) b
closed_keeps filter h t n a b s can positive is =
    let p : PublishedValue = record { number = length (hist.published_of h) + 1; changes = hist.pending_of h; time = t } in
    let many : length (hist.published_of h ++ p ∷ []) ≡ length (hist.published_of h) + 1 = length-append (hist.published_of h) (p ∷ []) in
    let last : last_time (hist.published_of h ++ p ∷ []) ≡ t = last_time-snoc (hist.published_of h) p in
    let number : a.publisher.number ≡ length (hist.published_of h) = ap (λ (q : PublisherValue). q.number) s.publisher in
    let room = can.room in
    rw is (record {
      publisher = rw (s.publisher, many, last) refl;
      archive = rw (s.publisher, s.archive, map-append written_of (hist.published_of h) (p ∷ [])) refl;
      sequences = sequences-snoc (hist.published_of h) p s.sequences (record { number_is = refl; most = omega arith; changes = s.batch; time = positive });
      batch = empty_batch;
      saved = save_grown filter (hist.published_of h) (p ∷ []) (hist.last_saved h) (hist.saved_base_of h) a.saved s.saved;
      filter_is = s.filter_is;
      broken = s.broken;
      state = λ ok. state_grown filter (hist.published_of h) (p ∷ []) (hist.base_of h) (hist.start_of h) (hist.accepted_of h) a.follower (s.state ok);
      reported = λ ok. rw append-nil (s.reported ok);
    })

-- the numbers from the next up to high were reported too
reported_more : (reported : List ℕ) (start n k low high count : ℕ) → k ≡ n + 1 → low ≡ k → high ≡ k + count
    → IsReported reported start n → IsReported (reported ++ numbers (low - 1) (high + 1 - low)) start high
reported_more reported start n k low high count next low_is high_is p =
    let is = p.number_is in
    let many : high + 1 - low ≡ count + 1 = omega arith in
    let first : low - 1 ≡ start + p.count = omega arith in
    record {
      count = p.count + (count + 1);
      number_is = omega arith;
      reported_is = rw (first, many, p.reported_is) (between-append (λ j. j ∷ []) start p.count (count + 1));
    }

-- the laws of the two forms and of state texts
pub record AreLawful : Type 0 where
  pub spelled : (form : Form) (p : PublishedValue) → IsBatch p.changes → spells_in form (bytes_in form (written_of p)) p.changes
  pub one : (form : Form) → OneBatch (spells_in form)
  pub apart : NoFaultBeside

-- the sequence that is delivered is the one that was published
pub published_at : (filter : FilterValue) (h : hist.History) (a : WorldValue) (k : ℕ) → IsInStep filter h a → 0 < k → k ≤ a.publisher.number
    → IsSequence k (sequence_at (hist.published_of h) k)
published_at filter h a k s above there =
    let number : a.publisher.number ≡ length (hist.published_of h) = ap (λ (q : PublisherValue). q.number) s.publisher in
    s.sequences k above (omega arith)

pub delivered_as : AreLawful → (filter : FilterValue) (h : hist.History) (a b : WorldValue) (k : ℕ) (form : Form)
    (answer : Result Delivered DeliverError) → IsInStep filter h a → 0 < k → k ≤ a.publisher.number
    → table.Delivers (spells_in form) (fault_in form) a.follower (texts_at a.archive k).state
    (bytes_in form (texts_at a.archive k)) answer b.follower
    → FollowerStep a.follower (sequence_at (hist.published_of h) k) answer b.follower
delivered_as laws filter h a b k form answer s above there d =
    let number : a.publisher.number ≡ length (hist.published_of h) = ap (λ (q : PublisherValue). q.number) s.publisher in
    let p : PublishedValue = sequence_at (hist.published_of h) k in
    let is : IsSequence k p = published_at filter h a k s above there in
    let number_is : p.number ≡ k = is.number_is in
    let most = is.most in
    let texts : texts_at a.archive k ≡ written_of p = rw s.archive (texts_at-written (hist.published_of h) k above (omega arith)) in
    let named : StateOf (written_of p).state (state_of p) = written_is_read (state_of p) (record { sequence = omega arith; time = is.time }) in
    let read : table.Delivers (spells_in form) (fault_in form) a.follower (written_of p).state (bytes_in form (written_of p)) answer b.follower =
    subst (λ (x : PublishedTexts). table.Delivers (spells_in form) (fault_in form) a.follower x.state (bytes_in form x) answer b.follower) texts d in
    read_as (spells_in form) (fault_in form) (laws.one form) laws.apart a.follower b.follower (written_of p).state
    (bytes_in form (written_of p)) p (omega arith) named (laws.spelled form p is.changes) answer read

held_keeps : AreLawful → (filter : FilterValue) (h : hist.History) (k : ℕ) (form : Form) (a b : WorldValue) → IsInStep filter h a
    → DeliversTo a k form Held b → IsInStep filter ((Deliver k form, Held) ∷ h) b
held_keeps laws filter h k form a b s t =
    let p : PublishedValue = sequence_at (hist.published_of h) k in
    let published : a.publisher.number ≡ length (hist.published_of h) = ap (λ (q : PublisherValue). q.number) s.publisher in
    let is : IsSequence k p = published_at filter h a k s t.above t.there in
    let number_is : p.number ≡ k = is.number_is in
    let step : FollowerStep a.follower p (Ok answers.Held) b.follower = delivered_as laws filter h a b k form (Ok answers.Held) s t.above t.there t.replies in
    let same : b.follower.is_broken ≡ a.follower.is_broken = ap (λ (f : FollowerValue). f.is_broken) step.2.rest in
    let number : b.follower.number ≡ a.follower.number = ap (λ (f : FollowerValue). f.number) step.2.rest in
    let later : a.follower.number + 1 < k = rw number_is at step.1 in
    let within : k ≤ a.follower.number + 64 = rw number_is at step.0.within in
    let there : k ≤ length (hist.published_of h) = (let w = t.there in omega arith) in
    rw t.rest (record {
      publisher = rw append-nil s.publisher;
      archive = s.archive;
      sequences = s.sequences;
      batch = rw append-nil s.batch;
      saved = s.saved;
      filter_is = ap (λ (f : FollowerValue). f.filter) step.2.rest ∙ s.filter_is;
      broken = same ∙ s.broken;
      state = λ ok. state_held filter (hist.published_of h) (hist.base_of h) (hist.start_of h) (hist.accepted_of h)
          (λ j. (k == j) || hist.accepted_of h j) k a.follower b.follower (s.state ok) (λ j. refl) later within there
          number_is step.2;
      reported = λ ok. rw (number, append-nil) (s.reported ok);
    })

applied_keeps : AreLawful → (filter : FilterValue) (h : hist.History) (k low high : ℕ) (form : Form) (a b : WorldValue) → IsInStep filter h a
    → DeliversTo a k form (Applied low high) b → IsInStep filter ((Deliver k form, Applied low high) ∷ h) b
applied_keeps laws filter h k low high form a b s t =
    let p : PublishedValue = sequence_at (hist.published_of h) k in
    let published : a.publisher.number ≡ length (hist.published_of h) = ap (λ (q : PublisherValue). q.number) s.publisher in
    let is : IsSequence k p = published_at filter h a k s t.above t.there in
    let number_is : p.number ≡ k = is.number_is in
    let step : FollowerStep a.follower p (Ok (answers.Applied low high)) b.follower =
    delivered_as laws filter h a b k form (Ok (answers.Applied low high)) s t.above t.there t.replies in
    let same : b.follower.is_broken ≡ a.follower.is_broken = step.3.whole ∙ sym step.0.whole in
    let number : b.follower.number ≡ high = step.3.number in
    let next : k ≡ a.follower.number + 1 = sym number_is ∙ step.1 in
    let low_is : low ≡ k = step.2 ∙ number_is in
    let high_is : high ≡ k + step.3.count = rw number_is at step.3.high_is in
    let there : k ≤ length (hist.published_of h) = (let w = t.there in omega arith) in
    rw t.rest (record {
      publisher = rw append-nil s.publisher;
      archive = s.archive;
      sequences = s.sequences;
      batch = rw append-nil s.batch;
      saved = s.saved;
      filter_is = step.3.same_filter ∙ s.filter_is;
      broken = same ∙ s.broken;
      state = λ ok. state_taken filter (hist.published_of h) (hist.base_of h) (hist.start_of h) (hist.accepted_of h)
          (λ j. (k == j) || hist.accepted_of h j) k high a.follower b.follower (s.state ok) (λ j. refl) next there
          number_is step.3;
      reported = λ ok. rw number (reported_more (hist.reported_of h) (hist.start_of h) a.follower.number k low high
          step.3.count next low_is high_is (s.reported ok));
    })

broke_keeps : AreLawful → (filter : FilterValue) (h : hist.History) (k : ℕ) (form : Form) (a b : WorldValue) → IsInStep filter h a
    → DeliversTo a k form Broke b → IsInStep filter ((Deliver k form, Broke) ∷ h) b
broke_keeps laws filter h k form a b s t =
    let step : FollowerStep a.follower (sequence_at (hist.published_of h) k) (Err errors.Broke) b.follower =
    delivered_as laws filter h a b k form (Err errors.Broke) s t.above t.there t.replies in
    rw t.rest (record {
      publisher = rw append-nil s.publisher;
      archive = s.archive;
      sequences = s.sequences;
      batch = rw append-nil s.batch;
      saved = s.saved;
      filter_is = ap (λ (f : FollowerValue). f.filter) step.2.rest ∙ s.filter_is;
      broken = ap (λ (f : FollowerValue). f.is_broken) step.2.rest;
      state = λ ok. cc;
      reported = λ ok. cc;
    })

still : (h : hist.History) (e : Event) (r : Reply) → hist.edit_of e r ≡ [] → hist.closes e r ≡ false
    → hist.last_saved ((e, r) ∷ h) ≡ hist.last_saved h → hist.start_of ((e, r) ∷ h) ≡ hist.start_of h
    → hist.bases_of ((e, r) ∷ h) ≡ hist.bases_of h
    → hist.is_broken ((e, r) ∷ h) ≡ hist.is_broken h → hist.accepted_of ((e, r) ∷ h) ≡ hist.accepted_of h
    → hist.reported_of ((e, r) ∷ h) ≡ hist.reported_of h ++ [] → IsQuiet h e r
still h e r a b c d bases f g i = record { edit = a; closed = b; saved = c; start = d; bases = bases; broken = f; accepted = g; reported = i }

-- a save text is that of one value
abbrev pub OneSave : Type 0
OneSave = (bytes : List ℕ) (v w : SavedValue) → SpellsSave bytes v → SpellsSave bytes w → v ≡ w

saved_keeps : (filter : FilterValue) (h : hist.History) (n : ℕ) (a b : WorldValue) → IsInStep filter h a → SaveStep a (Saved n) b
    → IsInStep filter ((Save, Saved n) ∷ h) b
saved_keeps filter h n a b s t =
    let state : IsState filter (hist.published_of h) (hist.base_of h) (hist.start_of h) (hist.accepted_of h) a.follower = s.state (sym s.broken ∙ t.1) in
    rw t.4 (record {
      publisher = rw append-nil s.publisher;
      archive = s.archive;
      sequences = s.sequences;
      batch = rw append-nil s.batch;
      saved = record {
        value = saved_of a.follower;
        spells = t.3;
        filter_is = s.filter_is;
        number_is = sym t.2;
        base_is = state.base_is;
        below = rw (t.2, ← state.base_is) state.follows.base;
        within = rw t.2 state.follows.within;
        mirror = rw t.2 (rw (state.base_is, s.filter_is) at state.follows.mirror);
        time = rw t.2 state.follows.time;
      };
      filter_is = s.filter_is;
      broken = s.broken;
      state = λ ok. s.state ok;
      reported = λ ok. rw append-nil (s.reported ok);
    })

-- a follower with that filter that starts at a number
pub record StartsAt (filter : FilterValue) (ps : List PublishedValue) (base n : ℕ) (f : FollowerValue) : Type 0 where
  pub filter_is : f.filter ≡ filter
  pub number : f.number ≡ n
  pub whole : f.is_broken ≡ false
  pub state : IsState filter ps base n (λ j. false) f

starts_new : (filter : FilterValue) (ps : List PublishedValue) → StartsAt filter ps 0 0 (new_follower_of filter)
starts_new filter ps = record {
  filter_is = refl;
  number = refl;
  whole = refl;
  state = record {
    filter_is = refl;
    base_is = refl;
    reach = record { from = omega arith; all = λ j above below. absurd (omega arith); next = refl };
    follows = record {
      base = omega arith;
      within = omega arith;
      mirror = mirror_of-nil filter;
      time = refl;
      held = λ j p e. absurd (let bad : None ≡ Some p = e in cc);
    };
    held = λ j past. refl;
  };
}

starts_saved : (filter : FilterValue) (ps : List PublishedValue) (base n : ℕ) (v : SavedValue) → v.filter ≡ filter → v.number ≡ n → v.base ≡ base
    → base ≤ n → n ≤ length ps → IsMirrorOf filter (changes_up_to ps n) (changes_after ps base n) v.mirror → v.time ≡ time_at ps n
    → StartsAt filter ps base n (follower_of v)
starts_saved filter ps base n v kept_by number based below within mirror time = record {
  filter_is = kept_by;
  number = number;
  whole = refl;
  state = record {
    filter_is = kept_by;
    base_is = based;
    reach = rw number (record { from = omega arith; all = λ j above below. absurd (omega arith); next = refl });
    follows = record {
      base = rw (number, based) below;
      within = rw number within;
      mirror = rw (number, based, kept_by) mirror;
      time = rw number time;
      held = λ j p e. absurd (let bad : None ≡ Some p = e in cc);
    };
    held = λ j past. refl;
  };
}

-- a restart that was made starts at the number saved last
pub restarted_as : OneSave → (filter : FilterValue) (ps : List PublishedValue) (number : Option ℕ) (base : ℕ) (bytes : Option (List ℕ))
    (f g : FollowerValue) → f.filter ≡ filter → IsLastSave filter ps number base bytes → Restarts f bytes (Ok tt) g
    → StartsAt filter ps base (unwrap_or number 0) g
restarted_as one filter ps None base None f g kept_by s t = rw (t, kept_by, s) (starts_new filter ps)
restarted_as one filter ps None base (Some bytes) f g kept_by s t = absurd s
restarted_as one filter ps (Some n) base None f g kept_by s t = absurd s
restarted_as one filter ps (Some n) base (Some bytes) f g kept_by s t =
    let same : t.0 ≡ s.value = one bytes t.0 s.value t.1 s.spells in
    rw (t.3, same) (starts_saved filter ps base n s.value s.filter_is s.number_is s.base_is s.below s.within s.mirror s.time)

restarted_keeps : OneSave → (filter : FilterValue) (h : hist.History) (n : ℕ) (a b : WorldValue) → IsInStep filter h a → RestartStep a (Restarted n) b
    → IsInStep filter ((Restart, Restarted n) ∷ h) b
restarted_keeps one filter h n a b s t =
    let g : StartsAt filter (hist.published_of h) (hist.saved_base_of h) (hist.saved_of h) b.follower =
    restarted_as one filter (hist.published_of h) (hist.last_saved h) (hist.saved_base_of h) a.saved a.follower b.follower
    s.filter_is s.saved t.0 in
    let number : b.follower.number ≡ hist.saved_of h = g.number in
    rw t.2 (record {
      publisher = rw append-nil s.publisher;
      archive = s.archive;
      sequences = s.sequences;
      batch = rw append-nil s.batch;
      saved = s.saved;
      filter_is = g.filter_is;
      broken = g.whole;
      state = λ ok. g.state;
      reported = λ ok. record { count = 0; number_is = omega arith; reported_is = refl };
    })

-- a restart that was refused for memory had something to restart from, and leaves the follower broken
pub refused_from : (filter : FilterValue) (ps : List PublishedValue) (number : Option ℕ) (base : ℕ) (bytes : Option (List ℕ)) (f g : FollowerValue)
    → IsLastSave filter ps number base bytes → Restarts f bytes (Err restarts.WantOfMemory) g → is_some number ≡ true
refused_from filter ps None base None f g s t = absurd t
refused_from filter ps None base (Some bytes) f g s t = absurd s
refused_from filter ps (Some n) base None f g s t = absurd s
refused_from filter ps (Some n) base (Some bytes) f g s t = refl

breaks : (bytes : Option (List ℕ)) (f g : FollowerValue) → Restarts f bytes (Err restarts.WantOfMemory) g → IsLeftBroken f g
breaks None f g t = absurd t
breaks (Some bytes) f g t = t

refused_keeps : (filter : FilterValue) (h : hist.History) (a b : WorldValue) → IsInStep filter h a → RestartStep a WantOfMemory b
    → IsInStep filter ((Restart, WantOfMemory) ∷ h) b
refused_keeps filter h a b s t = rw t.1 (record {
  publisher = rw append-nil s.publisher;
  archive = s.archive;
  sequences = s.sequences;
  batch = rw append-nil s.batch;
  saved = s.saved;
  filter_is = (let left = breaks a.saved a.follower b.follower t.0 in left.same_filter ∙ s.filter_is);
  broken = (let left = breaks a.saved a.follower b.follower t.0 in left.broken);
  state = λ ok. cc;
  reported = λ ok. cc;
})

-- ---- a beginning

-- a follower with that filter that was given sequences 1 to k
record IsGiver (filter : FilterValue) (ps : List PublishedValue) (k : ℕ) (f : FollowerValue) : Type 0 where
  filter_is : f.filter ≡ filter
  kept : AreKept filter f.mirror.objects
  follows : Follows ps f
  number : f.number ≡ k
  none : (j : ℕ) → held_at f j ≡ None

giver_new : (filter : FilterValue) (ps : List PublishedValue) → IsGiver filter ps 0 (new_follower_of filter)
giver_new filter ps = record { filter_is = refl; kept = tt; follows = (starts_new filter ps).state.follows; number = refl; none = λ j. refl }

giver_more : (filter : FilterValue) (ps : List PublishedValue) (k low high : ℕ) (e f : FollowerValue) → IsGiver filter ps k e → k + 1 ≤ length ps
    → (sequence_at ps (k + 1)).number ≡ k + 1
    → FollowerStep e (sequence_at ps (k + 1)) (Ok (answers.Applied low high)) f → IsGiver filter ps (k + 1) f
giver_more filter ps k low high e f g there number step =
    let taken = step.3 in
    let at : e.number ≡ k = g.number in
    let from : k + 1 ≤ high = rw number at taken.reach.from in
    let top : high ≡ k + 1 = elim (cases_lt (k + 1) high) [
      | inl past ↦ absurd (
          let held : is_held e high ≡ true = taken.reach.all high (rw number past) (omega arith) in
          let bad : true ≡ false = sym held ∙ ap is_some (g.none high) in cc)
      | inr within ↦ omega arith
    ] in
    record {
      filter_is = taken.same_filter ∙ g.filter_is;
      kept = stays_kept filter e.mirror f.mirror _ g.kept (rw g.filter_is at taken.applied);
      follows = follows_taken ps (k + 1) high e f g.follows (omega arith) there number taken;
      number = taken.number ∙ top;
      none = λ j. elim (cases_lt high j) [
        | inl past ↦ taken.rest j past ∙ g.none j
        | inr below ↦ taken.gone j below
      ];
    }

giver_of : AreLawful → (filter : FilterValue) (ps : List PublishedValue) → AreSequences ps → (k : ℕ) → k ≤ length ps → (f : FollowerValue)
    → IsFed filter (map written_of ps) k f → IsGiver filter ps k f
giver_of laws filter ps each zero within f fed = rw fed (giver_new filter ps)
giver_of laws filter ps each (suc k) within f fed =
    let e : FollowerValue = fed.0 in
    let p : PublishedValue = sequence_at ps (suc k) in
    let is : IsSequence (suc k) p = each (suc k) (omega arith) within in
    let number_is : p.number ≡ suc k = is.number_is in
    let most = is.most in
    let texts : texts_at (map written_of ps) (suc k) ≡ written_of p = texts_at-written ps (suc k) (omega arith) within in
    let named : StateOf (written_of p).state (state_of p) = written_is_read (state_of p) (record { sequence = omega arith; time = is.time }) in
    let given : table.Delivers (spells_in Opl) (fault_in Opl) e (written_of p).state (written_of p).opl
    (Ok (answers.Applied fed.1.0 fed.1.1)) f =
    subst (λ (x : PublishedTexts). table.Delivers (spells_in Opl) (fault_in Opl) e x.state x.opl
    (Ok (answers.Applied fed.1.0 fed.1.1)) f) texts fed.3 in
    let step : FollowerStep e p (Ok (answers.Applied fed.1.0 fed.1.1)) f =
    read_as (spells_in Opl) (fault_in Opl) (laws.one Opl) laws.apart e f (written_of p).state (written_of p).opl p
    (omega arith) named (laws.spelled Opl p is.changes) (Ok (answers.Applied fed.1.0 fed.1.1)) given in
    let next : suc k ≡ k + 1 = omega arith in
    subst (λ (n : ℕ). IsGiver filter ps n f) (sym next) (giver_more filter ps k fed.1.0 fed.1.1 e f
    (giver_of laws filter ps each k (omega arith) e fed.2) (omega arith) (rw next at number_is) (rw next at step))

-- nothing comes after a number up to itself
none_after : (ps : List PublishedValue) (k : ℕ) → k ≤ length ps → changes_after ps k k ≡ []
none_after ps k within = ap (flat_map (λ (p : PublishedValue). p.changes)) (drop_all k (take k ps) (omega (arith, length-take-le k ps within)))

-- the objects of a mirror, without its counts, if nothing is counted
uncounted : (filter : FilterValue) (cs some counted : List ChangeValue) (m : MirrorValue) → IsMirrorOf filter cs some m → AreKept filter m.objects
    → counted ≡ [] → IsMirrorOf filter cs counted (record { objects = kept_objects filter m.objects; users = []; changesets = [] })
unfolding IsStrictlySortedBy
uncounted filter cs some counted m is all none = rw (none, keeps_all filter m.objects all) (record {
  orderly = record {
    objects = is.orderly.objects;
    users = record { rising = tt; above = tt };
    changesets = record { rising = tt; above = tt };
  };
  objects = is.objects;
  users = λ uid. refl;
  changesets = λ id. refl;
})

begun_starts : (filter : FilterValue) (ps : List PublishedValue) → AreSequences ps → (k : ℕ) → 0 < k → k ≤ length ps → (giver f : FollowerValue)
    → IsGiver filter ps k giver → f ≡ begun_of filter (state_of (sequence_at ps k)) giver.mirror.objects → StartsAt filter ps k k f
begun_starts filter ps each k above within giver f g is =
    let sequence : IsSequence k (sequence_at ps k) = each k above within in
    let number_is : (sequence_at ps k).number ≡ k = sequence.number_is in
    rw is (record {
      filter_is = refl;
      number = number_is;
      whole = refl;
      state = record {
        filter_is = refl;
        base_is = number_is;
        reach = rw number_is (record { from = omega arith; all = λ j past below. absurd (omega arith); next = refl });
        follows = record {
          base = omega arith;
          within = rw number_is within;
          mirror = rw number_is (uncounted filter (changes_up_to ps k) (changes_after ps giver.base k) (changes_after ps k k) giver.mirror
              (rw (g.number, g.filter_is) at g.follows.mirror) g.kept (none_after ps k within));
          time = rw number_is (sym (time_next ps (k - 1) k (omega arith)));
          held = λ j p e. absurd (let bad : None ≡ Some p = e in cc);
        };
        held = λ j past. refl;
      };
    })

begun_keeps : AreLawful → (filter : FilterValue) (h : hist.History) (k n : ℕ) (a b : WorldValue) → IsInStep filter h a → BeginStep a k (Begun n) b
    → IsInStep filter ((Begin k, Begun n) ∷ h) b
begun_keeps laws filter h k n a b s t =
    let ps : List PublishedValue = hist.published_of h in
    let published : a.publisher.number ≡ length ps = ap (λ (q : PublisherValue). q.number) s.publisher in
    let within : k ≤ length ps = (let there = t.1 in omega arith) in
    let given : BeginsFrom filter a.archive k b.follower = rw s.filter_is at t.3 in
    let from : BeginsFrom filter (map written_of ps) k b.follower =
    subst (λ (archive : List PublishedTexts). BeginsFrom filter archive k b.follower) s.archive given in
    let p : PublishedValue = sequence_at ps k in
    let is : IsSequence k p = s.sequences k t.0 within in
    let number_is : p.number ≡ k = is.number_is in
    let most = is.most in
    let texts : texts_at (map written_of ps) k ≡ written_of p = texts_at-written ps k t.0 within in
    let named : StateOf (written_of p).state from.state = subst (λ (x : PublishedTexts). StateOf x.state from.state) texts from.named in
    let same : from.state ≡ state_of p = one_state (written_of p).state from.state (state_of p) named
    (written_is_read (state_of p) (record { sequence = omega arith; time = is.time })) in
    let begun : b.follower ≡ begun_of filter (state_of p) from.giver.mirror.objects =
    from.begun.2 ∙ ap (λ (x : StateValue). begun_of filter x from.giver.mirror.objects) same in
    let g : StartsAt filter ps k k b.follower = begun_starts filter ps s.sequences k t.0 within from.giver b.follower
    (giver_of laws filter ps s.sequences k within from.giver from.fed) begun in
    let number : b.follower.number ≡ k = g.number in
    rw t.4 (record {
      publisher = rw append-nil s.publisher;
      archive = s.archive;
      sequences = s.sequences;
      batch = rw append-nil s.batch;
      saved = s.saved;
      filter_is = g.filter_is;
      broken = g.whole;
      state = λ ok. g.state;
      reported = λ ok. record { count = 0; number_is = omega arith; reported_is = refl };
    })

-- before any event
pub new_in_step : (filter : FilterValue) → IsInStep filter [] (new_world_of filter)
new_in_step filter = record {
  publisher = refl;
  archive = refl;
  sequences = λ k above within. absurd (omega arith);
  batch = empty_batch;
  saved = refl;
  filter_is = refl;
  broken = refl;
  state = λ ok. record {
    filter_is = refl;
    base_is = refl;
    reach = record { from = omega arith; all = λ j above below. absurd (omega arith); next = refl };
    follows = record {
      base = omega arith;
      within = omega arith;
      mirror = mirror_of-nil filter;
      time = refl;
      held = λ j p e. absurd (let bad : None ≡ Some p = e in cc);
    };
    held = λ j past. refl;
  };
  reported = λ ok. record { count = 0; number_is = refl; reported_is = refl };
}

pub step_keeps : AreLawful → OneSave → (filter : FilterValue) (h : hist.History) (e : Event) (r : Reply) (a b : WorldValue) → IsInStep filter h a
    → Step a e r b → IsInStep filter ((e, r) ∷ h) b
step_keeps laws one filter h (Edit c) Edited a b s t = edited_keeps filter h c a b s t.1 t.2
step_keeps laws one filter h (Edit c) BatchFull a b s t = quiet_keeps filter h (Edit c) BatchFull a b
    (still h (Edit c) BatchFull refl refl refl refl refl refl refl refl) s t.1
step_keeps laws one filter h (Edit c) WantOfMemory a b s t =
    quiet_keeps filter h (Edit c) WantOfMemory a b (still h (Edit c) WantOfMemory refl refl refl refl refl refl refl refl) s t.1
step_keeps laws one filter h (Edit c) r a b s t = absurd t
step_keeps laws one filter h (Close m) (Closed n) a b s t = closed_keeps filter h m n a b s t.0 t.1 t.4
step_keeps laws one filter h (Close m) SequenceFull a b s t = quiet_keeps filter h (Close m) SequenceFull a b
    (still h (Close m) SequenceFull refl refl refl refl refl refl refl refl) s t.1
step_keeps laws one filter h (Close m) TimeBack a b s t = quiet_keeps filter h (Close m) TimeBack a b
    (still h (Close m) TimeBack refl refl refl refl refl refl refl refl) s t.2
step_keeps laws one filter h (Close m) TooLarge a b s t = quiet_keeps filter h (Close m) TooLarge a b
    (still h (Close m) TooLarge refl refl refl refl refl refl refl refl) s t.2
step_keeps laws one filter h (Close m) WantOfMemory a b s t = quiet_keeps filter h (Close m) WantOfMemory a b
    (still h (Close m) WantOfMemory refl refl refl refl refl refl refl refl) s t.1
step_keeps laws one filter h (Close m) r a b s t = absurd t
step_keeps laws one filter h (Deliver k form) NotPublished a b s t = quiet_keeps filter h (Deliver k form) NotPublished a b
    (still h (Deliver k form) NotPublished refl refl refl refl refl refl refl refl) s t.1
step_keeps laws one filter h (Deliver k form) Broken a b s t = quiet_keeps filter h (Deliver k form) Broken a b
    (still h (Deliver k form) Broken refl refl refl refl refl refl refl refl) s
    (unmoved a b t.rest (delivered_as laws filter h a b k form (Err errors.Broken) s t.above t.there t.replies).1)
step_keeps laws one filter h (Deliver k form) Old a b s t =
    quiet_keeps filter h (Deliver k form) Old a b (still h (Deliver k form) Old refl refl refl refl refl refl refl refl) s
    (unmoved a b t.rest (delivered_as laws filter h a b k form (Ok answers.Old) s t.above t.there t.replies).2)
step_keeps laws one filter h (Deliver k form) Again a b s t = quiet_keeps filter h (Deliver k form) Again a b
    (still h (Deliver k form) Again refl refl refl refl refl refl refl refl) s
    (unmoved a b t.rest (delivered_as laws filter h a b k form (Ok answers.Again) s t.above t.there t.replies).3)
step_keeps laws one filter h (Deliver k form) TooEarly a b s t = quiet_keeps filter h (Deliver k form) TooEarly a b
    (still h (Deliver k form) TooEarly refl refl refl refl refl refl refl refl) s
    (unmoved a b t.rest (delivered_as laws filter h a b k form (Err errors.TooEarly) s t.above t.there t.replies).3)
step_keeps laws one filter h (Deliver k form) WantOfMemory a b s t = quiet_keeps filter h (Deliver k form) WantOfMemory a b
    (still h (Deliver k form) WantOfMemory refl refl refl refl refl refl refl refl) s
    (unmoved a b t.rest (delivered_as laws filter h a b k form (Err errors.WantOfMemory) s t.above t.there t.replies).2)
step_keeps laws one filter h (Deliver k form) Held a b s t = held_keeps laws filter h k form a b s t
step_keeps laws one filter h (Deliver k form) (Applied low high) a b s t = applied_keeps laws filter h k low high form a b s t
step_keeps laws one filter h (Deliver k form) Broke a b s t = broke_keeps laws filter h k form a b s t
step_keeps laws one filter h (Deliver k form) r a b s t = absurd t.replies
step_keeps laws one filter h Show Broken a b s t = quiet_keeps filter h Show Broken a b (still h Show Broken refl refl refl refl refl refl refl refl) s t.1
step_keeps laws one filter h Show (Shown v) a b s t =
    quiet_keeps filter h Show (Shown v) a b (still h Show (Shown v) refl refl refl refl refl refl refl refl) s t.3
step_keeps laws one filter h Show WantOfMemory a b s t =
    quiet_keeps filter h Show WantOfMemory a b (still h Show WantOfMemory refl refl refl refl refl refl refl refl) s t.1
step_keeps laws one filter h Show r a b s t = absurd t
step_keeps laws one filter h Save Broken a b s t = quiet_keeps filter h Save Broken a b (still h Save Broken refl refl refl refl refl refl refl refl) s t.1
step_keeps laws one filter h Save (Saved n) a b s t = saved_keeps filter h n a b s t
step_keeps laws one filter h Save WantOfMemory a b s t =
    quiet_keeps filter h Save WantOfMemory a b (still h Save WantOfMemory refl refl refl refl refl refl refl refl) s t.1
step_keeps laws one filter h Save r a b s t = absurd t
step_keeps laws one filter h Restart (Restarted n) a b s t = restarted_keeps one filter h n a b s t
step_keeps laws one filter h Restart WantOfMemory a b s t = refused_keeps filter h a b s t
step_keeps laws one filter h Restart r a b s t = absurd t
step_keeps laws one filter h (Begin k) NotPublished a b s t = quiet_keeps filter h (Begin k) NotPublished a b
    (still h (Begin k) NotPublished refl refl refl refl refl refl refl refl) s t.1
step_keeps laws one filter h (Begin k) (Begun n) a b s t = begun_keeps laws filter h k n a b s t
step_keeps laws one filter h (Begin k) WantOfMemory a b s t = quiet_keeps filter h (Begin k) WantOfMemory a b
    (still h (Begin k) WantOfMemory refl refl refl refl refl refl refl refl) s t.2
step_keeps laws one filter h (Begin k) r a b s t = absurd t
