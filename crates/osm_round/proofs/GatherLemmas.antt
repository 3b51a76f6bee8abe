-- What a run gathers of what it takes.
use Rattle.std.proofs.Common.{◌≡◌, ℕ, ◌+◌, ◌≤◌, List, [], ◌∷◌, ◌++◌, length, length-append, Some, true, false, inl, inr, arith, refl, sym, ap, subst, ◌∙◌}
use Rattle.std.specs.Prelude.{Bool, Result, Ok, Err, IfOk}
use Rattle.std.specs.List.{AllByRecursion}
use Rattle.osm_model.specs.Filter.{FilterValue}
use Rattle.osm_model.specs.Limits.{max_file, max_sequence}
use Rattle.osm_o5c.specs.Written.{o5c_text}
use Rattle.osm_o5c.proofs.WrittenFile.{text_spells}
use Rattle.osm_net.specs.Net.{no_net}
use Rattle.osm_net.proofs.JoinedLemmas.{applies_after}
use Rattle.osm_net.proofs.NetLemmas.{none_changes_nothing}
use Rattle.osm_save.specs.declared.head.Head.{Head}
use Rattle.osm_save.specs.declared.save.Saved.{Saved}
use Rattle.osm_store.specs.Files.{Files}
use Rattle.osm_journal.specs.Journal.{BatchValue, Follow, IsBatch}
use Rattle.osm_kept.specs.Kept.{AddsBatch, AddsBatches}
use Rattle.osm_kept.proofs.BatchLemmas.{adds_more, all_append}
use Rattle.osm_runs.specs.declared.fault.RunFault.{RunFault}
use Rattle.osm_round.specs.Gathering.{GathersIn, GrowsBy, GrowsFrom, IsBegunUpTo, IsWritten, KeepsUpTo, total_of}
use Rattle.osm_round.specs.Putting.{saved_after}
use Rattle.osm_round.specs.Taking.{HasTaken, TakesNumber}
use Rattle.osm_round.specs.declared.gathered.Gathered.{Gathered}
use Rattle.osm_round.specs.declared.round.Prepared.{Prepared}
use Rattle.osm_round.specs.declared.taken.Taken.{Taken}
use Rattle.osm_round.specs.News.{TakenValue}

-- ---- one batch more

pub total_more : (bs : List BatchValue) (b : BatchValue) → total_of (bs ++ b ∷ []) ≡ total_of bs + length b.bytes
total_more [] b = omega arith
total_more (x ∷ xs) b = let rest = total_more xs b in omega (arith, rest)

follow_more : (number : ℕ) (bs : List BatchValue) (b : BatchValue) → Follow number bs → b.number ≡ number + length bs + 1
    → Follow number (bs ++ b ∷ [])
follow_more number [] b follow next = (omega (arith, next), tt)
follow_more number (x ∷ xs) b follow next =
    let first = follow.0 in
    (first, follow_more x.number xs b follow.1 (omega (arith, first, next)))

module _ (most : ℕ) (bs : List BatchValue) (b : BatchValue) (before after : Gathered) (low : most ≤ max_file)
    (limits : length b.bytes ≤ max_file → IsBatch b) where
  keeps_one : (q : Bool) → KeepsUpTo most bs before true → GrowsBy b before after q → KeepsUpTo most (bs ++ b ∷ []) after q
  keeps_one true (same, each, room) (items, left) =
      let more = total_more bs b in (
        items ∙ ap (λ (l : List BatchValue). l ++ b ∷ []) same,
        all_append IsBatch bs (b ∷ []) each (limits (omega (arith, room, left, low)), tt),
        omega (arith, more, room, left),
      )
  keeps_one false (same, each, room) over = inl (let more = total_more bs b in omega (arith, more, room, over))

  keeps_more : (p : Bool) → KeepsUpTo most bs before p → GrowsFrom b before after p → KeepsUpTo most (bs ++ b ∷ []) after after.is_whole
  keeps_more true keeps grown = keeps_one after.is_whole keeps grown
  keeps_more false (inl over) none = rw none (inl (let more = total_more bs b in omega (arith, more, over)))
  keeps_more false (inr unasked) none = rw none (inr unasked)

-- ---- what is gathered of what was taken

pub gathers_nothing : (known : Type 0) (files : Files) (dir : List ℕ) (f : FilterValue) (taken : TakenValue) (g : Gathered) → taken.net ≡ no_net
    → IsBegunUpTo g.left g → GathersIn known files dir f taken.head g.left taken g
gathers_nothing known files dir f taken g none begun = record {
  gathers = record {
    batches = [];
    after = record {
      follow = tt;
      number = omega arith;
      adds = λ v head_is filter_is orderly. rw (none, ← head_is, none_changes_nothing v.mirror) refl;
    };
    keeps = begun;
  };
  written = tt;
}

pub gathers_more : (known : Type 0) (files : Files) (dir : List ℕ) (f : FilterValue) (start : Head) (most number size : ℕ) (old new : TakenValue)
    (before after : Gathered) → number ≡ old.head.number + 1 → most ≤ max_file → number ≤ max_sequence → HasTaken known files dir f start old
    → GathersIn known files dir f start most old before → TakesNumber known files dir number f old new before after (Some size)
    → GathersIn known files dir f start most new after
gathers_more known files dir f start most number size old new before after next low within has g (time, changes, is, head, takes, widens, sized, grown) =
    let b : BatchValue = record { number = number; time = time; bytes = o5c_text changes } in
    let bs = g.gathers.batches in
    let at : new.head.number ≡ number = ap (λ (h : Head). h.number) head in
    let count = g.gathers.after.number in
    let counted = length-append bs (b ∷ []) in
    record {
      gathers = record {
        batches = bs ++ b ∷ [];
        after = record {
          follow = follow_more start.number bs b g.gathers.after.follow (omega (arith, next, count));
          number = omega (arith, at, next, count, counted);
          adds = λ v head_is filter_is orderly. adds_more bs b v (saved_after v old) (saved_after v new)
              (g.gathers.after.adds v head_is filter_is orderly) (record {
                changes = changes;
                spells = text_spells changes is.limits;
                number_is = next;
                applied = rw filter_is (applies_after f has.is.changes changes old.net new.net has.is.net takes v.mirror orderly);
                number = at;
                base = ap (λ (h : Head). h.base) head;
                same_filter = refl;
                time = ap (λ (h : Head). h.time) head;
              });
        };
        keeps = keeps_more most bs b before after low (λ short. record { number = within; time = is.positive; short = short }) before.is_whole
            g.gathers.keeps grown;
      };
      written = all_append (IsWritten known files dir) bs (b ∷ []) g.written (record { changes = changes; text = refl; there = is.there }, tt);
    }

-- what holds of what was taken holds of what was prepared
pub taken_holds : (P : Taken → Type 0) (taken : Taken) (r : Result Prepared RunFault) → IfOk r (λ p. p.taken ≡ taken) → P taken
    → IfOk r (λ p. P p.taken)
taken_holds P taken (Ok p) is holds = subst P (sym is) holds
taken_holds P taken (Err e) is holds = tt
