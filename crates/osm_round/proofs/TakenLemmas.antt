-- The numbers that a run takes, one after the other.
use Rattle.std.proofs.Common.{◌≡◌, ℕ, zero, suc, ◌+◌, ◌<◌, ◌≤◌, List, [], ◌++◌, length, length-append, Option, Some, None}
use Rattle.std.specs.Prelude.{IsTrue}
use Rattle.std.proofs.Common.{◌-◌, true, inl, inr, arith, refl, sym, ap, subst, ◌∙◌}
use Rattle.std.specs.Prelude.{Result, Ok, Err, IfErr, IfOk}
use Rattle.std.proofs.lemmas.Bool.{cases_lt}
use Rattle.osm_model.specs.Filter.{FilterValue}
use Rattle.osm_mirror.specs.Mirror.{IsOrderly}
use Rattle.osm_net.specs.Laid.{laid_on}
use Rattle.osm_net.specs.Net.{no_net}
use Rattle.osm_net.proofs.JoinedLemmas.{applies_after}
use Rattle.osm_net.proofs.NetLemmas.{net_grown, none_changes_nothing, nothing_is_none, widens_more}
use Rattle.osm_save.specs.Head.{head_of}
use Rattle.osm_save.specs.Save.{saved_with}
use Rattle.osm_save.specs.declared.head.Head.{Head}
use Rattle.osm_save.specs.declared.save.Saved.{Saved}
use Rattle.osm_store.specs.Files.{Files}
use Rattle.osm_runs.specs.Following.{AddsAll, IsReadable, NumberStops, bytes_of, size_of}
use Rattle.osm_runs.specs.Progress.{IsOfContent}
use Rattle.osm_runs.specs.declared.fault.RunFault.{RunFault}
use Rattle.osm_round.specs.Taking.{AdvancesAll, Fills, HasTaken, StopsOnTheWay, TakesNumber, counted}
use Rattle.osm_round.specs.declared.gathered.Gathered.{Gathered}
use Rattle.osm_round.specs.declared.taken.End.{End}
use Rattle.osm_round.specs.declared.taken.End.TheVariants.{Faulty}
use Rattle.osm_round.specs.declared.taken.Taken.{Taken}
use Rattle.osm_round.specs.News.{TakenValue}

-- ---- changes after others, laid over a mirror

-- ---- nothing, and one number more

pub takes_nothing : (known : Type 0) (files : Files) (dir : List ℕ) (f : FilterValue) (taken : TakenValue) → taken.net ≡ no_net
    → HasTaken known files dir f taken.head taken
takes_nothing known files dir f taken none = record {
  count = 0;
  is = record {
    number = omega arith;
    base = refl;
    time = λ t. t;
    none = λ zero_is. (refl, none);
    changes = [];
    few = omega arith;
    net = rw none (nothing_is_none f);
    widens = rw none (record { users = omega arith; changesets = omega arith });
  };
  advances = λ sure. (refl, none);
}

pub takes_more : (known : Type 0) (files : Files) (dir : List ℕ) (f : FilterValue) (start : Head) (number size : ℕ) (old new : TakenValue)
    (before after : Gathered) → number ≡ old.head.number + 1 → HasTaken known files dir f start old
    → TakesNumber known files dir number f old new before after (Some size) → (new.head.number ≡ number) × HasTaken known files dir f start new
takes_more known files dir f start number size old new before after next has (time, changes, is, head, takes, widens, sized, grown) =
    let t = has.is in
    let at : new.head.number ≡ number = ap (λ (h : Head). h.number) head in
    let count_is = t.number in
    let few = t.few in
    let limit = is.limits.few in (
      at,
      record {
        count = suc has.count;
        is = record {
          number = omega (arith, at, next, count_is);
          base = ap (λ (h : Head). h.base) head ∙ t.base;
          time = λ start_time. rw head (let above : 0 < number = omega (arith, next) in (above, is.positive));
          none = λ zero_is. absurd (omega (arith, zero_is));
          changes = t.changes ++ changes;
          few = (let sum = length-append t.changes changes in omega (arith, sum, few, limit));
          net = net_grown f old.net new.net t.changes changes takes t.net;
          widens = widens_more no_net old.net new.net (length t.changes) (length changes) (length (t.changes ++ changes)) t.widens widens
              (length-append t.changes changes);
        };
        advances = λ sure. (
          old,
          has.advances sure,
          record {
            next = record { number = number; changes = changes; time = time };
            number_is = next;
            there = is.there sure;
            onward = is.onward;
            head = head;
            applies = applies_after f t.changes changes old.net new.net t.net takes;
          },
        );
      },
    )

-- a count of one more number
count_next : (total size more item sum : ℕ) → size ≡ counted total → more ≡ item → sum ≡ counted (size + more) → sum ≡ counted (total + item)
count_next total size more item sum is same sum_is = omega (arith, is, same, sum_is)

-- the bytes of one more number
pub bytes_more : (files : Files) (dir : List ℕ) (from before size more sum : ℕ) → from ≤ before
    → size ≡ counted (bytes_of files dir from (before - from)) → more ≡ size_of files dir (before + 1)
    → sum ≡ counted (size + more) → sum ≡ counted (bytes_of files dir from (before + 1 - from))
bytes_more files dir from before size more sum above is more_is sum_is =
    let count = before - from in
    let next : before + 1 - from ≡ suc count = omega (arith, above) in
    let at : from + count + 1 ≡ before + 1 = omega (arith, above) in
    let last : more ≡ size_of files dir (from + count + 1) = subst (λ k. more ≡ size_of files dir k) (sym at) more_is in
    subst (λ k. sum ≡ counted (bytes_of files dir from k)) (sym next)
    (count_next (bytes_of files dir from count) size more (size_of files dir (from + count + 1)) sum is last sum_is)

-- a count is no more than there is
pub count_within : (total size : ℕ) → size ≡ counted total → size ≤ total
count_within total size is = omega (arith, is)

-- what fills the room fills it with more bytes too
pub fills_more : (known : Type 0) (room : Option ℕ) (size more : ℕ) → Fills (IsTrue true) room size → (known → size ≤ more) → Fills known room more
fills_more known None size more h fits = absurd h
fills_more known (Some room) size more h fits = λ sure. (let full = h refl in let least = fits sure in omega (arith, full, least))

-- ---- what was taken is what is added to a save

pub adds_all : (files : Files) (dir : List ℕ) (f : FilterValue) (v : Saved) (count : ℕ) (taken : TakenValue)
    → v.filter ≡ f → IsOrderly v.mirror → AdvancesAll files dir f (head_of v) count taken
    → AddsAll files dir count v (saved_with taken.head v.filter (laid_on taken.net v.mirror))
adds_all files dir f v zero taken filter_is orderly (head, none) =
    rw (head, none, none_changes_nothing v.mirror) refl
adds_all files dir f v (suc count) taken filter_is orderly (between, before, last) = (
  saved_with between.head v.filter (laid_on between.net v.mirror),
  adds_all files dir f v count between filter_is orderly before,
  record {
    next = last.next;
    number_is = last.number_is;
    there = last.there;
    applied = rw filter_is (last.applies v.mirror orderly);
    number = ap (λ (h : Head). h.number) last.head;
    base = ap (λ (h : Head). h.base) last.head;
    same_filter = refl;
    time = ap (λ (h : Head). h.time) last.head;
    onward = last.onward;
  },
)

pub advances_number : (files : Files) (dir : List ℕ) (f : FilterValue) (start : Head) (count : ℕ) (taken : TakenValue)
    → AdvancesAll files dir f start count taken → taken.head.number ≡ start.number + count
advances_number files dir f start zero taken (head, none) = let at = ap (λ (h : Head). h.number) head in omega (arith, at)
advances_number files dir f start (suc count) taken (between, before, last) =
    let one = advances_number files dir f start count between before in
    let at = ap (λ (h : Head). h.number) last.head in
    let next = last.number_is in
    omega (arith, one, at, next)

-- the files of each number that was taken are there
pub advances_has : (files : Files) (dir : List ℕ) (f : FilterValue) (start : Head) (count : ℕ) (taken : TakenValue)
    → AdvancesAll files dir f start count taken → (k : ℕ) → start.number < k → k ≤ start.number + count → IsReadable files dir k
advances_has files dir f start zero taken a k above within = absurd (omega arith)
advances_has files dir f start (suc count) taken (between, before, last) k above within =
    let one = advances_number files dir f start count between before in
    let next = last.number_is in
    elim (cases_lt (start.number + count) k) [
      | inl past ↦ (last.next, (let same : last.next.number ≡ k = omega (arith, one, next) in same), last.there)
      | inr until ↦ advances_has files dir f start count between before k above until
    ]

-- ---- faults

-- if taking ends before a faulty file, what was taken and gathered is what it was
pub at_end : (P : Taken → Gathered → End → Type 0) (old new : Taken) (before after : Gathered) (fault : RunFault) (r : Result End RunFault)
    → IfOk r (λ end. end ≡ Faulty fault) → IfOk r (λ end. (k : ℕ) × IsOfContent fault k) → ((k : ℕ) → IsOfContent fault k → new ≡ old)
    → ((k : ℕ) → IsOfContent fault k → after ≡ before) → ((k : ℕ) → IsOfContent fault k → P old before (Faulty fault)) → IfOk r (P new after)
at_end P old new before after fault (Ok end) is content same still holds =
    let here = holds content.0 content.1 in
    rw (is, same content.0 content.1, still content.0 content.1) here
at_end P old new before after fault (Err e) is content same still holds = tt

-- another fault
pub end_stops : (known : Type 0) (files : Files) (dir : List ℕ) (f : FilterValue) (last : ℕ) (start : Head) (taken : TakenValue) (fault : RunFault)
    (r : Result End RunFault) → IfErr r (λ x. x ≡ fault) → IfErr r (λ x. (k : ℕ) → IsOfContent x k → ⊥) → HasTaken known files dir f start taken
    → taken.head.number < last → NumberStops known dir files taken.head.time (taken.head.number + 1) fault
    → IfErr r (StopsOnTheWay known files dir f last start)
end_stops known files dir f last start taken fault (Ok end) is plain has below stops = tt
end_stops known files dir f last start taken fault (Err x) is plain has below stops =
    let number_is = has.is.number in
    record {
      number = taken.head.number + 1;
      above = omega (arith, number_is);
      until = omega (arith, below);
      each = λ sure k above under. advances_has files dir f start has.count taken (has.advances sure) k above (omega (arith, number_is, under));
      plain = plain;
      before = taken.head.time;
      stops = subst (NumberStops known dir files taken.head.time (taken.head.number + 1)) (sym is) stops;
    }
