-- Net changes of a journal with those of what was taken after them.
use Rattle.std.proofs.Common.{◌≡◌, ℕ, ◌+◌, ◌*◌, ◌<◌, ◌≤◌, List, ◌++◌, length, length-append, Option, arith, refl, subst, ◌∙◌}
use Rattle.osm_model.specs.Filter.{FilterValue}
use Rattle.osm_model.specs.Limits.{max_changes, max_sequence}
use Rattle.osm_net.specs.Net.{IsJoined, IsNetOf, NetValue, no_net}
use Rattle.osm_net.specs.NetLaws.{NetsJoin}
use Rattle.osm_net.proofs.JoinedLemmas.{joined_grown}
use Rattle.osm_net.proofs.NetLemmas.{counts_are_few, widens_more}
use Rattle.osm_kept.specs.Finding.{Finds, IsTakenOn}
use Rattle.osm_kept.specs.Reaching.{FindsEnds, ends_of, found_of, kept_of}
use Rattle.osm_kept.specs.Refusal.{IsOfBatches, NetStops}
use Rattle.osm_kept.specs.declared.fault.KeptFault.{KeptFault}
use Rattle.osm_kept.specs.declared.fault.KeptFault.TheVariants as kept
use Rattle.osm_kept.specs.declared.found.JournalFile.{JournalFile}
use Rattle.osm_kept.specs.declared.found.Reach.{Reach}
use Rattle.osm_runs.specs.Keeping.{kept_fault_of}
use Rattle.osm_round.specs.KeepingSteps.{JoinStops, JoinsTo}
use Rattle.osm_round.specs.Taking.{IsTaken}
use Rattle.osm_round.specs.declared.news.News.{News}
use Rattle.osm_round.specs.News.{HasRoomAfter, HoldsUpTo, TakenValue}

module _ (f : FilterValue) (reach : Reach) (net : NetValue) (count : ℕ) (taken : TakenValue) (on : IsTakenOn (kept_of reach net))
    (t : IsTaken f reach.head count taken) (under : reach.start.filter ≡ f) where
  of_journal : IsNetOf f on.changes net
  of_journal = subst (λ (g : FilterValue). IsNetOf g on.changes net) under on.net

  pub room_for_both : (news : News) → HoldsUpTo (max_changes * taken.head.number) news → taken.head.number ≤ max_sequence → HasRoomAfter net news
  room_for_both news held most =
      let few = on.few in
      let before = on.number in
      let after = t.number in
      let counts = counts_are_few f on.changes net of_journal in
      record {
        users = λ uid. (let old = counts.users uid in let new = held.users uid in omega (arith, few, before, after, most, old, new));
        changesets = λ id. (let old = counts.changesets id in let new = held.changesets id in omega (arith, few, before, after, most, old, new));
      }

  pub joins_to : NetsJoin → (file : JournalFile) (new : NetValue) → 0 < count
      → ((told journal : Option (List ℕ)) → FindsEnds told journal (ends_of reach file) → Finds told journal (found_of reach net file))
      → IsJoined net taken.net new → JoinsTo f reach file taken (record { head = taken.head; net = new })
  joins_to law file new some found joined =
      let few = on.few in
      let more = t.few in
      let before = on.number in
      let after = t.number in
      let sum = length-append on.changes t.changes in
      record {
        head = refl;
        net = net;
        orderly = on.net.orderly;
        found = found;
        joined = joined;
        later = t.net.orderly;
        count = on.count + count;
        is = record {
          number = omega (arith, before, after);
          base = t.base ∙ on.base;
          time = λ time. t.time on.time;
          none = λ zero_is. absurd (omega (arith, zero_is, some));
          changes = on.changes ++ t.changes;
          few = omega (arith, few, more, sum);
          net = law f on.changes t.changes net taken.net new of_journal t.net joined;
          widens = widens_more no_net net new (length on.changes) (length t.changes) (length (on.changes ++ t.changes)) on.widens
              (joined_grown net taken.net new on.net.orderly t.net.orderly joined (length t.changes) t.widens) sum;
        };
      }

-- why they aren't joined
pub net_stops : (reach : Reach) (file : JournalFile) (fault : KeptFault) → IsOfBatches fault
    → ((told journal : Option (List ℕ)) → FindsEnds told journal (ends_of reach file) → NetStops told journal fault)
    → JoinStops reach file (kept_fault_of fault)
net_stops reach file (kept.BadJournal line) plain h = h
net_stops reach file kept.WantOfMemory plain h = tt
net_stops reach file fault plain h = absurd plain
