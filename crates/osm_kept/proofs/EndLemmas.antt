-- How far a save and its journal reach.
use Rattle.std.proofs.Common.{◌≡◌, ℕ, ◌+◌, ◌<◌, List, [], ◌∷◌, length, Option, Some, Vec, arith, sym, ap, subst, ◌∙◌}
use Rattle.std.specs.List.{AllByRecursion}
use Rattle.std.specs.declared.alloc.Global.{Global}
use Rattle.osm_save.specs.Head.{IsTimeOf, head_of}
use Rattle.osm_save.specs.declared.head.Head.{Head}
use Rattle.osm_save.specs.declared.save.Saved.{Saved}
use Rattle.osm_journal.specs.Journal.{BatchValue, Follow, IsBatch, JournalValue, SpellsJournal, last_number, last_time}
use Rattle.osm_journal.proofs.BatchLemmas.{number_reached, time_reached, within_limits}
use Rattle.osm_kept.specs.Finding.{IsStart, IsStartOf, StartsAs, bytes_of}
use Rattle.osm_kept.specs.Kept.{AddsBatches, HasJournal, IsNoJournal, Keeps}
use Rattle.osm_kept.specs.Reaching.{FindsEnds, IsReach, ReachesAs, ends_of, head_past, journal_after}
use Rattle.osm_kept.specs.Refusal.{IsOlder}
use Rattle.osm_kept.specs.Steps.Starting.{start_in}
use Rattle.osm_kept.specs.Steps.Taking.{Holds, IsOfOlder, IsOwn}
use Rattle.osm_kept.specs.declared.found.JournalFile.TheVariants.{Counts, OfAnother}
use Rattle.osm_kept.specs.declared.found.Reach.{Reach}
use Rattle.osm_kept.specs.declared.start.Start.{Start}
use Rattle.osm_kept.proofs.KeptLemmas.{alone_keeps, same_belongs, some_bytes, start_saved}
use Rattle.osm_kept.proofs.LawLemmas.{comes_of}
use Rattle.osm_kept.proofs.OtherLemmas.{of_older, older_says_nothing}

-- ---- the head after batches

pub adds_head : (bs : List BatchValue) (old new : Saved) → AddsBatches bs old new
    → (head_of new ≡ head_past (head_of old) bs) × (new.filter ≡ old.filter)
adds_head [] old new same = (ap head_of same, ap (λ (v : Saved). v.filter) same)
adds_head (b ∷ bs) old new (between, one, rest) =
    let more = adds_head bs between new rest in
    let first : head_of between ≡ head_past (head_of old) (b ∷ []) = λ i. record { number = one.number i; base = one.base i; time = one.time i } in
    (more.0 ∙ ap (λ (h : Head). head_past h bs) first, more.1 ∙ one.same_filter)

past_time : (h : Head) (bs : List BatchValue) → 0 < length bs → AllByRecursion IsBatch bs → Follow h.number bs
    → IsTimeOf (last_number h.number bs) (last_time h.time bs)
past_time h bs some each follow =
    let t = time_reached h.time bs some each in
    let number = number_reached bs h.number follow in
    let above : 0 < last_number h.number bs = omega (arith, number, some) in
    rw (t.1) (above, t.2)

-- ---- what is reached

abbrev pub reach_at : Start → Head → Reach
reach_at s head = record { start = s; head = head }

pub alone_reaches : (told journal : Option (List ℕ)) (s : Start) → StartsAs told s → IsNoJournal told journal → ReachesAs told journal (reach_at s s.head)
alone_reaches told journal s starts silent =
    let keeps = alone_keeps told journal s starts silent in
    record { starts = starts; only = keeps.only }

-- what is kept beside a journal that counts has the head after its batches
pub own_only : (told journal : Option (List ℕ)) (s : Start) (j : JournalValue) (head : Head) → StartsAs told s → HasJournal told journal j
    → head ≡ head_past s.head j.batches → (v : Saved) → Keeps told journal v → (head_of v ≡ head) × (v.filter ≡ s.filter)
own_only told journal s j head starts has same v k =
    let added = adds_head j.batches k.start v (comes_of told journal j k.start v has k.comes) in
    let begins : IsStartOf k.start s = start_saved told s k.file k.start starts k.there k.spells in
    (added.0 ∙ (ap (λ (h : Head). head_past h j.batches) begins.head ∙ sym same), added.1 ∙ begins.filter)

-- ---- what is found

pub ends_older : (told journal : Option (List ℕ)) (s : Start) (bytes : List ℕ) → IsStart s → Holds told journal s bytes → IsOfOlder s bytes
    → FindsEnds told journal (ends_of (reach_at s s.head) OfAnother)
ends_older told journal s bytes is holds other =
    let older : IsOlder told (bytes_of journal) =
    subst (λ (l : List ℕ). IsOlder told l) (sym holds.journal_is) (of_older told s bytes holds.starts is other) in
    record { journal_is = older; reached = alone_reaches told journal s holds.starts (older_says_nothing told journal older) }

pub ends_own : (told journal : Option (List ℕ)) (s : Start) (bytes : Vec ℕ Global) (head : Head) → 0 < length bytes.items
    → Holds told journal s bytes.items → IsOwn s bytes.items head → FindsEnds told journal (ends_of (reach_at s head) (Counts bytes))
ends_own told journal s bytes head some holds own =
    let there : journal ≡ Some bytes.items = some_bytes journal bytes.items holds.journal_is some in
    let belongs = same_belongs told s own.value holds.starts own.same in
    record {
      journal_is = record { there = there; value = own.value; spells = own.spells; belongs = belongs };
      reached = record {
        starts = holds.starts;
        only = own_only told journal s own.value head holds.starts
            (record { bytes = bytes.items; there = there; spells = own.spells; belongs = belongs }) own.head_is;
      };
    }

-- ---- whatever the files hold

same_journal : (s : Start) (j : JournalValue) → start_in j ≡ s → j ≡ journal_after s j.batches
same_journal s j same = ap (λ (x : Start). journal_after x j.batches) same

own_reached : (s : Start) (bytes : Vec ℕ Global) (head : Head) (j : JournalValue) → IsStart s → SpellsJournal bytes.items (journal_after s j.batches)
    → head ≡ head_past s.head j.batches → IsReach (reach_at s head) (Counts bytes)
own_reached s bytes head j is spells same =
    let right = spells.journal in
    let number : head.number ≡ s.head.number + length j.batches =
    ap (λ (h : Head). h.number) same ∙ number_reached j.batches s.head.number right.follow in
    let low = within_limits j.batches s.head.number right.some right.batches right.follow in
    record {
      is_start = is;
      batches = j.batches;
      has = spells;
      head = same;
      number = number;
      limit = omega (arith, number, low);
      base = ap (λ (h : Head). h.base) same;
      time = subst (λ (h : Head). IsTimeOf h.number h.time) (sym same) (past_time s.head j.batches right.some right.batches right.follow);
    }

pub own_reach : (s : Start) (bytes : Vec ℕ Global) (head : Head) → IsStart s → IsOwn s bytes.items head → IsReach (reach_at s head) (Counts bytes)
own_reach s bytes head is own =
    own_reached s bytes head own.value is
    (subst (λ (j : JournalValue). SpellsJournal bytes.items j) (same_journal s own.value own.same) own.spells) own.head_is
