-- What the batches of a journal come to, and what two files keep with it.
use Rattle.std.proofs.Common.{◌≡◌, ℕ, ◌+◌, ◌<◌, ◌≤◌, List, [], ◌∷◌, length, Option, Vec, inl, inr, arith, refl, sym, ap, subst, ◌∙◌}
use Rattle.std.specs.Prelude.{◌⊎◌}
use Rattle.std.specs.declared.alloc.Global.{Global}
use Rattle.osm_model.specs.Filter.{FilterValue}
use Rattle.osm_model.specs.Limits.{max_sequence}
use Rattle.osm_net.specs.Net.{NetValue, no_net}
use Rattle.osm_net.proofs.NetLemmas.{nothing_is_none}
use Rattle.osm_save.specs.Head.{head_of}
use Rattle.osm_save.specs.declared.head.Head.{Head}
use Rattle.osm_journal.specs.Journal.{BatchValue, Follow, IsJournal, JournalValue, SpellsJournal}
use Rattle.osm_journal.proofs.BatchLemmas.{within_limits}
use Rattle.osm_journal.proofs.JournalLemmas.{one_journal}
use Rattle.osm_kept.specs.Finding.{Finds, IsStartOf, IsTakenOn, KeepsAs, StartsAs, bytes_of}
use Rattle.osm_kept.specs.Kept.{AreBatchesIn, BelongsTo, IsNoJournal, SpellChanges}
use Rattle.osm_kept.specs.Laying.{IsNetIn}
use Rattle.osm_kept.specs.Reaching.{FindsEnds, HasBatches, IsFileOf, IsReach, ends_of, found_of, head_past, journal_after, kept_of}
use Rattle.osm_kept.specs.Refusal.{NetStops}
use Rattle.osm_kept.specs.Steps.Taking.{HasTaken, IsTaken, TakingStops}
use Rattle.osm_kept.specs.declared.fault.KeptFault.{KeptFault}
use Rattle.osm_kept.specs.declared.fault.KeptFault.TheVariants.{BadJournal, WantOfMemory}
use Rattle.osm_kept.specs.declared.found.JournalFile.{JournalFile}
use Rattle.osm_kept.specs.declared.found.JournalFile.TheVariants.{Counts, Nothing, OfAnother}
use Rattle.osm_kept.specs.declared.found.Reach.{Reach}
use Rattle.osm_kept.specs.declared.start.Start.{Start}
use Rattle.osm_kept.proofs.BatchLemmas.{takes_nothing}
use Rattle.osm_kept.proofs.KeptLemmas.{alone_keeps, keeps_as, kept_alone, no_bytes, start_saved}
use Rattle.osm_kept.proofs.LawLemmas.{journal_some}
use Rattle.osm_kept.proofs.OtherLemmas.{older_another, older_says_nothing}

-- ---- the batches of a text

-- there are no more batches than there can be sequences
pub few_batches : (j : JournalValue) → IsJournal j → length j.batches ≤ max_sequence
few_batches j is =
    let low = within_limits j.batches j.head.number is.some is.batches is.follow in
    omega (arith, low)

-- the save begins as the journal says
pub begins_so : (told : Option (List ℕ)) (start : Start) (bs : List BatchValue) → StartsAs told start → BelongsTo (journal_after start bs) told
begins_so told start bs starts = record { file = starts.file; there = starts.there; rest = starts.rest; begins = starts.begins }

pub are_batches : (told journal : Option (List ℕ)) (start : Start) (file : JournalFile) (batches : List BatchValue) → StartsAs told start
    → IsFileOf told journal file → HasBatches start file batches → AreBatchesIn told journal batches
are_batches told journal start Nothing batches starts is has = inl (no_bytes told journal is, has)
are_batches told journal start OfAnother batches starts is has = inl (older_says_nothing told journal is, has)
are_batches told journal start (Counts bytes) batches starts is has = inr (
  journal_after start batches,
  record { bytes = bytes.items; there = is.there; spells = has; belongs = begins_so told start batches starts },
  refl,
)

-- ---- a journal that says nothing

-- the batches of a journal that says nothing are none
head_alone : (reach : Reach) (journal : JournalFile) → (is : IsReach reach journal) → is.batches ≡ [] → reach.head ≡ reach.start.head
head_alone reach journal is none = is.head ∙ ap (λ (bs : List BatchValue). head_past reach.start.head bs) none

same_alone : (reach : Reach) → reach.head ≡ reach.start.head → kept_alone reach.start ≡ kept_of reach no_net
same_alone reach same = ap (λ (h : Head). kept_of (record { start = reach.start; head = h }) no_net) (sym same)

silent_keeps : (told file : Option (List ℕ)) (reach : Reach) (journal : JournalFile) → reach.head ≡ reach.start.head → IsNoJournal told file
    → FindsEnds told file (ends_of reach journal) → KeepsAs told file (kept_of reach no_net)
silent_keeps told file reach journal same silent ends =
    subst (λ k. KeepsAs told file k) (same_alone reach same) (alone_keeps told file reach.start ends.reached.starts silent)

-- these say nothing
abbrev pub IsSilent : JournalFile → Type 0
IsSilent Nothing = Unit {0}
IsSilent OfAnother = Unit {0}
IsSilent (Counts bytes) = ⊥

pub is_silent : (journal : JournalFile) → (journal ≡ Nothing) ⊎ (journal ≡ OfAnother) → IsSilent journal
is_silent journal (inl nothing) = rw nothing tt
is_silent journal (inr another) = rw another tt

pub silent_has : (reach : Reach) (journal : JournalFile) (batches : List BatchValue) → IsSilent journal → HasBatches reach.start journal batches
    → batches ≡ []
silent_has reach Nothing batches silent has = has
silent_has reach OfAnother batches silent has = has
silent_has reach (Counts bytes) batches silent has = absurd silent

pub silent_found : (reach : Reach) (journal : JournalFile) → IsSilent journal → IsReach reach journal → (told file : Option (List ℕ))
    → FindsEnds told file (ends_of reach journal) → Finds told file (found_of reach no_net journal)
silent_found reach Nothing silent is told file ends = record {
  journal_is = ends.journal_is;
  kept_is = silent_keeps told file reach Nothing (head_alone reach Nothing is is.has) (no_bytes told file ends.journal_is) ends;
}
silent_found reach OfAnother silent is told file ends = record {
  journal_is = older_another told (bytes_of file) ends.journal_is;
  kept_is = silent_keeps told file reach OfAnother (head_alone reach OfAnother is is.has) (older_says_nothing told file ends.journal_is) ends;
}
silent_found reach (Counts bytes) silent is told file ends = absurd silent

pub silent_from : (reach : Reach) (journal : JournalFile) → IsSilent journal → IsReach reach journal → (told file : Option (List ℕ))
    → FindsEnds told file (ends_of reach journal) → IsNetIn told file reach.start.filter no_net
silent_from reach journal silent is told file ends = record {
  batches = is.batches;
  are = are_batches told file reach.start journal is.batches ends.reached.starts ends.journal_is is.has;
  changes = [];
  spell = subst (λ (bs : List BatchValue). SpellChanges bs []) (sym (silent_has reach journal is.batches silent is.has)) refl;
  net = nothing_is_none reach.start.filter;
}

pub silent_taken : (reach : Reach) (journal : JournalFile) → IsSilent journal → IsReach reach journal → IsTakenOn (kept_of reach no_net)
silent_taken reach journal silent is =
    let none : is.batches ≡ [] = silent_has reach journal is.batches silent is.has in
    let nothing = takes_nothing reach.start.filter in
    record {
      is_start = is.is_start;
      count = 0;
      number = is.number ∙ ap (λ (bs : List BatchValue). reach.start.head.number + length bs) none;
      limit = is.limit;
      base = is.base;
      time = is.time;
      none = λ zero_is. (head_alone reach journal is none, refl);
      changes = nothing.changes;
      few = nothing.few;
      net = nothing.net_is;
      widens = nothing.widens;
    }

-- ---- a journal that counts

-- the journal whose batches were taken is that of the save
same_value : (reach : Reach) (bytes : List ℕ) (f : FilterValue) (net : NetValue) (batches : List BatchValue)
    → SpellsJournal bytes (journal_after reach.start batches) → (taken : IsTaken f bytes net) → taken.value.batches ≡ batches
same_value reach bytes f net batches spells taken =
    ap (λ (j : JournalValue). j.batches) (one_journal bytes taken.value (journal_after reach.start batches) taken.spells spells)

own_taken : (reach : Reach) (bytes : List ℕ) (net : NetValue) (batches : List BatchValue) → SpellsJournal bytes (journal_after reach.start batches)
    → IsTaken reach.start.filter bytes net → HasTaken reach.start.filter batches net
own_taken reach bytes net batches spells taken =
    subst (λ (bs : List BatchValue). HasTaken reach.start.filter bs net) (same_value reach bytes reach.start.filter net batches spells taken) taken.taken

pub own_belongs : (told file : Option (List ℕ)) (reach : Reach) (bytes : Vec ℕ Global) (batches : List BatchValue)
    → SpellsJournal bytes.items (journal_after reach.start batches) → FindsEnds told file (ends_of reach (Counts bytes))
    → BelongsTo (journal_after reach.start batches) told
own_belongs told file reach bytes batches spells ends =
    subst (λ (j : JournalValue). BelongsTo j told)
    (one_journal bytes.items ends.journal_is.value (journal_after reach.start batches) ends.journal_is.spells spells) ends.journal_is.belongs

own_keeps : (told file : Option (List ℕ)) (reach : Reach) (bytes : Vec ℕ Global) (net : NetValue) (batches : List BatchValue)
    → SpellsJournal bytes.items (journal_after reach.start batches) → reach.head ≡ head_past reach.start.head batches
    → HasTaken reach.start.filter batches net → FindsEnds told file (ends_of reach (Counts bytes)) → KeepsAs told file (kept_of reach net)
own_keeps told file reach bytes net batches spells same taken ends =
    keeps_as told file (kept_of reach net) ends.reached.starts (λ text saved there x. record {
      file = text;
      there = there;
      start = saved;
      spells = x;
      comes = inr (
        journal_after reach.start batches,
        record { bytes = bytes.items; there = ends.journal_is.there; spells = spells; belongs = own_belongs told file reach bytes batches spells ends },
        (let begins : IsStartOf saved reach.start = start_saved told reach.start text saved ends.reached.starts there x in
            let follow : Follow saved.number batches =
            subst (λ (h : Head). Follow h.number batches) (sym begins.head) spells.journal.follow in
            let head : head_past (head_of saved) batches ≡ reach.head =
            ap (λ (h : Head). head_past h batches) begins.head ∙ sym same in
            rw (← head) (taken.adds saved follow begins.filter x.savable.mirror.orderly)),
      );
    })

pub counts_found : (reach : Reach) (bytes : Vec ℕ Global) (net : NetValue) → IsReach reach (Counts bytes)
    → IsTaken reach.start.filter bytes.items net → (told file : Option (List ℕ)) → FindsEnds told file (ends_of reach (Counts bytes))
    → Finds told file (found_of reach net (Counts bytes))
counts_found reach bytes net is taken told file ends =
    let own = own_taken reach bytes.items net is.batches is.has taken in
    record {
      journal_is = record {
        there = ends.journal_is.there;
        value = journal_after reach.start is.batches;
        spells = is.has;
        belongs = own_belongs told file reach bytes is.batches is.has ends;
        right = own.right;
      };
      kept_is = own_keeps told file reach bytes net is.batches is.has is.head own ends;
    }

pub counts_from : (reach : Reach) (bytes : Vec ℕ Global) (net : NetValue) → IsReach reach (Counts bytes)
    → IsTaken reach.start.filter bytes.items net → (told file : Option (List ℕ)) → FindsEnds told file (ends_of reach (Counts bytes))
    → IsNetIn told file reach.start.filter net
counts_from reach bytes net is taken told file ends =
    let own = own_taken reach bytes.items net is.batches is.has taken in
    record {
      batches = is.batches;
      are = are_batches told file reach.start (Counts bytes) is.batches ends.reached.starts ends.journal_is is.has;
      changes = own.changes;
      spell = own.spell;
      net = own.net_is;
    }

no_batch : (bs : List BatchValue) → length bs ≡ 0 → bs ≡ []
no_batch [] none = refl
no_batch (b ∷ bs) none = absurd (omega (arith, none))

pub counts_taken : (reach : Reach) (bytes : Vec ℕ Global) (net : NetValue) → IsReach reach (Counts bytes)
    → IsTaken reach.start.filter bytes.items net → IsTakenOn (kept_of reach net)
counts_taken reach bytes net is taken =
    let own = own_taken reach bytes.items net is.batches is.has taken in
    record {
      is_start = is.is_start;
      count = length is.batches;
      number = is.number;
      limit = is.limit;
      base = is.base;
      time = is.time;
      none = λ zero_is. (head_alone reach (Counts bytes) is (no_batch is.batches zero_is), own.none zero_is);
      changes = own.changes;
      few = own.few;
      net = own.net_is;
      widens = own.widens;
    }

text_some : (bytes : List ℕ) (j : JournalValue) → SpellsJournal bytes j → 0 < length bytes
text_some [] j spells = absurd (journal_some j spells)
text_some (b ∷ bs) j spells = omega arith

pub counts_stop : (reach : Reach) (bytes : Vec ℕ Global) (fault : KeptFault) → TakingStops bytes.items fault → (told file : Option (List ℕ))
    → FindsEnds told file (ends_of reach (Counts bytes)) → NetStops told file fault
counts_stop reach bytes (BadJournal line) stops told file ends = record {
  bytes = bytes.items;
  there = ends.journal_is.there;
  some = text_some bytes.items stops.value stops.spells;
  bad = inr (record {
    value = stops.value;
    spells = stops.spells;
    belongs = subst (λ (j : JournalValue). BelongsTo j told)
        (one_journal bytes.items ends.journal_is.value stops.value ends.journal_is.spells stops.spells) ends.journal_is.belongs;
    batch = stops.batch;
  });
}
counts_stop reach bytes WantOfMemory stops told file ends = tt
counts_stop reach bytes fault stops told file ends = absurd stops
