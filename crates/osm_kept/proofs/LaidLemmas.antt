-- What the journal of a save lays over it.
use Rattle.std.proofs.Common.{◌≡◌, ℕ, ◌+◌, List, [], ◌∷◌, ◌++◌, length, Option, Some, None, inl, sym, ap, subst, ◌∙◌, append_assoc, arith}
use Rattle.std.specs.Prelude.{IfSome, codes, decimal}
use Rattle.std.proofs.lemmas.Option.{same_Some}
use Rattle.osm_net.specs.Lists.{net_in}
use Rattle.osm_net.specs.Net.{IsNet, NetValue, no_net}
use Rattle.osm_net.specs.declared.lists.NetLists.{NetLists}
use Rattle.osm_save.specs.Head.{BeginsSave, head_lines}
use Rattle.osm_save.specs.Lines.{ended}
use Rattle.osm_save.specs.declared.head.Head.{Head}
use Rattle.osm_save.proofs.TextLemmas.{ended-append}
use Rattle.osm_journal.specs.Journal.{BatchValue}
use Rattle.osm_kept.specs.Finding.{Finds, IsStart, IsTakenOn, StartsAs}
use Rattle.osm_kept.specs.Laying.{IsLaid, IsNetIn, LaysOver, start_for}
use Rattle.osm_kept.specs.Reaching.{FindsEnds, IsReach, IsReached, ends_of, found_of, kept_of}
use Rattle.osm_kept.specs.Refusal.{EndsStop, KeptStops, NetStops}
use Rattle.osm_kept.specs.declared.fault.KeptFault.{KeptFault}
use Rattle.osm_kept.specs.declared.fault.KeptFault.TheVariants.{BadJournal, WantOfMemory}
use Rattle.osm_kept.specs.declared.found.Ends.{Ends}
use Rattle.osm_kept.specs.declared.found.JournalFile.{JournalFile}
use Rattle.osm_kept.specs.declared.found.JournalFile.TheVariants.{Counts, Nothing, OfAnother}
use Rattle.osm_kept.specs.declared.found.Reach.{Reach}
use Rattle.osm_kept.specs.declared.laid.Laid.{Laid}
use Rattle.osm_kept.specs.declared.start.Start.{Start}

abbrev pub laid_at : Reach → Option Head → NetLists → Laid
laid_at reach start lists = record { start = start; head = reach.head; lists = lists }

-- ---- whatever the files hold

-- no batches leave nothing
none_taken : (reach : Reach) (n : NetValue) (batches : List BatchValue) → batches ≡ [] → reach.head.number ≡ reach.start.head.number + length batches
    → IsTakenOn (kept_of reach n) → n ≡ no_net
none_taken reach n batches none number taken =
    let few = ap length none in
    let more = taken.number in
    let count : taken.count ≡ 0 = omega (arith, few, more, number) in
    (taken.none count).1

none_laid : (reach : Reach) (journal : JournalFile) (n : NetValue) → IsReach reach journal → IsTakenOn (kept_of reach n)
    → start_for journal reach.start.head ≡ None → n ≡ no_net
none_laid reach Nothing n is taken any = none_taken reach n is.batches is.has is.number taken
none_laid reach OfAnother n is taken any = none_taken reach n is.batches is.has is.number taken
none_laid reach (Counts bytes) n is taken any = absurd (let bad : ◌≡◌ {A = Option Head} (Some reach.start.head) None = any in cc)

pub is_laid : (reach : Reach) (journal : JournalFile) (n : NetValue) (lists : NetLists) (start : Option Head) → IsReach reach journal
    → IsTakenOn (kept_of reach n) → net_in lists ≡ n → IsNet (net_in lists) → start ≡ start_for journal reach.start.head
    → IsLaid (laid_at reach start lists)
is_laid reach journal n lists start is taken same net given = record {
  start = reach.start;
  file = journal;
  reach = is;
  taken = subst (λ (m : NetValue). IsTakenOn (kept_of reach m)) (sym same) taken;
  given = given;
  none = λ any. same ∙ none_laid reach journal n is taken (sym given ∙ any);
  net = net;
}

-- ---- what is found in the two files

-- the lines that a save begins with have its head
begins_save : (told : Option (List ℕ)) (s : Start) → IsStart s → StartsAs told s → (text : List ℕ) → told ≡ Some text → BeginsSave text s.head
begins_save told s is starts text there =
    let same : text ≡ starts.file = same_Some text starts.file (sym there ∙ starts.there) in
    let lines : List (List ℕ) = head_lines s.version s.head s.filter in
    let line : List ℕ = codes "objects " ++ decimal s.objects in
    record {
      version = s.version;
      filter = s.filter;
      limits = is.head;
      is_filter = is.filter;
      tells = is.tells;
      rest = ended (line ∷ []) ++ starts.rest;
      parts = same ∙ (starts.begins ∙ (ap (λ (l : List ℕ). l ++ starts.rest) (ended-append lines (line ∷ []))
          ∙ append_assoc (ended lines) (ended (line ∷ [])) starts.rest));
    }

abbrev Fits : Option (List ℕ) → Option Head → Type 0
Fits told start = IfSome start (λ head. (text : List ℕ) → told ≡ Some text → BeginsSave text head)

start_fits : (told : Option (List ℕ)) (s : Start) (journal : JournalFile) → IsStart s → StartsAs told s → Fits told (start_for journal s.head)
start_fits told s (Counts bytes) is starts = begins_save told s is starts
start_fits told s Nothing is starts = tt
start_fits told s OfAnother is starts = tt

pub lays_over : (reach : Reach) (journal : JournalFile) (n : NetValue) (lists : NetLists) (start : Option Head) → IsReach reach journal
    → IsTakenOn (kept_of reach n) → net_in lists ≡ n → start ≡ start_for journal reach.start.head
    → (told file : Option (List ℕ)) → FindsEnds told file (ends_of reach journal) → Finds told file (found_of reach n journal)
    → IsNetIn told file reach.start.filter n → LaysOver told file (laid_at reach start lists)
lays_over reach journal n lists start is taken same given told file ends finds from = record {
  start = reach.start;
  file = journal;
  ends = ends;
  finds = subst (λ (m : NetValue). Finds told file (found_of reach m journal)) (sym same) finds;
  reach = is;
  taken = subst (λ (m : NetValue). IsTakenOn (kept_of reach m)) (sym same) taken;
  from = subst (λ (m : NetValue). IsNetIn told file reach.start.filter m) (sym same) from;
  given = given;
  fits = subst (λ (o : Option Head). Fits told o) (sym given) (start_fits told reach.start journal is.is_start ends.reached.starts);
}

pub found_ends : (told file : Option (List ℕ)) (ends : Ends) (reach : Reach) → ends.kept ≡ Some reach → FindsEnds told file ends
    → FindsEnds told file (ends_of reach ends.journal)
found_ends told file ends reach is h = record { journal_is = h.journal_is; reached = subst (IsReached told file) is h.reached }

-- ---- why nothing is told

-- the ends of the two files aren't read
pub ends_stop : (told journal : Option (List ℕ)) (fault : KeptFault) → EndsStop told journal fault → KeptStops told journal fault
ends_stop told journal (BadJournal line) bad = record { bytes = bad.bytes; there = bad.there; some = bad.some; bad = inl bad.none }
ends_stop told journal fault h = h

-- batches aren't taken
pub net_stop : (told journal : Option (List ℕ)) (fault : KeptFault) → NetStops told journal fault → KeptStops told journal fault
net_stop told journal (BadJournal line) h = h
net_stop told journal WantOfMemory h = tt
net_stop told journal fault h = absurd h
