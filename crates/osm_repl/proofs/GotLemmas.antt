-- All that `get` prints, or a part of it.
use Rattle.std.proofs.Common.{◌≡◌, ℕ, ◌++◌, List, [], Bool, true, false, Option, ap, inl, inr, refl, subst, sym, ◌∙◌}
use Rattle.std.specs.Prelude.{IsTrue, Err, Ok}
use Rattle.std.specs.Borrow.{Bor}
use Rattle.std.specs.List.{flat_map}
use Rattle.std.proofs.lemmas.List.{append-nil}
use Rattle.osm_model.specs.Change.{ChangeValue}
use Rattle.osm_model.specs.declared.kind.Key.{Key}
use Rattle.osm_blocks.specs.Frames.{ReadsOften}
use Rattle.osm_blocks.proofs.OftenLemmas.{often_both}
use Rattle.osm_store.specs.Files.{HasFailed}
use Rattle.osm_store.specs.Frames.{IsKnown, StoreState}
use Rattle.osm_kept.specs.Names.{journal_name_of}
use Rattle.osm_kept.specs.declared.fault.KeptFault.{KeptFault}
use Rattle.osm_kept.specs.declared.fault.KeptFault.TheVariants as kept
use Rattle.osm_runs.specs.declared.fault.RunFault.{RunFault}
use Rattle.osm_runs.specs.declared.options.Layout.{Layout}
use Rattle.osm_asking.specs.Asking.{IsAskFailed}
use Rattle.osm_asking.specs.Getting.{HasNoted, IsAsking, form_of, notes_references}
use Rattle.osm_asking.specs.Referring.{AreReferred}
use Rattle.osm_asking.specs.declared.ask_fault.AskFault.{AskFault}
use Rattle.osm_asking.specs.declared.ask_fault.AskFault.TheVariants as asks
use Rattle.osm_asking.specs.declared.fault.SearchFault.{SearchFault}
use Rattle.osm_asking.specs.declared.fault.SearchFault.TheVariants as searches
use Rattle.osm_asking.specs.declared.get.Asking.{Asking}
use Rattle.osm_asking.specs.declared.get.Form.{Form}
use Rattle.osm_asking.specs.declared.kept.Sources.{Sources}
use Rattle.osm_repl.specs.Getting.{AreSought, AsksFirst, AsksFor, Found, IsGot, IsGotInPart, IsNextLeft, Prints, Search, absent_line, asked_of}
use Rattle.osm_repl.specs.Getting.{BlamesStore, IsStoreFault, RefusesSought, ask_fault_of, form_for, status_for, there_of}
use Rattle.osm_repl.specs.Steps.Getting.{At, Cut, IsAsked, Shown, Tells, Told, at}
use Rattle.osm_repl.specs.declared.sought.Sought.{Sought}
use Rattle.osm_repl.proofs.GetLemmas.{tells_both}

-- what a save is asked for, once it was opened
abbrev pub search_for : Layout → List ℕ → StoreState → Sources → Search
search_for layout save old sources = record { old = old; save = save; form = form_for layout; sources = sources }

prints_of : (s : Search) (found : List Found) (a : At) (after : Option (List ℕ)) (lines : List ℕ) → a.lines ≡ [] → Tells s found a after lines
    → Prints s found a.printed after lines
prints_of s found a after lines none tells = record {
  each = tells.each;
  text = tells.text;
  lines_are = tells.lines_are ∙ ap (λ l. l ++ flat_map absent_line found) none;
}

pub got_words : (layout : Layout) (save : List ℕ) (words : List (Bor (List ℕ))) (old : StoreState) (input : Option (List ℕ)) (sought : List Sought)
    (a b : At) → AreSought words sought → IsAsked (search_for layout save old a.question.asking.sources) a → a.lines ≡ []
    → Shown (AsksFor sought input) a b → IsGot layout save false words old input a.printed b.printed b.lines (status_for b.lines)
got_words layout save words old input sought a b are asked none m =
    let s = search_for layout save old a.question.asking.sources in
    let x = m.each s asked in record {
      sought = sought;
      sought_are = are;
      sources = a.question.asking.sources;
      opened = asked.asking.opened;
      found = x.found;
      asks = x.keys;
      more = [];
      are_more = refl;
      prints = subst (λ found. Prints s found a.printed b.printed b.lines) (sym (append-nil x.found))
          (prints_of s x.found a b.printed b.lines none x.shows.tells);
      status_is = refl;
    }

pub got_referred : (layout : Layout) (save : List ℕ) (words : List (Bor (List ℕ))) (old : StoreState) (input : Option (List ℕ)) (sought : List Sought)
    (a b c : At) → AreSought words sought → IsAsked (search_for layout save old a.question.asking.sources) a → a.lines ≡ []
    → Shown (AsksFor sought input) a b → notes_references a.question.asking ≡ true → HasNoted [] [] a.question.asking
    → ((ks : List Key) (cs : List ChangeValue) → HasNoted ks cs b.question.asking → Told (AreReferred ks cs) b c)
    → IsGot layout save true words old input a.printed c.printed c.lines (status_for c.lines)
got_referred layout save words old input sought a b c are asked none m refers has told =
    let s = search_for layout save old a.question.asking.sources in
    let x = m.each s asked in
    let yes : IsTrue (notes_references a.question.asking) = rw refers refl in
    let y = (told (asked_of x.found []) (there_of x.found []) (x.shows.noted [] [] yes has)).each s x.shows.asked in record {
      sought = sought;
      sought_are = are;
      sources = a.question.asking.sources;
      opened = asked.asking.opened;
      found = x.found;
      asks = x.keys;
      more = y.found;
      are_more = y.keys;
      prints = prints_of s (x.found ++ y.found) a c.printed c.lines none (tells_both s x.found y.found a b c.printed c.lines x.shows.tells y.tells);
      status_is = refl;
    }

pub part_words : (layout : Layout) (save : List ℕ) (referred : Bool) (words : List (Bor (List ℕ))) (old : StoreState) (input : Option (List ℕ))
    (sought : List Sought) (a : At) (after : Option (List ℕ)) (lines noted : List ℕ) (fault : RunFault) → AreSought words sought
    → IsAsked (search_for layout save old a.question.asking.sources) a → a.lines ≡ [] → Cut (AsksFirst sought input) a after lines noted fault
    → IsGotInPart layout save referred words old input a.printed after lines noted fault
part_words layout save referred words old input sought a after lines noted fault are asked none m =
    let s = search_for layout save old a.question.asking.sources in
    let x = m.each s asked in record {
      sought = sought;
      sought_are = are;
      sources = a.question.asking.sources;
      opened = asked.asking.opened;
      found = x.found;
      next = x.next;
      comes = inl x.keys;
      stops = record {
        between = x.cuts.between;
        prints = prints_of s x.found a x.cuts.between lines none x.cuts.tells;
        stops = x.cuts.stops;
      };
    }

pub part_referred : (layout : Layout) (save : List ℕ) (words : List (Bor (List ℕ))) (old : StoreState) (input : Option (List ℕ))
    (sought : List Sought) (a b : At) (after : Option (List ℕ)) (lines noted : List ℕ) (fault : RunFault) → AreSought words sought
    → IsAsked (search_for layout save old a.question.asking.sources) a → a.lines ≡ [] → Shown (AsksFor sought input) a b
    → notes_references a.question.asking ≡ true → HasNoted [] [] a.question.asking
    → ((ks : List Key) (cs : List ChangeValue) → HasNoted ks cs b.question.asking → Cut (IsNextLeft ks cs) b after lines noted fault)
    → IsGotInPart layout save true words old input a.printed after lines noted fault
part_referred layout save words old input sought a b after lines noted fault are asked none m refers has cut =
    let s = search_for layout save old a.question.asking.sources in
    let x = m.each s asked in
    let yes : IsTrue (notes_references a.question.asking) = rw refers refl in
    let y = (cut (asked_of x.found []) (there_of x.found []) (x.shows.noted [] [] yes has)).each s x.shows.asked in record {
      sought = sought;
      sought_are = are;
      sources = a.question.asking.sources;
      opened = asked.asking.opened;
      found = x.found ++ y.found;
      next = y.next;
      comes = inr (x.found, y.found, refl, x.keys, y.keys);
      stops = record {
        between = y.cuts.between;
        prints = prints_of s (x.found ++ y.found) a y.cuts.between lines none
            (tells_both s x.found y.found a b y.cuts.between lines x.shows.tells y.cuts.tells);
        stops = y.cuts.stops;
      };
    }

-- a save was opened
pub asked_first : (layout : Layout) (save : Bor (List ℕ)) (old new : StoreState) (asking : Asking) (form : Form) (is_read : Bool)
    (printed : Option (List ℕ)) (lines : List ℕ) → new.files ≡ old.files → new.is_known ≡ old.is_known
    → IsAsking (IsKnown old) (old.files save.now) (old.files (journal_name_of save.now)) asking → form_of asking ≡ form → form ≡ form_for layout
    → IsAsked (search_for layout save.now old asking.sources) (at new (record { save = save; asking = asking; is_read = is_read }) printed lines)
asked_first layout save old new asking form is_read printed lines files known opened is layout_is = record {
  save = refl;
  files = files;
  known = known;
  asking = opened;
  sources = refl;
  form = is ∙ layout_is;
}

-- ---- the device is blamed only if it failed

-- the words name nothing
pub refused_blames : (words : List (Bor (List ℕ))) (noted : List ℕ) (fault : RunFault) (m n : ℕ) → RefusesSought words noted fault → BlamesStore m n fault
refused_blames words noted fault m n (inl h) = λ is. absurd (subst IsStoreFault h.0 is)
refused_blames words noted fault m n (inr h) = λ is. absurd (subst IsStoreFault h.0 is)

kept_blames : (fault : KeptFault) (m n : ℕ) → (IsAskFailed (asks.Kept fault) → HasFailed m n) → BlamesStore m n (ask_fault_of (asks.Kept fault))
kept_blames kept.JournalFailed m n failed = failed
kept_blames kept.JournalTooLarge m n failed = λ is. absurd is
kept_blames (kept.BadJournal line) m n failed = λ is. absurd is
kept_blames (kept.OtherJournal number) m n failed = λ is. absurd is
kept_blames kept.SaveFailed m n failed = failed
kept_blames (kept.BadSave line) m n failed = λ is. absurd is
kept_blames kept.Changed m n failed = λ is. absurd is
kept_blames kept.WantOfMemory m n failed = λ is. absurd is

search_blames : (fault : SearchFault) (m n : ℕ) → (IsAskFailed (asks.Search fault) → HasFailed m n) → BlamesStore m n (ask_fault_of (asks.Search fault))
search_blames searches.Failed m n failed = failed
search_blames searches.Gone m n failed = λ is. absurd is
search_blames (searches.BadHead line) m n failed = λ is. absurd is
search_blames (searches.BadLine place) m n failed = λ is. absurd is
search_blames searches.TooLarge m n failed = λ is. absurd is
search_blames searches.WantOfMemory m n failed = λ is. absurd is

-- the save isn't opened
pub open_blames : (why : AskFault) (m n : ℕ) → (IsAskFailed why → HasFailed m n) → BlamesStore m n (ask_fault_of why)
open_blames asks.NoSave m n failed = λ is. absurd is
open_blames (asks.Kept fault) m n failed = kept_blames fault m n failed
open_blames (asks.Search fault) m n failed = search_blames fault m n failed
open_blames asks.NotWritten m n failed = λ is. absurd is
open_blames asks.WantOfMemory m n failed = λ is. absurd is

-- or it was opened
pub opened_often : {T : Type 0} (a b : StoreState) (x : T) → ReadsOften IsAskFailed a b (Ok x) → ReadsOften {T = Unit {0}} IsStoreFault a b (Ok tt)
opened_often a b x m = record {
  files = m.files;
  known = m.known;
  left = m.left;
  failures = m.failures;
  failed = tt;
  stops = tt;
}

pub later_blames : (a b c : StoreState) (fault : RunFault) → ReadsOften {T = Unit {0}} IsStoreFault a b (Ok tt)
    → ReadsOften {T = Unit {0}} IsStoreFault b c (Err fault) → BlamesStore a.failures c.failures fault
later_blames a b c fault m n = (often_both IsStoreFault a b c tt (Err fault) m n).failed
