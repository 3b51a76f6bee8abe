-- A save and its journal that are opened, and what they answer.
use Rattle.std.proofs.Common.{◌≡◌, ℕ, List, sym, ap, subst, ◌∙◌, Option, Some, None}
use Rattle.std.specs.Prelude.{IfSome, unwrap_or}
use Rattle.osm_blocks.specs.Places.{HasFile}
use Rattle.osm_model.specs.Change.{ChangeValue}
use Rattle.osm_model.specs.declared.kind.Key.{Key}
use Rattle.osm_mirror.specs.Mirror.{AreRising, object_at}
use Rattle.osm_net.specs.Net.{net_at}
use Rattle.osm_net.proofs.LaidLemmas.{laid_at}
use Rattle.osm_save.specs.declared.save.Saved.{Saved}
use Rattle.osm_store.specs.Frames.{IsKnown, StoreState}
use Rattle.osm_kept.specs.Kept.{Keeps}
use Rattle.osm_asking.specs.Asking.{AnswerStops, HasKey, HasLineOf, IsAnswer, IsFromFiles}
use Rattle.osm_asking.specs.Asking.{IsOpened}
use Rattle.osm_asking.specs.Refusal.{SearchStops}
use Rattle.osm_asking.specs.Steps.Answering.{IsSaved, SavedStops}
use Rattle.osm_asking.specs.declared.ask_fault.AskFault.TheVariants as asks
use Rattle.osm_asking.specs.declared.fault.SearchFault.{SearchFault}
use Rattle.osm_asking.specs.declared.fault.SearchFault.TheVariants.{BadHead, BadLine, Failed, Gone, TooLarge, WantOfMemory}
use Rattle.osm_asking.specs.declared.kept.Sources.{Sources}
use Rattle.osm_asking.proofs.EntryLemmas.{entry_own}

-- a search after other calls
pub search_back : (a b : StoreState) (save : List ℕ) (fault : SearchFault) → ((file : List ℕ) → HasFile a save file → HasFile b save file)
    → SearchStops b save fault → SearchStops a save fault
search_back a b save Failed still h = tt
search_back a b save Gone still h = λ file has. h file (still file has)
search_back a b save (BadHead line) still h = λ file v has. h file v (still file has)
search_back a b save (BadLine place) still h = λ file v has. h file v (still file has)
search_back a b save TooLarge still h = λ file v has. h file v (still file has)
search_back a b save WantOfMemory still h = tt

-- ---- answers

-- what is kept at a key: what the entry leaves, or else what is saved
kept_at : (known : Type 0) (told journal : Option (List ℕ)) (sources : Sources) (k : Key) (v : Saved) → IsOpened known told journal sources → known
    → (keeps : Keeps told journal v) → object_at v.mirror.objects k ≡ unwrap_or (net_at sources.entries.items k) (object_at keeps.start.mirror.objects k)
kept_at known told journal sources k v o sure keeps =
    let rising : AreRising keeps.start.mirror.objects = keeps.spells.savable.mirror.orderly.objects in
    ap (λ (cs : List ChangeValue). object_at cs k) (o.laid sure keeps.file keeps.start v keeps.there keeps.spells keeps)
    ∙ laid_at sources.entries.items keeps.start.mirror.objects k o.rising o.own rising

pub left_answer : (known : Type 0) (told journal : Option (List ℕ)) (sources : Sources) (k : Key) (left answer : Option ChangeValue)
    → IsOpened known told journal sources → net_at sources.entries.items k ≡ Some left → answer ≡ left
    → IsAnswer known told journal sources k answer
left_answer known told journal sources k left answer o e same = record {
  is = λ yes v keeps.
      same ∙ sym (kept_at known told journal sources k v o yes keeps
      ∙ ap (λ (z : Option (Option ChangeValue)). unwrap_or z (object_at keeps.start.mirror.objects k)) e);
  own = subst (HasKey k) (sym same) (entry_own sources.entries.items k left o.own e);
  read = λ yes. subst (λ (z : Option (Option ChangeValue)). IsFromFiles told z answer) (sym e) same;
}

from_save : (a : StoreState) (save : List ℕ) (answer : Option ChangeValue) → IsKnown a
    → IfSome answer (λ c. (file : List ℕ) → HasFile a save file → HasLineOf file c) → IsFromFiles (a.files save) None answer
from_save a save None sure whole = tt
from_save a save (Some c) sure whole = λ file there. whole file (record { known = sure; there = there })

pub saved_answer : (a : StoreState) (save : List ℕ) (journal : Option (List ℕ)) (sources : Sources) (k : Key) (answer : Option ChangeValue)
    → IsOpened (IsKnown a) (a.files save) journal sources → net_at sources.entries.items k ≡ None → IsSaved a save sources.opened k answer
    → HasKey k answer → IfSome answer (λ c. (file : List ℕ) → HasFile a save file → HasLineOf file c)
    → IsAnswer (IsKnown a) (a.files save) journal sources k answer
saved_answer a save journal sources k answer o e saved own whole = record {
  is = λ yes v keeps.
      saved keeps.file keeps.start (record { known = yes; there = keeps.there }) (o.opening yes keeps.file keeps.start keeps.there keeps.spells)
      ∙ sym (kept_at (IsKnown a) (a.files save) journal sources k v o yes keeps
      ∙ ap (λ (z : Option (Option ChangeValue)). unwrap_or z (object_at keeps.start.mirror.objects k)) e);
  own = own;
  read = λ yes. subst (λ (z : Option (Option ChangeValue)). IsFromFiles (a.files save) z answer) (sym e) (from_save a save answer yes whole);
}

pub saved_stops : (a : StoreState) (save : List ℕ) (journal : Option (List ℕ)) (sources : Sources) (fault : SearchFault)
    → IsOpened (IsKnown a) (a.files save) journal sources → SavedStops a save sources.opened fault → AnswerStops a save (asks.Search fault)
saved_stops a save journal sources Failed o h = tt
saved_stops a save journal sources Gone o h = h
saved_stops a save journal sources (BadHead line) o h = absurd h
saved_stops a save journal sources (BadLine place) o h = λ file v has spells. h file v has (o.opening has.known file v has.there spells)
saved_stops a save journal sources TooLarge o h = λ file v has spells. h file v has (o.opening has.known file v has.there spells)
saved_stops a save journal sources WantOfMemory o h = tt
