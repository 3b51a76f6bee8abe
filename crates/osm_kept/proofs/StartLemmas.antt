-- What a save begins with: what is read is there, and what is there is read.
use Rattle.std.proofs.Common.{◌≡◌, ℕ, ◌-◌, ◌<◌, ◌≤◌, List, [], ◌∷◌, ◌++◌, length, take, drop, refl, ap, sym, ◌∙◌}
use Rattle.std.proofs.Common.{Some, None, Option, subst, arith, append_assoc, length-append, take-append-drop}
use Rattle.std.specs.Prelude.{codes, decimal}
use Rattle.std.proofs.lemmas.Fmt.{length-decimal-le}
use Rattle.std.proofs.lemmas.Option.{same_Some}
use Rattle.osm_model.specs.Filter.{FilterValue}
use Rattle.osm_model.specs.Limits.{max_sequence}
use Rattle.osm_reading.specs.Answers.{and_then}
use Rattle.osm_reading.proofs.StepLemmas.{some_then}
use Rattle.osm_save.specs.Head.{head_lines, head_of, max_head}
use Rattle.osm_save.specs.Lines.{ended}
use Rattle.osm_save.specs.Reading.{head_at, numbered_at}
use Rattle.osm_save.specs.Save.{IsSavable, SpellsSave, most_objects, save_text}
use Rattle.osm_save.specs.declared.head.Head.{Head}
use Rattle.osm_save.specs.declared.save.Saved.{Saved}
use Rattle.osm_save.specs.declared.version.Version.{Version}
use Rattle.osm_save.specs.declared.version.Version.TheVariants.{One, Three, Two}
use Rattle.osm_save.proofs.HeadLemmas.{TakesHead, head_again, head_short, head_takes, take_past}
use Rattle.osm_save.proofs.LineLemmas.{TakesNumbered, lacks_by, numbered_again, numbered_takes}
use Rattle.osm_save.proofs.TextLemmas.{before, before-append, ended-append, ended_before}
use Rattle.osm_save.proofs.SaveLemmas.{small_objects}
use Rattle.osm_store.specs.Files.{prefix_of}
use Rattle.osm_journal.specs.Journal.{save_start}
use Rattle.osm_journal.proofs.JournalLemmas.{save_starts}
use Rattle.osm_kept.specs.Finding.{IsStart, IsStartOf, StartsAs}
use Rattle.osm_kept.specs.Refusal.{IsNoSave}
use Rattle.osm_kept.specs.Steps.Starting.{ReadsStart, StartStops, StartTextStops, start_at}
use Rattle.osm_kept.specs.declared.fault.KeptFault.{KeptFault}
use Rattle.osm_kept.specs.declared.fault.KeptFault.TheVariants.{BadSave, WantOfMemory}
use Rattle.osm_kept.specs.declared.start.Start.{Start}

-- the lines of what a save begins with
abbrev pub lines_of : Start → List ℕ
lines_of s = ended (save_start s.version s.head s.filter s.objects)

abbrev start_with : Version × Head × FilterValue × List ℕ → ℕ → Start
start_with h objects = record { version = h.0; head = h.1; filter = h.2; objects = objects }

start_lines : (s : Start) (rest : List ℕ)
    → before (head_lines s.version s.head s.filter) ((codes "objects " ++ decimal s.objects) ++ 10 ∷ rest) ≡ lines_of s ++ rest
start_lines s rest =
    sym (ended_before (save_start s.version s.head s.filter s.objects) rest
    ∙ before-append (head_lines s.version s.head s.filter) ((codes "objects " ++ decimal s.objects) ∷ []) rest)

-- ---- what is read is there

pub record TakesStart (bytes : List ℕ) (s : Start) (rest : List ℕ) : Type 0 where
  pub text : bytes ≡ lines_of s ++ rest
  pub is : IsStart s

abbrev Front : Type 0
Front = Version × Head × FilterValue × List ℕ

pub start_takes : (bytes : List ℕ) (r : Start × List ℕ) → start_at bytes ≡ Some r → TakesStart bytes r.0 r.1
unfolding start_at
start_takes bytes r e =
    let h = some_then (head_at bytes) (λ (h : Front). and_then {A = ℕ × List ℕ} {B = Start × List ℕ}
    (numbered_at (codes "objects ") (most_objects h.0 h.1.number) h.3) (λ (o : ℕ × List ℕ). Some (start_with h o.0, o.1))) r e in
    let o = some_then (numbered_at (codes "objects ") (most_objects h.0.0 h.0.1.number) h.0.3)
    (λ (o : ℕ × List ℕ). Some (start_with h.0 o.0, o.1)) r h.2 in
    let head : TakesHead bytes h.0.0 h.0.1 h.0.2 h.0.3 = head_takes bytes h.0 h.1 in
    let line : TakesNumbered (codes "objects ") (most_objects h.0.0 h.0.1.number) h.0.3 o.0.0 o.0.1 =
    numbered_takes (codes "objects ") (most_objects h.0.0 h.0.1.number) h.0.3 o.0 o.1 in
    subst (λ (x : Start × List ℕ). TakesStart bytes x.0 x.1) (same_Some (start_with h.0 o.0.0, o.0.1) r o.2) (record {
      text = head.text ∙ (ap (before (head_lines h.0.0 h.0.1 h.0.2)) line.text ∙ start_lines (start_with h.0 o.0.0) o.0.1);
      is = record { head = head.limits; filter = head.is_filter; tells = head.tells; objects = line.few };
    })

-- ---- what is there is read

objects_small : (s : Start) → IsStart s → s.objects < 1000000000000000000
objects_small s is =
    let few = is.objects in
    let bound = small_objects s.version s.head.number is.head.number in
    omega (arith, few, bound)

pub start_again : (s : Start) (rest : List ℕ) → IsStart s → start_at (lines_of s ++ rest) ≡ Some (s, rest)
unfolding start_at
start_again s rest is =
    let after : List ℕ = (codes "objects " ++ decimal s.objects) ++ 10 ∷ rest in
    let head = head_again s.version s.head s.filter after is.head is.filter is.tells in
    let line = numbered_again (codes "objects ") (most_objects s.version s.head.number) s.objects rest (lacks_by 10 (codes "objects ") refl)
    is.objects (objects_small s is) in
    rw (← start_lines s rest, head, line) refl

-- bytes begin with at most one
pub one_start : (bytes : List ℕ) (a b : Start) (rest more : List ℕ) → IsStart a → IsStart b → bytes ≡ lines_of a ++ rest
    → bytes ≡ lines_of b ++ more → a ≡ b
one_start bytes a b rest more p q x y =
    ap (λ (r : Start × List ℕ). r.0)
    (same_Some (a, rest) (b, more) (sym (ap start_at x ∙ start_again a rest p) ∙ (ap start_at y ∙ start_again b more q)))

-- ---- a save text begins with its own

-- what the text of that version begins with
abbrev pub start_of_saved : Version → Saved → Start
start_of_saved version v = record { version = version; head = head_of v; filter = v.filter; objects = length v.mirror.objects }

pub saved_start : (version : Version) (v : Saved) → IsSavable version v → IsStart (start_of_saved version v)
saved_start version v is = record { head = is.head; filter = is.filter; tells = is.tells; objects = is.objects }

pub saved_begins : (version : Version) (v : Saved)
    → save_text version v ≡ lines_of (start_of_saved version v) ++ drop (length (lines_of (start_of_saved version v))) (save_text version v)
saved_begins version v =
    let count : ℕ = length (lines_of (start_of_saved version v)) in
    sym (take-append-drop count (save_text version v))
    ∙ ap (λ (l : List ℕ). l ++ drop count (save_text version v)) (save_starts version v)

pub spelled_start : (bytes : List ℕ) (v : Saved) (x : SpellsSave bytes v) (s : Start) (rest : List ℕ) → IsStart s → bytes ≡ lines_of s ++ rest
    → start_of_saved x.version v ≡ s
spelled_start bytes v x s rest is e =
    one_start bytes (start_of_saved x.version v) s _ rest (saved_start x.version v x.savable) is (x.text ∙ saved_begins x.version v) e

pub is_start_of : (bytes : List ℕ) (v : Saved) (s : Start) (rest : List ℕ) → IsStart s → bytes ≡ lines_of s ++ rest → SpellsSave bytes v
    → IsStartOf v s
is_start_of bytes v s rest is e x =
    let same = spelled_start bytes v x s rest is e in
    record {
      head = ap (λ (t : Start). t.head) same;
      filter = ap (λ (t : Start). t.filter) same;
      objects = ap (λ (t : Start). t.objects) same;
    }

-- ---- the first bytes of a file

-- the line with the number of objects is short, too
start_short : (s : Start) → IsStart s → length (lines_of s) ≤ 409600
start_short s is =
    let head : length (ended (head_lines s.version s.head s.filter)) ≤ max_head = head_short s.version s.head s.filter is.head is.filter in
    let small = objects_small s is in
    let line : List ℕ = codes "objects " ++ decimal s.objects in
    let digits = length-decimal-le 18 s.objects (omega arith) (omega (arith, small)) in
    let both = ap length (ended-append (head_lines s.version s.head s.filter) (line ∷ [])) in
    let sum = length-append (ended (head_lines s.version s.head s.filter)) (ended (line ∷ [])) in
    let end = length-append line (10 ∷ []) in
    let word = length-append (codes "objects ") (decimal s.objects) in
    omega (arith, head, digits, both, sum, end, word)

start_first : (s : Start) (rest : List ℕ) → IsStart s
    → take 409600 (lines_of s ++ rest) ≡ lines_of s ++ take (409600 - length (lines_of s)) rest
start_first s rest is = take_past (lines_of s) rest 409600 (start_short s is)

pub starts_as : (told : Option (List ℕ)) (bytes : List ℕ) (s : Start) → prefix_of 409600 told ≡ Some bytes → ReadsStart bytes s → StartsAs told s
starts_as None bytes s e r = absurd (let bad = e in cc)
starts_as (Some file) bytes s e r =
    let first : take 409600 file ≡ bytes = same_Some (take 409600 file) bytes e in
    let t : TakesStart bytes s r.rest = start_takes bytes (s, r.rest) r.read in
    let begins : file ≡ lines_of s ++ (r.rest ++ drop 409600 file) =
    sym (take-append-drop 409600 file) ∙ (ap (λ (l : List ℕ). l ++ drop 409600 file) (first ∙ t.text)
    ∙ append_assoc (lines_of s) r.rest (drop 409600 file)) in
    record {
      file = file;
      there = refl;
      rest = r.rest ++ drop 409600 file;
      begins = begins;
      is = λ v x. is_start_of file v s (r.rest ++ drop 409600 file) t.is begins x;
    }

pub no_start : (told : Option (List ℕ)) (bytes : List ℕ) → prefix_of 409600 told ≡ Some bytes → start_at bytes ≡ None → IsNoSave told
no_start None bytes e none = absurd (let bad = e in cc)
no_start (Some file) bytes e none =
    let first : take 409600 file ≡ bytes = same_Some (take 409600 file) bytes e in
    record {
      file = file;
      there = refl;
      none = λ v x. (let s : Start = start_of_saved x.version v in
          let is : IsStart s = saved_start x.version v x.savable in
          let more : List ℕ = drop (length (lines_of s)) (save_text x.version v) in
          let text : bytes ≡ lines_of s ++ take (409600 - length (lines_of s)) more =
          sym first ∙ (ap (take 409600) (x.text ∙ saved_begins x.version v) ∙ start_first s more is) in
          let bad : ◌≡◌ {A = Option (Start × List ℕ)} None (Some (s, take (409600 - length (lines_of s)) more)) =
          sym none ∙ (ap start_at text ∙ start_again s (take (409600 - length (lines_of s)) more) is) in
          cc);
    }

pub read_is_start : (bytes : List ℕ) (s : Start) → ReadsStart bytes s → IsStart s
read_is_start bytes s r = let t : TakesStart bytes s r.rest = start_takes bytes (s, r.rest) r.read in t.is

pub text_stops : (known : Type 0) (told : Option (List ℕ)) (bytes : List ℕ) (fault : KeptFault) → (known → prefix_of 409600 told ≡ Some bytes)
    → StartTextStops bytes fault → StartStops known told fault
text_stops known told bytes (BadSave line) is none = λ sure. no_start told bytes (is sure) none
text_stops known told bytes WantOfMemory is stops = tt
text_stops known told bytes fault is stops = absurd stops
