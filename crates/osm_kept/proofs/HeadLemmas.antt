-- The head that a save and the first lines of its journal come to.
use Rattle.std.proofs.Common.{◌≡◌, ◌≢◌, ℕ, zero, suc, ◌+◌, ◌<◌, ◌≤◌, List, [], ◌∷◌, ◌++◌, length, take, drop, Option, Some, None}
use Rattle.std.proofs.Common.{inl, inr, arith, refl, sym, ap, subst, ◌∙◌, append_assoc, take-append-drop}
use Rattle.osm_save.specs.Head.{head_of}
use Rattle.osm_save.specs.Lines.{ended}
use Rattle.osm_save.specs.declared.head.Head.{Head}
use Rattle.osm_save.specs.declared.save.Saved.{Saved}
use Rattle.osm_store.specs.Files.{prefix_of}
use Rattle.osm_journal.specs.Journal.{JournalValue, SpellsJournal, last_number}
use Rattle.osm_journal.specs.Openings.{IsOpening, OpensJournal, SaysOf, max_opening, said_lines}
use Rattle.osm_journal.specs.declared.opening.Opening.{Opening}
use Rattle.osm_journal.proofs.BatchLemmas.{number_reached}
use Rattle.osm_journal.proofs.OpeningLemmas.{journal_opens, one_opening}
use Rattle.osm_kept.specs.Finding.{IsStart, IsStartOf, StartsAs, bytes_of}
use Rattle.osm_kept.specs.Heads.{ComesToHead, FindsHead, HasHead, OpensOther, OpensOwn, head_said, start_said}
use Rattle.osm_kept.specs.Kept.{ComesTo, IsNoJournal, Keeps}
use Rattle.osm_kept.specs.Laws.{OpensAsOther, OpensBad}
use Rattle.osm_kept.specs.Reaching.{head_past}
use Rattle.osm_kept.specs.Refusal.{HeadsStop, IsNoJournalText, OpensAbove, OpensNoOther, OpensNone}
use Rattle.osm_kept.specs.Steps.Heading.{BesideStops, JudgeStops, first_of, max_first}
use Rattle.osm_kept.specs.Steps.Starting.{start_in}
use Rattle.osm_kept.specs.declared.fault.KeptFault.{KeptFault}
use Rattle.osm_kept.specs.declared.fault.KeptFault.TheVariants.{BadJournal, OtherJournal, WantOfMemory}
use Rattle.osm_kept.specs.declared.start.Start.{Start}
use Rattle.osm_kept.proofs.EndLemmas.{alone_reaches, own_only}
use Rattle.osm_kept.proofs.KeptLemmas.{belongs_same, no_bytes, same_belongs, start_saved}
use Rattle.osm_kept.proofs.LawLemmas.{same_file}
use Rattle.osm_kept.proofs.OtherLemmas.{file_bytes, not_below, start_at_number}
use Rattle.osm_kept.proofs.StartLemmas.{lines_of, one_start}

-- ---- the first bytes of a file

opens_whole : (most : ℕ) (all : List ℕ) (o : Opening) → OpensJournal (take most all) o → OpensJournal all o
opens_whole most all o p = record {
  is = p.is;
  rest = p.rest ++ drop most all;
  begins = sym (take-append-drop most all) ∙ (ap (λ (l : List ℕ). l ++ drop most all) p.begins
      ∙ append_assoc (ended (said_lines o)) p.rest (drop most all));
}

none_first : (most : ℕ) (all : List ℕ) → 0 < most → take most all ≡ [] → all ≡ []
none_first most [] some none = refl
none_first zero (b ∷ bs) some none = absurd (omega (arith, some))
none_first (suc most) (b ∷ bs) some none = absurd (let bad : b ∷ take most bs ≡ [] = none in cc)

none_of_file : (most : ℕ) (journal : Option (List ℕ)) → 0 < most → bytes_of (prefix_of most journal) ≡ [] → bytes_of journal ≡ []
none_of_file most None some none = refl
none_of_file most (Some all) some none = none_first most all some none

opens_file : (most : ℕ) (journal : Option (List ℕ)) (o : Opening) → OpensJournal (bytes_of (prefix_of most journal)) o → OpensJournal (bytes_of journal) o
opens_file most None o p = p
opens_file most (Some all) o p = opens_whole most all o p

comes_whole : (most : ℕ) (journal : Option (List ℕ)) (s : Start) (head : Head) → 0 < most → ComesToHead (bytes_of (prefix_of most journal)) s head
    → ComesToHead (bytes_of journal) s head
comes_whole most journal s head some (inl (none, stays)) = inl (none_of_file most journal some none, stays)
comes_whole most journal s head some (inr (inl own)) = inr (inl (record {
  opening = own.opening;
  opens = opens_file most journal own.opening own.opens;
  same = own.same;
  comes = own.comes;
}))
comes_whole most journal s head some (inr (inr other)) = inr (inr (record {
  opening = other.opening;
  opens = opens_file most journal other.opening other.opens;
  other = other.other;
  within = other.within;
  stays = other.stays;
}))

-- ---- what a journal says before its batches

-- the journal of the file says what was read of its first bytes
record Says (j : JournalValue) (o : Opening) : Type 0 where
  says : SaysOf o j
  start : start_in j ≡ start_said o
  head : head_past j.head j.batches ≡ head_said o

says_head : (j : JournalValue) (o : Opening) (bytes : List ℕ) → SpellsJournal bytes j → SaysOf o j → Says j o
says_head j o bytes spells says =
    let reached = number_reached j.batches j.head.number spells.journal.follow in
    let number : last_number j.head.number j.batches ≡ o.head.number + o.many = rw (says.head, says.many) reached in
    let base : j.head.base ≡ o.head.base = ap (λ (h : Head). h.base) (sym says.head) in
    record {
      says = says;
      start = λ i. record {
        version = sym says.version i;
        head = sym says.head i;
        filter = sym says.filter i;
        objects = sym says.objects i;
      };
      head = λ i. record { number = number i; base = base i; time = says.last i };
    }

first_says : (most : ℕ) (all : List ℕ) (j : JournalValue) (o : Opening) → max_opening ≤ most → SpellsJournal all j → OpensJournal (take most all) o
    → Says j o
first_says most all j o enough spells p =
    let opens = journal_opens all j most spells enough in
    let same : opens.0 ≡ o = one_opening (take most all) opens.0 o opens.2 p in
    says_head j o all spells (subst (λ (x : Opening). SaysOf x j) same opens.1)

file_says : (most : ℕ) (journal : Option (List ℕ)) (all : List ℕ) (j : JournalValue) (o : Opening) → max_opening ≤ most → journal ≡ Some all
    → SpellsJournal all j → OpensJournal (bytes_of (prefix_of most journal)) o → Says j o
file_says most journal all j o enough there spells p =
    first_says most all j o enough spells (subst (λ (f : Option (List ℕ)). OpensJournal (bytes_of (prefix_of most f)) o) there p)

-- so does that of all its bytes
whole_says : (all : List ℕ) (j : JournalValue) (o : Opening) → SpellsJournal all j → OpensJournal all o → Says j o
whole_says all j o spells p =
    let opens = journal_opens all j max_opening spells (omega arith) in
    let same : opens.0 ≡ o = one_opening all opens.0 o (opens_whole max_opening all opens.0 opens.2) p in
    says_head j o all spells (subst (λ (x : Opening). SaysOf x j) same opens.1)

pub opens_as_other : OpensAsOther
opens_as_other told journal number bytes j is there spells =
    let opens : OpensJournal bytes is.opening =
    subst (λ (l : List ℕ). OpensJournal l is.opening) (file_bytes journal bytes there) is.opens in
    let says : Says j is.opening = whole_says bytes j is.opening spells opens in
    record {
      bytes = bytes;
      there = there;
      value = j;
      spells = spells;
      ends = is.ends ∙ ap (λ (h : Head). h.number) (sym says.head);
      other = λ belongs. is.other belongs.file belongs.rest belongs.there
          (belongs.begins ∙ ap (λ (s : Start). lines_of s ++ belongs.rest) says.start);
      above = is.above;
    }

none_taken : (most : ℕ) → take {A = ℕ} most [] ≡ []
none_taken zero = refl
none_taken (suc most) = refl

opens_none : (o : Opening) → OpensJournal [] o → ⊥
opens_none o p = let bad : [] ≡ ended (said_lines o) ++ p.rest = p.begins in cc

-- ---- the head of what is kept

saved_head : (told journal : Option (List ℕ)) (s : Start) (v : Saved) → StartsAs told s → (k : Keeps told journal v) → v ≡ k.start → head_of v ≡ s.head
saved_head told journal s v starts k same =
    let begins : IsStartOf k.start s = start_saved told s k.file k.start starts k.there k.spells in
    ap head_of same ∙ begins.head

-- a journal with lines of the save before its batches isn't one of another
own_counts : (most : ℕ) (told journal : Option (List ℕ)) (s : Start) (head : Head) → max_opening ≤ most → StartsAs told s
    → OpensOwn (bytes_of (prefix_of most journal)) s head → IsNoJournal told journal → ⊥
own_counts most told None s head enough starts own silent = opens_none own.opening own.opens
own_counts most told (Some all) s head enough starts own (inl empty) =
    opens_none own.opening (subst (λ (l : List ℕ). OpensJournal l own.opening) (ap (take most) empty ∙ none_taken most) own.opens)
own_counts most told (Some all) s head enough starts own (inr another) =
    let says : Says another.value own.opening = first_says most all another.value own.opening enough another.spells own.opens in
    another.other (same_belongs told s another.value starts (says.start ∙ own.same))

own_head : (most : ℕ) (told journal : Option (List ℕ)) (s : Start) (head : Head) (v : Saved) → max_opening ≤ most → StartsAs told s
    → OpensOwn (bytes_of (prefix_of most journal)) s head → (k : Keeps told journal v) → ComesTo told journal k.start v → head_of v ≡ head
own_head most told journal s head v enough starts own k (inl (silent, same)) = absurd (own_counts most told journal s head enough starts own silent)
own_head most told journal s head v enough starts own k (inr (j, has, adds)) =
    let says : Says j own.opening = file_says most journal has.bytes j own.opening enough has.there has.spells own.opens in
    let begins : j.head ≡ s.head = ap (λ (x : Start). x.head) (says.start ∙ own.same) in
    let past : head ≡ head_past s.head j.batches = own.comes ∙ (sym says.head ∙ ap (λ (h : Head). head_past h j.batches) begins) in
    let only = own_only told journal s j head starts has past v k in
    only.0

other_head : (most : ℕ) (told journal : Option (List ℕ)) (s : Start) (head : Head) (v : Saved) → max_opening ≤ most → IsStart s → StartsAs told s
    → OpensOther (bytes_of (prefix_of most journal)) s head → (k : Keeps told journal v) → ComesTo told journal k.start v → head_of v ≡ head
other_head most told journal s head v enough is starts other k (inl (silent, same)) = saved_head told journal s v starts k same ∙ sym other.stays
other_head most told journal s head v enough is starts other k (inr (j, has, adds)) =
    let says : Says j other.opening = file_says most journal has.bytes j other.opening enough has.there has.spells other.opens in
    let own : start_in j ≡ s = belongs_same told s j starts is has.spells.journal has.belongs in
    absurd (other.other (sym says.start ∙ own))

comes_only : (most : ℕ) (told journal : Option (List ℕ)) (s : Start) (head : Head) → 0 < most → max_opening ≤ most → IsStart s → StartsAs told s
    → ComesToHead (bytes_of (prefix_of most journal)) s head → (v : Saved) → Keeps told journal v → head_of v ≡ head
comes_only most told journal s head some enough is starts (inl (none, stays)) v k =
    let reaches = alone_reaches told journal s starts (no_bytes told journal (none_of_file most journal some none)) in
    let only = reaches.only v k in
    only.0 ∙ sym stays
comes_only most told journal s head some enough is starts (inr (inl own)) v k = own_head most told journal s head v enough starts own k k.comes
comes_only most told journal s head some enough is starts (inr (inr other)) v k = other_head most told journal s head v enough is starts other k k.comes

has_head : (most : ℕ) (told journal : Option (List ℕ)) (s : Start) (head : Head) → 0 < most → max_opening ≤ most → IsStart s → StartsAs told s
    → ComesToHead (bytes_of (prefix_of most journal)) s head → HasHead told journal head
has_head most told journal s head some enough is starts comes = record {
  start = s;
  is_start = is;
  starts = starts;
  comes = comes_whole most journal s head some comes;
  only = comes_only most told journal s head some enough is starts comes;
}

pub finds_head : (told journal : Option (List ℕ)) (s : Start) (bytes : List ℕ) (head : Head) → IsStart s → StartsAs told s → first_of journal ≡ bytes
    → ComesToHead bytes s head → HasHead told journal head
finds_head told journal s bytes head is starts first comes =
    has_head max_first told journal s head (omega arith) (omega arith) is starts
    (subst (λ (l : List ℕ). ComesToHead l s head) (sym first) comes)

pub nothing_first : (journal : Option (List ℕ)) (bytes : List ℕ) → first_of journal ≡ bytes → bytes ≡ [] → bytes_of journal ≡ []
nothing_first journal bytes first none = none_of_file max_first journal (omega arith) (first ∙ none)

-- ---- none of another save that ends above

-- an opening is that of a save that it is said to be of
opening_start : (o : Opening) → IsOpening o → IsStart (start_said o)
opening_start o is = record { head = is.head; filter = is.filter; tells = is.tells; objects = is.objects }

said_none : (told : Option (List ℕ)) (s : Start) (o : Opening) → IsStart s → StartsAs told s → IsOpening o → start_said o ≢ s → OpensNone told o
said_none told s o is starts opening other file rest there begins =
    other (one_start file (start_said o) s rest starts.rest (opening_start o opening) is begins
    (same_file told file starts.file there starts.there ∙ starts.begins))

opens_some : (bytes : List ℕ) (o : Opening) → OpensJournal bytes o → 0 < length bytes
opens_some [] o p = absurd (opens_none o p)
opens_some (b ∷ bs) o p = omega arith

pub opens_bad : OpensBad
opens_bad told None number line above free = absurd (opens_none above.opening above.opens)
opens_bad told (Some bytes) number line above free = record {
  bytes = bytes;
  there = refl;
  some = opens_some bytes above.opening above.opens;
  bad = inl (λ j spells. free number (opens_as_other told (Some bytes) number bytes j above refl spells));
}

own_opens : (told : Option (List ℕ)) (bytes : List ℕ) (s : Start) (head : Head) (o : Opening) → StartsAs told s → OpensOwn bytes s head
    → OpensJournal bytes o → OpensNone told o → ⊥
own_opens told bytes s head o starts own opens none =
    let same : own.opening ≡ o = one_opening bytes own.opening o own.opens opens in
    none starts.file starts.rest starts.there
    (starts.begins ∙ ap (λ (x : Start). lines_of x ++ starts.rest) (sym own.same ∙ ap start_said same))

head_free : (told journal : Option (List ℕ)) (s : Start) (head : Head) (number : ℕ) → IsStart s → StartsAs told s → ComesToHead (bytes_of journal) s head
    → OpensAbove told journal number → ⊥
head_free told journal s head number is starts (inl (none, stays)) above =
    opens_none above.opening (subst (λ (l : List ℕ). OpensJournal l above.opening) none above.opens)
head_free told journal s head number is starts (inr (inl own)) above =
    own_opens told (bytes_of journal) s head above.opening starts own above.opens above.other
head_free told journal s head number is starts (inr (inr other)) above =
    let same : other.opening ≡ above.opening = one_opening (bytes_of journal) other.opening above.opening other.opens above.opens in
    let ends : number ≡ (head_said other.opening).number = above.ends ∙ ap (λ (o : Opening). (head_said o).number) (sym same) in
    let within = other.within in
    not_below told s.head.number number (start_at_number told s is starts) (omega (arith, ends, within)) above.above

pub heads_free : (told journal : Option (List ℕ)) (head : Option Head) → FindsHead told journal head → OpensNoOther told journal
heads_free told journal None finds number above =
    opens_none above.opening (subst (λ (l : List ℕ). OpensJournal l above.opening) finds.1 above.opens)
heads_free told journal (Some head) finds number above =
    head_free told journal finds.start head number finds.is_start finds.starts finds.comes above

-- ---- faults

some_whole : (most : ℕ) (all : List ℕ) → 0 < length (take most all) → 0 < length all
some_whole zero [] some = some
some_whole (suc most) [] some = some
some_whole most (b ∷ bs) some = omega arith

bad_file : (most : ℕ) (journal : Option (List ℕ)) → max_opening ≤ most → 0 < length (bytes_of (prefix_of most journal))
    → ((o : Opening) → OpensJournal (bytes_of (prefix_of most journal)) o → ⊥) → IsNoJournalText journal
bad_file most None enough some stops = absurd (omega (arith, some))
bad_file most (Some all) enough some stops = record {
  bytes = all;
  there = refl;
  some = some_whole most all some;
  none = λ j spells. (let opens = journal_opens all j most spells enough in stops opens.0 opens.2);
}

-- beside a save that begins so
pub beside_stop : (told journal : Option (List ℕ)) (s : Start) (bytes : List ℕ) (fault : KeptFault) → IsStart s → StartsAs told s
    → first_of journal ≡ bytes → BesideStops s bytes fault → HeadsStop told journal fault
beside_stop told journal s bytes (BadJournal line) is starts first stops =
    bad_file max_first journal (omega arith) (rw first stops.0) (rw first stops.1)
beside_stop told journal s bytes (OtherJournal number) is starts first stops = record {
  opening = stops.opening;
  opens = opens_file max_first journal stops.opening (rw first stops.opens);
  ends = stops.ends;
  other = said_none told s stops.opening is starts stops.opens.is stops.other;
  above = inr (s.head.number, start_at_number told s is starts, stops.above);
}
beside_stop told journal s bytes WantOfMemory is starts first stops = tt
beside_stop told journal s bytes fault is starts first stops = absurd stops.1

-- without a save
pub judge_stop : (told journal : Option (List ℕ)) (bytes : List ℕ) (fault : KeptFault) → told ≡ None → first_of journal ≡ bytes
    → JudgeStops bytes fault → HeadsStop told journal fault
judge_stop told journal bytes (BadJournal line) none first stops =
    bad_file max_first journal (omega arith) (rw first stops.0) (rw first stops.1)
judge_stop told journal bytes (OtherJournal number) none first stops = record {
  opening = stops.opening;
  opens = opens_file max_first journal stops.opening (rw first stops.opens);
  ends = stops.ends;
  other = λ file rest there begins. (let bad : ◌≡◌ {A = Option (List ℕ)} None (Some file) = sym none ∙ there in cc);
  above = inl none;
}
judge_stop told journal bytes WantOfMemory none first stops = tt
judge_stop told journal bytes fault none first stops = absurd stops.1
