-- What a save begins with: what is read is there, and what is there is read.
use Rattle.std.proofs.Common.{
  ◌≡◌,
  ℕ,
  ◌+◌,
  ◌-◌,
  ◌<◌,
  ◌≤◌,
  List,
  [],
  ◌∷◌,
  ◌++◌,
  length,
  map,
  take,
  drop,
  refl,
  ap,
  sym,
  ◌∙◌,
  subst,
  Option,
  Some,
  None,
  arith,
  append_assoc,
}
use Rattle.std.proofs.lemmas.List.{take-append-drop, drop_at, length-append}
use Rattle.std.proofs.lemmas.Fmt.{length-decimal-le}
use Rattle.std.proofs.lemmas.Option.{same_Some}
use Rattle.std.specs.Prelude.{codes, decimal}
use Rattle.osm_model.specs.Filter.{FilterValue}
use Rattle.osm_model.specs.Limits.{max_sequence}
use Rattle.osm_mirror.specs.Mirror.{MirrorValue}
use Rattle.osm_opl.specs.Written.{line_text}
use Rattle.osm_reading.specs.Answers.{and_then}
use Rattle.osm_reading.proofs.StepLemmas.{some_then}
use Rattle.osm_save.specs.Head.{head_lines, head_of, max_head}
use Rattle.osm_save.specs.Lines.{ended, list_lines}
use Rattle.osm_save.specs.Reading.{head_at, numbered_at}
use Rattle.osm_save.specs.Save.{IsSavable, SpellsSave, count_text, most_objects}
use Rattle.osm_save.specs.declared.head.Head.{Head}
use Rattle.osm_save.specs.declared.save.Saved.{Saved}
use Rattle.osm_save.specs.declared.version.Version.{Version}
use Rattle.osm_save.specs.declared.version.Version.TheVariants.{One, Three, Two}
use Rattle.osm_save.proofs.HeadLemmas.{TakesHead, head_again, head_short, head_takes, take_past}
use Rattle.osm_save.proofs.LineLemmas.{TakesNumbered, lacks_by, numbered_again, numbered_takes}
use Rattle.osm_save.proofs.TextLemmas.{before, ended-append, ended_before, mirror_text, save_text_is}
use Rattle.osm_save.proofs.SaveLemmas.{small_objects}
use Rattle.osm_asking.specs.Lines.{IsOpening, lines_after, lines_from}
use Rattle.osm_blocks.specs.Places.{HasFile}
use Rattle.osm_store.specs.Frames.{StoreState}
use Rattle.osm_asking.specs.Refusal.{SearchStops}
use Rattle.osm_asking.specs.Steps.Opening.{OpeningStops, OpensAt, opening_at}
use Rattle.osm_asking.specs.declared.fault.SearchFault.{SearchFault}
use Rattle.osm_asking.specs.declared.fault.SearchFault.TheVariants.{BadHead, BadLine, Failed, Gone, TooLarge, WantOfMemory}
use Rattle.osm_asking.specs.declared.opening.Opened.{Opened}

abbrev Front : Type 0
Front = Version × Head × FilterValue × List ℕ

abbrev word : List ℕ
word = codes "objects "

-- ---- the text after the head

after_number : (m : MirrorValue) → mirror_text m ≡ (word ++ decimal (length m.objects)) ++ 10 ∷ lines_from m.objects m
after_number m =
    let objects : List (List ℕ) = map line_text m.objects in
    let users : List (List ℕ) = list_lines (codes "users ") count_text m.users in
    let changesets : List (List ℕ) = list_lines (codes "changesets ") count_text m.changesets in
    let last : List (List ℕ) = codes "end" ∷ [] in
    let first : List ℕ = word ++ decimal (length m.objects) in
    let counts : ended (lines_after m) ≡ ended users ++ (ended changesets ++ ended last) =
    ended-append (users ++ changesets) last ∙ (ap (λ (l : List ℕ). l ++ ended last) (ended-append users changesets)
    ∙ append_assoc (ended users) (ended changesets) (ended last)) in
    let all : lines_from m.objects m ≡ ended objects ++ (ended users ++ (ended changesets ++ ended last)) =
    ended-append objects (lines_after m) ∙ ap (λ (l : List ℕ). ended objects ++ l) counts in
    append_assoc first (10 ∷ ended objects) (ended users ++ (ended changesets ++ ended last))
    ∙ ap (λ (l : List ℕ). first ++ 10 ∷ l) (sym all)

-- what is read of a save text
saved_head : (file : List ℕ) (v : Saved) → (x : SpellsSave file v) → head_at file ≡ Some (x.version, head_of v, v.filter, mirror_text v.mirror)
saved_head file v x =
    ap head_at (x.text ∙ save_text_is x.version v)
    ∙ head_again x.version (head_of v) v.filter (mirror_text v.mirror) x.savable.head x.savable.filter x.savable.tells

saved_number : (file : List ℕ) (v : Saved) → (x : SpellsSave file v)
    → numbered_at word (most_objects x.version v.number) (mirror_text v.mirror) ≡ Some (length v.mirror.objects, lines_from v.mirror.objects v.mirror)
saved_number file v x =
    let few = x.savable.objects in
    let bound = small_objects x.version v.number x.savable.head.number in
    ap (numbered_at word (most_objects x.version v.number)) (after_number v.mirror)
    ∙ numbered_again word (most_objects x.version v.number) (length v.mirror.objects) (lines_from v.mirror.objects v.mirror)
    (lacks_by 10 word refl) x.savable.objects (omega (arith, few, bound))

-- ---- what is read is there

-- a head, and then the number of objects, that are read of a prefix are those of the whole
head_whole : (bytes more : List ℕ) (r : Front) → head_at bytes ≡ Some r → head_at (bytes ++ more) ≡ Some (r.0, r.1, r.2, r.3 ++ more)
head_whole bytes more r e =
    let t : TakesHead bytes r.0 r.1 r.2 r.3 = head_takes bytes r e in
    let joined : bytes ++ more ≡ before (head_lines r.0 r.1 r.2) (r.3 ++ more) =
    ap (λ (l : List ℕ). l ++ more) (t.text ∙ sym (ended_before (head_lines r.0 r.1 r.2) r.3))
    ∙ (append_assoc (ended (head_lines r.0 r.1 r.2)) r.3 more ∙ ended_before (head_lines r.0 r.1 r.2) (r.3 ++ more)) in
    ap head_at joined ∙ head_again r.0 r.1 r.2 (r.3 ++ more) t.limits t.is_filter t.tells

number_whole : (most : ℕ) (bytes more : List ℕ) (o : ℕ × List ℕ) → numbered_at word most bytes ≡ Some o
    → numbered_at word most (bytes ++ more) ≡ Some (o.0, o.1 ++ more)
number_whole most bytes more o e =
    let t : TakesNumbered word most bytes o.0 o.1 = numbered_takes word most bytes o e in
    ap (numbered_at word most) (ap (λ (l : List ℕ). l ++ more) t.text ∙ append_assoc (word ++ decimal o.0) (10 ∷ o.1) more)
    ∙ numbered_again word most o.0 (o.1 ++ more) (lacks_by 10 word refl) t.few t.small

abbrev opened_with : List ℕ → Front → ℕ × List ℕ → Opened
opened_with bytes h o = record { head = h.1; filter = h.2; objects = o.0; place = length bytes - length o.1 }

pub record Reads (bytes : List ℕ) (opened : Opened) (rest : List ℕ) : Type 0 where
  pub version : Version
  pub after : List ℕ
  pub head : head_at bytes ≡ Some (version, opened.head, opened.filter, after)
  pub number : numbered_at word (most_objects version opened.head.number) after ≡ Some (opened.objects, rest)
  pub place : opened.place ≡ length bytes - length rest

reads_of : (bytes : List ℕ) (r : Opened × List ℕ) → opening_at bytes ≡ Some r → Reads bytes r.0 r.1
unfolding opening_at
reads_of bytes r e =
    let h = some_then (head_at bytes) (λ (h : Front). and_then {A = ℕ × List ℕ} {B = Opened × List ℕ}
    (numbered_at word (most_objects h.0 h.1.number) h.3) (λ (o : ℕ × List ℕ). Some (opened_with bytes h o, o.1))) r e in
    let o = some_then (numbered_at word (most_objects h.0.0 h.0.1.number) h.0.3)
    (λ (o : ℕ × List ℕ). Some (opened_with bytes h.0 o, o.1)) r h.2 in
    subst (λ (x : Opened × List ℕ). Reads bytes x.0 x.1) (same_Some (opened_with bytes h.0 o.0, o.0.1) r o.2)
    (record { version = h.0.0; after = h.0.3; head = h.1; number = o.1; place = refl })

-- the rest of the prefix is at that place
rest_at : (bytes : List ℕ) (opened : Opened) (rest : List ℕ) → Reads bytes opened rest → (front : List ℕ) × (bytes ≡ front ++ rest)
rest_at bytes opened rest r =
    let h : TakesHead bytes r.version opened.head opened.filter r.after = head_takes bytes (r.version, opened.head, opened.filter, r.after) r.head in
    let n : TakesNumbered word (most_objects r.version opened.head.number) r.after opened.objects rest =
    numbered_takes word (most_objects r.version opened.head.number) r.after (opened.objects, rest) r.number in
    let head : List ℕ = ended (head_lines r.version opened.head opened.filter) in
    let line : List ℕ = (word ++ decimal opened.objects) ++ 10 ∷ [] in (
      head ++ line,
      h.text ∙ (sym (ended_before (head_lines r.version opened.head opened.filter) r.after)
          ∙ (ap (λ (l : List ℕ). head ++ l) (n.text ∙ sym (append_assoc (word ++ decimal opened.objects) (10 ∷ []) rest))
          ∙ sym (append_assoc head line rest))),
    )

opens : (file bytes more : List ℕ) (v : Saved) (opened : Opened) (rest : List ℕ) → file ≡ bytes ++ more → Reads bytes opened rest
    → SpellsSave file v → IsOpening file opened v
opens file bytes more v opened rest parts r x =
    let front = rest_at bytes opened rest r in
    let a : head_at file ≡ Some (r.version, opened.head, opened.filter, r.after ++ more) =
    ap head_at parts ∙ head_whole bytes more (r.version, opened.head, opened.filter, r.after) r.head in
    let same : (x.version, head_of v, v.filter, mirror_text v.mirror) ≡ (r.version, opened.head, opened.filter, r.after ++ more) =
    same_Some {A = Front} (x.version, head_of v, v.filter, mirror_text v.mirror) (r.version, opened.head, opened.filter, r.after ++ more)
    (sym (saved_head file v x) ∙ a) in
    let version : x.version ≡ r.version = ap (λ (p : Front). p.0) same in
    let head : head_of v ≡ opened.head = ap (λ (p : Front). p.1) same in
    let filter : v.filter ≡ opened.filter = ap (λ (p : Front). p.2) same in
    let text : mirror_text v.mirror ≡ r.after ++ more = ap (λ (p : Front). p.3) same in
    let most : most_objects x.version v.number ≡ most_objects r.version opened.head.number =
    ap (λ (p : Front). most_objects p.0 p.1.number) same in
    let numbered : numbered_at word (most_objects r.version opened.head.number) (r.after ++ more) ≡
    Some (length v.mirror.objects, lines_from v.mirror.objects v.mirror) =
    rw (← most, ← text) (saved_number file v x) in
    let both : (length v.mirror.objects, lines_from v.mirror.objects v.mirror) ≡ (opened.objects, rest ++ more) =
    same_Some {A = ℕ × List ℕ} (length v.mirror.objects, lines_from v.mirror.objects v.mirror) (opened.objects, rest ++ more)
    (sym numbered ∙ number_whole (most_objects r.version opened.head.number) r.after more (opened.objects, rest) r.number) in
    let size = ap length front.1 ∙ length-append front.0 rest in
    let at : opened.place ≡ length front.0 = r.place ∙ (let p : length bytes - length rest ≡ length front.0 = omega (arith, size) in p) in
    let whole : file ≡ front.0 ++ (rest ++ more) = parts ∙ (ap (λ (l : List ℕ). l ++ more) front.1 ∙ append_assoc front.0 rest more) in
    let long = ap length whole ∙ length-append front.0 (rest ++ more) in
    record {
      head = head;
      filter = filter;
      objects = ap (λ (p : ℕ × List ℕ). p.0) both;
      lines = record {
        spells = x;
        within = omega (arith, at, long);
        lines = ap (λ (n : ℕ). drop n file) at ∙ (ap (drop (length front.0)) whole
            ∙ (drop_at front.0 (rest ++ more) (length front.0) refl ∙ sym (ap (λ (p : ℕ × List ℕ). p.1) both)));
      };
    }

-- ---- the first bytes of a file

pub opened_is : (file bytes : List ℕ) (v : Saved) (opened : Opened) → bytes ≡ take 409600 (drop 0 file) → OpensAt bytes opened → SpellsSave file v
    → IsOpening file opened v
opened_is file bytes v opened first o x =
    opens file bytes (drop 409600 file) v opened o.rest
    (sym (take-append-drop 409600 file) ∙ ap (λ (l : List ℕ). l ++ drop 409600 file) (sym first))
    (reads_of bytes (opened, o.rest) o.read) x

-- ---- what is there is read

-- the line with the number of objects is short, too
front_short : (v : Saved) (version : Version) → IsSavable version v
    → length (ended (head_lines version (head_of v) v.filter)) + length ((word ++ decimal (length v.mirror.objects)) ++ 10 ∷ []) ≤ 409600
front_short v version is =
    let head : length (ended (head_lines version (head_of v) v.filter)) ≤ max_head = head_short version (head_of v) v.filter is.head is.filter in
    let few = is.objects in
    let bound = small_objects version v.number is.head.number in
    let digits = length-decimal-le 18 (length v.mirror.objects) (omega arith) (omega (arith, few, bound)) in
    let end = length-append (word ++ decimal (length v.mirror.objects)) (10 ∷ []) in
    let line = length-append word (decimal (length v.mirror.objects)) in
    omega (arith, head, digits, end, line)

read_first : (file : List ℕ) (v : Saved) → (x : SpellsSave file v)
    → (rest : List ℕ) × (take 409600 file ≡ before (head_lines x.version (head_of v) v.filter) ((word ++ decimal (length v.mirror.objects)) ++ 10 ∷ rest))
read_first file v x =
    let lines : List (List ℕ) = head_lines x.version (head_of v) v.filter in
    let line : List ℕ = (word ++ decimal (length v.mirror.objects)) ++ 10 ∷ [] in
    let more : List ℕ = lines_from v.mirror.objects v.mirror in
    let whole : file ≡ (ended lines ++ line) ++ more =
    x.text ∙ (save_text_is x.version v ∙ (sym (ended_before lines (mirror_text v.mirror))
    ∙ (ap (λ (l : List ℕ). ended lines ++ l) (after_number v.mirror ∙ sym (append_assoc (word ++ decimal (length v.mirror.objects)) (10 ∷ []) more))
    ∙ sym (append_assoc (ended lines) line more)))) in
    let sum = length-append (ended lines) line in
    let short = front_short v x.version x.savable in
    let rest : List ℕ = take (409600 - length (ended lines ++ line)) more in (
      rest,
      ap (take 409600) whole ∙ (take_past (ended lines ++ line) more 409600 (omega (arith, sum, short))
          ∙ (append_assoc (ended lines) line rest
          ∙ (ap (λ (l : List ℕ). ended lines ++ l) (append_assoc (word ++ decimal (length v.mirror.objects)) (10 ∷ []) rest)
          ∙ ended_before lines ((word ++ decimal (length v.mirror.objects)) ++ 10 ∷ rest)))),
    )

pub opening_none : (file bytes : List ℕ) (v : Saved) → bytes ≡ take 409600 (drop 0 file) → opening_at bytes ≡ None → SpellsSave file v → ⊥
unfolding opening_at
opening_none file bytes v first none x =
    let f = read_first file v x in
    let after : List ℕ = (word ++ decimal (length v.mirror.objects)) ++ 10 ∷ f.0 in
    let few = x.savable.objects in
    let bound = small_objects x.version v.number x.savable.head.number in
    let head : head_at bytes ≡ Some (x.version, head_of v, v.filter, after) =
    ap head_at (first ∙ f.1) ∙ head_again x.version (head_of v) v.filter after x.savable.head x.savable.filter x.savable.tells in
    let number : numbered_at word (most_objects x.version v.number) after ≡ Some (length v.mirror.objects, f.0) =
    numbered_again word (most_objects x.version v.number) (length v.mirror.objects) f.0 (lacks_by 10 word refl) x.savable.objects (omega (arith, few, bound)) in
    let read : opening_at bytes ≡ Some (opened_with bytes (x.version, head_of v, v.filter, after) (length v.mirror.objects, f.0), f.0) =
    rw (head, number) refl in
    let bad : ◌≡◌ {A = Option (Opened × List ℕ)} None (Some (opened_with bytes (x.version, head_of v, v.filter, after) (length v.mirror.objects, f.0), f.0)) =
    sym none ∙ read in
    cc

pub opening_stops : (state : StoreState) (name bytes : List ℕ) (fault : SearchFault)
    → ((file : List ℕ) → HasFile state name file → bytes ≡ take 409600 (drop 0 file)) → OpeningStops bytes fault → SearchStops state name fault
opening_stops state name bytes Failed first stops = absurd stops
opening_stops state name bytes Gone first stops = absurd stops
opening_stops state name bytes (BadHead line) first stops = λ file v has x. opening_none file bytes v (first file has) stops x
opening_stops state name bytes (BadLine place) first stops = absurd stops
opening_stops state name bytes TooLarge first stops = absurd stops
opening_stops state name bytes WantOfMemory first stops = tt
