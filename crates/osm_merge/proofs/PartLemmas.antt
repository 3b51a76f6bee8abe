-- Parts of a save text that are merged one after the other.
use Rattle.std.proofs.Common.{◌≡◌, ℕ, ◌+◌, ◌≤◌, List, [], ◌∷◌, ◌++◌, length, map, refl, sym, ap, subst, ◌∙◌, Bool, true, false, Some, None, Option}
use Rattle.std.proofs.Common.{append_assoc, arith}
use Rattle.std.specs.Prelude.{Err, Ok, codes, decimal}
use Rattle.osm_store.specs.Frames.{StoreState}
use Rattle.osm_blocks.specs.Calls.{puts_of, reads_ahead}
use Rattle.osm_blocks.specs.Frames.{ReadsOften}
use Rattle.osm_blocks.specs.Places.{Place, left_of}
use Rattle.osm_blocks.specs.Writing.{Waiting}
use Rattle.osm_blocks.proofs.OftenLemmas.{often_then}
use Rattle.osm_mirror.specs.Mirror.{Counted}
use Rattle.osm_net.specs.Laid.{added}
use Rattle.osm_net.specs.Net.{NetValue}
use Rattle.osm_reading.specs.Answers.{and_then}
use Rattle.osm_save.specs.Head.{most_counted}
use Rattle.osm_save.specs.Lines.{ended}
use Rattle.osm_save.specs.Reading.{counts_at, items_at, numbered_at}
use Rattle.osm_save.specs.Save.{count_text}
use Rattle.osm_merge.specs.Calls.{calls_ahead, puts_ahead}
use Rattle.osm_merge.specs.Faults.{IsDeviceFault}
use Rattle.osm_merge.specs.Laying.{Writes}
use Rattle.osm_merge.specs.Mirrors.{both_at, end_at}
use Rattle.osm_merge.specs.Parts.{MergesPart, Part, ahead_after, both_part, counts_part, end_part, header_part, lines_part, list_part}
use Rattle.osm_merge.specs.declared.fault.MergeFault.{MergeFault}
use Rattle.osm_merge.specs.declared.lists.Totals.{Totals}
use Rattle.osm_merge.specs.declared.opening.Opening.{Opening}
use Rattle.osm_merge.proofs.CallLemmas.{advances_fails, advances_first, advances_then, same_ahead, same_puts}
use Rattle.osm_merge.proofs.FrameLemmas.{has_still, often_fails, writes_both}
use Rattle.osm_merge.proofs.LineLemmas.{refuses_all}

same_after : (t : Bool) (w v : Waiting) (place : Place) (file : List ℕ) → v.is_writing ≡ w.is_writing → ahead_after t v place file ≡ ahead_after t w place file
same_after true w v place file keeps = refl
same_after false w v place file keeps = ap (λ (n : ℕ). reads_ahead place file + n) (same_ahead w v place file keeps)

-- the same calls, in some that give something else
pub fails_as : {T U E : Type 0} {blames : E → Type 0} {a b : StoreState} {fault : E} → ReadsOften {T = T} blames a b (Err fault)
    → ReadsOften {T = U} blames a b (Err fault)
fails_as n = record {
  files = n.files;
  known = n.known;
  left = n.left;
  failures = n.failures;
  failed = n.failed;
  stops = n.stops;
}

-- the first part wasn't merged, so the whole isn't
pub part_first : {A R T C Q Z : Type 0} {name : List ℕ} {first : Part A R T} {a b : StoreState} {p q : Place} {w v : Waiting} {fault : MergeFault}
    (whole : Part C Q Z) → MergesPart name first (Err fault) a p w b q v → ((n : ℕ) → first.appends n ≤ whole.appends n)
    → ((bytes : List ℕ) → first.reading bytes ≡ None → whole.reading bytes ≡ None) → MergesPart name whole (Err fault) a p w b q v
part_first {first = first} {a = a} {b = b} {p = p} {q = q} {w = w} {fault = fault} whole m fewer none = record {
  merges = tt;
  refused = λ file has. refuses_all file fault (first.reading (left_of p file)) (whole.reading (left_of p file)) (m.refused file has) (none (left_of p file));
  frame = fails_as m.frame;
  calls = λ file has.
      let less : first.appends (puts_of w) ≤ whole.appends (puts_of w) = fewer (puts_of w) in
      advances_first (calls_ahead w p file + whole.appends (puts_of w)) (λ _. ahead_after whole.ends w q file) a b fault (m.calls file has)
      (omega (arith, less));
  keeps = tt;
}

-- the first part was merged, and another follows
module _ {A R T B S U C Q Z : Type 0} {name : List ℕ} {first : Part A R T} {next : Part B S U} {a b d : StoreState} {p q r : Place} {w v u : Waiting} {x : T}
    (whole : Part C Q Z) (m : MergesPart name first (Ok x) a p w b q v) (goes_on : first.ends ≡ false)
    (fewer : (n : ℕ) → first.appends n + next.appends n ≤ whole.appends n) where
  pub part_fails : {fault : MergeFault}
      → ((bytes rest : List ℕ) → first.reading bytes ≡ Some (first.is_read m.merges.value rest) → next.reading rest ≡ None → whole.reading bytes ≡ None)
      → MergesPart name next (Err fault) b q v d r u → MergesPart name whole (Err fault) a p w d r u
  part_fails {fault = fault} cut n = record {
    merges = tt;
    refused = λ file has. refuses_all file fault (next.reading (left_of q file)) (whole.reading (left_of p file))
        (n.refused file (has_still a b x name file m.frame has)) (cut (left_of p file) (left_of q file) (m.merges.read file has));
    frame = often_fails IsDeviceFault a b d x fault m.frame n.frame;
    calls = λ file has.
        let more : next.appends (puts_of v) ≡ next.appends (puts_of w) = ap next.appends (same_puts w v m.keeps) in
        let ahead : puts_ahead v q file ≡ puts_ahead w q file = same_ahead w v q file m.keeps in
        let after : ahead_after first.ends w q file ≡ calls_ahead w q file = ap (λ (t : Bool). ahead_after t w q file) goes_on in
        let less : first.appends (puts_of w) + next.appends (puts_of w) ≤ whole.appends (puts_of w) = fewer (puts_of w) in
        advances_fails (calls_ahead w p file + whole.appends (puts_of w)) (λ _. ahead_after whole.ends w r file) a b d x fault (m.calls file has)
        (n.calls file (has_still a b x name file m.frame has)) (omega (arith, more, ahead, after, less));
    keeps = tt;
  }

  pub part_done : {y : U} {z : Z} → (n : MergesPart name next (Ok y) b q v d r u) → (value : C) → z ≡ whole.gives value → next.ends ≡ whole.ends
      → ((bytes rest last : List ℕ) → first.reading bytes ≡ Some (first.is_read m.merges.value rest)
      → next.reading rest ≡ Some (next.is_read n.merges.value last) → whole.reading bytes ≡ Some (whole.is_read value last))
      → first.text m.merges.value ++ next.text n.merges.value ≡ whole.text value
      → MergesPart name whole (Ok z) a p w d r u
  part_done {y = y} {z = z} n value given ends read text = record {
    merges = record {
      value = value;
      read = λ file has. read (left_of p file) (left_of q file) (left_of r file) (m.merges.read file has)
          (n.merges.read file (has_still a b x name file m.frame has));
      given_is = given;
      out = subst (λ (l : List ℕ). Writes a w d u l) text
          (writes_both a b d w v u x (first.text m.merges.value) (next.text n.merges.value) m.frame m.merges.out n.merges.out);
    };
    refused = tt;
    frame = often_then IsDeviceFault a b d x y z m.frame n.frame;
    calls = λ file has.
        let more : next.appends (puts_of v) ≡ next.appends (puts_of w) = ap next.appends (same_puts w v m.keeps) in
        let ahead : puts_ahead v q file ≡ puts_ahead w q file = same_ahead w v q file m.keeps in
        let after : ahead_after first.ends w q file ≡ calls_ahead w q file = ap (λ (t : Bool). ahead_after t w q file) goes_on in
        let last : ahead_after next.ends v r file ≡ ahead_after whole.ends w r file =
        same_after next.ends w v r file m.keeps ∙ ap (λ (t : Bool). ahead_after t w r file) ends in
        let less : first.appends (puts_of w) + next.appends (puts_of w) ≤ whole.appends (puts_of w) = fewer (puts_of w) in
        advances_then (calls_ahead w p file + whole.appends (puts_of w)) (λ _. ahead_after whole.ends w r file) a b d x y z (m.calls file has)
        (n.calls file (has_still a b x name file m.frame has)) (omega (arith, more, ahead, after, last, less));
    keeps = n.keeps ∙ m.keeps;
  }

-- ---- a list: its first line, and the others

module _ {E X K : Type 0} (lay : List E → List X → List X) (line : X → List ℕ) (key : X → K) (item : Option K → List ℕ → Option X) (es : List E)
    (word : List ℕ) (most total : ℕ) (list_at : List ℕ → Option (List X × List ℕ)) {many : ℕ} {name : List ℕ} {a b d : StoreState} {p q r : Place}
    {w v u : Waiting}
    (is : (bytes rest : List ℕ) (n : ℕ) → numbered_at word most bytes ≡ Some (n, rest) → list_at bytes ≡ items_at key item n None rest)
    (m : MergesPart name (header_part word most total) (Ok many) a p w b q v) where
  pub list_fails : {fault : MergeFault} → MergesPart name (lines_part lay line key item es many) (Err fault) b q v d r u
      → MergesPart name (list_part lay line word total es list_at) (Err fault) a p w d r u
  list_fails n = part_fails (list_part lay line word total es list_at) m refl (λ k. omega arith) (λ bytes rest e none.
      is bytes rest m.merges.value e ∙ (ap (λ (i : ℕ). items_at key item i None rest) (sym m.merges.given_is) ∙ none)) n

  pub list_done : {count : ℕ} → MergesPart name (lines_part lay line key item es many) (Ok count) b q v d r u
      → MergesPart name (list_part lay line word total es list_at) (Ok count) a p w d r u
  list_done n = part_done (list_part lay line word total es list_at) m refl (λ k. omega arith) n n.merges.value n.merges.given_is refl
      (λ bytes rest last e f. is bytes rest m.merges.value e ∙ (ap (λ (i : ℕ). items_at key item i None rest) (sym m.merges.given_is) ∙ f))
      (append_assoc (word ++ decimal total) (10 ∷ []) (ended (map line (lay es n.merges.value))))

-- ---- two lists of counts

-- both lists of counts, one after the other
abbrev pub two_part : ℕ → ℕ → ℕ → List Counted → List Counted → Part (List Counted × List Counted) ((List Counted × List Counted) × List ℕ) (ℕ × ℕ)
two_part most users changesets us ss = record {
  reading = λ bytes. and_then {A = List Counted × List ℕ} {B = (List Counted × List Counted) × List ℕ} (counts_at (codes "users ") most bytes) (λ u.
      and_then {A = List Counted × List ℕ} {B = (List Counted × List Counted) × List ℕ} (counts_at (codes "changesets ") most u.1)
      (λ s. Some ((u.0, s.0), s.1)));
  is_read = λ x rest. (x, rest);
  gives = λ x. (length (added us x.0), length (added ss x.1));
  text = λ x. ended ((codes "users " ++ decimal users) ∷ map count_text (added us x.0))
      ++ ended ((codes "changesets " ++ decimal changesets) ∷ map count_text (added ss x.1));
  ends = false;
  appends = λ n. n + n;
}

two_read : (most : ℕ) (bytes rest last : List ℕ) (us ss : List Counted) → counts_at (codes "users ") most bytes ≡ Some (us, rest)
    → counts_at (codes "changesets ") most rest ≡ Some (ss, last) → (two_part most 0 0 [] []).reading bytes ≡ Some ((us, ss), last)
two_read most bytes rest last us ss e f = rw (e, f) refl

-- and the end after them
both_is : (most : ℕ) (bytes : List ℕ) → both_at most bytes
    ≡ and_then {A = (List Counted × List Counted) × List ℕ} {B = List Counted × List Counted} ((two_part most 0 0 [] []).reading bytes)
    (λ x. and_then {A = Unit {0}} {B = List Counted × List Counted} (end_at x.1) (λ e. Some x.0))
unfolding both_at
both_is most bytes = by_users (counts_at (codes "users ") most bytes)
  where
    by_changesets : (us : List Counted) (o : Option (List Counted × List ℕ))
        → and_then {A = List Counted × List ℕ} {B = List Counted × List Counted} o
        (λ s. and_then {A = Unit {0}} {B = List Counted × List Counted} (end_at s.1) (λ e. Some (us, s.0)))
        ≡ and_then {A = (List Counted × List Counted) × List ℕ} {B = List Counted × List Counted}
        (and_then {A = List Counted × List ℕ} {B = (List Counted × List Counted) × List ℕ} o (λ s. Some ((us, s.0), s.1)))
        (λ x. and_then {A = Unit {0}} {B = List Counted × List Counted} (end_at x.1) (λ e. Some x.0))
    by_changesets us None = refl
    by_changesets us (Some s) = refl

    by_users : (o : Option (List Counted × List ℕ))
        → and_then {A = List Counted × List ℕ} {B = List Counted × List Counted} o
        (λ u. and_then {A = List Counted × List ℕ} {B = List Counted × List Counted} (counts_at (codes "changesets ") most u.1)
        (λ s. and_then {A = Unit {0}} {B = List Counted × List Counted} (end_at s.1) (λ e. Some (u.0, s.0))))
        ≡ and_then {A = (List Counted × List Counted) × List ℕ} {B = List Counted × List Counted}
        (and_then {A = List Counted × List ℕ} {B = (List Counted × List Counted) × List ℕ} o (λ u.
        and_then {A = List Counted × List ℕ} {B = (List Counted × List Counted) × List ℕ} (counts_at (codes "changesets ") most u.1)
        (λ s. Some ((u.0, s.0), s.1))))
        (λ x. and_then {A = Unit {0}} {B = List Counted × List Counted} (end_at x.1) (λ e. Some x.0))
    by_users None = refl
    by_users (Some u) = by_changesets u.0 (counts_at (codes "changesets ") most u.1)

abbrev Both : Type 0
Both = List Counted × List Counted

both_then : (most : ℕ) (bytes rest : List ℕ) (x : Both) (r : Option (Unit {0})) → (two_part most 0 0 [] []).reading bytes ≡ Some (x, rest) → end_at rest ≡ r
    → both_at most bytes ≡ and_then {A = Unit {0}} {B = Both} r (λ e. Some x)
both_then most bytes rest x r e end = both_is most bytes
    ∙ (ap (λ (o : Option (Both × List ℕ)). and_then {A = Both × List ℕ} {B = Both} o (λ y. and_then {A = Unit {0}} {B = Both} (end_at y.1) (λ t. Some y.0))) e
    ∙ ap (λ (o : Option (Unit {0})). and_then {A = Unit {0}} {B = Both} o (λ t. Some x)) end)

module _ {name : List ℕ} {a b d : StoreState} {p q r : Place} {w v u : Waiting} where
  two_done : {many other : ℕ} (most users changesets : ℕ) (us ss : List Counted)
      → MergesPart name (counts_part (codes "users ") most users us) (Ok many) a p w b q v
      → MergesPart name (counts_part (codes "changesets ") most changesets ss) (Ok other) b q v d r u
      → MergesPart name (two_part most users changesets us ss) (Ok (many, other)) a p w d r u
  two_done most users changesets us ss m n = part_done (two_part most users changesets us ss) m refl (λ k. omega arith) n
      (m.merges.value, n.merges.value) (rw (m.merges.given_is, n.merges.given_is) refl) refl
      (λ bytes rest last e f. two_read most bytes rest last m.merges.value n.merges.value e f) refl

module _ {name : List ℕ} {a b d e : StoreState} {p q r s : Place} {w v u z : Waiting} {many other : ℕ} (t : Totals) (o : Opening) (n : NetValue)
    (m : MergesPart name (counts_part (codes "users ") (most_counted o.head) t.users n.users) (Ok many) a p w b q v)
    (k : MergesPart name (counts_part (codes "changesets ") (most_counted o.head) t.changesets n.changesets) (Ok other) b q v d r u) where
  pub both_done : MergesPart name end_part (Ok tt) d r u e s z → MergesPart name (both_part t o n) (Ok (many, other)) a p w e s z
  both_done end =
      let two = two_done (most_counted o.head) t.users t.changesets n.users n.changesets m k in
      part_done (both_part t o n) two refl (λ i. omega arith) end two.merges.value two.merges.given_is refl
      (λ bytes rest last read ends. both_then (most_counted o.head) bytes rest two.merges.value (Some tt) read ends)
      (append_assoc (ended ((codes "users " ++ decimal t.users) ∷ map count_text (added n.users two.merges.value.0)))
      (ended ((codes "changesets " ++ decimal t.changesets) ∷ map count_text (added n.changesets two.merges.value.1))) (codes "end" ++ 10 ∷ []))

  pub both_fails : {fault : MergeFault} → MergesPart name end_part (Err fault) d r u e s z → MergesPart name (both_part t o n) (Err fault) a p w e s z
  both_fails end =
      let two = two_done (most_counted o.head) t.users t.changesets n.users n.changesets m k in
      part_fails (both_part t o n) two refl (λ i. omega arith)
      (λ bytes rest read none. both_then (most_counted o.head) bytes rest two.merges.value None read none) end
