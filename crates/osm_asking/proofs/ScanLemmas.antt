-- The lines from a place on.
use Rattle.std.proofs.Common.{◌≡◌, ◌≢◌, ◌⊎◌, inl, inr, ℕ, ◌+◌, ◌-◌, ◌<◌, ◌≤◌, List, ◌++◌, length, drop, refl, sym, ap, ◌∙◌, subst, Option, Some, None, arith}
use Rattle.std.proofs.lemmas.Bool.{cases_lt}
use Rattle.std.proofs.lemmas.List.{drop-drop, drop-append-le, length-append, length-drop}
use Rattle.std.specs.Prelude.{Err, IfErr, IfOk, Ok, Result, false, true}
use Rattle.std.specs.Ordering.{is_eq}
use Rattle.std.specs.declared.cmp.Ordering.{Ordering}
use Rattle.std.specs.declared.cmp.Ordering.TheVariants.{Equal, Greater, Less}
use Rattle.osm_blocks.specs.Frames.{ReadsOften}
use Rattle.osm_blocks.specs.Places.{HasFile, IsHuge}
use Rattle.osm_reading.specs.Pieces.{cut_at}
use Rattle.osm_save.specs.declared.save.Saved.{Saved}
use Rattle.osm_store.specs.Frames.{StoreState}
use Rattle.osm_asking.specs.Finding.{IsSpot, IsWhole, StandsAt}
use Rattle.osm_asking.specs.Lines.{HasLines}
use Rattle.osm_asking.specs.Refusal.{IsFailed}
use Rattle.osm_asking.specs.Steps.Passing.{HasSide, Passes, StopsAt}
use Rattle.osm_asking.specs.Steps.Reading.{IsBlockAt, IsBlockIn}
use Rattle.osm_asking.specs.Steps.Scanning.{FoundStops, FurtherStops, IsFoundIn, IsOfBytes, IsScanned}
use Rattle.osm_asking.specs.Steps.Searching.{FindStops, FindsFrom, Goes, IsLow, ScanStops}
use Rattle.osm_asking.specs.declared.fault.SearchFault.{SearchFault}
use Rattle.osm_asking.specs.declared.fault.SearchFault.TheVariants.{BadHead, BadLine, Failed, Gone, TooLarge, WantOfMemory}
use Rattle.osm_asking.specs.declared.find.Scanned.{Scanned}
use Rattle.osm_asking.specs.declared.find.Scanned.TheVariants.{Found, Further}
use Rattle.osm_asking.specs.declared.find.Spot.{Spot}
use Rattle.osm_asking.specs.declared.side.Wanted.{Wanted}
use Rattle.osm_asking.proofs.LineLemmas.{cut_more, side_more}
use Rattle.osm_asking.proofs.SearchLemmas.{has_after}
use Rattle.osm_asking.proofs.StandLemmas.{first_is, no_keyless, no_uncut, stands_within}

-- ---- in one block

-- what a file has after so many bytes of a block
pub past : (file : List ℕ) (place count : ℕ) (block : List ℕ) → (b : IsBlockAt file place block) → count ≤ length block
    → drop (place + count) file ≡ drop count block ++ b.rest
past file place count block b within =
    sym (drop-drop count place file) ∙ (ap (drop count) b.parts ∙ drop-append-le count block b.rest within)

-- it stands after the lines that were passed
pub stands_past : (wanted : Wanted) (v : Saved) (file : List ℕ) (place count : ℕ) (block : List ℕ) → (b : IsBlockAt file place block)
    → Passes wanted block count → StandsAt wanted v (drop place file) → StandsAt wanted v (drop (place + count) file)
stands_past wanted v file place count block b p s =
    subst (StandsAt wanted v) (sym (past file place count block b p.within)) (p.stays v b.rest (subst (StandsAt wanted v) b.parts s))

side_past : (wanted : Wanted) (file : List ℕ) (place count : ℕ) (block : List ℕ) (side : Option Ordering) → (b : IsBlockAt file place block)
    → count ≤ length block → HasSide wanted (drop count block) side → HasSide wanted (drop (place + count) file) side
side_past wanted file place count block side b within h =
    subst (λ (l : List ℕ). HasSide wanted l side) (sym (past file place count block b within)) (side_more wanted (drop count block) b.rest side h)

-- a line with no key
pub scan_keyless : (wanted : Wanted) (block : List ℕ) (place count at : ℕ) → Passes wanted block count → HasSide wanted (drop count block) None
    → (state : StoreState) (name : List ℕ) → IsBlockIn state name place block → ScanStops state name place wanted (BadLine at)
scan_keyless wanted block place count at p h = λ state name is file v has s.
    (let b = is file has in
    no_keyless wanted v (drop (place + count) file) (stands_past wanted v file place count block b p s)
    (side_past wanted file place count block None b p.within h))

-- all lines of the block were passed
pub scan_further : (wanted : Wanted) (block : List ℕ) (place count : ℕ) (s : Scanned) → Passes wanted block count
    → (s ≡ Further (place + count)) × (0 < count)
    → (state : StoreState) (name : List ℕ) → IsBlockIn state name place block → IsScanned state name place wanted s
scan_further wanted block place count s p (same, some) = λ state name is.
    subst (IsScanned state name place wanted) (sym same) (record {
      above = omega (arith, some);
      stands = λ file v has t. stands_past wanted v file place count block (is file has) p t;
    })

huge_past : (wanted : Wanted) (v : Saved) (file : List ℕ) (place count : ℕ) (block : List ℕ) → (b : IsBlockAt file place block)
    → count ≤ length block → StandsAt wanted v (drop place file) → 18446744073709551615 < place + count → IsHuge file
huge_past wanted v file place count block b within s over =
    let left = length-drop place file in
    let parts = ap length b.parts ∙ length-append block b.rest in
    by_order left parts (cases_lt place (length file))
  where
    by_order : length (drop place file) ≡ length file - place → length (drop place file) ≡ length block + length b.rest
        → (place < length file) ⊎ (length file ≤ place) → IsHuge file
    by_order left parts (inl below) = omega (arith, left, parts, below, within, over)
    by_order left parts (inr past) = absurd (stands_within wanted v file place s past)

pub scan_further_stops : (wanted : Wanted) (block : List ℕ) (place count : ℕ) (fault : SearchFault) → Passes wanted block count
    → cut_at 10 (drop count block) ≡ None → FurtherStops place count fault
    → (state : StoreState) (name : List ℕ) → IsBlockIn state name place block → ScanStops state name place wanted fault
scan_further_stops wanted block place count Failed p none stops = absurd stops
scan_further_stops wanted block place count Gone p none stops = absurd stops
scan_further_stops wanted block place count (BadHead line) p none stops = absurd stops
scan_further_stops wanted block place count (BadLine at) p none stops = λ state name is file v has s.
    (let b = is file has in
    let uncut : cut_at 10 block ≡ None = subst (λ (n : ℕ). cut_at 10 (drop n block) ≡ None) stops none in
    no_uncut wanted v block (subst (StandsAt wanted v) (sym (b.whole uncut)) s) uncut)
scan_further_stops wanted block place count TooLarge p none stops = λ state name is file v has s.
    huge_past wanted v file place count block (is file has) p.within s stops
scan_further_stops wanted block place count WantOfMemory p none stops = absurd stops

is_equal : (o : Ordering) → is_eq o ≡ true → o ≡ Equal
is_equal Less e = absurd (let bad : false ≡ true = e in cc)
is_equal Equal e = refl
is_equal Greater e = absurd (let bad : false ≡ true = e in cc)

-- a line that doesn't come before what is wanted
pub scan_found : (wanted : Wanted) (block : List ℕ) (place count : ℕ) (side : Ordering) (s : Scanned) → Passes wanted block count
    → side ≢ Less → HasSide wanted (drop count block) (Some side) → IsFoundIn (drop count block) (place + count) side s
    → (state : StoreState) (name : List ℕ) → IsBlockIn state name place block → IsScanned state name place wanted s
scan_found wanted block place count side (Further at) p other h found = absurd found
scan_found wanted block place count side (Found spot) p other h found = λ state name is. (
  λ file v has t. (let b = is file has in spotted v file b (stands_past wanted v file place count block b p t)),
  λ file has. whole file (is file has),
)
  where
    text : (file : List ℕ) → (b : IsBlockAt file place block) → drop count block ++ b.rest ≡ drop spot.place file
    text file b = sym (past file place count block b p.within) ∙ ap (λ (n : ℕ). drop n file) (sym found.0)

    cut : (file : List ℕ) → (b : IsBlockAt file place block) → cut_at 10 (drop spot.place file) ≡ Some (h.line, h.after ++ b.rest)
    cut file b = ap (cut_at 10) (sym (text file b)) ∙ cut_more (drop count block) b.rest h.line h.after h.cut

    spotted : (v : Saved) (file : List ℕ) (b : IsBlockAt file place block) → StandsAt wanted v (drop (place + count) file) → IsSpot wanted v file spot
    spotted v file b t =
        let stands : StandsAt wanted v (drop spot.place file) = subst (λ (n : ℕ). StandsAt wanted v (drop n file)) (sym found.0) t in
        record {
          stands = stands;
          first = first_is wanted v (drop spot.place file) side spot.line.items spot.is_there stands
              (record { line = h.line; after = h.after ++ b.rest; cut = cut file b; is = h.is })
              other (λ e. found.1 e h.after h.line h.cut) found.2;
        }

    whole : (file : List ℕ) → IsBlockAt file place block → IsWhole file spot
    whole file b there =
        let equal : side ≡ Equal = is_equal side (sym found.2 ∙ there) in (
          h.after ++ b.rest,
          cut file b ∙ ap (λ (l : List ℕ). Some (l, h.after ++ b.rest)) (sym (found.1 equal h.after h.line h.cut)),
        )

pub scan_found_stops : (wanted : Wanted) (block : List ℕ) (place count : ℕ) (fault : SearchFault) → Passes wanted block count
    → FoundStops (place + count) fault
    → (state : StoreState) (name : List ℕ) → IsBlockIn state name place block → ScanStops state name place wanted fault
scan_found_stops wanted block place count Failed p stops = absurd stops
scan_found_stops wanted block place count Gone p stops = absurd stops
scan_found_stops wanted block place count (BadHead line) p stops = absurd stops
scan_found_stops wanted block place count (BadLine at) p stops = absurd stops
scan_found_stops wanted block place count TooLarge p stops = λ state name is file v has s.
    huge_past wanted v file place count block (is file has) p.within s stops
scan_found_stops wanted block place count WantOfMemory p stops = λ state name is. tt

-- ---- block after block

pub record Scans (a b : StoreState) (name : List ℕ) (low : ℕ) (wanted : Wanted) (place i : ℕ) : Type 0 where
  pub frame : ReadsOften {T = Unit {0}} IsFailed a b (Ok tt)
  pub reached : i ≤ place
  pub stands : (file : List ℕ) (v : Saved) → HasFile a name file → StandsAt wanted v (drop low file) → StandsAt wanted v (drop place file)

pub scans_further : (a b : StoreState) (name : List ℕ) (low : ℕ) (wanted : Wanted) (place i next : ℕ) → Scans a b name low wanted place i
    → Goes b name place wanted next → (file : List ℕ) (v : Saved) → HasFile a name file → StandsAt wanted v (drop low file)
    → StandsAt wanted v (drop next file)
scans_further a b name low wanted place i next s goes = λ file v has t.
    goes.stands file v (has_after a b tt name file s.frame has) (s.stands file v has t)

pub scans_found : (a b : StoreState) (name : List ℕ) (low : ℕ) (wanted : Wanted) (place i : ℕ) (spot : Spot) → Scans a b name low wanted place i
    → FindsFrom b name place wanted spot → FindsFrom a name low wanted spot
scans_found a b name low wanted place i spot s finds = λ file v has t.
    finds file v (has_after a b tt name file s.frame has) (s.stands file v has t)

pub scans_stop : (a b : StoreState) (name : List ℕ) (low : ℕ) (wanted : Wanted) (place i : ℕ) (fault : SearchFault) → Scans a b name low wanted place i
    → ScanStops b name place wanted fault → ScanStops a name low wanted fault
scans_stop a b name low wanted place i Failed s stops = tt
scans_stop a b name low wanted place i Gone s stops = λ file has. stops file (has_after a b tt name file s.frame has)
scans_stop a b name low wanted place i (BadHead line) s stops = absurd stops
scans_stop a b name low wanted place i (BadLine at) s stops = λ file v has t.
    stops file v (has_after a b tt name file s.frame has) (s.stands file v has t)
scans_stop a b name low wanted place i TooLarge s stops = λ file v has t.
    stops file v (has_after a b tt name file s.frame has) (s.stands file v has t)
scans_stop a b name low wanted place i WantOfMemory s stops = tt

pub scans_end : (a b : StoreState) (name : List ℕ) (low : ℕ) (wanted : Wanted) (place i : ℕ) → Scans a b name low wanted place i
    → 18446744073709551615 ≤ i → ScanStops a name low wanted TooLarge
scans_end a b name low wanted place i s end = λ file v has t.
    by_order file v (s.stands file v has t) (cases_lt place (length file))
  where
    by_order : (file : List ℕ) (v : Saved) → StandsAt wanted v (drop place file) → (place < length file) ⊎ (length file ≤ place) → IsHuge file
    by_order file v t (inl below) = (let reached = s.reached in omega (arith, reached, end, below))
    by_order file v t (inr past) = absurd (stands_within wanted v file place t past)

-- the line that was found is in the file as it was
pub whole_before : {T : Type 0} (a b : StoreState) (x : T) (name : List ℕ) (spot : Spot) → ReadsOften IsFailed a b (Ok x)
    → ((file : List ℕ) → HasFile b name file → IsWhole file spot) → (file : List ℕ) → HasFile a name file → IsWhole file spot
whole_before a b x name spot frame whole = λ file has. whole file (has_after a b x name file frame has)

-- ---- after the halving

pub found_after : (a b : StoreState) (name : List ℕ) (start low : ℕ) (wanted : Wanted) (spot : Spot) → ReadsOften {T = Unit {0}} IsFailed a b (Ok tt)
    → IsLow a name start wanted low → FindsFrom b name low wanted spot
    → (file : List ℕ) (v : Saved) → HasFile a name file → HasLines file start v → IsSpot wanted v file spot
found_after a b name start low wanted spot frame is finds = λ file v has lines.
    finds file v (has_after a b tt name file frame has) (is.stands file v has lines)

pub stops_after : (a b : StoreState) (name : List ℕ) (start low : ℕ) (wanted : Wanted) (fault : SearchFault)
    → ReadsOften {T = Unit {0}} IsFailed a b (Ok tt) → IsLow a name start wanted low → ScanStops b name low wanted fault → FindStops a name start fault
stops_after a b name start low wanted Failed frame is stops = tt
stops_after a b name start low wanted Gone frame is stops = λ file has. stops file (has_after a b tt name file frame has)
stops_after a b name start low wanted (BadHead line) frame is stops = absurd stops
stops_after a b name start low wanted (BadLine at) frame is stops = λ file v has lines.
    stops file v (has_after a b tt name file frame has) (is.stands file v has lines)
stops_after a b name start low wanted TooLarge frame is stops = λ file v has lines.
    stops file v (has_after a b tt name file frame has) (is.stands file v has lines)
stops_after a b name start low wanted WantOfMemory frame is stops = tt

-- ---- what the bytes alone can't blame

not_failed : (fault : SearchFault) → IsOfBytes fault → IsFailed fault → ⊥
not_failed Failed plain blamed = plain
not_failed Gone plain blamed = blamed
not_failed (BadHead line) plain blamed = blamed
not_failed (BadLine at) plain blamed = blamed
not_failed TooLarge plain blamed = blamed
not_failed WantOfMemory plain blamed = blamed

-- no call was made after the block was read
pub frame_bytes : {T U : Type 0} (a b : StoreState) (x : T) (r : Result U SearchFault) → ReadsOften IsFailed a b (Ok x) → IfErr r IsOfBytes
    → ReadsOften IsFailed a b r
frame_bytes a b x (Ok y) f plain =
    record { files = f.files; known = f.known; left = f.left; failures = f.failures; failed = tt; stops = tt }
frame_bytes a b x (Err fault) f plain = record {
  files = f.files;
  known = f.known;
  left = f.left;
  failures = f.failures;
  failed = λ blamed. absurd (not_failed fault plain blamed);
  stops = λ known blamed. absurd (not_failed fault plain blamed);
}

-- what the lines of a block come to, of the file that it was read of
pub scan_all : (a : StoreState) (name : List ℕ) (place : ℕ) (wanted : Wanted) (block : List ℕ) (r : Result Scanned SearchFault)
    → IsBlockIn a name place block
    → IfOk r (λ s. (state : StoreState) (name : List ℕ) → IsBlockIn state name place block → IsScanned state name place wanted s)
    → IfOk r (IsScanned a name place wanted)
scan_all a name place wanted block (Ok s) is all = all a name is
scan_all a name place wanted block (Err fault) is all = tt

pub scan_all_stops : (a : StoreState) (name : List ℕ) (place : ℕ) (wanted : Wanted) (block : List ℕ) (r : Result Scanned SearchFault)
    → IsBlockIn a name place block
    → IfErr r (λ fault. (state : StoreState) (name : List ℕ) → IsBlockIn state name place block → ScanStops state name place wanted fault)
    → IfErr r (ScanStops a name place wanted)
scan_all_stops a name place wanted block (Ok s) is all = tt
scan_all_stops a name place wanted block (Err fault) is all = all a name is

-- the same of results, for the answers of calls
pub all_further : (wanted : Wanted) (block : List ℕ) (place count : ℕ) (r : Result Scanned SearchFault) → Passes wanted block count
    → IfOk r (λ s. (s ≡ Further (place + count)) × (0 < count))
    → IfOk r (λ s. (state : StoreState) (name : List ℕ) → IsBlockIn state name place block → IsScanned state name place wanted s)
all_further wanted block place count (Ok s) p is = scan_further wanted block place count s p is
all_further wanted block place count (Err fault) p is = tt

pub all_further_stops : (wanted : Wanted) (block : List ℕ) (place count : ℕ) (r : Result Scanned SearchFault) → Passes wanted block count
    → cut_at 10 (drop count block) ≡ None → IfErr r (FurtherStops place count)
    → IfErr r (λ fault. (state : StoreState) (name : List ℕ) → IsBlockIn state name place block → ScanStops state name place wanted fault)
all_further_stops wanted block place count (Ok s) p none stops = tt
all_further_stops wanted block place count (Err fault) p none stops = scan_further_stops wanted block place count fault p none stops

pub all_found : (wanted : Wanted) (block : List ℕ) (place count : ℕ) (side : Ordering) (r : Result Scanned SearchFault) → Passes wanted block count
    → StopsAt wanted (drop count block) (Some side) → IfOk r (IsFoundIn (drop count block) (place + count) side)
    → IfOk r (λ s. (state : StoreState) (name : List ℕ) → IsBlockIn state name place block → IsScanned state name place wanted s)
all_found wanted block place count side (Ok s) p stopped is = scan_found wanted block place count side s p stopped.0 stopped.1 is
all_found wanted block place count side (Err fault) p stopped is = tt

pub all_found_stops : (wanted : Wanted) (block : List ℕ) (place count : ℕ) (r : Result Scanned SearchFault) → Passes wanted block count
    → IfErr r (FoundStops (place + count))
    → IfErr r (λ fault. (state : StoreState) (name : List ℕ) → IsBlockIn state name place block → ScanStops state name place wanted fault)
all_found_stops wanted block place count (Ok s) p stops = tt
all_found_stops wanted block place count (Err fault) p stops = scan_found_stops wanted block place count fault p stops
