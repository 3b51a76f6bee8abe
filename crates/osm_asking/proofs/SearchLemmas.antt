-- How far a search has come.
use Rattle.std.proofs.Common.{◌≡◌, ℕ, ◌+◌, ◌<◌, ◌≤◌, List, [], ◌∷◌, ◌++◌, length, drop, refl, sym, ap, ◌∙◌, subst, Option, Some, None, arith, append_assoc}
use Rattle.std.proofs.lemmas.List.{append-nil, drop-drop, drop_at, length-append, length-drop}
use Rattle.std.specs.Prelude.{Bool, Err, IfErr, IfOk, IsTrue, Ok, Result}
use Rattle.std.specs.declared.cmp.Ordering.{Ordering}
use Rattle.std.specs.declared.cmp.Ordering.TheVariants.{Equal, Greater, Less}
use Rattle.osm_blocks.specs.Frames.{ReadsOften}
use Rattle.osm_blocks.specs.Places.{HasFile}
use Rattle.osm_reading.specs.Pieces.{cut_at}
use Rattle.osm_reading.proofs.PieceLemmas.{cut_again, cut_lacks, cut_takes, lacks_append, uncut_again, uncut_lacks}
use Rattle.osm_store.specs.Files.{Files}
use Rattle.osm_store.specs.Frames.{StoreState}
use Rattle.osm_asking.specs.Finding.{StandsAt}
use Rattle.osm_asking.specs.Refusal.{IsFailed}
use Rattle.osm_asking.specs.Steps.Passing.{HasSide, IsProbed, IsSide, IsSided, IsStarted, IsStartedAt, Lies}
use Rattle.osm_asking.specs.Steps.Reading.{IsBlockAt, IsBlockIn}
use Rattle.osm_asking.specs.Steps.Searching.{FindStops, IsAfter, IsLow, IsMoved, IsProbe, LiesAt, LyingStops, NoneAfter, ProbeStops, Probes}
use Rattle.osm_asking.specs.declared.fault.SearchFault.{SearchFault}
use Rattle.osm_asking.specs.declared.fault.SearchFault.TheVariants.{BadHead, BadLine, Failed, Gone, TooLarge, WantOfMemory}
use Rattle.osm_asking.specs.declared.find.Ends.{Ends}
use Rattle.osm_asking.specs.declared.side.Wanted.{Wanted}
use Rattle.std.proofs.lemmas.Option.{same_Some}
use Rattle.osm_asking.proofs.LineLemmas.{cut_more, side_more}
use Rattle.osm_asking.proofs.ShortLemmas.{cut_size, short_first}
use Rattle.osm_asking.proofs.StandLemmas.{jumps, no_keyless, no_uncut}

-- ---- known files stay

pub has_after : {T : Type 0} (a b : StoreState) (x : T) (name file : List ℕ) → ReadsOften IsFailed a b (Ok x) → HasFile a name file → HasFile b name file
has_after a b x name file frame has = record {
  known = subst (λ (t : Bool). IsTrue t) (sym frame.known) has.known;
  there = subst (λ (f : Files). f name ≡ Some file) (sym frame.files) has.there;
}

pub has_before : {T : Type 0} (a b : StoreState) (x : T) (name file : List ℕ) → ReadsOften IsFailed a b (Ok x) → HasFile b name file → HasFile a name file
has_before a b x name file frame has = record {
  known = subst (λ (t : Bool). IsTrue t) frame.known has.known;
  there = subst (λ (f : Files). f name ≡ Some file) frame.files has.there;
}

-- ---- one step

pub low_begun : (a : StoreState) (name : List ℕ) (start : ℕ) (wanted : Wanted) → IsLow a name start wanted start
low_begun a name start wanted = record {
  above = omega arith;
  stands = λ file v has lines. record {
    version = lines.spells.version;
    savable = lines.spells.savable;
    before = [];
    later = v.mirror.objects;
    parts = refl;
    passed = tt;
    lines = lines.lines;
  };
}

low_jump : (a : StoreState) (name : List ℕ) (start low middle place : ℕ) (wanted : Wanted) (side : Ordering) → IsLow a name start wanted low
    → low ≤ middle → Probes a name middle wanted place (Some side) → (◌≡◌ {A = Option Ordering} (Some side) (Some Greater) → ⊥)
    → IsLow a name start wanted place
low_jump a name start low middle place wanted side is ahead probed other =
    let above = is.above in
    let after = probed.above in
    record {
      above = omega (arith, above, ahead, after);
      stands = λ file v has lines. jumps wanted file start v middle place (Some side) lines (omega (arith, above, ahead)) (probed.is file has) other;
    }

pub low_moved : (a : StoreState) (name : List ℕ) (start middle : ℕ) (ends new : Ends) (wanted : Wanted) (probed : Option (ℕ × Ordering))
    → IsLow a name start wanted ends.low → ends.low ≤ middle → IsProbe a name middle wanted probed → IsMoved ends middle probed new
    → IsLow a name start wanted new.low
low_moved a name start middle ends new wanted None is ahead probed moved =
    subst (λ (e : Ends). IsLow a name start wanted e.low) (sym moved) is
low_moved a name start middle ends new wanted (Some (place, Greater)) is ahead probed moved =
    subst (λ (e : Ends). IsLow a name start wanted e.low) (sym moved) is
low_moved a name start middle ends new wanted (Some (place, Equal)) is ahead probed moved =
    subst (λ (e : Ends). IsLow a name start wanted e.low) (sym moved)
    (low_jump a name start ends.low middle place wanted Equal is ahead probed (λ e. absurd (let bad = e in cc)))
low_moved a name start middle ends new wanted (Some (place, Less)) is ahead probed moved =
    subst (λ (e : Ends). IsLow a name start wanted e.low) (sym moved)
    (low_jump a name start ends.low middle place wanted Less is ahead probed (λ e. absurd (let bad = e in cc)))

-- ---- the steps of a search

pub record Narrows (a b : StoreState) (name : List ℕ) (start : ℕ) (wanted : Wanted) (low : ℕ) : Type 0 where
  pub frame : ReadsOften {T = Unit {0}} IsFailed a b (Ok tt)
  pub is_low : IsLow a name start wanted low

low_after : (a b : StoreState) (name : List ℕ) (start : ℕ) (wanted : Wanted) (low : ℕ) → ReadsOften {T = Unit {0}} IsFailed a b (Ok tt)
    → IsLow a name start wanted low → IsLow b name start wanted low
low_after a b name start wanted low frame is = record {
  above = is.above;
  stands = λ file v has lines. is.stands file v (has_before a b tt name file frame has) lines;
}

low_before : (a b : StoreState) (name : List ℕ) (start : ℕ) (wanted : Wanted) (low : ℕ) → ReadsOften {T = Unit {0}} IsFailed a b (Ok tt)
    → IsLow b name start wanted low → IsLow a name start wanted low
low_before a b name start wanted low frame is = record {
  above = is.above;
  stands = λ file v has lines. is.stands file v (has_after a b tt name file frame has) lines;
}

-- the low end after one more step
pub low_next : (a b : StoreState) (name : List ℕ) (start : ℕ) (wanted : Wanted) (low new : ℕ) → Narrows a b name start wanted low
    → ((s : ℕ) → IsLow b name s wanted low → IsLow b name s wanted new) → IsLow a name start wanted new
low_next a b name start wanted low new n step =
    low_before a b name start wanted new n.frame (step start (low_after a b name start wanted low n.frame n.is_low))

-- why a step stops a search
pub narrow_stops : (a b : StoreState) (name : List ℕ) (start : ℕ) (wanted : Wanted) (low middle : ℕ) (fault : SearchFault)
    → Narrows a b name start wanted low → low ≤ middle → ProbeStops b name middle wanted fault → FindStops a name start fault
narrow_stops a b name start wanted low middle Failed n ahead stops = tt
narrow_stops a b name start wanted low middle Gone n ahead stops = λ file has. stops file (has_after a b tt name file n.frame has)
narrow_stops a b name start wanted low middle (BadHead line) n ahead stops = absurd stops
narrow_stops a b name start wanted low middle (BadLine place) n ahead stops = λ file v has lines.
    (let above = n.is_low.above in
    let probed : IsProbed wanted file middle place None = stops.is file (has_after a b tt name file n.frame has) in
    let stands : StandsAt wanted v (drop place file) =
    jumps wanted file start v middle place None lines (omega (arith, above, ahead)) probed (λ e. absurd (let bad = e in cc)) in
    no_keyless wanted v (drop place file)
    stands
    (probed.lies.has (λ none. no_uncut wanted v (drop place file) stands none)))
narrow_stops a b name start wanted low middle TooLarge n ahead stops = absurd stops
narrow_stops a b name start wanted low middle WantOfMemory n ahead stops = tt

-- ---- what is read at a place

-- a line that has an end lies there
lies_there : (wanted : Wanted) (file : List ℕ) (place : ℕ) (side : Option Ordering) → HasSide wanted (drop place file) side → Lies wanted file place side
lies_there wanted file place side h = record {
  within = (let size = cut_size (drop place file) h.line h.after h.cut in
      let left = length-drop place file in
      omega (arith, size, left));
  has = λ some. h;
}

-- the first line of a block lies there in the file too
pub block_side : (wanted : Wanted) (a : StoreState) (name : List ℕ) (place : ℕ) (block line after : List ℕ) (side : Option Ordering)
    → IsBlockIn a name place block → cut_at 10 block ≡ Some (line, after) → IsSide wanted line side
    → (file : List ℕ) → HasFile a name file → HasSide wanted (drop place file) side
block_side wanted a name place block line after side is cut lies = λ file has.
    (let b = is file has in
    subst (λ (l : List ℕ). HasSide wanted l side) (sym b.parts)
    (side_more wanted block b.rest side (record { line = line; after = after; cut = cut; is = lies })))

-- what a file has after the first LF of a block
pub after_first : (file : List ℕ) (from : ℕ) (block skipped after : List ℕ) → (b : IsBlockAt file from block) → cut_at 10 block ≡ Some (skipped, after)
    → drop (from + length skipped + 1) file ≡ after ++ b.rest
after_first file from block skipped after b cut =
    let sum : from + length skipped + 1 ≡ from + (length skipped + 1) = omega arith in
    let text : drop from file ≡ (skipped ++ 10 ∷ []) ++ (after ++ b.rest) =
    b.parts ∙ (ap (λ (l : List ℕ). l ++ b.rest) (cut_takes 10 block skipped after cut)
    ∙ (append_assoc skipped (10 ∷ after) b.rest ∙ sym (append_assoc skipped (10 ∷ []) (after ++ b.rest)))) in
    let many : length (skipped ++ 10 ∷ []) ≡ length skipped + 1 = length-append skipped (10 ∷ []) in
    ap (λ (n : ℕ). drop n file) sum
    ∙ (sym (drop-drop (length skipped + 1) from file)
    ∙ (ap (drop (length skipped + 1)) text ∙ drop_at (skipped ++ 10 ∷ []) (after ++ b.rest) (length skipped + 1) many))

probed_parts : (file : List ℕ) (from : ℕ) (block skipped after : List ℕ) → (b : IsBlockAt file from block) → cut_at 10 block ≡ Some (skipped, after)
    → drop from file ≡ skipped ++ 10 ∷ drop (from + length skipped + 1) file
probed_parts file from block skipped after b cut =
    b.parts ∙ (ap (λ (l : List ℕ). l ++ b.rest) (cut_takes 10 block skipped after cut)
    ∙ (append_assoc skipped (10 ∷ after) b.rest
    ∙ ap (λ (l : List ℕ). skipped ++ 10 ∷ l) (sym (after_first file from block skipped after b cut))))

-- a line that was read on its own
pub probes_at : (wanted : Wanted) (a : StoreState) (name : List ℕ) (from place : ℕ) (block skipped after : List ℕ) (side : Option Ordering)
    → IsBlockIn a name from block → cut_at 10 block ≡ Some (skipped, after) → place ≡ from + length skipped + 1
    → ((file : List ℕ) → HasFile a name file → Lies wanted file place side) → Probes a name from wanted place side
probes_at wanted a name from place block skipped after side is cut at lies = record {
  above = omega (arith, at);
  near = λ file has short. (let b = is file has in
      let less = short_first 16352 file from skipped (after ++ b.rest) short (omega arith)
      (ap (cut_at 10) b.parts ∙ cut_more block b.rest skipped after cut) in
      omega (arith, at, less));
  is = λ file has. (let b = is file has in record {
    skipped = skipped;
    parts = subst (λ (n : ℕ). drop from file ≡ skipped ++ 10 ∷ drop n file) (sym at) (probed_parts file from block skipped after b cut);
    lies = lies file has;
  });
}

-- the same of the answer of `probe_line`, after a block was read
pub probe_at : (wanted : Wanted) (a b : StoreState) (name : List ℕ) (from place : ℕ) (block skipped after : List ℕ) (o : Option (ℕ × Ordering))
    → ReadsOften {T = Unit {0}} IsFailed a b (Ok tt) → IsBlockIn a name from block → cut_at 10 block ≡ Some (skipped, after)
    → place ≡ from + length skipped + 1 → LiesAt b name place wanted o → IsProbe a name from wanted o
probe_at wanted a b name from place block skipped after None frame is cut at lies = λ file has fits line more first.
    (let k = is file has in
    let none : cut_at 10 (drop place file) ≡ None = lies file (has_after a b tt name file frame has) in
    let there = after_first file from block skipped after k cut in
    let same : (skipped, after ++ k.rest) ≡ (line, more) =
    same_Some {A = List ℕ × List ℕ} (skipped, after ++ k.rest) (line, more)
    (sym (ap (cut_at 10) k.parts ∙ cut_more block k.rest skipped after cut) ∙ first) in
    sym (ap (λ (p : List ℕ × List ℕ). cut_at 10 p.1) same) ∙ (sym (ap (cut_at 10) there) ∙ (ap (λ (n : ℕ). cut_at 10 (drop n file)) (sym at) ∙ none)))
probe_at wanted a b name from place block skipped after (Some (p, side)) frame is cut at lies =
    subst (λ (n : ℕ). Probes a name from wanted n (Some side)) (sym lies.0)
    (probes_at wanted a name from place block skipped after (Some side) is cut at (λ file has. lies.1 file (has_after a b tt name file frame has)))

pub probe_at_stops : (wanted : Wanted) (a b : StoreState) (name : List ℕ) (from place : ℕ) (block skipped after : List ℕ) (fault : SearchFault)
    → ReadsOften {T = Unit {0}} IsFailed a b (Ok tt) → IsBlockIn a name from block → cut_at 10 block ≡ Some (skipped, after)
    → place ≡ from + length skipped + 1 → LyingStops b name place wanted fault → ProbeStops a name from wanted fault
probe_at_stops wanted a b name from place block skipped after Failed frame is cut at stops = tt
probe_at_stops wanted a b name from place block skipped after Gone frame is cut at stops = λ file has. stops file (has_after a b tt name file frame has)
probe_at_stops wanted a b name from place block skipped after (BadHead line) frame is cut at stops = absurd stops
probe_at_stops wanted a b name from place block skipped after (BadLine p) frame is cut at stops =
    subst (λ (n : ℕ). Probes a name from wanted n None) (sym stops.0)
    (probes_at wanted a name from place block skipped after None is cut at (λ file has. stops.1 file (has_after a b tt name file frame has)))
probe_at_stops wanted a b name from place block skipped after TooLarge frame is cut at stops = absurd stops
probe_at_stops wanted a b name from place block skipped after WantOfMemory frame is cut at stops = tt

-- ---- what is said of the answers of calls

pub frame_as : {T : Type 0} (a b : StoreState) (x : T) → ReadsOften IsFailed a b (Ok x) → ReadsOften {T = Unit {0}} IsFailed a b (Ok tt)
frame_as a b x f = record { files = f.files; known = f.known; left = f.left; failures = f.failures; failed = tt; stops = tt }

-- nothing is left after the last bytes
pub last_uncut : (a : StoreState) (name : List ℕ) (place : ℕ) (bytes : List ℕ) (is_last : Bool) → IsAfter a name place bytes is_last → IsTrue is_last
    → cut_at 10 bytes ≡ None → (file : List ℕ) → HasFile a name file → cut_at 10 (drop place file) ≡ None
last_uncut a name place bytes is_last after last none = λ file has.
    (let k = after file has in
    ap (cut_at 10) (k.1 ∙ (ap (λ (l : List ℕ). bytes ++ l) (k.2 last) ∙ append-nil bytes)) ∙ none)

-- no line begins after a place from which on there is no LF
pub none_after : (a : StoreState) (name : List ℕ) (from : ℕ) (block : List ℕ) → IsBlockIn a name from block → cut_at 10 block ≡ None
    → NoneAfter a name from
none_after a name from block is none = λ file has fits line more first.
    (let whole = (is file has).whole none in
    let bad : ◌≡◌ {A = Option (List ℕ × List ℕ)} None (Some (line, more)) = sym none ∙ (ap (cut_at 10) whole ∙ first) in
    absurd cc)

-- nor if 64 bits don't count its place
pub none_counted : (a : StoreState) (name : List ℕ) (from : ℕ) (block skipped after : List ℕ) → IsBlockIn a name from block
    → cut_at 10 block ≡ Some (skipped, after) → 18446744073709551615 < from + length skipped + 1 → NoneAfter a name from
none_counted a name from block skipped after is cut over = λ file has fits line more first.
    (let k = is file has in
    let size = cut_size (drop from file) skipped (after ++ k.rest) (ap (cut_at 10) k.parts ∙ cut_more block k.rest skipped after cut) in
    let left = length-drop from file in
    absurd (omega (arith, size, left, fits, over)))

pub sided_lies : (a : StoreState) (name line : List ℕ) (place : ℕ) (wanted : Wanted) (r : Result (Option (ℕ × Ordering)) SearchFault)
    → IfOk r (IsSided wanted line place)
    → ((side : Ordering) → IsSide wanted line (Some side) → (file : List ℕ) → HasFile a name file → HasSide wanted (drop place file) (Some side))
    → IfOk r (LiesAt a name place wanted)
sided_lies a name line place wanted (Ok None) is lies = absurd is
sided_lies a name line place wanted (Ok (Some (at, side))) is lies =
    (is.0, λ file has. lies_there wanted file place (Some side) (lies side is.1 file has))
sided_lies a name line place wanted (Err fault) is lies = tt

pub sided_lies_stops : (a : StoreState) (name line : List ℕ) (place : ℕ) (wanted : Wanted) (r : Result (Option (ℕ × Ordering)) SearchFault)
    → IfErr r (λ fault. (fault ≡ BadLine place) × IsSide wanted line None)
    → (IsSide wanted line None → (file : List ℕ) → HasFile a name file → HasSide wanted (drop place file) None)
    → IfErr r (LyingStops a name place wanted)
sided_lies_stops a name line place wanted (Ok o) is lies = tt
sided_lies_stops a name line place wanted (Err fault) is lies =
    subst (λ (f : SearchFault). LyingStops a name place wanted f) (sym is.0)
    (refl, λ file has. lies_there wanted file place None (lies is.1 file has))

-- the bytes of a block after its first LF
pub after_in : {T : Type 0} (a b : StoreState) (x : T) (name : List ℕ) (from place : ℕ) (block skipped after : List ℕ) → ReadsOften IsFailed a b (Ok x)
    → IsBlockIn a name from block → cut_at 10 block ≡ Some (skipped, after) → place ≡ from + length skipped + 1
    → (is_last : Bool) → (IsTrue is_last → length block < 16384) → IsAfter b name place after is_last
after_in a b x name from place block skipped after frame is cut at is_last few = λ file has.
    (let k = is file (has_before a b x name file frame has) in
    (k.rest, ap (λ (n : ℕ). drop n file) at ∙ after_first file from block skipped after k cut, λ yes. k.last (few yes)))

-- their first line lies there in the file too
pub after_side : (wanted : Wanted) (a : StoreState) (name : List ℕ) (place : ℕ) (bytes line more : List ℕ) (is_last : Bool) (side : Option Ordering)
    → IsAfter a name place bytes is_last → cut_at 10 bytes ≡ Some (line, more) → IsSide wanted line side
    → (file : List ℕ) → HasFile a name file → HasSide wanted (drop place file) side
after_side wanted a name place bytes line more is_last side is cut lies = λ file has.
    (let k = is file has in
    subst (λ (l : List ℕ). HasSide wanted l side) (sym k.1)
    (side_more wanted bytes k.0 side (record { line = line; after = more; cut = cut; is = lies })))

pub after_lies : (a : StoreState) (name bytes line more : List ℕ) (place : ℕ) (is_last : Bool) (wanted : Wanted)
    (r : Result (Option (ℕ × Ordering)) SearchFault) → IfOk r (IsSided wanted line place) → cut_at 10 bytes ≡ Some (line, more)
    → IfOk r (λ o. IsAfter a name place bytes is_last → LiesAt a name place wanted o)
after_lies a name bytes line more place is_last wanted (Ok None) is cut = absurd is
after_lies a name bytes line more place is_last wanted (Ok (Some (at, side))) is cut =
    λ follows. (
      is.0,
      λ file has. lies_there wanted file place (Some side)
          (after_side wanted a name place bytes line more is_last (Some side) follows cut is.1 file has),
    )
after_lies a name bytes line more place is_last wanted (Err fault) is cut = tt

pub after_lies_stops : (a : StoreState) (name bytes line more : List ℕ) (place : ℕ) (is_last : Bool) (wanted : Wanted)
    (r : Result (Option (ℕ × Ordering)) SearchFault) → IfErr r (λ fault. (fault ≡ BadLine place) × IsSide wanted line None)
    → cut_at 10 bytes ≡ Some (line, more) → IfErr r (λ fault. IsAfter a name place bytes is_last → LyingStops a name place wanted fault)
after_lies_stops a name bytes line more place is_last wanted (Ok o) is cut = tt
after_lies_stops a name bytes line more place is_last wanted (Err fault) is cut = λ follows.
    subst (λ (f : SearchFault). LyingStops a name place wanted f) (sym is.0)
    (refl, λ file has. lies_there wanted file place None (after_side wanted a name place bytes line more is_last None follows cut is.1 file has))

-- ---- a line of which only the first bytes were read

-- they are the first bytes of a line
pub line_goes_on : (start rest line after : List ℕ) → cut_at 10 start ≡ None → cut_at 10 (start ++ rest) ≡ Some (line, after)
    → (more : List ℕ) × (line ≡ start ++ more)
line_goes_on start rest line after none cut = by_rest (cut_at 10 rest) refl
  where
    by_rest : (o : Option (List ℕ × List ℕ)) → cut_at 10 rest ≡ o → (more : List ℕ) × (line ≡ start ++ more)
    by_rest None uncut =
        let all : cut_at 10 (start ++ rest) ≡ None =
        uncut_again 10 (start ++ rest) (lacks_append 10 start rest (uncut_lacks 10 start none) (uncut_lacks 10 rest uncut)) in
        let bad : ◌≡◌ {A = Option (List ℕ × List ℕ)} None (Some (line, after)) = sym all ∙ cut in absurd cc
    by_rest (Some (more, left)) is =
        let text : start ++ rest ≡ (start ++ more) ++ 10 ∷ left =
        ap (λ (l : List ℕ). start ++ l) (cut_takes 10 rest more left is) ∙ sym (append_assoc start more (10 ∷ left)) in
        let whole : cut_at 10 (start ++ rest) ≡ Some (start ++ more, left) =
        ap (cut_at 10) text
        ∙ cut_again 10 (start ++ more) left (lacks_append 10 start more (uncut_lacks 10 start none) (cut_lacks 10 rest more left is)) in
        let same : (line, after) ≡ (start ++ more, left) =
        same_Some {A = List ℕ × List ℕ} (line, after) (start ++ more, left) (sym cut ∙ whole) in
        (more, ap (λ (p : List ℕ × List ℕ). p.0) same)

start_lies : (wanted : Wanted) (a : StoreState) (name : List ℕ) (place : ℕ) (start : List ℕ) (is_last : Bool) (side : Option Ordering)
    → IsAfter a name place start is_last → cut_at 10 start ≡ None → 32 ≤ length start → IsStarted wanted start side
    → (file : List ℕ) → HasFile a name file → Lies wanted file place side
start_lies wanted a name place start is_last side is none some started = λ file has.
    (let k = is file has in
    record {
      within = (let size = ap length k.1 ∙ length-append start k.0 in
          let left = length-drop place file in
          omega (arith, size, left, some));
      has = λ ends. by_cut file k (cut_at 10 (drop place file)) refl ends;
    })
  where
    by_cut : (file : List ℕ) → (k : (rest : List ℕ) × (drop place file ≡ start ++ rest) × (IsTrue is_last → rest ≡ []))
        → (o : Option (List ℕ × List ℕ)) → cut_at 10 (drop place file) ≡ o → (cut_at 10 (drop place file) ≡ None → ⊥) → HasSide wanted (drop place file) side
    by_cut file k None cut ends = absurd (ends cut)
    by_cut file k (Some (line, after)) cut ends =
        let goes = line_goes_on start k.0 line after none (sym (ap (cut_at 10) k.1) ∙ cut) in
        record { line = line; after = after; cut = cut; is = subst (λ (l : List ℕ). IsSide wanted l side) (sym goes.1) (started goes.0) }

pub started_lies : (a : StoreState) (name start : List ℕ) (place : ℕ) (is_last : Bool) (wanted : Wanted) (r : Result (Option (ℕ × Ordering)) SearchFault)
    → IfOk r (IsStartedAt wanted start place) → cut_at 10 start ≡ None → 32 ≤ length start
    → IfOk r (λ o. IsAfter a name place start is_last → LiesAt a name place wanted o)
started_lies a name start place is_last wanted (Ok None) is none some = absurd is
started_lies a name start place is_last wanted (Ok (Some (at, side))) is none some =
    λ follows. (is.0, start_lies wanted a name place start is_last (Some side) follows none some is.1)
started_lies a name start place is_last wanted (Err fault) is none some = tt

pub started_lies_stops : (a : StoreState) (name start : List ℕ) (place : ℕ) (is_last : Bool) (wanted : Wanted)
    (r : Result (Option (ℕ × Ordering)) SearchFault) → IfErr r (λ fault. (fault ≡ BadLine place) × IsStarted wanted start None)
    → cut_at 10 start ≡ None → 32 ≤ length start → IfErr r (λ fault. IsAfter a name place start is_last → LyingStops a name place wanted fault)
started_lies_stops a name start place is_last wanted (Ok o) is none some = tt
started_lies_stops a name start place is_last wanted (Err fault) is none some = λ follows.
    subst (λ (f : SearchFault). LyingStops a name place wanted f) (sym is.0)
    (refl, start_lies wanted a name place start is_last None follows none some is.1)
