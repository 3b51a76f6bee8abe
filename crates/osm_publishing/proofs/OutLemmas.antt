-- The call at which a store stopped: how many were left tells which file.
use Rattle.std.proofs.Common.{◌≡◌, ◌==◌, ℕ, ◌+◌, ◌≤◌, List, Option, None, Some, inl, inr, Bool, true, false, arith, ap, refl, subst, sym, ◌∙◌}
use Rattle.std.specs.Prelude.{◌⊎◌, if◌then◌else◌}
use Rattle.std.proofs.lemmas.Bool.Decides.{nat_tests}
use Rattle.std.proofs.lemmas.Option.{same_Some}
use Rattle.osm_reading.specs.Sequence.{SpellsSequence}
use Rattle.osm_store.specs.Files.{Files, Spends, SpendsAtMost}
use Rattle.osm_runs.specs.Names.{top_name_of}
use Rattle.osm_publishing.specs.Numbered.{NumberedOut, SpendsExactly, calls_before, numbered_calls}
use Rattle.osm_publishing.specs.Publication.{GoesOnFrom, PublishOut}
use Rattle.osm_runs.specs.Runs.{IsDeviceFault, LacksCalls}
use Rattle.osm_publishing.specs.Steps.Numbering.{check_calls}
use Rattle.osm_publishing.specs.Steps.Publishing.{CloseStops, WritesOut}
use Rattle.osm_publisher.specs.Publisher.{PublisherValue}
use Rattle.osm_runs.specs.declared.fault.RunFault.{RunFault}
use Rattle.osm_runs.specs.declared.fault.RunFault.TheVariants.{ReadFault, WriteFault}
use Rattle.osm_store.proofs.FileLemmas.{spends_both}
use Rattle.osm_store.proofs.FrameLemmas.{most_both}

-- how many calls were left before so many
pub left_before : (calls count : ℕ) (a b : Option ℕ) → Spends calls a b → SpendsAtMost calls a b → b ≡ Some count → a ≡ Some (calls + count)
left_before calls count None b least most e = absurd (let none : b ≡ None = least in cc)
left_before calls count (Some n) b (m, is, few) (k, at, more) e =
    let same : m ≡ count = same_Some m count (sym is ∙ e) in
    let also : k ≡ count = same_Some k count (sym at ∙ e) in
    ap (λ (x : ℕ). Some x) (omega (arith, same, also, few, more))

-- ---- one call after so many

pub close_without_device : (p : PublisherValue) (time : ℕ) (fault : RunFault) → CloseStops p time fault → IsDeviceFault fault → ⊥
close_without_device p time (ReadFault file) stops blame = absurd stops
close_without_device p time (WriteFault file) stops blame = absurd stops
close_without_device p time fault stops blame = blame

-- ---- a whole publication

pub writes_publish_out : (dir : List ℕ) (files : Files) (top time : ℕ) (a b : Option ℕ) (fault : RunFault)
    → GoesOnFrom (files (top_name_of dir)) top time → Spends 2 a b → SpendsAtMost 2 a b → WritesOut (top + 1) b fault
    → PublishOut dir files a fault
writes_publish_out dir files top time a b (ReadFault file) goes_on least most out = absurd out
writes_publish_out dir files top time a b (WriteFault file) goes_on least most (count, few, left, is) =
    (top, time, count, goes_on, few, left_before 2 count a b least most left, is)
writes_publish_out dir files top time a b fault goes_on least most out = tt

calls_before_is : (number top : ℕ) → 2 + check_calls number top ≡ calls_before number top
calls_before_is number top = by_case (number == top + 1)
  where
    by_case : (next : Bool) → 2 + (if next then 0 else 3) ≡ (if next then 2 else 5)
    by_case true = refl
    by_case false = refl

spends_sum : (i j : ℕ) (a b c : Option ℕ) → SpendsExactly i a b → SpendsExactly j b c → SpendsExactly (i + j) a c
spends_sum i j a b c x y = (spends_both i j (i + j) a b c (omega arith) x.0 y.0, most_both i j (i + j) a b c (omega arith) x.1 y.1)

-- the calls before the first write
pub calls_before_write : (number top : ℕ) (a b c : Option ℕ) → SpendsExactly 2 a b
    → SpendsExactly (check_calls number top) b c → SpendsExactly (calls_before number top) a c
calls_before_write number top a b c x y =
    subst (λ k. SpendsExactly k a c) (calls_before_is number top) (spends_sum 2 (check_calls number top) a b c x y)

pub writes_numbered_out : (dir sequence : List ℕ) (files : Files) (number top time : ℕ) (a b : Option ℕ)
    (fault : RunFault) → SpellsSequence sequence number → GoesOnFrom (files (top_name_of dir)) top time
    → SpendsExactly (calls_before number top) a b → WritesOut number b fault → NumberedOut dir sequence files a fault
writes_numbered_out dir sequence files number top time a b (ReadFault file) spelled goes_on exact out = absurd out
writes_numbered_out dir sequence files number top time a b (WriteFault file) spelled goes_on exact (count, few, left, is) =
    (number, top, time, count, spelled, goes_on, few, left_before (calls_before number top) count a b exact.0 exact.1 left, is)
writes_numbered_out dir sequence files number top time a b fault spelled goes_on exact out = tt

-- ---- how many calls

before_most : (number top : ℕ) → calls_before number top ≤ 5
before_most number top = by_case (number == top + 1)
  where
    by_case : (next : Bool) → (if next then 2 else 5) ≤ 5
    by_case true = omega arith
    by_case false = omega arith

-- at most eight calls come before the one that fails
pub out_lacks : (dir sequence : List ℕ) (files : Files) (a : Option ℕ) (fault : RunFault) → NumberedOut dir sequence files a fault → LacksCalls 9 a fault
out_lacks dir sequence files a (ReadFault file) (number, count, spelled, few, left, is) = λ blame. rw left (omega arith)
out_lacks dir sequence files a (WriteFault file) (number, top, time, count, spelled, goes_on, few, left, is) =
    let most = before_most number top in λ blame. rw left (omega (arith, most))
out_lacks dir sequence files a fault out = λ blame. absurd blame

-- the calls of a publication that writes, and of one that doesn't
pub writing_calls : (number top : ℕ) (a b c : Option ℕ) → (number ≡ top + 1) ⊎ (number ≡ top)
    → SpendsExactly (calls_before number top) a b → SpendsExactly 4 b c → SpendsExactly (numbered_calls number top) a c
writing_calls number top a b c (inl next) x y =
    let t : (number == top + 1) ≡ true = grind (arith, nat_tests) in
    let before : calls_before number top ≡ 2 = rw t refl in
    let all : numbered_calls number top ≡ 6 = rw t refl in
    rw all (spends_sum 2 4 a b c (rw before at x) y)
writing_calls number top a b c (inr newest) x y =
    let t : (number == top + 1) ≡ false = grind (arith, nat_tests) in
    let u : (number == top) ≡ true = grind (arith, nat_tests) in
    let before : calls_before number top ≡ 5 = rw t refl in
    let all : numbered_calls number top ≡ 9 = rw (t, u) refl in
    rw all (spends_sum 5 4 a b c (rw before at x) y)
