-- Calls of a store that come one after the other, by how many are ahead.
use Rattle.std.proofs.Common.{◌≡◌, ℕ, ◌+◌, ◌*◌, ◌<◌, ◌≤◌, Bool, true, false, List, [], ◌∷◌, ◌++◌}
use Rattle.std.proofs.Common.{length, drop, Option, Some, None, refl, sym, ap, subst, ◌∙◌, arith}
use Rattle.std.proofs.Common.{length-append}
use Rattle.std.specs.Prelude.{Err, Ok, Result, codes, decimal, if◌then◌else◌}
use Rattle.osm_store.specs.Frames.{IsKnown, MakesAtMost, StoreState}
use Rattle.std.proofs.lemmas.Option.{same_Some}
use Rattle.osm_store.proofs.FrameLemmas.{fewer_more}
use Rattle.osm_blocks.specs.Calls.{Advances, blocks_after_first, blocks_in, puts_of, reads_ahead}
use Rattle.osm_blocks.specs.Frames as blocks
use Rattle.osm_blocks.specs.declared.fault.BlockFault.{BlockFault}
use Rattle.osm_blocks.specs.declared.fault.BlockFault.TheVariants as causes
use Rattle.osm_blocks.specs.Places.{Opens, Place, left_of}
use Rattle.osm_blocks.specs.Writing.{Waiting}
use Rattle.osm_blocks.proofs.CallLemmas.{at_most_of, down_lacks, down_none, down_of, down_then, opened_ahead}
use Rattle.osm_reading.specs.Pieces.{cut_at}
use Rattle.osm_reading.proofs.PieceLemmas.{cut_takes}
use Rattle.osm_save.specs.Reading.{numbered_at}
use Rattle.osm_save.proofs.LineLemmas.{TakesNumbered, numbered_takes}
use Rattle.osm_merge.specs.Calls.{bytes_in, calls_ahead, check_calls, puts_ahead}
use Rattle.osm_merge.specs.Faults.{IsBadLine, IsCausedBy, IsDeviceFault, IsOfText}
use Rattle.osm_merge.specs.Laying.{next_at}
use Rattle.osm_merge.specs.Mirrors.{end_at}
use Rattle.osm_merge.specs.Opening.{ReadsOpening}
use Rattle.osm_merge.specs.declared.fault.MergeFault.{MergeFault}
use Rattle.osm_merge.specs.declared.fault.MergeFault.TheVariants.{BadSave, Changed, LongLine, NoSave, ReadFault, TooLarge, WantOfMemory, WriteFault}
use Rattle.osm_merge.specs.declared.opening.Opening.{Opening}
use Rattle.osm_merge.proofs.ItemLemmas.{next_parts}
use Rattle.osm_merge.proofs.LineLemmas.{fixed_none}
use Rattle.osm_merge.proofs.ListLemmas.{end_none}

-- ---- one call after the other

pub advances_then : {T U V E : Type 0} {blames : E → Type 0} {b c : ℕ} {f : T → ℕ} {g : U → ℕ} (t : ℕ) (h : V → ℕ) (k m n : StoreState) (x : T) (y : U) (z : V)
    → Advances blames b f k m (Ok x) → Advances blames c g m n (Ok y) → b + c + h z ≤ t + f x + g y → Advances blames t h k n (Ok z)
advances_then {b = b} {c = c} {f = f} {g = g} t h k m n x y z p q e = record {
  spent = down_then b (f x) c (g y) t (h z) k.left m.left n.left e p.spent q.spent;
  lacks = tt;
}

pub advances_fails : {T U V E : Type 0} {blames : E → Type 0} {b c : ℕ} {f : T → ℕ} {g : U → ℕ} (t : ℕ) (h : V → ℕ) (k m n : StoreState) (x : T) (fault : E)
    → Advances blames b f k m (Ok x) → Advances blames c g m n (Err fault) → b + c ≤ t + f x → Advances blames t h k n (Err fault)
advances_fails {b = b} {c = c} {f = f} t h k m n x fault p q e = record {
  spent = tt;
  lacks = λ blame. down_lacks b (f x) c t k.left m.left e p.spent (q.lacks blame);
}

-- the same calls, in a longer one that fails
pub advances_first : {T U E : Type 0} {blames : E → Type 0} {b : ℕ} {f : T → ℕ} (t : ℕ) (h : U → ℕ) (k m : StoreState) (fault : E)
    → Advances blames b f k m (Err fault) → b ≤ t → Advances blames t h k m (Err fault)
advances_first {b = b} t h k m fault p e = record {
  spent = tt;
  lacks = λ blame. down_lacks b b b t k.left k.left (omega (arith, e)) (down_none b k.left) (p.lacks blame);
}

-- calls of which only the most are known
pub advances_of : {T E : Type 0} {blames : E → Type 0} (most : ℕ) (k m : StoreState) (r : Result T E) → IsKnown k → MakesAtMost blames most k m r
    → Advances blames most (λ _. 0) k m r
advances_of most k m (Ok x) known p = record { spent = down_of most k.left m.left p.spent; lacks = tt }
advances_of most k m (Err fault) known p = record { spent = tt; lacks = λ blame. p.lacks known blame }

pub at_most : {T E : Type 0} {blames : E → Type 0} {b : ℕ} {f : T → ℕ} (most : ℕ) (k m : StoreState) (r : Result T E) → Advances blames b f k m r → b ≤ most
    → MakesAtMost blames most k m r
at_most {b = b} {f = f} most k m (Ok x) p e = record { spent = at_most_of b (f x) most k.left m.left (omega (arith, e)) p.spent; lacks = tt }
at_most {b = b} most k m (Err fault) p e = record {
  spent = tt;
  lacks = λ known blame. down_lacks b b b most k.left k.left (omega (arith, e)) (down_none b k.left) (p.lacks blame);
}

-- a file that is read in blocks blames the device where the merge does
pub blames_device : (e : BlockFault) (fault : MergeFault) → IsCausedBy e fault → IsDeviceFault fault → blocks.IsDeviceFault e
blames_device causes.Device fault is blame = tt
blames_device causes.LongLine fault is blame = rw is at blame
blames_device causes.TooLarge fault is blame = rw is at blame
blames_device causes.WantOfMemory fault is blame = rw is at blame

-- a bad line blames no device
pub bad_blames : {P : Type 0} (fault : MergeFault) → IsBadLine fault → IsDeviceFault fault → P
bad_blames (BadSave line) bad blame = absurd blame
bad_blames LongLine bad blame = absurd bad
bad_blames TooLarge bad blame = absurd bad
bad_blames NoSave bad blame = absurd bad
bad_blames Changed bad blame = absurd bad
bad_blames ReadFault bad blame = absurd bad
bad_blames WriteFault bad blame = absurd bad
bad_blames WantOfMemory bad blame = absurd bad

-- a text blames no device
pub text_blames : {P : Type 0} (fault : MergeFault) → IsOfText fault → IsDeviceFault fault → P
text_blames (BadSave line) of_text blame = absurd blame
text_blames LongLine of_text blame = absurd blame
text_blames TooLarge of_text blame = absurd of_text
text_blames NoSave of_text blame = absurd of_text
text_blames Changed of_text blame = absurd of_text
text_blames ReadFault of_text blame = absurd of_text
text_blames WriteFault of_text blame = absurd of_text
text_blames WantOfMemory of_text blame = absurd of_text

-- ---- a line that was passed pays for an append

pub cut_shorter : (s : ℕ) (bytes line after : List ℕ) → cut_at s bytes ≡ Some (line, after) → length after < length bytes
cut_shorter s bytes line after e =
    let parts : length bytes ≡ length (line ++ s ∷ after) = ap length (cut_takes s bytes line after e) in
    let both : length (line ++ s ∷ after) ≡ length line + length (s ∷ after) = length-append line (s ∷ after) in
    omega (arith, parts, both)

pub numbered_shorter : (word : List ℕ) (most : ℕ) (bytes : List ℕ) (n : ℕ) (rest : List ℕ) → numbered_at word most bytes ≡ Some (n, rest)
    → length rest < length bytes
numbered_shorter word most bytes n rest e =
    let t : TakesNumbered word most bytes n rest = numbered_takes word most bytes (n, rest) e in
    let parts : length bytes ≡ length ((word ++ decimal n) ++ 10 ∷ rest) = ap length t.text in
    let both : length ((word ++ decimal n) ++ 10 ∷ rest) ≡ length (word ++ decimal n) + length (10 ∷ rest) = length-append (word ++ decimal n) (10 ∷ rest) in
    omega (arith, parts, both)

pub next_shorter : {X K : Type 0} (item : Option K → List ℕ → Option X) (last : Option K) (bytes after : List ℕ) (x : X)
    → next_at item last bytes ≡ Some (x, after)
    → length after < length bytes
next_shorter item last bytes after x e =
    let p = next_parts item last bytes after x e in
    cut_shorter 10 bytes p.0 after p.1

nothing_cut : cut_at 10 [] ≡ None
unfolding cut_at
nothing_cut = refl

pub end_some : (bytes : List ℕ) → end_at bytes ≡ Some tt → 0 < length bytes
end_some [] e =
    let none : end_at [] ≡ None = end_none [] (fixed_none (codes "end") [] nothing_cut) in
    let bad : None ≡ Some tt = sym none ∙ e in absurd cc
end_some (b ∷ bs) e = omega arith

pub line_pays : (w : Waiting) (old new : Place) (file : List ℕ) → length (left_of new file) < length (left_of old file)
    → puts_of w + puts_ahead w new file ≤ puts_ahead w old file
line_pays w old new file fewer = by_case w.is_writing
  where
    by_case : (t : Bool) → (if t then 1 else 0) + (if t then length (left_of new file) else 0) ≤ (if t then length (left_of old file) else 0)
    by_case true = omega (arith, fewer)
    by_case false = omega arith

pub end_pays : (w : Waiting) (place : Place) (file : List ℕ) → 0 < length (left_of place file) → puts_of w ≤ puts_ahead w place file
end_pays w place file some = by_case w.is_writing
  where
    by_case : (t : Bool) → (if t then 1 else 0) ≤ (if t then length (left_of place file) else 0)
    by_case true = omega (arith, some)
    by_case false = omega arith

-- ---- lists

-- a writer that writes as another has as many calls ahead
pub same_puts : (w v : Waiting) → v.is_writing ≡ w.is_writing → puts_of v ≡ puts_of w
same_puts w v keeps = ap (λ (t : Bool). if t then 1 else 0) keeps

pub same_ahead : (w v : Waiting) (place : Place) (file : List ℕ) → v.is_writing ≡ w.is_writing → puts_ahead v place file ≡ puts_ahead w place file
same_ahead w v place file keeps = ap (λ (t : Bool). if t then length (left_of place file) else 0) keeps

-- ---- a file that was opened

pub opening_ahead : (old new : Place) (o : Opening) (file : List ℕ) → Opens (Some old) (Some file) → ReadsOpening old new o
    → reads_ahead new file + 1 ≤ check_calls (length file)
opening_ahead old new o file opens reads =
    let same : opens.0 ≡ file = sym (same_Some file opens.0 opens.1) in
    let ahead : blocks_in (length (drop old.from file)) ≡ blocks_after_first (length file) =
    subst (λ (l : List ℕ). blocks_in (length (drop old.from l)) ≡ blocks_after_first (length l)) same (opened_ahead old opens.0 opens.2 opens.3) in
    rw reads.passed (omega (arith, ahead))

-- ---- passes

-- a writer that drops all bytes has no calls ahead
pub drops_nothing : (w : Waiting) (place : Place) (file : List ℕ) → w ≡ record { bytes = []; is_writing = false }
    → (puts_of w ≡ 0) × (puts_ahead w place file ≡ 0)
drops_nothing w place file is = (ap puts_of is, ap (λ (v : Waiting). puts_ahead v place file) is)

-- a check: the file was opened, and all of its lists were read
module _ {T E : Type 0} {blames : E → Type 0} (told : Option (List ℕ)) (file : List ℕ) (w : Waiting) (place : Place) (a b c : StoreState) (x : T)
    (there : told ≡ Some file) (known : IsKnown a)
    (first : MakesAtMost {T = T} {E = E} blames 1 a b (Ok x)) (ahead : reads_ahead place file + 1 ≤ check_calls (length file))
    (drops : w ≡ record { bytes = []; is_writing = false }) where
  told_calls : check_calls (bytes_in told) ≡ check_calls (length file)
  told_calls = ap (λ (o : Option (List ℕ)). check_calls (bytes_in o)) there

  pub check_done : {U V : Type 0} (y : U) (z : V) → Advances blames (calls_ahead w place file + 3 * puts_of w) (λ _. 0) b c (Ok y)
      → MakesAtMost blames (check_calls (bytes_in told)) a c (Ok z)
  check_done {U} {V} y z rest =
      let none = drops_nothing w place file drops in
      at_most (check_calls (bytes_in told)) a c (Ok z) (advances_then {V = V} (check_calls (length file)) (λ _. 0) a b c x y z
      (advances_of 1 a b (Ok x) known first) rest
      (omega (arith, ahead, none.0, none.1))) (omega (arith, told_calls))

  pub check_fails : {U V : Type 0} (fault : E) → Advances {T = U} blames (calls_ahead w place file + 3 * puts_of w) (λ _. 0) b c (Err fault)
      → MakesAtMost {T = V} blames (check_calls (bytes_in told)) a c (Err fault)
  check_fails {U} {V} fault rest =
      let none = drops_nothing w place file drops in
      at_most (check_calls (bytes_in told)) a c (Err fault) (advances_fails {V = V} (check_calls (length file)) (λ _. 0) a b c x fault
      (advances_of 1 a b (Ok x) known first) rest
      (omega (arith, ahead, none.0, none.1))) (omega (arith, told_calls))

-- a count: the file was opened, and its lists were counted
module _ {T E : Type 0} {blames : E → Type 0} (told : Option (List ℕ)) (file : List ℕ) (place : Place) (a b c : StoreState) (x : T)
    (there : told ≡ Some file) (known : IsKnown a)
    (first : MakesAtMost {T = T} {E = E} blames 1 a b (Ok x)) (ahead : reads_ahead place file + 1 ≤ check_calls (length file)) where
  told_as : check_calls (bytes_in told) ≡ check_calls (length file)
  told_as = ap (λ (o : Option (List ℕ)). check_calls (bytes_in o)) there

  pub count_done : {U V : Type 0} (y : U) (z : V) → Advances blames (reads_ahead place file) (λ _. 0) b c (Ok y)
      → MakesAtMost blames (check_calls (bytes_in told)) a c (Ok z)
  count_done {U} {V} y z rest =
      at_most (check_calls (bytes_in told)) a c (Ok z) (advances_then {V = V} (check_calls (length file)) (λ _. 0) a b c x y z
      (advances_of 1 a b (Ok x) known first) rest (omega (arith, ahead))) (omega (arith, told_as))

  pub count_fails : {U V : Type 0} (fault : E) → Advances {T = U} blames (reads_ahead place file) (λ _. 0) b c (Err fault)
      → MakesAtMost {T = V} blames (check_calls (bytes_in told)) a c (Err fault)
  count_fails {U} {V} fault rest =
      at_most (check_calls (bytes_in told)) a c (Err fault) (advances_fails {V = V} (check_calls (length file)) (λ _. 0) a b c x fault
      (advances_of 1 a b (Ok x) known first) rest (omega (arith, ahead))) (omega (arith, told_as))

-- the file isn't opened
pub unopened : {T U E : Type 0} {blames : E → Type 0} (most : ℕ) (a b : StoreState) (fault : E) → MakesAtMost {T = T} blames 1 a b (Err fault) → 1 ≤ most
    → MakesAtMost {T = U} blames most a b (Err fault)
unopened most a b fault first e = record { spent = tt; lacks = λ known blame. fewer_more 1 most a.left e (first.lacks known blame) }

-- examples: no bytes, a first block, and one more block for each 128 KiB begun after it
nothing : check_calls 0 ≡ 2
unfolding blocks_in
nothing = refl

first_block : check_calls 1048576 ≡ 2
unfolding blocks_in
first_block = refl

one_byte_more : check_calls 1048577 ≡ 3
unfolding blocks_in
one_byte_more = refl

two_mebibytes : check_calls 2097152 ≡ 10
unfolding blocks_in
two_mebibytes = refl
