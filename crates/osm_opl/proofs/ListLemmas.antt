-- Items one at a time.
use Rattle.std.proofs.Common.{◌≡◌, ℕ, ◌+◌, ◌<◌, ◌≤◌, true, false, cond, leb, List, [], ◌∷◌, ◌++◌, length, Option}
use Rattle.std.proofs.Common.{Some, None, refl, sym, ap, ◌∙◌, arith, append_assoc}
use Rattle.std.proofs.lemmas.Bool.Decides.{nat_tests}
use Rattle.std.proofs.lemmas.List.{append-nil, length-append}
use Rattle.std.proofs.lemmas.Option.{same_Some}
use Rattle.std.specs.Char.{encode_utf8}
use Rattle.osm_reading.specs.Pieces.{pieces}
use Rattle.osm_opl.specs.Reading.{PassesLimit, text_at, each_at, escape_at, list_at, list_pieces, run_at, runs_at}
use Rattle.osm_reading.specs.Answers.{and_then}
use Rattle.osm_reading.specs.Answers.{Stops}
use Rattle.osm_reading.specs.declared.refusal.Refusal.{Refusal}
use Rattle.osm_reading.specs.declared.refusal.Refusal.TheVariants.{WantOfMemory, Fault}
use Rattle.osm_opl.specs.Steps.Plain.{first_at}
use Rattle.osm_reading.proofs.StepLemmas.{none_then, some_then}

-- what was read so far, followed by what is read from the rest
abbrev pub put_before : {X : Type 0} → List X → Option (List X) → Option (List X)
put_before xs None = None
put_before xs (Some ys) = Some (xs ++ ys)

pub put_before-none : {X : Type 0} (xs : List X) (r : Option (List X)) → r ≡ None → put_before xs r ≡ None
put_before-none xs r e = rw e refl

pub put_before-nothing : {X : Type 0} (r : Option (List X)) → put_before [] r ≡ r
put_before-nothing None = refl
put_before-nothing (Some ys) = refl

-- how far the reading of a list has come
pub record ListRead {X : Type 0} (read : List ℕ → Option X) (all rest : List (List ℕ)) (items : List X) : Type 0 where
  pub same : each_at read all ≡ put_before items (each_at read rest)
  pub count : length all ≡ length items + length rest

each_length : {X : Type 0} (read : List ℕ → Option X) (ps : List (List ℕ)) (xs : List X) → each_at read ps ≡ Some xs → length xs ≡ length ps
each_length read [] xs e = ap length (sym (same_Some [] xs e))
each_length {X} read (p ∷ ps) xs e =
    let a = some_then (read p) (λ (x : X). and_then {A = List X} {B = List X} (each_at read ps) (λ ys. Some (x ∷ ys))) xs e in
    let b = some_then (each_at read ps) (λ (ys : List X). Some (a.0 ∷ ys)) xs a.2 in
    let same : a.0 ∷ b.0 ≡ xs = same_Some (a.0 ∷ b.0) xs b.2 in
    let n : length b.0 ≡ length ps = each_length read ps b.0 b.1 in
    rw (← same) (omega arith)

-- a list whose items are all read
pub list_read : {X : Type 0} (read : List ℕ → Option X) (most : ℕ) (bytes : List ℕ) (items : List X)
    → ListRead read (list_pieces bytes) [] items → length items ≤ most → list_at read most bytes ≡ Some items
unfolding list_at
list_read read most bytes items h short =
    let whole : each_at read (list_pieces bytes) ≡ Some items = h.same ∙ ap (λ (l : List _). Some l) (append-nil items) in
    let t : leb (length items) most ≡ true = grind (arith, nat_tests) in
    rw (whole, t) refl

-- an item that can't be read
pub item_unread : {X : Type 0} (read : List ℕ → Option X) (most : ℕ) (bytes : List ℕ) (left ps : List (List ℕ))
    (items : List X) (p : List ℕ) → ListRead read (list_pieces bytes) left items → left ≡ p ∷ ps → read p ≡ None
    → list_at read most bytes ≡ None
unfolding list_at
item_unread read most bytes left ps items p before is e =
    let h : ListRead read (list_pieces bytes) (p ∷ ps) items = rw is at before in
    let step : each_at read (p ∷ ps) ≡ None = rw e refl in
    let fails : each_at read (list_pieces bytes) ≡ None = h.same ∙ put_before-none items (each_at read (p ∷ ps)) step in
    rw fails refl

pub first_unread : {X : Type 0} (read : List ℕ → Option X) (most : ℕ) (bytes : List ℕ) (left : List (List ℕ))
    (items : List X) → ListRead read (list_pieces bytes) left items → 1 ≤ length left → first_at read left ≡ None
    → list_at read most bytes ≡ None
first_unread read most bytes [] items before some e = absurd (omega arith)
first_unread {X} read most bytes (p ∷ ps) items before some e =
    item_unread read most bytes (p ∷ ps) ps items p before refl (none_then (read p) (λ (x : X). let pair : X × List (List ℕ) = (x, ps) in pair) e)

pub item_fails : {X : Type 0} (read : List ℕ → Option X) (most : ℕ) (bytes : List ℕ) (error : Refusal)
    (left ps : List (List ℕ)) (items : List X) (p : List ℕ) → ListRead read (list_pieces bytes) left items
    → left ≡ p ∷ ps → Stops error (read p) → Stops error (list_at read most bytes)
item_fails read most bytes WantOfMemory left ps items p before is e = tt
item_fails read most bytes (Fault why) left ps items p before is e = item_unread read most bytes left ps items p before is e

-- one item too many
pub item_too_many : {X : Type 0} (read : List ℕ → Option X) (most : ℕ) (bytes : List ℕ) (left : List (List ℕ))
    (items : List X) → ListRead read (list_pieces bytes) left items → 1 ≤ length left → most ≤ length items
    → list_at read most bytes ≡ None
unfolding list_at
item_too_many {X} read most bytes left items h more long = by_option (each_at read (list_pieces bytes)) (λ xs e.
    let n : length xs ≡ length (list_pieces bytes) = each_length read (list_pieces bytes) xs e in
    let m : length (list_pieces bytes) ≡ length items + length left = h.count in omega arith)
  where
    by_option : (r : Option (List X)) → ((xs : List X) → r ≡ Some xs → most < length xs) → and_then r (λ xs. cond (leb (length xs) most) (Some xs) None) ≡ None
    by_option None f = refl
    by_option (Some xs) f = let lt : most < length xs = f xs refl in let t : leb (length xs) most ≡ false = grind (arith, nat_tests) in rw t refl

-- ---- runs and escapes in turn

-- one more run and escape
pub run_read : (before run after text next : List ℕ) (left more : List (List ℕ)) (digits : List ℕ) (c : ℕ)
    (whole : Option (List ℕ)) → whole ≡ put_before before (runs_at left) → left ≡ run ∷ digits ∷ more
    → run_at run ≡ Some after → escape_at digits ≡ Some c → text ≡ before ++ after → next ≡ text ++ encode_utf8 c
    → whole ≡ put_before next (runs_at more)
run_read before run after text next left more digits c whole e is r d t n =
    let step : runs_at (run ∷ digits ∷ more) ≡ and_then (runs_at more) (λ t. Some (after ++ encode_utf8 c ++ t)) = rw (r, d) refl in
    let joined : (after ++ encode_utf8 c) ≡ (after ++ encode_utf8 c) = refl in
    rw (n, t, append_assoc before after (encode_utf8 c), e, is, step) (two_bound before after (encode_utf8 c) (runs_at more))
  where
    two_bound : (xs run c : List ℕ) (r : Option (List ℕ)) → put_before xs (and_then r (λ t. Some (run ++ c ++ t))) ≡ put_before (xs ++ (run ++ c)) r
    two_bound xs run c None = refl
    two_bound xs run c (Some t) = ap (λ (l : List ℕ). Some l) (sym (append_assoc xs (run ++ c) t))

-- ---- texts that are read up to their limit

put_before-twice : {X : Type 0} (a b : List X) (r : Option (List X)) → put_before a (put_before b r) ≡ put_before (a ++ b) r
put_before-twice a b None = refl
put_before-twice {X = X} a b (Some c) = ap (λ (l : List X). Some l) (sym (append_assoc a b c))

-- what is read begins with the first run
run_first : (run r : List ℕ) (ps : List (List ℕ)) → run_at run ≡ Some r → (rest : Option (List ℕ)) × (runs_at (run ∷ ps) ≡ put_before r rest)
run_first run r [] e = (Some [], e ∙ ap (λ (l : List ℕ). Some l) (sym (append-nil r)))
run_first run r (digits ∷ more) e =
    let step : runs_at (run ∷ digits ∷ more) ≡ and_then (escape_at digits) (λ c. and_then (runs_at more) (λ t. Some (r ++ encode_utf8 c ++ t))) = rw e refl in
    let p = by_parts (escape_at digits) (runs_at more) in
    (p.0, step ∙ p.1)
  where
    by_parts : (c : Option ℕ) (t : Option (List ℕ)) → (rest : Option (List ℕ))
        × (and_then c (λ c. and_then t (λ t. Some (r ++ encode_utf8 c ++ t))) ≡ put_before r rest)
    by_parts None t = (None, refl)
    by_parts (Some c) None = (None, refl)
    by_parts (Some c) (Some t) = (Some (encode_utf8 c ++ t), ap (λ (l : List ℕ). Some l) (append_assoc r (encode_utf8 c) t))

-- nothing that begins with more than 1,020 bytes is a text
pub text_long : (bytes start : List ℕ) (rest : Option (List ℕ)) → runs_at (pieces 37 bytes) ≡ put_before start rest → 1020 < length start → text_at bytes ≡ None
unfolding text_at
text_long bytes start None e l = rw e refl
text_long bytes start (Some t) e l =
    let t : leb (length (start ++ t)) 1020 ≡ false = grind (arith, nat_tests, length-append {A = ℕ}) in
    rw (e, t) refl

pub text_none : (bytes start : List ℕ) (left : List (List ℕ)) → runs_at (pieces 37 bytes) ≡ put_before start
    (runs_at left) → runs_at left ≡ None → text_at bytes ≡ None
unfolding text_at
text_none bytes start left e n = rw (e, n) refl

pub text_whole : (bytes start text run r : List ℕ) (left : List (List ℕ)) → runs_at (pieces 37 bytes) ≡ put_before start
    (runs_at left) → left ≡ run ∷ [] → run_at run ≡ Some r → text ≡ start ++ r → length text ≤ 1020
    → text_at bytes ≡ Some text
unfolding text_at
text_whole bytes start text run r left e only is t short =
    let f : leb (length (start ++ r)) 1020 ≡ true = rw t at (let f : leb (length text) 1020 ≡ true = grind (arith, nat_tests) in f) in
    rw (e, only, is, f, t) refl

-- a run that can't be read, and one that passes the limit
pub run_none : (bytes start run : List ℕ) (left ps : List (List ℕ)) → runs_at (pieces 37 bytes) ≡ put_before start
    (runs_at left) → left ≡ run ∷ ps → run_at run ≡ None → text_at bytes ≡ None
run_none bytes start run left ps e is none = text_none bytes start left e (rw is (by_rest ps))
  where
    by_rest : (ps : List (List ℕ)) → runs_at (run ∷ ps) ≡ None
    by_rest [] = none
    by_rest (digits ∷ []) = rw none refl
    by_rest (digits ∷ p ∷ more) = rw none refl

pub run_long : (bytes start run r : List ℕ) (left ps : List (List ℕ)) (error : Refusal) → runs_at (pieces 37 bytes) ≡
    put_before start (runs_at left) → left ≡ run ∷ ps → run_at run ≡ Some r → PassesLimit (start ++ r) error
    → Stops error (text_at bytes)
run_long bytes start run r left ps WantOfMemory e is read long = tt
run_long bytes start run r left ps (Fault why) e is read long =
    let f = run_first run r ps read in
    let whole : runs_at (pieces 37 bytes) ≡ put_before (start ++ r) f.0 =
    e ∙ ap (λ (l : List (List ℕ)). put_before start (runs_at l)) is ∙ ap (put_before start) f.1
    ∙ put_before-twice start r f.0 in
    text_long bytes (start ++ r) f.0 whole long

-- an escape that can't be read, or that has no end, and one that passes the limit
pub escape_open : (bytes start run digits : List ℕ) (left : List (List ℕ)) → runs_at (pieces 37 bytes) ≡
    put_before start (runs_at left) → left ≡ run ∷ digits ∷ [] → text_at bytes ≡ None
escape_open bytes start run digits left e is = text_none bytes start left e (rw is (by_parts (run_at run) (escape_at digits)))
  where
    by_parts : (r : Option (List ℕ)) (c : Option ℕ) → and_then r (λ r. and_then c (λ c. and_then (runs_at []) (λ t. Some (r ++ encode_utf8 c ++ t)))) ≡ None
    by_parts None c = refl
    by_parts (Some r) None = refl
    by_parts (Some r) (Some c) = refl

pub escape_none : (bytes start run digits : List ℕ) (left more : List (List ℕ)) → runs_at (pieces 37 bytes) ≡
    put_before start (runs_at left) → left ≡ run ∷ digits ∷ more → escape_at digits ≡ None → text_at bytes ≡ None
escape_none bytes start run digits left more e is none = text_none bytes start left e (rw (is, none) (by_run (run_at run)))
  where
    by_run : (r : Option (List ℕ)) → and_then r (λ r. and_then None (λ c. and_then (runs_at more) (λ t. Some (r ++ encode_utf8 c ++ t)))) ≡ None
    by_run None = refl
    by_run (Some r) = refl

pub char_long : (bytes next : List ℕ) (rest : Option (List ℕ)) (error : Refusal) → runs_at (pieces 37 bytes) ≡
    put_before next rest → PassesLimit next error → Stops error (text_at bytes)
char_long bytes next rest WantOfMemory e long = tt
char_long bytes next rest (Fault why) e long = text_long bytes next rest e long
