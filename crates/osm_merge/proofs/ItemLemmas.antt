-- A list of a known file, read line by line while changes are laid over it.
use Rattle.std.proofs.Common.{◌≡◌, ℕ, ◌<◌, List, refl}
use Rattle.std.proofs.Common.{ap, Some, None, Option}
use Rattle.std.proofs.lemmas.Option.{same_Some}
use Rattle.osm_reading.specs.Pieces.{cut_at}
use Rattle.osm_reading.specs.Answers.{and_then}
use Rattle.osm_save.specs.Reading.{items_at}
use Rattle.osm_save.proofs.ItemLemmas.{Items, items_cut, items_wrong}
use Rattle.osm_merge.specs.Laying.{next_at}

-- the next line and its value
pub next_parts : {X K : Type 0} (item : Option K → List ℕ → Option X) (last : Option K) (bytes after : List ℕ) (x : X)
    → next_at item last bytes ≡ Some (x, after)
    → (line : List ℕ) × (◌≡◌ {A = Option (List ℕ × List ℕ)} (cut_at 10 bytes) (Some (line, after))) × (item last line ≡ Some x)
unfolding next_at
next_parts {X} {K} item last bytes after x e = by_cut (cut_at 10 bytes) e
  where
    by_item : (line rest : List ℕ) (o : Option X) → item last line ≡ o → and_then {A = X} {B = X × List ℕ} o (λ y. Some (y, rest)) ≡ Some (x, after)
        → (l : List ℕ) × (◌≡◌ {A = Option (List ℕ × List ℕ)} (Some (line, rest)) (Some (l, after))) × (item last l ≡ Some x)
    by_item line rest None is e = absurd cc
    by_item line rest (Some y) is e =
        let both : ◌≡◌ {A = X × List ℕ} (y, rest) (x, after) = same_Some (y, rest) (x, after) e in
        let value : y ≡ x = ap (λ (p : X × List ℕ). p.0) both in
        let left : rest ≡ after = ap (λ (p : X × List ℕ). p.1) both in
        (line, rw left refl, rw (← value) is)

    by_cut : (o : Option (List ℕ × List ℕ)) → and_then {A = List ℕ × List ℕ} {B = X × List ℕ} o
        (λ l. and_then {A = X} {B = X × List ℕ} (item last l.0) (λ y. Some (y, l.1))) ≡ Some (x, after)
        → (l : List ℕ) × (◌≡◌ {A = Option (List ℕ × List ℕ)} o (Some (l, after))) × (item last l ≡ Some x)
    by_cut None e = absurd cc
    by_cut (Some l) e = by_item l.0 l.1 (item last l.0) refl e

-- where a line can't be read, the list can't be
pub items_stop : {X K : Type 0} (key : X → K) (item : Option K → List ℕ → Option X) (many : ℕ) (bytes : List ℕ) (i : ℕ) (xs : List X)
    (last : Option K) (rest : List ℕ) → i < many → Items key item many bytes i xs last rest → next_at item last rest ≡ None
    → items_at key item many None bytes ≡ None
unfolding next_at
items_stop {X} {K} key item many bytes i xs last rest lt h e = by_cut (cut_at 10 rest) refl e
  where
    by_item : (line after : List ℕ) (o : Option X) → cut_at 10 rest ≡ Some (line, after) → item last line ≡ o
        → and_then {A = X} {B = X × List ℕ} o (λ y. Some (y, after)) ≡ None → items_at key item many None bytes ≡ None
    by_item line after None cut is e = items_wrong key item many bytes i xs last rest line after lt h cut is
    by_item line after (Some y) cut is e = absurd cc

    by_cut : (o : Option (List ℕ × List ℕ)) → cut_at 10 rest ≡ o
        → and_then {A = List ℕ × List ℕ} {B = X × List ℕ} o (λ l. and_then {A = X} {B = X × List ℕ} (item last l.0) (λ y. Some (y, l.1))) ≡ None
        → items_at key item many None bytes ≡ None
    by_cut None cut e = items_cut key item many bytes i xs last rest lt h cut
    by_cut (Some l) cut e = by_item l.0 l.1 (item last l.0) cut refl e
