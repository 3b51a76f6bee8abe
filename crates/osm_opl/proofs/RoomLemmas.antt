-- What a vector lacks room for: from the parts of a text to the whole.
use Rattle.std.proofs.Common.{◌≡◌, ℕ, zero, suc, ◌+◌, ◌/◌, ◌%◌, ◌^◌, ◌<◌, ◌≤◌, Bool, List, [], ◌∷◌, ◌++◌, length}
use Rattle.std.proofs.Common.{get_or, drop, refl, sym, ap, ◌∙◌, arith, vec_capacity}
use Rattle.std.specs.Prelude.{Vec}
use Rattle.std.specs.Char.{digit_char, encode_utf8}
use Rattle.std.proofs.lemmas.List.{drop_more, length-append}
use Rattle.std.proofs.lemmas.Str.{chars_past_char}
use Rattle.osm_opl.specs.Room.{LacksRoom}
use Rattle.osm_opl.specs.Steps.Writing.{items_left}
use Rattle.osm_opl.specs.Written.{char_text, chars_text, escaped_text, hex_digits, items_text, more_items}
use Rattle.osm_opl.proofs.WrittenLemmas.{HexWritten, ItemsWritten, TextWritten, Writes, comma, item_step}

-- there is no room for a longer text either
pub lacks_longer : {Z : Type 0} (old : Vec ℕ Z) (text after : List ℕ) → LacksRoom old text → LacksRoom old (text ++ after)
lacks_longer old text after h =
    record { less = let p = h.less in let l = length-append text after in omega (arith, l) }

-- the last part, after an append in room that has only grown
pub lacks_after : {Z : Type 0} (old mid : Vec ℕ Z) (first text : List ℕ) → mid.items ≡ old.items ++ first
    → vec_capacity old ≤ vec_capacity mid → LacksRoom mid text → LacksRoom old (first ++ text)
lacks_after old mid first text e le h =
    record {
      less =
          let p = h.less in
          let l = length-append first text in
          let m = ap length e ∙ length-append old.items first in
          omega (arith, l, m);
    }

-- a part of what is left to write, in room that has only grown
pub lacks_part : {Z : Type 0} (old new : Vec ℕ Z) (rest whole part after : List ℕ)
    → Writes old.items new.items rest whole → rest ≡ part ++ after → vec_capacity old ≤ vec_capacity new
    → LacksRoom new part → LacksRoom old whole
lacks_part old new rest whole part after w e le h =
    record {
      less =
          let p = h.less in
          let n = ap length w.written ∙ length-append old.items w.prefix in
          let s = ap length w.same in
          let t = length-append w.prefix rest in
          let r = ap length e ∙ length-append part after in
          omega (arith, n, s, t, r);
    }

-- an item and its comma
pub lacks_item : {X Z : Type 0} (text : X → List ℕ) (old new : Vec ℕ Z) (xs : List X) (is_first : Bool) (i : ℕ) (x : X)
    → ItemsWritten text old.items new.items xs is_first i → i < length xs → x ≡ get_or xs i x
    → vec_capacity old ≤ vec_capacity new → LacksRoom new (comma is_first ++ text x)
    → LacksRoom old (items_text text xs)
lacks_item text old new xs is_first i x h lt is le lacks =
    let more : drop i xs ≡ x ∷ drop (i + 1) xs = drop_more xs i x lt ∙ ap (λ (y : _). y ∷ drop (i + 1) xs) (sym is) in
    let step : items_left text is_first (drop i xs) ≡ (comma is_first ++ text x) ++ more_items text (drop (i + 1) xs) =
    rw more (item_step text is_first x (drop (i + 1) xs)) in
    lacks_part old new (items_left text is_first (drop i xs)) (items_text text xs) (comma is_first ++ text x)
    (more_items text (drop (i + 1) xs)) h.writes step le lacks

-- a character of a text
pub lacks_char : {Z : Type 0} (old new : Vec ℕ Z) (text rest after : List ℕ) (c : ℕ)
    → TextWritten old.items new.items text rest → rest ≡ encode_utf8 c ++ after → vec_capacity old ≤ vec_capacity new
    → LacksRoom new (char_text c) → LacksRoom old (escaped_text text)
unfolding escaped_text
lacks_char old new text rest after c h e le lacks =
    lacks_part old new (escaped_text rest) (escaped_text text) (char_text c) (escaped_text after) h.writes
    (ap chars_text (chars_past_char rest after c h.utf8 e)) le lacks

-- a digit of an escape
pub lacks_digit : {Z : Type 0} (old new : Vec ℕ Z) (code count left : ℕ)
    → HexWritten old.items new.items code count left → 0 < left → vec_capacity old ≤ vec_capacity new
    → vec_capacity new ≤ length new.items → LacksRoom old (hex_digits count code)
unfolding hex_digits
lacks_digit old new code count zero h some le full = absurd (omega arith)
lacks_digit old new code count (suc k) h some le full =
    let digit = digit_char (code / 16 ^ k % 16) in
    lacks_part old new (hex_digits (suc k) code) (hex_digits count code) (digit ∷ []) (hex_digits k code) h.writes refl le (record { less = omega arith })

pub ruleset lacks = (lacks_longer, lacks_after)
