-- Trimming from the end, and the last value of a key, one line at a time.
use Rattle.std.proofs.Common.{◌≡◌, ℕ, List, [], ◌∷◌, ◌++◌, true, false, refl, sym, ap, ◌∙◌, ◌+◌, take, drop}
use Rattle.std.specs.Prelude.{Option, Some, None, ◌==◌}
use Rattle.std.specs.Borrow.{Bor}
use Rattle.std.specs.List.{position}
use Rattle.std.specs.Option.{option_or, option_copied}
use Rattle.osm_reading.specs.Lines.{lines_after}
use Rattle.osm_state.specs.Properties.{is_note, trimmed, last_value, value_at, value_of, entry_of}

pub entry_of_note : (line : List ℕ) → is_note line ≡ true → entry_of line ≡ None
unfolding entry_of
entry_of_note line e = rw e refl

pub entry_of_none : (line : List ℕ) → is_note line ≡ false → position (λ b. b == 61) line ≡ None → entry_of line ≡ None
unfolding entry_of
entry_of_none line e p = rw (e, p) refl

pub entry_of_some : (line : List ℕ) (i : ℕ) → is_note line ≡ false → position (λ b. b == 61) line ≡ Some i
    → entry_of line ≡ Some (trimmed (take i line), trimmed (drop (i + 1) line))
unfolding entry_of
entry_of_some line i e p = rw (e, p) refl

-- the key and the value of a line, by its cases
pub ruleset entries = (entry_of_note, entry_of_none, entry_of_some)

or_none : (v : Option (List ℕ)) → option_or v None ≡ v
or_none None = refl
or_none (Some x) = refl

or_assoc : (u v w : Option (List ℕ)) → option_or (option_or u v) w ≡ option_or u (option_or v w)
or_assoc None v w = refl
or_assoc (Some x) v w = refl

copied_or : (a b : Option (Bor (List ℕ))) → option_copied (option_or a b) ≡ option_or (option_copied a) (option_copied b)
copied_or None b = refl
copied_or (Some x) b = refl

-- before the first line
pub no_value : (v : Option (List ℕ)) → v ≡ option_or v None
no_value v = sym (or_none v)

-- one more line
pub keeps_last : (key text line : List ℕ) (lines more : List (List ℕ)) (before found after : Option (Bor (List ℕ)))
    (entry : Option (List ℕ × List ℕ)) → value_of text key ≡ option_or (last_value key lines) (option_copied before)
    → lines ≡ line ∷ more → entry ≡ entry_of line → option_copied found ≡ value_at key entry
    → after ≡ option_or found before → value_of text key ≡ option_or (last_value key more) (option_copied after)
unfolding last_value
keeps_last key text line lines more before found after entry b l e f a =
    let next : option_copied after ≡ option_or (value_at key (entry_of line)) (option_copied before) =
    ap option_copied a ∙ (copied_or found before ∙ rw (f, e) refl) in
    b ∙ (ap (λ ls. option_or (last_value key ls) (option_copied before)) l
    ∙ (or_assoc (last_value key more) (value_at key (entry_of line)) (option_copied before)
    ∙ ap (option_or (last_value key more)) (sym next)))

-- after the last line
pub after_last : (key text : List ℕ) (rest : Option (Bor (List ℕ))) (v : Option (List ℕ)) → rest ≡ None
    → value_of text key ≡ option_or (last_value key (lines_after rest)) v → v ≡ value_of text key
unfolding last_value
after_last key text rest v e h = sym (h ∙ ap (λ r. option_or (last_value key (lines_after r)) v) e)
