-- A time's text is text.
use Rattle.std.proofs.Common.{ℕ, zero, suc, ◌/◌, ◌<◌, List, [], ◌∷◌, ◌++◌, arith}
use Rattle.std.proofs.lemmas.Str.{IsUtf8-from_ascii}
use Rattle.std.specs.Prelude.{IsAscii, IsUtf8}
use Rattle.osm_model.specs.CivilTime.{moment_at, time_text}
use Rattle.osm_model.specs.Time.{Moment, four_digits, last_digit, moment_text, two_digits}

ascii_none : IsAscii []
ascii_none i = omega arith

ascii_more : (b : ℕ) (bs : List ℕ) → b < 128 → IsAscii bs → IsAscii (b ∷ bs)
ascii_more b bs low rest zero = low
ascii_more b bs low rest (suc i) = rest i

ascii_digit : (n : ℕ) (bs : List ℕ) → IsAscii bs → IsAscii (last_digit n ∷ bs)
ascii_digit n bs rest = ascii_more (last_digit n) bs (omega arith) rest

ascii_two : (n : ℕ) (bs : List ℕ) → IsAscii bs → IsAscii (two_digits n ++ bs)
ascii_two n bs rest = ascii_digit (n / 10) (last_digit n ∷ bs) (ascii_digit n bs rest)

ascii_four : (n : ℕ) (bs : List ℕ) → IsAscii bs → IsAscii (four_digits n ++ bs)
ascii_four n bs rest =
    ascii_digit (n / 1000) (last_digit (n / 100) ∷ last_digit (n / 10) ∷ last_digit n ∷ bs)
    (ascii_digit (n / 100) (last_digit (n / 10) ∷ last_digit n ∷ bs) (ascii_digit (n / 10) (last_digit n ∷ bs) (ascii_digit n bs rest)))

moment_is_ascii : (m : Moment) → IsAscii (moment_text m)
moment_is_ascii m =
    let second : IsAscii (two_digits m.second ++ 90 ∷ []) = ascii_two m.second (90 ∷ []) (ascii_more 90 [] (omega arith) ascii_none) in
    let minute : IsAscii (two_digits m.minute ++ 58 ∷ two_digits m.second ++ 90 ∷ []) =
    ascii_two m.minute (58 ∷ two_digits m.second ++ 90 ∷ []) (ascii_more 58 (two_digits m.second ++ 90 ∷ []) (omega arith) second) in
    let clock = 58 ∷ two_digits m.minute ++ 58 ∷ two_digits m.second ++ 90 ∷ [] in
    let hour : IsAscii (two_digits m.hour ++ clock) =
    ascii_two m.hour clock (ascii_more 58 (two_digits m.minute ++ 58 ∷ two_digits m.second ++ 90 ∷ []) (omega arith) minute) in
    let from_hour = 84 ∷ two_digits m.hour ++ clock in
    let day : IsAscii (two_digits m.day ++ from_hour) = ascii_two m.day from_hour (ascii_more 84 (two_digits m.hour ++ clock) (omega arith) hour) in
    let from_day = 45 ∷ two_digits m.day ++ from_hour in
    let month : IsAscii (two_digits m.month ++ from_day) = ascii_two m.month from_day (ascii_more 45 (two_digits m.day ++ from_hour) (omega arith) day) in
    ascii_four m.year (45 ∷ two_digits m.month ++ from_day) (ascii_more 45 (two_digits m.month ++ from_day) (omega arith) month)

pub time_is_text : (time : ℕ) → IsUtf8 (time_text time)
unfolding time_text
time_is_text time = IsUtf8-from_ascii (moment_text (moment_at time)) (moment_is_ascii (moment_at time))
