-- Lines that are read of a file.
use Rattle.std.specs.Prelude.{◌≡◌, ◌≢◌, ℕ, ◌≤◌, ◌<◌, List, [], ◌∷◌, ◌++◌, drop, length, Option}
use Rattle.std.specs.Prelude.{Some, None}
use Rattle.std.specs.declared.cmp.Ordering.{Ordering}
use Rattle.std.specs.declared.cmp.Ordering.TheVariants.{Greater, Less}
use Rattle.osm_model.specs.Change.{ChangeValue}
use Rattle.osm_mirror.specs.Mirror.{IsObject}
use Rattle.osm_opl.specs.Written.{line_text}
use Rattle.osm_reading.specs.Pieces.{cut_at}
use Rattle.osm_save.specs.declared.save.Saved.{Saved}
use Rattle.osm_asking.specs.Finding.{StandsAt, side_at}
use Rattle.osm_asking.specs.declared.side.Wanted.{Wanted}

-- the line doesn't begin with a kind's letter
abbrev pub IsOther : List ℕ → Type 0
IsOther [] = Unit {0}
IsOther (b ∷ bs) = (b ≢ 110) × (b ≢ 119) × (b ≢ 114)

-- where a line lies beside what is wanted; none if it begins like that of an object and has no key
pub record IsSide (wanted : Wanted) (line : List ℕ) (side : Option Ordering) : Type 0 where
  pub own : (c : ChangeValue) → IsObject c → line ≡ line_text c → side ≡ Some (side_at wanted c.key)
  pub other : IsOther line → side ≡ Some Greater

-- the next line lies there
pub record HasSide (wanted : Wanted) (bytes : List ℕ) (side : Option Ordering) : Type 0 where
  pub line : List ℕ
  pub after : List ℕ
  pub cut : cut_at 10 bytes ≡ Some (line, after)
  pub is : IsSide wanted line side

-- lines were passed: whatever follows the bytes, those that are left stand as all did
pub record Passes (wanted : Wanted) (bytes : List ℕ) (count : ℕ) : Type 0 where
  pub within : count ≤ length bytes
  pub stays : (v : Saved) (tail : List ℕ) → StandsAt wanted v (bytes ++ tail)
      → StandsAt wanted v (drop count bytes ++ tail)

-- the next line lies there, not before what is wanted; or there is no LF among the bytes
abbrev pub StopsAt : Wanted → List ℕ → Option Ordering → Type 0
StopsAt wanted bytes (Some side) = (side ≢ Less) × HasSide wanted bytes (Some side)
StopsAt wanted bytes None = cut_at 10 bytes ≡ None

-- the line that begins at that place of a file lies there, if it has an end
pub record Lies (wanted : Wanted) (file : List ℕ) (place : ℕ) (side : Option Ordering) : Type 0
  where
    pub within : place < length file
    pub has : cut_at 10 (drop place file) ≢ None → HasSide wanted (drop place file) side

-- it begins after that other place
pub record IsProbed (wanted : Wanted) (file : List ℕ) (from place : ℕ) (side : Option Ordering)
    : Type 0 where
  pub skipped : List ℕ
  pub parts : drop from file ≡ skipped ++ 10 ∷ drop place file
  pub lies : Lies wanted file place side

-- where a line lies that begins at that place; nothing is said if there is none
abbrev pub IsSided : Wanted → List ℕ → ℕ → Option (ℕ × Ordering) → Type 0
IsSided wanted line place None = ⊥
IsSided wanted line place (Some (at, side)) = (at ≡ place) × IsSide wanted line (Some side)

-- where a line lies that begins so, however it goes on
abbrev pub IsStarted : Wanted → List ℕ → Option Ordering → Type 0
IsStarted wanted start side = (more : List ℕ) → IsSide wanted (start ++ more) side

-- the same with its place
abbrev pub IsStartedAt : Wanted → List ℕ → ℕ → Option (ℕ × Ordering) → Type 0
IsStartedAt wanted start place None = ⊥
IsStartedAt wanted start place (Some (at, side)) = (at ≡ place) × IsStarted wanted start (Some side)
