-- What a store tells about its files: what each name holds, as bytes.
use Rattle.std.specs.Prelude.{◌≡◌, ℕ, ◌+◌, ◌<◌, ◌≤◌, ◌⊎◌, List, length, take, drop, Option, Some}
use Rattle.std.specs.Prelude.{None, Vec}
use Rattle.osm_store.specs.declared.store.StoreError.{StoreError}
use Rattle.osm_store.specs.declared.store.StoreError.TheVariants.{TooLarge}

-- what the file of each name holds, none if there is no such file
abbrev pub Files : Type 0
Files = List ℕ → Option (List ℕ)

-- a file that is being written: its name, and its bytes so far
abbrev pub Stage : Type 0
Stage = List ℕ × List ℕ

-- the answer of a read is what the file holds
abbrev pub Tells : {Z : Type 0} → Option (Vec ℕ Z) → Option (List ℕ) → Type 0
Tells None told = told ≡ None
Tells (Some bytes) told = told ≡ Some bytes.items

-- the first bytes of a file, at most that many, or none if there is no such file
abbrev pub prefix_of : ℕ → Option (List ℕ) → Option (List ℕ)
prefix_of most None = None
prefix_of most (Some bytes) = Some (take most bytes)

-- at most so many bytes from that place on, or none if there is no such file
abbrev pub block_of : ℕ → ℕ → Option (List ℕ) → Option (List ℕ)
block_of from most None = None
block_of from most (Some bytes) = Some (take most (drop from bytes))

-- a file that was read, if it is there, has at most that many bytes
abbrev pub IsWithin : {Z : Type 0} → ℕ → Option (Vec ℕ Z) → Type 0
IsWithin limit None = Unit {0}
IsWithin limit (Some bytes) = length bytes.items ≤ limit

-- the file is there, with more bytes than the limit
pub record IsOver (limit : ℕ) (told : Option (List ℕ)) : Type 0 where
  pub bytes : List ℕ
  pub there : told ≡ Some bytes
  pub over : limit < length bytes

-- new is old, but the name holds those bytes, or no file
pub record Puts (old : Files) (name : List ℕ) (bytes : Option (List ℕ)) (new : Files) : Type 0 where
  pub there : new name ≡ bytes
  pub others : (other : List ℕ) → (other ≡ name → ⊥) → new other ≡ old other

-- at least that many calls were left, and that many fewer are left now; none is no limit
abbrev pub Spends : ℕ → Option ℕ → Option ℕ → Type 0
Spends calls None left = left ≡ None
Spends calls (Some n) left = (m : ℕ) × (left ≡ Some m) × (m + calls ≤ n)

-- at most that many fewer calls are left now
abbrev pub SpendsAtMost : ℕ → Option ℕ → Option ℕ → Type 0
SpendsAtMost calls None left = left ≡ None
SpendsAtMost calls (Some n) left = (m : ℕ) × (left ≡ Some m) × (n ≤ m + calls)

-- fewer than that many calls are left
abbrev pub HasFewer : ℕ → Option ℕ → Type 0
HasFewer calls None = ⊥
HasFewer calls (Some n) = n < calls

-- the count of a device's failures rose, or was already at its greatest value
abbrev pub HasFailed : ℕ → ℕ → Type 0
HasFailed old new = (old < new) ⊎ (18446744073709551615 ≤ old)

-- why a file isn't read: it is too large only if it has more bytes than asked for
abbrev pub ReadStops : Type 0 → ℕ → Option (List ℕ) → StoreError → Type 0
ReadStops known limit told TooLarge = known → IsOver limit told
ReadStops known limit told e = Unit {0}

-- why a part of a file isn't read, or a file isn't written: never since it is too large
abbrev pub NeverTooLarge : StoreError → Type 0
NeverTooLarge TooLarge = ⊥
NeverTooLarge e = Unit {0}
