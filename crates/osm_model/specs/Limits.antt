-- The limits of numbers: our choice, if OpenStreetMap names none.
use Rattle.std.specs.Prelude.{ℕ, ◌<◌, ◌≤◌, ◌^◌, ℤ, pos, neg_ℤ, ◌≤ℤ◌}

-- a version, a changeset or a user id: 1 to 4,294,967,295; so too a time, in seconds since 1970
pub record IsPositive (n : ℕ) : Type 0 where
  pub low : 1 ≤ n
  pub high : n < 2 ^ 32

-- an id or a reference: -(2^62 - 1) to 2^62 - 1
pub record IsId (id : ℤ) : Type 0 where
  pub low : neg_ℤ (pos 4611686018427387903) ≤ℤ id
  pub high : id ≤ℤ pos 4611686018427387903

-- a longitude, in units of 10^-7 degree: -180 to 180 degrees
pub record IsLongitude (lon : ℤ) : Type 0 where
  pub low : neg_ℤ (pos 1800000000) ≤ℤ lon
  pub high : lon ≤ℤ pos 1800000000

-- a latitude, in units of 10^-7 degree: -90 to 90 degrees
pub record IsLatitude (lat : ℤ) : Type 0 where
  pub low : neg_ℤ (pos 900000000) ≤ℤ lat
  pub high : lat ≤ℤ pos 900000000

-- a longitude and a latitude
pub record IsLocation (lon lat : ℤ) : Type 0 where
  pub longitude : IsLongitude lon
  pub latitude : IsLatitude lat

-- the most tags of an object
abbrev pub max_tags : ℕ
max_tags = 5000

-- the most nodes of a way, and the most members of a relation
abbrev pub max_refs : ℕ
max_refs = 32000

-- the most changes of a batch
abbrev pub max_changes : ℕ
max_changes = 100000

-- the most keys of a filter
abbrev pub max_keys : ℕ
max_keys = 100

-- the greatest length of a change file, in bytes: 64 MiB
abbrev pub max_file : ℕ
max_file = 67108864

-- the greatest sequence number
abbrev pub max_sequence : ℕ
max_sequence = 999999999
