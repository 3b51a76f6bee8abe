-- Why a file isn't read.
use Rattle.std.specs.Prelude.{ℕ, ◌<◌, List, length}
use Rattle.std.specs.IoError.{error_kind}
use Rattle.std.specs.declared.io.Error.{Error}
use Rattle.std.specs.declared.io.ErrorKind.{ErrorKind}
use Rattle.std.specs.declared.io.ErrorKind.TheVariants as Kind
use Rattle.osm_store.specs.declared.store.StoreError.{StoreError}
use Rattle.osm_store.specs.declared.store.StoreError.TheVariants.{Device, WantOfMemory}
use Rattle.osm_disk.specs.declared.reading.ReadError.{ReadError}
use Rattle.osm_disk.specs.declared.reading.ReadError.TheVariants as errors

-- refused memory, or else the device
abbrev pub cause_by_kind : ErrorKind → StoreError
cause_by_kind Kind.OutOfMemory = WantOfMemory
cause_by_kind _ = Device

-- why a call on files failed
abbrev pub cause : Error → StoreError
cause error = cause_by_kind (error_kind error)

-- too large only if there are more bytes than the limit
abbrev pub IsTooLongOnly : ℕ → List ℕ → ReadError → Type 0
IsTooLongOnly limit bytes errors.TooLarge = limit < length bytes
IsTooLongOnly limit bytes e = Unit {0}
