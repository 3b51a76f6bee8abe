-- The frame of calls of a store that are as many as a file has blocks.
use Rattle.std.specs.Prelude.{◌≡◌, ◌≤◌, Result, IfErr, IsSome}
use Rattle.osm_store.specs.Files.{HasFailed, Spends}
use Rattle.osm_store.specs.Frames.{IsKnown, StoreState}
use Rattle.osm_blocks.specs.declared.fault.BlockFault.{BlockFault}
use Rattle.osm_blocks.specs.declared.fault.BlockFault.TheVariants.{Device, LongLine, TooLarge}
use Rattle.osm_blocks.specs.declared.fault.BlockFault.TheVariants.{WantOfMemory}

-- the device is the reason
abbrev pub IsDeviceFault : BlockFault → Type 0
IsDeviceFault Device = Unit {0}
IsDeviceFault e = ⊥

-- the device or memory is the reason: no line and no file was found too long
abbrev pub IsPlain : BlockFault → Type 0
IsPlain Device = Unit {0}
IsPlain WantOfMemory = Unit {0}
IsPlain LongLine = ⊥
IsPlain TooLarge = ⊥

-- any number of calls was made, and no file changed. The device is blamed only if it failed, and
-- that of known files only if the store stops at some time
pub record ReadsOften {T E : Type 0} (blames : E → Type 0) (old new : StoreState)
    (result : Result T E) : Type 0 where
  pub files : new.files ≡ old.files
  pub known : new.is_known ≡ old.is_known
  pub left : Spends 0 old.left new.left
  pub failures : old.failures ≤ new.failures
  pub failed : IfErr result (λ e. blames e → HasFailed old.failures new.failures)
  pub stops : IfErr result (λ e. IsKnown old → blames e → IsSome old.left)
