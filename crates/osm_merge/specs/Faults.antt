-- Why a save text isn't checked or merged.
use Rattle.std.specs.Prelude.{◌≡◌}
use Rattle.osm_blocks.specs.declared.fault.BlockFault.{BlockFault}
use Rattle.osm_blocks.specs.declared.fault.BlockFault.TheVariants as blocks
use Rattle.osm_merge.specs.declared.fault.MergeFault.{MergeFault}
use Rattle.osm_merge.specs.declared.fault.MergeFault.TheVariants.{BadSave, LongLine, ReadFault}
use Rattle.osm_merge.specs.declared.fault.MergeFault.TheVariants.{TooLarge, WantOfMemory}
use Rattle.osm_merge.specs.declared.fault.MergeFault.TheVariants.{WriteFault}

-- the fault of a file that is read in blocks, as one of a merge
abbrev pub IsCausedBy : BlockFault → MergeFault → Type 0
IsCausedBy blocks.Device fault = fault ≡ ReadFault
IsCausedBy blocks.LongLine fault = fault ≡ LongLine
IsCausedBy blocks.TooLarge fault = fault ≡ TooLarge
IsCausedBy blocks.WantOfMemory fault = fault ≡ WantOfMemory

-- the device is the reason
abbrev pub IsDeviceFault : MergeFault → Type 0
IsDeviceFault ReadFault = Unit {0}
IsDeviceFault WriteFault = Unit {0}
IsDeviceFault fault = ⊥

-- a line is the reason
abbrev pub IsBadLine : MergeFault → Type 0
IsBadLine (BadSave line) = Unit {0}
IsBadLine fault = ⊥

-- the text is the reason: a line is bad, or too long
abbrev pub IsOfText : MergeFault → Type 0
IsOfText (BadSave line) = Unit {0}
IsOfText LongLine = Unit {0}
IsOfText fault = ⊥

-- the device or memory is the reason
abbrev pub IsPlain : MergeFault → Type 0
IsPlain ReadFault = Unit {0}
IsPlain WriteFault = Unit {0}
IsPlain WantOfMemory = Unit {0}
IsPlain fault = ⊥
