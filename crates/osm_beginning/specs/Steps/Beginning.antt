-- The state at which a beginning starts. `known` says that it is known what the files hold.
use Rattle.std.specs.Prelude.{◌≡◌, ℕ, List, Bool, true, false, Option, Some, None}
use Rattle.osm_save.specs.declared.head.Head.{Head}
use Rattle.osm_state.specs.State.{StateValue}
use Rattle.osm_state.specs.StateFault.{FaultOf}
use Rattle.osm_beginning.specs.Beginning.{IsZeroState}
use Rattle.osm_store.specs.Files.{IsOver}
use Rattle.osm_runs.specs.Folder.{IsStateFile, max_state}
use Rattle.osm_runs.specs.Folder.{IsBadState}
use Rattle.osm_runs.specs.declared.fault.FileName.TheVariants.{State}
use Rattle.osm_runs.specs.declared.fault.RunFault.{RunFault}
use Rattle.osm_runs.specs.declared.fault.RunFault.TheVariants.{WantOfMemory, ReadFault, TooLarge}
use Rattle.osm_runs.specs.declared.fault.RunFault.TheVariants.{Absent, BadState, ZeroBase}

-- why a text names no sequence to begin at
abbrev pub StartTextStops : List ℕ → RunFault → Type 0
StartTextStops text ZeroBase = (time : ℕ) × IsStateFile 0 time text
StartTextStops text (BadState State cause) = FaultOf text cause
StartTextStops text fault = ⊥

-- why no state to begin at is read
abbrev pub StartStops : Type 0 → Option (List ℕ) → RunFault → Type 0
StartStops known told WantOfMemory = Unit {0}
StartStops known told (ReadFault State) = Unit {0}
StartStops known told (Absent State) = known → told ≡ None
StartStops known told (TooLarge State) = known → IsOver max_state told
StartStops known told (BadState State cause) = known → IsBadState told cause
StartStops known told ZeroBase = known → IsZeroState told
StartStops known told fault = ⊥

-- the head of a save that begins at a state
abbrev pub head_from : StateValue → Head
head_from s = record { number = s.sequence; base = s.sequence; time = Some s.time }

-- the time with which that of the newest object is compared
abbrev pub compared : Bool → StateValue → Option ℕ
compared true s = None
compared false s = Some s.time
