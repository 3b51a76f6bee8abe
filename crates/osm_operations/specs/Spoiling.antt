-- A file of a published sequence that is spoiled while the follower runs: it holds one byte, which
-- is no state, no o5c file and no line of OPL.
use Rattle.std.specs.Prelude.{◌≡◌, ℕ, ◌-◌, List, [], ◌∷◌}
use Rattle.osm_state.specs.declared.paths.Suffix.{Suffix}
use Rattle.osm_state.specs.declared.paths.Suffix.TheVariants.{O5c, Opl, State}
use Rattle.osm_runs.specs.declared.fault.FileName.TheVariants.{Sequence}
use Rattle.osm_runs.specs.declared.fault.RunFault.{RunFault}
use Rattle.osm_runs.specs.declared.fault.RunFault.TheVariants.{BadState, BadChange}

-- the byte `x`
abbrev pub spoiled : List ℕ
spoiled = 120 ∷ []

-- the fault is that of the spoiled file
abbrev pub IsSpoiledFault : ℕ → Suffix → RunFault → Type 0
IsSpoiledFault k s (BadState (Sequence n State) cause) = (n ≡ k) × (s ≡ State)
IsSpoiledFault k s (BadChange (Sequence n O5c) place why) = (n ≡ k) × (s ≡ O5c)
IsSpoiledFault k s (BadChange (Sequence n Opl) place why) = (n ≡ k) × (s ≡ Opl)
IsSpoiledFault k s fault = ⊥

-- the number before the one whose file is faulty
abbrev pub number_before : RunFault → ℕ
number_before (BadState (Sequence n s) cause) = n - 1
number_before (BadChange (Sequence n s) place why) = n - 1
number_before fault = 0
