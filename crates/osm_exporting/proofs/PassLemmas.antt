-- Why a pass over a save stops, and what calls one after the other fill of a file.
use Rattle.std.proofs.Common.{◌≡◌, ℕ, List, [], ◌++◌, inl, inr, ◌∙◌}
use Rattle.std.specs.Prelude.{◌⊎◌}
use Rattle.osm_blocks.specs.Places.{HasFile, IsHuge}
use Rattle.osm_store.specs.Frames.{StoreState}
use Rattle.osm_runs.specs.declared.fault.RunFault.{RunFault}
use Rattle.osm_runs.specs.declared.fault.RunFault.TheVariants.{Absent, BadSave, Changed, ReadFault, TooLarge, WantOfMemory, WriteFault}
use Rattle.osm_runs.specs.Filling.{Fills}
use Rattle.osm_exporting.specs.Steps.Copying.{OutputStops, PassStops}

-- ---- why it stops

-- a part of the pass stops, so the pass does
pub pass_map : (a b : StoreState) (name : List ℕ) (U V : List ℕ → Type 0) (fault : RunFault)
    → ((file : List ℕ) → HasFile a name file → HasFile b name file) → ((file : List ℕ) → HasFile a name file → U file → V file)
    → PassStops b name U fault → PassStops a name V fault
pass_map a b name U V WantOfMemory has f r = tt
pass_map a b name U V (ReadFault file) has f r = r
pass_map a b name U V (WriteFault file) has f r = r
pass_map a b name U V (BadSave line) has f r = λ bytes is. f bytes is (r bytes (has bytes is))
pass_map a b name U V (TooLarge file) has f r = (r.0, λ bytes is. by_reason bytes is (r.1 bytes (has bytes is)))
  where
    by_reason : (bytes : List ℕ) → HasFile a name bytes → IsHuge bytes ⊎ U bytes → IsHuge bytes ⊎ V bytes
    by_reason bytes is (inl huge) = inl huge
    by_reason bytes is (inr bad) = inr (f bytes is bad)
pass_map a b name U V (Absent file) has f r = (r.0, λ bytes is. r.1 bytes (has bytes is))
pass_map a b name U V (Changed file) has f r = (r.0, λ bytes is. r.1 bytes (has bytes is))
pass_map a b name U V fault has f r = absurd r

-- the output isn't written
pub output_pass : (state : StoreState) (name : List ℕ) (U : List ℕ → Type 0) (fault : RunFault) → OutputStops fault → PassStops state name U fault
output_pass state name U WantOfMemory r = tt
output_pass state name U (WriteFault file) r = r
output_pass state name U fault r = absurd r

-- ---- what is filled

-- a call that leaves what was begun as it was
pub fills_still : (a b : StoreState) (rest : List ℕ) → b.stage ≡ a.stage → Fills a b rest rest
fills_still a b rest same = λ known name whole l. record { text = l.text; staged = same ∙ l.staged; parts = l.parts }
