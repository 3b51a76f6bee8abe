-- The frame of the calls of a store: what they leave as it was, and how many there are.
use Rattle.std.specs.Prelude.{◌≡◌, ℕ, ◌≤◌, Bool, IsTrue, None, Option, Result, IfErr, OnErr, OnOk}
use Rattle.osm_store.specs.Files.{Files, HasFailed, HasFewer, Spends, SpendsAtMost, Stage}
use Rattle.osm_store.specs.declared.store.StoreError.{StoreError}
use Rattle.osm_store.specs.declared.store.StoreError.TheVariants.{Device}

-- what contracts see of a store: what its files hold, whether that is known, how many calls are
-- left before it refuses every call, none if it never stops, how often its device failed, and the
-- file that is being written, none if none was begun
pub record StoreState : Type 0 where
  pub files : Files
  pub is_known : Bool
  pub left : Option ℕ
  pub failures : ℕ
  pub stage : Option Stage

-- it is known what the files hold, and what is being written
abbrev pub IsKnown : StoreState → Type 0
IsKnown state = IsTrue state.is_known

-- the device is the reason
abbrev pub IsDevice : StoreError → Type 0
IsDevice Device = Unit {0}
IsDevice e = ⊥

-- calls were made, at least that many if all is done; the device is blamed only if it failed
pub record Makes {T E : Type 0} (blames : E → Type 0) (calls : ℕ) (old new : StoreState)
    (result : Result T E) : Type 0 where
  pub known : new.is_known ≡ old.is_known
  pub left : Spends 0 old.left new.left
  pub failures : old.failures ≤ new.failures
  pub spent : OnOk result (Spends calls old.left new.left)
  pub failed : IfErr result (λ e. blames e → HasFailed old.failures new.failures)

-- at most that many calls were made if all is done; the device of known files is blamed only if
-- fewer were left
pub record MakesAtMost {T E : Type 0} (blames : E → Type 0) (calls : ℕ) (old new : StoreState)
    (result : Result T E) : Type 0 where
  pub spent : OnOk result (SpendsAtMost calls old.left new.left)
  pub lacks : IfErr result (λ e. IsKnown old → blames e → HasFewer calls old.left)

-- from so many calls to so many
pub record CallsBetween {T E : Type 0} (blames : E → Type 0) (least most : ℕ)
    (old new : StoreState) (result : Result T E) : Type 0 where
  pub makes : Makes blames least old new result
  pub at_most : MakesAtMost blames most old new result

-- the same, and no file changes
pub record ReadsBetween {T E : Type 0} (blames : E → Type 0) (least most : ℕ)
    (old new : StoreState) (result : Result T E) : Type 0 where
  pub files : new.files ≡ old.files
  pub makes : Makes blames least old new result
  pub at_most : MakesAtMost blames most old new result

-- the same, and no file changes unless all is done
pub record ReplacesBetween {T E : Type 0} (blames : E → Type 0) (least most : ℕ)
    (old new : StoreState) (result : Result T E) : Type 0 where
  pub files : OnErr result (new.files ≡ old.files)
  pub makes : Makes blames least old new result
  pub at_most : MakesAtMost blames most old new result

-- no call was made, no file changes, and none is being written
pub record Abandons (old new : StoreState) : Type 0 where
  pub files : new.files ≡ old.files
  pub known : new.is_known ≡ old.is_known
  pub left : new.left ≡ old.left
  pub failures : old.failures ≤ new.failures
  pub dropped : IsKnown old → new.stage ≡ None
