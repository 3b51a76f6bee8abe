-- Frames of calls, and what holds of what a call answers.
use Rattle.std.proofs.Common.{◌≡◌, ℕ, subst}
use Rattle.std.specs.Prelude.{Result, Ok, Err, IfErr, IfOk}
use Rattle.osm_store.specs.Files.{SpendsAtMost}
use Rattle.osm_store.specs.Frames.{MakesAtMost, StoreState}
use Rattle.osm_runs.specs.declared.fault.RunFault.{RunFault}
use Rattle.osm_runs.specs.declared.fault.RunFault.TheVariants.{WantOfMemory}

pub ok_two : {T E : Type 0} (P Q S : T → Type 0) (r : Result T E) → IfOk r P → IfOk r Q → ((x : T) → P x → Q x → S x) → IfOk r S
ok_two P Q S (Ok x) p q f = f x p q
ok_two P Q S (Err e) p q f = tt

pub err_two : {T E : Type 0} (P Q S : E → Type 0) (r : Result T E) → IfErr r P → IfErr r Q → ((e : E) → P e → Q e → S e) → IfErr r S
err_two P Q S (Ok x) p q f = tt
err_two P Q S (Err e) p q f = f e p q

-- calls that were made before one that only memory refuses
pub only_memory : {T : Type 0} (blames : RunFault → Type 0) (most : ℕ) (a b : StoreState) (r : Result T RunFault) → SpendsAtMost most a.left b.left
    → (blames WantOfMemory → ⊥) → IfErr r (λ fault. fault ≡ WantOfMemory) → MakesAtMost blames most a b r
only_memory blames most a b (Ok x) spent never is = record { spent = spent; lacks = tt }
only_memory blames most a b (Err fault) spent never is = record { spent = tt; lacks = λ sure blamed. absurd (never (subst blames is blamed)) }

pub ok_three : {T E : Type 0} (P Q R S : T → Type 0) (r : Result T E) → IfOk r P → IfOk r Q → IfOk r R
    → ((x : T) → P x → Q x → R x → S x) → IfOk r S
ok_three P Q R S (Ok x) p q s f = f x p q s
ok_three P Q R S (Err e) p q s f = tt

pub ok_four : {T E : Type 0} (P Q R S U : T → Type 0) (r : Result T E) → IfOk r P → IfOk r Q → IfOk r R → IfOk r S
    → ((x : T) → P x → Q x → R x → S x → U x) → IfOk r U
ok_four P Q R S U (Ok x) p q s t f = f x p q s t
ok_four P Q R S U (Err e) p q s t f = tt
