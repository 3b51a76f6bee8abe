-- What `?` passes on.
use Rattle.std.proofs.Common.{◌≡◌, subst, sym}
use Rattle.std.specs.Prelude.{Result, Ok, Err, IfErr, IfOk, OnOk}
use Rattle.std.specs.Result.{IsErrAnd}

pub same_err : {T E : Type 0} (Q : E → Type 0) (r : Result T E) (x : E) → IsErrAnd r (λ y. y ≡ x) → Q x → IfErr r Q
same_err Q (Ok v) x h q = tt
same_err Q (Err y) x h q = subst Q (sym h) q

pub same_result : {T E : Type 0} (P : Result T E → Type 0) (r : Result T E) (x : E) → IsErrAnd r (λ y. y ≡ x) → P (Err x) → P r
same_result P (Ok v) x h p = absurd h
same_result P (Err y) x h p = subst (λ z. P (Err z)) (sym h) p

pub ok_map : {T E : Type 0} (P Q : T → Type 0) (r : Result T E) → IfOk r P → ((x : T) → P x → Q x) → IfOk r Q
ok_map P Q (Ok x) p f = f x p
ok_map P Q (Err e) p f = tt

pub err_map : {T E : Type 0} (P Q : E → Type 0) (r : Result T E) → IfErr r P → ((e : E) → P e → Q e) → IfErr r Q
err_map P Q (Ok x) p f = tt
err_map P Q (Err e) p f = f e p

pub on_ok_map : {T E P Q : Type 0} → (r : Result T E) → OnOk r P → (P → Q) → OnOk r Q
on_ok_map (Ok x) p f = f p
on_ok_map (Err e) p f = tt
