-- Steps of a reading that didn't fail.
use Rattle.std.proofs.Common.{◌≡◌, ◌&&◌, Bool, true, false, cond, Option, Some, None, refl}
use Rattle.osm_reading.specs.Answers.{and_then, when}

-- the step before it gave something
pub some_then : {A B : Type 0} (r : Option A) (f : A → Option B) (y : B) → and_then r f ≡ Some y → (x : A) × (r ≡ Some x) × (f x ≡ Some y)
some_then (Some x) f y e = (x, refl, e)
some_then None f y e = absurd cc

-- the step before it gave nothing, since the step after can't fail
pub none_then : {A B : Type 0} (r : Option A) (f : A → B) → and_then {A = A} {B = B} r (λ x. Some (f x)) ≡ None → r ≡ None
none_then None f e = refl
none_then (Some x) f e = absurd cc

-- the test held
pub some_when : {A : Type 0} (b : Bool) (m : Option A) (y : A) → when b m ≡ Some y → (b ≡ true) × (m ≡ Some y)
some_when true m y e = (refl, e)
some_when false m y e = absurd cc

-- a test between a value and nothing held
pub guard_some : {A : Type 0} (b : Bool) (m : Option A) (y : A) → cond b m None ≡ Some y → (b ≡ true) × (m ≡ Some y)
guard_some true m y e = (refl, e)
guard_some false m y e = absurd cc

-- which way a test went
pub chosen : {A : Type 0} (b : Bool) (x y z : A) → cond b x y ≡ z → (P : Type 0) → (b ≡ true → x ≡ z → P) → (b ≡ false → y ≡ z → P) → P
chosen true x y z e P t f = t refl e
chosen false x y z e P t f = f refl e

-- both tests held
pub both_held : (a b : Bool) → (a && b) ≡ true → (a ≡ true) × (b ≡ true)
both_held true true e = (refl, refl)
both_held true false e = absurd cc
both_held false b e = absurd cc
