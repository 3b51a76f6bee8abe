-- What a history's deliveries were, and what the replies to them say.
use Rattle.std.specs.Prelude.{◌≡◌, ℕ, List, [], ◌∷◌, ◌++◌, Bool, false, ◌==◌, ◌||◌}
use Rattle.std.specs.Prelude.{◌⊎◌, if◌then◌else◌}
use Rattle.osm_world.specs.History.{History, starts}
use Rattle.osm_world.specs.declared.event.Event.{Event}
use Rattle.osm_world.specs.declared.event.Event.TheVariants.{Deliver}
use Rattle.osm_world.specs.declared.event.Reply.{Reply}
use Rattle.osm_world.specs.declared.event.Reply.TheVariants.{NotPublished, WantOfMemory, Old}
use Rattle.osm_world.specs.declared.event.Reply.TheVariants.{Again, Held, Applied}

-- the number that the pair delivers, unless it wasn't published or memory was refused
abbrev pub delivered_by : Event → Reply → List ℕ
delivered_by (Deliver k form) NotPublished = []
delivered_by (Deliver k form) WantOfMemory = []
delivered_by (Deliver k form) r = k ∷ []
delivered_by e r = []

-- the numbers that the pairs since the last restart or beginning deliver, in order
abbrev pub delivered_of : History → List ℕ
delivered_of [] = []
delivered_of (p ∷ h) = if starts p.0 p.1 then [] else (delivered_of h ++ delivered_by p.0 p.1)

-- the members of the first list are in the second in the same order, with anything between them
abbrev pub IsSubsequence : List ℕ → List ℕ → Type 0
IsSubsequence [] ys = Unit {0}
IsSubsequence (x ∷ xs) [] = ⊥
IsSubsequence (x ∷ xs) (y ∷ ys) = ((x ≡ y) × IsSubsequence xs ys) ⊎ IsSubsequence (x ∷ xs) ys

-- whether the pair is a delivery of the number whose reply says that the follower has it, from now
-- on or from before
abbrev pub confirms : Event → Reply → ℕ → Bool
confirms (Deliver k form) Held j = k == j
confirms (Deliver k form) (Applied low high) j = k == j
confirms (Deliver k form) Old j = k == j
confirms (Deliver k form) Again j = k == j
confirms e r j = false

-- whether a reply since the last restart or beginning said so of the number
abbrev pub is_confirmed : History → ℕ → Bool
is_confirmed [] j = false
is_confirmed (p ∷ h) j =
    if starts p.0 p.1 then false else (confirms p.0 p.1 j || is_confirmed h j)
