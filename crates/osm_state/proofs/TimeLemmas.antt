-- The written time: counting years and months on gives the date, and each colon is escaped.
use Rattle.std.proofs.Common.{arith, ◌≡◌, ℕ, ◌+◌, ◌<◌, List, [], ◌∷◌, ◌++◌, length, take, get_or, true, false, refl, ap, ◌∙◌, append_assoc}
use Rattle.std.specs.Prelude.{◌==◌, if◌then◌else◌}
use Rattle.std.proofs.lemmas.Bool.Decides.{nat_tests}
use Rattle.std.proofs.lemmas.List.{take_more}
use Rattle.osm_model.specs.Time.{Shows}
use Rattle.osm_model.specs.Limits.{IsPositive}
use Rattle.osm_model.specs.CivilTime.{time_text}
use Rattle.osm_state.specs.StateText.{escaped_colons}
use Rattle.osm_model.proofs.CivilTimeLemmas.{time_text_shows}

escaped_colons-push : (bs : List ℕ) (b : ℕ) → escaped_colons (bs ++ b ∷ []) ≡ escaped_colons bs ++ escaped_colons (b ∷ [])
escaped_colons-push [] b = refl
escaped_colons-push (c ∷ bs) b =
    elim (c == 58) as (λ t. (if t then 92 ∷ 58 ∷ escaped_colons (bs ++ b ∷ []) else c ∷ escaped_colons (bs ++ b ∷ [])) ≡
    (if t then 92 ∷ 58 ∷ escaped_colons bs else c ∷ escaped_colons bs) ++ escaped_colons (b ∷ [])) [
      | true ↦ ap (λ l. 92 ∷ 58 ∷ l) (escaped_colons-push bs b)
      | false ↦ ap (λ l. c ∷ l) (escaped_colons-push bs b)
    ]

-- one more byte
pub escaped_colons_more : (bs : List ℕ) (i : ℕ) → i < length bs → escaped_colons (take (i + 1) bs) ≡ escaped_colons
    (take i bs) ++ escaped_colons (get_or bs i 0 ∷ [])
escaped_colons_more bs i h = rw (take_more bs i 0 h) (escaped_colons-push (take i bs) (get_or bs i 0))

-- so the text shows the time
pub time_text_is : (t : ℕ) (bytes : List ℕ) → IsPositive t → ((other : List ℕ) → Shows other t → other ≡ bytes) → time_text t ≡ bytes
time_text_is t bytes h only = only (time_text t) (time_text_shows t h.high)

-- a colon is appended after a backslash
pub colon_pushed : (start before middle after bs : List ℕ) (i : ℕ) → i < length bs → (get_or bs i 0 == 58) ≡ true
    → before ≡ start ++ escaped_colons (take i bs) → middle ≡ before ++ 92 ∷ [] → after ≡ middle ++ get_or bs i 0 ∷ []
    → after ≡ start ++ escaped_colons (take (i + 1) bs)
colon_pushed start before middle after bs i h test b m a =
    let colon : get_or bs i 0 ≡ 58 = grind (arith, nat_tests) in
    rw (a, m, b, escaped_colons_more bs i h, colon)
    (append_assoc (start ++ escaped_colons (take i bs)) (92 ∷ []) (58 ∷ []) ∙ append_assoc start (escaped_colons (take i bs)) (92 ∷ 58 ∷ []))

-- every other byte is appended as it is
pub other_pushed : (start before after bs : List ℕ) (i : ℕ) → i < length bs → (get_or bs i 0 == 58) ≡ false
    → before ≡ start ++ escaped_colons (take i bs) → after ≡ before ++ get_or bs i 0 ∷ [] → after ≡ start
    ++ escaped_colons (take (i + 1) bs)
other_pushed start before after bs i h other b a =
    rw (a, b, escaped_colons_more bs i h, other)
    (append_assoc start (escaped_colons (take i bs)) (get_or bs i 0 ∷ []))
