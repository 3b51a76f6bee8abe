-- The metadata of a line: what is read is spelled, and what is spelled is read.
use Rattle.std.proofs.Common.{◌≡◌, ℕ, Bool, true, false, cond, List, [], ◌∷◌, Option, Some, None, refl, ap, subst, arith}
use Rattle.std.specs.Prelude.{◌==◌}
use Rattle.std.proofs.lemmas.Bool.Decides.{nat_tests}
use Rattle.std.proofs.lemmas.Option.{same_Some}
use Rattle.osm_model.specs.Meta.{MetaValue, IsMeta}
use Rattle.osm_model.specs.Text.{IsText}
use Rattle.osm_model.specs.Time.{TimeText}
use Rattle.osm_opl.specs.Escape.{SpellsText}
use Rattle.osm_opl.specs.Number.{SpellsNumber}
use Rattle.osm_opl.specs.Written.{visible_text}
use Rattle.osm_opl.specs.Reading.{field_at, head_at, positive_at, positive_field_at, status_at, status_field_at}
use Rattle.osm_opl.specs.Reading.{text_at, time_at, time_field_at, user_field_at}
use Rattle.osm_reading.specs.Answers.{and_then}
use Rattle.osm_reading.proofs.StepLemmas.{some_then, guard_some, chosen}
use Rattle.osm_opl.proofs.NumberLaws.{TakesPositive, positive_takes, positive_again}
use Rattle.osm_opl.proofs.EscapeLemmas.{text_is}
use Rattle.osm_opl.proofs.EscapeLaws.{text_takes, text_again}
use Rattle.osm_opl.proofs.DateLemmas.{time_takes, time_again}
use Rattle.osm_opl.proofs.FieldLaws.{field_takes, field_again}

status_takes : (bytes : List ℕ) (b : Bool) → status_at bytes ≡ Some b → bytes ≡ visible_text b
unfolding status_at
status_takes [] b e = absurd cc
status_takes (x ∷ []) b e =
    chosen (x == 86) (Some true) (cond (x == 68) (Some false) None) (Some b) e (x ∷ [] ≡ visible_text b)
    (λ t is. let same : true ≡ b = same_Some true b is in let v : x ≡ 86 = grind (arith, nat_tests) in rw (← same, v) refl)
    (λ f is. let g = guard_some (x == 68) (Some false) b is in let same : false ≡ b = same_Some false b g.1 in
    let t : (x == 68) ≡ true = g.0 in let v : x ≡ 68 = grind (arith, nat_tests) in rw (← same, v) refl)
status_takes (x ∷ y ∷ ys) b e = absurd cc

status_again : (b : Bool) → status_at (visible_text b) ≡ Some b
unfolding status_at
status_again true = refl
status_again false = refl

pub record TakesField (Spells : List ℕ → Type 0) (letter : ℕ) (fields more : List (List ℕ)) : Type 0 where
  pub text : List ℕ
  pub parts : fields ≡ (letter ∷ text) ∷ more
  pub spells : Spells text

field_taken : {X : Type 0} (read : List ℕ → Option X) (Spells : List ℕ → X → Type 0)
    → ((b : List ℕ) (x : X) → read b ≡ Some x → Spells b x) → (letter : ℕ) (fields : List (List ℕ))
    (r : X × List (List ℕ)) → and_then (field_at letter fields) (λ f. and_then {A = X} {B = X × List (List ℕ)}
    (read f.0) (λ x. Some (x, f.1))) ≡ Some r → TakesField (λ b. Spells b r.0) letter fields r.1
field_taken {X} read Spells takes letter fields r e =
    let f = some_then (field_at letter fields) (λ (f : List ℕ × List (List ℕ)). and_then {A = X} {B = X × List (List ℕ)} (read f.0) (λ x. Some (x, f.1))) r e in
    let x = some_then (read f.0.0) (λ (x : X). Some (let p : X × List (List ℕ) = (x, f.0.1) in p)) r f.2 in
    let made : X × List (List ℕ) = (x.0, f.0.1) in
    let P : X × List (List ℕ) → Type 0 = λ p. TakesField (λ b. Spells b p.0) letter fields p.1 in
    subst P (same_Some made r x.2) (record { text = f.0.0; parts = field_takes letter fields f.0.0 f.0.1 f.1; spells = takes f.0.0 x.0 x.1 })

positive_field_taken : (letter : ℕ) (fields : List (List ℕ)) (r : ℕ × List (List ℕ)) → positive_field_at letter fields ≡
    Some r → TakesField (λ b. TakesPositive b r.0) letter fields r.1
unfolding positive_field_at
positive_field_taken letter fields r e = field_taken positive_at TakesPositive positive_takes letter fields r e

status_field_taken : (fields : List (List ℕ)) (r : Bool × List (List ℕ)) → status_field_at fields ≡ Some r
    → TakesField (λ b. b ≡ visible_text r.0) 100 fields r.1
unfolding status_field_at
status_field_taken fields r e = field_taken status_at (λ b x. b ≡ visible_text x) status_takes 100 fields r e

time_field_taken : (fields : List (List ℕ)) (r : ℕ × List (List ℕ)) → time_field_at fields ≡ Some r → TakesField (λ b. TimeText b r.0) 116 fields r.1
unfolding time_field_at
time_field_taken fields r e = field_taken time_at TimeText time_takes 116 fields r e

pub record IsSpelledText (bytes text : List ℕ) : Type 0 where
  pub spells : SpellsText bytes text
  pub limits : IsText text

user_field_taken : (fields : List (List ℕ)) (r : List ℕ × List (List ℕ)) → user_field_at fields ≡ Some r → TakesField (λ b. IsSpelledText b r.0) 117 fields r.1
unfolding user_field_at
user_field_taken fields r e = field_taken text_at IsSpelledText (λ b x e. record { spells = text_takes b x e; limits = text_is b x e }) 117 fields r e

-- the fields that all objects have after their id
pub record SpellsHead (fields : List (List ℕ)) (is_visible : Bool) (meta : MetaValue) (more : List (List ℕ)) : Type 0 where
  pub version_text : List ℕ
  pub changeset_text : List ℕ
  pub time_text : List ℕ
  pub uid_text : List ℕ
  pub user_text : List ℕ
  pub parts : fields ≡ (118 ∷ version_text) ∷ (100 ∷ visible_text is_visible) ∷ (99 ∷ changeset_text) ∷
      (116 ∷ time_text) ∷ (105 ∷ uid_text) ∷ (117 ∷ user_text) ∷ more
  pub version : SpellsNumber version_text meta.version
  pub changeset : SpellsNumber changeset_text meta.changeset
  pub time : TimeText time_text meta.time
  pub uid : SpellsNumber uid_text meta.uid
  pub user : SpellsText user_text meta.user
  pub limits : IsMeta meta

pub head_takes : (fields : List (List ℕ)) (h : Bool × MetaValue × List (List ℕ)) → head_at fields ≡ Some h → SpellsHead fields h.0 h.1 h.2
unfolding head_at
head_takes fields h e =
    let v = some_then (positive_field_at 118 fields) (λ (v : ℕ × List (List ℕ)). and_then {A = Bool × List (List ℕ)}
    {B = Bool × MetaValue × List (List ℕ)} (status_field_at v.1) (λ (d : Bool × List (List ℕ)). and_then {A =
    ℕ × List (List ℕ)} {B = Bool × MetaValue × List (List ℕ)} (positive_field_at 99 d.1)
    (λ (c : ℕ × List (List ℕ)). and_then {A = ℕ × List (List ℕ)} {B = Bool × MetaValue × List (List ℕ)}
    (time_field_at c.1) (λ (t : ℕ × List (List ℕ)). and_then {A = ℕ × List (List ℕ)} {B = Bool × MetaValue
    × List (List ℕ)} (positive_field_at 105 t.1) (λ (i : ℕ × List (List ℕ)). and_then {A = List ℕ × List (List ℕ)}
    {B = Bool × MetaValue × List (List ℕ)} (user_field_at i.1)
    (λ (u : List ℕ × List (List ℕ)). Some (
      d.0,
      record {
        version = v.0;
        time = t.0;
        changeset = c.0;
        uid = i.0;
        user = u.0;
      },
      u.1,
    ))))))) h e in
    let d = some_then (status_field_at v.0.1) (λ (d : Bool × List (List ℕ)). and_then {A = ℕ × List (List ℕ)} {B =
    Bool × MetaValue × List (List ℕ)} (positive_field_at 99 d.1) (λ (c : ℕ × List (List ℕ)). and_then {A =
    ℕ × List (List ℕ)} {B = Bool × MetaValue × List (List ℕ)} (time_field_at c.1)
    (λ (t : ℕ × List (List ℕ)). and_then {A = ℕ × List (List ℕ)} {B = Bool × MetaValue × List (List ℕ)}
    (positive_field_at 105 t.1) (λ (i : ℕ × List (List ℕ)). and_then {A = List ℕ × List (List ℕ)} {B =
    Bool × MetaValue × List (List ℕ)} (user_field_at i.1)
    (λ (u : List ℕ × List (List ℕ)). Some (
      d.0,
      record {
        version = v.0.0;
        time = t.0;
        changeset = c.0;
        uid = i.0;
        user = u.0;
      },
      u.1,
    )))))) h v.2 in
    let c = some_then (positive_field_at 99 d.0.1) (λ (c : ℕ × List (List ℕ)). and_then {A = ℕ × List (List ℕ)} {B =
    Bool × MetaValue × List (List ℕ)} (time_field_at c.1) (λ (t : ℕ × List (List ℕ)). and_then {A =
    ℕ × List (List ℕ)} {B = Bool × MetaValue × List (List ℕ)} (positive_field_at 105 t.1)
    (λ (i : ℕ × List (List ℕ)). and_then {A = List ℕ × List (List ℕ)} {B = Bool × MetaValue × List (List ℕ)}
    (user_field_at i.1)
    (λ (u : List ℕ × List (List ℕ)). Some (
      d.0.0,
      record {
        version = v.0.0;
        time = t.0;
        changeset = c.0;
        uid = i.0;
        user = u.0;
      },
      u.1,
    ))))) h d.2 in
    let t = some_then (time_field_at c.0.1) (λ (t : ℕ × List (List ℕ)). and_then {A = ℕ × List (List ℕ)} {B =
    Bool × MetaValue × List (List ℕ)} (positive_field_at 105 t.1) (λ (i : ℕ × List (List ℕ)). and_then {A =
    List ℕ × List (List ℕ)} {B = Bool × MetaValue × List (List ℕ)} (user_field_at i.1)
    (λ (u : List ℕ × List (List ℕ)). Some (
      d.0.0,
      record {
        version = v.0.0;
        time = t.0;
        changeset = c.0.0;
        uid =
            i.0;
        user = u.0;
      },
      u.1,
    )))) h c.2 in
    let i = some_then (positive_field_at 105 t.0.1) (λ (i : ℕ × List (List ℕ)). and_then {A = List ℕ × List (List ℕ)}
    {B = Bool × MetaValue × List (List ℕ)} (user_field_at i.1)
    (λ (u : List ℕ × List (List ℕ)). Some (
      d.0.0,
      record {
        version = v.0.0;
        time = t.0.0;
        changeset = c.0.0;
        uid =
            i.0;
        user = u.0;
      },
      u.1,
    ))) h t.2 in
    let u = some_then (user_field_at i.0.1)
    (λ (u : List ℕ × List (List ℕ)). Some (
      d.0.0,
      record {
        version = v.0.0;
        time = t.0.0;
        changeset = c.0.0;
        uid =
            i.0.0;
        user = u.0;
      },
      u.1,
    )) h i.2 in
    let made : Bool × MetaValue × List (List ℕ) = (d.0.0, record { version = v.0.0; time = t.0.0; changeset = c.0.0; uid = i.0.0; user = u.0.0 }, u.0.1) in
    let fv = positive_field_taken 118 fields v.0 v.1 in
    let fd = status_field_taken v.0.1 d.0 d.1 in
    let fc = positive_field_taken 99 d.0.1 c.0 c.1 in
    let ft = time_field_taken c.0.1 t.0 t.1 in
    let fi = positive_field_taken 105 t.0.1 i.0 i.1 in
    let fu = user_field_taken i.0.1 u.0 u.1 in
    let P : Bool × MetaValue × List (List ℕ) → Type 0 = λ x. SpellsHead fields x.0 x.1 x.2 in
    subst P (same_Some made h u.2) (record {
      version_text = fv.text;
      changeset_text = fc.text;
      time_text = ft.text;
      uid_text = fi.text;
      user_text = fu.text;
      parts = six_fields fields v.0.1 d.0.1 c.0.1 t.0.1 i.0.1 u.0.1 (118 ∷ fv.text) (100 ∷ fd.text) (99 ∷ fc.text)
          (116 ∷ ft.text) (105 ∷ fi.text) (117 ∷ fu.text) (100 ∷ visible_text d.0.0) fv.parts fd.parts fc.parts ft.parts
          fi.parts fu.parts (ap (λ (l : List ℕ). 100 ∷ l) fd.spells);
      version = fv.spells.spells;
      changeset = fc.spells.spells;
      time = ft.spells;
      uid = fi.spells.spells;
      user = fu.spells.spells;
      limits = record { version = fv.spells.limits; time = ft.spells.limits; changeset = fc.spells.limits; uid = fi.spells.limits; user = fu.spells.limits };
    })
  where
    six_fields : (f a b c d e g : List (List ℕ)) (p q r s t u q2 : List ℕ) → f ≡ p ∷ a → a ≡ q ∷ b → b ≡ r ∷ c
        → c ≡ s ∷ d → d ≡ t ∷ e → e ≡ u ∷ g → q ≡ q2 → f ≡ p ∷ q2 ∷ r ∷ s ∷ t ∷ u ∷ g
    six_fields f a b c d e g p q r s t u q2 h1 h2 h3 h4 h5 h6 h7 = rw (h1, h2, h3, h4, h5, h6, h7) refl

pub head_again : (fields : List (List ℕ)) (is_visible : Bool) (meta : MetaValue) (more : List (List ℕ))
    → SpellsHead fields is_visible meta more → head_at fields ≡ Some (is_visible, meta, more)
unfolding head_at positive_field_at status_field_at time_field_at user_field_at
head_again fields is_visible meta more s =
    rw (
      s.parts,
      field_again 118 s.version_text ((100 ∷ visible_text is_visible) ∷ (99 ∷ s.changeset_text) ∷ (116 ∷ s.time_text) ∷
          (105 ∷ s.uid_text) ∷ (117 ∷ s.user_text) ∷ more),
      positive_again s.version_text meta.version s.version s.limits.version,
      field_again 100 (visible_text is_visible) ((99 ∷ s.changeset_text) ∷ (116 ∷ s.time_text) ∷ (105 ∷ s.uid_text) ∷ (117 ∷ s.user_text) ∷ more),
      status_again is_visible,
      field_again 99 s.changeset_text ((116 ∷ s.time_text) ∷ (105 ∷ s.uid_text) ∷ (117 ∷ s.user_text) ∷ more),
      positive_again s.changeset_text meta.changeset s.changeset s.limits.changeset,
      field_again 116 s.time_text ((105 ∷ s.uid_text) ∷ (117 ∷ s.user_text) ∷ more),
      time_again s.time_text meta.time s.time,
      field_again 105 s.uid_text ((117 ∷ s.user_text) ∷ more),
      positive_again s.uid_text meta.uid s.uid s.limits.uid,
      field_again 117 s.user_text more,
      text_again s.user_text meta.user s.user s.limits.user,
    ) refl
