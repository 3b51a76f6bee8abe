-- A line that is read is spelled, and what is spelled is read.
use Rattle.std.proofs.Common.{◌≡◌, ℕ, Bool, List, ◌∷◌, Some, None, refl, sym, ap, subst, ◌∙◌}
use Rattle.std.specs.Prelude.{◌≢◌, Result, Ok, Err, IfOk, IfErr, MatchResult, ℤ}
use Rattle.std.proofs.lemmas.Option.{same_Some}
use Rattle.osm_model.specs.Change.{ChangeValue, IsWhat}
use Rattle.osm_model.specs.Meta.{MetaValue}
use Rattle.osm_model.specs.declared.change.What.{What}
use Rattle.osm_model.specs.declared.kind.Key.{Key}
use Rattle.osm_model.specs.declared.kind.Kind.{Kind}
use Rattle.osm_reading.specs.Refusal.{IsWant}
use Rattle.osm_reading.specs.Answers.{Gives}
use Rattle.osm_reading.specs.declared.refusal.Refusal.{Refusal}
use Rattle.osm_reading.specs.declared.refusal.Refusal.TheVariants.{WantOfMemory, Fault}
use Rattle.osm_opl.specs.Line.{LineStops, SpellsLine}
use Rattle.osm_opl.specs.Lists.{letter_of}
use Rattle.osm_reading.specs.Pieces.{joined, pieces}
use Rattle.osm_opl.specs.Written.{visible_text}
use Rattle.osm_opl.specs.Reading.{head_at, key_at, line_at, what_at}
use Rattle.osm_reading.specs.Answers.{and_then}
use Rattle.osm_reading.proofs.StepLemmas.{some_then}
use Rattle.osm_reading.specs.Pieces.{Lacks}
use Rattle.osm_reading.proofs.PieceLemmas.{joined-pieces, pieces-joined}
use Rattle.osm_opl.proofs.ListLaws.{IsBlank, space, joined_lacks}
use Rattle.osm_opl.proofs.FieldLaws.{key_takes, key_again}
use Rattle.osm_opl.proofs.MetaLaws.{SpellsHead, head_takes, head_again}
use Rattle.osm_opl.proofs.ObjectLaws.{is_standing, status_is, what_takes, what_again}
use Rattle.osm_opl.proofs.BlankLemmas.{fields_of, fields_lack}

-- ---- what is read is spelled

pub line_takes : (line : List ℕ) (c : ChangeValue) → line_at line ≡ Some c → SpellsLine line c
unfolding line_at
line_takes line c e =
    let k = some_then (key_at (pieces 32 line)) (λ (k : Key × List (List ℕ)). and_then {A = Bool × MetaValue
    × List (List ℕ)} {B = ChangeValue} (head_at k.1) (λ (h : Bool × MetaValue × List (List ℕ)). and_then {A =
    What} {B = ChangeValue} (what_at k.0.kind h.0 h.2)
    (λ (w : What). Some (record { key = k.0; meta = h.1; what = w })))) c e in
    let h = some_then (head_at k.0.1) (λ (h : Bool × MetaValue × List (List ℕ)). and_then {A = What} {B = ChangeValue}
    (what_at k.0.0.kind h.0 h.2) (λ (w : What). Some (record { key = k.0.0; meta = h.1; what = w }))) c k.2 in
    let w = some_then (what_at k.0.0.kind h.0.0 h.0.2) (λ (w : What). Some (record { key = k.0.0; meta = h.0.1; what = w })) c h.2 in
    let made : ChangeValue = record { key = k.0.0; meta = h.0.1; what = w.0 } in
    let tk = key_takes (pieces 32 line) k.0 k.1 in
    let th = head_takes k.0.1 h.0 h.1 in
    let tw = what_takes k.0.0.kind h.0.0 h.0.2 w.0 w.1 in
    let whole : line ≡ joined 32 (pieces 32 line) = sym (joined-pieces 32 line) in
    subst (λ (x : ChangeValue). SpellsLine line x) (same_Some made c w.2) (record {
      id_text = tk.text;
      version_text = th.version_text;
      changeset_text = th.changeset_text;
      time_text = th.time_text;
      uid_text = th.uid_text;
      user_text = th.user_text;
      fields = h.0.2;
      parts = whole ∙ ap (joined 32) (tk.parts ∙ ap (λ (l : List (List ℕ)). (letter_of k.0.0.kind ∷ tk.text) ∷ l)
          (th.parts ∙ ap (λ (l : List ℕ). (118 ∷ th.version_text) ∷ (100 ∷ l) ∷ (99 ∷ th.changeset_text) ∷
          (116 ∷ th.time_text) ∷ (105 ∷ th.uid_text) ∷ (117 ∷ th.user_text) ∷ h.0.2) (sym tw.status)));
      id = tk.spells;
      version = th.version;
      changeset = th.changeset;
      time = th.time;
      uid = th.uid;
      user = th.user;
      what = tw.spells;
      limits = record { id = tk.limits; meta = th.limits; what = tw.limits };
    })

-- ---- what is spelled is read

line_parts : (line : List ℕ) (c : ChangeValue) (l : SpellsLine line c)
    → line ≡ joined 32 (fields_of c.key.kind l.id_text l.version_text (is_standing c.what) l.changeset_text l.time_text
    l.uid_text l.user_text l.fields)
line_parts line c l =
    l.parts ∙ ap (λ (t : List ℕ). joined 32 ((letter_of c.key.kind ∷ l.id_text) ∷ (118 ∷ l.version_text) ∷ (100 ∷ t) ∷
    (99 ∷ l.changeset_text) ∷ (116 ∷ l.time_text) ∷ (105 ∷ l.uid_text) ∷ (117 ∷ l.user_text) ∷ l.fields))
    (status_is c.what)

-- a line that spells a change holds no line end
pub line_lacks : (s : ℕ) (b : IsBlank s) (line : List ℕ) (c : ChangeValue) → s ≢ 32 → SpellsLine line c → Lacks s line
line_lacks s b line c other l =
    rw (line_parts line c l)
    (joined_lacks 32 s (fields_of c.key.kind l.id_text l.version_text (is_standing c.what) l.changeset_text l.time_text
    l.uid_text l.user_text l.fields) other (fields_lack s b line c l))

line_of : (line : List ℕ) (kind : Kind) (id : ℤ) (meta : MetaValue) (what : What) (head fields : List (List ℕ))
    (first : List ℕ) (v : Bool) → pieces 32 line ≡ first ∷ head
    → key_at (first ∷ head) ≡ Some (record { kind = kind; id = id }, head) → head_at head ≡ Some (v, meta, fields)
    → what_at kind v fields ≡ Some what → line_at line ≡ Some (record {
      key = record { kind = kind; id = id };
      meta =
          meta;
      what = what;
    })
unfolding line_at
line_of line kind id meta what head fields first v cut k h w = rw (cut, k, h, w) refl

-- the fields after the key
abbrev fields_after : (line : List ℕ) (c : ChangeValue) → SpellsLine line c → List (List ℕ)
fields_after line c s =
    (118 ∷ s.version_text) ∷ (100 ∷ visible_text (is_standing c.what)) ∷ (99 ∷ s.changeset_text) ∷ (116 ∷ s.time_text)
    ∷ (105 ∷ s.uid_text) ∷ (117 ∷ s.user_text) ∷ s.fields

line_cut : (line : List ℕ) (c : ChangeValue) (s : SpellsLine line c)
    → pieces 32 line ≡ (letter_of c.key.kind ∷ s.id_text) ∷ fields_after line c s
line_cut line c s =
    ap (pieces 32) (line_parts line c s)
    ∙ pieces-joined 32 (letter_of c.key.kind ∷ s.id_text) (fields_after line c s) (fields_lack 32 space line c s)

-- the key that the first field has is that of the change
pub first_key : (line : List ℕ) (c : ChangeValue) (s : SpellsLine line c) → key_at (pieces 32 line) ≡ Some (c.key, fields_after line c s)
first_key line c s =
    ap key_at (line_cut line c s) ∙ key_again c.key.kind c.key.id s.id_text (fields_after line c s) s.id s.limits.id

pub line_again : (line : List ℕ) (c : ChangeValue) → SpellsLine line c → line_at line ≡ Some c
unfolding line_at
line_again line c s =
    let head : List (List ℕ) = fields_after line c s in
    let cut : pieces 32 line ≡ (letter_of c.key.kind ∷ s.id_text) ∷ head = line_cut line c s in
    let spelled : SpellsHead head (is_standing c.what) c.meta s.fields = record {
      version_text = s.version_text;
      changeset_text = s.changeset_text;
      time_text = s.time_text;
      uid_text = s.uid_text;
      user_text = s.user_text;
      parts = refl;
      version = s.version;
      changeset = s.changeset;
      time = s.time;
      uid = s.uid;
      user = s.user;
      limits = s.limits.meta;
    } in
    line_of line c.key.kind c.key.id c.meta c.what head s.fields (letter_of c.key.kind ∷ s.id_text) (is_standing c.what)
    cut (key_again c.key.kind c.key.id s.id_text head s.id s.limits.id)
    (head_again head (is_standing c.what) c.meta s.fields spelled)
    (what_again c.key.kind s.fields c.what s.what s.limits.what)

-- one line spells at most one change
pub one_change : (line : List ℕ) (a b : ChangeValue) → SpellsLine line a → SpellsLine line b → a ≡ b
one_change line a b p q = same_Some a b (sym (line_again line a p) ∙ line_again line b q)

-- ---- what a reader answers

pub what_limits : (kind : Kind) (is_visible : Bool) (fields : List (List ℕ)) (r : Result What Refusal)
    → Gives (λ w. w) r (what_at kind is_visible fields) → IfOk r (λ w. IsWhat kind w)
what_limits kind is_visible fields (Ok w) e = (what_takes kind is_visible fields w e).limits
what_limits kind is_visible fields (Err error) e = tt

pub line_spelled : (line : List ℕ) (r : Result ChangeValue Refusal) → Gives (λ c. c) r (line_at line) → IfOk r (λ c. SpellsLine line c)
line_spelled line (Ok c) h = line_takes line c h
line_spelled line (Err e) h = tt

pub line_refused : (line : List ℕ) (r : Result ChangeValue Refusal) → Gives (λ c. c) r (line_at line) → IfErr r (LineStops line)
line_refused line (Ok c) h = tt
line_refused line (Err WantOfMemory) h = tt
line_refused line (Err (Fault why)) h = λ c s. let e = line_again line c s in let z : None ≡ Some c = sym h ∙ e in absurd cc

pub line_only : (line : List ℕ) (r : Result ChangeValue Refusal) → Gives (λ c. c) r (line_at line) → (c : ChangeValue)
    → SpellsLine line c → MatchResult r (λ d. d ≡ c) IsWant
line_only line (Ok d) h c s = same_Some d c (sym h ∙ line_again line c s)
line_only line (Err WantOfMemory) h c s = tt
line_only line (Err (Fault why)) h c s = absurd (line_refused line (Err (Fault why)) h c s)
