-- What calls one after the other fill of a file that was begun, and what a file has from a place on.
use Rattle.std.proofs.Common.{◌≡◌, ℕ, List, [], ◌∷◌, ◌++◌, Some, refl, sym, ap, subst, ◌∙◌, append_assoc}
use Rattle.std.specs.Prelude.{Bool, IsTrue, Vec}
use Rattle.std.specs.declared.alloc.Global.{Global}
use Rattle.std.proofs.lemmas.List.{append-nil}
use Rattle.osm_model.specs.Change.{ChangeValue}
use Rattle.osm_o5c.specs.File.{end_byte}
use Rattle.osm_o5c.specs.Written.{after_change, change_text, objects_text}
use Rattle.osm_o5c.specs.declared.writer.Writer.{Writer}
use Rattle.osm_opl.specs.Written.{line_text, opl_text}
use Rattle.osm_store.specs.Frames.{IsKnown, StoreState}
use Rattle.osm_store.specs.Files.{Files, Puts}
use Rattle.osm_range.specs.Steps.Writing.{o5c_ahead}
use Rattle.osm_runs.specs.Filling.{Fills, Lacks}
use Rattle.osm_runs.proofs.FillLemmas.{fills_as, fills_by, lacks_all, lacks_nothing}

-- all bytes that were made were appended
pub fills_all : (a b : StoreState) (bytes : List ℕ)
    → (IsKnown a → (name text : List ℕ) → a.stage ≡ Some (name, text) → b.stage ≡ Some (name, text ++ bytes)) → Fills a b bytes []
fills_all a b bytes appended = fills_as a b (bytes ++ []) [] bytes [] (fills_by a b bytes [] appended) (sym (append-nil bytes)) refl

-- a file that was begun, filled and put in its place
pub puts_whole : (a b c d : StoreState) (name whole : List ℕ) → b.files ≡ a.files → b.is_known ≡ a.is_known → c.files ≡ b.files
    → c.is_known ≡ b.is_known → (IsKnown a → b.stage ≡ Some (name, [])) → Fills b c whole []
    → (IsKnown c → (n text : List ℕ) → c.stage ≡ Some (n, text) → Puts c.files n (Some text) d.files)
    → IsKnown a → Puts a.files name (Some whole) d.files
puts_whole a b c d name whole files_b known_b files_c known_c begun fills put = λ known.
    let in_b : IsKnown b = subst (λ (t : Bool). IsTrue t) (sym known_b) known in
    let in_c : IsKnown c = subst (λ (t : Bool). IsTrue t) (sym known_c) in_b in
    let filled : Lacks c name [] whole = fills in_b name whole (lacks_all b name whole (begun known)) in
    subst (λ (f : Files). Puts f name (Some whole) d.files) (files_c ∙ files_b) (put in_c name whole (lacks_nothing c name whole filled))

-- ---- what a file has from a place on

pub opl_ends : (made : List ℕ) → made ++ opl_text [] ≡ made
unfolding opl_text
opl_ends made = append-nil made

-- a line and its LF were made
pub opl_goes_on : (old new : List ℕ) (change : ChangeValue) (changes : List ChangeValue)
    → new ≡ (old ++ line_text change) ++ 10 ∷ [] → old ++ opl_text (change ∷ changes) ≡ new ++ opl_text changes
unfolding opl_text
opl_goes_on old new change changes made =
    rw made (sym (append_assoc (old ++ line_text change) (10 ∷ []) (opl_text changes) ∙ append_assoc old (line_text change) (10 ∷ opl_text changes)))

-- a change that is written after strings were forgotten
pub o5c_goes_on : (old mid new : Writer) (change : ChangeValue) (changes : List ChangeValue) → mid.out ≡ old.out
    → ((cs : List ChangeValue) → objects_text mid.kind mid.state cs ≡ objects_text old.kind old.state cs)
    → new.out.items ≡ mid.out.items ++ change_text mid.kind mid.state change
    → new.state ≡ after_change mid.kind mid.state change → new.kind ≡ Some change.key.kind
    → o5c_ahead old (change ∷ changes) ≡ o5c_ahead new changes
o5c_goes_on old mid new change changes out same text state kind =
    let rest : List ℕ = objects_text (Some change.key.kind) (after_change mid.kind mid.state change) changes in
    let written : List ℕ = change_text mid.kind mid.state change in
    let before : o5c_ahead old (change ∷ changes) ≡ (mid.out.items ++ (written ++ rest)) ++ end_byte ∷ [] =
    ap (λ (o : List ℕ). (o ++ objects_text old.kind old.state (change ∷ changes)) ++ end_byte ∷ []) (sym (ap (λ (v : Vec ℕ Global). v.items) out))
    ∙ ap (λ (t : List ℕ). (mid.out.items ++ t) ++ end_byte ∷ []) (sym (same (change ∷ changes))) in
    let after : o5c_ahead new changes ≡ ((mid.out.items ++ written) ++ rest) ++ end_byte ∷ [] = rw (text, state, kind) refl in
    before ∙ (ap (λ (t : List ℕ). t ++ end_byte ∷ []) (sym (append_assoc mid.out.items written rest)) ∙ sym after)
