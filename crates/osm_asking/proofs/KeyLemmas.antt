-- The name of a block.
use Rattle.std.proofs.Common.{◌≡◌, ℕ, List, Some, ◌++◌, drop, ap, ◌∙◌, append_assoc, arith, lit≤}
use Rattle.std.specs.Prelude.{◌≢◌}
use Rattle.std.specs.Fmt.{signed_decimal}
use Rattle.osm_model.specs.Change.{ChangeValue}
use Rattle.osm_model.specs.Limits.{IsId}
use Rattle.osm_model.specs.declared.kind.Kind.{Kind}
use Rattle.osm_model.specs.declared.kind.Kind.TheVariants.{Node, Way, Relation}
use Rattle.osm_opl.specs.Line.{status_text}
use Rattle.osm_opl.specs.Lists.{letter_of}
use Rattle.osm_opl.specs.Written.{key_text, line_text, meta_text, what_text}
use Rattle.osm_opl.proofs.NumberLaws.{id_lacks}
use Rattle.osm_opl.proofs.WrittenNumbers.{id_spells}
use Rattle.osm_reading.specs.Pieces.{cut_at}
use Rattle.osm_reading.proofs.PieceLemmas.{cut_again}
use Rattle.osm_asking.specs.Fingerprint.{before_cut, first_word}

letter_isnt : (kind : Kind) → letter_of kind ≢ 32
letter_isnt Node = λ e. omega (arith, e)
letter_isnt Way = λ e. omega (arith, e)
letter_isnt Relation = λ e. omega (arith, e)

-- the line of an object begins with its key and a blank
pub key_cut : (c : ChangeValue) → IsId c.key.id → (rest : List ℕ) × (cut_at 32 (line_text c) ≡ Some (key_text c.key, rest))
unfolding line_text
key_cut c is =
    let rest : List ℕ = drop 1 (meta_text (status_text c.what) c.meta ++ what_text c.key.kind c.what) in
    let lacks = id_lacks 32 (signed_decimal c.key.id) c.key.id (lit≤ tt) (λ e. omega (arith, e)) (λ e. omega (arith, e)) (id_spells c.key.id is) in (
      rest,
      ap (cut_at 32) (append_assoc (key_text c.key) (meta_text (status_text c.what) c.meta) (what_text c.key.kind c.what))
          ∙ cut_again 32 (key_text c.key) rest (letter_isnt c.key.kind, lacks),
    )

-- it is a key, as OPL writes it
pub key_named : (c : ChangeValue) → IsId c.key.id → first_word (line_text c) ≡ key_text c.key
key_named c is = ap (before_cut (line_text c)) (key_cut c is).1
