-- What is written spells what was written: a line, and a file.
use Rattle.std.proofs.Common.{◌≡◌, ℕ, false, List, [], ◌∷◌, ◌++◌, refl, ap, arith}
use Rattle.std.specs.Prelude.{◌≢◌, ◌==◌, decimal}
use Rattle.std.specs.Fmt.{signed_decimal}
use Rattle.std.specs.List.{AllByRecursion}
use Rattle.std.proofs.lemmas.Bool.Decides.{nat_tests}
use Rattle.osm_model.specs.Batch.{IsBatch}
use Rattle.osm_model.specs.Change.{ChangeValue, IsChange}
use Rattle.osm_model.specs.Data.{IsData}
use Rattle.osm_model.specs.Meta.{IsMeta}
use Rattle.osm_model.specs.declared.kind.Kind.{Kind}
use Rattle.osm_model.specs.declared.kind.Kind.TheVariants.{Node, Way, Relation}
use Rattle.osm_model.specs.CivilTime.{time_text}
use Rattle.osm_opl.specs.File.{SpellsData, SpellsFile, SpellsLines, SpellsOpl, none, skipped, change}
use Rattle.osm_opl.specs.Line.{SpellsLine}
use Rattle.osm_reading.specs.Lines.{is_skipped, lines_of, without_cr}
use Rattle.osm_opl.specs.Lists.{letter_of}
use Rattle.osm_reading.specs.Pieces.{pieces}
use Rattle.osm_opl.specs.Written.{line_text, opl_text, escaped_text}
use Rattle.osm_model.proofs.CivilTimeLemmas.{time_text_shows}
use Rattle.osm_opl.proofs.LineLaws.{line_lacks}
use Rattle.osm_opl.proofs.ListLaws.{line_feed, carriage_return}
use Rattle.osm_reading.specs.Pieces.{Lacks}
use Rattle.osm_reading.proofs.PieceLemmas.{pieces-more}
use Rattle.osm_opl.proofs.WrittenNumbers.{positive_spells, id_spells}
use Rattle.osm_opl.proofs.WrittenTexts.{text_is_spelled}
use Rattle.osm_opl.proofs.WrittenFields.{what_fields, what_spells, line_whole}

-- ---- lines

pub line_spells : (c : ChangeValue) → IsChange c → SpellsLine (line_text c) c
line_spells c is =
    let meta : IsMeta c.meta = is.meta in
    record {
      id_text = signed_decimal c.key.id;
      version_text = decimal c.meta.version;
      changeset_text = decimal c.meta.changeset;
      time_text = time_text c.meta.time;
      uid_text = decimal c.meta.uid;
      user_text = escaped_text c.meta.user;
      fields = what_fields c.key.kind c.what;
      parts = line_whole c;
      id = id_spells c.key.id is.id;
      version = positive_spells c.meta.version meta.version;
      changeset = positive_spells c.meta.changeset meta.changeset;
      time = record { shows = time_text_shows c.meta.time meta.time.high; limits = meta.time };
      uid = positive_spells c.meta.uid meta.uid;
      user = text_is_spelled c.meta.user meta.user;
      what = what_spells c.key.kind c.what is.what;
      limits = is;
    }

-- ---- files

no_cr : (line : List ℕ) → Lacks 13 line → without_cr line ≡ line
no_cr [] h = refl
no_cr (b ∷ []) h = let other : b ≢ 13 = h.0 in let t : (b == 13) ≡ false = grind (arith, nat_tests) in rw t refl
no_cr (b ∷ c ∷ bs) h = ap (λ (l : List ℕ). b ∷ l) (no_cr (c ∷ bs) h.1)

first_letter : (kind : Kind) → (letter_of kind == 35) ≡ false
first_letter Node = refl
first_letter Way = refl
first_letter Relation = refl

counts : (c : ChangeValue) → is_skipped (line_text c) ≡ false
unfolding line_text
counts c = first_letter c.key.kind

lines_spell : (batch : List ChangeValue) → AllByRecursion IsChange batch → SpellsLines (lines_of (opl_text batch)) batch
unfolding opl_text pieces
lines_spell [] is = skipped [] [] [] refl none
lines_spell (c ∷ cs) is =
    let line : SpellsLine (line_text c) c = line_spells c is.0 in
    let cut : pieces 10 (line_text c ++ 10 ∷ opl_text cs) ≡ line_text c ∷ pieces 10 (opl_text cs) =
    pieces-more 10 (line_text c) (opl_text cs) (line_lacks 10 line_feed (line_text c) c (λ e. omega (arith, e))
    line) in
    let kept : without_cr (line_text c) ≡ line_text c = no_cr (line_text c) (line_lacks 13 carriage_return (line_text c) c (λ e. omega (arith, e)) line) in
    rw (cut, kept) (change (line_text c) (lines_of (opl_text cs)) c cs (counts c) line (lines_spell cs is.1))

written_spells : (Limits : List ChangeValue → Type 0) (changes : List ChangeValue) → AllByRecursion IsChange changes
    → Limits changes → SpellsFile Limits (opl_text changes) changes
written_spells Limits changes are limits = record { lines = lines_spell changes are; limits = limits }

pub text_spells : (batch : List ChangeValue) → IsBatch batch → SpellsOpl (opl_text batch) batch
text_spells batch is = written_spells IsBatch batch is.each is

pub data_spells : (objects : List ChangeValue) → IsData objects → SpellsData (opl_text objects) objects
data_spells objects is = written_spells IsData objects is.limits is
