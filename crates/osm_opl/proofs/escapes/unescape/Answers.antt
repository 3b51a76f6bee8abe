use Rattle.std.proofs.Common.{◌≡◌, [], ◌∷◌, ◌++◌, None, refl, rules, sym, ◌∙◌}
use Rattle.std.specs.Char.{encode_utf8}
use Rattle.std.specs.Prelude.{string_bytes}
use Rattle.osm_reading.specs.Pieces.{pieces}
use Rattle.osm_reading.specs.Answers.{Stops}
use Rattle.osm_opl.specs.Reading.{runs_at, text_at}
use Rattle.osm_opl.proofs.ListLemmas.{char_long, escape_none, escape_open, put_before-nothing, run_long, run_none, run_read, text_whole}
use Rattle.osm_opl.proofs.escapes.unescape.Goals as goal

pub loop-text-init : goal.loop-text-init
loop-text-init c =
    let e : string_bytes c.in_ok-text.text ≡ [] = c.in_ok-text.ensures.none in
    rw e (sym (put_before-nothing (runs_at (pieces 37 c.args.bytes.now))))

pub returns-in_err-read_run : goal.returns-in_err-read_run
returns-in_err-read_run c =
    let none : text_at c.args.bytes.now ≡ None =
    run_none c.args.bytes.now (string_bytes c.loop-text.text) c.cut.result.0.now (pieces 37 c.loop-text.rest.now) _
    c.loop-text.invariant c.cut.ensures.pieces c.in_err-read_run.ensures in
    search (rules, none)

pub returns-in_err-append_run : goal.returns-in_err-append_run
returns-in_err-append_run c =
    let failed : Stops c.in_err-append_run.field-0.0 (text_at c.args.bytes.now) =
    run_long c.args.bytes.now (string_bytes c.loop-text.text) c.cut.result.0.now c.in_ok-read_run.field-0.now
    (pieces 37 c.loop-text.rest.now) _ c.in_err-append_run.field-0.0 c.loop-text.invariant c.cut.ensures.pieces
    c.in_ok-read_run.ensures c.in_err-append_run.ensures.refused in
    search (rules, failed)

pub returns-in_default : goal.returns-in_default
returns-in_default c =
    let only : pieces 37 c.loop-text.rest.now ≡ c.cut.result.0.now ∷ [] = rw c.in_default.is at c.cut.ensures.pieces in
    text_whole c.args.bytes.now (string_bytes c.loop-text.text) (string_bytes c.append_run.new.text) c.cut.result.0.now
    c.in_ok-read_run.field-0.now (pieces 37 c.loop-text.rest.now) c.loop-text.invariant only
    c.in_ok-read_run.ensures c.in_ok-append_run.ensures.ok c.in_ok-append_run.ensures.short

pub returns-in_default-after : goal.returns-in_default-after
returns-in_default-after c =
    let first : pieces 37 c.loop-text.rest.now ≡ c.cut.result.0.now ∷ pieces 37 c.in-Some.escape.now = rw c.in-Some.is at c.cut.ensures.pieces in
    let second : pieces 37 c.in-Some.escape.now ≡ c.cut-in-loop-text.result.0.now ∷ [] = rw c.in_default-after.is at c.cut-in-loop-text.ensures.pieces in
    escape_open c.args.bytes.now (string_bytes c.loop-text.text) c.cut.result.0.now c.cut-in-loop-text.result.0.now
    (pieces 37 c.loop-text.rest.now) c.loop-text.invariant (first ∙ rw second refl)

pub returns-in_err-read_escape : goal.returns-in_err-read_escape
returns-in_err-read_escape c =
    let first : pieces 37 c.loop-text.rest.now ≡ c.cut.result.0.now ∷ pieces 37 c.in-Some.escape.now = rw c.in-Some.is at c.cut.ensures.pieces in
    let second : pieces 37 c.in-Some.escape.now ≡ c.cut-in-loop-text.result.0.now ∷ pieces 37
    c.in-Some-after.after.now = rw c.in-Some-after.is at c.cut-in-loop-text.ensures.pieces in
    let none : text_at c.args.bytes.now ≡ None = escape_none c.args.bytes.now (string_bytes c.loop-text.text)
    c.cut.result.0.now c.cut-in-loop-text.result.0.now (pieces 37 c.loop-text.rest.now)
    (pieces 37 c.in-Some-after.after.now) c.loop-text.invariant (first ∙ rw second refl)
    c.in_err-read_escape.ensures in
    search (rules, none)

pub returns-in_err-append_char : goal.returns-in_err-append_char
returns-in_err-append_char c =
    let first : pieces 37 c.loop-text.rest.now ≡ c.cut.result.0.now ∷ pieces 37 c.in-Some.escape.now = rw c.in-Some.is at c.cut.ensures.pieces in
    let second : pieces 37 c.in-Some.escape.now ≡ c.cut-in-loop-text.result.0.now ∷ pieces 37
    c.in-Some-after.after.now = rw c.in-Some-after.is at c.cut-in-loop-text.ensures.pieces in
    let read = run_read (string_bytes c.loop-text.text) c.cut.result.0.now c.in_ok-read_run.field-0.now
    (string_bytes c.append_run.new.text) (string_bytes c.append_run.new.text
    ++ encode_utf8 c.in_ok-read_escape.field-0) (pieces 37 c.loop-text.rest.now)
    (pieces 37 c.in-Some-after.after.now) c.cut-in-loop-text.result.0.now c.in_ok-read_escape.field-0
    (runs_at (pieces 37 c.args.bytes.now)) c.loop-text.invariant (first ∙ rw second refl) c.in_ok-read_run.ensures
    c.in_ok-read_escape.ensures c.in_ok-append_run.ensures.ok refl in
    let failed : Stops c.in_err-append_char.field-0.0 (text_at c.args.bytes.now) =
    char_long c.args.bytes.now (string_bytes c.append_run.new.text ++ encode_utf8 c.in_ok-read_escape.field-0)
    (runs_at (pieces 37 c.in-Some-after.after.now)) c.in_err-append_char.field-0.0 read
    c.in_err-append_char.ensures.refused in
    search (rules, failed)

pub loop-text-preserved : goal.loop-text-preserved
loop-text-preserved c =
    let first : pieces 37 c.loop-text.rest.now ≡ c.cut.result.0.now ∷ pieces 37 c.in-Some.escape.now = rw c.in-Some.is at c.cut.ensures.pieces in
    let second : pieces 37 c.in-Some.escape.now ≡ c.cut-in-loop-text.result.0.now ∷ pieces 37
    c.in-Some-after.after.now = rw c.in-Some-after.is at c.cut-in-loop-text.ensures.pieces in
    run_read (string_bytes c.loop-text.text) c.cut.result.0.now c.in_ok-read_run.field-0.now
    (string_bytes c.append_run.new.text) (string_bytes c.append_char.new.text) (pieces 37 c.loop-text.rest.now)
    (pieces 37 c.in-Some-after.after.now) c.cut-in-loop-text.result.0.now c.in_ok-read_escape.field-0
    (runs_at (pieces 37 c.args.bytes.now)) c.loop-text.invariant (first ∙ rw second refl) c.in_ok-read_run.ensures
    c.in_ok-read_escape.ensures c.in_ok-append_run.ensures.ok c.in_ok-append_char.ensures.ok
