use Rattle.std.proofs.Common.{◌≡◌, ◌++◌, ◌∙◌, List, ℕ, ap, append_assoc, rules}
use Rattle.std.specs.Prelude.{not}
use Rattle.osm_opl.specs.Flat.{meta_of}
use Rattle.osm_opl.specs.Line.{status_text}
use Rattle.osm_opl.specs.Steps.Writing.{line_start, rest_text}
use Rattle.osm_opl.specs.Written.{visible_text}
use Rattle.osm_opl.proofs.WrittenLemmas.{line_parts}
use Rattle.osm_opl.proofs.lines.append_parts.Goals as goal

pub returns-clause-ok : goal.returns-clause-ok
returns-clause-ok c =
    let change = c.args.change.now in
    let is_visible = not c.match-matches.matches in
    let name : c.as_str.result.now ≡ c.meta-meta.result.now.user = c.as_str.ensures.text ∙ c.user.ensures in
    let meta : meta_of c.numbers_of.result c.as_str.result.now ≡ change.meta =
    ap (meta_of c.numbers_of.result) name ∙ c.numbers_of.ensures.all ∙ c.meta-meta.ensures in
    let start : c.write_start.new.out.items ≡ c.args.out.now.items ++ line_start change.key is_visible change.meta =
    rw (← meta, ← c.key-key.ensures.key) c.in_ok-write_start.ensures.ok in
    let status : visible_text is_visible ≡ status_text change.what = grind rules in
    let rest : c.write_rest.new.out.items ≡ c.write_start.new.out.items ++ rest_text change.key.kind change.what =
    rw (← c.key-key.ensures.key, ← c.what-2.ensures) c.in_ok-write_rest.ensures.ok in
    rest ∙ ap (λ (l : List ℕ). l ++ rest_text change.key.kind change.what) start
    ∙ append_assoc c.args.out.now.items (line_start change.key is_visible change.meta) (rest_text change.key.kind change.what)
    ∙ ap (λ (l : List ℕ). c.args.out.now.items ++ l) (line_parts change is_visible status)
