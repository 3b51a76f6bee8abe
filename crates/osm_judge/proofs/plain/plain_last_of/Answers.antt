use Rattle.std.proofs.Common.{◌≡◌, ℕ, take, get_or, true, false, Some, ap, sym, ◌∙◌, rules, arith}
use Rattle.std.specs.Prelude.{if◌then◌else◌}
use Rattle.std.specs.Option.{option_copied}
use Rattle.osm_model.specs.Change.{ChangeValue}
use Rattle.osm_model.specs.Content.{last_of}
use Rattle.osm_model.specs.KeyOrder.{same_key}
use Rattle.osm_judge.proofs.PlainLemmas.{last_more}
use Rattle.osm_judge.proofs.plain.plain_last_of.Goals as goal
use Rattle.osm_judge.proofs.plain.plain_last_of.Goals.{then-is_eq, else-is_eq}

pub loop-change-preserved : goal.loop-change-preserved
loop-change-preserved c =
    let v : ChangeValue = c.change-item.result in
    let i : ℕ = c.loop-change.change-index in
    let here : get_or c.args.changes.now c.loop-change.change-index c.change-item.result ≡ c.change-item.result = search rules in
    let more = last_more c.args.changes.now c.loop-change.change-index c.change-item.result c.args.key (omega arith) here in
    elim c.if-is_eq.branch [
      | then-is_eq w ↦ (let test : same_key c.change-item.result.key c.args.key ≡ true = search rules in
          ap option_copied w.last-is
          ∙ sym (more
          ∙ ap (λ b. if b then Some c.change-item.result else last_of
          (take c.loop-change.change-index c.args.changes.now) c.args.key) test))
      | else-is_eq w ↦ (let test : same_key c.change-item.result.key c.args.key ≡ false = search rules in
          ap option_copied w.last-is
          ∙ (c.loop-change.invariant
          ∙ sym (more
          ∙ ap (λ b. if b then Some c.change-item.result else last_of
          (take c.loop-change.change-index c.args.changes.now) c.args.key) test)))
    ]
