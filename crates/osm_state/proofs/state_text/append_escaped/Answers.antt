use Rattle.std.proofs.Common.{sym, ap, ◌∙◌, get_or, ◌++◌, ◌∷◌, []}
use Rattle.osm_state.proofs.TimeLemmas.{colon_pushed, other_pushed}
use Rattle.osm_state.proofs.state_text.append_escaped.Goals.{then-needs_backslash+in_ok-push, else-needs_backslash}
use Rattle.osm_state.proofs.state_text.append_escaped.Goals as goal

-- a colon adds two bytes, every other byte only itself
pub loop-byte-preserved : goal.loop-byte-preserved
loop-byte-preserved c =
    elim c.if-needs_backslash.branch [
      | then-needs_backslash+in_ok-push w ↦
          colon_pushed c.args.text.now.items c.loop-byte.text.items c.if-needs_backslash.text.items _ c.args.bytes.now
          c.loop-byte.byte-index c.loop-byte-test.true (sym c.needs_backslash.ensures ∙ w.if-needs_backslash.true)
          c.loop-byte.invariant (ap (λ v. v.items) w.text-is ∙ w.in_ok-push.ensures.items)
          c.in_ok-push-2.ensures.items
      | else-needs_backslash w ↦
          other_pushed c.args.text.now.items c.loop-byte.text.items _ c.args.bytes.now c.loop-byte.byte-index
          c.loop-byte-test.true (sym c.needs_backslash.ensures ∙ w.if-needs_backslash.false) c.loop-byte.invariant
          (c.in_ok-push-2.ensures.items ∙ ap (λ v. v.items ++ get_or c.args.bytes.now c.loop-byte.byte-index 0 ∷ [])
          w.text-is)
    ]
