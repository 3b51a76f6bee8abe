-- What a bad line says about its script, and how far a script was answered.
use Rattle.std.proofs.Common.{◌≡◌, ℕ, List, [], ◌∷◌, ◌++◌, refl, ap, sym, ◌∙◌, Option, Some, None, append-nil, subst}
use Rattle.std.proofs.lemmas.List.Elements.{filter-append}
use Rattle.std.specs.Io.KnownBytes.{Consumes, IsAtEnd}
use Rattle.std.specs.List.{AllZip}
use Rattle.std.specs.Prelude.{not, IfSome}
use Rattle.osm_model.specs.Filter.{FilterValue, everything}
use Rattle.osm_reading.specs.Lines.{lines_of, is_skipped}
use Rattle.osm_script.specs.Replay.{ReplayFault, ReplayLeaves}
use Rattle.osm_script.specs.Replies.{reply_text}
use Rattle.osm_script.specs.Steps.Replaying.{IsAnswered, AnswerStops}
use Rattle.osm_script.specs.Script.{IsEventLine, ScriptOf, IsBadLine, unskipped}
use Rattle.std.proofs.lemmas.List.{flat_map_more}
use Rattle.osm_world.specs.Correct.{IsRun}
use Rattle.osm_world.specs.Step.{Step}
use Rattle.osm_world.specs.World.{WorldValue, new_world, new_world_of}
use Rattle.osm_world.specs.declared.event.Event.{Event}
use Rattle.osm_world.specs.declared.event.Reply.{Reply}
use Rattle.osm_script.specs.declared.fault.ScriptFault.{ScriptFault}
use Rattle.osm_script.specs.declared.fault.ScriptFault.TheVariants.{WantOfMemory, WriteFault, BadScript}

-- each line that isn't skipped is an event
at_line : (ls after : List (List ℕ)) (line : List ℕ) (es : List Event) → AllZip IsEventLine (ls ++ line ∷ after) es → (e : Event) × IsEventLine line e
at_line [] after line [] h = absurd h
at_line [] after line (e ∷ es) h = (e, h.0)
at_line (l ∷ ls) after line [] h = absurd h
at_line (l ∷ ls) after line (e ∷ es) h = at_line ls after line es h.1

-- so a text with a bad line is no script
pub bad_line_none : (script : List ℕ) (number : ℕ) → IsBadLine script number → (events : List Event) → ScriptOf script events → ⊥
bad_line_none script number bad events is =
    let said : unskipped (lines_of script) ≡ unskipped bad.before ++ bad.line ∷ unskipped bad.after = ap unskipped bad.parts
    ∙ rw (filter-append (λ (l : List ℕ). not (is_skipped l)) bad.before (bad.line ∷ bad.after), bad.said) refl in
    let here : (e : Event) × IsEventLine bad.line e = at_line (unskipped bad.before) (unskipped bad.after) bad.line events (rw said at is) in
    bad.none here.0 here.1

-- what was read to the end is all that the reader had
pub all_read : (old new : Option (List ℕ)) (bytes : List ℕ) (P : List ℕ → Type 0) → Consumes old new bytes → IsAtEnd new → P bytes → IfSome old P
all_read None new bytes P c e p = tt
all_read (Some xs) None bytes P c e p = absurd c
all_read (Some xs) (Some ys) bytes P c e p =
    let all : xs ≡ bytes = c ∙ (ap (λ (zs : List ℕ). bytes ++ zs) e ∙ append-nil bytes) in
    subst P (sym all) p

-- what a fault says about the bytes that were read, it says about all of them
pub script_fault : (old new : Option (List ℕ)) (script : List ℕ) (fault : ScriptFault) → Consumes old new script
    → IsAtEnd new → AnswerStops script fault → ReplayFault old new fault
script_fault old new script WantOfMemory c e h = tt
script_fault old new script (BadScript line) c e h =
    all_read old new script (λ s. IsBadLine s line × ((events : List Event) → ScriptOf s events → ⊥)) c e
    (h, bad_line_none script line h)
script_fault old new script fault c e h = absurd h

-- every fault but a failed write leaves nothing written
pub silent : (input old new : Option (List ℕ)) (fault : ScriptFault) → ReplayLeaves input old new fault → (fault ≡ WriteFault → ⊥) → new ≡ old
silent input old new WriteFault h not_written = absurd (not_written refl)
silent input old new fault h not_written = h

-- what the laws of runs say about one more step
abbrev pub RunsOn : Type 0
RunsOn = (f : FilterValue) (events : List Event) (replies : List Reply) (w : WorldValue) (e : Event) (r : Reply) (v : WorldValue)
    → IsRun f events replies w → Step w e r v → IsRun f (events ++ e ∷ []) (replies ++ r ∷ []) v

-- no event is answered by a new world
pub answered_none : ((f : FilterValue) → IsRun f [] [] (new_world_of f)) → (world : WorldValue) (text : List ℕ) → world ≡ new_world → text ≡ []
    → IsAnswered [] world text
answered_none first world text new none = record {
  replies = [];
  is_run = subst (IsRun everything [] []) (sym new) (first everything);
  text_is = none;
}

-- one more event is answered
pub answered_more : (next : RunsOn) (events : List Event) (old : WorldValue) (text : List ℕ) (event : Event) (reply : Reply) (new : WorldValue) (more : List ℕ)
    → IsAnswered events old text → Step old event reply new → more ≡ text ++ reply_text reply → IsAnswered (events ++ event ∷ []) new more
answered_more next events old text event reply new more a step is = record {
  replies = a.replies ++ reply ∷ [];
  is_run = next everything events a.replies old event reply new a.is_run step;
  text_is = is ∙ (ap (λ (xs : List ℕ). xs ++ reply_text reply) a.text_is ∙ flat_map_more reply_text [] a.replies reply);
}
