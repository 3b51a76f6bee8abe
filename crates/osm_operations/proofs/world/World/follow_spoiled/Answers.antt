use Rattle.std.proofs.Common.{◌≡◌, List, ℕ, Option, None, Some, inl, inr, refl, subst, true}
use Rattle.std.specs.Prelude.{Err, is_some}
use Rattle.osm_store.specs.Files.{Puts}
use Rattle.osm_store.specs.Stores.{files_of}
use Rattle.osm_runs.specs.Names.{file_name_of}
use Rattle.osm_runs.specs.declared.fault.RunFault.TheVariants.{WantOfMemory}
use Rattle.osm_operations.specs.Stepping.{IsSpoiledNow}
use Rattle.osm_operations.specs.declared.runs.Spoiled.{Spoiled}
use Rattle.osm_operations.proofs.RunLemmas.{killed_alone}
use Rattle.osm_operations.proofs.WorldLemmas.{spoiled_left, spoiled_to}
use Rattle.osm_operations.proofs.world.World.follow_spoiled.Goals as goal

pub returns-in-Err-clause-step : goal.returns-in-Err-clause-step
returns-in-Err-clause-step c =
    let s = c.args.setup.now in
    spoiled_to c.args.filter.now s.dir.now s.save.now c.args.number c.args.suffix (Some (Err WantOfMemory)) c.args.self.now
    (record c.args.self.now { store = c.spoil.new.store }) c.is_number.result c.is_number.ensures c.if-not-is_number.false
    (inl (refl, c.in-Err.ensures.refused)) refl refl

pub returns-in-Ok-None-clause-step : goal.returns-in-Ok-None-clause-step
returns-in-Ok-None-clause-step c =
    let s = c.args.setup.now in
    spoiled_to c.args.filter.now s.dir.now s.save.now c.args.number c.args.suffix None c.args.self.now
    (record c.args.self.now { store = c.spoil.new.store }) c.is_number.result c.is_number.ensures c.if-not-is_number.false
    (subst (λ (o : Option Spoiled). IsSpoiledNow (file_name_of s.dir.now c.args.number c.args.suffix) o (files_of c.args.self.now.store)
    (files_of c.spoil.new.store)) c.in-Ok-None.field-0-is c.in-Ok-None.ensures.spoiled) refl refl

pub returns-in-Ok-Some-clause-step : goal.returns-in-Ok-Some-clause-step
returns-in-Ok-Some-clause-step c =
    let s = c.args.setup.now in
    let now : IsSpoiledNow (file_name_of s.dir.now c.args.number c.args.suffix) (Some c.in-Ok-Some.spoiled) (files_of c.args.self.now.store)
    (files_of c.spoil.new.store) =
    subst (λ (o : Option Spoiled). IsSpoiledNow (file_name_of s.dir.now c.args.number c.args.suffix) o (files_of c.args.self.now.store)
    (files_of c.spoil.new.store)) c.in-Ok-Some.field-0-is c.in-Ok-Some.ensures.spoiled in
    rw c.progress_reply.ensures (spoiled_to c.args.filter.now s.dir.now s.save.now c.args.number c.args.suffix (Some c.follow-answer.result)
    c.args.self.now (record c.args.self.now { store = c.mend.new.store }) c.is_number.result c.is_number.ensures c.if-not-is_number.false
    (inr (record {
      bytes = c.in-Ok-Some.spoiled.bytes.items;
      there = now.1;
      during = files_of c.spoil.new.store;
      put = now.2;
      after = files_of c.follow-answer.new.store;
      answer = c.follow-answer.ensures.answer;
      back = subst (λ (n : List ℕ). is_some (files_of c.follow-answer.new.store n) ≡ true
          → Puts (files_of c.follow-answer.new.store) n (Some c.in-Ok-Some.spoiled.bytes.items) (files_of c.mend.new.store)) now.0 c.mend.ensures;
      law = c.laws_of_state.ensures.no_fault_beside_state;
    })) refl refl)

pub returns-in-Ok-Some-clause-left : goal.returns-in-Ok-Some-clause-left
returns-in-Ok-Some-clause-left c =
    let s = c.args.setup.now in
    rw c.progress_reply.ensures (spoiled_left c.args.calls (Some c.follow-answer.result) c.follow-answer.ensures.left
    (killed_alone c.args.filter.now s.dir.now s.save.now c.args.calls (files_of c.spoil.new.store) c.follow-answer.result c.follow-answer.ensures.lacks))
