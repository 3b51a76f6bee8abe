-- Two files that are read again, and how many calls that makes.
use Rattle.std.proofs.Common.{ℕ, List, Option, arith, subst, sym, ◌∙◌}
use Rattle.std.specs.Prelude.{Bool, IsTrue, Result, Ok, Err, IfErr, IfOk}
use Rattle.osm_store.specs.Files.{SpendsAtMost}
use Rattle.osm_store.specs.Frames.{ReadsBetween, StoreState}
use Rattle.osm_store.proofs.FileLemmas.{spends_both}
use Rattle.osm_store.proofs.FrameLemmas.{failed_after, fewer_after, most_both}
use Rattle.osm_kept.specs.Refusal.{IsDeviceFault, IsOfOtherJournal}
use Rattle.osm_kept.specs.declared.fault.KeptFault.{KeptFault}

-- a second reading that is never done, after a first that made no more than two calls
pub reads_again : {T U : Type 0} (a b c : StoreState) (fault : KeptFault) (r : Result U KeptFault)
    → ReadsBetween {T = T} IsDeviceFault 2 2 a b (Err fault) → SpendsAtMost 2 a.left b.left → IfOk r (λ x. ⊥)
    → ReadsBetween IsDeviceFault 2 2 b c r → ReadsBetween IsDeviceFault 2 4 a c r
reads_again a b c fault (Ok x) f few never g = absurd never
reads_again a b c fault (Err e) f few never g = record {
  files = g.files ∙ f.files;
  makes = record {
    known = g.makes.known ∙ f.makes.known;
    left = spends_both 0 0 0 a.left b.left c.left (omega arith) f.makes.left g.makes.left;
    failures = (let before = f.makes.failures in let after = g.makes.failures in omega (arith, before, after));
    spent = tt;
    failed = λ blame. failed_after a.failures b.failures c.failures f.makes.failures g.makes.failures (g.makes.failed blame);
  };
  at_most = record {
    spent = tt;
    lacks = λ sure blame. fewer_after 2 2 4 a.left b.left (omega arith) few
        (g.at_most.lacks (subst (λ (k : Bool). IsTrue k) (sym f.makes.known) sure) blame);
  };
}

-- both files were read, by one call each
pub both_spent : {T : Type 0} (a b c : Option ℕ) (r : Result T KeptFault) → SpendsAtMost 1 a b → SpendsAtMost 1 b c
    → IfErr r (λ fault. IsOfOtherJournal fault → SpendsAtMost 2 a c)
both_spent a b c (Ok x) first second = tt
both_spent a b c (Err fault) first second = λ is. most_both 1 1 2 a b c (omega arith) first second
