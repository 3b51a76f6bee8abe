-- A list of a known file, read line by line while changes are laid over it.
use Rattle.std.proofs.Common.{◌≡◌, ℕ, ◌+◌, ◌<◌, ◌≤◌, List, [], ◌∷◌, ◌++◌, length, map, refl, sym, ap, subst, ◌∙◌, Some, None, Option, arith}
use Rattle.std.proofs.Common.{append_assoc, length-append}
use Rattle.std.proofs.lemmas.List.{append-nil, map-append}
use Rattle.std.specs.Prelude.{Err, Ok}
use Rattle.osm_store.specs.Frames.{MakesAtMost, StoreState}
use Rattle.osm_blocks.specs.Calls.{Advances, SpendsDown, puts_of, reads_ahead}
use Rattle.osm_blocks.specs.Frames.{ReadsOften}
use Rattle.osm_blocks.specs.Places.{HasFile, Place, left_of}
use Rattle.osm_blocks.specs.Writing.{Waiting}
use Rattle.osm_blocks.proofs.CallLemmas.{down_none}
use Rattle.osm_blocks.proofs.OftenLemmas.{often_none, often_then}
use Rattle.osm_save.specs.Lines.{ended}
use Rattle.osm_save.proofs.ItemLemmas.{Items, items_begun, items_done, items_more}
use Rattle.osm_save.specs.Reading.{items_at}
use Rattle.osm_save.proofs.TextLemmas.{ended-append}
use Rattle.osm_merge.specs.Calls.{ReadsTo, calls_ahead, puts_ahead}
use Rattle.osm_merge.specs.Faults.{IsDeviceFault, IsPlain}
use Rattle.osm_merge.specs.Laying.{Lays, LaysRest, Writes, next_at}
use Rattle.osm_merge.specs.Parts.{MergesPart, lines_part}
use Rattle.osm_merge.specs.Reading.{Refuses}
use Rattle.osm_merge.specs.declared.fault.MergeFault.{MergeFault}
use Rattle.osm_merge.proofs.CallLemmas.{advances_fails, advances_of, advances_then, line_pays, next_shorter, same_puts}
use Rattle.osm_merge.proofs.FrameLemmas.{has_still, known_still, often_fails, writes_after, writes_both, writes_none}
use Rattle.osm_merge.proofs.ItemLemmas.{items_stop, next_parts}
use Rattle.osm_merge.proofs.LineLemmas.{plain_refuses, refuses_all}

-- where a merge of so many lines stands: what of them was read and written, and how many calls are ahead
pub record Merging {E X K : Type 0} (lay : List E → List X → List X) (line : X → List ℕ) (key : X → K) (item : Option K → List ℕ → Option X)
    (es : List E) (many i : ℕ) (last : Option K) (rest : List E) (count : ℕ) (name : List ℕ) (a : StoreState) (p : Place) (w : Waiting)
    (b : StoreState) (q : Place) (v : Waiting) : Type 0 where
  pub values : List X
  pub put : List X
  pub laid : (xs : List X) → lay es (values ++ xs) ≡ put ++ lay rest xs
  pub out : Writes a w b v (ended (map line put))
  pub counted : count ≡ length put
  pub few : count + length rest ≤ i + length es
  pub read : (file : List ℕ) → HasFile a name file → Items key item many (left_of p file) i values last (left_of q file)
  pub frame : ReadsOften {T = Unit {0}} IsDeviceFault a b (Ok tt)
  pub spent : (file : List ℕ) → HasFile a name file → SpendsDown (calls_ahead w p file) (calls_ahead w q file) a.left b.left
  pub keeps : v.is_writing ≡ w.is_writing

pub merging_begun : {E X K : Type 0} (lay : List E → List X → List X) (line : X → List ℕ) (key : X → K) (item : Option K → List ℕ → Option X)
    (es : List E) (many : ℕ) (name : List ℕ) (a : StoreState) (p : Place) (w : Waiting) → Merging lay line key item es many 0 None es 0 name a p w a p w
merging_begun lay line key item es many name a p w = record {
  values = [];
  put = [];
  laid = λ xs. refl;
  out = writes_none a w;
  counted = refl;
  few = omega arith;
  read = λ file has. items_begun key item many (left_of p file);
  frame = often_none IsDeviceFault a tt;
  spent = λ file has. down_none (calls_ahead w p file) a.left;
  keeps = refl;
}

module _ {E X K : Type 0} {lay : List E → List X → List X} {line : X → List ℕ} {key : X → K} {item : Option K → List ℕ → Option X}
    {es rest : List E} {many i count : ℕ} {last : Option K} {name : List ℕ} {a b : StoreState} {p q : Place} {w v : Waiting}
    (h : Merging lay line key item es many i last rest count name a p w b q v) where
  texts : (xs ys : List X) → ended (map line xs) ++ ended (map line ys) ≡ ended (map line (xs ++ ys))
  texts xs ys = sym (ap ended (map-append line xs ys) ∙ ended-append (map line xs) (map line ys))

  pub still : (file : List ℕ) → HasFile a name file → HasFile b name file
  still file has = has_still a b tt name file h.frame has

  so_far : (file : List ℕ) → HasFile a name file
      → Advances {T = Unit {0}} IsDeviceFault (calls_ahead w p file) (λ _. calls_ahead w q file) a b (Ok tt)
  so_far file has = record { spent = h.spent file has; lacks = tt }

  -- the next line was passed
  passed : {T : Type 0} (new : Place) (c : StoreState) (x : T) (file : List ℕ) → HasFile a name file → ReadsTo b c name q new (Ok x)
      → Advances {T = Unit {0}} IsDeviceFault (calls_ahead w p file) (λ _. reads_ahead new file + puts_ahead w q file) a c (Ok tt)
  passed new c x file has read =
      advances_then (calls_ahead w p file) (λ _. reads_ahead new file + puts_ahead w q file) a b c tt x tt (so_far file has) (read file (still file has))
      (omega arith)

  -- the next line was passed, and what stands for its value was put
  pub merging_more : {T U : Type 0} {after : List E} {k : ℕ} {c d : StoreState} {u : Waiting} {y : T} {z : U} (x : X) (new : Place) → i < many
      → ReadsOften IsDeviceFault b c (Ok y) → c.stage ≡ b.stage → ReadsTo b c name q new (Ok y)
      → ((file : List ℕ) → HasFile b name file → next_at item last (left_of q file) ≡ Some (x, left_of new file))
      → Lays lay line rest x after k (Writes c v d u) → ReadsOften IsDeviceFault c d (Ok z)
      → MakesAtMost IsDeviceFault (puts_of v) c d (Ok z) → u.is_writing ≡ v.is_writing
      → Merging lay line key item es many (i + 1) (Some (key x)) after (count + k) name a p w d new u
  merging_more {after = after} {k = k} {c = c} {d = d} {u = u} {y = y} {z = z} x new lt frame stage reads next step put_frame put keeps = record {
    values = h.values ++ x ∷ [];
    put = h.put ++ step.put;
    laid = λ xs. ap (lay es) (append_assoc h.values (x ∷ []) xs) ∙ (h.laid (x ∷ xs) ∙ (ap (λ (l : List X). h.put ++ l) (step.laid xs)
        ∙ sym (append_assoc h.put step.put (lay after xs))));
    out = subst (λ (l : List ℕ). Writes a w d u l) (texts h.put step.put)
        (writes_both a b d w v u tt (ended (map line h.put)) (ended (map line step.put)) h.frame h.out
        (writes_after b c d v u y (ended (map line step.put)) frame stage step.out));
    counted = (let both = length-append h.put step.put in let m = h.counted in let n = step.many_are in omega (arith, both, m, n));
    few = (let f = h.few in let g = step.few in omega (arith, f, g));
    read = λ file has. (let p2 = next_parts item last (left_of q file) (left_of new file) x (next file (still file has)) in
        items_more key item many (left_of p file) i h.values last (left_of q file) p2.0 (left_of new file) x lt (h.read file has) p2.1 p2.2);
    frame = often_then {V = Unit {0}} IsDeviceFault a b d tt tt tt h.frame
        (often_then {V = Unit {0}} IsDeviceFault b c d y z tt frame put_frame);
    spent = λ file has.
        let pays = line_pays w q new file (next_shorter item last (left_of q file) (left_of new file) x (next file (still file has))) in
        let same = same_puts w v h.keeps in
        (advances_then {V = Unit {0}} (calls_ahead w p file) (λ _. calls_ahead w new file) a c d tt z tt (passed new c y file has reads)
        (advances_of (puts_of v) c d (Ok z) (known_still b c y frame (still file has).known) put) (omega (arith, pays, same))).spent;
    keeps = keeps ∙ h.keeps;
  }

  -- the next line wasn't read
  pub merging_unread : {T : Type 0} {new : Place} {c : StoreState} {fault : MergeFault} → i < many → ReadsOften {T = T} IsDeviceFault b c (Err fault)
      → ReadsTo {T = T} b c name q new (Err fault) → Refuses b name q (next_at item last) fault
      → MergesPart name (lines_part lay line key item es many) (Err fault) a p w c new v
  merging_unread {new = new} {c = c} {fault = fault} lt frame reads stops = record {
    merges = tt;
    refused = λ file has. refuses_all file fault (next_at item last (left_of q file)) (items_at key item many None (left_of p file))
        (stops file (still file has)) (items_stop key item many (left_of p file) i h.values last (left_of q file) lt (h.read file has));
    frame = often_fails IsDeviceFault a b c tt fault h.frame frame;
    calls = λ file has. advances_fails (calls_ahead w p file + puts_of w) (λ _. calls_ahead w new file) a b c tt fault (so_far file has)
        (reads file (still file has)) (omega arith);
    keeps = tt;
  }

  -- what stands for the value of the next line wasn't put
  pub merging_unput : {T U : Type 0} (new : Place) {end : Place} {c d : StoreState} {u : Waiting} {y : T} {fault : MergeFault}
      → ReadsOften IsDeviceFault b c (Ok y) → ReadsTo b c name q new (Ok y)
      → ReadsOften {T = U} IsDeviceFault c d (Err fault) → MakesAtMost {T = U} IsDeviceFault (puts_of v) c d (Err fault) → IsPlain fault
      → MergesPart name (lines_part lay line key item es many) (Err fault) a p w d end u
  merging_unput new {end = end} {c = c} {d = d} {y = y} {fault = fault} frame reads put_frame put plain = record {
    merges = tt;
    refused = λ file has. plain_refuses file fault (items_at key item many None (left_of p file)) plain;
    frame = often_fails IsDeviceFault a c d tt fault (often_then {V = Unit {0}} IsDeviceFault a b c tt y tt h.frame frame) put_frame;
    calls = λ file has.
        let same = same_puts w v h.keeps in
        advances_fails (calls_ahead w p file + puts_of w) (λ _. calls_ahead w end file) a c d tt fault (passed new c y file has reads)
        (advances_of (puts_of v) c d (Err fault) (known_still b c y frame (still file has).known) put) (omega (arith, same));
    keeps = tt;
  }

  -- all lines were read, and the rest was put
  pub merging_done : {U : Type 0} {k : ℕ} {c : StoreState} {u : Waiting} {z : U} → many ≤ i → LaysRest lay line rest k (Writes b v c u)
      → ReadsOften IsDeviceFault b c (Ok z) → MakesAtMost IsDeviceFault (puts_of v) b c (Ok z) → u.is_writing ≡ v.is_writing
      → MergesPart name (lines_part lay line key item es many) (Ok (count + k)) a p w c q u
  merging_done {k = k} {c = c} {u = u} {z = z} le end put_frame put keeps =
      let all : lay es h.values ≡ h.put ++ lay rest [] = ap (lay es) (sym (append-nil h.values)) ∙ h.laid [] in
      record {
        merges = record {
          value = h.values;
          read = λ file has. items_done key item many (left_of p file) i h.values last (left_of q file) le (h.read file has);
          given_is = (let both = ap length all ∙ length-append h.put (lay rest []) in let m = h.counted in let n = end.many_are in omega (arith, both, m, n));
          out = subst (λ (l : List ℕ). Writes a w c u l) (texts h.put (lay rest []) ∙ ap (λ (l : List X). ended (map line l)) (sym all))
              (writes_both a b c w v u tt (ended (map line h.put)) (ended (map line (lay rest []))) h.frame h.out end.out);
        };
        refused = tt;
        frame = often_then IsDeviceFault a b c tt z (count + k) h.frame put_frame;
        calls = λ file has.
            let same = same_puts w v h.keeps in
            advances_then (calls_ahead w p file + puts_of w) (λ _. calls_ahead w q file) a b c tt z (count + k) (so_far file has)
            (advances_of (puts_of v) b c (Ok z) (still file has).known put) (omega (arith, same));
        keeps = keeps ∙ h.keeps;
      }

  -- all lines were read, and the rest wasn't put
  pub merging_unlaid : {U : Type 0} {c : StoreState} {u : Waiting} {fault : MergeFault} → ReadsOften {T = U} IsDeviceFault b c (Err fault)
      → MakesAtMost {T = U} IsDeviceFault (puts_of v) b c (Err fault) → IsPlain fault
      → MergesPart name (lines_part lay line key item es many) (Err fault) a p w c q u
  merging_unlaid {c = c} {fault = fault} put_frame put plain = record {
    merges = tt;
    refused = λ file has. plain_refuses file fault (items_at key item many None (left_of p file)) plain;
    frame = often_fails IsDeviceFault a b c tt fault h.frame put_frame;
    calls = λ file has.
        let same = same_puts w v h.keeps in
        advances_fails (calls_ahead w p file + puts_of w) (λ _. calls_ahead w q file) a b c tt fault (so_far file has)
        (advances_of (puts_of v) b c (Err fault) (still file has).known put) (omega (arith, same));
    keeps = tt;
  }
