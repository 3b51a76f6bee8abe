-- Objects that are counted by their keys, while net changes are laid over them.
use Rattle.std.proofs.Common.{◌≡◌, ℕ, suc, ◌+◌, ◌-◌, ◌<◌, ◌≤◌, List, [], ◌∷◌, ◌++◌, length, refl, sym, ap, subst, ◌∙◌, Some, None, Option, arith, length-append}
use Rattle.std.proofs.lemmas.Option.{same_Some}
use Rattle.std.specs.Prelude.{Bool, ◌&&◌, if◌then◌else◌}
use Rattle.std.specs.Str.{bytes_eq}
use Rattle.std.specs.declared.cmp.Ordering.TheVariants.{Less, Equal, Greater}
use Rattle.osm_model.specs.Change.{ChangeValue}
use Rattle.osm_model.specs.Filter.{FilterValue, keeps}
use Rattle.osm_model.specs.KeyOrder.{key_cmp}
use Rattle.osm_model.specs.declared.kind.Key.{Key}
use Rattle.osm_net.specs.Laid.{laid_over, put_before}
use Rattle.osm_net.specs.Net.{NetEntry}
use Rattle.osm_opl.specs.Line.{SpellsLine}
use Rattle.osm_opl.specs.Reading.{line_at}
use Rattle.osm_opl.specs.Written.{line_text}
use Rattle.osm_opl.proofs.LineLaws.{line_takes}
use Rattle.osm_reading.specs.Pieces.{cut_at}
use Rattle.osm_reading.specs.Answers.{and_then}
use Rattle.osm_reading.proofs.StepLemmas.{guard_some, some_then}
use Rattle.osm_save.specs.Reading.{is_above, items_at, object_at}
use Rattle.osm_merge.specs.Counting.{CountsBelow, CountsOne}
use Rattle.osm_merge.specs.Laying.{next_at}
use Rattle.osm_merge.specs.Reading.{LineStops}
use Rattle.osm_merge.specs.declared.fault.MergeFault.{MergeFault}
use Rattle.osm_merge.proofs.LineLemmas.{refuses_all}
use Rattle.osm_merge.proofs.ObjectLemmas.{over_above, over_at, over_below, over_none, over_nothing}

-- ---- lines

abbrev is_read : FilterValue → Option Key → List ℕ → ChangeValue → Bool
is_read f last line c = bytes_eq (line_text c) line && keeps f c && is_above key_cmp last c.key

-- the line that an object is read from spells it
pub object_spells : (f : FilterValue) (last : Option Key) (line : List ℕ) (c : ChangeValue) → object_at f last line ≡ Some c → SpellsLine line c
unfolding object_at
object_spells f last line c e =
    let r = some_then (line_at line) (λ (d : ChangeValue). if is_read f last line d then Some d else None) c e in
    let g = guard_some (is_read f last line r.0) (Some r.0) c r.2 in
    subst (λ (d : ChangeValue). SpellsLine line d) (same_Some r.0 c g.1) (line_takes line r.0 r.1)

-- the first item of a list, and those after it
pub record FirstItem {X K : Type 0} (key : X → K) (item : Option K → List ℕ → Option X) (k : ℕ) (last : Option K) (bytes : List ℕ)
    (xs : List X) (left : List ℕ) : Type 0 where
  pub x : X
  pub after : List ℕ
  pub more : List X
  pub next : next_at item last bytes ≡ Some (x, after)
  pub parts : xs ≡ x ∷ more
  pub goes_on : items_at key item k (Some (key x)) after ≡ Some (more, left)

next_by : {X K : Type 0} (item : Option K → List ℕ → Option X) (last : Option K) (bytes line after : List ℕ) (x : X) → cut_at 10 bytes ≡ Some (line, after)
    → item last line ≡ Some x → next_at item last bytes ≡ Some (x, after)
unfolding next_at
next_by item last bytes line after x cut is = rw (cut, is) refl

pub first_item : {X K : Type 0} (key : X → K) (item : Option K → List ℕ → Option X) (k : ℕ) (last : Option K) (bytes : List ℕ) (xs : List X) (left : List ℕ)
    → items_at key item (suc k) last bytes ≡ Some (xs, left) → FirstItem key item k last bytes xs left
first_item {X} {K} key item k last bytes xs left e =
    let l = some_then {A = List ℕ × List ℕ} {B = List X × List ℕ} (cut_at 10 bytes) (λ l. and_then {A = X} {B = List X × List ℕ} (item last l.0) (λ x.
    and_then {A = List X × List ℕ} {B = List X × List ℕ} (items_at key item k (Some (key x)) l.1) (λ r. Some (x ∷ r.0, r.1)))) (xs, left) e in
    let x = some_then {A = X} {B = List X × List ℕ} (item last l.0.0) (λ x.
    and_then {A = List X × List ℕ} {B = List X × List ℕ} (items_at key item k (Some (key x)) l.0.1) (λ r. Some (x ∷ r.0, r.1))) (xs, left) l.2 in
    let r = some_then {A = List X × List ℕ} {B = List X × List ℕ} (items_at key item k (Some (key x.0)) l.0.1) (λ r. Some (x.0 ∷ r.0, r.1)) (xs, left) x.2 in
    let both : ◌≡◌ {A = List X × List ℕ} (x.0 ∷ r.0.0, r.0.1) (xs, left) = same_Some (x.0 ∷ r.0.0, r.0.1) (xs, left) r.2 in
    record {
      x = x.0;
      after = l.0.1;
      more = r.0.0;
      next = next_by item last bytes l.0.0 l.0.1 x.0 l.1 x.1;
      parts = sym (ap (λ (p : List X × List ℕ). p.0) both);
      goes_on = r.1 ∙ ap (λ (w : List ℕ). Some (r.0.0, w)) (ap (λ (p : List X × List ℕ). p.1) both);
    }

-- ---- entries

long_by : (a b : List ChangeValue) (xs : List ChangeValue) → xs ≡ a ++ b → length xs ≡ length a + length b
long_by a b xs e = ap length e ∙ length-append a b

pub below_begun : (es : List NetEntry) (key : Key) → CountsBelow es key es 0
below_begun es key = record { counted = λ c own cs. omega arith; few = omega arith }

pub below_more : (es rest after : List NetEntry) (key : Key) (e : NetEntry) (many k : ℕ) → CountsBelow es key rest many → rest ≡ e ∷ after
    → key_cmp e.0 key ≡ Less → k ≡ length (put_before e.1 []) → k ≤ 1 → CountsBelow es key after (many + k)
below_more es rest after key e many k h parts less count few = record {
  counted = λ c own cs.
      let one : length (laid_over rest (c ∷ cs)) ≡ length (put_before e.1 []) + length (laid_over after (c ∷ cs)) =
      long_by (put_before e.1 []) (laid_over after (c ∷ cs)) (laid_over rest (c ∷ cs))
      (ap (λ (l : List NetEntry). laid_over l (c ∷ cs)) parts ∙ over_below e after c (rw own less) cs) in
      let all = h.counted c own cs in
      omega (arith, one, all, count);
  few = (let f = h.few in let long = ap {A = List NetEntry} length parts in omega (arith, f, long, few));
}

pub one_at : (es rest after : List NetEntry) (key : Key) (e : NetEntry) (many k : ℕ) → CountsBelow es key rest many → rest ≡ e ∷ after
    → key_cmp e.0 key ≡ Equal → k ≡ length (put_before e.1 []) → k ≤ 1 → CountsOne es key after (many + k)
one_at es rest after key e many k h parts equal count few = record {
  counted = λ c own cs.
      let one : length (laid_over rest (c ∷ cs)) ≡ length (put_before e.1 []) + length (laid_over after cs) =
      long_by (put_before e.1 []) (laid_over after cs) (laid_over rest (c ∷ cs))
      (ap (λ (l : List NetEntry). laid_over l (c ∷ cs)) parts ∙ over_at e after c (rw own equal) cs) in
      let all = h.counted c own cs in
      omega (arith, one, all, count);
  few = (let f = h.few in let long = ap {A = List NetEntry} length parts in omega (arith, f, long, few));
}

pub one_above : (es rest after : List NetEntry) (key : Key) (e : NetEntry) (many : ℕ) → CountsBelow es key rest many → rest ≡ e ∷ after
    → key_cmp e.0 key ≡ Greater → CountsOne es key rest (many + 1)
one_above es rest after key e many h parts greater = record {
  counted = λ c own cs.
      let one =
      ap {A = List ChangeValue} length (ap (λ (l : List NetEntry). laid_over l (c ∷ cs)) parts ∙ over_above e after c (rw own greater) cs
      ∙ ap (λ (l : List NetEntry). c ∷ laid_over l cs) (sym parts)) in
      let all = h.counted c own cs in
      omega (arith, one, all);
  few = (let f = h.few in omega (arith, f));
}

pub one_none : (es rest : List NetEntry) (key : Key) (many : ℕ) → CountsBelow es key rest many → rest ≡ [] → CountsOne es key rest (many + 1)
one_none es rest key many h none = record {
  counted = λ c own cs.
      let one =
      ap {A = List ChangeValue} length
      (ap (λ (l : List NetEntry). laid_over l (c ∷ cs)) none ∙ over_none c cs ∙ ap (λ (l : List NetEntry). c ∷ laid_over l cs) (sym none)) in
      let all = h.counted c own cs in
      omega (arith, one, all);
  few = (let f = h.few in omega (arith, f));
}

-- entries that are laid over nothing
pub record CountsSome (es rest : List NetEntry) (many : ℕ) : Type 0 where
  pub counted : length (laid_over es []) ≡ many + length (laid_over rest [])
  pub few : many + length rest ≤ length es

pub some_more : (es rest after : List NetEntry) (e : NetEntry) (many k : ℕ) → CountsSome es rest many → rest ≡ e ∷ after
    → k ≡ length (put_before e.1 []) → k ≤ 1 → CountsSome es after (many + k)
some_more es rest after e many k h parts count few = record {
  counted = (
      let one : length (laid_over rest []) ≡ length (put_before e.1 []) + length (laid_over after []) =
      long_by (put_before e.1 []) (laid_over after []) (laid_over rest [])
      (ap (λ (l : List NetEntry). laid_over l []) parts ∙ over_nothing e after) in
      let all = h.counted in
      omega (arith, one, all, count));
  few = (let f = h.few in let long = ap {A = List NetEntry} length parts in omega (arith, f, long, few));
}

-- ---- objects

-- where a count of objects stands, if they can be read
pub record CountsSoFar (f : FilterValue) (many i : ℕ) (es rest : List NetEntry) (count : ℕ) (now : List ℕ) (objects : List ChangeValue)
    (left : List ℕ) : Type 0 where
  pub last : Option Key
  pub tail : List ChangeValue
  pub next : items_at (λ c. c.key) (object_at f) (many - i) last now ≡ Some (tail, left)
  pub counted : length (laid_over es objects) ≡ count + length (laid_over rest tail)

-- where a count of objects stands
pub record Counting (many i : ℕ) (es rest : List NetEntry) (count : ℕ) (Has : List ℕ → Type 0) (begun now : List ℕ → List ℕ) : Type 0 where
  pub few : count + length rest ≤ i + length es
  pub reads : (file : List ℕ) → Has file → (f : FilterValue) (objects : List ChangeValue) (left : List ℕ)
      → items_at (λ c. c.key) (object_at f) many None (begun file) ≡ Some (objects, left) → CountsSoFar f many i es rest count (now file) objects left

pub counting_begun : (many : ℕ) (es : List NetEntry) (Has : List ℕ → Type 0) (begun : List ℕ → List ℕ) → Counting many 0 es es 0 Has begun begun
counting_begun many es Has begun = record {
  few = omega arith;
  reads = λ file has f objects left e.
      let all : many - 0 ≡ many = omega arith in
      record { last = None; tail = objects; next = rw all e; counted = omega arith };
}

next_left : (f : FilterValue) (many i : ℕ) (last : Option Key) (now : List ℕ) (tail : List ChangeValue) (left : List ℕ) → i < many
    → items_at (λ c. c.key) (object_at f) (many - i) last now ≡ Some (tail, left)
    → FirstItem (λ c. c.key) (object_at f) (many - (i + 1)) last now tail left
next_left f many i last now tail left lt e =
    let one : many - i ≡ suc (many - (i + 1)) = omega arith in
    first_item (λ c. c.key) (object_at f) (many - (i + 1)) last now tail left (rw one at e)

pub counting_more : (many i : ℕ) (es rest after : List NetEntry) (count k : ℕ) (key : Key) (Has : List ℕ → Type 0) (begun now new : List ℕ → List ℕ) → i < many
    → Counting many i es rest count Has begun now → CountsOne rest key after k
    → ((file : List ℕ) → Has file → (f : FilterValue) (last : Option Key) (c : ChangeValue) (left : List ℕ)
    → next_at (object_at f) last (now file) ≡ Some (c, left)
    → (c.key ≡ key) × (left ≡ new file))
    → Counting many (i + 1) es after (count + k) Has begun new
counting_more many i es rest after count k key Has begun now new lt h one passes = record {
  few = (let f = h.few in let g = one.few in omega (arith, f, g));
  reads = λ file has f objects left e.
      let p = h.reads file has f objects left e in
      let n = next_left f many i p.last (now file) p.tail left lt p.next in
      let q = passes file has f p.last n.x n.after n.next in
      let all = p.counted in
      let parts : length (laid_over rest p.tail) ≡ length (laid_over rest (n.x ∷ n.more)) = ap (λ (l : List ChangeValue). length (laid_over rest l)) n.parts in
      let this = one.counted n.x q.0 n.more in
      record {
        last = Some n.x.key;
        tail = n.more;
        next = rw (← q.1) n.goes_on;
        counted = omega (arith, all, parts, this);
      };
}

pub counting_stops : (many i : ℕ) (es rest : List NetEntry) (count : ℕ) (Has : List ℕ → Type 0) (begun now : List ℕ → List ℕ) (file : List ℕ)
    (fault : MergeFault) → i < many
    → Counting many i es rest count Has begun now → Has file
    → ((f : FilterValue) (last : Option Key) → LineStops file fault (next_at (object_at f) last (now file)))
    → (f : FilterValue) → LineStops file fault (items_at (λ (c : ChangeValue). c.key) (object_at f) many None (begun file))
counting_stops many i es rest count Has begun now file fault lt h has refused f = by_reading (items_at (λ c. c.key) (object_at f) many None (begun file)) refl
  where
    by_reading : (r : Option (List ChangeValue × List ℕ)) → items_at (λ c. c.key) (object_at f) many None (begun file) ≡ r
        → LineStops file fault (items_at (λ (c : ChangeValue). c.key) (object_at f) many None (begun file))
    by_reading None e = refuses_all file fault (next_at (object_at f) None (now file)) (items_at (λ c. c.key) (object_at f) many None (begun file))
        (refused f None) (λ none. e)
    by_reading (Some r) e =
        let p = h.reads file has f r.0 r.1 e in
        let n = next_left f many i p.last (now file) p.tail r.1 lt p.next in
        refuses_all file fault (next_at (object_at f) p.last (now file)) (items_at (λ c. c.key) (object_at f) many None (begun file)) (refused f p.last)
        (λ none. let bad : None ≡ Some (n.x, n.after) = sym none ∙ n.next in absurd cc)

pub counting_done : (many i : ℕ) (es rest : List NetEntry) (count k : ℕ) (Has : List ℕ → Type 0) (begun now : List ℕ → List ℕ) (file : List ℕ) → many ≤ i
    → Counting many i es rest count Has begun now → Has file → k ≡ length (laid_over rest [])
    → (f : FilterValue) (objects : List ChangeValue) (left : List ℕ) → items_at (λ c. c.key) (object_at f) many None (begun file) ≡ Some (objects, left)
    → (length (laid_over es objects) ≡ count + k) × (left ≡ now file)
counting_done many i es rest count k Has begun now file le h has last f objects left e =
    let p = h.reads file has f objects left e in
    let none : many - i ≡ 0 = omega arith in
    let end : items_at (λ c. c.key) (object_at f) 0 p.last (now file) ≡ Some (p.tail, left) = rw none at p.next in
    let both : ◌≡◌ {A = List ChangeValue × List ℕ} ([], now file) (p.tail, left) = same_Some ([], now file) (p.tail, left) end in
    let all = p.counted in
    let nothing : length (laid_over rest p.tail) ≡ length (laid_over rest []) =
    ap (λ (q : List ChangeValue × List ℕ). length (laid_over rest q.0)) (sym both) in
    (omega (arith, all, nothing, last), sym (ap (λ (q : List ChangeValue × List ℕ). q.1) both))
