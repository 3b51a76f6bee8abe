-- Objects that are written one after the other.
use Rattle.std.proofs.Common.{◌≡◌, ℕ, ◌+◌, ◌<◌, List, [], ◌∷◌, ◌++◌, Option, Some, None, refl, sym, ap, subst, ◌∙◌, arith, append_assoc}
use Rattle.std.specs.Prelude.{Bool, Err, IfErr, Ok, OnOk, Result, Vec, false, true}
use Rattle.std.specs.declared.alloc.Global.{Global}
use Rattle.std.proofs.lemmas.List.{append-nil}
use Rattle.osm_blocks.specs.Calls.{Advances, SpendsDown, reads_ahead}
use Rattle.osm_blocks.specs.Frames.{ReadsOften}
use Rattle.osm_blocks.specs.Places.{HasFile, left_of}
use Rattle.osm_blocks.proofs.CallLemmas.{down_none, down_then}
use Rattle.osm_blocks.proofs.OftenLemmas.{often_none, often_then}
use Rattle.osm_model.specs.Change.{ChangeValue}
use Rattle.osm_model.specs.Filter.{FilterValue}
use Rattle.osm_model.specs.declared.kind.Key.{Key}
use Rattle.osm_net.specs.Net.{NetEntry}
use Rattle.osm_o5c.specs.File.{end_byte}
use Rattle.osm_o5c.specs.Written.{after_change, change_text, objects_text}
use Rattle.osm_o5c.specs.declared.writer.Writer.{Writer}
use Rattle.osm_opl.specs.Written.{line_text, opl_text}
use Rattle.osm_store.specs.Frames.{IsKnown, MakesAtMost, StoreState}
use Rattle.osm_store.proofs.FrameLemmas.{fewer_more}
use Rattle.osm_merge.proofs.CallLemmas.{advances_fails, advances_of, advances_then}
use Rattle.osm_merge.proofs.FrameLemmas.{has_still, often_as, often_fails}
use Rattle.osm_merged.specs.Ahead.{Ahead, Falls, IsGiven, PassesFirst, most_ahead, most_in, objects_ahead}
use Rattle.osm_merged.proofs.AheadLemmas.{with_more, with_nothing, with_values}
use Rattle.osm_runs.specs.Runs.{IsDeviceFault}
use Rattle.osm_runs.specs.declared.fault.RunFault.{RunFault}
use Rattle.osm_runs.specs.Filling.{Fills}
use Rattle.osm_runs.proofs.FillLemmas.{fills_as, fills_none, fills_then}
use Rattle.osm_exporting.specs.Steps.Copying.{CopiesAll, CopiesNext, CopiesOne, ObjectsStop, OutputStops, ReadsNext, ReadsNone, ReadsOn}
use Rattle.osm_exporting.specs.Steps.Copying.{ahead_in, copies_ahead, o5m_ahead}
use Rattle.osm_exporting.specs.declared.objects.SavedObjects.{SavedObjects}
use Rattle.osm_exporting.proofs.PassLemmas.{fills_still, output_pass, pass_map}

-- where a copy stands: what was ahead are those values, and then what is ahead now
pub record Copying (a b : StoreState) (name : List ℕ) (f : FilterValue) (first left : SavedObjects) (before later : List ChangeValue → List ℕ) : Type 0 where
  pub values : List ChangeValue
  pub read : (file : List ℕ) → HasFile a name file → ahead_in f first file ≡ with_values values (ahead_in f left file)
  pub fills : (objects : List ChangeValue) → Fills a b (before (values ++ objects)) (later objects)
  pub frame : ReadsOften {T = Unit {0}} IsDeviceFault a b (Ok tt)
  pub spent : (file : List ℕ) → HasFile a name file → SpendsDown (copies_ahead first file) (copies_ahead left file) a.left b.left

pub copying_begun : (a : StoreState) (name : List ℕ) (f : FilterValue) (first : SavedObjects) (before : List ChangeValue → List ℕ)
    → Copying a a name f first first before before
copying_begun a name f first before = record {
  values = [];
  read = λ file has. with_nothing (ahead_in f first file);
  fills = λ objects. fills_none a (before objects);
  frame = often_none IsDeviceFault a tt;
  spent = λ file has. down_none (copies_ahead first file) a.left;
}

module _ (a b : StoreState) (name : List ℕ) (f : FilterValue) (first left : SavedObjects) (before later : List ChangeValue → List ℕ)
    (h : Copying a b name f first left before later) (c : StoreState) (next : SavedObjects) (latest : List ChangeValue → List ℕ) where
  has_now : (file : List ℕ) → HasFile a name file → HasFile b name file
  has_now file has = has_still a b tt name file h.frame has

  so_far : (file : List ℕ) → HasFile a name file
      → Advances {T = Unit {0}} IsDeviceFault (copies_ahead first file) (λ _. copies_ahead left file) a b (Ok tt)
  so_far file has = record { spent = h.spent file has; lacks = tt }

  so_far_and : (t : Bool) → CopiesOne b c name f left next later latest (Ok t) → (file : List ℕ) → HasFile a name file
      → Advances {T = Unit {0}} IsDeviceFault (copies_ahead first file) (λ _. copies_ahead next file) a c (Ok tt)
  so_far_and t one file has =
      advances_then {V = Unit {0}} (copies_ahead first file) (λ _. copies_ahead next file) a b c tt t tt (so_far file has)
      (one.calls file (has_now file has)) (omega arith)

  -- the next object wasn't read or put
  pub copying_fails : (fault : RunFault) → CopiesOne b c name f left next later latest (Err fault) → CopiesAll a c name f first next before (Err fault)
  copying_fails fault one = record {
    copied = tt;
    stops = pass_map a b name (λ file. ahead_in f left file ≡ None) (λ file. ahead_in f first file ≡ None) fault has_now
        (λ file has none. h.read file has ∙ ap (with_values h.values) none) one.stops;
    frame = often_fails IsDeviceFault a b c tt fault h.frame one.frame;
    calls = λ file has. advances_fails (copies_ahead first file + 1) (λ _. reads_ahead next.source file) a b c tt fault (so_far file has)
        (one.calls file (has_now file has)) (omega arith);
  }

  -- it was
  pub copying_more : CopiesOne b c name f left next later latest (Ok true) → Copying a c name f first next before latest
  copying_more one =
      let x = one.copied.0 in
      record {
        values = h.values ++ x ∷ [];
        read = λ file has. h.read file has
            ∙ (ap (with_values h.values) (one.copied.1 file (has_now file has)) ∙ with_more h.values x (ahead_in f next file));
        fills = λ objects.
            fills_as a c (before (h.values ++ (x ∷ objects))) (latest objects) (before ((h.values ++ x ∷ []) ++ objects)) (latest objects)
            (fills_then a b c tt (before (h.values ++ (x ∷ objects))) (later (x ∷ objects)) (latest objects) h.frame (h.fills (x ∷ objects))
            (one.copied.2 objects))
            (ap before (append_assoc h.values (x ∷ []) objects)) refl;
        frame = often_then {T = Unit {0}} {V = Unit {0}} IsDeviceFault a b c tt true tt h.frame one.frame;
        spent = λ file has. (so_far_and true one file has).spent;
      }

  -- there was none
  module _ (one : CopiesOne b c name f left next later latest (Ok false)) where
    all : Copying a c name f first next before latest
    all = record {
      values = h.values;
      read = λ file has. (let none = one.copied.0 file (has_now file has) in h.read file has ∙ ap (with_values h.values) (none.0 ∙ sym none.1));
      fills = λ objects. fills_then a b c tt (before (h.values ++ objects)) (later objects) (latest objects) h.frame (h.fills objects) (one.copied.1 objects);
      frame = often_then {T = Unit {0}} {V = Unit {0}} IsDeviceFault a b c tt false tt h.frame one.frame;
      spent = λ file has. (so_far_and false one file has).spent;
    }

    known_all : (file : List ℕ) → HasFile a name file → IsKnown c
    known_all file has = (has_still a c tt name file all.frame has).known

    -- the end was put, or wasn't
    pub copying_ends : (d : StoreState) (r : Result (Unit {0}) RunFault) → OnOk r (Fills c d (latest []) []) → IfErr r OutputStops
        → ReadsOften IsDeviceFault c d r → MakesAtMost IsDeviceFault 1 c d r → CopiesAll a d name f first next before r
    copying_ends d (Ok done) put stops frame calls = record {
      copied = record {
        objects = all.values;
        read = λ file has. all.read file has ∙ (ap (with_values all.values) (one.copied.0 file (has_now file has)).1
            ∙ ap (λ (l : List ChangeValue). Some (l, left_of next.source file)) (append-nil all.values));
        fills = fills_then a c d tt (before all.values) (latest []) [] all.frame
            (fills_as a c (before (all.values ++ [])) (latest []) (before all.values) (latest []) (all.fills [])
            (ap before (sym (append-nil all.values))) refl)
            put;
      };
      stops = tt;
      frame = often_then {V = Unit {0}} IsDeviceFault a c d tt done done all.frame frame;
      calls = λ file has. advances_then {V = Unit {0}} (copies_ahead first file + 1) (λ _. reads_ahead next.source file) a c d tt done done
          (so_far_and false one file has) (advances_of 1 c d (Ok done) (known_all file has) calls) (omega arith);
    }
    copying_ends d (Err fault) put stops frame calls = record {
      copied = tt;
      stops = output_pass a name (λ file. ahead_in f first file ≡ None) fault stops;
      frame = often_fails IsDeviceFault a c d tt fault all.frame frame;
      calls = λ file has. advances_fails (copies_ahead first file + 1) (λ _. reads_ahead next.source file) a c d tt fault
          (so_far_and false one file has) (advances_of 1 c d (Err fault) (known_all file has) calls) (omega arith);
    }

-- ---- all objects, in a form

-- ---- one object

-- it wasn't read
pub unread : {T : Type 0} (a b : StoreState) (name : List ℕ) (f : FilterValue) (left next : SavedObjects) (later latest : List ChangeValue → List ℕ)
    (fault : RunFault) → ObjectsStop a name f left fault → ReadsOn {T = T} a b name left next (Err fault)
    → CopiesOne a b name f left next later latest (Err fault)
unread a b name f left next later latest fault stops on = record {
  copied = tt;
  fewer = tt;
  stops = stops;
  frame = record {
    files = on.frame.files;
    known = on.frame.known;
    left = on.frame.left;
    failures = on.frame.failures;
    failed = on.frame.failed;
    stops = on.frame.stops;
  };
  calls = λ file has. record {
    spent = tt;
    lacks = λ blame. fewer_more (reads_ahead left.source file) (copies_ahead left file) a.left (omega arith) ((on.calls file has).lacks blame);
  };
}

module _ (a b : StoreState) (name : List ℕ) (f : FilterValue) (left next : SavedObjects) (later : List ChangeValue → List ℕ)
    (given : Option ChangeValue) (read : ReadsNext a name f left next given) (fewer : Falls (most_ahead left.merged) (most_ahead next.merged) given)
    (shorter : (file : List ℕ) → HasFile a name file
    → Falls (most_in left.merged (left_of left.source file)) (most_in next.merged (left_of next.source file)) given)
    (on : ReadsOn a b name left next (Ok given)) where
  -- there was none
  pub none_next : given ≡ None → CopiesOne a b name f left next later later (Ok false)
  none_next none = record {
    copied = (subst (ReadsNext a name f left next) none read, λ objects. fills_still a b (later objects) on.stage);
    fewer = λ is. absurd (let bad : false ≡ true = is in cc);
    stops = tt;
    frame = often_as IsDeviceFault a b given false on.frame;
    calls = λ file has.
        let less = subst (Falls (most_in left.merged (left_of left.source file)) (most_in next.merged (left_of next.source file))) none (shorter file has) in
        record {
          spent = down_then (reads_ahead left.source file) (reads_ahead next.source file) 0 0 (copies_ahead left file) (copies_ahead next file)
              a.left b.left b.left (omega (arith, less)) (on.calls file has).spent (down_none 0 b.left);
          lacks = tt;
        };
  }

  module _ (x : ChangeValue) (is : given ≡ Some x) (c : StoreState) (latest : List ChangeValue → List ℕ) where
    less_now : (file : List ℕ) → HasFile a name file → most_in next.merged (left_of next.source file) < most_in left.merged (left_of left.source file)
    less_now file has = subst (Falls (most_in left.merged (left_of left.source file)) (most_in next.merged (left_of next.source file))) is (shorter file has)

    known_next : (file : List ℕ) → HasFile a name file → IsKnown b
    known_next file has = (has_still a b given name file on.frame has).known

    -- its text was put
    pub one_next : ((objects : List ChangeValue) → Fills b c (later (x ∷ objects)) (latest objects)) → ReadsOften {T = Unit {0}} IsDeviceFault b c (Ok tt)
        → MakesAtMost {T = Unit {0}} IsDeviceFault 1 b c (Ok tt) → CopiesOne a c name f left next later latest (Ok true)
    one_next put after most = record {
      copied = (
        x,
        subst (ReadsNext a name f left next) is read,
        λ objects. fills_then a b c given (later (x ∷ objects)) (later (x ∷ objects)) (latest objects) on.frame (fills_still a b (later (x ∷ objects)) on.stage)
            (put objects),
      );
      fewer = λ yes. subst (Falls (most_ahead left.merged) (most_ahead next.merged)) is fewer;
      stops = tt;
      frame = often_then IsDeviceFault a b c given tt true on.frame after;
      calls = λ file has.
          let less = less_now file has in
          advances_then (copies_ahead left file) (λ _. copies_ahead next file) a b c given tt true (on.calls file has)
          (advances_of 1 b c (Ok tt) (known_next file has) most) (omega (arith, less));
    }

    -- it wasn't
    pub one_unput : (fault : RunFault) → OutputStops fault → ReadsOften {T = Unit {0}} IsDeviceFault b c (Err fault)
        → MakesAtMost {T = Unit {0}} IsDeviceFault 1 b c (Err fault) → CopiesOne a c name f left next later latest (Err fault)
    one_unput fault stops after most = record {
      copied = tt;
      fewer = tt;
      stops = output_pass a name (λ file. ahead_in f left file ≡ None) fault stops;
      frame = often_fails IsDeviceFault a b c given fault on.frame after;
      calls = λ file has.
          let less = less_now file has in
          advances_fails (copies_ahead left file) (λ _. copies_ahead next file) a b c given fault (on.calls file has)
          (advances_of 1 b c (Err fault) (known_next file has) most) (omega (arith, less));
    }

-- ---- a line that the writer took

module _ (a b : StoreState) (name : List ℕ) (f : FilterValue) (left next : SavedObjects) (later middle : List ChangeValue → List ℕ)
    (passed : PassesFirst (λ x. ReadsNext a name f left next (Some x)) (ReadsNone a name left next) later middle true)
    (fewer : most_ahead next.merged < most_ahead left.merged)
    (shorter : (file : List ℕ) → HasFile a name file → most_in next.merged (left_of next.source file) < most_in left.merged (left_of left.source file))
    (on : ReadsOn a b name left next (Ok true)) (c : StoreState) (latest : List ChangeValue → List ℕ) where
  on_given : ReadsOn {T = Option ChangeValue} a b name left next (Ok (Some passed.0))
  on_given = record {
    stage = on.stage;
    frame = often_as IsDeviceFault a b true (Some passed.0) on.frame;
    calls = λ file has. record { spent = (on.calls file has).spent; lacks = tt };
  }

  pub line_next : ((objects : List ChangeValue) → Fills b c (middle objects) (latest objects)) → ReadsOften {T = Unit {0}} IsDeviceFault b c (Ok tt)
      → MakesAtMost {T = Unit {0}} IsDeviceFault 1 b c (Ok tt) → CopiesOne a c name f left next later latest (Ok true)
  line_next put =
      one_next a b name f left next later (Some passed.0) passed.1 fewer shorter on_given passed.0 refl c latest
      (λ objects. fills_as b c (middle objects) (latest objects) (later (passed.0 ∷ objects)) (latest objects) (put objects) (passed.2 objects) refl)

  pub line_unput : (fault : RunFault) → OutputStops fault → ReadsOften {T = Unit {0}} IsDeviceFault b c (Err fault)
      → MakesAtMost {T = Unit {0}} IsDeviceFault 1 b c (Err fault) → CopiesOne a c name f left next later latest (Err fault)
  line_unput = one_unput a b name f left next later (Some passed.0) passed.1 fewer shorter on_given passed.0 refl c latest

-- ---- a line that it didn't take

module _ (a b c : StoreState) (name : List ℕ) (f : FilterValue) (left mid next : SavedObjects) (later middle latest : List ChangeValue → List ℕ)
    (passed : PassesFirst (λ x. ReadsNext a name f left mid (Some x)) (ReadsNone a name left mid) later middle false)
    (on : ReadsOn a b name left mid (Ok false)) where
  has_mid : (file : List ℕ) → HasFile a name file → HasFile b name file
  has_mid file has = has_still a b false name file on.frame has

  as_ahead : (file : List ℕ) → HasFile a name file → ahead_in f mid file ≡ ahead_in f left file
  as_ahead file has =
      ap (λ (o : Ahead NetEntry ChangeValue Key). objects_ahead f o (left_of mid.source file)) passed.0.0
      ∙ ap (objects_ahead f left.merged) (passed.0.1 file has)

  as_many : (file : List ℕ) → HasFile a name file
      → most_in mid.merged (left_of mid.source file) ≡ most_in left.merged (left_of left.source file)
  as_many file has =
      ap (λ (o : Ahead NetEntry ChangeValue Key). most_in o (left_of mid.source file)) passed.0.0 ∙ ap (most_in left.merged) (passed.0.1 file has)

  reads_still : (given : Option ChangeValue) → ReadsNext b name f mid next given → ReadsNext a name f left next given
  reads_still given read = λ file has.
      subst (λ (o : Option (List ChangeValue × List ℕ)). IsGiven (left_of next.source file) o (ahead_in f next file) given)
      (as_ahead file has) (read file (has_mid file has))

  fills_after : (before objects : List ChangeValue) → Fills b c (middle before) (latest objects) → Fills a c (later before) (latest objects)
  fills_after before objects put =
      fills_then a b c false (later before) (middle before) (latest objects) on.frame
      (fills_as a b (later before) (later before) (later before) (middle before) (fills_still a b (later before) on.stage) refl (passed.1 before)) put

  copied_after : (is_next : Bool) → CopiesNext b c (ReadsNext b name f mid next) middle latest is_next
      → CopiesNext a c (ReadsNext a name f left next) later latest is_next
  copied_after true (x, read, put) = (x, reads_still (Some x) read, λ objects. fills_after (x ∷ objects) objects (put objects))
  copied_after false (read, put) = (reads_still None read, λ objects. fills_after objects objects (put objects))

  pub still_next : (r : Result Bool RunFault) → CopiesOne b c name f mid next middle latest r → CopiesOne a c name f left next later latest r
  still_next (Ok is_next) one = record {
    copied = copied_after is_next one.copied;
    fewer = λ yes. subst (λ (o : Ahead NetEntry ChangeValue Key). most_ahead next.merged < most_ahead o) passed.0.0 (one.fewer yes);
    stops = tt;
    frame = often_then IsDeviceFault a b c false is_next is_next on.frame one.frame;
    calls = λ file has. advances_then (copies_ahead left file) (λ _. copies_ahead next file) a b c false is_next is_next (on.calls file has)
        (one.calls file (has_mid file has)) (omega (arith, as_many file has));
  }
  still_next (Err fault) one = record {
    copied = tt;
    fewer = tt;
    stops = pass_map a b name (λ file. ahead_in f mid file ≡ None) (λ file. ahead_in f left file ≡ None) fault has_mid
        (λ file has none. sym (as_ahead file has) ∙ none) one.stops;
    frame = often_fails IsDeviceFault a b c false fault on.frame one.frame;
    calls = λ file has. advances_fails (copies_ahead left file) (λ _. copies_ahead next file) a b c false fault (on.calls file has)
        (one.calls file (has_mid file has)) (omega (arith, as_many file has));
  }

-- ---- the text in OPL

pub opl_ends : (made : List ℕ) → made ++ opl_text [] ≡ made
unfolding opl_text
opl_ends made = append-nil made

-- a line and its LF were made
pub opl_goes_on : (old new line : List ℕ) (object : ChangeValue) (objects : List ChangeValue) → line ≡ line_text object
    → new ≡ old ++ line ++ 10 ∷ [] → old ++ opl_text (object ∷ objects) ≡ new ++ opl_text objects
unfolding opl_text
opl_goes_on old new line object objects is made =
    rw (made, is)
    (sym (append_assoc (old ++ line_text object) (10 ∷ []) (opl_text objects) ∙ append_assoc old (line_text object) (10 ∷ opl_text objects)))

-- an object that is written after strings were forgotten
pub o5m_goes_on : (old mid new : Writer) (object : ChangeValue) (objects : List ChangeValue) → mid.out ≡ old.out
    → ((cs : List ChangeValue) → objects_text mid.kind mid.state cs ≡ objects_text old.kind old.state cs)
    → new.out.items ≡ mid.out.items ++ change_text mid.kind mid.state object
    → new.state ≡ after_change mid.kind mid.state object → new.kind ≡ Some object.key.kind
    → o5m_ahead old (object ∷ objects) ≡ o5m_ahead new objects
o5m_goes_on old mid new object objects out same text state kind =
    let rest : List ℕ = objects_text (Some object.key.kind) (after_change mid.kind mid.state object) objects in
    let written : List ℕ = change_text mid.kind mid.state object in
    let before : o5m_ahead old (object ∷ objects) ≡ (mid.out.items ++ (written ++ rest)) ++ end_byte ∷ [] =
    ap (λ (o : List ℕ). (o ++ objects_text old.kind old.state (object ∷ objects)) ++ end_byte ∷ []) (sym (ap (λ (v : Vec ℕ Global). v.items) out))
    ∙ ap (λ (t : List ℕ). (mid.out.items ++ t) ++ end_byte ∷ []) (sym (same (object ∷ objects))) in
    let after : o5m_ahead new objects ≡ ((mid.out.items ++ written) ++ rest) ++ end_byte ∷ [] = rw (text, state, kind) refl in
    before ∙ (ap (λ (t : List ℕ). t ++ end_byte ∷ []) (sym (append_assoc mid.out.items written rest)) ∙ sym after)
