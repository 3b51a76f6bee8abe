-- How an order ends, by the order: a replay (Execution), an audit (Auditing), a run over the files
-- that gives a report (Execution), a range of a folder's numbers that is read (Ranges), or a save
-- that is asked (Getting, Sums). `a` is what is seen before, and `b` what is seen then.
use Rattle.std.specs.Prelude.{◌≡◌, ℕ, List, [], OnErr, OnOk, Option, Result, string_bytes}
use Rattle.osm_store.specs.Frames.{IsKnown, StoreState}
use Rattle.osm_words.specs.declared.orders.Order.{Order}
use Rattle.osm_words.specs.declared.orders.Order.TheVariants.{Audit, Changes, Counts, Fingerprint}
use Rattle.osm_words.specs.declared.orders.Order.TheVariants.{Follow, Get, Replay, Tally}
use Rattle.osm_repl.specs.Auditing.{IsAudited, IsNotAudited}
use Rattle.osm_repl.specs.Execution.{AfterParts, Drops, IsDone, IsNotDone, IsNotReplayed}
use Rattle.osm_repl.specs.Execution.{IsReplayed, IsRunFault, IsScriptFault, execution_of}
use Rattle.osm_repl.specs.Getting.{BlamesStore, IsGet, IsGotFor, IsNotGotFor}
use Rattle.osm_repl.specs.Ranges.{IsChanged, IsNotChanged, IsNotTallied, IsTally, IsTallyDone}
use Rattle.osm_repl.specs.Sums.{IsNotSummed, IsSum, IsSummed}
use Rattle.osm_repl.specs.declared.execution.Settings.{Settings}
use Rattle.osm_repl.specs.declared.notes.Notes.{Notes}
use Rattle.osm_repl.specs.declared.order_fault.OrderFault.{OrderFault}

-- what is seen of the store, and what standard input still has and standard output has
pub record Seen : Type 0 where
  pub store : StoreState
  pub input : Option (List ℕ)
  pub output : Option (List ℕ)

abbrev pub seen : StoreState → Option (List ℕ) → Option (List ℕ) → Seen
seen store input output = record { store = store; input = input; output = output }

-- the order was carried out, with that status
abbrev pub IsCarriedOut : Settings → Order → Seen → Seen → Notes → ℕ → Type 0
IsCarriedOut settings Replay a b notes status = IsReplayed a.input a.output b.output status
IsCarriedOut settings (Audit dir from to) a b notes status =
    IsAudited a.store b.store settings.options.layout dir.now from to a.output b.output status
IsCarriedOut settings (Follow dir save) a b notes status =
    AfterParts (execution_of settings.options settings.sizes (Follow dir save) a.store b.store)
    a.output (λ rest printed. IsDone rest printed b.output status)
IsCarriedOut settings (Changes dir output from to) a b notes status =
    IsChanged settings.options (Changes dir output from to) a.store b.store a.output b.output
    status
IsCarriedOut settings (Tally dir from to by) a b notes status =
    IsTallyDone settings.options.layout (Tally dir from to by) a.store a.output b.output
    notes.lines.items status
IsCarriedOut settings (Get save referred) a b notes status =
    IsGotFor settings.options.layout (Get save referred) settings.sought.now a.store a.input
    a.output b.output notes.lines.items status
IsCarriedOut settings (Counts save by csv) a b notes status =
    IsSummed settings.options (Counts save by csv) settings.sought.now a.store a.output b.output
    status
IsCarriedOut settings (Fingerprint save) a b notes status =
    IsSummed settings.options (Fingerprint save) settings.sought.now a.store a.output b.output
    status
IsCarriedOut settings order a b notes status =
    IsDone (execution_of settings.options settings.sizes order a.store b.store) a.output b.output
    status

-- why the order isn't carried out, and what was printed and noted
abbrev pub IsNotCarriedOut : Settings → Order → Seen → Seen → Notes → OrderFault → Type 0
IsNotCarriedOut settings Replay a b notes fault =
    IsScriptFault (IsNotReplayed a.input b.input a.output b.output) fault
IsNotCarriedOut settings (Audit dir from to) a b notes fault =
    IsRunFault (IsNotAudited a.store b.store settings.options.layout dir.now from to a.output
    b.output) fault
IsNotCarriedOut settings (Follow dir save) a b notes fault =
    IsRunFault (λ why. AfterParts (execution_of settings.options settings.sizes (Follow dir save)
    a.store b.store) a.output (λ rest printed. IsNotDone rest printed b.output why)) fault
IsNotCarriedOut settings (Changes dir output from to) a b notes fault =
    IsRunFault (IsNotChanged settings.options (Changes dir output from to) a.store b.store
    a.output b.output) fault
IsNotCarriedOut settings (Tally dir from to by) a b notes fault =
    IsRunFault (IsNotTallied settings.options.layout (Tally dir from to by) a.store b.store
    a.output b.output) fault
IsNotCarriedOut settings (Get save referred) a b notes fault =
    IsRunFault (λ why. IsNotGotFor settings.options.layout (Get save referred)
    settings.sought.now a.store a.input a.output b.output notes.lines.items
    (string_bytes notes.word) why × BlamesStore a.store.failures b.store.failures why) fault
IsNotCarriedOut settings (Counts save by csv) a b notes fault =
    IsRunFault (IsNotSummed settings.options (Counts save by csv) settings.sought.now a.store
    b.store a.output b.output (string_bytes notes.word)) fault
IsNotCarriedOut settings (Fingerprint save) a b notes fault =
    IsRunFault (IsNotSummed settings.options (Fingerprint save) settings.sought.now a.store
    b.store a.output b.output (string_bytes notes.word)) fault
IsNotCarriedOut settings order a b notes fault =
    IsRunFault (IsNotDone (execution_of settings.options settings.sizes order a.store b.store)
    a.output b.output) fault

-- what is noted, however the order ends: which journal was emptied; lines only by `tally` and
-- `get`, and after a fault only by `get`; a word only after a fault, by `get` and the sums
pub record AreNotes {T E : Type 0} (order : Order) (old new : StoreState) (notes : Notes)
    (result : Result T E) : Type 0 where
  pub dropped : IsKnown old → Drops order old.files new.files notes.dropped
  pub quiet : (IsTally order → ⊥) → (IsGet order → ⊥) → notes.lines.items ≡ []
  pub unnoted : (IsGet order → ⊥) → OnErr result (notes.lines.items ≡ [])
  pub taken : OnOk result (string_bytes notes.word ≡ [])
  pub unasked : (IsGet order → ⊥) → (IsSum order → ⊥) → string_bytes notes.word ≡ []
