-- How a run ends that has nothing to print, or can't print it.
use Rattle.std.specs.Prelude.{ℕ}
use Rattle.std.specs.Borrow.{Bor}
use Rattle.std.specs.declared.io.ErrorKind.{ErrorKind as IoKind}
use Rattle.std.specs.declared.io.ErrorKind.TheVariants as io_kinds
use Rattle.clap.specs.Words.{kind_of}
use Rattle.clap.specs.declared.error.Error.{Error as ClapError}
use Rattle.clap.specs.declared.error.kind.ErrorKind.{ErrorKind}
use Rattle.clap.specs.declared.error.kind.ErrorKind.TheVariants as kinds
use Rattle.osm_repl.specs.declared.ending.Ending.{Ending}
use Rattle.osm_repl.specs.declared.ending.Message.{Message}
use Rattle.osm_repl.specs.declared.ending.Message.TheVariants.{ByClap, Fault, NotText, Script}
use Rattle.osm_repl.specs.declared.ending.Message.TheVariants as messages
use Rattle.osm_repl.specs.declared.ending.Stream.TheVariants.{Output, Error}
use Rattle.osm_repl.specs.declared.refusal.Refusal.{Refusal}
use Rattle.osm_repl.specs.declared.refusal.Refusal.TheVariants.{BadSizes, FolderInUse, SameFile}
use Rattle.osm_repl.specs.declared.refusal.Refusal.TheVariants.{SaveInUse}
use Rattle.osm_runs.specs.Faults.{status_of}
use Rattle.osm_runs.specs.declared.fault.RunFault.{RunFault}
use Rattle.osm_runs.specs.declared.fault.RunFault.TheVariants.{WantOfMemory}
use Rattle.osm_script.specs.declared.fault.ScriptFault.{ScriptFault}

-- words that aren't taken end the program with status 2
abbrev pub refused_words : Message → Ending
refused_words message = record { message = message; stream = Error; status = 2 }

-- a fault is said on standard error, and the status is that of the fault
abbrev pub ending_of_fault : RunFault → Ending
ending_of_fault fault = record { message = Fault fault; stream = Error; status = status_of fault }

-- a fault of a replay is said on standard error, and the status is 3
abbrev pub ending_of_script : ScriptFault → Ending
ending_of_script fault = record { message = Script fault; stream = Error; status = 3 }

-- 2 for sizes that are none and for a file that is named twice, 4 if another run is at work there,
-- 3 for any other refusal
abbrev pub status_of_refusal : Refusal → ℕ
status_of_refusal BadSizes = 2
status_of_refusal (SameFile one other) = 2
status_of_refusal FolderInUse = 4
status_of_refusal SaveInUse = 4
status_of_refusal refusal = 3

-- a run that isn't begun is said on standard error, and the status is that of the refusal
abbrev pub ending_of_refusal : Refusal → Ending
ending_of_refusal refusal = record {
  message = messages.Refusal refusal;
  stream = Error;
  status = status_of_refusal refusal;
}

-- an error of clap of that kind: help and the version go to standard output, and the status is 0;
-- if clap is out of memory, that is a fault; for any other kind clap's text goes to standard error,
-- and the status is 2
abbrev pub ending_by_kind : ErrorKind → Bor ClapError → Ending
ending_by_kind kinds.OutOfMemory error = ending_of_fault WantOfMemory
ending_by_kind kinds.DisplayHelp error =
    record { message = ByClap error; stream = Output; status = 0 }
ending_by_kind kinds.DisplayVersion error =
    record { message = ByClap error; stream = Output; status = 0 }
ending_by_kind kind error = refused_words (ByClap error)

-- an error of clap, by its kind
abbrev pub ending_of_error : Bor ClapError → Ending
ending_of_error error = ending_by_kind (kind_of error.now) error

-- words that couldn't be read: memory was refused, or they aren't text, which is said on standard
-- error
abbrev pub ending_of_unread : IoKind → Ending
ending_of_unread io_kinds.OutOfMemory = ending_of_fault WantOfMemory
ending_of_unread kind = refused_words NotText
