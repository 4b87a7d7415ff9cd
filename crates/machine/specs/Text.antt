-- What is printed of a processor at work, as lists of bytes.
use Rattle.std.specs.Prelude.{ℕ, List, ◌++◌, codes, decimal}
use Rattle.machine.specs.declared.call.Counts.{Counts}
use Rattle.machine.specs.declared.call.Signalled.{Signalled}
use Rattle.machine.specs.declared.call.Signalled.TheVariants.{Waiting, Dropped}
use Rattle.machine.specs.declared.state.ViolationKind.{ViolationKind}
use Rattle.machine.specs.declared.state.ViolationKind.TheVariants.{Entry, Operation, Store}

-- the kind of a violation as a word
abbrev pub kind_name : ViolationKind → List ℕ
kind_name Entry = codes "entry"
kind_name Operation = codes "operation"
kind_name Store = codes "store"

-- what a signal did, as a word
abbrev pub signalled_name : Signalled → List ℕ
signalled_name Waiting = codes "waiting"
signalled_name Dropped = codes "dropped"

-- how many steps were done, not carried, violations, stalls, entries and idle
abbrev pub counts_line : Counts → List ℕ
counts_line n =
    decimal n.done ++ (codes " " ++ (decimal n.not_carried ++ (codes " " ++ (decimal n.violations ++ (codes " "
    ++ (decimal n.stalls ++ (codes " " ++ (decimal n.entries ++ (codes " " ++ decimal n.idles)))))))))
