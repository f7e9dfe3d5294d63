-- The words of the faults.
use Rattle.std.specs.Prelude.{◌≡◌, ◌≢◌, ℕ, List, Ok, Err, Result, codes}
use Rattle.scripted.specs.declared.fault.Fault.{Fault}
use Rattle.scripted.specs.declared.fault.Fault.TheVariants.{Lose, Repeat, Move}
use Rattle.scripted.specs.declared.fault.UnknownFault.{UnknownFault}

abbrev pub fault_word : Fault → List ℕ
fault_word Lose = codes "lose"
fault_word Repeat = codes "repeat"
fault_word Move = codes "move"

-- a word is read as the fault whose word it is, and refused where it is the word of none
abbrev pub FaultRead : List ℕ → Result Fault UnknownFault → Type 0
FaultRead word (Ok fault) = word ≡ fault_word fault
FaultRead word (Err e) = (fault : Fault) → word ≢ fault_word fault
