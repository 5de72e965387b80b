-- The numbers of the statuses.
use Rattle.std.specs.Prelude.{ℕ}
use Rattle.sym_message.specs.declared.status.Status.{Status}
use Rattle.sym_message.specs.declared.status.Status.TheVariants.{Done, Faulted, Usage, Script, Input, ReadFault, WriteFault, TooLarge, NoMemory}

abbrev pub exit_number : Status → ℕ
exit_number Done = 0
exit_number Faulted = 1
exit_number Usage = 2
exit_number Script = 3
exit_number Input = 4
exit_number ReadFault = 5
exit_number WriteFault = 6
exit_number TooLarge = 7
exit_number NoMemory = 8
