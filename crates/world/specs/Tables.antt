-- A process of the code with its table, and what rows show of a table: its entries, keys ascending.
use Rattle.std.specs.Prelude.{List, []}
use Rattle.app_table.specs.Table.{Entry, after_payload}
use Rattle.tw_types.specs.Process.{Process}
use Rattle.tw_machine.specs.Applied.{Meaning, meaning_of}
use Rattle.node_core.specs.WithMachine.{WithMachine, StandsWith}

-- A table has no entry at first, a payload puts a value or removes a key, and a look shows all entries.
abbrev pub entries_of : Meaning (List Entry)
entries_of = meaning_of [] after_payload (λ entries. entries)

-- what a process of the code keeps, and the entries of its table
abbrev pub Running : Type 0
Running = WithMachine (List Entry)

-- it stands for the process, and its table has what was applied of the process's list
abbrev pub Stands : Running → Process → Type 0
Stands c p = StandsWith [] after_payload c p
