-- The table of `cpu_opcodes` is the matrix of the data sheet.
use mathlib.Core.Path.{◌≡◌, refl}
use Rattle.cpu_opcodes.specs.Table.{opcodes}
use Rattle.cpu_opcodes.specs.Opcodes.{operations, operation_numbered, modes, mode_numbered, operation_of, mode_of, length_of, cycles_of, entry_of}
use Rattle.cpu_opcode_cases.specs.Matrix.{matrix, table_from}

pub table_is_matrix : table_from 0 256 ≡ matrix
unfolding matrix opcodes operations operation_numbered modes mode_numbered operation_of mode_of length_of cycles_of entry_of
table_is_matrix = refl
