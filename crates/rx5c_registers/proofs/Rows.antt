-- The row of sixteen registers, and the table of two alarm rows.
use Rattle.std.proofs.Common.{◌≡◌, ℕ, ◌-◌, ◌<◌, ◌≤◌, length, get_or, arith, length-append}
use Rattle.std.proofs.lemmas.List.{get_or_append_left, get_or-append_right, get_or_past}
use Rattle.rx5c_registers.specs.File.{FileState, upper_registers, registers}

-- there are sixteen registers
pub sixteen_registers : (f : FileState) → length f.core.map.cells ≡ 7 → length (registers f) ≡ 16
sixteen_registers f e = simp length-append (omega arith)

-- a register below 7 is a cell
pub lower_register : (f : FileState) (address : ℕ) → length f.core.map.cells ≡ 7 → address < 7 → get_or (registers f) address 0 ≡ get_or f.core.map.cells address 0
lower_register f address e h = get_or_append_left f.core.map.cells (upper_registers f) 0 address (omega arith)

-- the others follow the cells
pub upper_register : (f : FileState) (address : ℕ) → length f.core.map.cells ≡ 7 → 7 ≤ address → get_or (registers f) address 0 ≡ get_or (upper_registers f) (address - 7) 0
upper_register f address e h = get_or-append_right f.core.map.cells (upper_registers f) 7 address 0 e h

-- Dh is empty, and beyond Fh there is none
pub empty_register : (f : FileState) (address : ℕ) → 16 ≤ address → get_or (upper_registers f) (address - 7) 0 ≡ 0
empty_register f address h = get_or_past (upper_registers f) (address - 7) 0 (omega arith)
