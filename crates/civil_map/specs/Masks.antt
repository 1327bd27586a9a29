-- Cells and their used bits.
use Rattle.std.specs.Prelude.{ℕ, Bool, cond, List, Some, None, Option, ◌==◌, bit_and}
use Rattle.std.specs.List.{list_all, zip}

-- no cell has an unused bit: masking changes none
abbrev pub all_masked : List ℕ → List ℕ → Bool
all_masked used cells = list_all (λ c. bit_and c.1 c.0 == c.1) (zip used cells)

-- the cells, where none has an unused bit
abbrev pub masked_cells : List ℕ → List ℕ → Option (List ℕ)
masked_cells used cells = cond (all_masked used cells) (Some cells) None
