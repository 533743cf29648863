-- The codes of a column, in any layout.
use Rattle.bw_code.specs.Columns.{CodeList}
use Rattle.std.specs.Prelude.{ℕ, ⊤, ◌↔◌, ◌≡◌, ◌≤◌, ◌⊎◌}
use Rattle.bw_code.specs.Widths.{widest_half}
use Rattle.bw_code.specs.declared.kind.Layout.{Layout}
use Rattle.bw_code.specs.declared.kind.Layout.TheVariants as layouts
use Rattle.bw_code.specs.declared.lent_codes.LentCodes.{LentCodes}
use Rattle.bw_code.specs.declared.lent_codes.LentCodes.TheVariants as memory
use Rattle.bw_column.specs.declared.storage.Codes.{Codes}
use Rattle.bw_column.specs.declared.storage.Codes.TheVariants as kept
use Rattle.bw_column.specs.declared.storage.Storage.{Storage}
use Rattle.bw_column.specs.declared.storage.Storage.TheVariants as lent

abbrev pub list_of : Codes → CodeList
list_of (kept.P codes) = codes
list_of (kept.V codes) = codes
list_of (kept.H codes) = codes
list_of (kept.S codes) = codes

abbrev pub layout_of : Codes → Layout
layout_of (kept.P codes) = layouts.P
layout_of (kept.V codes) = layouts.V
layout_of (kept.H codes) = layouts.H
layout_of (kept.S codes) = layouts.S

abbrev pub lent_list : Storage → CodeList
lent_list (lent.P codes) = codes.now
lent_list (lent.V codes) = codes.now
lent_list (lent.H codes) = codes.now
lent_list (lent.S codes) = codes.now

abbrev pub lent_layout : Storage → Layout
lent_layout (lent.P codes) = layouts.P
lent_layout (lent.V codes) = layouts.V
lent_layout (lent.H codes) = layouts.H
lent_layout (lent.S codes) = layouts.S

-- the layouts that hold codes in planes or in slices
abbrev pub IsSliced : Layout → Type 0
IsSliced layout = (layout ≡ layouts.V) ⊎ (layout ≡ layouts.S)

-- where codes can be rebased in place: plain codes that take as many bytes as before, and the others where the width stays
abbrev pub ShiftsTo : Layout → ℕ → ℕ → Type 0
ShiftsTo layouts.P old new = (new ≤ widest_half) ↔ (old ≤ widest_half)
ShiftsTo layouts.V old new = new ≡ old
ShiftsTo layouts.H old new = new ≡ old
ShiftsTo layouts.S old new = new ≡ old

-- codes of k bits that are lent as 32-bit numbers are no wider
abbrev pub FitsLent : ℕ → LentCodes → Type 0
FitsLent k (memory.Narrow codes) = k ≤ widest_half
FitsLent k (memory.Wide codes) = ⊤
