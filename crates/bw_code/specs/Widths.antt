-- The greatest widths of codes, in bits.
use Rattle.std.specs.Prelude.{ℕ}
use Rattle.bw_code.specs.declared.kind.Layout.{Layout}
use Rattle.bw_code.specs.declared.kind.Layout.TheVariants as layouts

-- of any code
abbrev pub widest_code : ℕ
widest_code = 64

-- of a code, or half of one, that is kept in 32 bits
abbrev pub widest_half : ℕ
widest_half = 32

-- of a code in a layout
abbrev pub widest : Layout → ℕ
widest layouts.P = widest_code
widest layouts.V = widest_code
widest layouts.H = widest_half
widest layouts.S = widest_code
