-- A plain list of codes, of 4 bytes each or of 8.
use Rattle.std.specs.Prelude.{List, ℕ, ◌<◌, ◌≤◌}
use Rattle.bw_code.specs.Columns.{CodeList}
use Rattle.bw_code.specs.Widths.{widest_half}
use Rattle.bw_code.specs.declared.lent_codes.LentCodes.{LentCodes}
use Rattle.bw_code.specs.declared.lent_codes.LentCodes.TheVariants as lent
use Rattle.bw_code.specs.declared.plain.PlainCodes.{PlainCodes}
use Rattle.bw_code.specs.declared.plain.PlainCodes.TheVariants.{Narrow, Wide}

abbrev pub plain_list : PlainCodes → CodeList
plain_list (Narrow codes) = codes
plain_list (Wide codes) = codes

-- codes take the smaller size that holds them
abbrev pub ArePlainCodes : PlainCodes → Type 0
ArePlainCodes (Narrow codes) = codes.width ≤ widest_half
ArePlainCodes (Wide codes) = widest_half < codes.width

-- the codes that are lent
abbrev pub codes_lent : LentCodes → List ℕ
codes_lent (lent.Narrow codes) = codes.now
codes_lent (lent.Wide codes) = codes.now

-- codes of k bits are lent in the size that they take
abbrev pub IsLentAs : ℕ → LentCodes → Type 0
IsLentAs k (lent.Narrow codes) = k ≤ widest_half
IsLentAs k (lent.Wide codes) = widest_half < k
