-- Comparisons of codes and of integers by their order, and whether a code meets a test.
use Rattle.std.specs.Prelude.{◌<◌, ◌^◌, ◌==◌, ℕ, ℤ, Bool, true, false, not, ◌&&◌, nat_lt, nat_le, int_lt, int_le, ⊤}
use Rattle.std.specs.Ordering.{int_eq}
use Rattle.bw_code.specs.declared.compare.CmpOp.{CmpOp}
use Rattle.bw_code.specs.declared.compare.CmpOp.TheVariants.{Eq, Ne, Lt, Le, Gt, Ge}
use Rattle.bw_code.specs.declared.compare.CodeTest.{CodeTest}
use Rattle.bw_code.specs.declared.compare.CodeTest.TheVariants.{None, All, Cmp, Range}

-- whether two codes satisfy a comparison
abbrev pub code_compares : CmpOp → ℕ → ℕ → Bool
code_compares Eq x y = x == y
code_compares Ne x y = not (x == y)
code_compares Lt x y = nat_lt x y
code_compares Le x y = nat_le x y
code_compares Gt x y = nat_lt y x
code_compares Ge x y = nat_le y x

-- whether two integers satisfy a comparison
abbrev pub int_compares : CmpOp → ℤ → ℤ → Bool
int_compares Eq x y = int_eq x y
int_compares Ne x y = not (int_eq x y)
int_compares Lt x y = int_lt x y
int_compares Le x y = int_le x y
int_compares Gt x y = int_lt y x
int_compares Ge x y = int_le y x

-- whether a code meets a test
abbrev pub meets : CodeTest → ℕ → Bool
meets None code = false
meets All code = true
meets (Cmp op constant) code = code_compares op code constant
meets (Range low high) code = nat_le low code && nat_le code high

-- the codes in a test fit the width
abbrev pub TestFits : ℕ → CodeTest → Type 0
TestFits bits None = ⊤
TestFits bits All = ⊤
TestFits bits (Cmp op constant) = constant < 2 ^ bits
TestFits bits (Range low high) = (low < 2 ^ bits) × (high < 2 ^ bits)
