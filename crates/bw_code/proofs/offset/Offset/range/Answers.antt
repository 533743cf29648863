use Rattle.std.proofs.Common.{refl, ◌≡◌, false, ◌-◌, ◌^◌, ◌≤ℤ◌, min, eqb, ◌&&◌, arith}
use Rattle.std.specs.Int.{int_max}
use Rattle.std.proofs.lemmas.Int.{ints, to_z-of_z}
use Rattle.std.proofs.lemmas.Bool.{lt-ltb, le-ltb}
use Rattle.std.proofs.lemmas.Bool.Decides.{nat_tests}
use Rattle.bw_code.specs.Encodings.{distance}
use Rattle.bw_code.proofs.Offsets.{range_is}
use Rattle.bw_code.proofs.offset.Offset.range.Goals as goal
use Rattle.bw_code.proofs.offset.Offset.range.Goals.{else-first-eq0-via-then-first-eq0+else-last-largest, else-first-eq0-via-else-first-eq0}

pub returns-then-first-last : goal.returns-then-first-last
returns-then-first-last c =
    let f : c.abs_diff-first.result ≡ distance (int_max c.args.low c.args.self.base) c.args.self.base = search (arith, ints, to_z-of_z, c.abs_diff-first.ensures, c.max.ensures.value) in
    let above : c.args.self.base ≤ℤ c.args.high = grind (arith, ints, c.if-high-self.false) in
    let h : c.abs_diff.result ≡ distance c.args.high c.args.self.base = search (arith, ints, to_z-of_z, c.abs_diff.ensures) in
    let l : c.min-last.result ≡ min (distance c.args.high c.args.self.base) (2 ^ c.args.self.width - 1) = rw (← h, ← c.largest_code-largest.ensures) c.min-last.ensures in
    rw (range_is c.args.self c.args.low c.args.high _ _ above f l, lt-ltb _ _ c.if-first-last.true) refl

pub returns-else-first-eq0 : goal.returns-else-first-eq0
returns-else-first-eq0 c =
    let f : c.abs_diff-first.result ≡ distance (int_max c.args.low c.args.self.base) c.args.self.base = search (arith, ints, to_z-of_z, c.abs_diff-first.ensures, c.max.ensures.value) in
    let above : c.args.self.base ≤ℤ c.args.high = grind (arith, ints, c.if-high-self.false) in
    let h : c.abs_diff.result ≡ distance c.args.high c.args.self.base = search (arith, ints, to_z-of_z, c.abs_diff.ensures) in
    let l : c.min-last.result ≡ min (distance c.args.high c.args.self.base) (2 ^ c.args.self.width - 1) = rw (← h, ← c.largest_code-largest.ensures) c.min-last.ensures in
    let part : (eqb c.abs_diff-first.result 0 && eqb c.min-last.result (2 ^ c.args.self.width - 1)) ≡ false =
    elim c.else-first-eq0.branch [
      | else-first-eq0-via-then-first-eq0+else-last-largest w ↦ grind (arith, nat_tests)
      | else-first-eq0-via-else-first-eq0 w ↦ grind (arith, nat_tests)
    ]
    in
    rw (range_is c.args.self c.args.low c.args.high _ _ above f l, le-ltb _ _ c.if-first-last.false, part) refl
