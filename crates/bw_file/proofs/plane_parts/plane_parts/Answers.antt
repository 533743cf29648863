use Rattle.std.proofs.Common.{FitsSigned, ap, arith, drop, length, length-drop, of_z, rules, sym, take, take-append-drop, to_z, w64, ◌*◌, ◌++◌, ◌-◌, ◌≡◌, ◌∙◌, ◌∷◌}
use Rattle.std.specs.Int.{cast_unsigned}
use Rattle.std.proofs.lemmas.Int.{to_z-of_z}
use Rattle.std.proofs.lemmas.List.{take_all}
use Rattle.byteorder.specs.Endian.{little_bytes}
use Rattle.bw_cells.specs.Known.{known}
use Rattle.bw_file.specs.Cells.{presence_size}
use Rattle.bw_file.proofs.Parts.{few_wide, joined, long_enough, planes_there, told}
use Rattle.bw_file.proofs.plane_parts.plane_parts.Goals as goal

pub returns-then-bytes-size-clause-none : goal.returns-then-bytes-size-clause-none
returns-then-bytes-size-clause-none c e cells tail count all same =
    omega (arith, long_enough cells c.args.bytes.now tail same, c.if-bytes-size.true, c.div_ceil-size.ensures, count)

pub returns-then-width-gt64-clause-none : goal.returns-then-width-gt64-clause-none
returns-then-width-gt64-clause-none c e cells tail count all same =
    let size : c.div_ceil-size.result ≡ presence_size (length cells) = omega (arith, c.div_ceil-size.ensures, count) in
    let are = told c.args.bytes.now c.split_at.result.0.now c.split_at.result.1.now c.div_ceil-size.result c.read_i64-base.result c.from-width.result (λ k. omega (arith, c.type_inv.bytes k)) c.split_at.ensures.front c.split_at.ensures.back
    (omega (arith, c.if-bytes-size.false)) c.read_i64-base.ensures c.from-width.ensures cells tail all size same in
    omega (arith, are.width_is, few_wide (known cells), c.if-width-gt64.true)

pub returns-then-rest-width-clause-none : goal.returns-then-rest-width-clause-none
returns-then-rest-width-clause-none c e cells tail count all same =
    let size : c.div_ceil-size.result ≡ presence_size (length cells) = omega (arith, c.div_ceil-size.ensures, count) in
    let are = told c.args.bytes.now c.split_at.result.0.now c.split_at.result.1.now c.div_ceil-size.result c.read_i64-base.result c.from-width.result (λ k. omega (arith, c.type_inv.bytes k)) c.split_at.ensures.front c.split_at.ensures.back
    (omega (arith, c.if-bytes-size.false)) c.read_i64-base.ensures c.from-width.ensures cells tail all size same in
    let there = planes_there cells c.split_at.result.0.now (drop 9 c.split_at.result.1.now) tail c.read_i64-base.result c.from-width.result are in
    omega (arith, there, c.if-rest-width.true, length-drop 9 c.split_at.result.1.now, ap (λ n. c.from-width.result * n) size)

pub returns-clause-spelled : goal.returns-clause-spelled
returns-clause-spelled c =
    let rest = c.split_at.result.1.now in
    let tail = take (length rest - 9) (drop 9 rest) in
    let fits : FitsSigned w64 c.read_i64-base.result = search rules in
    let base : to_z w64 (of_z w64 c.read_i64-base.result) ≡ c.read_i64-base.result = to_z-of_z w64 c.read_i64-base.result fits in
    let whole : tail ≡ drop 9 rest = take_all (length rest - 9) (drop 9 rest) (omega (arith, length-drop 9 rest)) in
    let n = c.from-width.result * c.div_ceil-size.result in
    let behind : drop 9 rest ≡ c.split_at-2.result.0.now ++ c.split_at-2.result.1.now =
    sym whole ∙ sym (take-append-drop n tail) ∙ ap (λ xs. xs ++ drop n tail) (sym c.split_at-2.ensures.front) ∙ ap (λ xs. c.split_at-2.result.0.now ++ xs) (sym c.split_at-2.ensures.back) in
    joined c.args.bytes.now c.split_at.result.0.now rest c.div_ceil-size.result c.read_i64-base.result c.from-width.result (λ k. omega (arith, c.type_inv.bytes k)) c.split_at.ensures.front c.split_at.ensures.back
    (omega (arith, c.if-bytes-size.false)) c.read_i64-base.ensures c.from-width.ensures (c.split_at-2.result.0.now ++ c.split_at-2.result.1.now) behind
    ∙ ap (λ z. c.split_at.result.0.now ++ (little_bytes 8 (cast_unsigned w64 z) ++ (c.from-width.result ∷ (c.split_at-2.result.0.now ++ c.split_at-2.result.1.now)))) (sym base)
