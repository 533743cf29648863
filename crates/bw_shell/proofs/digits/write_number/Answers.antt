use Rattle.std.proofs.Common.{ap, arith, drop, to_z, of_z, to_z-of_z, unsigned_abs, w64, ◌++◌, ◌∙◌, ◌≡◌}
use Rattle.std.specs.Fmt.{decimal}
use Rattle.bw_shell.proofs.NumberTexts.{few_digits, signed_text, sign_at_most}
use Rattle.bw_shell.proofs.digits.write_number.Goals as goal

pub write_unsigned-start-requires-clause-room : goal.write_unsigned-start-requires-clause-room
write_unsigned-start-requires-clause-room c = omega (arith, c.requires.room, few_digits c.unsigned_abs.result (omega arith))

pub overflow_sub-bytes : goal.overflow_sub-bytes
overflow_sub-bytes c = omega (arith, c.requires.room, c.write_unsigned-start.ensures.start, few_digits c.unsigned_abs.result (omega arith))

pub overflow_sub-result : goal.overflow_sub-result
overflow_sub-result c = omega (arith, c.requires.room, c.write_unsigned-start.ensures.start, few_digits c.unsigned_abs.result (omega arith), sign_at_most (to_z w64 (of_z w64 c.args.n)))

pub returns-clause-before : goal.returns-clause-before
returns-clause-before c = omega (arith, c.write_unsigned-start.ensures.start)

pub returns-clause-near : goal.returns-clause-near
returns-clause-near c = omega (arith, c.requires.room, c.write_unsigned-start.ensures.start, few_digits c.unsigned_abs.result (omega arith), sign_at_most (to_z w64 (of_z w64 c.args.n)))

pub returns-clause-written : goal.returns-clause-written
returns-clause-written c =
    let w = c.write_unsigned-start in
    let back = to_z-of_z c.ranges.n in
    let few = few_digits c.unsigned_abs.result (omega arith) in
    let here : decimal c.unsigned_abs.result ≡ decimal (unsigned_abs c.args.n) = ap decimal (rw back at c.unsigned_abs.ensures.value) in
    rw back (signed_text c.args.n w.result w.new.bytes (drop c.args.end c.args.bytes.now)
    (omega (arith, c.requires.room, w.ensures.start, few))
    (omega (arith, c.requires.inside, w.ensures.start, w.auto.bytes))
    (w.ensures.written ∙ ap (λ l. l ++ drop c.args.end c.args.bytes.now) here))
