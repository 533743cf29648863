use Rattle.std.proofs.Common.{All, ap, arith, get_or, length, subst, sym, ◌++◌, ◌+◌, ◌<◌, ◌≤◌, ◌^◌, ◌∙◌, ℕ}
use Rattle.bw_mask.specs.Masks.{bit_of}
use Rattle.bw_code.specs.Columns.{count}
use Rattle.bw_column.specs.Codes.{AreRowCodes, IsRowCode}
use Rattle.bw_column.specs.Storing.{layout_of, list_of}
use Rattle.bw_column.specs.Values.{IsNullOrHeld}
use Rattle.bw_column.proofs.Blocks.{rows, rows_coded, rows_codes, rows_fit, rows_present}
use Rattle.bw_column.proofs.Changed.{rows_extended, values_extended}
use Rattle.bw_code.proofs.Lists.{made_len}
use Rattle.bw_column.proofs.column.Column.extend_rows.Goals as goal

pub extend-requires-clause-fit : goal.extend-requires-clause-fit
extend-requires-clause-fit c =
    let e = c.self.inside.encoding in
    let codes = c.args.codes.now in
    let each : (k : ℕ) → k < length codes → IsRowCode e (get_or codes k 0) (bit_of c.args.present k) = rw (← c.self.view_is) at c.requires.rows in
    rw c.self.invariant.width (rows_fit e c.self.invariant.sound codes c.args.present each)

pub invariant_of-self : goal.invariant_of-self
invariant_of-self c =
    let e = c.self.inside.encoding in
    let codes = c.args.codes.now in
    let word = c.args.present in
    let each : (k : ℕ) → k < length codes → IsRowCode e (get_or codes k 0) (bit_of word k) = rw (← c.self.view_is) at c.requires.rows in
    let sound = c.self.invariant.sound in
    let kept : All (IsNullOrHeld (layout_of c.self.inside.codes)) (rows e codes word) = rw (← c.self.view_is) at c.requires.held in
    let few : count (list_of c.self.inside.codes) + length (rows e codes word) ≤ 2 ^ 24 = grind (arith, made_len) in
    subst (λ l. AreRowCodes l e (list_of c.extend.new.self) c.push_bits.new.self) (sym c.extend.ensures.layout) (rows_extended e (list_of c.self.inside.codes) (list_of c.extend.new.self) c.self.inside.nonnull c.push_bits.new.self c.self.invariant c.extend.ensures.shape.width
    (rows e codes word) (rows_coded e sound codes word each) kept few
    (c.extend.ensures.codes ∙ ap (λ xs. (list_of c.self.inside.codes).codes ++ xs) (rows_codes e sound codes word each))
    (c.push_bits.ensures.rows ∙ ap (λ xs. c.self.inside.nonnull.rows ++ xs) (rows_present e sound codes word each)))

pub returns-clause-values : goal.returns-clause-values
returns-clause-values c =
    let e = c.self.inside.encoding in
    let codes = c.args.codes.now in
    let word = c.args.present in
    let each : (k : ℕ) → k < length codes → IsRowCode e (get_or codes k 0) (bit_of word k) = rw (← c.self.view_is) at c.requires.rows in
    let sound = c.self.invariant.sound in
    let kept : All (IsNullOrHeld (layout_of c.self.inside.codes)) (rows e codes word) = rw (← c.self.view_is) at c.requires.held in
    let few : count (list_of c.self.inside.codes) + length (rows e codes word) ≤ 2 ^ 24 = grind (arith, made_len) in
    rw (← c.self.view_is) (values_extended e (list_of c.self.inside.codes) (list_of c.extend.new.self) c.self.inside.nonnull c.push_bits.new.self c.self.invariant c.extend.ensures.shape.width
    (rows e codes word) (rows_coded e sound codes word each) kept few
    (c.extend.ensures.codes ∙ ap (λ xs. (list_of c.self.inside.codes).codes ++ xs) (rows_codes e sound codes word each))
    (c.push_bits.ensures.rows ∙ ap (λ xs. c.self.inside.nonnull.rows ++ xs) (rows_present e sound codes word each)))
