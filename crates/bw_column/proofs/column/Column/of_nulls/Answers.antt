use Rattle.std.proofs.Common.{ap, replicate, subst, sym, ℕ, ◌++◌, ◌∙◌, ◌≡◌}
use Rattle.bw_code.specs.Encodings.{width}
use Rattle.bw_column.specs.Codes.{AreRowCodes}
use Rattle.bw_column.specs.Storing.{layout_of, list_of}
use Rattle.bw_column.proofs.Stored.{rows_null, values_null}
use Rattle.bw_column.proofs.column.Column.of_nulls.Goals as goal

pub invariant_of-result : goal.invariant_of-result
invariant_of-result c =
    let e = c.args.encoding in
    let codes = list_of c.extend_zeros.new.self in
    let zeros : codes.codes ≡ replicate {A = ℕ} c.args.n 0 =
    c.extend_zeros.ensures.codes ∙ ap (λ xs. xs ++ replicate c.args.n 0) (c.in_ok-reserve.ensures.codes ∙ c.in_ok-codes.ensures.codes) in
    let layout : layout_of c.extend_zeros.new.self ≡ c.args.layout = c.extend_zeros.ensures.layout ∙ c.in_ok-reserve.ensures.layout ∙ c.in_ok-codes.ensures.layout in
    let wide : codes.width ≡ width e = c.extend_zeros.ensures.shape.width ∙ c.in_ok-reserve.ensures.shape.width ∙ c.in_ok-codes.ensures.width ∙ c.width.ensures.is in
    subst (λ l. AreRowCodes l e codes c.in_ok-nonnull.nonnull) (sym layout)
    (rows_null c.args.layout e c.width.ensures.sound codes c.in_ok-nonnull.nonnull c.args.n zeros c.in_ok-nonnull.ensures c.requires.narrow wide c.requires.few)

pub returns-clause-values : goal.returns-clause-values
returns-clause-values c =
    let codes = list_of c.extend_zeros.new.self in
    let zeros : codes.codes ≡ replicate {A = ℕ} c.args.n 0 =
    c.extend_zeros.ensures.codes ∙ ap (λ xs. xs ++ replicate c.args.n 0) (c.in_ok-reserve.ensures.codes ∙ c.in_ok-codes.ensures.codes) in
    values_null c.args.layout c.args.encoding c.width.ensures.sound codes c.in_ok-nonnull.nonnull c.args.n zeros c.in_ok-nonnull.ensures
