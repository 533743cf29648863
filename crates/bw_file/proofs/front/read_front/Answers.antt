use Rattle.std.proofs.Common.{ap, arith, length, sym, take, ◌≡◌, ◌∙◌}
use Rattle.std.proofs.lemmas.Bool.Decides.{Decides-eqb}
use Rattle.std.proofs.lemmas.Slice.Eq.{slice_eq-Decides}
use Rattle.bw_file.specs.Format.{front_bytes, version_number}
use Rattle.bw_file.proofs.Fronts.{one_version, told_columns, told_front, told_rows, told_version}
use Rattle.bw_file.proofs.front.read_front.Goals as goal

pub returns-then-rows-gt-ROW_LIMIT-clause-told : goal.returns-then-rows-gt-ROW_LIMIT-clause-told
returns-then-rows-gt-ROW_LIMIT-clause-told c version t s =
    absurd (omega (arith, c.if-rows-gt-ROW_LIMIT.true, c.read_u32-rows.ensures, told_rows version c.args.bytes.now t s, s.table.few))

pub returns-else-eq-clause-told : goal.returns-else-eq-clause-told
returns-else-eq-clause-told c version t s =
    let bytes = c.args.bytes.now in
    let number : version_number c.in_ok-version.version ≡ version_number version = sym c.in_ok-version.ensures.found ∙ c.read_u16.ensures ∙ told_version version bytes t s in
    let same_version = one_version c.in_ok-version.version version number in
    let columns : c.read_u16-columns.result ≡ length t.headers = c.read_u16-columns.ensures ∙ told_columns version bytes t s in
    let rows : c.read_u32-rows.result ≡ t.rows = c.read_u32-rows.ensures ∙ told_rows version bytes t s in
    let same : take 14 bytes ≡ c.as_slice.result.now =
    told_front version bytes t s ∙ ap (λ v. front_bytes v (length t.headers) t.rows) (sym same_version) ∙ ap (λ n. front_bytes c.in_ok-version.version n t.rows) (sym columns)
    ∙ ap (front_bytes c.in_ok-version.version c.read_u16-columns.result) (sym rows) ∙ sym c.front.ensures ∙ sym c.as_slice.ensures in
    cc ((slice_eq-Decides Decides-eqb (take 14 bytes) c.as_slice.result.now _ c.if-eq.ensures).1 same)
