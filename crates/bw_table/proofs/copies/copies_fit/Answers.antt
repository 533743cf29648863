use Rattle.std.proofs.Common.{None, arith, get_or, inl, inr, sym, true, ℕ, ◌≡◌}
use Rattle.std.proofs.lemmas.Bool.{cases_Bool}
use Rattle.bw_code.specs.Types.{types_of}
use Rattle.bw_table.specs.Changes.{copies_fit, rows_found}
use Rattle.bw_table.specs.declared.setting.SetTo.{SetTo}
use Rattle.bw_table.specs.declared.setting.SetTo.TheVariants.{Value}
use Rattle.bw_table.proofs.Copied.{Fits, fits_across, fits_down, fits_more, value_fits}
use Rattle.bw_table.proofs.Heads.{type_is, typed_column, types_count}
use Rattle.bw_table.proofs.copies.copies_fit.Goals.{in-Column+else-not-copy_fits, in_default}
use Rattle.bw_table.proofs.copies.copies_fit.Goals as goal

abbrev first : ℕ × SetTo
first = (0, Value None)

pub copy_fits-requires-clause-typed : goal.copy_fits-requires-clause-typed
copy_fits-requires-clause-typed g c =
    let headers = c.args.headers.now in
    let may = rw c.in-Column.is at (c.requires.values c.loop-set.set-index first c.loop-set-test.true) in
    typed_column headers c.args.slots.now c.requires.headers c.in-Column.from c.index-headers-from.result (omega (arith, may, types_count headers))

pub returns-then-not-copy_fits : goal.returns-then-not-copy_fits
returns-then-not-copy_fits g c =
    let headers = c.args.headers.now in
    let types = types_of headers in
    let n = c.loop-set.set-index in
    let sets = c.args.sets.now in
    let rows = rows_found c.args.found.now c.args.slots.now.slots in
    let of_k = type_is headers (get_or sets n first).0 c.index-headers-k.result (c.requires.named n first c.loop-set-test.true) in
    elim (cases_Bool (copies_fit types c.args.found.now sets c.args.slots.now.slots)) [
      | inl e ↦
          let fits = rw (c.in-Column.is, of_k) at (fits_down types rows sets e n first c.loop-set-test.true) in
          let same : c.copy_fits.result ≡ true = c.copy_fits.ensures.1 fits in
          absurd cc
      | inr e ↦ sym e
    ]

pub loop-set-preserved : goal.loop-set-preserved
loop-set-preserved g c =
    let headers = c.args.headers.now in
    let types = types_of headers in
    let n = c.loop-set.set-index in
    let sets = c.args.sets.now in
    let rows = rows_found c.args.found.now c.args.slots.now.slots in
    let here : Fits types rows (get_or sets n first) =
    elim c.match-to.branch [
      | in-Column+else-not-copy_fits w ↦
          let of_k = type_is headers (get_or sets n first).0 w.index-headers-k.result (c.requires.named n first c.loop-set-test.true) in
          rw (w.in-Column.is, of_k) (w.copy_fits.ensures.0 w.if-not-copy_fits.false)
      | in_default w ↦
          let of = rw w.in_default.is at (c.requires.values n first c.loop-set-test.true) in
          rw w.in_default.is (value_fits types rows (get_or sets n first).0 w.in_default.field-0 of)
    ] in
    fits_more types rows sets n first c.loop-set-test.true c.loop-set.invariant here

pub returns : goal.returns
returns g c = sym (fits_across (types_of c.args.headers.now) (rows_found c.args.found.now c.args.slots.now.slots) c.args.sets.now (λ j s l. c.loop-set.invariant j s (omega (arith, l, c.loop-set-test.false))))
