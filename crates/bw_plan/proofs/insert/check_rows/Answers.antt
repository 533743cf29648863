use Rattle.std.proofs.Common.{◌≡◌, ◌∙◌, ap, arith, false, length, nat_lt, not, sym, true}
use Rattle.std.proofs.lemmas.Bool.{le-ltb, lt-ltb}
use Rattle.bw_plan.specs.Targeting.{names_of}
use Rattle.bw_plan.proofs.Tests.{no_test, of_width, this_test}
use Rattle.bw_plan.proofs.insert.check_rows.Goals as goal

pub rows_fit-requires-clause-widths : goal.rows_fit-requires-clause-widths
rows_fit-requires-clause-widths c = rw c.len.ensures at (c.are_all_of_width.ensures.0 c.if-not-are_all_of_width.false)

pub returns-then-not-rows_fit : goal.returns-then-not-rows_fit
returns-then-not-rows_fit c =
    let rows = c.args.rows.now in
    let width = length (names_of c.args.headers.now c.args.targets) in
    let widths = of_width width rows (rw c.len.ensures at (c.are_all_of_width.ensures.0 c.if-not-are_all_of_width.false)) in
    no_test _ _ _ (ap not widths) ∙ this_test _ _ _ (ap not (sym c.rows_fit.ensures ∙ c.if-not-rows_fit.true))

pub returns-then-len-room : goal.returns-then-len-room
returns-then-len-room c =
    let rows = c.args.rows.now in
    let width = length (names_of c.args.headers.now c.args.targets) in
    let widths = of_width width rows (rw c.len.ensures at (c.are_all_of_width.ensures.0 c.if-not-are_all_of_width.false)) in
    let full : nat_lt c.args.room (length rows) ≡ true = lt-ltb c.args.room (length rows) (omega (arith, c.len-2.ensures, c.if-len-room.true)) in
    no_test _ _ _ (ap not widths) ∙ no_test _ _ _ (ap not (sym c.rows_fit.ensures ∙ c.if-not-rows_fit.false)) ∙ this_test _ _ _ full

pub returns : goal.returns
returns c =
    let rows = c.args.rows.now in
    let width = length (names_of c.args.headers.now c.args.targets) in
    let widths = of_width width rows (rw c.len.ensures at (c.are_all_of_width.ensures.0 c.if-not-are_all_of_width.false)) in
    let room : nat_lt c.args.room (length rows) ≡ false = le-ltb c.args.room (length rows) (omega (arith, c.len-2.ensures, c.if-len-room.false)) in
    (no_test _ _ _ (ap not widths) ∙ no_test _ _ _ (ap not (sym c.rows_fit.ensures ∙ c.if-not-rows_fit.false)) ∙ no_test _ _ _ room, tt)
