use Rattle.std.proofs.Common.{refl}
use Rattle.bw_code.specs.Types.{IsNullOrOfType}
use Rattle.bw_code.specs.declared.kind.ColumnType.TheVariants.{BigInt, Integer}
use Rattle.bw_column.proofs.Chosen.{holds_any}
use Rattle.bw_table.specs.Slots.{slot_column}
use Rattle.bw_table.proofs.Copied.{found_down, found_up}
use Rattle.bw_table.proofs.Typed.{of_any, of_widest}
use Rattle.bw_table.proofs.copies.copy_fits.Goals as goal

pub returns-in-BigInt-Integer : goal.returns-in-BigInt-Integer
returns-in-BigInt-Integer c =
    let slots = c.args.slots.now.slots in
    let P = IsNullOrOfType c.args.target in
    let told = rw (← c.in-BigInt-Integer.is-1, c.column.ensures.values) at c.has_integers.ensures in
    (λ e. found_down P slots c.args.found.now c.args.from c.requires.found (told.0 e), λ all. told.1 (found_up P slots c.args.found.now c.args.from c.requires.found all))

pub returns-in-BigInt-BigInt : goal.returns-in-BigInt-BigInt
returns-in-BigInt-BigInt c =
    let slots = c.args.slots.now.slots in
    let vs = slot_column slots c.args.from in
    (λ e. rw c.in-BigInt-BigInt.is-1 (found_down (IsNullOrOfType BigInt) slots c.args.found.now c.args.from c.requires.found (λ i there. of_widest c.args.own _ (holds_any (IsNullOrOfType c.args.own) vs tt c.requires.typed i))), λ all. refl)

pub returns-in-Integer-default : goal.returns-in-Integer-default
returns-in-Integer-default c =
    let slots = c.args.slots.now.slots in
    let vs = slot_column slots c.args.from in
    let typed = rw c.in-Integer-default.is-0 at c.requires.typed in
    (λ e. found_down (IsNullOrOfType c.args.target) slots c.args.found.now c.args.from c.requires.found (λ i there. of_any c.args.target _ (holds_any (IsNullOrOfType Integer) vs tt typed i)), λ all. refl)
