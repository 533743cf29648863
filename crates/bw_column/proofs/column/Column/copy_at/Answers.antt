use Rattle.std.proofs.Common.{sym, ◌≡◌}
use Rattle.std.specs.List.{All}
use Rattle.std.proofs.lemmas.Result.{IfOk-weaker}
use Rattle.bw_column.specs.Columns.{ColumnView}
use Rattle.bw_column.specs.Copies.{IsMasked, masked}
use Rattle.bw_column.specs.Values.{IsNullOrHeld}
use Rattle.bw_column.proofs.Masked.{all_masked, masked_is}
use Rattle.bw_column.proofs.column.Column.copy_at.Goals as goal

pub returns-in-Offset-V-clause-masked : goal.returns-in-Offset-V-clause-masked
returns-in-Offset-V-clause-masked c =
    let places = c.args.places.now in
    let values = c.args.self.now.values in
    IfOk-weaker c.stored_copy_at.result (λ (copy : ColumnView). copy.values ≡ masked places values) (λ (copy : ColumnView). IsMasked places copy.values)
    (λ copy is. rw is (masked_is places values (sym c.requires))) c.stored_copy_at.ensures.values

pub returns-in_default-clause-masked : goal.returns-in_default-clause-masked
returns-in_default-clause-masked c =
    let places = c.args.places.now in
    let values = c.args.self.now.values in
    IfOk-weaker c.plain_copy_at.result (λ (copy : ColumnView). copy.values ≡ masked places values) (λ (copy : ColumnView). IsMasked places copy.values)
    (λ copy is. rw is (masked_is places values (sym c.requires))) c.plain_copy_at.ensures.values

pub returns-in_default-clause-held : goal.returns-in_default-clause-held
returns-in_default-clause-held c =
    let places = c.args.places.now in
    let values = c.args.self.now.values in
    let layout = c.args.self.now.layout in
    IfOk-weaker c.plain_copy_at.result (λ (copy : ColumnView). copy.values ≡ masked places values) (λ (copy : ColumnView). All (IsNullOrHeld layout) copy.values)
    (λ copy is. rw is (all_masked (IsNullOrHeld layout) places values tt c.len-held.ensures.held)) c.plain_copy_at.ensures.values
