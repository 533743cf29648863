use Rattle.std.proofs.Common.{refl, ◌≡◌, ◌+◌, ◌≤◌, ◌^◌, arith, get_or, map, length, ◌∙◌, ap, ◌++◌, replicate, true}
use Rattle.std.specs.List.{All}
use Rattle.std.proofs.lemmas.List.{length-map}
use Rattle.bw_mask.specs.Masks.{len}
use Rattle.bw_column.specs.Columns.{ColumnView}
use Rattle.bw_code.proofs.Lists.{made_len}
use Rattle.bw_table.proofs.Across.{are_appended, columns_longer, kept_view, layout_down, longer, on_err, view_of, AreLonger}
use Rattle.bw_table.proofs.SameKinds.{appended_kinds}
use Rattle.bw_code.specs.Encodings.{kind_of}
use Rattle.bw_table.specs.Changes.{AreAppended}
use Rattle.bw_table.specs.Slots.{IsHeldRow, SlotsView}
use Rattle.bw_column.specs.Values.{IsNullOrHeld}
use Rattle.bw_table.proofs.Typed.{zipped_long}
use Rattle.bw_table.proofs.slots.Slots.append.Goals as goal

pub prepare-requires-clause-few : goal.prepare-requires-clause-few
prepare-requires-clause-few c =
    let few : len c.self.inside.live + length c.args.rows.now ≤ 2 ^ 24 = grind (arith, made_len) in
    λ k d l. omega (arith, few, c.self.invariant.rows k d l)

pub returns-in_err-prepared-clause-unchanged : goal.returns-in_err-prepared-clause-unchanged
returns-in_err-prepared-clause-unchanged c =
    on_err _ _ (kept_view c.prepare.new.columns.items c.self.inside.columns.items c.prepare.ensures.kept c.self.inside.live c.self.inside.live refl ∙ c.self.view_is)

pub returns-in_err-prepared-clause-layouts : goal.returns-in_err-prepared-clause-layouts
returns-in_err-prepared-clause-layouts c =
    ap (λ (s : SlotsView). s.layouts) (kept_view c.prepare.new.columns.items c.self.inside.columns.items c.prepare.ensures.kept c.self.inside.live c.self.inside.live refl ∙ c.self.view_is)

pub returns-in_err-prepared-clause-kinds : goal.returns-in_err-prepared-clause-kinds
returns-in_err-prepared-clause-kinds c =
    ap (λ (s : SlotsView). map kind_of s.encodings) (kept_view c.prepare.new.columns.items c.self.inside.columns.items c.prepare.ensures.kept c.self.inside.live c.self.inside.live refl ∙ c.self.view_is)

pub returns-in_err-reserve-clause-unchanged : goal.returns-in_err-reserve-clause-unchanged
returns-in_err-reserve-clause-unchanged c =
    on_err _ _ (kept_view c.prepare.new.columns.items c.self.inside.columns.items c.prepare.ensures.kept c.reserve.new.self c.self.inside.live c.reserve.ensures.rows ∙ c.self.view_is)

pub returns-in_err-reserve-clause-layouts : goal.returns-in_err-reserve-clause-layouts
returns-in_err-reserve-clause-layouts c =
    ap (λ (s : SlotsView). s.layouts) (kept_view c.prepare.new.columns.items c.self.inside.columns.items c.prepare.ensures.kept c.reserve.new.self c.self.inside.live c.reserve.ensures.rows ∙ c.self.view_is)

pub returns-in_err-reserve-clause-kinds : goal.returns-in_err-reserve-clause-kinds
returns-in_err-reserve-clause-kinds c =
    ap (λ (s : SlotsView). map kind_of s.encodings) (kept_view c.prepare.new.columns.items c.self.inside.columns.items c.prepare.ensures.kept c.reserve.new.self c.self.inside.live c.reserve.ensures.rows ∙ c.self.view_is)

got_longer : (c : goal.After-push_live) → AreLonger c.apply.new.columns.items c.self.inside.columns.items c.args.rows.now
got_longer c =
    longer c.apply.new.columns.items c.prepare.new.columns.items c.self.inside.columns.items c.args.rows.now (omega (arith, c.apply.ensures.count)) c.prepare.ensures.kept c.apply.ensures.made

are_wide : (c : goal.After-push_live) → All (λ row. length row ≡ length c.self.inside.columns.items) c.args.rows.now
are_wide c =
    let layouts = map (λ (x : ColumnView). x.layout) c.self.inside.columns.items in
    let held : All (IsHeldRow layouts) c.args.rows.now = rw (← c.self.view_is) at c.requires.held in
    λ i d l. zipped_long IsNullOrHeld layouts (get_or c.args.rows.now i d) (held i d l) ∙ length-map c.self.inside.columns.items (λ (x : ColumnView). x.layout)

more_live : (c : goal.After-push_live) → c.push_live.new.live.rows ≡ c.self.inside.live.rows ++ replicate (length c.args.rows.now) true
more_live c = c.push_live.ensures ∙ ap (λ n. c.reserve.new.self.rows ++ replicate n true) c.len-2.ensures ∙ ap (λ xs. xs ++ replicate (length c.args.rows.now) true) c.reserve.ensures.rows

pub invariant_of-self-2 : goal.invariant_of-self-2
invariant_of-self-2 c =
    let few : len c.self.inside.live + length c.args.rows.now ≤ 2 ^ 24 = grind (arith, made_len) in
    columns_longer c.apply.new.columns.items c.self.inside.columns.items c.self.inside.live c.push_live.new.live c.args.rows.now c.self.invariant (got_longer c) (are_wide c) (more_live c) few (rw (← c.self.view_is) at c.requires.held)

appended : (c : goal.After-push_live) → AreAppended (view_of c.self.inside.columns.items c.self.inside.live) c.args.rows.now (view_of c.apply.new.columns.items c.push_live.new.live)
appended c = are_appended c.apply.new.columns.items c.self.inside.columns.items c.self.inside.live c.push_live.new.live c.args.rows.now c.self.invariant (got_longer c) (are_wide c) (more_live c)

pub returns-clause-appended : goal.returns-clause-appended
returns-clause-appended c = rw (← c.self.view_is) (appended c)

pub returns-clause-layouts : goal.returns-clause-layouts
returns-clause-layouts c = rw (← c.self.view_is) (appended c).layouts_are

pub returns-clause-kinds : goal.returns-clause-kinds
returns-clause-kinds c = rw (← c.self.view_is) (appended_kinds _ _ c.args.rows.now (appended c))

pub prepare-requires-clause-held : goal.prepare-requires-clause-held
prepare-requires-clause-held c = λ k d l. layout_down c.self.inside.columns.items c.args.rows.now (rw (← c.self.view_is) at c.requires.held) k d (omega (arith, l))

pub prepare-requires-clause-widths : goal.prepare-requires-clause-widths
prepare-requires-clause-widths c =
    let layouts = map (λ (x : ColumnView). x.layout) c.self.inside.columns.items in
    let held : All (IsHeldRow layouts) c.args.rows.now = rw (← c.self.view_is) at c.requires.held in
    λ i d l. omega (arith, zipped_long IsNullOrHeld layouts (get_or c.args.rows.now i d) (held i d l), length-map c.self.inside.columns.items (λ (x : ColumnView). x.layout))

pub apply-requires-clause-widths : goal.apply-requires-clause-widths
apply-requires-clause-widths c =
    let layouts = map (λ (x : ColumnView). x.layout) c.self.inside.columns.items in
    let held : All (IsHeldRow layouts) c.args.rows.now = rw (← c.self.view_is) at c.requires.held in
    λ i d l. omega (arith, zipped_long IsNullOrHeld layouts (get_or c.args.rows.now i d) (held i d l), length-map c.self.inside.columns.items (λ (x : ColumnView). x.layout), c.prepare.ensures.kept.count, c.prepare.new.columns.ok.0)
