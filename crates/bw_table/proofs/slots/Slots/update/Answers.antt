use Rattle.std.proofs.Common.{All, length, refl, subst, ◌<◌, ◌≡◌, ap, arith, map, sym, ◌∙◌}
use Rattle.std.proofs.lemmas.List.{length-map}
use Rattle.bw_column.specs.Columns.{ColumnView}
use Rattle.bw_mask.specs.Masks.{len}
use Rattle.bw_code.proofs.Lists.{made_len}
use Rattle.bw_code.specs.Encodings.{kind_of}
use Rattle.bw_table.specs.Changes.{AreUpdated}
use Rattle.bw_table.specs.Sets.{AllSet}
use Rattle.bw_table.specs.Slots.{AreColumns, SlotsView}
use Rattle.bw_table.proofs.Exchanged.{exchanged_set}
use Rattle.bw_table.proofs.SameKinds.{updated_kinds}
use Rattle.bw_table.proofs.Across.{kept_columns, kept_view, on_err, view_of}
use Rattle.bw_table.proofs.Updated.{AreHeldSets, AreSetHeld, are_updated, columns_set, sets_held}
use Rattle.bw_table.proofs.slots.Slots.update.Goals as goal

pub prepare_sets-requires-clause-long : goal.prepare_sets-requires-clause-long
prepare_sets-requires-clause-long c =
    let same : len c.args.found.now ≡ len c.self.inside.live = grind (arith, made_len) in
    λ k d l. c.self.invariant.rows k d l ∙ sym same

pub prepare_sets-requires-clause-few : goal.prepare_sets-requires-clause-few
prepare_sets-requires-clause-few c =
    let same : len c.args.found.now ≡ len c.self.inside.live = grind (arith, made_len) in
    omega (arith, same, c.self.invariant.few)

pub returns-in_err-changes-clause-unchanged : goal.returns-in_err-changes-clause-unchanged
returns-in_err-changes-clause-unchanged c =
    on_err _ _ (kept_view c.prepare_sets.new.columns.items c.self.inside.columns.items c.prepare_sets.ensures.kept c.self.inside.live c.self.inside.live refl ∙ c.self.view_is)

pub returns-in_err-changes-clause-layouts : goal.returns-in_err-changes-clause-layouts
returns-in_err-changes-clause-layouts c =
    ap (λ (s : SlotsView). s.layouts) (kept_view c.prepare_sets.new.columns.items c.self.inside.columns.items c.prepare_sets.ensures.kept c.self.inside.live c.self.inside.live refl ∙ c.self.view_is)

pub returns-in_err-changes-clause-kinds : goal.returns-in_err-changes-clause-kinds
returns-in_err-changes-clause-kinds c =
    ap (λ (s : SlotsView). map kind_of s.encodings) (kept_view c.prepare_sets.new.columns.items c.self.inside.columns.items c.prepare_sets.ensures.kept c.self.inside.live c.self.inside.live refl ∙ c.self.view_is)

pub apply_sets-requires-clause-long : goal.apply_sets-requires-clause-long
apply_sets-requires-clause-long c =
    let same : len c.args.found.now ≡ len c.self.inside.live = grind (arith, made_len) in
    let are = kept_columns c.prepare_sets.new.columns.items c.self.inside.columns.items c.prepare_sets.ensures.kept c.self.inside.live c.self.inside.live refl c.self.invariant in
    λ k d l. are.rows k d l ∙ sym same

are_kept : (c : goal.After-apply_sets) → AreColumns c.prepare_sets.new.columns.items c.self.inside.live
are_kept c = kept_columns c.prepare_sets.new.columns.items c.self.inside.columns.items c.prepare_sets.ensures.kept c.self.inside.live c.self.inside.live refl c.self.invariant

as_long : (c : goal.After-apply_sets) → len c.args.found.now ≡ len c.self.inside.live
as_long c = grind (arith, made_len)

held : (c : goal.After-apply_sets) → All (AreSetHeld c.prepare_sets.new.columns.items c.args.found.now) c.args.sets.now
held c =
    let new = c.prepare_sets.new.columns.items in
    let old = c.self.inside.columns.items in
    let live = c.self.inside.live in
    let kept = c.prepare_sets.ensures.kept in
    let same = kept_view new old kept live live refl ∙ c.self.view_is in
    let named : All (λ set. set.0 < length new) c.args.sets.now = λ j s l. omega (arith, c.requires.named j s l, ap (λ (v : SlotsView). length v.encodings) same, length-map new (λ (x : ColumnView). x.encoding)) in
    sets_held new live c.args.found.now c.args.sets.now (as_long c) named (subst (AreHeldSets c.args.found.now c.args.sets.now) (sym same) c.requires.held)

pub invariant_of-self-2 : goal.invariant_of-self-2
invariant_of-self-2 c =
    columns_set c.apply_sets.new.columns.items c.prepare_sets.new.columns.items c.self.inside.live c.args.found.now c.args.sets.now (are_kept c) (as_long c) c.apply_sets.ensures.set (held c)

updated : (c : goal.After-apply_sets) → AreUpdated c.args.found.now c.args.sets.now (view_of c.self.inside.columns.items c.self.inside.live) (view_of c.apply_sets.new.columns.items c.self.inside.live)
updated c =
    let same = kept_view c.prepare_sets.new.columns.items c.self.inside.columns.items c.prepare_sets.ensures.kept c.self.inside.live c.self.inside.live refl in
    rw (← same) (are_updated c.apply_sets.new.columns.items c.prepare_sets.new.columns.items c.self.inside.live c.args.found.now c.args.sets.now (are_kept c) (as_long c) c.apply_sets.ensures.set)

pub returns-clause-updated : goal.returns-clause-updated
returns-clause-updated c = rw (← c.self.view_is) (updated c)

pub returns-clause-layouts : goal.returns-clause-layouts
returns-clause-layouts c = rw (← c.self.view_is) (updated c).layouts_are

pub returns-clause-kinds : goal.returns-clause-kinds
returns-clause-kinds c = rw (← c.self.view_is) (updated_kinds _ _ c.args.found.now c.args.sets.now (updated c))

pub prepare_sets-requires-clause-held : goal.prepare_sets-requires-clause-held
prepare_sets-requires-clause-held c =
    let columns = c.self.inside.columns.items in
    let same : len c.args.found.now ≡ len c.self.inside.live = grind (arith, made_len) in
    let named : All (λ set. set.0 < length columns) c.args.sets.now = λ j s l. omega (arith, c.requires.named j s l, ap (λ (v : SlotsView). length v.encodings) c.self.view_is, length-map columns (λ (x : ColumnView). x.encoding)) in
    sets_held columns c.self.inside.live c.args.found.now c.args.sets.now same named (subst (AreHeldSets c.args.found.now c.args.sets.now) (sym c.self.view_is) c.requires.held)

-- two columns that exchanged their values are all that is set
pub exchange_columns-requires-clause-long : goal.exchange_columns-requires-clause-long
exchange_columns-requires-clause-long c =
    let same : len c.args.found.now ≡ len c.self.inside.live = grind (arith, made_len) in
    λ k d l. c.self.invariant.rows k d l ∙ sym same

module _ (c : goal.After-exchange_columns) where
  same_long : len c.args.found.now ≡ len c.self.inside.live
  same_long = grind (arith, made_len)

  all_set : AllSet c.args.found.now c.args.sets.now c.exchange_columns.new.columns.items c.self.inside.columns.items
  all_set = exchanged_set c.args.found.now c.args.sets.now c.exchange_columns.new.columns.items c.self.inside.columns.items c.in-Some.pair c.in-Some.ensures c.exchange_columns.ensures

  held_before : All (AreSetHeld c.self.inside.columns.items c.args.found.now) c.args.sets.now
  held_before =
      let columns = c.self.inside.columns.items in
      let named : All (λ set. set.0 < length columns) c.args.sets.now = λ j s l. omega (arith, c.requires.named j s l, ap (λ (v : SlotsView). length v.encodings) c.self.view_is, length-map columns (λ (x : ColumnView). x.encoding)) in
      sets_held columns c.self.inside.live c.args.found.now c.args.sets.now same_long named (subst (AreHeldSets c.args.found.now c.args.sets.now) (sym c.self.view_is) c.requires.held)

  exchanged : AreUpdated c.args.found.now c.args.sets.now (view_of c.self.inside.columns.items c.self.inside.live) (view_of c.exchange_columns.new.columns.items c.self.inside.live)
  exchanged = are_updated c.exchange_columns.new.columns.items c.self.inside.columns.items c.self.inside.live c.args.found.now c.args.sets.now c.self.invariant same_long all_set

pub invariant_of-self : goal.invariant_of-self
invariant_of-self c = columns_set c.exchange_columns.new.columns.items c.self.inside.columns.items c.self.inside.live c.args.found.now c.args.sets.now c.self.invariant (same_long c) (all_set c) (held_before c)

pub returns-in-Some-clause-updated : goal.returns-in-Some-clause-updated
returns-in-Some-clause-updated c = rw (← c.self.view_is) (exchanged c)

pub returns-in-Some-clause-layouts : goal.returns-in-Some-clause-layouts
returns-in-Some-clause-layouts c = rw (← c.self.view_is) (exchanged c).layouts_are

pub returns-in-Some-clause-kinds : goal.returns-in-Some-clause-kinds
returns-in-Some-clause-kinds c = rw (← c.self.view_is) (updated_kinds _ _ c.args.found.now c.args.sets.now (exchanged c))
