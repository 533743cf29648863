use Rattle.std.proofs.Common.{arith, false, get_or, inl, inr, length, refl, ℕ, ◌*◌, ◌+◌, ◌-◌, ◌/◌, ◌≡◌, ◌≤◌, ◌∙◌}
use Rattle.std.proofs.lemmas.Bool.{cases_lt}
use Rattle.bw_mask.proofs.Bits.{bit_above}
use Rattle.bw_code.specs.Columns.{Fit, is_chosen}
use Rattle.bw_code.proofs.Runs.{chosen_below, chosen_from, fit_at, none_put}
use Rattle.bw_vertical.specs.Storage.{capacities, codes_of, lists}
use Rattle.bw_vertical.proofs.Blends.{codes_put, rest_left}
use Rattle.bw_vertical.proofs.Holding.{codes_len, held_set}
use Rattle.bw_vertical.proofs.Rooms.{room_more}
use Rattle.bw_vertical.proofs.column.VerticalColumnCodeColumn.put_run.Goals as goal

-- no row past the last is chosen
past : (c : goal.After-put_chosen) → (j : ℕ) → c.self.inside.len ≤ j → is_chosen c.args.at c.args.rows j ≡ false
past c =
    let at = c.args.at in
    let rows = c.args.rows in
    let inside : at + length c.args.codes.now ≤ c.self.inside.len = grind (arith, codes_len) in
    λ j l.
    elim (cases_lt j at) [
      | inl below ↦ chosen_below at rows j below
      | inr from ↦ chosen_from at rows j from ∙ c.requires.given (j - at) (omega (arith, l, from, inside))
    ]

pub invariant_of-self : goal.invariant_of-self
invariant_of-self c =
    let k = c.self.inside.width in
    let n = c.self.inside.len in
    let new = c.put_chosen.new.groups.items in
    let old = c.self.inside.groups.items in
    let first : c.args.at ≡ 64 * (c.args.at / 64) = omega (arith, c.requires.word) in
    held_set k n new old c.self.invariant c.put_chosen.ensures.sizes
    (rest_left k (c.args.at / 64) c.args.at c.args.rows (λ r. get_or c.args.codes.now r 0) (lists old) (lists new) first c.put_chosen.ensures.put c.put_chosen.ensures.other (λ r h. bit_above c.args.rows r c.ranges.rows.fits h) n (past c))

pub returns-then-at-self-clause-shape : goal.returns-then-at-self-clause-shape
returns-then-at-self-clause-shape c =
    rw (← c.self.view_is) (record {
      width = refl;
      room = room_more c.self.inside.width (capacities c.self.inside.groups.items) (capacities c.put_chosen.new.groups.items) c.put_chosen.ensures.sizes.capacities;
    })

pub returns-then-at-self-clause-codes : goal.returns-then-at-self-clause-codes
returns-then-at-self-clause-codes c =
    let k = c.self.inside.width in
    let new = lists c.put_chosen.new.groups.items in
    let old = lists c.self.inside.groups.items in
    let first : c.args.at ≡ 64 * (c.args.at / 64) = omega (arith, c.requires.word) in
    let fit : Fit k c.args.codes.now = rw (← c.self.view_is) at c.requires.fit in
    rw (← c.self.view_is) (codes_put k (c.args.at / 64) c.args.at c.args.rows (λ r. get_or c.args.codes.now r 0) old new first c.put_chosen.ensures.put c.put_chosen.ensures.other (λ r h. bit_above c.args.rows r c.ranges.rows.fits h) c.self.inside.len (fit_at k c.args.codes.now fit))

pub returns-else-at-self-clause-codes : goal.returns-else-at-self-clause-codes
returns-else-at-self-clause-codes c =
    let k = c.self.inside.width in
    let n = c.self.inside.len in
    let old = codes_of k (lists c.self.inside.groups.items) n in
    rw (← c.self.view_is) (none_put old c.args.at c.args.rows (λ j. get_or c.args.codes.now (j - c.args.at) 0) (λ j h. chosen_below c.args.at c.args.rows j (omega (arith, h, c.if-at-self.false, codes_len k n (lists c.self.inside.groups.items)))))
