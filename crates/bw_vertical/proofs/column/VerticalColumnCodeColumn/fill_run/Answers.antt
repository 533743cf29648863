use Rattle.std.proofs.Common.{ap, arith, false, inl, inr, refl, sym, ℕ, ◌*◌, ◌+◌, ◌-◌, ◌/◌, ◌<◌, ◌^◌, ◌≡◌, ◌≤◌, ◌∙◌}
use Rattle.std.proofs.lemmas.Bool.{cases_Bool}
use Rattle.bw_mask.proofs.Bits.{bit_above}
use Rattle.bw_code.specs.Columns.{count, is_chosen}
use Rattle.bw_code.proofs.Runs.{chosen_above, chosen_below, chosen_from, none_put}
use Rattle.bw_vertical.specs.Storage.{capacities, codes_of, lists}
use Rattle.bw_vertical.proofs.Blends.{codes_put, rest_left}
use Rattle.bw_vertical.proofs.Holding.{codes_len, held_set}
use Rattle.bw_vertical.proofs.Rooms.{room_more}
use Rattle.bw_vertical.proofs.column.VerticalColumnCodeColumn.fill_run.Goals as goal

-- no row past the last is chosen
past : (c : goal.After-fill_chosen) → (j : ℕ) → c.self.inside.len ≤ j → is_chosen c.args.at c.args.rows j ≡ false
past c =
    let at = c.args.at in
    let rows = c.args.rows in
    let inside : count c.args.self.now ≡ c.self.inside.len = ap count (sym c.self.view_is) ∙ codes_len c.self.inside.width c.self.inside.len (lists c.self.inside.groups.items) in
    λ j l.
    elim (cases_Bool (is_chosen at rows j)) [
      | inl e ↦
          let from : at ≤ j = chosen_above at rows j e in
          let here : at + (j - at) ≡ j = omega (arith, from) in
          let low : at + (j - at) < count c.args.self.now = c.requires.there (j - at) (sym (chosen_from at rows j from) ∙ e) in
          absurd (omega (arith, low, here, l, inside))
      | inr e ↦ e
    ]

pub invariant_of-self : goal.invariant_of-self
invariant_of-self c =
    let k = c.self.inside.width in
    let n = c.self.inside.len in
    let new = c.fill_chosen.new.groups.items in
    let old = c.self.inside.groups.items in
    let first : c.args.at ≡ 64 * (c.args.at / 64) = omega (arith, c.requires.word) in
    held_set k n new old c.self.invariant c.fill_chosen.ensures.sizes
    (rest_left k (c.args.at / 64) c.args.at c.args.rows (λ r. c.args.code) (lists old) (lists new) first c.fill_chosen.ensures.put c.fill_chosen.ensures.other (λ r h. bit_above c.args.rows r c.ranges.rows.fits h) n (past c))

pub returns-then-at-self-clause-shape : goal.returns-then-at-self-clause-shape
returns-then-at-self-clause-shape c =
    rw (← c.self.view_is) (record {
      width = refl;
      room = room_more c.self.inside.width (capacities c.self.inside.groups.items) (capacities c.fill_chosen.new.groups.items) c.fill_chosen.ensures.sizes.capacities;
    })

pub returns-then-at-self-clause-codes : goal.returns-then-at-self-clause-codes
returns-then-at-self-clause-codes c =
    let k = c.self.inside.width in
    let new = lists c.fill_chosen.new.groups.items in
    let old = lists c.self.inside.groups.items in
    let first : c.args.at ≡ 64 * (c.args.at / 64) = omega (arith, c.requires.word) in
    let fits : c.args.code < 2 ^ k = rw (← c.self.view_is) at c.requires.fits in
    rw (← c.self.view_is) (codes_put k (c.args.at / 64) c.args.at c.args.rows (λ r. c.args.code) old new first c.fill_chosen.ensures.put c.fill_chosen.ensures.other (λ r h. bit_above c.args.rows r c.ranges.rows.fits h) c.self.inside.len (λ r. fits))

pub returns-else-at-self-clause-codes : goal.returns-else-at-self-clause-codes
returns-else-at-self-clause-codes c =
    let k = c.self.inside.width in
    let n = c.self.inside.len in
    let old = codes_of k (lists c.self.inside.groups.items) n in
    rw (← c.self.view_is) (none_put old c.args.at c.args.rows (λ j. c.args.code) (λ j h. chosen_below c.args.at c.args.rows j (omega (arith, h, c.if-at-self.false, codes_len k n (lists c.self.inside.groups.items)))))
