use Rattle.std.proofs.Common.{None, Option, ap, arith, drop, length, map, min, replicate, sym, take, ℕ, ℤ, ◌*◌, ◌++◌, ◌+◌, ◌-◌, ◌≡◌, ◌≤◌, ◌∙◌}
use Rattle.bw_mask.specs.Masks.{len}
use Rattle.bw_code.proofs.Lists.{front_is}
use Rattle.bw_column.specs.Values.{value_at}
use Rattle.bw_table.specs.Changes.{places_below}
use Rattle.bw_table.proofs.Chosen.{next_word, same_bits}
use Rattle.bw_table.proofs.Picks.{gathered_run, picked_run}
use Rattle.bw_table.proofs.chosen_cells.read_word.Goals as goal

pub returns-clause-values : goal.returns-clause-values
returns-clause-values c =
    let mask = c.args.mask.now in
    let vs = c.args.column.now.values in
    let value : ℕ → Option ℤ = value_at vs in
    let at = 64 * c.args.w in
    let n = c.min-n.result in
    let rows = c.bits.result in
    let is : n ≡ min (len mask - at) 64 = omega (arith, c.min-n.ensures, c.len-end.ensures.count, c.requires.long) in
    let fits : at + n ≤ length vs = omega (arith, is, c.requires.long, c.requires.there) in
    let read : take n (c.read.new.out ++ drop n (replicate 64 None)) ≡ take n (drop at vs) = front_is (replicate 64 None) c.read.new.out vs at n (omega (arith, is)) fits c.read.ensures in
    ap (map value) (next_word mask c.args.w n c.requires.there is)
    ∙ gathered_run mask value at rows n (same_bits mask at n rows c.bits.ensures)
    ∙ ap (λ xs. map value (places_below mask at) ++ xs) (sym (c.pick.ensures.front ∙ picked_run rows at n vs (take n (c.read.new.out ++ drop n (replicate 64 None))) read fits))
