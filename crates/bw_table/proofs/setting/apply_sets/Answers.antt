use Rattle.std.proofs.Common.{◌<◌, ℕ, All, arith, drop, length, get_or, None, vec_len}
use Rattle.bw_table.specs.Sets.{changed}
use Rattle.bw_table.specs.declared.setting.SetTo.{SetTo}
use Rattle.bw_table.specs.declared.setting.SetTo.TheVariants.{Value}
use Rattle.bw_table.proofs.Readied.{front_is}
use Rattle.bw_table.proofs.Across.{no_column}
use Rattle.bw_table.proofs.Written.{Turn, all_long, can_apply, changed_is, more_set, turn}
use Rattle.bw_table.proofs.setting.apply_sets.Goals as goal

abbrev here : goal.After-apply_set-arg-1 → ℕ × SetTo
here c = get_or c.args.sets.now c.len.result (0, Value None)

turn_at : (c : goal.After-apply_set-arg-1) → Turn c.args.found.now c.args.sets.now c.loop-change.columns.items c.args.columns.now.items c.len.result (here c) c.in-Some.change
turn_at c =
    let old = c.args.columns.now in
    let rest = c.loop-change.rest in
    let named : All (λ set. set.0 < length old.items) c.args.sets.now = λ k d l. omega (arith, c.requires.named k d l, old.ok.0) in
    turn c.args.found.now c.args.sets.now c.loop-change.columns.items old.items c.args.changes.items rest.items c.pop.new.self.items c.in-Some.change (vec_len rest) c.len.result (0, Value None) c.loop-change.invariant.rest (omega arith) c.in-Some.ensures.items (omega arith) c.loop-change.invariant.few (omega arith) named c.requires.apart c.requires.ready c.loop-change.invariant.set

pub apply_set-requires-clause-can : goal.apply_set-requires-clause-can
apply_set-requires-clause-can c = can_apply c.in-Some.change (turn_at c)

pub apply_set-requires-clause-long : goal.apply_set-requires-clause-long
apply_set-requires-clause-long c = all_long c.args.found.now (drop (vec_len c.loop-change.rest) c.args.sets.now) c.loop-change.columns.items c.args.columns.now.items c.loop-change.invariant.set c.requires.long

pub loop-change-preserved : goal.loop-change-preserved
loop-change-preserved c =
    let n = c.len.result in
    let old = c.args.columns.now in
    let rest = c.loop-change.rest in
    let change = c.in-Some.change in
    let named : All (λ set. set.0 < length old.items) c.args.sets.now = λ k d l. omega (arith, c.requires.named k d l, old.ok.0) in
    let t = turn c.args.found.now c.args.sets.now c.loop-change.columns.items old.items c.args.changes.items rest.items c.pop.new.self.items change (vec_len rest) n (0, Value None) c.loop-change.invariant.rest (omega arith) c.in-Some.ensures.items (omega arith) c.loop-change.invariant.few (omega arith) named c.requires.apart c.requires.ready c.loop-change.invariant.set in
    record {
      few = omega (arith, c.in-Some.ensures.len, c.loop-change.invariant.few);
      rest = rw (← c.len.ensures) (front_is c.args.changes.items rest.items c.pop.new.self.items change (vec_len rest) n c.loop-change.invariant.rest (omega arith) c.in-Some.ensures.items (omega arith));
      set = rw (← c.len.ensures) (more_set t c.apply_set.new.columns.items (changed c.loop-change.columns.items c.args.found.now change) (changed_is change t no_column) c.apply_set.ensures.written);
    }
