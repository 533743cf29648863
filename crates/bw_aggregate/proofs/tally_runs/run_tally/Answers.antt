use Rattle.std.proofs.Common.{Bool, drop, false, get_or, length, refl, rules, subst, sym, take, true, ◌+◌, ◌≡◌, ◌∙◌}
use Rattle.std.proofs.lemmas.Bool.{true≢false}
use Rattle.bw_mask.specs.Masks.{bit_of}
use Rattle.bw_mask.proofs.Bits.{bit_of_zero}
use Rattle.bw_aggregate.specs.Ends.{AreNearest}
use Rattle.bw_aggregate.specs.Runs.{IsRun}
use Rattle.bw_aggregate.proofs.Nearest.{ends_none, ends_same}
use Rattle.bw_aggregate.proofs.RowsMore.{item_of_run, sum_none}
use Rattle.bw_aggregate.proofs.tally_runs.run_tally.Goals as goal

pub returns-then-run-eq0-clause-sum : goal.returns-then-run-eq0-clause-sum
returns-then-run-eq0-clause-sum g c asked need same run =
    sum_none need c.args.run.at _ c.args.run.n same (subst (λ w. IsRun need c.args.run.at c.args.run.n w) c.if-run-eq0.true run)

pub returns-then-run-eq0-clause-nearest : goal.returns-then-run-eq0-clause-nearest
returns-then-run-eq0-clause-nearest g c =
    ends_none c.args.run.n (bit_of c.args.run.known) _ c.args.top c.args.best
    (λ j h. out (bit_of c.args.run.known j) (λ t. sym (c.requires.known j t) ∙ subst (λ w. bit_of w j ≡ false) (sym c.if-run-eq0.true) (bit_of_zero j)))
  where
    out : (b : Bool) → (b ≡ true → true ≡ false) → b ≡ false
    out true never = absurd (true≢false (never refl))
    out false never = refl

pub returns-clause-nearest : goal.returns-clause-nearest
returns-clause-nearest g c =
    let all = (g.C.CodeColumn.seen c.args.column.now).codes in
    let out = c.read.new.out in
    let size : length out ≡ c.args.run.n = search rules in
    let is : out ≡ take (length out) (drop c.args.run.at all) = search rules in
    subst (λ n. AreNearest n (bit_of c.args.run.known) (λ i. get_or all (c.args.run.at + i) 0) c.args.top c.args.best c.run_nearest_to_ends.result) size
    (ends_same (length out) (bit_of c.args.run.known) (λ i. get_or out i 0) (λ i. get_or all (c.args.run.at + i) 0) c.args.top c.args.best c.run_nearest_to_ends.result
    (λ i h. sym (item_of_run out all c.args.run.at i 0 is h)) c.run_nearest_to_ends.ensures)
