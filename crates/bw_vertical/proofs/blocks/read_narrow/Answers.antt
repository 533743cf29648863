use Rattle.std.proofs.Common.{ap, arith, get_or, inl, inr, length, ◌%◌, ◌*◌, ◌+◌, ◌-◌, ◌/◌, ◌<◌, ◌≡◌, ◌∙◌}
use Rattle.std.proofs.lemmas.Bool.{cases_lt}
use Rattle.bw_vertical.specs.Storage.{code_of, lists}
use Rattle.bw_vertical.proofs.Settings.{word_there}
use Rattle.bw_vertical.proofs.blocks.read_narrow.Goals as goal

pub block_at-block-requires-clause-there : goal.block_at-block-requires-clause-there
block_at-block-requires-clause-there c =
    let j = c.args.at + c.loop-i.i in
    let inside : c.args.at + c.loop-i.i < c.args.at + length c.args.out.now = omega (arith, c.loop-i-test.true, c.loop-i.invariant.long) in
    word_there c.args.k j (lists c.args.groups.now) (c.requires.there j inside)

pub loop-i-preserved : goal.loop-i-preserved
loop-i-preserved c =
    let k = c.args.k in
    let gs = lists c.args.groups.now in
    let at = c.args.at in
    let i = c.loop-i.i in
    let out = c.copy_of_block.new.out in
    let inv = c.loop-i.invariant in
    record {
      long = c.copy_of_block.ensures.long ∙ inv.long;
      inside = omega (arith, c.min-n.ensures, c.copy_of_block.ensures.long, c.loop-i-test.true);
      done = λ j h.
          elim (cases_lt j i) [
            | inl l ↦ c.copy_of_block.ensures.before j l ∙ inv.done j l
            | inr l ↦
                let r = j - i in
                let low : j - i < c.min-n.result = omega (arith, h, l) in
                let place : j ≡ i + (j - i) = omega (arith, l) in
                let row : 64 * ((at + i) / 64) + ((at + i) % 64 + (j - i)) ≡ at + j = omega (arith, l) in
                ap (λ n. get_or out n 0) place ∙ c.copy_of_block.ensures.copied (j - i) low ∙ c.block_at-block.ensures ((at + i) % 64 + (j - i)) (omega (arith, c.min-n.ensures, low)) ∙ ap (code_of k gs) row
          ];
    }
