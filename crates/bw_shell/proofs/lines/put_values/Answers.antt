use Rattle.std.proofs.Common.{length, min, ◌*◌, ◌≡◌}
use Rattle.bw_shell.proofs.ValueLines.{after_whole, block_fails, block_more, block_whole}
use Rattle.bw_shell.proofs.Texts.{wrote_prefix}
use Rattle.bw_shell.proofs.lines.put_values.Goals as goal

pub put_block-requires : goal.put_block-requires
put_block-requires g c =
    let cut : c.min.result ≡ min (length c.loop-rest.rest.now) (c.max.result * c.args.width) = c.min.ensures in
    block_whole _ _ _ _ _ _ c.loop-rest.invariant.whole cut c.split_at.ensures.front c.split_at.ensures.back

pub returns-in_err-put_block : goal.returns-in_err-put_block
returns-in_err-put_block g c =
    let cut : c.min.result ≡ min (length c.loop-rest.rest.now) (c.max.result * c.args.width) = c.min.ensures in
    wrote_prefix _ _ _ _ c.from_residual.ensures.0 (block_fails _ _ _ _ _ _ c.loop-rest.invariant.whole cut c.split_at.ensures.front c.split_at.ensures.back _ _ _ c.loop-rest.invariant.written _ c.in_err-put_block.ensures)

pub loop-rest-preserved : goal.loop-rest-preserved
loop-rest-preserved g c =
    let cut : c.min.result ≡ min (length c.loop-rest.rest.now) (c.max.result * c.args.width) = c.min.ensures in
    record {
      whole = after_whole _ _ _ _ _ _ c.loop-rest.invariant.whole cut c.split_at.ensures.front c.split_at.ensures.back;
      written = block_more _ _ _ _ _ _ c.loop-rest.invariant.whole cut c.split_at.ensures.front c.split_at.ensures.back _ _ _ c.loop-rest.invariant.written _ c.in_ok-put_block.ensures;
    }
