use Rattle.std.proofs.Common.{arith, get_or, length, sym, ◌+◌, ◌%◌, ◌-◌, ◌<◌, ◌≤◌, ◌∙◌}
use Rattle.bw_code.proofs.Lists.{made_len}
use Rattle.bw_code.specs.Lists.{made}
use Rattle.bw_vertical.specs.Planes.{code_by}
use Rattle.bw_vertical.specs.Storage.{lists}
use Rattle.bw_vertical.proofs.Blockwise.{block_added, block_behind, block_kept}
use Rattle.bw_vertical.proofs.WordCodes.{row_of_word}
use Rattle.bw_vertical.proofs.blocks.put_planes.Goals as goal

pub returns-clause-kept : goal.returns-clause-kept
returns-clause-kept c i j h l =
    let k = c.args.k in
    let codes = made c.args.n (code_by k c.args.words.now) in
    let b = k - 1 - i in
    let below : b < k = omega (arith, h) in
    let few : c.args.at % 64 + length codes ≤ 64 = omega (arith, c.requires.few, made_len c.args.n (code_by k c.args.words.now)) in
    block_kept k i c.args.at (get_or c.args.words.now b 0) b codes (lists c.args.groups.now.items) (lists c.add_words.new.groups.items) few (λ r p. row_of_word k c.args.n c.args.words.now c.requires.rest b r below p)
    (c.add_words.ensures.added i h) (λ v d. c.add_words.ensures.other i v h d) j l

pub returns-clause-added : goal.returns-clause-added
returns-clause-added c i r h l =
    let k = c.args.k in
    let codes = made c.args.n (code_by k c.args.words.now) in
    let b = k - 1 - i in
    let below : b < k = omega (arith, h) in
    let long = made_len c.args.n (code_by k c.args.words.now) in
    let few : c.args.at % 64 + length codes ≤ 64 = omega (arith, c.requires.few, long) in
    block_added k i c.args.at (get_or c.args.words.now b 0) b codes (lists c.args.groups.now.items) (lists c.add_words.new.groups.items) few (λ q p. row_of_word k c.args.n c.args.words.now c.requires.rest b q below p)
    (c.add_words.ensures.added i h) (λ v d. c.add_words.ensures.other i v h d) (λ j p. c.requires.clean i j h p) r (omega (arith, l, long))
    ∙ sym (row_of_word k c.args.n c.args.words.now c.requires.rest b r below (omega (arith, l, c.requires.few)))

pub returns-clause-clean : goal.returns-clause-clean
returns-clause-clean c i j h l =
    let k = c.args.k in
    let codes = made c.args.n (code_by k c.args.words.now) in
    let b = k - 1 - i in
    let below : b < k = omega (arith, h) in
    let long = made_len c.args.n (code_by k c.args.words.now) in
    let few : c.args.at % 64 + length codes ≤ 64 = omega (arith, c.requires.few, long) in
    block_behind k i c.args.at (get_or c.args.words.now b 0) b codes (lists c.args.groups.now.items) (lists c.add_words.new.groups.items) few (λ q p. row_of_word k c.args.n c.args.words.now c.requires.rest b q below p)
    (c.add_words.ensures.added i h) (λ v d. c.add_words.ensures.other i v h d) (λ q p. c.requires.clean i q h p) j (omega (arith, l, long))
