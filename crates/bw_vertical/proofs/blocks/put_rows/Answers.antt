use Rattle.std.proofs.Common.{arith, get_or, ℕ, ◌-◌, ◌<◌, ◌≡◌}
use Rattle.bw_mask.specs.Masks.{bit_of}
use Rattle.bw_vertical.specs.Storage.{lists}
use Rattle.bw_vertical.proofs.Blockwise.{block_added, block_behind, block_kept}
use Rattle.bw_vertical.proofs.blocks.put_rows.Goals as goal

pub returns-clause-kept : goal.returns-clause-kept
returns-clause-kept c i j h l =
    let k = c.args.k in
    let codes = c.args.codes.now in
    let rows_are : (r : ℕ) → r < 64 → bit_of (get_or c.args.words.now (k - 1 - i) 0) r ≡ bit_of (get_or codes r 0) (k - 1 - i) = λ r p. c.requires.rows (k - 1 - i) r (omega (arith, h)) p in
    block_kept k i c.args.at (get_or c.args.words.now (k - 1 - i) 0) (k - 1 - i) codes (lists c.args.groups.now.items) (lists c.add_words.new.groups.items) c.requires.few rows_are (c.add_words.ensures.added i h) (λ v d. c.add_words.ensures.other i v h d) j l

pub returns-clause-added : goal.returns-clause-added
returns-clause-added c i r h l =
    let k = c.args.k in
    let codes = c.args.codes.now in
    let rows_are : (r : ℕ) → r < 64 → bit_of (get_or c.args.words.now (k - 1 - i) 0) r ≡ bit_of (get_or codes r 0) (k - 1 - i) = λ r p. c.requires.rows (k - 1 - i) r (omega (arith, h)) p in
    block_added k i c.args.at (get_or c.args.words.now (k - 1 - i) 0) (k - 1 - i) codes (lists c.args.groups.now.items) (lists c.add_words.new.groups.items) c.requires.few rows_are (c.add_words.ensures.added i h) (λ v d. c.add_words.ensures.other i v h d) (λ j p. c.requires.clean i j h p) r l

pub returns-clause-clean : goal.returns-clause-clean
returns-clause-clean c i j h l =
    let k = c.args.k in
    let codes = c.args.codes.now in
    let rows_are : (r : ℕ) → r < 64 → bit_of (get_or c.args.words.now (k - 1 - i) 0) r ≡ bit_of (get_or codes r 0) (k - 1 - i) = λ r p. c.requires.rows (k - 1 - i) r (omega (arith, h)) p in
    block_behind k i c.args.at (get_or c.args.words.now (k - 1 - i) 0) (k - 1 - i) codes (lists c.args.groups.now.items) (lists c.add_words.new.groups.items) c.requires.few rows_are (c.add_words.ensures.added i h) (λ v d. c.add_words.ensures.other i v h d) (λ j p. c.requires.clean i j h p) j l
