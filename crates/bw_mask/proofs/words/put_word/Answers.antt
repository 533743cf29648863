use Rattle.std.proofs.Common.{ap, arith, get_or, set, ◌%◌, ◌&&◌, ◌*◌, ◌+◌, ◌/◌, ◌∙◌}
use Rattle.std.proofs.lemmas.Bool.{and_right, le-ltb, lt-ltb}
use Rattle.std.proofs.lemmas.List.{get_or-set_other, get_or-set_same}
use Rattle.bw_mask.specs.Masks.{bit_of}
use Rattle.bw_mask.proofs.Bits.{and_true}
use Rattle.bw_mask.proofs.words.put_word.Goals as goal

pub returns-then-k-len-clause-inside : goal.returns-then-k-len-clause-inside
returns-then-k-len-clause-inside c j e h =
    let changed = set c.args.words.now.items c.args.k c.within.result in
    ap (λ q. bit_of (get_or changed q 0) (j % 64)) e
    ∙ ap (λ w. bit_of w (j % 64)) (get_or-set_same c.args.words.now.items c.args.k c.within.result 0 (omega arith))
    ∙ c.within.ensures (j % 64) (omega arith)
    ∙ ap (λ b. bit_of c.args.word (j % 64) && b) (lt-ltb (64 * c.args.k + j % 64) c.args.n (omega arith))
    ∙ and_true (bit_of c.args.word (j % 64))

pub returns-then-k-len-clause-clean : goal.returns-then-k-len-clause-clean
returns-then-k-len-clause-clean c j e h l =
    let changed = set c.args.words.now.items c.args.k c.within.result in
    ap (λ q. bit_of (get_or changed q 0) (j % 64)) e
    ∙ ap (λ w. bit_of w (j % 64)) (get_or-set_same c.args.words.now.items c.args.k c.within.result 0 (omega arith))
    ∙ c.within.ensures (j % 64) (omega arith)
    ∙ and_right (bit_of c.args.word (j % 64)) _ (le-ltb (64 * c.args.k + j % 64) c.args.n (omega arith))

pub returns-then-k-len-clause-other : goal.returns-then-k-len-clause-other
returns-then-k-len-clause-other c j away = ap (λ w. bit_of w (j % 64)) (get_or-set_other c.args.words.now.items c.args.k (j / 64) c.within.result 0 (λ e. absurd (omega (arith, away e))))
