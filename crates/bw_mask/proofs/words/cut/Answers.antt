use Rattle.std.proofs.Common.{ap, arith, bit_and, length, ltb, ℕ, ◌%◌, ◌&&◌, ◌+◌, ◌/◌, ◌<◌, ◌≡◌, ◌∙◌}
use Rattle.std.proofs.lemmas.List.{get_or_read}
use Rattle.bw_mask.specs.Masks.{bit_of}
use Rattle.bw_mask.proofs.Bits.{bit_of_and}
use Rattle.bw_mask.proofs.Views.{cut_clean, cut_keeps}
use Rattle.bw_mask.proofs.words.cut.Goals as goal

masked : (w x low k m : ℕ) → w ≡ x → ((i : ℕ) → bit_of low i ≡ ltb i m) → bit_of (bit_and w low) k ≡ (bit_of x k && ltb k m)
masked w x low k m e lowest = bit_of_and w low k ∙ ap (λ b. bit_of w k && b) (lowest k) ∙ ap (λ v. bit_of v k && ltb k m) e

pub returns-then-n-gt0-clause-kept : goal.returns-then-n-gt0-clause-kept
returns-then-n-gt0-clause-kept c =
    let count : length c.args.words.now.items ≡ (c.args.n + 63) / 64 = omega arith in
    let h : c.args.n / 64 < length c.args.words.now.items = omega arith in
    cut_keeps c.args.words.now.items c.args.n _ count c.if-n-gt0.true (λ k. masked _ _ _ k (c.args.n % 64) (get_or_read _ _ _ h c.index_mut.ensures.value 0) c.low_bits.ensures)

pub returns-then-n-gt0-clause-clean : goal.returns-then-n-gt0-clause-clean
returns-then-n-gt0-clause-clean c =
    let count : length c.args.words.now.items ≡ (c.args.n + 63) / 64 = omega arith in
    let h : c.args.n / 64 < length c.args.words.now.items = omega arith in
    cut_clean c.args.words.now.items c.args.n _ count c.if-n-gt0.true (λ k. masked _ _ _ k (c.args.n % 64) (get_or_read _ _ _ h c.index_mut.ensures.value 0) c.low_bits.ensures)
