use Rattle.std.proofs.Common.{List, arith, false, get_or, inl, inr, refl, sym, ℕ, ◌%◌, ◌*◌, ◌+◌, ◌/◌, ◌<◌, ◌≡◌, ◌∙◌}
use Rattle.std.proofs.lemmas.Bool.{both_ways, cases_lt}
use Rattle.bw_mask.specs.Masks.{bit_of, row_in}
use Rattle.bw_mask.proofs.Views.{past}
use Rattle.bw_mask.proofs.Within.{each_within, some_outside}
use Rattle.bw_mask.proofs.words.is_within.Goals as goal

row_of : (words : List ℕ) (k i : ℕ) → i < 64 → row_in words (64 * k + i) ≡ bit_of (get_or words k 0) i
row_of words k i h =
    let word : (64 * k + i) / 64 ≡ k = omega (arith, h) in
    let bit : (64 * k + i) % 64 ≡ i = omega (arith, h) in
    rw (word, bit) refl

pub loop-k-init : goal.loop-k-init
loop-k-init c j h = absurd (omega (arith, h))

pub returns-then-a-k-ne0 : goal.returns-then-a-k-ne0
returns-then-a-k-ne0 c =
    let a = c.args.a.now in
    let b = c.args.b.now in
    let k = c.loop-k.k in (
      λ e. absurd (both_ways false refl e),
      λ all.
          absurd (some_outside (get_or a k 0) (get_or b k 0) (omega (arith, c.type_inv.b k)) (omega (arith, c.type_inv.a k)) c.if-a-k-ne0.true (λ i h e.
          sym (row_of b k i h) ∙ all (64 * k + i) (row_of a k i h ∙ e))),
    )

pub loop-k-preserved : goal.loop-k-preserved
loop-k-preserved c j h e =
    let a = c.args.a.now in
    let b = c.args.b.now in
    let k = c.loop-k.k in
    elim (cases_lt j (64 * k)) [
      | inl before ↦ c.loop-k.invariant j before e
      | inr here ↦
          let word : j / 64 ≡ k = omega (arith, h, here) in
          rw word (each_within (get_or a k 0) (get_or b k 0) (omega (arith, c.type_inv.b k)) c.if-a-k-ne0.false (j % 64) (omega arith) (rw (← word) e))
    ]

pub returns : goal.returns
returns c = (
  λ _ j e.
      elim (cases_lt j (64 * c.loop-k.k)) [
        | inl inside ↦ c.loop-k.invariant j inside e
        | inr beyond ↦ absurd (both_ways (row_in c.args.a.now j) (past c.args.a.now j (omega (arith, beyond, c.loop-k-test.false))) e)
      ],
  λ _. refl,
)
