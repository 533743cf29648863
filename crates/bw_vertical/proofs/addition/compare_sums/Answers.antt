use Rattle.std.proofs.Common.{ap, arith, inl, inr, nat_lt, not, ℕ, ◌+◌, ◌*◌, ◌==◌, ◌≡◌, ◌∙◌}
use Rattle.bw_vertical.specs.Planes.{code_in}
use Rattle.bw_vertical.proofs.Sums.{exchanged_differs, exchanged_less}
use Rattle.bw_vertical.proofs.addition.compare_sums.Given.{Over}
use Rattle.bw_vertical.proofs.addition.compare_sums.Goals as goal

pub returns-then-lifts-eq0-clause-less : goal.returns-then-lifts-eq0-clause-less
returns-then-lifts-eq0-clause-less g c j h = c.without.ensures j h ∙ rw (c.compare_lifted.ensures.differ j h, c.compare_lifted.ensures.less j h, c.if-lifts-eq0.true) (exchanged_less _ _ _)

pub returns-then-lifts-eq0-clause-differ : goal.returns-then-lifts-eq0-clause-differ
returns-then-lifts-eq0-clause-differ g c j h = c.compare_lifted.ensures.differ j h ∙ rw c.if-lifts-eq0.true (exchanged_differs _ _ _)

module _ (g : Over) (c : goal.After-compare_lifted-else-lifts-eq0 g) where
  none : c.args.lifts.right ≡ 0
  none = elim c.requires.lower [
    | inl l ↦ absurd (c.if-lifts-eq0.false l)
    | inr r ↦ r
  ]

  same : (n : ℕ) → n ≡ n + c.args.lifts.right
  same n = omega (arith, none)

pub returns-else-lifts-eq0-clause-less : goal.returns-else-lifts-eq0-clause-less
returns-else-lifts-eq0-clause-less g c j h = c.compare_lifted-else-lifts-eq0.ensures.less j h
    ∙ ap (λ n. nat_lt (code_in c.args.width (g.A.Source.units c.args.a.now) (256 * c.args.q + j) + c.args.lifts.left) n) (same g c (code_in c.args.other (g.B.Source.units c.args.b.now) (256 * c.args.q + j)))

pub returns-else-lifts-eq0-clause-differ : goal.returns-else-lifts-eq0-clause-differ
returns-else-lifts-eq0-clause-differ g c j h = c.compare_lifted-else-lifts-eq0.ensures.differ j h
    ∙ ap (λ n. not (code_in c.args.width (g.A.Source.units c.args.a.now) (256 * c.args.q + j) + c.args.lifts.left == n)) (same g c (code_in c.args.other (g.B.Source.units c.args.b.now) (256 * c.args.q + j)))
