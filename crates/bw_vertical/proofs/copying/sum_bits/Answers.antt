use Rattle.std.proofs.Common.{ap, inl, inr, refl, sym, ℕ, ◌*◌, ◌+◌, ◌∙◌, ◌≡◌}
use Rattle.std.specs.Prelude.{if◌then◌else◌}
use Rattle.std.proofs.lemmas.Bool.{cases_Bool}
use Rattle.bw_mask.specs.Masks.{row_in}
use Rattle.bw_vertical.specs.Carries.{carried}
use Rattle.bw_vertical.specs.Storage.{code_of, lists}
use Rattle.bw_vertical.proofs.Adding.{added_bit, next_is, nothing_carried, sum_is}
use Rattle.bw_vertical.proofs.copying.sum_bits.Goals as goal

pub returns-then-by-ne0-clause-sums : goal.returns-then-by-ne0-clause-sums
returns-then-by-ne0-clause-sums c j h start =
    let x = code_of c.args.k (lists c.args.groups.now) (256 * c.args.q + j) in
    let moved = row_in c.args.moved.now j in
    sum_is x (if moved then c.args.by else 0) c.args.b _ _ _ _ _ (c.add_to_plane.ensures j h) (c.bits_at-bits.ensures j h) (c.lanes_where.ensures j h ∙ added_bit moved c.args.by c.args.b) start

pub returns-then-by-ne0-clause-carry : goal.returns-then-by-ne0-clause-carry
returns-then-by-ne0-clause-carry c j h start =
    let x = code_of c.args.k (lists c.args.groups.now) (256 * c.args.q + j) in
    let moved = row_in c.args.moved.now j in
    next_is x (if moved then c.args.by else 0) c.args.b _ _ _ _ _ (c.add_to_plane.ensures j h) (c.bits_at-bits.ensures j h) (c.lanes_where.ensures j h ∙ added_bit moved c.args.by c.args.b) start

pub returns-else-by-ne0-clause-carry : goal.returns-else-by-ne0-clause-carry
returns-else-by-ne0-clause-carry c j h start =
    let x = code_of c.args.k (lists c.args.groups.now) (256 * c.args.q + j) in
    let y : ℕ = if row_in c.args.moved.now j then c.args.by else 0 in
    let none : y ≡ 0 = elim (cases_Bool (row_in c.args.moved.now j)) [ inl t ↦ rw t c.if-by-ne0.false | inr t ↦ rw t refl ] in
    start ∙ ap (λ z. carried x z c.args.b) none ∙ nothing_carried x c.args.b ∙ sym (ap (λ z. carried x z (c.args.b + 1)) none ∙ nothing_carried x (c.args.b + 1))
