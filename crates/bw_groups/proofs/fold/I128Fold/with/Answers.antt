use Rattle.std.proofs.Common.{ap, append-nil, arith, inl, inr, of_z, sym, to_z, unsigned_abs, w64, ◌+◌, ◌+ℤ◌, ◌^◌, ◌∙◌, ◌≡◌, ◌≤◌}
use Rattle.std.specs.Int.{w128}
use Rattle.std.proofs.lemmas.Bool.{cases_Bool}
use Rattle.std.proofs.lemmas.Int.{ints, to_z-of_z}
use Rattle.std.proofs.lemmas.List.{length_push}
use Rattle.bw_groups.proofs.Totals.{total_push}
use Rattle.bw_groups.proofs.fold.I128Fold.with.Goals as goal

pub returns : goal.returns
returns c = λ values few told.
    let back : to_z w128 (of_z w128 c.add.result) ≡ c.add.result = search (arith, ints, to_z-of_z) in
    let sum : to_z w128 (of_z w128 c.args.self) ≡ c.args.self = search (arith, ints, to_z-of_z) in
    let number : to_z w64 (of_z w64 c.args.number) ≡ c.args.number = search (arith, ints, to_z-of_z) in
    let bound : unsigned_abs c.add.result ≤ unsigned_abs c.args.self + 2 ^ 63 = rw sum at c.add.ensures.bound in
    let added : c.add.result ≡ c.args.self +ℤ c.args.number = c.add.ensures.value ∙ ap (λ s. s +ℤ to_z w64 (of_z w64 c.args.number)) sum ∙ ap (λ x. c.args.self +ℤ x) number in
    elim (cases_Bool c.args._is_there) [
      | inl t ↦
          rw (t, back) (
            added ∙ ap (λ s. s +ℤ c.args.number) told.0 ∙ sym (total_push values c.args.number),
            omega (arith, length_push values c.args.number, told.1, bound),
          )
      | inr f ↦
          let same : c.add.result ≡ c.args.self = omega (arith, ints, added, c.requires.null f) in
          rw (f, back, append-nil values, same) told
    ]
