use Rattle.std.proofs.Common.{[], arith, inl, inr, of_z, to_z, w64, ◌∷◌, ◌≡◌}
use Rattle.std.proofs.lemmas.Bool.{cases_Bool}
use Rattle.std.proofs.lemmas.Int.{ints, to_z-of_z}
use Rattle.bw_groups.proofs.Telling.{single_ends}
use Rattle.bw_groups.proofs.fold.OptionEndsFold.with.Goals as goal

pub returns : goal.returns
returns c = λ values few told.
    let back : to_z w64 (of_z w64 c.args.number) ≡ c.args.number = search (arith, ints, to_z-of_z) in
    elim (cases_Bool c.args.is_there) [
      | inl t ↦ rw t (c.ends_of_both.ensures values (c.args.number ∷ []) told (rw back (single_ends c.args.number)))
      | inr f ↦ absurd (let e = c.if-not-is_there.false in cc)
    ]
