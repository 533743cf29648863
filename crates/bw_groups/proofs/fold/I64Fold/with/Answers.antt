use Rattle.std.proofs.Common.{All, Some, [], append-nil, arith, inl, inr, refl, ◌++◌, ◌∷◌}
use Rattle.std.proofs.lemmas.Bool.{cases_Bool}
use Rattle.std.proofs.lemmas.Int.{ints}
use Rattle.std.proofs.lemmas.List.Elements.{All-pop}
use Rattle.bw_groups.specs.Folding.{IsSmall}
use Rattle.bw_groups.proofs.Totals.{total_push, total_small}
use Rattle.bw_groups.proofs.fold.I64Fold.with.Goals as goal

pub returns : goal.returns
returns c = λ values few told small.
    elim (cases_Bool c.args._is_there) [
      | inl t ↦
          let all : All IsSmall (values ++ c.args.number ∷ []) = rw t at small in
          let parts = All-pop IsSmall (values ++ c.args.number ∷ []) values (Some c.args.number) refl all in
          let last : IsSmall c.args.number = parts.1 in
          rw t (grind (arith, ints, told parts.0, total_small values parts.0, few, last, total_push values c.args.number))
      | inr f ↦
          let all : All IsSmall values = rw (f, append-nil values) at small in
          rw (f, append-nil values) (grind (arith, ints, told all, total_small values all, few, c.requires.null f))
    ]
