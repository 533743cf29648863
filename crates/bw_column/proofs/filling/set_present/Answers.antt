use Rattle.std.proofs.Common.{Bool, false, if◌then◌else◌, not, refl, true, ◌&&◌, ◌||◌, ◌≡◌}

either : (old row : Bool) → (old || row) ≡ (if row then true else old)
either true true = refl
either true false = refl
either false true = refl
either false false = refl

without : (old row : Bool) → (old && not row) ≡ (if row then false else old)
without true true = refl
without true false = refl
without false true = refl
without false false = refl
