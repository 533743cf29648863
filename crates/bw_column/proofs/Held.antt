-- What a layout holds is an integer of 64 bits.
use Rattle.std.proofs.Common.{List, None, Option, Some, arith, refl, subst, ℤ, ◌≡◌}
use Rattle.std.specs.List.{All}
use Rattle.std.proofs.lemmas.Int.{ints}
use Rattle.bw_code.specs.declared.kind.Layout.{Layout}
use Rattle.bw_code.specs.declared.kind.Layout.TheVariants as layouts
use Rattle.bw_column.specs.Values.{IsHeld, IsNullOrHeld, IsNullOrStorable, IsStorable}

held_storable : (l : Layout) (x : ℤ) → IsHeld l x → IsStorable x
held_storable layouts.P x h = h
held_storable layouts.V x h = h
held_storable layouts.H x h = omega (arith, ints, h)
held_storable layouts.S x h = h

pub storable : (l : Layout) (value : Option ℤ) → IsNullOrHeld l value → IsNullOrStorable value
storable l None h = tt
storable l (Some x) h = held_storable l x h

pub all_storable : (l : Layout) (values : List (Option ℤ)) → All (IsNullOrHeld l) values → All IsNullOrStorable values
all_storable l values all k d h = storable l _ (all k d h)

-- plain codes hold what any layout holds
plain : (value : Option ℤ) → IsNullOrStorable value → IsNullOrHeld layouts.P value
plain None h = tt
plain (Some x) h = h

pub all_plain : (l : Layout) (values : List (Option ℤ)) → All (IsNullOrHeld l) values → All (IsNullOrHeld layouts.P) values
all_plain l values all k d h = plain _ (storable l _ (all k d h))

held_by : (l other : Layout) → (l ≡ layouts.H → other ≡ layouts.H) → (value : Option ℤ) → IsNullOrHeld other value → IsNullOrHeld l value
held_by layouts.P other narrow value h = plain value (storable other value h)
held_by layouts.V other narrow None h = tt
held_by layouts.V other narrow (Some x) h = held_storable other x h
held_by layouts.H other narrow value h = subst (λ o. IsNullOrHeld o value) (narrow refl) h
held_by layouts.S other narrow None h = tt
held_by layouts.S other narrow (Some x) h = held_storable other x h

-- what a layout holds is held by any other but BitWeaving/H, and by that if the first is it, too
pub all_held_by : (l other : Layout) (values : List (Option ℤ)) → (l ≡ layouts.H → other ≡ layouts.H) → All (IsNullOrHeld other) values → All (IsNullOrHeld l) values
all_held_by l other values narrow all k d h = held_by l other narrow _ (all k d h)
