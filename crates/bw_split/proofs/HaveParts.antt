-- Each script has parts.
use Rattle.std.proofs.Common.{◌≡◌, ℕ, zero, suc, ◌+◌, ◌<◌, ◌≤◌, Bool, true, false, ◌&&◌, List, [], length, drop, Option, Some, None, refl, ap, subst, arith, inl, inr, drop-drop, length-drop, ◌⊎◌}
use Rattle.bw_lex.specs.declared.script.Part.{Part}
use Rattle.bw_lex.specs.Fronts.{EndsRun, IsFront, first_front, front}
use Rattle.bw_lex.specs.Parts.{AreParts, ArePartsFrom, IsRun, Piece, cut, last, run_len, with_part}
use Rattle.bw_lex.proofs.Runs.{found_none, found_some, head_is, join, no_front}

is_value : {A : Type 0} (o : Option A) → (o ≡ None) ⊎ ((x : A) × (o ≡ Some x))
is_value None = inl refl
is_value (Some x) = inr (x, refl)

-- the script up to a cut or the end
record FirstRun (script : List ℕ) : Type 0 where
  len : ℕ
  blank : Bool
  is : IsFront script (front len blank)
  ends : EndsRun (drop len script)

one_more : (script : List ℕ) → ((n : ℕ) → 0 < n → n ≤ length script → FirstRun (drop n script)) → FirstRun script
one_more script rest =
    elim (is_value (first_front script)) [
      | inl none ↦ record { len = 0; blank = true; is = no_front script; ends = found_none script none }
      | inr some ↦
          let f = some.0 in
          let first = found_some script f some.1 in
          let more = rest f.len first.some first.is.within in
          record {
            len = f.len + more.len;
            blank = f.is_blank && more.blank;
            is = join script f.len more.len f.is_blank more.blank first.is more.is;
            ends = subst EndsRun (drop-drop more.len f.len script) more.ends;
          }
    ]

first_run : (fuel : ℕ) (script : List ℕ) → length script < fuel → FirstRun script
first_run zero script short = absurd (omega (arith, short))
first_run (suc fuel) script short = one_more script (λ n some within. first_run fuel (drop n script) (omega (arith, short, some, within, length-drop n script)))

by_end : (at : ℕ) (script rest : List ℕ) (run : List Piece) → IsRun run script rest → length rest ≤ length script → EndsRun rest → ((at : ℕ) (left : List ℕ) → length left < length script → (parts : List Part) × ArePartsFrom at left parts) → (parts : List Part) × ArePartsFrom at script parts
by_end at script rest run is short (inl none) more = (with_part at run false [], last run (subst (IsRun run script) none is))
by_end at script rest run is short (inr cuts) more =
    let left = head_is 59 rest cuts in
    let parts = more (at + run_len run + 1) left.0 (omega (arith, short, ap length left.1)) in
    (with_part at run true parts.0, cut run left.0 (subst (IsRun run script) left.1 is) parts.1)

parts_from : (fuel at : ℕ) (script : List ℕ) → length script < fuel → (parts : List Part) × ArePartsFrom at script parts
parts_from zero at script short = absurd (omega (arith, short))
parts_from (suc fuel) at script short =
    let first = first_run (suc (length script)) script (omega arith) in
    by_end at script (drop first.len script) first.is.pieces first.is.run (omega (arith, length-drop first.len script)) first.ends
    (λ at left less. parts_from fuel at left (omega (arith, short, less)))

pub have_parts : (script : List ℕ) → (parts : List Part) × AreParts script parts
have_parts script = parts_from (suc (length script)) 0 script (omega arith)
