use Rattle.std.proofs.Common.{None, ap, arith, get_or, inl, inr, is_some, length, nat_lt, replicate, sym, ℕ, ◌≡◌, ◌≤◌, ◌∙◌}
use Rattle.std.proofs.lemmas.List.{length-replicate}
use Rattle.std.proofs.lemmas.Simd.{get_or-replicate}
use Rattle.std.proofs.Math.ListN.{get_or-eq_default}
use Rattle.std.proofs.lemmas.Bool.{cases_lt}
use Rattle.bw_mask.proofs.Bits.{bit_above}
use Rattle.bw_cells.proofs.distances.presence.Goals as goal

pub loop-i-init : goal.loop-i-init
loop-i-init c = record {
  told = λ k l. absurd (omega (arith, l));
  rest = λ k l. by_case k;
  long = length-replicate {A = ℕ} 64 0;
}
  where
    by_case : (k : ℕ) → get_or (replicate {A = ℕ} 64 0) k 0 ≡ 0
    by_case k =
        elim (cases_lt k 64) [
          | inl low ↦ get_or-replicate 64 k 0 0 low
          | inr high ↦ (let past : length (replicate {A = ℕ} 64 0) ≤ k = omega (arith, length-replicate {A = ℕ} 64 0, high) in get_or-eq_default (replicate {A = ℕ} 64 0) 0 past)
        ]

pub returns : goal.returns
returns c i =
    let cells = c.args.cells.now in
    elim (cases_lt i (length cells)) [
      | inl here ↦ c.set_bytes.ensures i (omega (arith, here, c.requires)) ∙ c.loop-i.invariant.told i (omega (arith, here, c.loop-i-test.false))
      | inr past ↦
          let none : is_some (get_or cells i None) ≡ nat_lt 0 0 = ap is_some (get_or-eq_default cells None past) in
          elim (cases_lt i 64) [
            | inl low ↦ c.set_bytes.ensures i low ∙ ap (nat_lt 0) (c.loop-i.invariant.rest i (omega (arith, past, c.loop-i.auto.i-end))) ∙ sym none
            | inr high ↦ bit_above c.set_bytes.result i (omega (arith, c.set_bytes.type_inv)) high ∙ sym none
          ]
    ]
