use Rattle.std.proofs.Common.{ap, arith, false, inl, inr, sym, ℕ, ◌%◌, ◌*◌, ◌+◌, ◌/◌, ◌<◌, ◌≡◌, ◌≤◌, ◌∙◌}
use Rattle.std.proofs.lemmas.Bool.{cases_eq, cases_lt}
use Rattle.std.specs.Prelude.{vec_len}
use Rattle.bw_mask.specs.Masks.{bit_of, row_in}
use Rattle.bw_mask.proofs.Views.{rows_at, rows_clean, rows_len}
use Rattle.bw_mask.proofs.mask.Mask.put_word.Goals as goal

clean : (c : goal.After-put_word) → (j : ℕ) → c.self.inside.len ≤ j → row_in c.put_word.new.words.items j ≡ false
clean c j h =
    elim (cases_eq (j / 64) c.args.k) [
      | inl e ↦
          elim (cases_lt c.args.k (vec_len c.self.inside.words)) [
            | inl l ↦ c.put_word.ensures.clean j e h l
            | inr l ↦ c.put_word.ensures.other j (λ _. l) ∙ c.self.invariant.clean j h
          ]
      | inr d ↦ c.put_word.ensures.other j (λ e. absurd (d e)) ∙ c.self.invariant.clean j h
    ]

pub invariant_of-self : goal.invariant_of-self
invariant_of-self c = record {
  count = omega (arith, c.put_word.ensures.len, c.self.invariant.count);
  clean = clean c;
  small = c.self.invariant.small;
}

pub returns-clause-inside : goal.returns-clause-inside
returns-clause-inside c i h l =
    let low : 64 * c.args.k + i < c.self.inside.len = grind (arith, rows_len) in
    let place : (64 * c.args.k + i) % 64 ≡ i = omega arith in
    rows_at c.self.inside.len (row_in c.put_word.new.words.items) (64 * c.args.k + i) low ∙ c.put_word.ensures.inside (64 * c.args.k + i) (omega arith) low ∙ ap (bit_of c.args.word) place

pub returns-clause-outside : goal.returns-clause-outside
returns-clause-outside c j away =
    rw (← c.self.view_is) (
    rows_clean c.self.inside.len (row_in c.put_word.new.words.items) (clean c) j
    ∙ c.put_word.ensures.other j (λ e. absurd (omega (arith, away)))
    ∙ sym (rows_clean c.self.inside.len (row_in c.self.inside.words.items) c.self.invariant.clean j))
