use Rattle.std.proofs.Common.{arith, false, inl, inr, refl, sym, true, ◌≡◌, ◌∙◌}
use Rattle.std.proofs.lemmas.Bool.{cases_lt}
use Rattle.bw_vertical.proofs.JoinedEnds.{on, turned}
use Rattle.bw_column.proofs.ends.ends_from.Goals as goal

pub returns-then-not-ends-clause-least : goal.returns-then-not-ends-clause-least
returns-then-not-ends-clause-least c n marked code are = record {
  from = omega arith;
  bound = λ i h on. let no : false ≡ true = sym (turned c.args.ends.any c.if-not-ends.true) ∙ (are.bounds i h on).0 in absurd cc;
  reached = inl refl;
}

pub returns-then-not-ends-clause-greatest : goal.returns-then-not-ends-clause-greatest
returns-then-not-ends-clause-greatest c n marked code are = record {
  from = omega arith;
  bound = λ i h on. let no : false ≡ true = sym (turned c.args.ends.any c.if-not-ends.true) ∙ (are.bounds i h on).0 in absurd cc;
  reached = inl refl;
}

pub returns-clause-least : goal.returns-clause-least
returns-clause-least c n marked code are =
    let at = are.least (on c.args.ends.any c.if-not-ends.false) in
    record {
      from = omega (arith, c.min.ensures);
      bound = λ i h m. omega (arith, c.min.ensures, (are.bounds i h m).1);
      reached =
          elim (cases_lt c.args.ends.least c.args.start) [
            | inl less ↦ inr (at.0, at.1, at.2, omega (arith, c.min.ensures, at.3, less))
            | inr other ↦ inl (omega (arith, c.min.ensures, other))
          ];
    }

pub returns-clause-greatest : goal.returns-clause-greatest
returns-clause-greatest c n marked code are =
    let at = are.greatest (on c.args.ends.any c.if-not-ends.false) in
    record {
      from = omega (arith, c.max.ensures);
      bound = λ i h m. omega (arith, c.max.ensures, (are.bounds i h m).2);
      reached =
          elim (cases_lt c.args.start c.args.ends.greatest) [
            | inl more ↦ inr (at.0, at.1, at.2, omega (arith, c.max.ensures, at.3, more))
            | inr other ↦ inl (omega (arith, c.max.ensures, other))
          ];
    }
