use Rattle.std.proofs.Common.{arith, count_by, refl, replicate}
use Rattle.std.specs.List.{All}
use Rattle.bw_column.specs.Codes.{IsCoded}
use Rattle.bw_column.specs.Values.{IsNullOrHeld}
use Rattle.bw_column.proofs.Filled.{all_filled, one_for_all, some_set}
use Rattle.bw_column.proofs.Repeated.{once}
use Rattle.bw_column.proofs.column.Column.fill_all.Goals as goal

pub code_of-code-requires : goal.code_of-code-requires
code_of-code-requires c =
    let coded : All (IsCoded c.self.inside.encoding) (replicate (count_by (λ row. row) c.args.places.now.rows) c.args.value) = rw (← c.self.view_is) at c.requires.coded in
    once (IsCoded c.self.inside.encoding) (count_by (λ row. row) c.args.places.now.rows) c.args.value (some_set c.args.places.now c.in-Some._place c.in-Some.ensures.1) coded

pub fill_places-requires-clause-coded : goal.fill_places-requires-clause-coded
fill_places-requires-clause-coded c = once (IsCoded c.args.self.now.encoding) (count_by (λ row. row) c.args.places.now.rows) c.args.value (some_set c.args.places.now c.in-Some._place c.in-Some.ensures.1) c.requires.coded

pub fill_places-requires-clause-held : goal.fill_places-requires-clause-held
fill_places-requires-clause-held c = once (IsNullOrHeld c.args.self.now.layout) (count_by (λ row. row) c.args.places.now.rows) c.args.value (some_set c.args.places.now c.in-Some._place c.in-Some.ensures.1) c.requires.held

pub fill_with-requires-clause-coded : goal.fill_with-requires-clause-coded
fill_with-requires-clause-coded c = once (IsCoded c.args.self.now.encoding) (count_by (λ row. row) c.args.places.now.rows) c.args.value (some_set c.args.places.now c.in-Some._place c.in-Some.ensures.1) c.requires.coded

pub fill_with-requires-clause-held : goal.fill_with-requires-clause-held
fill_with-requires-clause-held c = once (IsNullOrHeld c.args.self.now.layout) (count_by (λ row. row) c.args.places.now.rows) c.args.value (some_set c.args.places.now c.in-Some._place c.in-Some.ensures.1) c.requires.held

pub returns-in_default-clause-values : goal.returns-in_default-clause-values
returns-in_default-clause-values c = all_filled c.args.places.now (λ _. c.args.value) c.args.self.now.values c.args.self.now.values 0 refl (λ k h. absurd (omega (arith, h))) (λ k h. refl) (replicate (count_by (λ row. row) c.args.places.now.rows) c.args.value) (one_for_all c.args.places.now c.args.value) c.in_default.ensures
