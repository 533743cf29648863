use Rattle.std.proofs.Common.{rules, refl, subst, sym, w64, ℤ, ◌∙◌}
use Rattle.std.proofs.lemmas.Int.{to_z-of_z}
use Rattle.bw_column.specs.Columns.{ColumnView}
use Rattle.bw_code.specs.Encodings.{IsGreatest, IsLeast, value_of}
use Rattle.bw_column.specs.Values.{known}
use Rattle.bw_column.specs.Storing.{list_of}
use Rattle.bw_column.proofs.Spanned.{greatest_known, least_known, none_there, reached_code, reached_row}
use Rattle.bw_column.proofs.column.Column.ends.Goals as goal

pub decode-requires : goal.decode-requires
decode-requires c =
    let s = c.self.inside in
    let least = c.code_ends-least.ensures.least in
    reached_code s.encoding (list_of s.codes) s.nonnull c.self.invariant c.code_ends-least.result.0
    (reached_row s.encoding (list_of s.codes) s.nonnull c.self.invariant c.get-start.result c.code_ends-least.result.0 c.in-Some.row c.in-Some.ensures.some c.get-start.ensures.code least.reached)

pub decode-requires-2 : goal.decode-requires-2
decode-requires-2 c =
    let s = c.self.inside in
    let greatest = c.code_ends-least.ensures.greatest in
    reached_code s.encoding (list_of s.codes) s.nonnull c.self.invariant c.code_ends-least.result.1
    (reached_row s.encoding (list_of s.codes) s.nonnull c.self.invariant c.get-start.result c.code_ends-least.result.1 c.in-Some.row c.in-Some.ensures.some c.get-start.ensures.code greatest.reached)

pub returns-in_default : goal.returns-in_default
returns-in_default c =
    let s = c.self.inside in
    rw (← c.self.view_is) (none_there s.encoding (list_of s.codes) s.nonnull c.self.invariant (c.in_default.ensures.none refl))

pub returns : goal.returns
returns c =
    let s = c.self.inside in
    let least = c.code_ends-least.ensures.least in
    let greatest = c.code_ends-least.ensures.greatest in
    let start = c.get-start.result in
    let low = reached_row s.encoding (list_of s.codes) s.nonnull c.self.invariant start c.code_ends-least.result.0 c.in-Some.row c.in-Some.ensures.some c.get-start.ensures.code least.reached in
    let high = reached_row s.encoding (list_of s.codes) s.nonnull c.self.invariant start c.code_ends-least.result.1 c.in-Some.row c.in-Some.ensures.some c.get-start.ensures.code greatest.reached in
    let least_is = least_known s.encoding (list_of s.codes) s.nonnull c.self.invariant start c.code_ends-least.result.0 least low in
    let greatest_is = greatest_known s.encoding (list_of s.codes) s.nonnull c.self.invariant start c.code_ends-least.result.1 greatest high in (
      subst (λ (y : ℤ). IsLeast (known c.args.self.now.values) y) (sym (to_z-of_z w64 c.decode.result (search rules) ∙ c.decode.ensures.is))
          (subst (λ (v : ColumnView). IsLeast (known v.values) (value_of s.encoding c.code_ends-least.result.0)) c.self.view_is least_is),
      subst (λ (y : ℤ). IsGreatest (known c.args.self.now.values) y) (sym (to_z-of_z w64 c.decode-2.result (search rules) ∙ c.decode-2.ensures.is))
          (subst (λ (v : ColumnView). IsGreatest (known v.values) (value_of s.encoding c.code_ends-least.result.1)) c.self.view_is greatest_is),
    )
