use Rattle.std.proofs.Common.{◌≡◌, ◌<◌, inl, inr, arith, ap, get_or, length, sym, ◌∙◌, ◌∷◌, []}
use Rattle.std.proofs.lemmas.Bool.{cases_lt}
use Rattle.std.proofs.lemmas.List.{get_or_append_left, get_or_default, get_or_push}
use Rattle.bw_code.specs.Encodings.{kind_of}
use Rattle.bw_column.specs.Columns.{ColumnView}
use Rattle.bw_table.specs.Changes.{choice_of, chosen_kind, chosen_layout}
use Rattle.bw_column.specs.Places.{chosen_values}
use Rattle.bw_table.specs.Sets.{gathered}
use Rattle.bw_table.specs.declared.setting.SetTo.TheVariants.{Column}
use Rattle.bw_table.proofs.Places.{gathered_column}
use Rattle.bw_table.proofs.rebuilding.build_anew.Goals as goal

pub loop-k-preserved : goal.loop-k-preserved
loop-k-preserved c =
    let n = c.loop-k.k in
    let columns = c.args.columns.now.items in
    let built = c.loop-k.built.items in
    let column = c.in_ok-column.column in
    let inside : n < length columns = omega arith in
    let len : length built ≡ n = omega (arith, c.loop-k.invariant.count, c.loop-k.built.ok.0) in
    record {
      count = omega (arith, c.in_ok-push.ensures.len, c.loop-k.invariant.count);
      each = λ k d l.
          rw c.in_ok-push.ensures.items (elim (cases_lt k n) [
            | inl low ↦ rw (get_or_append_left built (column ∷ []) d k (omega (arith, len))) (c.loop-k.invariant.each k d low)
            | inr high ↦
                let e : k ≡ n = omega arith in
                let own : c.index.result.now ≡ get_or columns n d = c.index.ensures ∙ get_or_default columns n c.index.result.now d inside in
                let chosen : chosen_values c.args.mask.now c.index.result.now.values ≡ gathered columns c.args.mask.now (Column n) = ap (λ (x : ColumnView). chosen_values c.args.mask.now x.values) own ∙ sym (gathered_column columns c.args.mask.now n d inside) in
                rw (e, get_or_push built column d n len) record {
                  values = c.in_ok-column.ensures.values ∙ chosen;
                  layout = c.in_ok-column.ensures.layout ∙ ap (λ choice. chosen_layout choice c.index.result.now.layout) c.choice_of.ensures ∙ ap (λ (x : ColumnView). chosen_layout (choice_of c.args.choices.now n) x.layout) own;
                  fits = rw (← chosen) c.in_ok-column.ensures.fits;
                  kind = c.in_ok-column.ensures.kind ∙ ap (λ choice. chosen_kind choice (kind_of c.index.result.now.encoding)) c.choice_of.ensures ∙ ap (λ (x : ColumnView). chosen_kind (choice_of c.args.choices.now n) (kind_of x.encoding)) own;
                }
          ]);
    }
