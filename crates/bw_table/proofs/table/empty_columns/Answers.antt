use Rattle.std.proofs.Common.{[], ap, arith, get_or, inl, inr, length, ◌<◌, ◌≡◌, ◌∙◌, ◌∷◌}
use Rattle.std.proofs.lemmas.Bool.{cases_lt}
use Rattle.std.proofs.lemmas.List.{get_or_append_left, get_or_default, get_or_push}
use Rattle.bw_table.proofs.table.empty_columns.Goals as goal

pub loop-header-preserved : goal.loop-header-preserved
loop-header-preserved g c =
    let n = c.loop-header.header-index in
    let columns = c.loop-header.columns.items in
    let column = c.in_ok-build.field-0 in
    let headers = c.args.headers.now.items in
    let inside : n < length headers = omega arith in
    let len : length columns ≡ n = omega (arith, c.loop-header.invariant.count, c.loop-header.columns.ok.0) in
    record {
      count = omega (arith, c.in_ok-push.ensures.len, c.loop-header.invariant.count);
      each = λ k h d l.
          rw c.in_ok-push.ensures.items (elim (cases_lt k n) [
            | inl low ↦ rw (get_or_append_left columns (column ∷ []) d k (omega (arith, len))) (c.loop-header.invariant.each k h d low)
            | inr high ↦
                let e : k ≡ n = omega arith in
                rw (e, get_or_push columns column d n len, get_or_default headers n h c.header-item.result inside) record {
                  values = c.in_ok-build.ensures.values;
                  layout = c.in_ok-build.ensures.layout ∙ ap (λ x. x.layout) c.header-item.is ∙ ap (λ xs. (get_or xs n c.header-item.result).layout) c.deref-header-items.ensures.value;
                  kind = c.in_ok-build.ensures.kind ∙ ap (λ x. x.kind) c.header-item.is ∙ ap (λ xs. (get_or xs n c.header-item.result).kind) c.deref-header-items.ensures.value;
                  fits = c.in_ok-build.ensures.fits;
                }
          ]);
    }
