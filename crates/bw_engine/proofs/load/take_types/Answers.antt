use Rattle.std.proofs.Common.{arith, get_or, get_or-set_other, get_or-set_same, inl, inr, length, length-set, set, subst, sym, ◌∙◌, ◌≡◌}
use Rattle.std.proofs.lemmas.Bool.{cases_lt}
use Rattle.std.proofs.lemmas.List.{ext_get_or, get_or-map, length-map}
use Rattle.bw_code.specs.Types.{types_of}
use Rattle.bw_code.specs.declared.kind.ColumnType.TheVariants.{Integer}
use Rattle.bw_model.specs.Store.{Header}
use Rattle.bw_engine.proofs.SetRows.{no_header}
use Rattle.bw_engine.proofs.load.take_types.Goals as goal

pub loop-k-preserved : goal.loop-k-preserved
loop-k-preserved c =
    let types = c.loop-k.types in
    let headers = c.args.headers.now in
    let k = c.loop-k.k in
    let low = c.loop-k-test.true in
    let here : c.column_type.result ≡ get_or (types_of headers) k Integer =
    c.column_type.ensures.value no_header ∙ sym (get_or-map (λ (header : Header). header.column_type) headers k no_header Integer (omega (arith, low, c.requires))) in
    record {
      len = length-set types k c.column_type.result ∙ c.loop-k.invariant.len;
      each = λ i h.
          elim (cases_lt i k) [
            | inl before ↦ get_or-set_other types k i c.column_type.result Integer (omega (arith, before)) ∙ c.loop-k.invariant.each i before
            | inr past ↦
                let same : k ≡ i = omega (arith, h, past) in
                subst (λ n. get_or (set types k c.column_type.result) n Integer ≡ get_or (types_of headers) n Integer) same
                (get_or-set_same types k c.column_type.result Integer (omega (arith, low, c.loop-k.invariant.len)) ∙ here)
          ];
    }

pub returns : goal.returns
returns c =
    let headers = c.args.headers.now in
    let long : length c.loop-k.types ≡ length (types_of headers) = c.loop-k.invariant.len ∙ c.requires ∙ sym (length-map headers (λ (header : Header). header.column_type)) in
    ext_get_or Integer c.loop-k.types (types_of headers) long (λ i low. c.loop-k.invariant.each i (omega (arith, low, c.loop-k-test.false, c.loop-k.invariant.len)))
