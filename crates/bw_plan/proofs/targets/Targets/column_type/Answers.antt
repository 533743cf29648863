use Rattle.std.proofs.Common.{[], ap, arith, get_or, length, sym, ◌<◌, ◌∙◌}
use Rattle.std.proofs.lemmas.List.{length-map}
use Rattle.bw_code.specs.declared.kind.ColumnType.TheVariants.{Integer}
use Rattle.bw_code.specs.declared.kind.Kind.TheVariants.{Offset}
use Rattle.bw_code.specs.declared.kind.Layout.TheVariants.{V}
use Rattle.bw_model.specs.Refusals.{types_named}
use Rattle.bw_model.specs.Store.{Header, names, type_named}
use Rattle.bw_model.proofs.OwnPlaces.{get_or-mapped}
use Rattle.bw_plan.specs.Targeting.{names_of}
use Rattle.bw_plan.proofs.Targeting.{whole_type}
use Rattle.bw_plan.proofs.targets.Targets.column_type.Goals as goal

pub returns-in-All : goal.returns-in-All
returns-in-All c =
    let headers = c.args.headers.now in
    let some : Header = record { name = []; column_type = Integer; layout = V; kind = Offset } in
    let there : c.args.k < length (names headers) = rw c.in-All.is at c.requires in
    let low : c.args.k < length headers = omega (arith, there, length-map headers (λ (h : Header). h.name)) in
    λ d. c.column_type.ensures.value some ∙ sym (whole_type headers c.args.k d some c.column_type.ensures.valid low) ∙ ap (λ t. get_or (types_named headers (names_of headers t)) c.args.k d) (sym c.in-All.is)

pub returns-in-Listed : goal.returns-in-Listed
returns-in-Listed c =
    let headers = c.args.headers.now in
    let list = c.in-Listed.names.now in
    let there : c.args.k < length list = rw c.in-Listed.is at c.requires in
    λ d.
    c.type_named.ensures ∙ ap (type_named headers) c.index-names-k.is ∙ sym (get_or-mapped (type_named headers) list c.args.k c.index-names-k.result d there)
    ∙ ap (λ t. get_or (types_named headers (names_of headers t)) c.args.k d) (sym c.in-Listed.is)
