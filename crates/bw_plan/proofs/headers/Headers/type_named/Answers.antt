use Rattle.std.proofs.Common.{[], Some, ap, length, sym, ◌<◌, ◌∙◌, ◌≡◌}
use Rattle.std.specs.Str.{bytes_eq}
use Rattle.std.proofs.lemmas.List.Quantifiers.{position-Some}
use Rattle.bw_code.specs.declared.kind.ColumnType.TheVariants.{Integer}
use Rattle.bw_code.specs.declared.kind.Kind.TheVariants.{Offset}
use Rattle.bw_code.specs.declared.kind.Layout.TheVariants.{V}
use Rattle.bw_model.specs.Store.{Header, place_of, type_at}
use Rattle.bw_model.proofs.OwnPlaces.{get_or-mapped}
use Rattle.bw_plan.proofs.headers.Headers.type_named.Goals as goal

pub returns-in-Some : goal.returns-in-Some
returns-in-Some c =
    let headers = c.args.self.now in
    let name = c.args.name.now in
    let some : Header = record { name = []; column_type = Integer; layout = V; kind = Offset } in
    let at : place_of headers name ≡ Some c.in-Some.place = sym c.place.ensures ∙ c.in-Some.is in
    let low : c.in-Some.place < length headers = (position-Some (λ (h : Header). bytes_eq name h.name) headers c.in-Some.place some at).0 in
    c.column_type.ensures.value some ∙ sym (get_or-mapped (λ (h : Header). h.column_type) headers c.in-Some.place some Integer low) ∙ sym (ap (type_at headers) at)
