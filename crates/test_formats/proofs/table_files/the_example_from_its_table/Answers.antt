use Rattle.std.proofs.Common.{None, Some, [], negsuc, pos, rules, subst, sym, ◌∷◌}
use Rattle.std.specs.List.{AllZip}
use Rattle.std.specs.Prelude.{All}
use Rattle.std.proofs.lemmas.List.Elements.{All-cons, All-nil}
use Rattle.bw_code.specs.Types.{IsNullOrOfType, IsTyped}
use Rattle.bw_code.specs.declared.kind.ColumnType.TheVariants.{Integer}
use Rattle.test_formats.proofs.table_files.the_example_from_its_table.Goals as goal

pub encode-requires-clause-typed : goal.encode-requires-clause-typed
encode-requires-clause-typed g c =
    let fits = IsNullOrOfType Integer in
    let cells : All (IsNullOrOfType Integer) (Some (pos 3) ∷ None ∷ Some (negsuc 0) ∷ []) =
    All-cons fits (Some (pos 3)) (None ∷ Some (negsuc 0) ∷ []) (search rules) (All-cons fits None (Some (negsuc 0) ∷ []) tt (All-cons fits (Some (negsuc 0)) [] (search rules) (All-nil fits))) in
    subst (λ hs. AllZip IsTyped hs ((Some (pos 3) ∷ None ∷ Some (negsuc 0) ∷ []) ∷ [])) (sym c.deref-2.ensures.value) (c.headers_of_one-headers.ensures.typed (Some (pos 3) ∷ None ∷ Some (negsuc 0) ∷ []) cells)
