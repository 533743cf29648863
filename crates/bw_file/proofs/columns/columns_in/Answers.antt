use Rattle.std.proofs.Common.{[], ap, append_assoc, arith, get_or, length, subst, sym, take, ◌+◌, ◌++◌, ◌<◌, ◌≡◌, ◌∙◌, ◌∷◌}
use Rattle.std.proofs.lemmas.List.{flat_map_more, length-append, take_more}
use Rattle.std.proofs.lemmas.List.Elements.{All-append, All-cons, All-get_or, All-nil, All-take}
use Rattle.std.proofs.lemmas.Slice.Zip.{all_zipped_more}
use Rattle.std.specs.List.{AllZip, flat_map}
use Rattle.bw_file.specs.Format.{HasType, column_bytes}
use Rattle.bw_code.specs.Types.{IsTyped}
use Rattle.bw_file.proofs.FirstColumn.{all_fit, typed_at}
use Rattle.bw_file.proofs.Fronts.{wide}
use Rattle.bw_file.proofs.Joined.{column_next}
use Rattle.bw_file.proofs.columns.columns_in.Goals as goal

pub returns-in_default-clause-none : goal.returns-in_default-clause-none
returns-in_default-clause-none c e cs tail long typed whole =
    let inv = c.columns.invariant in
    let i = c.columns.i in
    let hs = c.args.headers.now in
    let version = c.args.version in
    let there : i < length cs = omega (arith, wide hs cs typed, c.columns-test.true) in
    let next = column_next version c.args.rows i cs c.columns.columns.items tail c.columns.rest.now c.args.bytes.now there inv.count long inv.long (all_fit version hs cs c.requires.types typed)
    (all_fit version (take i hs) c.columns.columns.items (All-take (HasType c.args.version) i hs c.requires.types) inv.typed) inv.bytes whole in
    let one : IsTyped (get_or hs i c.index-headers-i.result) (get_or cs i []) = typed_at hs cs i c.index-headers-i.result typed c.columns-test.true in
    c.first_in-found.ensures.none c.in_default.is (get_or cs i []) _ (All-get_or (λ x. length x ≡ c.args.rows) cs i [] there long) one next

pub columns-preserved : goal.columns-preserved
columns-preserved c =
    let inv = c.columns.invariant in
    let i = c.columns.i in
    let hs = c.args.headers.now in
    let old = c.columns.columns.items in
    let new = c.in-Some.column in
    let rest = c.in-Some.after.now in
    let f = column_bytes c.args.version in
    let found : c.columns.rest.now ≡ f new ++ rest = c.in-Some.ensures.spelled in
    let bytes : c.args.bytes.now ≡ flat_map f (old ++ new ∷ []) ++ rest =
    inv.bytes ∙ ap (λ xs. flat_map f old ++ xs) found ∙ sym (append_assoc (flat_map f old) (f new) rest) ∙ ap (λ xs. xs ++ rest) (flat_map_more f [] old new) in
    let heads : take (i + 1) hs ≡ take i hs ++ c.index-headers-i.result ∷ [] = take_more hs i c.index-headers-i.result c.columns-test.true ∙ ap (λ h. take i hs ++ h ∷ []) (sym c.index-headers-i.is) in
    rw c.in_ok-push.ensures.items (record {
      count = omega (arith, inv.count, length-append old (new ∷ []));
      long = All-append (λ cells. length cells ≡ c.args.rows) old (new ∷ []) inv.long (All-cons (λ cells. length cells ≡ c.args.rows) new [] c.in-Some.ensures.count (All-nil (λ cells. length cells ≡ c.args.rows)));
      typed = subst (λ xs. AllZip IsTyped xs (old ++ new ∷ [])) (sym heads) (all_zipped_more IsTyped (take i hs) old c.index-headers-i.result new inv.typed (subst (λ h. IsTyped h new) (sym c.index-headers-i.is) c.in-Some.ensures.typed));
      bytes = bytes;
    })
