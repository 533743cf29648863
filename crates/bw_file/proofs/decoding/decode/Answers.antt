use Rattle.std.proofs.Common.{[], ap, arith, length, subst, sym, take, ◌++◌, ◌≡◌, ◌∙◌}
use Rattle.std.specs.Prelude.{All}
use Rattle.std.specs.List.{AllZip, flat_map}
use Rattle.std.proofs.lemmas.List.{append-nil}
use Rattle.bw_file.specs.Format.{column_bytes, front_bytes, Spells}
use Rattle.bw_code.specs.Types.{IsTyped}
use Rattle.bw_file.specs.Table.{IsTable, Table}
use Rattle.bw_file.proofs.Distinct.{none_twice}
use Rattle.bw_file.proofs.Fronts.{spelled, told_headers}
use Rattle.bw_file.proofs.Least.{is_told, no_bytes, not_told, nothing_behind, some_bytes, spells_by}
use Rattle.bw_file.proofs.decoding.decode.Goals as goal

pub returns-in_default-clause-none : goal.returns-in_default-clause-none
returns-in_default-clause-none c e t s = not_told c.read_front.result c.args.bytes.now t c.read_front.ensures.told c.in_default.is s

pub returns-then-bytes-least_size-clause-none : goal.returns-then-bytes-least_size-clause-none
returns-then-bytes-least_size-clause-none c e t s =
    let told = is_told c.in-Some.front c.args.bytes.now t c.in-Some.ensures.told s in
    let least = c.least_size.ensures t told.spelled.table (sym told.columns) (sym told.rows) in
    omega (arith, least, ap length told.spelled.bytes_are, c.if-bytes-least_size.true)

pub returns-then-has_name_twice-clause-none : goal.returns-then-has_name_twice-clause-none
returns-then-has_name_twice-clause-none c e t s =
    let told = is_told c.in-Some.front c.args.bytes.now t c.in-Some.ensures.told s in
    let version = c.in-Some.front.version in
    let hs = c.in-Some-found.headers.items in
    let rest = c.in-Some-found.rest.now in
    let types = rw c.in-Some-found.is at c.in_ok-found.ensures.types in
    let parts = told_headers version c.args.bytes.now t hs rest c.in-Some.front.columns told.spelled told.columns (rw c.in-Some-found.is at c.in_ok-found.ensures.count) types
    (rw c.in-Some-found.is at c.in_ok-found.ensures.bytes) in
    none_twice hs c.deref.result.now t.headers c.has_name_twice.result told.spelled.table.headers.distinct c.deref.ensures.value parts.0 c.has_name_twice.ensures c.if-has_name_twice.true

pub returns-in_default-found-2-clause-none : goal.returns-in_default-found-2-clause-none
returns-in_default-found-2-clause-none c e t s =
    let told = is_told c.in-Some.front c.args.bytes.now t c.in-Some.ensures.told s in
    let version = c.in-Some.front.version in
    let hs = c.in-Some-found.headers.items in
    let rest = c.in-Some-found.rest.now in
    let types = rw c.in-Some-found.is at c.in_ok-found.ensures.types in
    let parts = told_headers version c.args.bytes.now t hs rest c.in-Some.front.columns told.spelled told.columns (rw c.in-Some-found.is at c.in_ok-found.ensures.count) types
    (rw c.in-Some-found.is at c.in_ok-found.ensures.bytes) in
    c.in_ok-found-2.ensures.none c.in_default-found-2.is t.columns [] (subst (λ n. All (λ cells. length cells ≡ n) t.columns) (sym told.rows) told.spelled.table.long)
    (subst (λ xs. AllZip IsTyped xs t.columns) (sym parts.0 ∙ sym c.deref-2.ensures.value) told.spelled.table.typed) (parts.1 ∙ sym (append-nil (flat_map (column_bytes version) t.columns)))

pub returns-then-not-is_empty-clause-none : goal.returns-then-not-is_empty-clause-none
returns-then-not-is_empty-clause-none c e t s =
    let told = is_told c.in-Some.front c.args.bytes.now t c.in-Some.ensures.told s in
    let version = c.in-Some.front.version in
    let hs = c.in-Some-found.headers.items in
    let rest = c.in-Some-found.rest.now in
    let types = rw c.in-Some-found.is at c.in_ok-found.ensures.types in
    let parts = told_headers version c.args.bytes.now t hs rest c.in-Some.front.columns told.spelled told.columns (rw c.in-Some-found.is at c.in_ok-found.ensures.count) types
    (rw c.in-Some-found.is at c.in_ok-found.ensures.bytes) in
    let cs = c.in-Some-found-2.columns.items in
    let none = nothing_behind version c.args.bytes.now rest c.in-Some-found-2.behind.now t hs cs c.in-Some.front.rows told.spelled told.rows parts.0 types (rw c.in-Some-found-2.is at c.in_ok-found-2.ensures.long)
    (subst (λ xs. AllZip IsTyped xs cs) c.deref-2.ensures.value (rw c.in-Some-found-2.is at c.in_ok-found-2.ensures.typed)) parts.1 (rw c.in-Some-found-2.is at c.in_ok-found-2.ensures.spelled) in
    some_bytes c.in-Some-found-2.behind.now none c.if-not-is_empty.ensures

pub returns-clause-found : goal.returns-clause-found
returns-clause-found c =
    let bytes = c.args.bytes.now in
    let version = c.in-Some.front.version in
    let hs = c.in-Some-found.headers.items in
    let cs = c.in-Some-found-2.columns.items in
    let rest = c.in-Some-found.rest.now in
    let behind = c.in-Some-found-2.behind.now in
    let table : Table = record { headers = hs; rows = c.in-Some.front.rows; columns = cs } in
    let value : c.new.result ≡ table = c.new.ensures.value in
    let columns : rest ≡ flat_map (column_bytes version) cs =
    (rw c.in-Some-found-2.is at c.in_ok-found-2.ensures.spelled) ∙ ap (λ xs. flat_map (column_bytes version) cs ++ xs) (no_bytes behind c.if-not-is_empty.ensures) ∙ append-nil (flat_map (column_bytes version) cs) in
    let count : length hs ≡ c.in-Some.front.columns = rw c.in-Some-found.is at c.in_ok-found.ensures.count in
    let front : take 14 bytes ≡ front_bytes version (length hs) c.in-Some.front.rows = c.in-Some.ensures.front.1 ∙ ap (λ n. front_bytes version n c.in-Some.front.rows) (sym count) in
    subst (Spells bytes) (sym value)
    (spells_by version bytes table (spelled version bytes rest table (subst IsTable value c.new.ensures.table) (rw c.in-Some-found.is at c.in_ok-found.ensures.types) front (rw c.in-Some-found.is at c.in_ok-found.ensures.bytes) columns))
