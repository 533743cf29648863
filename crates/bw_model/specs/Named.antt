-- Valid names (SQL-92, regular identifiers): those that a store holds.
use Rattle.std.specs.Prelude.{List, All}
use Rattle.bw_sql.specs.Names.{IsName}
use Rattle.bw_model.specs.Store.{Header, Store}

abbrev pub HaveNames : List Header → Type 0
HaveNames headers = All (λ header. IsName header.name) headers

-- each table and each column has a valid name
abbrev pub AreNamed : Store → Type 0
AreNamed store = All (λ entry. IsName entry.0 × HaveNames entry.1.headers) store
