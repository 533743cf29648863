use Rattle.std.proofs.Common.{◌∙◌, inl, inr, ap}
use Rattle.std.specs.Option.{option_copied}
use Rattle.bw_model.specs.FileUse.{file_read, reads, unless_refused, use_in}
use Rattle.bw_model.specs.Refusals.{refused_early}
use Rattle.bw_sql.specs.Tree.{load, open_table, statement_of}
use Rattle.bw_engine.specs.Stores.{store_of}
use Rattle.bw_engine.proofs.Executed.{none_read, none_wanted, wanted}
use Rattle.bw_engine.proofs.engine.Engine.wants.Goals as goal

pub returns-in-Load : goal.returns-in-Load
returns-in-Load c =
    let request = c.in-Load.request in
    let early = refused_early (store_of c.self.inside.tables.entries) (load request.table request.file request.first) in
    rw (c.in-Load.is, ← c.self.view_is)
    (ap option_copied c.then_some.ensures ∙ wanted early c.may_load.result c.as_str.result (c.may_load.ensures request.file request.first)
    ∙ ap (λ file. file_read (unless_refused early (reads file))) c.as_str.ensures.value)

pub returns-in-Open : goal.returns-in-Open
returns-in-Open c =
    let request = c.in-Open.request in
    let early = refused_early (store_of c.self.inside.tables.entries) (open_table request.table request.file) in
    rw (c.in-Open.is, ← c.self.view_is)
    (ap option_copied c.then_some-in-Open.ensures ∙ wanted early c.may_open.result c.as_str-in-Open.result (c.may_open.ensures request.file)
    ∙ ap (λ file. file_read (unless_refused early (reads file))) c.as_str-in-Open.ensures.value)

pub returns-in-CreateTable : goal.returns-in-CreateTable
returns-in-CreateTable c =
    let store = store_of c.args.self.now in
    let statement = c.args.statement.now in
    elim c.in-CreateTable.is [
      | inl given ↦ none_wanted store statement (ap (λ s. use_in (statement_of s)) given.1)
      | inr other ↦
          elim other [
            | inl given ↦ none_wanted store statement (ap (λ s. use_in (statement_of s)) given.1)
            | inr other ↦
                elim other [
                  | inl given ↦ none_wanted store statement (ap (λ s. use_in (statement_of s)) given)
                  | inr other ↦
                      elim other [
                        | inl given ↦ none_wanted store statement (ap (λ s. use_in (statement_of s)) given.1)
                        | inr other ↦
                            elim other [
                              | inl given ↦ none_wanted store statement (ap (λ s. use_in (statement_of s)) given.1)
                              | inr other ↦
                                  elim other [
                                    | inl given ↦ none_wanted store statement (ap (λ s. use_in (statement_of s)) given.1)
                                    | inr other ↦
                                        elim other [
                                          | inl given ↦ none_wanted store statement (ap (λ s. use_in (statement_of s)) given.1)
                                          | inr other ↦
                                              elim other [
                                                | inl given ↦ none_wanted store statement (ap (λ s. use_in (statement_of s)) given.1)
                                                | inr other ↦
                                                    elim other [
                                                      | inl given ↦ none_wanted store statement (ap (λ s. use_in (statement_of s)) given.1)
                                                      | inr other ↦
                                                          none_read store statement other.0.file (ap (λ s. use_in (statement_of s)) other.1)
                                                    ]
                                              ]
                                        ]
                                  ]
                            ]
                      ]
                ]
          ]
    ]
