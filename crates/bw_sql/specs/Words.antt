-- Words that are names, but stand for a layout, a kind, a statement or a file's first record where the grammar expects one.
use Rattle.std.specs.Prelude.{ℕ, List, codes, Option, Some, None, if◌then◌else◌}
use Rattle.std.specs.Str.{bytes_eq}
use Rattle.bw_sql.specs.declared.terminal.StatementWord.{StatementWord}
use Rattle.bw_sql.specs.declared.terminal.StatementWord.TheVariants.{Load, Rebuild, Save, Stats, Tables}
use Rattle.bw_sql.specs.declared.tree.LayoutWord.{LayoutWord}
use Rattle.bw_sql.specs.declared.tree.LayoutWord.TheVariants.{P, V, H, S}
use Rattle.bw_sql.specs.declared.tree.KindWord.{KindWord}
use Rattle.bw_sql.specs.declared.tree.KindWord.TheVariants.{Offset, Dictionary}
use Rattle.bw_sql.specs.declared.tree.FirstRecord.{FirstRecord}
use Rattle.bw_sql.specs.declared.tree.FirstRecord.TheVariants.{Header}
use Rattle.bw_sql.specs.declared.keyword.Keyword.{Keyword}
use Rattle.bw_sql.specs.declared.keyword.Keyword.TheVariants as k
use Rattle.bw_sql.specs.declared.tree.SetFunction.{SetFunction}
use Rattle.bw_sql.specs.declared.tree.SetFunction.TheVariants.{Count, Sum, Min, Max, Median}

-- how a layout is spelled
abbrev pub layout_spelling : LayoutWord → List ℕ
layout_spelling P = codes "P"
layout_spelling V = codes "V"
layout_spelling H = codes "H"
layout_spelling S = codes "S"

-- how a kind is spelled
abbrev pub kind_spelling : KindWord → List ℕ
kind_spelling Offset = codes "OFFSET"
kind_spelling Dictionary = codes "DICTIONARY"

-- how a name that begins a statement is spelled
abbrev pub statement_spelling : StatementWord → List ℕ
statement_spelling Tables = codes "TABLES"
statement_spelling Rebuild = codes "REBUILD"
statement_spelling Load = codes "LOAD"
statement_spelling Save = codes "SAVE"
statement_spelling Stats = codes "STATS"

unfoldable pub layout_of : List ℕ → Option LayoutWord
layout_of word =
    if bytes_eq word (codes "P") then Some P
    else (if bytes_eq word (codes "V") then Some V
    else (if bytes_eq word (codes "H") then Some H
    else (if bytes_eq word (codes "S") then Some S else None)))

unfoldable pub kind_of : List ℕ → Option KindWord
kind_of word = if bytes_eq word (codes "OFFSET") then Some Offset else (if bytes_eq word (codes "DICTIONARY") then Some Dictionary else None)

unfoldable pub statement_word_of : List ℕ → Option StatementWord
statement_word_of word =
    if bytes_eq word (codes "TABLES") then Some Tables
    else (if bytes_eq word (codes "REBUILD") then Some Rebuild
    else (if bytes_eq word (codes "LOAD") then Some Load
    else (if bytes_eq word (codes "SAVE") then Some Save
    else (if bytes_eq word (codes "STATS") then Some Stats else None))))

-- what the word after WITH states about a file's first record
unfoldable pub first_record_of : List ℕ → Option FirstRecord
first_record_of word = if bytes_eq word (codes "HEADER") then Some Header else None

-- the reserved word of a set function
abbrev pub function_word : SetFunction → Keyword
function_word Count = k.Count
function_word Sum = k.Sum
function_word Min = k.Min
function_word Max = k.Max
function_word Median = k.Median

-- the set function of a reserved word
unfoldable pub function_of : Keyword → Option SetFunction
function_of k.Count = Some Count
function_of k.Sum = Some Sum
function_of k.Min = Some Min
function_of k.Max = Some Max
function_of k.Median = Some Median
function_of _ = None
