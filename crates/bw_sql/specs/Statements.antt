-- Which statement a text encodes, and which fault a text has that encodes none (SQL-92: direct SQL statement).
use Rattle.std.specs.Prelude.{◌≡◌, ◌⊎◌, ℕ, ◌<◌, ◌≤◌, List, [], length, Some, None}
use Rattle.bw_lex.specs.declared.fault.SqlFault.{SqlFault}
use Rattle.bw_lex.specs.declared.fault.SqlFault.TheVariants as faults
use Rattle.bw_lex.specs.declared.token.Token.{Token}
use Rattle.bw_lex.specs.Tokens.{AreTokens, AreTokensFrom, AreTokensToBad}
use Rattle.bw_sql.specs.declared.terminal.Terminal.{Terminal}
use Rattle.bw_sql.specs.Terminals.{first_limit_fault, terminals_of}
use Rattle.bw_sql.specs.Tree.{StatementTree}
use Rattle.bw_sql.specs.Grammar.{Spells}

-- the greatest number of bytes of a statement
abbrev pub longest_statement : ℕ
longest_statement = 65536

-- the terminals of a text in which no token is bad or over a limit
pub record AreTerminals (text : List ℕ) (terminals : List Terminal) : Type 0 where
  pub tokens : List Token
  pub are_tokens : AreTokens text tokens
  pub seen : terminals ≡ terminals_of text tokens
  pub within_limits : first_limit_fault [] terminals ≡ None

-- the text is no longer than a statement may be, and its terminals spell the statement
pub record Says (text : List ℕ) (statement : StatementTree) : Type 0 where
  pub short : length text ≤ longest_statement
  pub terminals : List Terminal
  pub are_terminals : AreTerminals text terminals
  pub spelled : Spells terminals statement

-- of the tokens that are bad or over a limit, the first is bad
abbrev pub HasBadFirst : List ℕ → Type 0
HasBadFirst text = (tokens : List Token) × AreTokensToBad text tokens × (first_limit_fault [] (terminals_of text tokens) ≡ None)

-- the first token that is bad or over a limit is over this limit: it is the first fault of tokens at the start of the text
abbrev pub IsOverLimit : SqlFault → List ℕ → Type 0
IsOverLimit fault text = (tokens : List Token) × (rest : List ℕ) × AreTokensFrom 0 text rest tokens × (first_limit_fault [] (terminals_of text tokens) ≡ Some fault)

-- why a text has no terminals; out of memory may be returned instead of any other
abbrev pub IsTerminalsFault : SqlFault → List ℕ → Type 0
IsTerminalsFault faults.Syntax text = HasBadFirst text
IsTerminalsFault faults.TooDeep text = IsOverLimit faults.TooDeep text
IsTerminalsFault faults.BigNumber text = IsOverLimit faults.BigNumber text
IsTerminalsFault faults.Memory text = Unit {0}
IsTerminalsFault faults.TooLong text = ⊥

-- the terminals spell no statement
abbrev pub SpellsNothing : List Terminal → Type 0
SpellsNothing terminals = (statement : StatementTree) → Spells terminals statement → ⊥

-- no token is bad or over a limit, and the tokens spell no statement
abbrev pub SaysNothing : List ℕ → Type 0
SaysNothing text = (terminals : List Terminal) × AreTerminals text terminals × SpellsNothing terminals

-- why a text is no statement; out of memory may be returned instead of any fault but its length
abbrev pub IsStatementFault : SqlFault → List ℕ → Type 0
IsStatementFault faults.TooLong text = longest_statement < length text
IsStatementFault faults.Syntax text = (length text ≤ longest_statement) × (HasBadFirst text ⊎ SaysNothing text)
IsStatementFault faults.TooDeep text = (length text ≤ longest_statement) × IsOverLimit faults.TooDeep text
IsStatementFault faults.BigNumber text = (length text ≤ longest_statement) × IsOverLimit faults.BigNumber text
IsStatementFault faults.Memory text = length text ≤ longest_statement

-- why terminals within the limits spell no statement
abbrev pub IsParseFault : SqlFault → List Terminal → Type 0
IsParseFault faults.Syntax terminals = SpellsNothing terminals
IsParseFault faults.Memory terminals = Unit {0}
IsParseFault _ terminals = ⊥
