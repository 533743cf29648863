-- The statement that terminals spell, by reading them.
use Rattle.std.proofs.Common.{◌≡◌, ◌≢◌, ◌∙◌, ◌++◌, ap, ℕ, ◌<◌, suc, List, [], length, Option, Some, None, Result, Ok, Err, IfErr, IfOk, sym, subst, refl, arith, inl, inr}
use Rattle.bw_lex.specs.declared.fault.SqlFault.{SqlFault}
use Rattle.bw_lex.specs.declared.fault.SqlFault.TheVariants as faults
use Rattle.bw_lex.specs.Tokens.{AreTokensFrom}
use Rattle.bw_lex.specs.declared.token.Token.{Token}
use Rattle.bw_sql.specs.declared.terminal.Terminal.{Terminal}
use Rattle.bw_sql.specs.declared.tree.Statement.{Statement}
use Rattle.bw_sql.specs.Grammar.{Spells}
use Rattle.bw_sql.specs.Reading.{GivesAll, whole_at}
use Rattle.bw_sql.specs.Terminals.{first_limit_fault, or_else, terminals_of, token_terminal}
use Rattle.std.proofs.lemmas.List.{map-append}
use Rattle.std.proofs.Common.{◌⊎◌}
use Rattle.bw_lex.proofs.Lexing.{Stops, front_of, fronts, not_both, nothing_next, same_tokens}
use Rattle.bw_sql.specs.Statements.{AreTerminals, HasBadFirst, IsOverLimit, IsParseFault, IsStatementFault, Says, SaysNothing}
use Rattle.bw_sql.specs.Tree.{StatementTree, statement_of}
use Rattle.bw_sql.proofs.Complete.{whole_reads}
use Rattle.bw_sql.proofs.LimitLemmas.{first_limit_fault-append}
use Rattle.bw_sql.proofs.Sound.{whole_sound}

-- terminals spell one statement at most
pub spells_once : (ts : List Terminal) (a b : StatementTree) → Spells ts a → Spells ts b → a ≡ b
spells_once ts a b x y =
    let n = suc (length ts) in
    let p = whole_reads x n (omega arith) in
    let q = whole_reads y n (omega arith) in
    cc

abbrev pub AlwaysGives : Result Statement SqlFault → List Terminal → Type 0
AlwaysGives r ts = (n : ℕ) → length ts < n → GivesAll statement_of r (whole_at n ts)

pub found : (ts : List Terminal) (r : Result Statement SqlFault) → AlwaysGives r ts → IfOk r (λ s. Spells ts (statement_of s))
found ts (Ok s) gives = whole_sound (suc (length ts)) ts (statement_of s) (gives (suc (length ts)) (omega arith))
found ts (Err e) gives = tt

fault_is : (ts : List Terminal) (e : SqlFault) → AlwaysGives (Err e) ts → IsParseFault e ts
fault_is ts faults.Syntax gives = λ tree d.
    let n = suc (length ts) in
    let reads = whole_reads d n (omega arith) in
    let fails = gives n (omega arith) in
    cc
fault_is ts faults.Memory gives = tt
fault_is ts faults.TooLong gives = gives (suc (length ts)) (omega arith)
fault_is ts faults.TooDeep gives = gives (suc (length ts)) (omega arith)
fault_is ts faults.BigNumber gives = gives (suc (length ts)) (omega arith)

pub only : (ts : List Terminal) (r : Result Statement SqlFault) → AlwaysGives r ts → IfErr r (λ e. IsParseFault e ts)
only ts (Ok s) gives = tt
only ts (Err e) gives = fault_is ts e gives

-- the grammar sees one list of terminals in a text
same_terminals : (text : List ℕ) (a b : List Terminal) → AreTerminals text a → AreTerminals text b → a ≡ b
same_terminals text a b x y = x.seen ∙ ap (terminals_of text) (same_tokens text x.tokens y.tokens x.are_tokens y.are_tokens) ∙ sym y.seen

pub says_once : (text : List ℕ) (a b : StatementTree) → Says text a → Says text b → a ≡ b
says_once text a b x y =
    spells_once x.terminals a b x.spelled (subst (λ ts. Spells ts b) (same_terminals text y.terminals x.terminals y.are_terminals x.are_terminals) y.spelled)

-- A text has one fault at most besides out of memory, and none where it says a statement.

-- the first fault of tokens is that of more tokens after them
more_tokens : (text : List ℕ) (a b c : List Token) (fault : SqlFault) → b ≡ a ++ c → first_limit_fault [] (terminals_of text a) ≡ Some fault → first_limit_fault [] (terminals_of text b) ≡ Some fault
more_tokens text a b c fault is e =
    ap (λ l. first_limit_fault [] (terminals_of text l)) is
    ∙ ap (first_limit_fault []) (map-append (token_terminal text) a c)
    ∙ first_limit_fault-append [] (terminals_of text a) (terminals_of text c)
    ∙ ap (λ o. or_else o (first_limit_fault (terminals_of text a) (terminals_of text c))) e

-- all tokens up to where nothing may go on, within the limits
record Within (text : List ℕ) : Type 0 where
  tokens : List Token
  rest : List ℕ
  stops : Stops rest
  are : AreTokensFrom 0 text rest tokens
  within : first_limit_fault [] (terminals_of text tokens) ≡ None

never_over : (text : List ℕ) (fault : SqlFault) → Within text → IsOverLimit fault text → ⊥
never_over text fault all over =
    let front = front_of 0 text over.1 all.rest over.0 all.tokens all.stops over.2 all.are in
    let no_way = sym all.within ∙ more_tokens text over.0 all.tokens front.0 fault front.1 over.3 in
    cc

one_limit : (text : List ℕ) (f g : SqlFault) → IsOverLimit f text → IsOverLimit g text → f ≡ g
one_limit text f g a b = elim (fronts 0 text a.1 b.1 a.0 b.0 a.2 b.2) [
  | inl m ↦ same (sym (more_tokens text a.0 b.0 m.0 f m.1 a.3) ∙ b.3)
  | inr m ↦ same (sym a.3 ∙ more_tokens text b.0 a.0 m.0 g m.1 b.3)
]
  where
    same : ◌≡◌ {A = Option SqlFault} (Some f) (Some g) → f ≡ g
    same e = cc

by_terminals : (text : List ℕ) (terminals : List Terminal) → AreTerminals text terminals → Within text
by_terminals text terminals are = record { tokens = are.tokens; rest = []; stops = nothing_next; are = are.are_tokens; within = ap (first_limit_fault []) (sym are.seen) ∙ are.within_limits }

syntax_within : (text : List ℕ) → HasBadFirst text ⊎ SaysNothing text → Within text
syntax_within text (inl bad) = record { tokens = bad.0; rest = bad.1.rest; stops = bad.1.is_bad.none; are = bad.1.tokens_are; within = bad.2 }
syntax_within text (inr nothing) = by_terminals text nothing.0 nothing.1

pub no_fault : (text : List ℕ) (a : StatementTree) (fault : SqlFault) → Says text a → IsStatementFault fault text → fault ≡ faults.Memory
no_fault text a faults.TooLong says long = let short = says.short in absurd (omega (arith, short, long))
no_fault text a faults.Syntax says h = elim h.1 [
  | inl bad ↦ absurd (not_both text says.are_terminals.tokens says.are_terminals.are_tokens (bad.0, bad.1))
  | inr nothing ↦ absurd (nothing.2 a (subst (λ ts. Spells ts a) (same_terminals text says.terminals nothing.0 says.are_terminals nothing.1) says.spelled))
]
no_fault text a faults.Memory says h = refl
no_fault text a faults.TooDeep says h = absurd (never_over text faults.TooDeep (by_terminals text says.terminals says.are_terminals) h.1)
no_fault text a faults.BigNumber says h = absurd (never_over text faults.BigNumber (by_terminals text says.terminals says.are_terminals) h.1)

pub one_fault : (text : List ℕ) (a b : SqlFault) → IsStatementFault a text → IsStatementFault b text → a ≢ faults.Memory → b ≢ faults.Memory → a ≡ b
one_fault text faults.Memory b x y p q = absurd (p refl)
one_fault text a faults.Memory x y p q = absurd (q refl)
one_fault text faults.TooLong faults.TooLong x y p q = refl
one_fault text faults.TooLong faults.Syntax x y p q = absurd (omega (arith, x, y.0))
one_fault text faults.TooLong faults.TooDeep x y p q = absurd (omega (arith, x, y.0))
one_fault text faults.TooLong faults.BigNumber x y p q = absurd (omega (arith, x, y.0))
one_fault text faults.Syntax faults.TooLong x y p q = absurd (omega (arith, x.0, y))
one_fault text faults.TooDeep faults.TooLong x y p q = absurd (omega (arith, x.0, y))
one_fault text faults.BigNumber faults.TooLong x y p q = absurd (omega (arith, x.0, y))
one_fault text faults.Syntax faults.Syntax x y p q = refl
one_fault text faults.Syntax faults.TooDeep x y p q = absurd (never_over text faults.TooDeep (syntax_within text x.1) y.1)
one_fault text faults.Syntax faults.BigNumber x y p q = absurd (never_over text faults.BigNumber (syntax_within text x.1) y.1)
one_fault text faults.TooDeep faults.Syntax x y p q = absurd (never_over text faults.TooDeep (syntax_within text y.1) x.1)
one_fault text faults.BigNumber faults.Syntax x y p q = absurd (never_over text faults.BigNumber (syntax_within text y.1) x.1)
one_fault text faults.TooDeep faults.TooDeep x y p q = refl
one_fault text faults.BigNumber faults.BigNumber x y p q = refl
one_fault text faults.TooDeep faults.BigNumber x y p q = one_limit text faults.TooDeep faults.BigNumber x.1 y.1
one_fault text faults.BigNumber faults.TooDeep x y p q = one_limit text faults.BigNumber faults.TooDeep x.1 y.1
