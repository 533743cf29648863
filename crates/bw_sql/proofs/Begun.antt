-- A statement of which some is read.
use Rattle.std.proofs.Common.{◌≡◌, List, [], ◌∷◌}
use Rattle.bw_sql.specs.declared.terminal.Terminal.{Terminal}
use Rattle.bw_sql.specs.Grammar.{Spells}
use Rattle.bw_sql.specs.Tree.{StatementTree}

-- a statement so far, and what is left after it
abbrev pub IsStatement : List Terminal → StatementTree → List Terminal → Type 0
IsStatement ts tree rest = rest ≡ [] → Spells ts tree

-- a spelling under equal names
pub spelled : (word : Terminal) (ts us : List Terminal) (x y : StatementTree) → ts ≡ us → x ≡ y → Spells (word ∷ us) x → Spells (word ∷ ts) y
spelled word ts us x y e f d = rw (e, ← f) d
