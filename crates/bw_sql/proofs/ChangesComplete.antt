-- The parts of statements that change tables are read where they are in the grammar, and can't go on.
use Rattle.std.proofs.Common.{◌≡◌, ℕ, ◌<◌, suc, List, ◌∷◌, length, Some, None, refl, arith}
use Rattle.bw_lex.specs.declared.token.Symbol.TheVariants as s
use Rattle.bw_sql.specs.declared.terminal.Terminal.{Terminal}
use Rattle.bw_sql.specs.declared.terminal.Terminal.TheVariants as t
use Rattle.bw_sql.specs.declared.tree.LayoutChoice.{LayoutChoice}
use Rattle.bw_sql.specs.declared.tree.SetClause.{SetClause}
use Rattle.bw_sql.specs.Grammar.{ChoicePart, ListOf, SetPart, choice, set}
use Rattle.bw_sql.specs.Reading.{after_comma, choice_at, choices_at, layout_at, name_at, set_at, sets_at}
use Rattle.bw_sql.proofs.ConditionsComplete.{operand_reads, operand_shorter}
use Rattle.bw_sql.proofs.ListsComplete.{EndsColumn, close_ends, comma_ends, kind_reads, kind_shorter, list_reads, list_shorter}
use Rattle.bw_sql.proofs.WordLemmas.{layout_of-spelling}

set_reads : (ts rest : List Terminal) (x : SetClause) → SetPart ts x rest → set_at ts ≡ Some (x, rest)
unfolding set_at name_at
set_reads ts rest x (set d) = rw (operand_reads d) refl

set_shorter : (ts rest : List Terminal) (x : SetClause) → SetPart ts x rest → length rest < length ts
set_shorter ts rest x (set d) = omega (arith, operand_shorter d)

-- anything may follow
abbrev Anything : List Terminal → Type 0
Anything rest = Unit {0}

pub sets_read : {ts rest : List Terminal} {xs : List SetClause} → ListOf SetPart ts xs rest → after_comma rest ≡ None → (n : ℕ) → length ts < n → sets_at n ts ≡ Some (xs, rest)
unfolding sets_at
sets_read d stops n h = list_reads SetPart set_at Anything n (λ _. tt) (λ ts rest x e _ _. set_reads ts rest x e) set_shorter d tt stops n h h

pub sets_shorter : {ts rest : List Terminal} {xs : List SetClause} → ListOf SetPart ts xs rest → length rest < length ts
sets_shorter {ts} d = list_shorter SetPart set_at Anything (suc (length ts)) (λ _. tt) (λ ts rest x e _ _. set_reads ts rest x e) set_shorter d

choice_reads : (ts rest : List Terminal) (x : LayoutChoice) → ChoicePart ts x rest → EndsColumn rest → choice_at ts ≡ Some (x, rest)
unfolding choice_at name_at layout_at
choice_reads ts rest x (choice {word} {l} {d} {ts = us} word_part) ends = rw (layout_of-spelling l, kind_reads us rest d word_part ends) refl

choice_shorter : (ts rest : List Terminal) (x : LayoutChoice) → ChoicePart ts x rest → length rest < length ts
choice_shorter ts rest x (choice {word} {l} {d} {ts = us} word_part) = omega (arith, kind_shorter us rest d word_part)

pub choices_read : {ts rest : List Terminal} {xs : List LayoutChoice} → ListOf ChoicePart ts xs (t.Symbol s.Close ∷ rest) → (n : ℕ) → length ts < n → choices_at n ts ≡ Some (xs, t.Symbol s.Close ∷ rest)
unfolding choices_at
choices_read {ts} {rest} d n h =
    list_reads ChoicePart choice_at EndsColumn n comma_ends (λ ts rest x e ends _. choice_reads ts rest x e ends) choice_shorter d (close_ends rest) refl n h h
